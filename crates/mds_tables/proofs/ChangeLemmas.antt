-- Calls that put rows, one after another.
use Rattle.std.proofs.Common.{◌≡◌, ◌++◌, ℕ, false, List, [], IfErr, IsTrue, Ok, Err, Result, refl, subst, arith}
use Rattle.sqlite.specs.Schema.{Schema}
use Rattle.sqlite.specs.State.{ExecutesInside, HasCleanDisk, State, Survives}
use Rattle.sqlite.specs.declared.error.Error.{Error}
use Rattle.sqlite.proofs.InsideLemmas.{keeps_then}
use Rattle.sqlite_value.specs.Order.{Row}
use Rattle.mds_tables.proofs.CallLemmas.{keeps, keeps_same, survives_more, survives_same}
use Rattle.mds_tables.specs.Parts.{Part}
use Rattle.mds_tables.specs.Refusals.{FailsToPut, TakesAll}
use Rattle.mds_tables.specs.Writing.{Changes, IsFit, PutsEach}
use Rattle.mds_tables.proofs.PutLemmas.{fails_later, fails_more, if_ok, none_there, takes_then, there_then}

if_err : {X E : Type 0} (r : Result X E) (P Q : E → Type 0) → ((e : E) → P e → Q e) → IfErr r P → IfErr r Q
if_err (Ok x) P Q f h = tt
if_err (Err e) P Q f h = f e h

-- ---- a statement that puts rows

module _ {under : Schema} {Done : Type 0} {puts : List (ℕ × List Row)} {old new : State} (sql : List ℕ) (params : Row) (ran : Result ℕ Error)
    (over : old.in_transaction ≡ false → new ≡ old) (runs : HasCleanDisk new → IsTrue old.in_transaction → ExecutesInside 0 sql params old new ran)
    (survives : Survives old new (λ _. ⊥)) where
  pub rows_put : Done → (HasCleanDisk new → old.now.schema ≡ under → TakesAll old.step_limit puts old.now new.now)
      → Changes {X = Unit {0}} under Done puts old new (Ok tt)
  rows_put done took = record {
    ok = done;
    took = λ clean has fit. took clean has;
    cause = λ clean inside has fit. tt;
    kept = λ clean. keeps old new sql params ran over (runs clean);
    survives = survives;
  }

  pub rows_fail : {e : Error} → (HasCleanDisk new → IsTrue old.in_transaction → old.now.schema ≡ under → FailsToPut old new puts old.now e)
      → Changes {X = Unit {0}} under Done puts old new (Err e)
  rows_fail fails = record {
    ok = tt;
    took = λ clean has fit. tt;
    cause = λ clean inside has fit. fails clean inside has;
    kept = λ clean. keeps old new sql params ran over (runs clean);
    survives = survives;
  }

-- ---- one call after another

pub none_put : {under : Schema} {A : Type 0} {part : Part A} (a : State) → PutsEach {X = Unit {0}} under part [] a a (Ok tt) []
none_put {under} {A} {part} a = record {
  ok = none_there under part a;
  took = λ clean has fit. refl;
  cause = λ clean inside has fit. tt;
  kept = λ clean. keeps_same a;
  survives = survives_same a;
}

-- a statement fails, and those behind it aren't tried
pub stopped : {under : Schema} {Done Meant X Y : Type 0} {puts : List (ℕ × List Row)} {a b : State} {e : Error} (more : List (ℕ × List Row))
    → Changes {X = X} under Done puts a b (Err e) → Changes {X = Y} under Meant (puts ++ more) a b (Err e)
stopped {under} {Done} {Meant} {X} {Y} {puts} {a} {b} {e} more put = record {
  ok = tt;
  took = λ clean has fit. tt;
  cause = λ clean inside has fit. fails_more a b puts more a.now e (put.cause clean inside has fit);
  kept = put.kept;
  survives = put.survives;
}

module _ {under : Schema} {A : Type 0} {part : Part A} {fronts : List (ℕ × List Row)} {a b : State} {xs : List A}
    (front : PutsEach {X = Unit {0}} under part fronts a b (Ok tt) xs) where
  -- things of one kind are put, and then others are or aren't
  pub behind : {Done Meant X : Type 0} {puts : List (ℕ × List Row)} {c : State} {r : Result X Error} → (Done → Meant)
      → Changes under Done puts b c r → Changes under Meant (fronts ++ puts) a c r
  behind {Done} {Meant} {X} {puts} {c} {r} goes next =
      let early : HasCleanDisk c → HasCleanDisk b = λ clean. omega (arith, clean, next.survives.clean) in
      let there : HasCleanDisk c → IsFit under a → a.now.schema ≡ under → (b.now.schema ≡ under) × IsFit under b =
      λ clean fit has.
      let put = front.ok.puts (early clean) fit.is_open has fit.sound in
      (put.schema, record { is_open = front.ok.is_open (early clean) fit.is_open; sound = put.sound }) in
      record {
        ok = if_ok r Done Meant goes next.ok;
        took = λ clean has fit.
            let now = there clean fit has in
            if_ok r _ _ (λ takes. takes_then a.step_limit fronts puts a.now b.now c.now (front.took (early clean) has fit)
            (rw front.survives.limit at takes))
            (next.took clean now.0 now.1);
        cause = λ clean inside has fit.
            let now = there clean fit has in
            if_err r _ _ (λ e fails. fails_later a b c fronts puts e front.survives.counts now.1.is_open front.survives.limit
            (front.took (early clean) has fit) fails)
            (next.cause clean (front.ok.inside (early clean) inside) now.0 now.1);
        kept = λ clean. keeps_then a b c (front.kept (early clean)) (next.kept clean);
        survives = survives_more a b c front.survives next.survives;
      }

  -- the same, where the others are of this kind
  pub more_put : {X : Type 0} {puts all : List (ℕ × List Row)} {ys items : List A} {c : State} {r : Result X Error} → xs ++ ys ≡ items
      → fronts ++ puts ≡ all → PutsEach under part puts b c r ys → PutsEach under part all a c r items
  more_put {X} {puts} {all} {ys} {items} {c} {r} whole every next =
      subst (λ ps. PutsEach under part ps a c r items) every
      (subst (PutsEach under part (fronts ++ puts) a c r) whole (behind (there_then under part a b c xs ys next.survives.clean front.ok) next))

  -- the next of them fails, and those behind it aren't tried
  pub more_stopped : {X Y Done Meant : Type 0} {puts all : List (ℕ × List Row)} {c : State} {e : Error} (rest : List (ℕ × List Row))
      → fronts ++ (puts ++ rest) ≡ all → Changes {X = X} under Done puts b c (Err e) → Changes {X = Y} under Meant all a c (Err e)
  more_stopped {X} {Y} {Done} {Meant} {puts} {all} {c} {e} rest every next =
      subst (λ ps. Changes {X = Y} under Meant ps a c (Err e)) every (behind {Done = Meant} (λ done. done) (stopped rest next))
