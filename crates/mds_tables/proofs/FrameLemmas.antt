-- What calls in a transaction leave, one after another.
use Rattle.std.proofs.Common.{◌≡◌, ℕ, List, IfOk, IsTrue, OnOk, Ok, Err, Result, subst, arith}
use Rattle.std.specs.Prelude.{IsErr, MatchResult}
use Rattle.sqlite.specs.Schema.{Schema}
use Rattle.sqlite.specs.State.{HasCleanDisk, KeepsCommit, State, Survives}
use Rattle.sqlite.specs.declared.error.Error.{Error}
use Rattle.sqlite.proofs.InsideLemmas.{keeps_then}
use Rattle.sqlite_value.specs.Order.{Row}
use Rattle.mds_keeper.specs.declared.additions.Additions.{Additions}
use Rattle.mds_tables.proofs.CallLemmas.{keeps_same, survives_more, survives_same}
use Rattle.mds_tables.specs.Frames.{Frames, IsAt, Moves}
use Rattle.mds_tables.specs.Parts.{Part}
use Rattle.mds_tables.specs.Refusals.{TakesAll}
use Rattle.mds_tables.specs.Writing.{Changes, Puts, PutsEach, PutsRestThere, PutsThere}
use Rattle.mds_tables.specs.declared.jobs.JobRow.{JobRow}
use Rattle.mds_tables.specs.declared.periods.PeriodRow.{PeriodRow}

if_so : {X E : Type 0} (r : Result X E) (P Q : X → Type 0) → ((x : X) → P x → Q x) → IfOk r P → IfOk r Q
if_so (Ok x) P Q f h = f x h
if_so (Err e) P Q f h = tt

on_so : {X E : Type 0} (r : Result X E) (P Q : Type 0) → (P → Q) → OnOk r P → OnOk r Q
on_so (Ok x) P Q f h = f h
on_so (Err e) P Q f h = tt

-- ---- one call after another

-- one call was Ok, and another follows
pub frames_then : {X Y E F : Type 0} {s t u : Schema} {P : X → Type 0} {Q R : Y → Type 0} {a b c : State} {x : X} {r : Result Y F}
    → (HasCleanDisk c → IsAt s a → IsAt t b → (y : Y) → P x → Q y → R y) → Moves {E = E} s t P a b (Ok x) → Moves t u Q b c r → Moves s u R a c r
frames_then {X} {Y} {E} {F} {s} {t} {u} {P} {Q} {R} {a} {b} {c} {x} {r} goes first next =
    let early : HasCleanDisk c → HasCleanDisk b = λ clean. omega (arith, clean, next.survives.clean) in
    record {
      was_open = λ clean o. on_so r (IsTrue b.is_open) (IsTrue a.is_open) (first.was_open (early clean)) (next.was_open clean o);
      is_open = λ clean o. next.is_open clean (first.is_open (early clean) o);
      inside = λ clean o. next.inside clean (first.inside (early clean) o);
      done = λ clean at.
          let one = first.done (early clean) at in
          if_so r (λ y. IsAt u c × Q y) (λ y. IsAt u c × R y) (λ y two. (two.0, goes clean at one.0 y one.1 two.1)) (next.done clean one.0);
      kept = λ clean at. keeps_then a b c (first.kept (early clean) at) (next.kept clean (first.done (early clean) at).0);
      survives = survives_more a b c first.survives next.survives;
    }

-- both do what they do
pub frames_both : {X Y E F : Type 0} {s t u : Schema} {P : X → Type 0} {Q : Y → Type 0} {a b c : State} {x : X} {r : Result Y F}
    → Moves {E = E} s t P a b (Ok x) → Moves t u Q b c r → Moves s u (λ y. P x × Q y) a c r
frames_both {X} {Y} {E} {F} {s} {t} {u} {P} {Q} {a} {b} {c} {x} {r} first next = frames_then {R = λ y. P x × Q y} (λ _ _ _ y p q. (p, q)) first next

-- what is done is told in other words
pub frames_as : {Y F : Type 0} {s t : Schema} {Q R : Y → Type 0} {a c : State} {r : Result Y F}
    → (IsAt s a → (y : Y) → Q y → R y) → Moves s t Q a c r → Moves s t R a c r
frames_as {Y} {F} {s} {t} {Q} {R} {a} {c} {r} goes all = record {
  was_open = all.was_open;
  is_open = all.is_open;
  inside = all.inside;
  done = λ clean at. if_so r (λ y. IsAt t c × Q y) (λ y. IsAt t c × R y) (λ y it. (it.0, goes at y it.1)) (all.done clean at);
  kept = all.kept;
  survives = all.survives;
}

-- and of another value
pub frames_so : {X Y E F : Type 0} {s t : Schema} {P : X → Type 0} {R : Y → Type 0} {a b : State} {x : X} {y : Y}
    → (HasCleanDisk b → IsAt s a → IsAt t b → P x → R y) → Moves {E = E} s t P a b (Ok x) → Moves {E = F} s t R a b (Ok y)
frames_so {X} {Y} {E} {F} {s} {t} {P} {R} {a} {b} {x} {y} goes all = record {
  was_open = all.was_open;
  is_open = all.is_open;
  inside = all.inside;
  done = λ clean at.
      let it = all.done clean at in
      (it.0, goes clean at it.0 it.1);
  kept = all.kept;
  survives = all.survives;
}

-- no call was made yet
pub frames_none : {X E : Type 0} {under : Schema} {Done : X → Type 0} {x : X} (s : State) → (HasCleanDisk s → IsAt under s → Done x)
    → Frames {E = E} under Done s s (Ok x)
frames_none {X} {E} {under} {Done} {x} s done = record {
  was_open = λ _ o. o;
  is_open = λ _ o. o;
  inside = λ _ o. o;
  done = λ clean at. (at, done clean at);
  kept = λ _ _. keeps_same s;
  survives = survives_same s;
}

-- ---- where one fails

-- an error, which only keeps the commit
pub frames_err : {Y F : Type 0} {s t : Schema} {R : Y → Type 0} {a b : State} {f : F} → (HasCleanDisk b → IsAt s a → KeepsCommit a b)
    → Survives a b (λ _. ⊥) → Moves s t R a b (Err f)
frames_err {Y} {F} {s} {t} {R} {a} {b} {f} kept survives = record {
  was_open = λ _ _. tt;
  is_open = λ _ _. tt;
  inside = λ _ _. tt;
  done = λ _ _. tt;
  kept = kept;
  survives = survives;
}

-- the same at an exit of `?`
pub frames_failed : {Y F : Type 0} {s t : Schema} {R : Y → Type 0} {a b : State} (r : Result Y F) → IsErr r
    → (HasCleanDisk b → IsAt s a → KeepsCommit a b) → Survives a b (λ _. ⊥) → Moves s t R a b r
frames_failed {Y} {F} {s} {t} {R} {a} {b} (Ok y) failed kept survives = absurd cc
frames_failed {Y} {F} {s} {t} {R} {a} {b} (Err f) failed kept survives = frames_err kept survives

-- the last call failed, and nothing follows
pub frames_stop : {X Y E F : Type 0} {s t u : Schema} {P : X → Type 0} {R : Y → Type 0} {a b : State} {q : Result X E} (r : Result Y F) → IsErr r
    → Moves s t P a b q → Moves s u R a b r
frames_stop r failed last = frames_failed r failed last.kept last.survives

-- nothing was called before an error
pub frames_refused : {Y F : Type 0} {s t : Schema} {R : Y → Type 0} (a : State) (r : Result Y F) → IsErr r → Moves s t R a a r
frames_refused a r failed = frames_failed r failed (λ _ _. keeps_same a) (survives_same a)

-- an answer is passed on with another error
pub frames_passed : {X E F : Type 0} {s t : Schema} {P : X → Type 0} {a b : State} (u : Result X F) (r : Result X E)
    → MatchResult u (λ x. r ≡ Ok x) (λ _. IsErr r) → Moves s t P a b r → Moves s t P a b u
frames_passed {X} {E} {F} {s} {t} {P} {a} {b} (Ok x) r is all =
    let it = subst (λ (q : Result X E). Moves s t P a b q) is all in
    record { was_open = it.was_open; is_open = it.is_open; inside = it.inside; done = it.done; kept = it.kept; survives = it.survives }
frames_passed {X} {E} {F} {s} {t} {P} {a} {b} (Err f) r is all = frames_err all.kept all.survives

-- ---- calls that put rows

-- things of one kind are put
pub frames_put : {X E A : Type 0} {under : Schema} {part : Part A} {a b : State} {items : List A} (r : Result X E)
    → OnOk r (PutsThere under part a b items) → (HasCleanDisk b → KeepsCommit a b) → Survives a b (λ _. ⊥)
    → Frames under (λ _. Puts under part a b items) a b r
frames_put {X} {E} {A} {under} {part} {a} {b} {items} (Ok x) put kept survives = record {
  was_open = put.was_open;
  is_open = put.is_open;
  inside = put.inside;
  done = λ clean at.
      let it = put.puts clean at.is_open at.schema at.sound in
      (record { is_open = put.is_open clean at.is_open; schema = it.schema; sound = it.sound }, it);
  kept = λ clean _. kept clean;
  survives = survives;
}
frames_put {X} {E} {A} {under} {part} {a} {b} {items} (Err e) put kept survives = frames_err (λ clean _. kept clean) survives

-- the same with the statements that were taken
pub frames_each : {X A : Type 0} {under : Schema} {part : Part A} {puts : List (ℕ × List Row)} {a b : State} {items : List A} (r : Result X Error)
    → PutsEach under part puts a b r items → Frames under (λ _. Puts under part a b items × TakesAll a.step_limit puts a.now b.now) a b r
frames_each {X} {A} {under} {part} {puts} {a} {b} {items} (Ok x) put =
    let all : Frames {X = X} {E = Error} under (λ _. Puts under part a b items) a b (Ok x) = frames_put (Ok x) put.ok put.kept put.survives in
    record {
      was_open = all.was_open;
      is_open = all.is_open;
      inside = all.inside;
      done = λ clean at.
          let it = all.done clean at in
          (it.0, (it.1, put.took clean at.schema (record { is_open = at.is_open; sound = at.sound })));
      kept = all.kept;
      survives = all.survives;
    }
frames_each {X} {A} {under} {part} {puts} {a} {b} {items} (Err e) put = frames_err (λ clean _. put.kept clean) put.survives

-- what follows heads, versions and details is put
pub frames_rest : {X : Type 0} {under : Schema} {puts : List (ℕ × List Row)} {a b : State} {additions : Additions} {periods : List PeriodRow}
    {jobs : List JobRow} (r : Result X Error) → Changes under (PutsRestThere under a b additions periods jobs) puts a b r
    → Frames under (λ _. PutsRestThere under a b additions periods jobs) a b r
frames_rest {X} {under} {puts} {a} {b} {additions} {periods} {jobs} (Ok x) put =
    let there = put.ok in
    record {
      was_open = there.was_open;
      is_open = there.is_open;
      inside = there.inside;
      done = λ clean at.
          let it = there.puts clean at.is_open at.schema at.sound in
          (record { is_open = there.is_open clean at.is_open; schema = it.schema; sound = it.sound }, there);
      kept = λ clean _. put.kept clean;
      survives = put.survives;
    }
frames_rest {X} {under} {puts} {a} {b} {additions} {periods} {jobs} (Err e) put = frames_err (λ clean _. put.kept clean) put.survives
