-- A connection that is ready, and then queries: what is found of what is committed.
use Rattle.std.specs.Prelude.{◌≡◌, ◌↔◌, List, false, IfOk, IsErr, IsErrAnd, OnOk, Result, Ok, Err}
use Rattle.std.specs.declared.alloc.Global.{Global}
use Rattle.std.specs.declared.vec.Vec.{Vec}
use Rattle.std.proofs.Common.{inl, sym, ap, subst, ◌∙◌, arith}
use Rattle.sqlite.specs.Effect.{Database, IsDatabase}
use Rattle.sqlite.specs.State.{HasCleanDisk, KeepsCommit, State, Survives}
use Rattle.sqlite.specs.declared.error.Error.{Error}
use Rattle.sqlite.proofs.Callers.{unchanged_then}
use Rattle.sqlite.proofs.InsideLemmas.{keeps_then, unchanged_keeps}
use Rattle.sqlite.proofs.StateLemmas.{survives_weaker}
use Rattle.sqlite_catalog.specs.Listing.{IsSound}
use Rattle.sqlite_trees.specs.Tree.{Trees}
use Rattle.sqlite_value.specs.Order.{Row}
use Rattle.mds_tables.specs.Causes.{HasFailed}
use Rattle.mds_tables.specs.Layouts.{Layout}
use Rattle.mds_tables.specs.Queries.{Answers, QueriesOf}
use Rattle.mds_tables.specs.Stores.{FindsOf, HoldsOf, HoldsTablesOf, IsReady}
use Rattle.mds_tables.specs.Tables.{schema_with}
use Rattle.mds_tables.proofs.CauseLemmas.{failed_since}
use Rattle.mds_tables.proofs.CallLemmas.{survives_more}

pub tables_held : (layout : Layout) (s : State) → HoldsOf layout s → HoldsTablesOf layout s
tables_held layout s holds clean is_open = (holds clean is_open).schema

-- A connection was ready, what was asked of it since changed nothing, and this is known of the trees that are committed.
pub record IsSteady (layout : Layout) (old mid : State) (Known : Trees → Type 0) : Type 0 where
  pub ready : HoldsTablesOf layout old → HasCleanDisk mid → IsReady old mid
  pub quiet : HoldsTablesOf layout old → Survives old mid (λ _. ⊥)
  pub mode : mid.in_transaction ≡ false
  pub known : HoldsTablesOf layout old → HasCleanDisk mid → Known old.committed.trees

pub on_ok : {A E : Type 0} (P : Type 0) (r : Result A E) → P → OnOk r P
on_ok P (Ok x) p = p
on_ok P (Err e) p = tt

module _ {old mid : State} where
  -- where it is ready, the trees obey schema 1
  pub steady : (layout : Layout) → (HasCleanDisk mid → IsReady old mid) → Survives old mid (λ _. ⊥) → mid.in_transaction ≡ false
      → IsSteady layout old mid (IsSound (schema_with layout.more))
  steady layout ready begun mode = record {
    ready = λ _. ready;
    quiet = λ _. begun;
    mode = mode;
    known = λ held clean.
        let it = ready clean in
        let schema : old.committed.schema ≡ schema_with layout.more = held (omega (arith, begun.clean)) it.same.0.was_open in
        subst (λ s. IsSound s old.committed.trees) schema (subst IsDatabase it.settled it.sound);
  }

  -- what is made of all that is known is answered
  pub answers : {A E : Type 0} {layout : Layout} {IsHeld : State → Type 0} {Tells : Trees → A → Type 0} {Known : Trees → Type 0}
      → (IsHeld old → HoldsTablesOf layout old) → IsSteady layout old mid Known → (r : Result A E)
      → (Known old.committed.trees → IfOk r (Tells old.committed.trees)) → Answers IsHeld old mid r Tells
  answers {layout = layout} held it r tells = record {
    found = λ clean is. tells (it.known (held is) clean);
    «open» = λ clean is.
        let same = (it.ready (held is) clean).same.0 in
        on_ok _ r (record { was_open = same.was_open; is_open = same.is_open });
    kept = λ clean is. unchanged_keeps old mid (inl (it.ready (held is) clean).same);
    mode = it.mode;
    survives = λ is. it.quiet (held is);
  }

module _ {layout : Layout} {old mid new : State} {Known : Trees → Type 0} {Shows : Trees → List Row → Type 0}
    {r : Result (Vec Row Global) Error} (before : IsSteady layout old mid Known) (asked : QueriesOf layout mid new r Shows) where
  module _ (held : HoldsTablesOf layout old) where
    module _ (clean : HasCleanDisk new) where
      early : HasCleanDisk mid
      early = omega (arith, asked.survives.clean, clean)

      was_ready : IsReady old mid
      was_ready = before.ready held early

      now_is : mid.now ≡ old.committed
      now_is = was_ready.same.0.now_is ∙ was_ready.settled

      has_schema : mid.now.schema ≡ schema_with layout.more
      has_schema =
          let was_clean : HasCleanDisk old = let less = (before.quiet held).clean in let is = early in omega arith in
          ap (λ (d : Database). d.schema) now_is ∙ held was_clean was_ready.same.0.was_open

      -- what the query shows of the tables it shows of what is committed
      shows : (P : Trees → Type 0) → FindsOf layout mid new P → P old.committed.trees
      shows P finds =
          subst P (ap (λ (d : Database). d.trees) now_is)
          (finds.shows has_schema (subst IsDatabase (sym was_ready.same.0.now_is) was_ready.sound))

      still_ready : (P : Trees → Type 0) → FindsOf layout mid new P → IsReady old new
      still_ready P finds = record {
        same = unchanged_then old mid new was_ready.same (finds.same has_schema);
        settled = was_ready.settled;
        sound = was_ready.sound;
      }

      -- why the query fails is why the call does
      pub why_failed : (e : Error) → (mid.now.schema ≡ schema_with layout.more → HasFailed mid new e) → HasFailed old new e
      why_failed e h =
          let begun = before.quiet held in
          failed_since old mid new begun.counts was_ready.same.0.is_open begun.limit e (h has_schema)

    -- a crash after the query leaves what one before it left
    still_quiet : Survives old new (λ _. ⊥)
    still_quiet =
        survives_more old mid new (before.quiet held)
        (survives_weaker mid new _ (λ _. ⊥) (λ clean _ other. other (has_schema clean)) asked.survives)

-- one query later its rows are known too
pub and_then : {layout : Layout} {old mid new : State} {Known : Trees → Type 0} {Shows : Trees → List Row → Type 0} {rows : Vec Row Global}
    → IsSteady layout old mid Known → QueriesOf layout mid new (Ok rows) Shows
    → IsSteady layout old new (λ trees. Known trees × Shows trees rows.items)
and_then {Shows = Shows} {rows = rows} before asked = record {
  ready = λ held clean. still_ready before asked held clean (λ trees. Shows trees rows.items) (asked.ok clean);
  quiet = λ held. still_quiet before asked held;
  mode = asked.mode before.mode;
  known = λ held clean. (
    before.known held (omega (arith, asked.survives.clean, clean)),
    shows before asked held clean (λ trees. Shows trees rows.items) (asked.ok clean),
  );
}

-- ---- where nothing is told

-- it isn't ready
pub unready : {A E : Type 0} {IsHeld : State → Type 0} {Tells : Trees → A → Type 0} {old mid : State} → (HasCleanDisk mid → KeepsCommit old mid)
    → Survives old mid (λ _. ⊥) → mid.in_transaction ≡ false → (e : E) → Answers IsHeld old mid (Err e) Tells
unready kept begun mode e = record {
  found = λ clean is. tt;
  «open» = λ clean is. tt;
  kept = λ clean is. kept clean;
  mode = mode;
  survives = λ is. begun;
}

-- or a query isn't answered
pub unanswered : {A E : Type 0} {layout : Layout} {IsHeld : State → Type 0} {Tells : Trees → A → Type 0} {old mid new : State}
    {Known : Trees → Type 0} {Shows : Trees → List Row → Type 0} {stop : Error} → (IsHeld old → HoldsTablesOf layout old)
    → IsSteady layout old mid Known → QueriesOf layout mid new (Err stop) Shows → (e : E) → Answers IsHeld old new (Err e) Tells
unanswered {old = old} {mid = mid} {new = new} held before asked e = record {
  found = λ clean is. tt;
  «open» = λ clean is. tt;
  kept = λ clean is.
      let early : HasCleanDisk mid = omega (arith, asked.survives.clean, clean) in
      keeps_then old mid new (unchanged_keeps old mid (inl (before.ready (held is) early).same))
      (unchanged_keeps mid new (asked.err clean (has_schema before asked (held is) clean)));
  mode = asked.mode before.mode;
  survives = λ is. still_quiet before asked (held is);
}

-- so such a query refuses the call, whose exit hands on an error
pub refused : {A E : Type 0} {layout : Layout} {IsHeld : State → Type 0} {Tells : Trees → A → Type 0} {old mid new : State}
    {Known : Trees → Type 0} {Shows : Trees → List Row → Type 0} → (IsHeld old → HoldsTablesOf layout old)
    → IsSteady layout old mid Known → (q : Result (Vec Row Global) Error) → QueriesOf layout mid new q Shows → IsErr q
    → (r : Result A E) (Q : E → Type 0) → IsErrAnd r Q → Answers IsHeld old new r Tells
refused held before (Ok rows) asked failed r Q handed = absurd cc
refused held before (Err stop) asked failed (Ok x) Q handed = absurd handed
refused held before (Err stop) asked failed (Err e) Q handed = unanswered held before asked e

-- what is asked of rows is a fact of what they name
pub either_way : (P Q R : Type 0) → P ↔ Q → Q ↔ R → P ↔ R
either_way P Q R one two = ((λ p. two.0 (one.0 p)), (λ r. one.1 (two.1 r)))

-- what two facts of an answer give together
pub with_both : {X Y : Type 0} (r : Result X Y) (P Q R : X → Type 0) → ((x : X) → P x → Q x → R x) → IfOk r P → IfOk r Q → IfOk r R
with_both (Ok x) P Q R f p q = f x p q
with_both (Err y) P Q R f p q = tt
