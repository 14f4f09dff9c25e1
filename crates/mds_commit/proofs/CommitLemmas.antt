-- Where a transaction begins that puts heads, versions, details and the rest.
use Rattle.std.proofs.Common.{◌≡◌, ◌≤◌, true, sym, ap, subst, ◌∙◌, arith}
use Rattle.sqlite.specs.Effect.{Database, IsDatabase}
use Rattle.sqlite.specs.State.{HasCleanDisk, State, Survives}
use Rattle.sqlite_catalog.specs.Listing.{IsSound}
use Rattle.sqlite_trees.specs.View.{doubt}
use Rattle.mds_tables.specs.Stores.{HoldsOf, IsReady}
use Rattle.mds_tables.specs.Frames.{IsAt}
use Rattle.mds_pack_rows.specs.Current.{current_layout, current_schema}

-- where a transaction begins the tables are those that there were
pub at_begun : (a b : State) → b ≡ record a { in_transaction = true } → IsAt current_schema a → IsAt current_schema b
at_begun a b begun at = subst (IsAt current_schema) (sym begun) (record { is_open = at.is_open; schema = at.schema; sound = at.sound })

-- and where a connection is ready over a store
pub at_ready : (a b c : State) → (HasCleanDisk b → IsReady a b) → Survives a b (λ _. ⊥) → doubt b.is_clean ≤ doubt c.is_clean
    → HoldsOf current_layout a → HasCleanDisk c → IsAt current_schema b
at_ready a b c ready begun later holds clean =
    let it = ready (omega (arith, clean, later)) in
    let was : HasCleanDisk a = omega (arith, clean, later, begun.clean) in
    let schema : b.now.schema ≡ current_schema =
    ap (λ (d : Database). d.schema) (it.same.0.now_is ∙ it.settled) ∙ (holds was it.same.0.was_open).schema in
    record {
      is_open = it.same.0.is_open;
      schema = schema;
      sound = subst (λ schema. IsSound schema b.now.trees) schema (subst IsDatabase (sym it.same.0.now_is) it.sound);
    }
