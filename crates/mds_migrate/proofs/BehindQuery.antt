-- Rows that are put behind a query, which changes nothing.
use Rattle.std.proofs.Common.{◌≡◌, List, map, subst, ◌∙◌}
use Rattle.sqlite.specs.Effect.{Database}
use Rattle.sqlite.specs.State.{State}
use Rattle.sqlite_schema.specs.declared.schema.Schema.{Schema}
use Rattle.mds_tables.specs.Stores.{Gains}
use Rattle.mds_tables.specs.Parts.{Part}
use Rattle.mds_tables.specs.Writing.{KeepsOthers, Puts}

pub puts_since : {A : Type 0} (under : Schema) (part : Part A) (a b c : State) → b.now ≡ a.now → b.committed ≡ a.committed → (items : List A)
    → Puts under part b c items → Puts under part a c items
puts_since under part a b c now committed items puts = record {
  schema = puts.schema;
  rows = subst (λ (d : Database). Gains part.tree (map part.cells items) d.trees c.now.trees) now puts.rows;
  others = subst (λ (d : Database). KeepsOthers part.tree d.trees c.now.trees under.tables) now puts.others;
  committed = puts.committed ∙ committed;
  sound = puts.sound;
}
