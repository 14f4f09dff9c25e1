-- What packing the versions of days does, in a transaction (profile).
use Rattle.std.specs.Prelude.{◌≡◌, ◌↔◌, List, ◌∷◌}
use Rattle.sqlite.specs.State.{State}
use Rattle.sqlite.specs.declared.types.Value.TheVariants.{Null}
use Rattle.sqlite_trees.specs.Tree.{Trees}
use Rattle.sqlite_value.specs.Order.{Row}
use Rattle.mds_quantity.specs.declared.unit.Unit.{Unit as MeasureUnit}
use Rattle.mds_world.specs.Facts.{Fact}
use Rattle.mds_world.specs.Facts.Fact.{HeadIs, VersionIs}
use Rattle.mds_world.specs.Lists.{Member}
use Rattle.mds_tables.specs.RowFacts.{head_fact, versions_in}
use Rattle.mds_pack_rows.specs.Putting.{ChangesPacks, NamesMore}
use Rattle.mds_migrate.specs.OldLengths.{day_head, erased}

-- the fact is a version of the day and of the length that a row of heads shows
abbrev pub IsUnder : Row → Fact → Type 0
IsUnder shown (VersionIs key reading) = (unit : MeasureUnit) × (head_fact (Null ∷ shown) ≡ HeadIs (day_head key unit))
IsUnder shown fact = ⊥

-- these are the versions that mds_version says of the days that rows of heads show, each with the length of that head
abbrev pub AreOfDays : Trees → List Row → List Fact → Type 0
AreOfDays trees heads facts =
    (f : Fact) → Member f facts ↔ (Member (erased f) (versions_in trees) × ((head : Row) × Member head heads × IsUnder head f))

-- The versions of the days that rows of heads show are put into mds_pack, as the transaction sees it.
pub record PacksDays (old new : State) (heads : List Row) : Type 0 where
  pub facts : List Fact
  pub puts : ChangesPacks old new × NamesMore old.now.trees new.now.trees facts
  pub are : AreOfDays old.now.trees heads facts
