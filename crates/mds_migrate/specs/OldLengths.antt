-- What rows of mds_version say in schema 1 (profile): versions without a length. In schema 2 each has the length of its day's head.
use Rattle.mds_quantity.specs.declared.unit.Unit.{Unit as MeasureUnit}
use Rattle.mds_world.specs.Facts.{Fact}
use Rattle.mds_world.specs.Facts.Fact.{HeadIs, VersionIs}
use Rattle.mds_world.specs.Sets.{◌∈◌}
use Rattle.mds_world.specs.World.{World, head_over}
use Rattle.mds_world.specs.declared.facts.Head.{Head}
use Rattle.mds_world.specs.declared.facts.Key.{Key}
use Rattle.mds_tables.specs.RowFacts.{lengthless}
use Rattle.mds_migrate.specs.OldHeads.{updateless}

-- a fact of schema 1, which says no length of a version
abbrev pub erased : Fact → Fact
erased (VersionIs key reading) = VersionIs (lengthless key) reading
erased fact = fact

-- the head of a version's day, which says no update
abbrev pub day_head : Key → MeasureUnit → Head
day_head key unit = updateless (head_over key unit)

-- what comes of a World of schema 1: each version takes the length of its day's head, and all else is as it was
abbrev pub CameOf : World → Fact → Type 0
CameOf w (VersionIs key reading) =
    (erased (VersionIs key reading) ∈ w) × ((unit : MeasureUnit) × (HeadIs (day_head key unit) ∈ w))
CameOf w fact = fact ∈ w
