-- What giving each update of a day a head does, in a transaction (profile).
use Rattle.std.specs.Prelude.{◌≡◌, ◌↔◌, ℕ, List, ◌∷◌, map}
use Rattle.std.specs.declared.cmp.Ordering.TheVariants.{Less}
use Rattle.sqlite.specs.State.{State}
use Rattle.sqlite.specs.declared.types.Value.TheVariants.{Null}
use Rattle.sqlite_trees.specs.Tree.{Trees}
use Rattle.sqlite_value.specs.Order.{Row}
use Rattle.mds_marks.specs.Reading.{ReadingValue}
use Rattle.mds_world.specs.Facts.{head_at}
use Rattle.mds_world.specs.Facts.Fact.{HeadIs, VersionIs}
use Rattle.mds_world.specs.Lists.{Member}
use Rattle.mds_world.specs.StreamDays.{stream_day_cmp}
use Rattle.mds_world.specs.World.{key_under}
use Rattle.mds_world.specs.declared.facts.Head.{Head}
use Rattle.mds_tables.specs.RowFacts.{head_fact, heads_in, natural_at, text_at}
use Rattle.mds_tables.specs.Tables.{head_tree}
use Rattle.mds_tables.specs.Writing.{Puts}
use Rattle.mds_pack_rows.specs.DayRows.{shown_facts}
use Rattle.mds_pack_rows.specs.FormLayout.{day_in}
use Rattle.mds_pack_rows.specs.FormTables.{schema_4}
use Rattle.mds_pack_rows.specs.PackFacts.{pack_versions}
use Rattle.mds_commit.specs.FormPutting.{form_part}
use Rattle.mds_migrate.specs.OldHeads.{updateless}

-- the head of a day under the update that a row of mds_pack shows
abbrev pub form_of : Head → Row → Head
form_of head pack = head_at head.stream head.day (natural_at pack 0) head.length head.unit

-- a row of mds_pack, of the head's day, says a version of the head's length
abbrev pub SaysForm : Head → Row → Type 0
SaysForm head pack =
    (interval : ℕ) × (reading : ReadingValue)
    × Member (VersionIs (key_under (form_of head pack) interval) reading) (shown_facts head.stream head.day pack)

-- The heads of a day under the updates that rows of mds_pack show are put into mds_form, as the transaction sees it. Each row says a
-- version of the day's length.
pub record PutsForms (old new : State) (head : Head) (packs : List Row) : Type 0 where
  pub puts : Puts schema_4 form_part old new (map (form_of head) packs)
  pub says : (pack : Row) → Member pack packs → SaysForm head pack

-- mds_pack says a version under the head
abbrev pub IsPackedUnder : Trees → Head → Type 0
IsPackedUnder trees head = (interval : ℕ) × (reading : ReadingValue) × Member (VersionIs (key_under head interval) reading) (pack_versions trees)

-- the head is one of the day that a row of heads shows, and mds_pack says a version under it
abbrev pub IsFormOfDay : Trees → Row → Head → Type 0
IsFormOfDay trees shown head = (head_fact (Null ∷ shown) ≡ HeadIs (updateless head)) × IsPackedUnder trees head

-- these are the heads of the days that rows of heads show
abbrev pub AreFormsOf : Trees → List Row → List Head → Type 0
AreFormsOf trees days heads = (head : Head) → Member head heads ↔ ((day : Row) × Member day days × IsFormOfDay trees day head)

-- The heads of the days that rows of heads show are put into mds_form, as the transaction sees it.
pub record FormsDays (old new : State) (days : List Row) : Type 0 where
  pub heads : List Head
  pub puts : Puts schema_4 form_part old new heads
  pub are : AreFormsOf old.now.trees days heads

-- a row of heads shows an earlier day than another one, by stream and then by day
abbrev pub IsBefore : Row → Row → Type 0
IsBefore a b = stream_day_cmp (day_in (Null ∷ a)) (day_in (Null ∷ b)) ≡ Less

-- all rows of a day say one unit
abbrev pub SayOneUnit : List Row → Type 0
SayOneUnit rows = (a b : Row) → Member a rows → Member b rows → day_in a ≡ day_in b → text_at a 5 ≡ text_at b 5

-- mds_form has a row for each head of a day that mds_head says, under an update of which mds_pack says a version. Every other table is as
-- it was. No day had two units.
pub record Forms (old new : State) : Type 0 where
  pub heads : List Head
  pub puts : Puts schema_4 form_part old new heads
  pub are : (head : Head) → Member head heads ↔ (Member (HeadIs (updateless head)) (heads_in old.now.trees) × IsPackedUnder old.now.trees head)
  pub units : SayOneUnit (old.now.trees head_tree)
