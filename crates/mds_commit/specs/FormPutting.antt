-- What statements on mds_form do in a transaction, and what a commit leaves (profile).
use Rattle.std.specs.Prelude.{◌≡◌, List, [], map}
use Rattle.sqlite_trees.specs.Tree.{Trees}
use Rattle.sqlite_value.specs.Order.{Row}
use Rattle.mds_world.specs.Facts.{head_at}
use Rattle.mds_world.specs.Facts.Fact.{HeadIs}
use Rattle.mds_world.specs.Lists.{Member}
use Rattle.mds_world.specs.declared.facts.Head.{Head}
use Rattle.mds_world.specs.declared.facts.StreamDay.{StreamDay}
use Rattle.mds_keeper.specs.Content.{details_of, heads_of, version_fact, versions_of}
use Rattle.mds_tables.specs.Cells.{detail_cells, form_cells, unit_cells}
use Rattle.mds_tables.specs.RowFacts.{text_at, unit_named}
use Rattle.mds_tables.specs.Stores.{Gained, Gains}
use Rattle.mds_tables.specs.Tables.{daydetail_tree, form_tree, head_tree}
use Rattle.mds_tables.specs.Parts.{Part}
use Rattle.mds_tables.specs.Writing.{Keeps}
use Rattle.mds_pack_rows.specs.Current.{after_forms}
use Rattle.mds_pack_rows.specs.FormLayout.{day_in, form_fact}
use Rattle.mds_pack_rows.specs.Putting.{NamesMore}

-- A head, kept as a row of mds_form. The row doesn't say its unit: here it is the unit of the empty text.
abbrev pub form_part : Part Head
form_part = record {
  place = 10;
  tree = form_tree;
  cells = form_cells;
  fact = λ h. HeadIs (head_at h.stream h.day h.update h.length (unit_named []));
  read = form_fact [];
}

-- the day of a head
abbrev pub day_of : Head → StreamDay
day_of head = record { stream = head.stream; day = head.day }

-- Each row of mds_head on the day of one of these heads says its unit.
abbrev pub SayUnits : List Head → Trees → Type 0
SayUnits heads trees =
    (head : Head) → Member head heads → (row : Row) → Member row (trees head_tree) → day_in row ≡ day_of head → unit_named (text_at row 5) ≡ head.unit

-- Each new day has a row in mds_head, and each head one in mds_form. The versions are in mds_pack, and the details of each day
-- have a row in mds_daydetail. All of these are in addition to what was there. A table that follows mds_form is as it was.
abbrev pub GainsForms : Gained
GainsForms old new additions =
    Gains head_tree (map unit_cells additions.new_days.items) old new
    × Gains form_tree (map form_cells (heads_of additions)) old new
    × NamesMore old new (map version_fact (versions_of additions.days.items))
    × Gains daydetail_tree (map detail_cells (details_of additions.details.items)) old new
    × Keeps old new after_forms.tables
