-- The current schema and its layout (profile): those that `init` makes and `migrate` ends in. Whatever isn't about one schema by its
-- number says `current`. A further schema is named here, and there alone.
use Rattle.std.specs.Prelude.{◌≤◌, ℕ, List}
use Rattle.std.specs.List.{AllByRecursion}
use Rattle.sqlite.specs.Schema.{Schema}
use Rattle.sqlite.specs.Table.{Table}
use Rattle.sqlite_trees.specs.Tree.{Trees}
use Rattle.mds_world.specs.World.{World}
use Rattle.mds_tables.specs.Layouts.{Layout}
use Rattle.mds_tables.specs.Tables.{More, no_more}
use Rattle.mds_pack_rows.specs.FormLayout.{forms_behind, forms_layout, forms_packs, world_4}
use Rattle.mds_pack_rows.specs.FormTables.{formed, forms, schema_4, tables_4}
use Rattle.mds_pack_rows.specs.PackTables.{Behind}
use Rattle.mds_pack_rows.specs.PacksLayout.{HasPacks}

-- what follows the tables that every schema has
abbrev pub current_more : More
current_more = formed

abbrev pub current_tables : List Table
current_tables = tables_4

abbrev pub current_schema : Schema
current_schema = schema_4

abbrev pub current_layout : Layout
current_layout = forms_layout

-- what follows mds_pack, and that the layout has it
abbrev pub current_behind : Behind
current_behind = forms_behind

abbrev pub current_packs : HasPacks current_layout
current_packs = forms_packs

-- what follows mds_daydetail, and what follows mds_form
abbrev pub after_details : More
after_details = forms

abbrev pub after_forms : More
after_forms = no_more

-- how many trees the tables up to mds_form, and the indexes of their keys, take; those that follow it have other ones
abbrev pub trees_formed : ℕ
trees_formed = 22

pub after_forms_behind : AllByRecursion (λ (table : Table). trees_formed ≤ table.tree) after_forms.tables
after_forms_behind = tt

-- the World that the rows of the tables name
abbrev pub current_world : Trees → World
current_world = world_4
