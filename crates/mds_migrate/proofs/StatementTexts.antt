-- What the texts of the statements that leave a schema behind mean, whatever tables stand behind mds_pack.
use Rattle.std.proofs.Common.{◌≡◌, List, ℕ, pos, [], ◌∷◌, codes, refl, false}
use Rattle.sqlite.specs.Command.TheVariants.{Delete, Select, Update}
use Rattle.sqlite.specs.Listing.{reads_listing, understood}
use Rattle.sqlite.specs.Query.{Query}
use Rattle.sqlite.specs.Term.{Term, col, lit}
use Rattle.sqlite.specs.declared.types.Value.TheVariants.{Int}
use Rattle.sqlite.proofs.Callers.{IsPlain, command_of}
use Rattle.sqlite_tied.specs.Compute.{everything}
use Rattle.mds_tables.specs.Tables.{More, detail_tree, head_tree, schema_tree, schema_with, version_tree}
use Rattle.mds_tables.proofs.SelectTexts.{columns_at, equals, from_one}
use Rattle.mds_pack_rows.specs.PackTables.{packs_then}

-- ---- all rows of a table are taken away

-- each row, by its rowid
abbrev pub delete_query : ℕ → Query
delete_query tree = from_one tree [] (col 1 0 ∷ []) []

-- the place of mds_version among the tables
abbrev pub version_place : ℕ
version_place = 2

abbrev pub delete_versions : List ℕ
delete_versions = codes "DELETE FROM mds_version"

pub delete_versions_is : (rest : More) → command_of (understood (schema_with (packs_then rest)) delete_versions) ≡ Delete version_place (record { lets = []; body = delete_query version_tree })
unfolding understood everything
delete_versions_is rest = refl

pub delete_versions_plain : (rest : More) → IsPlain (understood (schema_with (packs_then rest)) delete_versions)
unfolding understood everything
delete_versions_plain rest = (refl, refl)

-- the place of mds_detail among the tables
abbrev pub detail_place : ℕ
detail_place = 3

abbrev pub delete_details : List ℕ
delete_details = codes "DELETE FROM mds_detail"

pub delete_details_is : (rest : More) → command_of (understood (schema_with (packs_then rest)) delete_details) ≡ Delete detail_place (record { lets = []; body = delete_query detail_tree })
unfolding understood everything
delete_details_is rest = refl

pub delete_details_plain : (rest : More) → IsPlain (understood (schema_with (packs_then rest)) delete_details)
unfolding understood everything
delete_details_plain rest = (refl, refl)

-- ---- the rows that are left

abbrev pub slot_columns : List ℕ
slot_columns = 4 ∷ []

abbrev pub select_slots : List ℕ
select_slots = codes "SELECT slot FROM mds_version"

abbrev pub slots_query : Query
slots_query = from_one version_tree [] (columns_at slot_columns) []

pub select_slots_is : (rest : More) → command_of (understood (schema_with (packs_then rest)) select_slots) ≡ Select (record { lets = []; body = slots_query }) (codes "slot" ∷ [])
unfolding understood everything
select_slots_is rest = refl

pub select_slots_plain : (rest : More) → IsPlain (understood (schema_with (packs_then rest)) select_slots) × (reads_listing (schema_with (packs_then rest)) select_slots ≡ false)
unfolding understood everything
select_slots_plain rest = ((refl, refl), refl)

abbrev pub moment_columns : List ℕ
moment_columns = 3 ∷ []

abbrev pub select_moments : List ℕ
select_moments = codes "SELECT moment FROM mds_detail"

abbrev pub moments_query : Query
moments_query = from_one detail_tree [] (columns_at moment_columns) []

pub select_moments_is : (rest : More) → command_of (understood (schema_with (packs_then rest)) select_moments) ≡ Select (record { lets = []; body = moments_query }) (codes "moment" ∷ [])
unfolding understood everything
select_moments_is rest = refl

pub select_moments_plain : (rest : More) → IsPlain (understood (schema_with (packs_then rest)) select_moments) × (reads_listing (schema_with (packs_then rest)) select_moments ≡ false)
unfolding understood everything
select_moments_plain rest = ((refl, refl), refl)

-- ---- the lengths of mds_head are taken away

-- the place of mds_head among the tables
abbrev pub head_place : ℕ
head_place = 1

abbrev pub update_lengths : List ℕ
update_lengths = codes "UPDATE mds_head SET length = 0"

-- the rowid of the row that is changed, and then the row as it becomes
abbrev pub bare_terms : List Term
bare_terms = col 1 0 ∷ col 1 0 ∷ col 1 1 ∷ col 1 2 ∷ col 1 3 ∷ lit (Int (pos 0)) ∷ col 1 5 ∷ []

abbrev pub lengths_query : Query
lengths_query = from_one head_tree [] bare_terms []

pub update_lengths_is : (rest : More) → command_of (understood (schema_with (packs_then rest)) update_lengths) ≡ Update head_place (record { lets = []; body = lengths_query })
unfolding understood everything
update_lengths_is rest = refl

pub update_lengths_plain : (rest : More) → IsPlain (understood (schema_with (packs_then rest)) update_lengths)
unfolding understood everything
update_lengths_plain rest = (refl, refl)

-- ---- the rowids of mds_schema

abbrev pub rowid_columns : List ℕ
rowid_columns = 0 ∷ []

abbrev pub select_rowids : List ℕ
select_rowids = codes "SELECT rowid FROM mds_schema"

abbrev pub rowids_query : Query
rowids_query = from_one schema_tree [] (columns_at rowid_columns) []

pub select_rowids_is : (rest : More) → command_of (understood (schema_with (packs_then rest)) select_rowids) ≡ Select (record { lets = []; body = rowids_query }) (codes "rowid" ∷ [])
unfolding understood everything
select_rowids_is rest = refl

pub select_rowids_plain : (rest : More) → IsPlain (understood (schema_with (packs_then rest)) select_rowids) × (reads_listing (schema_with (packs_then rest)) select_rowids ≡ false)
unfolding understood everything
select_rowids_plain rest = ((refl, refl), refl)

-- ---- the number of the schema is replaced

-- the place of mds_schema among the tables
abbrev pub schema_place : ℕ
schema_place = 0

abbrev pub update_version : List ℕ
update_version = codes "UPDATE mds_schema SET version = ?2 WHERE rowid = ?1"

-- the rowid of the row that is changed, and then the row as it becomes
abbrev pub changed_terms : List Term
changed_terms = col 1 0 ∷ col 1 0 ∷ col 0 1 ∷ []

abbrev pub update_query : Query
update_query = from_one schema_tree (equals 0 0 ∷ []) changed_terms []

pub update_version_is : (rest : More) → command_of (understood (schema_with (packs_then rest)) update_version) ≡ Update schema_place (record { lets = []; body = update_query })
unfolding understood everything
update_version_is rest = refl

pub update_version_plain : (rest : More) → IsPlain (understood (schema_with (packs_then rest)) update_version)
unfolding understood everything
update_version_plain rest = (refl, refl)
