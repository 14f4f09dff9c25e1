-- What the texts of the statements mean, whatever tables stand behind mds_pack.
use Rattle.std.proofs.Common.{◌≡◌, List, ℕ, [], ◌∷◌, codes, refl, false}
use Rattle.sqlite.specs.Command.TheVariants.{Insert, Select, Update}
use Rattle.sqlite.specs.Listing.{reads_listing, understood}
use Rattle.sqlite.specs.Query.{Query}
use Rattle.sqlite.specs.Source.TheVariants.{Values}
use Rattle.sqlite.specs.Term.{Term, col, lit}
use Rattle.sqlite.specs.declared.types.Value.TheVariants.{Null}
use Rattle.sqlite.proofs.Callers.{IsPlain, command_of}
use Rattle.sqlite_tied.specs.Compute.{everything}
use Rattle.mds_tables.specs.Parts.{together}
use Rattle.mds_tables.specs.Tables.{More, schema_with}
use Rattle.mds_tables.specs.Tabling.{terms_of}
use Rattle.mds_tables.proofs.SelectTexts.{columns_at, equals, from_one}
use Rattle.mds_pack_rows.specs.PackTables.{body_columns, pack_tree, packs_then, update_columns}

-- the place of mds_pack among the tables
abbrev pub pack_place : ℕ
pack_place = 8

-- ---- a row that is put

abbrev pub insert_pack : List ℕ
insert_pack = codes "INSERT INTO mds_pack (nmi, suffix, day, moment, body) VALUES (?1, ?2, ?3, ?4, ?5)"

abbrev pub pack_terms : List Term
pack_terms = lit Null ∷ col 0 0 ∷ col 0 1 ∷ col 0 2 ∷ col 0 3 ∷ col 0 4 ∷ []

pub insert_pack_is : (rest : More) → command_of (understood (schema_with (packs_then rest)) insert_pack) ≡ Insert pack_place (Values pack_terms 6)
unfolding understood everything
insert_pack_is rest = refl

pub insert_pack_plain : (rest : More) → IsPlain (understood (schema_with (packs_then rest)) insert_pack)
unfolding understood everything
insert_pack_plain rest = (refl, refl)

-- ---- several rows that are put

abbrev pub insert_packs : List ℕ
insert_packs = codes "INSERT INTO mds_pack (nmi, suffix, day, moment, body) VALUES (?1, ?2, ?3, ?4, ?5), (?6, ?7, ?8, ?9, ?10), (?11, ?12, ?13, ?14, ?15), (?16, ?17, ?18, ?19, ?20), (?21, ?22, ?23, ?24, ?25), (?26, ?27, ?28, ?29, ?30), (?31, ?32, ?33, ?34, ?35), (?36, ?37, ?38, ?39, ?40), (?41, ?42, ?43, ?44, ?45), (?46, ?47, ?48, ?49, ?50), (?51, ?52, ?53, ?54, ?55), (?56, ?57, ?58, ?59, ?60), (?61, ?62, ?63, ?64, ?65), (?66, ?67, ?68, ?69, ?70), (?71, ?72, ?73, ?74, ?75), (?76, ?77, ?78, ?79, ?80)"

abbrev pub batch_terms : List Term
batch_terms = terms_of 0 5 together

pub insert_packs_is : (rest : More) → command_of (understood (schema_with (packs_then rest)) insert_packs) ≡ Insert pack_place (Values batch_terms 6)
unfolding understood everything
insert_packs_is rest = refl

pub insert_packs_plain : (rest : More) → IsPlain (understood (schema_with (packs_then rest)) insert_packs)
unfolding understood everything
insert_packs_plain rest = (refl, refl)

-- ---- the row of a day and an update

abbrev pub select_body : List ℕ
select_body = codes "SELECT rowid, body FROM mds_pack WHERE nmi = ?1 AND suffix = ?2 AND day = ?3 AND moment = ?4"

abbrev pub body_query : Query
body_query = from_one pack_tree (equals 1 0 ∷ equals 2 1 ∷ equals 3 2 ∷ equals 4 3 ∷ []) (columns_at body_columns) []

pub select_body_is : (rest : More) → command_of (understood (schema_with (packs_then rest)) select_body)
    ≡ Select (record { lets = []; body = body_query }) (codes "rowid" ∷ codes "body" ∷ [])
unfolding understood everything
select_body_is rest = refl

pub select_body_plain : (rest : More) → IsPlain (understood (schema_with (packs_then rest)) select_body) × (reads_listing (schema_with (packs_then rest)) select_body ≡ false)
unfolding understood everything
select_body_plain rest = ((refl, refl), refl)

-- ---- a body that is replaced

abbrev pub update_body : List ℕ
update_body = codes "UPDATE mds_pack SET body = ?2 WHERE rowid = ?1"

-- the rowid of the row that is changed, and then the row as it becomes
abbrev pub changed_terms : List Term
changed_terms = col 1 0 ∷ col 1 0 ∷ col 1 1 ∷ col 1 2 ∷ col 1 3 ∷ col 1 4 ∷ col 0 1 ∷ []

abbrev pub update_query : Query
update_query = from_one pack_tree (equals 0 0 ∷ []) changed_terms []

pub update_body_is : (rest : More) → command_of (understood (schema_with (packs_then rest)) update_body) ≡ Update pack_place (record { lets = []; body = update_query })
unfolding understood everything
update_body_is rest = refl

pub update_body_plain : (rest : More) → IsPlain (understood (schema_with (packs_then rest)) update_body)
unfolding understood everything
update_body_plain rest = (refl, refl)

-- ---- the rows of a day

abbrev pub select_day : List ℕ
select_day = codes "SELECT moment, body FROM mds_pack WHERE nmi = ?1 AND suffix = ?2 AND day = ?3"

abbrev pub day_query : Query
day_query = from_one pack_tree (equals 1 0 ∷ equals 2 1 ∷ equals 3 2 ∷ []) (columns_at update_columns) []

pub select_day_is : (rest : More) → command_of (understood (schema_with (packs_then rest)) select_day)
    ≡ Select (record { lets = []; body = day_query }) (codes "moment" ∷ codes "body" ∷ [])
unfolding understood everything
select_day_is rest = refl

pub select_day_plain : (rest : More) → IsPlain (understood (schema_with (packs_then rest)) select_day) × (reads_listing (schema_with (packs_then rest)) select_day ≡ false)
unfolding understood everything
select_day_plain rest = ((refl, refl), refl)
