-- What the texts of the queries mean, whatever tables stand behind mds_pack.
use Rattle.std.proofs.Common.{◌≡◌, List, ℕ, [], ◌∷◌, codes, refl, false}
use Rattle.sqlite.specs.Command.TheVariants.{Select}
use Rattle.sqlite.specs.Listing.{reads_listing, understood}
use Rattle.sqlite.specs.Query.{Query}
use Rattle.sqlite.specs.Term.{Term, col}
use Rattle.sqlite.proofs.Callers.{IsPlain, command_of}
use Rattle.sqlite_tied.specs.Compute.{everything}
use Rattle.sqlite_value.specs.declared.keys.Key.{Key}
use Rattle.mds_tables.specs.Tables.{More, head_columns, head_tree, schema_with, version_columns, version_tree}
use Rattle.mds_tables.specs.Shown.{rising}
use Rattle.mds_tables.proofs.SelectTexts.{columns_at, equals, from_one}
use Rattle.mds_pack_rows.specs.PackTables.{packs_then}

abbrev pub select_heads : List ℕ
select_heads = codes "SELECT nmi, suffix, day, length, unit FROM mds_head ORDER BY nmi, suffix, day"

abbrev pub by_stream_day : List (Term × Key)
by_stream_day = (col 1 1, rising) ∷ (col 1 2, rising) ∷ (col 1 3, rising) ∷ []

abbrev pub heads_query : Query
heads_query = from_one head_tree [] (columns_at head_columns) by_stream_day

pub select_heads_is : (rest : More) → command_of (understood (schema_with (packs_then rest)) select_heads)
    ≡ Select (record { lets = []; body = heads_query }) (codes "nmi" ∷ codes "suffix" ∷ codes "day"
    ∷ codes "length" ∷ codes "unit" ∷ [])
unfolding understood everything
select_heads_is rest = refl

pub select_heads_plain : (rest : More) → IsPlain (understood (schema_with (packs_then rest)) select_heads) × (reads_listing (schema_with (packs_then rest)) select_heads ≡ false)
unfolding understood everything
select_heads_plain rest = ((refl, refl), refl)

abbrev pub select_versions : List ℕ
select_versions = codes "SELECT nmi, suffix, day, slot, moment, quality, code, note, amount FROM mds_version WHERE nmi = ?1 AND suffix = ?2 AND day = ?3 ORDER BY moment"

abbrev pub by_update : List (Term × Key)
by_update = (col 1 5, rising) ∷ []

abbrev pub versions_query : Query
versions_query = from_one version_tree (equals 1 0 ∷ equals 2 1 ∷ equals 3 2 ∷ []) (columns_at version_columns) by_update

pub select_versions_is : (rest : More) → command_of (understood (schema_with (packs_then rest)) select_versions)
    ≡ Select (record { lets = []; body = versions_query }) (codes "nmi" ∷ codes "suffix" ∷ codes "day" ∷ codes "slot" ∷ codes "moment" ∷ codes "quality" ∷ codes "code" ∷ codes "note" ∷ codes "amount" ∷ [])
unfolding understood everything
select_versions_is rest = refl

pub select_versions_plain : (rest : More) → IsPlain (understood (schema_with (packs_then rest)) select_versions) × (reads_listing (schema_with (packs_then rest)) select_versions ≡ false)
unfolding understood everything
select_versions_plain rest = ((refl, refl), refl)
