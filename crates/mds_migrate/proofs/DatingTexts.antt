-- What the text of the query of details of a stream means, whatever tables stand behind mds_pack.
use Rattle.std.proofs.Common.{◌≡◌, List, ℕ, [], ◌∷◌, codes, refl, false}
use Rattle.sqlite.specs.Command.TheVariants.{Select}
use Rattle.sqlite.specs.Listing.{reads_listing, understood}
use Rattle.sqlite.specs.Query.{Query}
use Rattle.sqlite.specs.Term.{Term, col}
use Rattle.sqlite.proofs.Callers.{IsPlain, command_of}
use Rattle.sqlite_tied.specs.Compute.{everything}
use Rattle.sqlite_value.specs.declared.keys.Key.{Key}
use Rattle.mds_tables.specs.Tables.{More, detail_tree, schema_with}
use Rattle.mds_tables.specs.Shown.{falling}
use Rattle.mds_tables.proofs.SelectTexts.{columns_at, equals, from_one}
use Rattle.mds_pack_rows.specs.PackTables.{packs_then}
use Rattle.mds_migrate.specs.Dating.{shown_columns}

abbrev pub select_details : List ℕ
select_details = codes "SELECT moment, configuration, register, datastream, meter, next FROM mds_detail WHERE nmi = ?1 AND suffix = ?2 ORDER BY moment DESC, configuration DESC, register DESC, datastream DESC, meter DESC, next DESC"

abbrev pub details_fall : List (Term × Key)
details_fall =
    (col 1 3, falling) ∷ (col 1 4, falling) ∷ (col 1 5, falling) ∷ (col 1 6, falling) ∷ (col 1 7, falling)
    ∷ (col 1 8, falling) ∷ []

abbrev pub details_query : Query
details_query = from_one detail_tree (equals 1 0 ∷ equals 2 1 ∷ []) (columns_at shown_columns) details_fall

pub select_details_is : (rest : More) → command_of (understood (schema_with (packs_then rest)) select_details)
    ≡ Select (record { lets = []; body = details_query }) (codes "moment" ∷ codes "configuration" ∷ codes "register"
    ∷ codes "datastream" ∷ codes "meter" ∷ codes "next" ∷ [])
unfolding understood everything
select_details_is rest = refl

pub select_details_plain : (rest : More) → IsPlain (understood (schema_with (packs_then rest)) select_details) × (reads_listing (schema_with (packs_then rest)) select_details ≡ false)
unfolding understood everything
select_details_plain rest = ((refl, refl), refl)
