-- What the texts of the queries mean.
use Rattle.std.proofs.Common.{◌≡◌, List, ℕ, [], ◌∷◌, false, codes, refl}
use Rattle.sqlite.specs.Collation.TheVariants.{Binary}
use Rattle.sqlite.specs.Command.TheVariants.{Select}
use Rattle.sqlite.specs.Listing.{reads_listing, understood}
use Rattle.sqlite.specs.Query.{Query}
use Rattle.sqlite.specs.Term.{Term, col, op2}
use Rattle.sqlite.proofs.Callers.{IsPlain, command_of}
use Rattle.sqlite_sql.specs.declared.ops.BinaryOp.TheVariants.{Compare}
use Rattle.sqlite_sql.specs.declared.ops.CompareOp.TheVariants.{Ge, Le}
use Rattle.sqlite_tied.specs.Compute.{everything}
use Rattle.sqlite_value.specs.declared.keys.Key.{Key}
use Rattle.mds_tables.specs.Tables.{form_tree, head_tree, period_tree, stream_columns}
use Rattle.mds_tables.specs.Shown.{falling, rising}
use Rattle.mds_tables.proofs.SelectTexts.{columns_at, equals, first_by, from_one}
use Rattle.mds_pack_rows.specs.Current.{current_schema}
use Rattle.mds_pack_rows.specs.PackTables.{pack_tree, update_columns}
use Rattle.mds_commit.specs.Cuts.{day_columns, range_columns}
use Rattle.mds_commit.specs.FormRows.{form_columns, form_day, unit_columns}

-- it is a query alone, and reads no listing of the tables
abbrev IsPlainQuery : List ℕ → Type 0
IsPlainQuery sql = IsPlain (understood current_schema sql) × (reads_listing current_schema sql ≡ false)

-- ---- the first and the last day

abbrev pub select_first_day : List ℕ
select_first_day = codes "SELECT day FROM mds_form WHERE nmi = ?1 AND suffix = ?2 ORDER BY day LIMIT 1"

pub select_first_day_is : command_of (understood current_schema select_first_day)
    ≡ Select (record { lets = []; body = first_by rising form_tree form_day }) (codes "day" ∷ [])
unfolding understood everything
select_first_day_is = refl

pub select_first_day_plain : IsPlainQuery select_first_day
unfolding understood everything
select_first_day_plain = ((refl, refl), refl)

abbrev pub select_last_day : List ℕ
select_last_day = codes "SELECT day FROM mds_form WHERE nmi = ?1 AND suffix = ?2 ORDER BY day DESC LIMIT 1"

pub select_last_day_is : command_of (understood current_schema select_last_day)
    ≡ Select (record { lets = []; body = first_by falling form_tree form_day }) (codes "day" ∷ [])
unfolding understood everything
select_last_day_is = refl

pub select_last_day_plain : IsPlainQuery select_last_day
unfolding understood everything
select_last_day_plain = ((refl, refl), refl)

-- ---- streams

abbrev pub streams_query : ℕ → Query
streams_query tree = from_one tree [] (columns_at stream_columns) []

abbrev pub select_form_streams : List ℕ
select_form_streams = codes "SELECT nmi, suffix FROM mds_form"

pub select_form_streams_is : command_of (understood current_schema select_form_streams)
    ≡ Select (record { lets = []; body = streams_query form_tree }) (codes "nmi" ∷ codes "suffix" ∷ [])
unfolding understood everything
select_form_streams_is = refl

pub select_form_streams_plain : IsPlainQuery select_form_streams
unfolding understood everything
select_form_streams_plain = ((refl, refl), refl)

abbrev pub select_period_streams : List ℕ
select_period_streams = codes "SELECT nmi, suffix FROM mds_period"

pub select_period_streams_is : command_of (understood current_schema select_period_streams)
    ≡ Select (record { lets = []; body = streams_query period_tree }) (codes "nmi" ∷ codes "suffix" ∷ [])
unfolding understood everything
select_period_streams_is = refl

pub select_period_streams_plain : IsPlainQuery select_period_streams
unfolding understood everything
select_period_streams_plain = ((refl, refl), refl)

-- ---- the rows of a day

-- those of a tree, shown by these columns
abbrev pub day_query : ℕ → List ℕ → Query
day_query tree places = from_one tree (equals 1 0 ∷ equals 2 1 ∷ equals 3 2 ∷ []) (columns_at places) []

abbrev pub select_forms : List ℕ
select_forms = codes "SELECT moment, length FROM mds_form WHERE nmi = ?1 AND suffix = ?2 AND day = ?3"

pub select_forms_is : command_of (understood current_schema select_forms)
    ≡ Select (record { lets = []; body = day_query form_tree form_columns }) (codes "moment" ∷ codes "length" ∷ [])
unfolding understood everything
select_forms_is = refl

pub select_forms_plain : IsPlainQuery select_forms
unfolding understood everything
select_forms_plain = ((refl, refl), refl)

abbrev pub select_packs : List ℕ
select_packs = codes "SELECT moment, body FROM mds_pack WHERE nmi = ?1 AND suffix = ?2 AND day = ?3"

pub select_packs_is : command_of (understood current_schema select_packs)
    ≡ Select (record { lets = []; body = day_query pack_tree update_columns }) (codes "moment" ∷ codes "body" ∷ [])
unfolding understood everything
select_packs_is = refl

pub select_packs_plain : IsPlainQuery select_packs
unfolding understood everything
select_packs_plain = ((refl, refl), refl)

abbrev pub select_unit : List ℕ
select_unit = codes "SELECT unit FROM mds_head WHERE nmi = ?1 AND suffix = ?2 AND day = ?3"

pub select_unit_is : command_of (understood current_schema select_unit)
    ≡ Select (record { lets = []; body = day_query head_tree unit_columns }) (codes "unit" ∷ [])
unfolding understood everything
select_unit_is = refl

pub select_unit_plain : IsPlainQuery select_unit
unfolding understood everything
select_unit_plain = ((refl, refl), refl)

-- ---- the rows of a range of days

-- a column is at least, and at most, the parameter
abbrev pub at_least : ℕ → ℕ → Term
at_least at param = op2 (Compare Ge Binary) (col 1 at) (col 0 param)

abbrev pub at_most : ℕ → ℕ → Term
at_most at param = op2 (Compare Le Binary) (col 1 at) (col 0 param)

-- a stream, and a range of days
abbrev pub range_tests : List Term
range_tests = equals 1 0 ∷ equals 2 1 ∷ at_least 3 2 ∷ at_most 3 3 ∷ []

abbrev pub by_day : List (Term × Key)
by_day = (col 1 3, rising) ∷ []

-- those of a tree by day, shown by these columns
abbrev pub range_query : ℕ → List ℕ → Query
range_query tree places = from_one tree range_tests (columns_at places) by_day

abbrev pub select_form_range : List ℕ
select_form_range = codes "SELECT moment, length, day FROM mds_form WHERE nmi = ?1 AND suffix = ?2 AND day >= ?3 AND day <= ?4 ORDER BY day"

pub select_form_range_is : command_of (understood current_schema select_form_range)
    ≡ Select (record { lets = []; body = range_query form_tree range_columns }) (codes "moment" ∷ codes "length" ∷ codes "day" ∷ [])
unfolding understood everything
select_form_range_is = refl

pub select_form_range_plain : IsPlainQuery select_form_range
unfolding understood everything
select_form_range_plain = ((refl, refl), refl)

abbrev pub select_pack_range : List ℕ
select_pack_range = codes "SELECT moment, body, day FROM mds_pack WHERE nmi = ?1 AND suffix = ?2 AND day >= ?3 AND day <= ?4 ORDER BY day"

pub select_pack_range_is : command_of (understood current_schema select_pack_range)
    ≡ Select (record { lets = []; body = range_query pack_tree range_columns }) (codes "moment" ∷ codes "body" ∷ codes "day" ∷ [])
unfolding understood everything
select_pack_range_is = refl

pub select_pack_range_plain : IsPlainQuery select_pack_range
unfolding understood everything
select_pack_range_plain = ((refl, refl), refl)

abbrev pub select_head_range : List ℕ
select_head_range = codes "SELECT day, unit FROM mds_head WHERE nmi = ?1 AND suffix = ?2 AND day >= ?3 AND day <= ?4 ORDER BY day"

pub select_head_range_is : command_of (understood current_schema select_head_range)
    ≡ Select (record { lets = []; body = range_query head_tree day_columns }) (codes "day" ∷ codes "unit" ∷ [])
unfolding understood everything
select_head_range_is = refl

pub select_head_range_plain : IsPlainQuery select_head_range
unfolding understood everything
select_head_range_plain = ((refl, refl), refl)
