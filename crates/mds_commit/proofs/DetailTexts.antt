-- What the texts of the queries mean.
use Rattle.std.proofs.Common.{◌≡◌, List, ℕ, [], ◌∷◌, false, codes, refl}
use Rattle.sqlite.specs.Command.TheVariants.{Select}
use Rattle.sqlite.specs.Collation.TheVariants.{Binary}
use Rattle.sqlite.specs.Listing.{reads_listing, understood}
use Rattle.sqlite.specs.Query.{Query}
use Rattle.sqlite.specs.Term.{Term, col, op2}
use Rattle.sqlite.proofs.Callers.{IsPlain, command_of}
use Rattle.sqlite_sql.specs.declared.ops.BinaryOp.TheVariants.{Compare}
use Rattle.sqlite_sql.specs.declared.ops.CompareOp.TheVariants.{Ge, Le}
use Rattle.sqlite_tied.specs.Compute.{everything}
use Rattle.sqlite_value.specs.declared.keys.Key.{Key}
use Rattle.mds_tables.specs.Tables.{daydetail_tree}
use Rattle.mds_tables.specs.Shown.{falling, rising}
use Rattle.mds_tables.proofs.SelectTexts.{columns_at, equals, first_of, from_one}
use Rattle.mds_pack_rows.specs.Current.{current_schema}
use Rattle.mds_commit.specs.Shown.{details_columns, range_columns}

-- a column is at least, and at most, the parameter
abbrev pub at_least : ℕ → ℕ → Term
at_least at param = op2 (Compare Ge Binary) (col 1 at) (col 0 param)

abbrev pub at_most : ℕ → ℕ → Term
at_most at param = op2 (Compare Le Binary) (col 1 at) (col 0 param)

-- ---- the nearest day

abbrev pub select_nearest : List ℕ
select_nearest = codes "SELECT day FROM mds_daydetail WHERE nmi = ?1 AND suffix = ?2 AND day <= ?3 ORDER BY day DESC LIMIT 1"

abbrev pub upto_tests : List Term
upto_tests = equals 1 0 ∷ equals 2 1 ∷ at_most 3 2 ∷ []

abbrev pub day_falls : List (Term × Key)
day_falls = (col 1 3, falling) ∷ []

abbrev pub nearest_query : Query
nearest_query = first_of (from_one daydetail_tree upto_tests (columns_at (3 ∷ [])) day_falls)

pub select_nearest_is : command_of (understood current_schema select_nearest)
    ≡ Select (record { lets = []; body = nearest_query }) (codes "day" ∷ [])
unfolding understood everything
select_nearest_is = refl

pub select_nearest_plain : IsPlain (understood current_schema select_nearest) × (reads_listing current_schema select_nearest ≡ false)
unfolding understood everything
select_nearest_plain = ((refl, refl), refl)

-- ---- the details of a day

abbrev pub select_details : List ℕ
select_details = codes "SELECT moment, configuration, register, datastream, meter, next FROM mds_daydetail WHERE nmi = ?1 AND suffix = ?2 AND day = ?3 ORDER BY moment DESC, configuration DESC, register DESC, datastream DESC, meter DESC, next DESC"

abbrev pub details_fall : List (Term × Key)
details_fall =
    (col 1 4, falling) ∷ (col 1 5, falling) ∷ (col 1 6, falling) ∷ (col 1 7, falling) ∷ (col 1 8, falling)
    ∷ (col 1 9, falling) ∷ []

abbrev pub details_query : Query
details_query = from_one daydetail_tree (equals 1 0 ∷ equals 2 1 ∷ equals 3 2 ∷ []) (columns_at details_columns) details_fall

pub select_details_is : command_of (understood current_schema select_details)
    ≡ Select (record { lets = []; body = details_query }) (codes "moment" ∷ codes "configuration" ∷ codes "register"
    ∷ codes "datastream" ∷ codes "meter" ∷ codes "next" ∷ [])
unfolding understood everything
select_details_is = refl

pub select_details_plain : IsPlain (understood current_schema select_details) × (reads_listing current_schema select_details ≡ false)
unfolding understood everything
select_details_plain = ((refl, refl), refl)

-- ---- the details of a range of days

abbrev pub select_range : List ℕ
select_range = codes "SELECT moment, configuration, register, datastream, meter, next, day FROM mds_daydetail WHERE nmi = ?1 AND suffix = ?2 AND day >= ?3 AND day <= ?4 ORDER BY day, moment DESC, configuration DESC, register DESC, datastream DESC, meter DESC, next DESC"

-- a stream, and a range of days
abbrev pub range_tests : List Term
range_tests = equals 1 0 ∷ equals 2 1 ∷ at_least 3 2 ∷ at_most 3 3 ∷ []

-- by day, and then as those of a day
abbrev pub day_rises : List (Term × Key)
day_rises = (col 1 3, rising) ∷ details_fall

abbrev pub range_query : Query
range_query = from_one daydetail_tree range_tests (columns_at range_columns) day_rises

pub select_range_is : command_of (understood current_schema select_range)
    ≡ Select (record { lets = []; body = range_query }) (codes "moment" ∷ codes "configuration" ∷ codes "register"
    ∷ codes "datastream" ∷ codes "meter" ∷ codes "next" ∷ codes "day" ∷ [])
unfolding understood everything
select_range_is = refl

pub select_range_plain : IsPlain (understood current_schema select_range) × (reads_listing current_schema select_range ≡ false)
unfolding understood everything
select_range_plain = ((refl, refl), refl)

-- ---- the days that have some details

abbrev pub select_days_with : List ℕ
select_days_with = codes "SELECT day FROM mds_daydetail WHERE nmi = ?1 AND suffix = ?2 AND day >= ?3 AND day <= ?4 AND moment = ?5 AND configuration = ?6 AND register = ?7 AND datastream = ?8 AND meter = ?9 AND next = ?10"

-- a stream, a range of days, and all that stands behind the day
abbrev pub with_tests : List Term
with_tests =
    equals 1 0 ∷ equals 2 1 ∷ at_least 3 2 ∷ at_most 3 3 ∷ equals 4 4 ∷ equals 5 5 ∷ equals 6 6 ∷ equals 7 7 ∷ equals 8 8
    ∷ equals 9 9 ∷ []

abbrev pub days_with_query : Query
days_with_query = from_one daydetail_tree with_tests (columns_at (3 ∷ [])) []

pub select_days_with_is : command_of (understood current_schema select_days_with)
    ≡ Select (record { lets = []; body = days_with_query }) (codes "day" ∷ [])
unfolding understood everything
select_days_with_is = refl

pub select_days_with_plain : IsPlain (understood current_schema select_days_with) × (reads_listing current_schema select_days_with ≡ false)
unfolding understood everything
select_days_with_plain = ((refl, refl), refl)
