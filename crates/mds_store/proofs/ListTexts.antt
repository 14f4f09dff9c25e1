-- What the texts of the queries mean, whatever tables stand behind those that every schema has.
use Rattle.std.proofs.Common.{◌≡◌, List, ℕ, [], ◌∷◌, false, codes, refl}
use Rattle.sqlite.specs.Collation.TheVariants.{Binary}
use Rattle.sqlite.specs.Command.TheVariants.{Select}
use Rattle.sqlite.specs.Listing.{reads_listing, understood}
use Rattle.sqlite.specs.Query.{Query}
use Rattle.sqlite.specs.Term.{col}
use Rattle.sqlite.proofs.Callers.{IsPlain, command_of}
use Rattle.sqlite_tied.specs.Compute.{everything}
use Rattle.sqlite_value.specs.declared.keys.Key.{Key}
use Rattle.mds_tables.specs.Tables.{More, schema_with}
use Rattle.mds_tables.proofs.SelectTexts.{columns_at, equals, from_one}

abbrev pub select_holidays : List ℕ
select_holidays = codes "SELECT day FROM mds_holiday"

abbrev pub holidays_query : Query
holidays_query = from_one 12 ([]) (columns_at (1 ∷ [])) ([])

pub select_holidays_is : (more : More) → command_of (understood (schema_with more) select_holidays)
    ≡ Select (record { lets = []; body = holidays_query }) (codes "day" ∷ [])
unfolding understood everything
select_holidays_is more = refl

pub select_holidays_plain : (more : More) → IsPlain (understood (schema_with more) select_holidays) × (reads_listing (schema_with more) select_holidays ≡ false)
unfolding understood everything
select_holidays_plain more = ((refl, refl), refl)

abbrev pub select_job : List ℕ
select_job = codes "SELECT body, total FROM mds_job WHERE id = ?1"

abbrev pub job_query : Query
job_query = from_one 14 (equals 1 0 ∷ []) (columns_at (2 ∷ 3 ∷ [])) ([])

pub select_job_is : (more : More) → command_of (understood (schema_with more) select_job)
    ≡ Select (record { lets = []; body = job_query }) (codes "body" ∷ codes "total" ∷ [])
unfolding understood everything
select_job_is more = refl

pub select_job_plain : (more : More) → IsPlain (understood (schema_with more) select_job) × (reads_listing (schema_with more) select_job ≡ false)
unfolding understood everything
select_job_plain more = ((refl, refl), refl)

abbrev pub rising : Key
rising = record { collation = Binary; descending = false }

abbrev pub select_periods : List ℕ
select_periods = codes "SELECT nmi, suffix, register, start, finish, moment, body FROM mds_period WHERE nmi = ?1 AND suffix = ?2 ORDER BY register, start, finish, moment"

abbrev pub periods_query : Query
periods_query =
    from_one 10 (equals 1 0 ∷ equals 2 1 ∷ []) (columns_at (1 ∷ 2 ∷ 3 ∷ 4 ∷ 5 ∷ 6 ∷ 7 ∷ [])) ((col 1 3, rising)
    ∷ (col 1 4, rising) ∷ (col 1 5, rising) ∷ (col 1 6, rising) ∷ [])

pub select_periods_is : (more : More) → command_of (understood (schema_with more) select_periods)
    ≡ Select (record { lets = []; body = periods_query }) (codes "nmi" ∷ codes "suffix" ∷ codes "register" ∷ codes "start" ∷ codes "finish" ∷ codes "moment" ∷ codes "body" ∷ [])
unfolding understood everything
select_periods_is more = refl

pub select_periods_plain : (more : More) → IsPlain (understood (schema_with more) select_periods) × (reads_listing (schema_with more) select_periods ≡ false)
unfolding understood everything
select_periods_plain more = ((refl, refl), refl)

abbrev pub select_content : List ℕ
select_content = codes "SELECT body FROM mds_period WHERE nmi = ?1 AND suffix = ?2 AND register = ?3 AND start = ?4 AND finish = ?5 AND moment = ?6"

abbrev pub content_query : Query
content_query =
    from_one 10 (equals 1 0 ∷ equals 2 1 ∷ equals 3 2 ∷ equals 4 3 ∷ equals 5 4 ∷ equals 6 5 ∷ []) (columns_at (7 ∷ [])) ([])

pub select_content_is : (more : More) → command_of (understood (schema_with more) select_content)
    ≡ Select (record { lets = []; body = content_query }) (codes "body" ∷ [])
unfolding understood everything
select_content_is more = refl

pub select_content_plain : (more : More) → IsPlain (understood (schema_with more) select_content) × (reads_listing (schema_with more) select_content ≡ false)
unfolding understood everything
select_content_plain more = ((refl, refl), refl)
