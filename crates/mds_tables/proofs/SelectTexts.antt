-- What the texts of the queries mean, whatever tables stand behind those that every schema has.
use Rattle.std.proofs.Common.{arith, inl, inr, Option, ◌≡◌, List, ℕ, [], ◌∷◌, None, true, false, codes, refl, map, pos, negsuc}
use Rattle.std.specs.Prelude.{Any, IsSome}
use Rattle.sqlite.specs.Collation.TheVariants.{Binary}
use Rattle.sqlite.specs.Command.TheVariants.{Select}
use Rattle.sqlite.specs.Effect.{RefusesQuery}
use Rattle.sqlite.specs.Listing.{reads_listing, understood}
use Rattle.sqlite.specs.Query.{Query, end, inner}
use Rattle.sqlite.specs.Term.{Term, col, lit, op2}
use Rattle.sqlite.specs.declared.error.Error.{Error}
use Rattle.sqlite.specs.declared.error.Error.TheVariants.{SqliteFailure}
use Rattle.sqlite.specs.declared.error.ErrorCode.TheVariants.{OperationInterrupted}
use Rattle.sqlite.specs.declared.types.Value.TheVariants.{Int}
use Rattle.sqlite.proofs.Callers.{IsPlain, command_of}
use Rattle.sqlite_sql.specs.declared.ops.BinaryOp.TheVariants.{Compare}
use Rattle.sqlite_sql.specs.declared.ops.CompareOp.TheVariants.{Eq}
use Rattle.sqlite_tied.specs.Compute.{everything}
use Rattle.sqlite_trees.specs.Tree.{Trees}
use Rattle.sqlite_value.specs.declared.keys.Key.{Key}
use Rattle.mds_tables.specs.Tables.{More, schema_with}
use Rattle.mds_tables.proofs.CauseLemmas.{IsWhole}

none_of : {X : Type 0} (xs : List X) → ¬ Any (λ x. ⊥) xs
none_of xs any = any.4

-- the rows of one table that pass the filter, in an order, each shown by these terms
abbrev pub from_one : ℕ → List Term → List Term → List (Term × Key) → Query
from_one tree filter project order = record {
  from = inner tree end;
  filter = filter;
  group = None;
  project = project;
  distinct = false;
  collations = [];
  order = order;
  limit = lit (Int (negsuc 0));
  offset = lit (Int (pos 0));
}

-- a column is the parameter
abbrev pub equals : ℕ → ℕ → Term
equals at param = op2 (Compare Eq Binary) (col 1 at) (col 0 param)

-- the columns of a row at these places
abbrev pub columns_at : List ℕ → List Term
columns_at places = map (λ at. col 1 at) places

-- the first row of a query's alone
abbrev pub first_of : Query → Query
first_of query = record query { limit = lit (Int (pos 1)) }

-- the first row of a table with a stream, in the order of one column
abbrev pub first_by : Key → ℕ → ℕ → Query
first_by by tree at = first_of (from_one tree (equals 1 0 ∷ equals 2 1 ∷ []) (columns_at (at ∷ [])) ((col 1 at, by) ∷ []))

abbrev pub select_version : List ℕ
select_version = codes "SELECT version FROM mds_schema"

abbrev pub version_query : Query
version_query = from_one 0 ([]) (columns_at (1 ∷ [])) ([])

pub select_version_is : (more : More) → command_of (understood (schema_with more) select_version)
    ≡ Select (record { lets = []; body = version_query }) (codes "version" ∷ [])
unfolding understood everything
select_version_is more = refl

pub select_version_plain : (more : More) → IsPlain (understood (schema_with more) select_version) × (reads_listing (schema_with more) select_version ≡ false)
unfolding understood everything
select_version_plain more = ((refl, refl), refl)

pub select_version_whole : (more : More) → IsWhole select_version 0 (understood (schema_with more) select_version)
unfolding understood everything
select_version_whole more = (omega arith, refl, refl)

-- it sums nothing, so only the limit of steps refuses it
pub select_version_cut : (more : More) (limit : Option ℕ) (trees : Trees) (e : Error)
    → RefusesQuery limit (record { schema = schema_with more; trees = trees }) (record { lets = []; body = version_query }) [] e
    → (e ≡ SqliteFailure OperationInterrupted) × IsSome limit
select_version_cut more limit trees e (inl mistyped) = absurd (let no : true ≡ false = mistyped.1 in cc)
select_version_cut more limit trees e (inr (inl (_, inl none))) = absurd none
select_version_cut more limit trees e (inr (inl (_, inr any))) = absurd (none_of (trees 0) any)
select_version_cut more limit trees e (inr (inr cut)) = cut

abbrev pub select_events : List ℕ
select_events = codes "SELECT nmi, suffix, day, trans, ticket, moment, reading FROM mds_event WHERE nmi = ?1 AND suffix = ?2 AND day = ?3"

abbrev pub events_query : Query
events_query = from_one 8 (equals 1 0 ∷ equals 2 1 ∷ equals 3 2 ∷ []) (columns_at (1 ∷ 2 ∷ 3 ∷ 4 ∷ 5 ∷ 6 ∷ 7 ∷ [])) ([])

pub select_events_is : (more : More) → command_of (understood (schema_with more) select_events)
    ≡ Select (record { lets = []; body = events_query }) (codes "nmi" ∷ codes "suffix" ∷ codes "day"
    ∷ codes "trans" ∷ codes "ticket" ∷ codes "moment" ∷ codes "reading" ∷ [])
unfolding understood everything
select_events_is more = refl

pub select_events_plain : (more : More) → IsPlain (understood (schema_with more) select_events) × (reads_listing (schema_with more) select_events ≡ false)
unfolding understood everything
select_events_plain more = ((refl, refl), refl)

abbrev pub select_event : List ℕ
select_event = codes "SELECT nmi FROM mds_event WHERE nmi = ?1 AND suffix = ?2 AND day = ?3 AND trans = ?4 AND ticket = ?5 AND moment = ?6 AND reading = ?7"

abbrev pub event_query : Query
event_query =
    from_one 8 (equals 1 0 ∷ equals 2 1 ∷ equals 3 2 ∷ equals 4 3 ∷ equals 5 4 ∷ equals 6 5 ∷ equals 7 6
    ∷ []) (columns_at (1 ∷ [])) ([])

pub select_event_is : (more : More) → command_of (understood (schema_with more) select_event)
    ≡ Select (record { lets = []; body = event_query }) (codes "nmi" ∷ [])
unfolding understood everything
select_event_is more = refl

pub select_event_plain : (more : More) → IsPlain (understood (schema_with more) select_event) × (reads_listing (schema_with more) select_event ≡ false)
unfolding understood everything
select_event_plain more = ((refl, refl), refl)
