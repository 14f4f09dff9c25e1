-- What the texts of the queries mean.
use Rattle.std.proofs.Common.{◌≡◌, List, ℕ, [], ◌∷◌, Option, arith, false, true, codes, inl, inr, refl}
use Rattle.std.specs.Prelude.{Any, IsSome}
use Rattle.sqlite.specs.Command.TheVariants.{Select}
use Rattle.sqlite.specs.Effect.{RefusesQuery}
use Rattle.sqlite.specs.Listing.{reads_listing, understood}
use Rattle.sqlite.specs.Query.{Query}
use Rattle.sqlite.specs.declared.error.Error.{Error}
use Rattle.sqlite.specs.declared.error.Error.TheVariants.{SqliteFailure}
use Rattle.sqlite.specs.declared.error.ErrorCode.TheVariants.{OperationInterrupted}
use Rattle.sqlite.proofs.Callers.{IsPlain, command_of}
use Rattle.sqlite_tied.specs.Compute.{everything}
use Rattle.sqlite_trees.specs.Tree.{Trees}
use Rattle.mds_tables.specs.Tables.{More, detail_tree, schema_with, version_tree}
use Rattle.mds_tables.proofs.CauseLemmas.{IsWhole}
use Rattle.mds_tables.proofs.SelectTexts.{columns_at, from_one}
use Rattle.mds_store.specs.Shown.{detail_moment, version_slot}

none_of : {X : Type 0} (xs : List X) → ¬ Any (λ x. ⊥) xs
none_of xs any = any.4

abbrev pub select_slots : List ℕ
select_slots = codes "SELECT slot FROM mds_version"

abbrev pub slots_query : Query
slots_query = from_one version_tree [] (columns_at (version_slot ∷ [])) []

pub select_slots_is : (more : More) → command_of (understood (schema_with more) select_slots)
    ≡ Select (record { lets = []; body = slots_query }) (codes "slot" ∷ [])
unfolding understood everything
select_slots_is more = refl

pub select_slots_plain : (more : More) → IsPlain (understood (schema_with more) select_slots) × (reads_listing (schema_with more) select_slots ≡ false)
unfolding understood everything
select_slots_plain more = ((refl, refl), refl)

pub select_slots_whole : (more : More) → IsWhole select_slots 0 (understood (schema_with more) select_slots)
unfolding understood everything
select_slots_whole more = (omega arith, refl, refl)

-- it sums nothing, so only the limit of steps refuses it
pub select_slots_cut : (more : More) (limit : Option ℕ) (trees : Trees) (e : Error)
    → RefusesQuery limit (record { schema = schema_with more; trees = trees }) (record { lets = []; body = slots_query }) [] e
    → (e ≡ SqliteFailure OperationInterrupted) × IsSome limit
select_slots_cut more limit trees e (inl mistyped) = absurd (let no : true ≡ false = mistyped.1 in cc)
select_slots_cut more limit trees e (inr (inl (_, inl none))) = absurd none
select_slots_cut more limit trees e (inr (inl (_, inr any))) = absurd (none_of (trees version_tree) any)
select_slots_cut more limit trees e (inr (inr cut)) = cut

abbrev pub select_moments : List ℕ
select_moments = codes "SELECT moment FROM mds_detail"

abbrev pub moments_query : Query
moments_query = from_one detail_tree [] (columns_at (detail_moment ∷ [])) []

pub select_moments_is : (more : More) → command_of (understood (schema_with more) select_moments)
    ≡ Select (record { lets = []; body = moments_query }) (codes "moment" ∷ [])
unfolding understood everything
select_moments_is more = refl

pub select_moments_plain : (more : More)
    → IsPlain (understood (schema_with more) select_moments) × (reads_listing (schema_with more) select_moments ≡ false)
unfolding understood everything
select_moments_plain more = ((refl, refl), refl)

pub select_moments_whole : (more : More) → IsWhole select_moments 0 (understood (schema_with more) select_moments)
unfolding understood everything
select_moments_whole more = (omega arith, refl, refl)

-- it sums nothing either
pub select_moments_cut : (more : More) (limit : Option ℕ) (trees : Trees) (e : Error)
    → RefusesQuery limit (record { schema = schema_with more; trees = trees }) (record { lets = []; body = moments_query }) [] e
    → (e ≡ SqliteFailure OperationInterrupted) × IsSome limit
select_moments_cut more limit trees e (inl mistyped) = absurd (let no : true ≡ false = mistyped.1 in cc)
select_moments_cut more limit trees e (inr (inl (_, inl none))) = absurd none
select_moments_cut more limit trees e (inr (inl (_, inr any))) = absurd (none_of (trees detail_tree) any)
select_moments_cut more limit trees e (inr (inr cut)) = cut
