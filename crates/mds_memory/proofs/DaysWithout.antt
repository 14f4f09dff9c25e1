-- The days that don't have some details yet.
use Rattle.std.proofs.Common.{◌≡◌, ◌<◌, ℕ, true, false, List, refl, sym, subst}
use Rattle.std.specs.Prelude.{◌↔◌, Bool, not}
use mathlib.Core.Bool.{true≢false}
use Rattle.std.specs.BTreeMap.{IsOrdered}
use Rattle.std.specs.BTreeSet.{BTreeSet, IsFromIterResult, contains, difference}
use Rattle.std.specs.BTreeSet as sets
use Rattle.std.specs.Cmp.{nat_cmp_total}
use Rattle.std.specs.FinSet.{nat_cmp-IsAntisymmetric}
use Rattle.std.specs.List.{AllPairs}
use Rattle.std.specs.Ordering.{nat_cmp}
use Rattle.mds_world.specs.Facts.Fact.{DetailIs}
use Rattle.mds_world.specs.Lists.{Member}
use Rattle.mds_world.specs.Sets.{◌∈◌}
use Rattle.mds_keeper.specs.Content.{detail_on}
use Rattle.mds_keeper.specs.Queries.{AreDaysWithout}
use Rattle.mds_keeper.specs.declared.additions.DetailDays.{DetailDays}
use Rattle.mds_memory.specs.StoredDetails.{details_world, meter_cmp, meter_on}
use Rattle.mds_memory.specs.declared.stored_details.MeterDetails.{MeterDetails}
use Rattle.mds_memory.proofs.Ascending as up
use Rattle.mds_memory.proofs.DaysBetween.{less_means}
use Rattle.mds_memory.proofs.Keys as keys
use Rattle.mds_memory.proofs.StoredDetails.{Meters, at_kept, days_at, kept_at}

-- those of a set that another lacks
pub left_over : (days others : BTreeSet ℕ) (left : List ℕ) → left ≡ difference nat_cmp days others
    → (day : ℕ) → Member day left ↔ (Member day days.keys × (Member day others.keys → ⊥))
left_over days others left is day = (
  (λ m.
      let r = up.in_filter (λ k. not (contains nat_cmp others k)) days.keys day (subst (Member day) is m) in
      (r.0, (λ n. lacks (contains nat_cmp others day) r.1 (keys.finds nat_cmp nat_cmp-IsAntisymmetric nat_cmp_total day others.keys n)))),
  (λ p. subst (Member day) (sym is) (up.filter_in (λ k. not (contains nat_cmp others k)) days.keys day p.0
      (lacking (contains nat_cmp others day) (λ e. p.1 (keys.found nat_cmp nat_cmp-IsAntisymmetric nat_cmp_total day others.keys e))))),
)
  where
    lacks : (b : Bool) → not b ≡ true → b ≡ true → ⊥
    lacks true e f = absurd (true≢false (sym e))
    lacks false e f = absurd (true≢false (sym f))

    lacking : (b : Bool) → (b ≡ true → ⊥) → not b ≡ true
    lacking true n = absurd (n refl)
    lacking false n = refl

pub in_turn : (days others : BTreeSet ℕ) (left : List ℕ) → left ≡ difference nat_cmp days others → sets.IsOrdered nat_cmp days
    → AllPairs (λ a b. a < b) left
in_turn days others left is o =
    let a = up.filtered (λ k. not (contains nat_cmp others k)) nat_cmp days.keys (up.from_sorted nat_cmp days.keys o) in
    λ i j d l m. less_means _ _ (up.pairs nat_cmp left (subst (up.Ascends nat_cmp) (sym is) a) i j d l m)

-- what is without the days of an entry is without the details
pub without : (kept : Meters) (meter : MeterDetails) (group : DetailDays) (asked others : BTreeSet ℕ) (left : List ℕ)
    → IsOrdered meter_cmp kept → ((day : ℕ) → meter_on meter day ≡ detail_on group day)
    → IsFromIterResult nat_cmp group.days.items asked → others.keys ≡ days_at kept meter
    → left ≡ difference nat_cmp asked others → AreDaysWithout (details_world kept) group left
without kept meter group asked others left o same all is lacks =
    let each = left_over asked others left lacks in
    let come = keys.collected nat_cmp nat_cmp-IsAntisymmetric nat_cmp_total group.days.items asked all in
    record {
      each = λ day. (
        (λ m.
            let p = (each day).0 m in (
              (come day).0 p.0,
              (λ h. p.1 (subst (Member day) (sym is)
                  (kept_at kept o (meter_on meter day) (subst (λ d. DetailIs d ∈ details_world kept) (sym (same day)) h)))),
            )),
        (λ p. (each day).1 (
          (come day).1 p.0,
          (λ m. p.1 (subst (λ d. DetailIs d ∈ details_world kept) (same day)
              (at_kept kept (meter_on meter day) (subst (Member day) is m)))),
        )),
      );
      ascending = in_turn asked others left lacks all.1;
    }
