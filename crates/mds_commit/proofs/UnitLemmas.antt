-- The unit of a day, as rows of mds_head say it.
use Rattle.std.proofs.Common.{◌≡◌, inl, inr, ℕ, List, [], ◌∷◌, true, false, cond, refl, sym, ap, subst, ◌∙◌}
use Rattle.std.specs.Cmp.{Equal-is, tied_itself}
use Rattle.std.specs.FinSet.{nat_cmp-IsAntisymmetric, slice_cmp-IsAntisymmetric}
use Rattle.std.specs.Ordering.{is_eq, ordering_then}
use Rattle.std.specs.declared.cmp.Ordering.{Ordering}
use Rattle.std.specs.declared.cmp.Ordering.TheVariants.{Less, Equal, Greater}
use Rattle.sqlite_value.specs.Order.{Row}
use Rattle.mds_quantity.specs.declared.unit.Unit.{Unit as MeasureUnit}
use Rattle.mds_world.specs.Lists.{Member}
use Rattle.mds_world.specs.StreamDays.{stream_day_cmp, stream_day_total}
use Rattle.mds_world.specs.declared.facts.StreamDay.{StreamDay}
use Rattle.mds_tables.specs.RowFacts.{text_at, unit_named}
use Rattle.mds_pack_rows.specs.FormLayout.{day_in, unit_in}

both_tied : (a b : Ordering) → ordering_then a b ≡ Equal → (a ≡ Equal) × (b ≡ Equal)
both_tied Less b tied = absurd (cc)
both_tied Equal b tied = (refl, tied)
both_tied Greater b tied = absurd (cc)

-- days of streams that tie are one
pub one_day : (a b : StreamDay) → is_eq (stream_day_cmp a b) ≡ true → a ≡ b
one_day a b tied =
    let parts = both_tied _ _ ((Equal-is (stream_day_cmp a b)).0 tied) in
    let names = both_tied _ _ parts.0 in
    let nmi : a.stream.nmi ≡ b.stream.nmi = slice_cmp-IsAntisymmetric nat_cmp-IsAntisymmetric _ _ names.0 in
    let suffix : a.stream.suffix ≡ b.stream.suffix = slice_cmp-IsAntisymmetric nat_cmp-IsAntisymmetric _ _ names.1 in
    let day : a.day ≡ b.day = nat_cmp-IsAntisymmetric _ _ parts.1 in
    λ i. record { stream = record { nmi = nmi i; suffix = suffix i }; day = day i }

pub day_ties : (a b : StreamDay) → a ≡ b → is_eq (stream_day_cmp a b) ≡ true
day_ties a b same = subst (λ d. is_eq (stream_day_cmp a d) ≡ true) same (ap is_eq (tied_itself stream_day_total a))

-- Where a row of mds_head is of the day that a row begins with, and all rows of that day say one unit, this is the unit found.
pub unit_found : (heads : List Row) (row : Row) (unit : MeasureUnit) (head : Row) → Member head heads → day_in head ≡ day_in row
    → ((other : Row) → Member other heads → day_in other ≡ day_in row → unit_named (text_at other 5) ≡ unit) → unit_in heads row ≡ unit
unit_found [] row unit head m same all = absurd m
unit_found (h ∷ hs) row unit head m same all =
    elim (is_eq (stream_day_cmp (day_in h) (day_in row))) as (λ b. is_eq (stream_day_cmp (day_in h) (day_in row)) ≡ b
    → cond b (unit_named (text_at h 5)) (unit_in hs row) ≡ unit) [
      | true ↦ λ tied. all h (inl refl) (one_day (day_in h) (day_in row) tied)
      | false ↦ λ apart. elim m [
        | inl e ↦ absurd (let here = day_ties (day_in h) (day_in row) (ap day_in (sym e) ∙ same) in cc)
        | inr n ↦ unit_found hs row unit head n same (λ other k. all other (inr k))
      ]
    ] refl

-- the same, where they say one text
pub text_found : (heads : List Row) (row : Row) (text : List ℕ) (head : Row) → Member head heads → day_in head ≡ day_in row
    → ((other : Row) → Member other heads → day_in other ≡ day_in row → text_at other 5 ≡ text) → unit_in heads row ≡ unit_named text
text_found heads row text head m same all =
    unit_found heads row (unit_named text) head m same (λ other n on. ap unit_named (all other n on))
