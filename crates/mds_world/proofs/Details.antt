-- The current details of a day: there are some, and no others; and what they are by the nearest day that has any.
use Rattle.std.specs.Prelude.{◌≡◌, ◌⊎◌, ℕ, ◌≤◌, true, refl}
use Rattle.std.proofs.Common.{sym, ap, ◌∙◌, subst, inl, inr, arith}
use Rattle.std.specs.Cmp.{IsTotalOrder, nat_cmp_total, on_total, then_total}
use Rattle.std.specs.Ordering.{is_le, nat_cmp, ordering_then}
use Rattle.std.specs.declared.cmp.Ordering.{Ordering}
use Rattle.std.specs.declared.cmp.Ordering.TheVariants.{Less, Equal, Greater}
use Rattle.mds_names.specs.declared.stream.Stream.{Stream}
use Rattle.mds_terms.specs.Details.{DetailsValue, details_cmp}
use Rattle.mds_terms.proofs.TermOrder.{details_exact}
use Rattle.mds_terms.specs.TermOrder.{details_total}
use Rattle.mds_world.specs.declared.facts.Detail.{Detail}
use Rattle.mds_world.specs.Current.{IsCurrentDetails, detail_cmp, no_details}
use Rattle.mds_world.specs.FactCodes.{coded_stream}
use Rattle.mds_world.specs.FactOrder.{exact, total}
use Rattle.mds_world.specs.Facts.{Fact}
use Rattle.mds_world.specs.Facts.Fact.{HeadIs, VersionIs, DetailIs, EventIs, PeriodIs, HolidayIs, JobIs}
use Rattle.mds_world.specs.Order.{coded_total, coded_exact}
use Rattle.mds_world.specs.Sets.{◌∈◌}
use Rattle.mds_world.specs.World.{World}
use Rattle.mds_world.proofs.Greatest.{greatest_or_none}
use Rattle.mds_world.proofs.Orders.{le_both, le_or_lt, one_or_not}

pub detail_total : IsTotalOrder detail_cmp
detail_total =
    then_total (on_total (λ (d : Detail). d.day) nat_cmp_total)
    (then_total (on_total (λ (d : Detail). d.moment) nat_cmp_total) (on_total (λ (d : Detail). d.details) details_total))

tied_rest : (first : Ordering) (a b : DetailsValue) → ordering_then first (details_cmp a b) ≡ Equal → a ≡ b
tied_rest Less a b e = cc
tied_rest Equal a b e = details_exact a b e
tied_rest Greater a b e = cc

tied_then : (first second : Ordering) (a b : DetailsValue)
    → ordering_then first (ordering_then second (details_cmp a b)) ≡ Equal → a ≡ b
tied_then Less second a b e = cc
tied_then Equal second a b e = tied_rest second a b e
tied_then Greater second a b e = cc

-- details up to each other are the same
pub same_by_both : (a b : Detail) → is_le (detail_cmp a b) ≡ true → is_le (detail_cmp b a) ≡ true → a.details ≡ b.details
same_by_both a b up down =
    tied_then (nat_cmp a.day b.day) (nat_cmp a.moment b.moment) a.details b.details (le_both detail_total a b up down)

-- a day has one current details
pub one_details : (w : World) (stream : Stream) (day : ℕ) (d e : DetailsValue) → IsCurrentDetails w stream day d
    → IsCurrentDetails w stream day e → d ≡ e
one_details w stream day d e (inl (a, g, x)) (inl (b, h, y)) =
    x ∙ same_by_both a b (h.greatest a g.held) (g.greatest b h.held) ∙ sym y
one_details w stream day d e (inl (a, g, x)) (inr (none, y)) = absurd (none a g.held)
one_details w stream day d e (inr (none, x)) (inl (b, h, y)) = absurd (none b h.held)
one_details w stream day d e (inr (none, x)) (inr (never, y)) = x ∙ sym y

-- ---- there are some

-- the fact is of these details, of the stream, of a day up to this one
abbrev Says : Stream → ℕ → Fact → Detail → Type 0
Says stream day f d = (f ≡ DetailIs d) × (d.stream ≡ stream) × (d.day ≤ day)

same_detail : (d e : Detail) → DetailIs d ≡ DetailIs e → d ≡ e
same_detail d e h = cc

sorts : (stream : Stream) (day : ℕ) (f : Fact) → ((d : Detail) × Says stream day f d) ⊎ ((d : Detail) → Says stream day f d → ⊥)
sorts stream day (DetailIs d) = elim (one_or_not (coded_total coded_stream) (coded_exact coded_stream) d.stream stream) [
  | inl same ↦ elim (le_or_lt d.day day) [
    | inl within ↦ inl (d, (refl, same, within))
    | inr after ↦ inr (λ e h.
        let is : d ≡ e = same_detail d e h.0 in
        let at : d.day ≡ e.day = ap (λ (x : Detail). x.day) is in
        let upto = h.2 in
        absurd (omega (arith, at, upto, after)))
  ]
  | inr other ↦ inr (λ e h. other (ap (λ (x : Detail). x.stream) (same_detail d e h.0) ∙ h.1))
]
sorts stream day (HeadIs x) = inr (λ e h. let z = h.0 in cc)
sorts stream day (VersionIs x y) = inr (λ e h. let z = h.0 in cc)
sorts stream day (EventIs x) = inr (λ e h. let z = h.0 in cc)
sorts stream day (PeriodIs x y) = inr (λ e h. let z = h.0 in cc)
sorts stream day (HolidayIs x) = inr (λ e h. let z = h.0 in cc)
sorts stream day (JobIs x y z) = inr (λ e h. let z = h.0 in cc)

one_said : (stream : Stream) (day : ℕ) (f : Fact) (d e : Detail) → Says stream day f d → Says stream day f e → e ≡ d
one_said stream day f d e a b = same_detail e d (sym b.0 ∙ a.0)

-- each day has current details
pub some_details : (w : World) (stream : Stream) (day : ℕ) → (d : DetailsValue) × IsCurrentDetails w stream day d
some_details w stream day =
    elim (greatest_or_none detail_total (Says stream day) (sorts stream day) (one_said stream day) total exact w) [
      | inl t ↦ (
        t.0.details,
        inl (
          t.0,
          record {
            held = (subst (λ g. g ∈ w) t.1.2.0 t.1.1, t.1.2.1, t.1.2.2);
            greatest = λ other h. t.2 (DetailIs other) other h.0 (refl, h.1, h.2);
          },
          refl,
        ),
      )
      | inr none ↦ (no_details, inr ((λ other h. none (DetailIs other) other h.0 (refl, h.1, h.2)), refl))
    ]
