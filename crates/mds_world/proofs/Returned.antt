-- Details that come back to their World: current ones of some days, each under that day.
use Rattle.std.specs.Prelude.{◌≡◌, ℕ, ◌<◌, ◌≤◌, true, refl}
use Rattle.std.proofs.Common.{sym, ◌∙◌, subst, inl, inr, arith}
use Rattle.std.proofs.lemmas.Bool.Decides.{nat_tests}
use Rattle.std.specs.Ordering.{is_le, nat_cmp, ordering_then}
use Rattle.std.specs.declared.cmp.Ordering.{Ordering}
use Rattle.std.specs.declared.cmp.Ordering.TheVariants.{Less, Equal, Greater}
use Rattle.mds_names.specs.declared.stream.Stream.{Stream}
use Rattle.mds_terms.specs.Details.{DetailsValue}
use Rattle.mds_world.specs.declared.facts.Detail.{Detail}
use Rattle.mds_world.specs.Current.{DetailsComeFrom, HasSameDetails, IsCurrentDetails, IsUpto, detail_cmp, no_details}
use Rattle.mds_world.specs.Facts.Fact.{DetailIs}
use Rattle.mds_world.specs.Sets.{◌∈◌}
use Rattle.mds_world.specs.World.{World, union}
use Rattle.mds_world.proofs.Details.{one_details, same_by_both, some_details}
use Rattle.mds_world.proofs.Members.{in_union, union_left}
use Rattle.mds_world.proofs.Orders.{le_or_lt}

-- what is up to other details is of no later day
pub day_upto : (a b : Detail) → is_le (detail_cmp a b) ≡ true → a.day ≤ b.day
day_upto a b h = elim (le_or_lt a.day b.day) [
  | inl le ↦ le
  | inr lt ↦ absurd (no (nat_cmp a.day b.day) _ (greater a.day b.day lt) h)
]
  where
    greater : (m n : ℕ) → n < m → nat_cmp m n ≡ Greater
    greater m n l = grind (arith, nat_tests)

    no : (o rest : Ordering) → o ≡ Greater → is_le (ordering_then o rest) ≡ true → ⊥
    no Less rest e h = cc
    no Equal rest e h = cc
    no Greater rest e h = cc

-- two that agree on each value are the same
same_values : (a b : World) (stream : Stream) (day : ℕ)
    → ((x y : DetailsValue) → IsCurrentDetails a stream day x → IsCurrentDetails b stream day y → x ≡ y)
    → HasSameDetails a b stream day
same_values a b stream day h d = (
  (λ p. let y = some_details b stream day in
      subst (IsCurrentDetails b stream day) (sym (h d y.0 p y.1)) y.1),
  (λ q. let x = some_details a stream day in
      subst (IsCurrentDetails a stream day) (h x.0 d x.1 q) x.1),
)

module _ (w back : World) (from : DetailsComeFrom w back) where
  -- beside what was there they change no day, selected or not
  beside : (stream : Stream) (day : ℕ) (x y : DetailsValue) → IsCurrentDetails w stream day x
      → IsCurrentDetails (union w back) stream day y → x ≡ y
  beside stream day x y (inl (a, g, e)) (inl (b, h, f)) =
      let up : is_le (detail_cmp a b) ≡ true =
      h.greatest a (union_left w back (DetailIs a) g.held.0, g.held.1, g.held.2) in
      elim (in_union w back (DetailIs b) h.held.0) [
        | inl there ↦ e ∙ same_by_both a b up (g.greatest b (there, h.held.1, h.held.2)) ∙ sym f
        | inr came ↦ e ∙ by (from b came) up ∙ sym f
      ]
    where
      by : IsCurrentDetails w b.stream b.day b.details → is_le (detail_cmp a b) ≡ true → a.details ≡ b.details
      by (inl (c, k, i)) up =
          let of_a : IsUpto w b.stream b.day a = (g.held.0, g.held.1 ∙ sym h.held.1, day_upto a b up) in
          let last = k.held.2 in
          let bound = h.held.2 in
          let of_c : IsUpto w stream day c = (k.held.0, k.held.1 ∙ h.held.1, omega (arith, last, bound)) in
          same_by_both a c (k.greatest a of_a) (g.greatest c of_c) ∙ sym i
      by (inr (none, i)) up = absurd (none a (g.held.0, g.held.1 ∙ sym h.held.1, day_upto a b up))
  beside stream day x y (inl (a, g, e)) (inr (none, f)) =
      absurd (none a (union_left w back (DetailIs a) g.held.0, g.held.1, g.held.2))
  beside stream day x y (inr (none, e)) (inl (b, h, f)) = elim (in_union w back (DetailIs b) h.held.0) [
    | inl there ↦ absurd (none b (there, h.held.1, h.held.2))
    | inr came ↦ e ∙ by (from b came) ∙ sym f
  ]
    where
      by : IsCurrentDetails w b.stream b.day b.details → no_details ≡ b.details
      by (inl (c, k, i)) =
          let last = k.held.2 in
          let bound = h.held.2 in
          absurd (none c (k.held.0, k.held.1 ∙ h.held.1, omega (arith, last, bound)))
      by (inr (never, i)) = sym i
  beside stream day x y (inr (none, e)) (inr (never, f)) = e ∙ sym f

  pub details_beside : (stream : Stream) (day : ℕ) → HasSameDetails w (union w back) stream day
  details_beside stream day = same_values w (union w back) stream day (beside stream day)

  -- alone they are current on the days that have them
  pub details_alone : (detail : Detail) → DetailIs detail ∈ back → HasSameDetails w back detail.stream detail.day
  details_alone detail here = same_values w back detail.stream detail.day by
    where
      by : (x y : DetailsValue) → IsCurrentDetails w detail.stream detail.day x
          → IsCurrentDetails back detail.stream detail.day y → x ≡ y
      by x y p (inl (b, h, f)) =
          let below = h.held.2 in
          let above = day_upto detail b (h.greatest detail (here, refl, omega (arith))) in
          let same : b.day ≡ detail.day = omega (arith, below, above) in
          let of_b : IsCurrentDetails w detail.stream detail.day b.details =
          subst (λ n. IsCurrentDetails w detail.stream n b.details) same
          (subst (λ s. IsCurrentDetails w s b.day b.details) h.held.1 (from b h.held.0)) in
          one_details w detail.stream detail.day x b.details p of_b ∙ sym f
      by x y p (inr (none, f)) = absurd (none detail (here, refl, omega (arith)))
