-- The greatest details up to a day are the greatest pair of the nearest day that has some.
use Rattle.std.specs.Prelude.{◌≡◌, ◌↔◌, ℕ, ◌<◌, true, refl}
use Rattle.std.proofs.Common.{sym, ◌∙◌, inl, inr, arith}
use Rattle.std.proofs.lemmas.Bool.Decides.{nat_tests}
use Rattle.std.specs.Ordering.{is_le, nat_cmp, ordering_then}
use Rattle.std.specs.declared.cmp.Ordering.{Ordering}
use Rattle.std.specs.declared.cmp.Ordering.TheVariants.{Less, Equal, Greater}
use Rattle.mds_names.specs.declared.stream.Stream.{Stream}
use Rattle.mds_terms.specs.Details.{DetailsValue}
use Rattle.mds_world.specs.declared.facts.Detail.{Detail}
use Rattle.mds_world.specs.Current.{IsCurrentDetails, IsNearestDetails, IsUpto, detail_cmp}
use Rattle.mds_world.specs.World.{World}
use Rattle.mds_world.proofs.Orders.{le_or_lt}
use Rattle.mds_world.proofs.Returned.{day_upto}

same_cmp : (m n : ℕ) → m ≡ n → nat_cmp m n ≡ Equal
same_cmp m n e = grind (arith, nat_tests)

less_cmp : (m n : ℕ) → m < n → nat_cmp m n ≡ Less
less_cmp m n l = grind (arith, nat_tests)

rest_of : (o rest : Ordering) → o ≡ Equal → is_le (ordering_then o rest) ≡ true → is_le rest ≡ true
rest_of Less rest e h = cc
rest_of Equal rest e h = h
rest_of Greater rest e h = cc

of_rest : (o rest : Ordering) → o ≡ Equal → is_le rest ≡ true → is_le (ordering_then o rest) ≡ true
of_rest Less rest e h = cc
of_rest Equal rest e h = h
of_rest Greater rest e h = cc

of_less : (o rest : Ordering) → o ≡ Less → is_le (ordering_then o rest) ≡ true
of_less Less rest e = refl
of_less Equal rest e = cc
of_less Greater rest e = cc

there : (w : World) (stream : Stream) (day : ℕ) (x : DetailsValue) → IsCurrentDetails w stream day x
    → IsNearestDetails w stream day x
there w stream day x (inl (a, g, e)) = inl (
  a.day,
  a,
  g.held.2,
  record {
    held = (g.held.0, g.held.1, omega (arith));
    here = refl;
    greatest = λ other h same.
        let bound = g.held.2 in
        let upto = h.2 in
        rest_of _ _ (same_cmp other.day a.day same) (g.greatest other (h.0, h.1, omega (arith, bound, upto)));
  },
  (λ other h. day_upto other a (g.greatest other h)),
  e,
)
there w stream day x (inr none) = inr none

back : (w : World) (stream : Stream) (day : ℕ) (x : DetailsValue) → IsNearestDetails w stream day x
    → IsCurrentDetails w stream day x
back w stream day x (inl (of, a, within, g, none, e)) =
    let here = g.here in
    inl (a, record { held = (g.held.0, g.held.1, omega (arith, here, within)); greatest = upto }, e)
  where
    upto : (other : Detail) → IsUpto w stream day other → is_le (detail_cmp other a) ≡ true
    upto other h =
        let last = none other h in
        let here = g.here in
        elim (le_or_lt of other.day) [
          | inl le ↦
              let same : other.day ≡ of = omega (arith, last, le) in
              of_rest _ _ (same_cmp other.day a.day (same ∙ sym here))
              (g.greatest other (h.0, h.1, last) same)
          | inr lt ↦ of_less _ _ (less_cmp other.day a.day (omega (arith, lt, here)))
        ]
back w stream day x (inr none) = inr none

pub nearest : (w : World) (stream : Stream) (day : ℕ) (x : DetailsValue)
    → IsCurrentDetails w stream day x ↔ IsNearestDetails w stream day x
nearest w stream day x = (there w stream day x, back w stream day x)
