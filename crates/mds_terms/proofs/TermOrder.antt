-- Details, events and texts that compare alike are one.
use Rattle.std.specs.Prelude.{◌≡◌, ℕ, List, true, Some, None, refl}
use Rattle.std.proofs.Common.{ap, subst}
use Rattle.std.specs.Bool.{Decides}
use Rattle.std.specs.Cmp.{IsTotalOrder, Equal-is, tied_itself}
use Rattle.std.specs.Cmp.Lexicographic.{slice_cmp, nat_list_cmp_total}
use Rattle.std.specs.FinSet.{IsAntisymmetric, nat_cmp-IsAntisymmetric, slice_cmp-IsAntisymmetric}
use Rattle.std.specs.Option.{option_cmp}
use Rattle.std.specs.Ordering.{eq_by_cmp, nat_cmp, ordering_then}
use Rattle.std.specs.declared.cmp.Ordering.{Ordering}
use Rattle.std.specs.declared.cmp.Ordering.TheVariants.{Less, Equal, Greater}
use Rattle.mds_terms.specs.Details.{DetailsValue, details_cmp}
use Rattle.mds_terms.specs.Event.{EventValue, event_cmp}
use Rattle.mds_terms.specs.TermOrder.{details_total, event_total}

-- orders that follow each other may be read from the front or from the end
pub in_turn : (a b c : Ordering) → ordering_then (ordering_then a b) c ≡ ordering_then a (ordering_then b c)
in_turn Less b c = refl
in_turn Equal b c = refl
in_turn Greater b c = refl

-- where two orders that follow each other tie, both do, and the first at one value
tie : {K : Type 0} {R : K → K → Ordering} → IsAntisymmetric R → (x y : K) (rest : Ordering) → ordering_then (R x y) rest ≡ Equal → (x ≡ y) × (rest ≡ Equal)
tie {K} {R} same x y rest e = by (R x y) refl e
  where
    by : (r : Ordering) → R x y ≡ r → ordering_then r rest ≡ Equal → (x ≡ y) × (rest ≡ Equal)
    by Less p t = cc t
    by Equal p t = (same x y p, t)
    by Greater p t = cc t

-- texts that compare alike are one
text_exact : IsAntisymmetric (slice_cmp nat_cmp)
text_exact = slice_cmp-IsAntisymmetric nat_cmp-IsAntisymmetric

-- and so are numbers that may be absent
option_exact : IsAntisymmetric (option_cmp nat_cmp)
option_exact None None e = refl
option_exact None (Some y) e = cc e
option_exact (Some x) None e = cc e
option_exact (Some x) (Some y) e = ap Some (nat_cmp-IsAntisymmetric x y e)

-- details that compare alike are one
pub details_exact : IsAntisymmetric details_cmp
unfolding details_cmp
details_exact x y e =
    let a = tie text_exact x.configuration y.configuration _ e in
    let b = tie text_exact x.register y.register _ a.1 in
    let c = tie text_exact x.datastream y.datastream _ b.1 in
    let d = tie text_exact x.meter y.meter _ c.1 in
    λ i. record {
      configuration = a.0 i;
      register = b.0 i;
      datastream = c.0 i;
      meter = d.0 i;
      next = option_exact x.next y.next d.1 i;
    }

-- events that compare alike are one
pub event_exact : IsAntisymmetric event_cmp
unfolding event_cmp
event_exact x y e =
    let a = tie text_exact x.nmi y.nmi _ e in
    let b = tie text_exact x.suffix y.suffix _ a.1 in
    let c = tie nat_cmp-IsAntisymmetric x.day y.day _ b.1 in
    let d = tie option_exact x.trans y.trans _ c.1 in
    let f = tie text_exact x.ticket y.ticket _ d.1 in
    let g = tie option_exact x.moment y.moment _ f.1 in
    λ i. record {
      nmi = a.0 i;
      suffix = b.0 i;
      day = c.0 i;
      trans = d.0 i;
      ticket = f.0 i;
      moment = g.0 i;
      reading = text_exact x.reading y.reading g.1 i;
    }

-- an order that ties at one value alone decides which values are the same
decides : {K : Type 0} {R : K → K → Ordering} → IsTotalOrder R → IsAntisymmetric R → (x y : K) → Decides (eq_by_cmp R x y) (x ≡ y)
decides {K} {R} total exact x y = (
  λ t. exact x y ((Equal-is (R x y)).0 t),
  λ e. subst (λ z. eq_by_cmp R x z ≡ true) e ((Equal-is (R x x)).1 (tied_itself total x)),
)

-- so what compares alike tells whether details say the same
pub details_decided : (x y : DetailsValue) → Decides (eq_by_cmp details_cmp x y) (x ≡ y)
details_decided = decides details_total details_exact

-- and whether events do
pub event_decided : (x y : EventValue) → Decides (eq_by_cmp event_cmp x y) (x ≡ y)
event_decided = decides event_total event_exact

-- and whether texts are one
pub text_decided : (x y : List ℕ) → Decides (eq_by_cmp (slice_cmp nat_cmp) x y) (x ≡ y)
text_decided = decides nat_list_cmp_total text_exact
