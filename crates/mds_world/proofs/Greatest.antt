-- Of the members of a finite set that are of a kind there is a greatest, or there is none.
use Rattle.std.specs.Prelude.{◌≡◌, ◌⊎◌, List, [], ◌∷◌, true, refl}
use Rattle.std.proofs.Common.{sym, ◌∙◌, subst, inl, inr}
use Rattle.std.specs.declared.cmp.Ordering.{Ordering}
use Rattle.std.specs.Ordering.{is_le}
use Rattle.std.specs.Cmp.{IsTotalOrder}
use Rattle.std.specs.FinSet as set
use Rattle.mds_world.proofs.Sets.{in_list, list_in}
use Rattle.std.specs.FinSet.{FinSet, IsAntisymmetric}
use Rattle.mds_world.proofs.Orders.{le_either, le_self, le_then}
use Rattle.mds_world.specs.Lists.{Member}
use Rattle.mds_world.specs.Sets.{◌∈◌}

module _ {K : Type 0} {R : K → K → Ordering} (total : IsTotalOrder R) (exact : IsAntisymmetric R) where
  -- the members of a set are those of its list
  pub of_items : (w : FinSet R) (f : K) → f ∈ w → Member f (set.items w)
  of_items w f h =
      in_list total exact (set.items w) f (set.contains-from_list total (set.items w) f ∙ sym (set.contains-items w f) ∙ h)

  -- both ways
  pub items_of : (w : FinSet R) (f : K) → Member f (set.items w) → f ∈ w
  items_of w f m =
      set.contains-items w f ∙ sym (set.contains-from_list total (set.items w) f) ∙ list_in total exact (set.items w) f m

module _ {Fact : Type 0} {V : Type 0} {S : V → V → Ordering} (o : IsTotalOrder S) (P : Fact → V → Type 0)
    (sorts : (f : Fact) → ((v : V) × P f v) ⊎ ((v : V) → P f v → ⊥)) (one : (f : Fact) (v u : V) → P f v → P f u → u ≡ v)
  where
    abbrev TopOf : List Fact → Type 0
    TopOf ks = (value : V) × ((from : Fact) × Member from ks × P from value)
        × ((f : Fact) (v : V) → Member f ks → P f v → is_le (S v value) ≡ true)

    abbrev NoneOf : List Fact → Type 0
    NoneOf ks = (f : Fact) (v : V) → Member f ks → P f v → ⊥

    first_top : (k : Fact) (ks : List Fact) (v : V) → P k v → NoneOf ks → TopOf (k ∷ ks)
    first_top k ks v h none = (
      v,
      (k, inl refl, h),
      (λ f u m p. elim m [
        | inl e ↦ subst (λ x. is_le (S x v) ≡ true) (sym (one k v u h (subst (λ g. P g u) e p))) (le_self o v)
        | inr n ↦ absurd (none f u n p)
      ]),
    )

    more_top : (k : Fact) (ks : List Fact) (v : V) → P k v → TopOf ks → TopOf (k ∷ ks)
    more_top k ks v h t = elim (le_either o v t.0) [
      | inl up ↦ (
        t.0,
        (t.1.0, inr t.1.1, t.1.2),
        (λ f u m p. elim m [
          | inl e ↦ subst (λ x. is_le (S x t.0) ≡ true) (sym (one k v u h (subst (λ g. P g u) e p))) up
          | inr n ↦ t.2 f u n p
        ]),
      )
      | inr down ↦ (
        v,
        (k, inl refl, h),
        (λ f u m p. elim m [
          | inl e ↦ subst (λ x. is_le (S x v) ≡ true) (sym (one k v u h (subst (λ g. P g u) e p))) (le_self o v)
          | inr n ↦ le_then o u t.0 v (t.2 f u n p) down
        ]),
      )
    ]

    same_top : (k : Fact) (ks : List Fact) → ((v : V) → P k v → ⊥) → TopOf ks → TopOf (k ∷ ks)
    same_top k ks never t = (
      t.0,
      (t.1.0, inr t.1.1, t.1.2),
      (λ f u m p. elim m [ inl e ↦ absurd (never u (subst (λ g. P g u) e p)) | inr n ↦ t.2 f u n p ]),
    )

    no_top : (k : Fact) (ks : List Fact) → ((v : V) → P k v → ⊥) → NoneOf ks → NoneOf (k ∷ ks)
    no_top k ks never none f u m p =
        elim m [ inl e ↦ never u (subst (λ g. P g u) e p) | inr n ↦ none f u n p ]

    top_or_none : (ks : List Fact) → TopOf ks ⊎ NoneOf ks
    top_or_none [] = inr (λ f v m p. m)
    top_or_none (k ∷ ks) = elim (sorts k) [
      | inl a ↦ inl (elim (top_or_none ks) [ inl t ↦ more_top k ks a.0 a.1 t | inr n ↦ first_top k ks a.0 a.1 n ])
      | inr b ↦ elim (top_or_none ks) [ inl t ↦ inl (same_top k ks b t) | inr n ↦ inr (no_top k ks b n) ]
    ]

    -- the greatest of a set
    pub greatest_or_none : {R : Fact → Fact → Ordering} → IsTotalOrder R → IsAntisymmetric R → (w : FinSet R)
        → ((value : V) × ((from : Fact) × (from ∈ w) × P from value)
        × ((f : Fact) (v : V) → f ∈ w → P f v → is_le (S v value) ≡ true))
        ⊎ ((f : Fact) (v : V) → f ∈ w → P f v → ⊥)
    greatest_or_none total exact w = elim (top_or_none (set.items w)) [
      | inl t ↦ inl (
        t.0,
        (t.1.0, items_of total exact w t.1.0 t.1.1, t.1.2),
        (λ f v h p. t.2 f v (of_items total exact w f h) p),
      )
      | inr n ↦ inr (λ f v h p. n f v (of_items total exact w f h) p)
    ]
