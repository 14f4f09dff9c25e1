-- The members of lists that are made of others.
use Rattle.std.specs.Prelude.{◌≡◌, ◌⊎◌, List, [], ◌∷◌, ◌++◌, refl}
use Rattle.std.proofs.Common.{sym, ap, subst, inl, inr}
use Rattle.std.specs.Prelude.{map}
use Rattle.std.specs.List.{flat_map}
use Rattle.mds_world.specs.Lists.{Apart, Member}

pub member_append : {K : Type 0} (x : K) (ks ls : List K) → Member x (ks ++ ls) → Member x ks ⊎ Member x ls
member_append x [] ls m = inr m
member_append x (k ∷ ks) ls (inl e) = inl (inl e)
member_append x (k ∷ ks) ls (inr m) = elim (member_append x ks ls m) [ inl a ↦ inl (inr a) | inr b ↦ inr b ]

pub append_left : {K : Type 0} (x : K) (ks ls : List K) → Member x ks → Member x (ks ++ ls)
append_left x [] ls m = absurd m
append_left x (k ∷ ks) ls (inl e) = inl e
append_left x (k ∷ ks) ls (inr m) = inr (append_left x ks ls m)

pub append_right : {K : Type 0} (x : K) (ks ls : List K) → Member x ls → Member x (ks ++ ls)
append_right x [] ls m = m
append_right x (k ∷ ks) ls m = inr (append_right x ks ls m)

pub apart_push : {K : Type 0} (x : K) (ks : List K) → Apart ks → (Member x ks → ⊥) → Apart (ks ++ x ∷ [])
apart_push x [] a n = ((λ m. m), tt)
apart_push x (k ∷ ks) a n = (
  (λ m. elim (member_append k ks (x ∷ []) m) [ inl b ↦ a.0 b | inr b ↦ elim b [ inl e ↦ n (inl (sym e)) | inr z ↦ z ] ]),
  apart_push x ks a.1 (λ m. n (inr m)),
)

pub apart_append : {K : Type 0} (ks ls : List K) → Apart ks → Apart ls → ((x : K) → Member x ks → Member x ls → ⊥)
    → Apart (ks ++ ls)
apart_append [] ls a b n = b
apart_append (k ∷ ks) ls a b n = (
  (λ m. elim (member_append k ks ls m) [ inl x ↦ a.0 x | inr y ↦ n k (inl refl) y ]),
  apart_append ks ls a.1 b (λ x m o. n x (inr m) o),
)

pub in_flat : {A B : Type 0} (f : A → List B) (xs : List A) (b : B) → Member b (flat_map f xs)
    → (a : A) × Member a xs × Member b (f a)
in_flat f [] b m = absurd m
in_flat f (x ∷ xs) b m = elim (member_append b (f x) (flat_map f xs) m) [
  | inl p ↦ (x, inl refl, p)
  | inr p ↦ let r = in_flat f xs b p in (r.0, inr r.1, r.2)
]

pub flat_in : {A B : Type 0} (f : A → List B) (xs : List A) (b : B) (a : A) → Member a xs → Member b (f a)
    → Member b (flat_map f xs)
flat_in f [] b a m n = absurd m
flat_in f (x ∷ xs) b a (inl e) n = append_left b (f x) (flat_map f xs) (subst (λ y. Member b (f y)) e n)
flat_in f (x ∷ xs) b a (inr m) n = append_right b (f x) (flat_map f xs) (flat_in f xs b a m n)

pub in_map : {A B : Type 0} (f : A → B) (xs : List A) (b : B) → Member b (map f xs) → (a : A) × Member a xs × (b ≡ f a)
in_map f [] b m = absurd m
in_map f (x ∷ xs) b (inl e) = (x, inl refl, e)
in_map f (x ∷ xs) b (inr m) = let r = in_map f xs b m in (r.0, inr r.1, r.2)

pub map_in : {A B : Type 0} (f : A → B) (xs : List A) (a : A) → Member a xs → Member (f a) (map f xs)
map_in f [] a m = absurd m
map_in f (x ∷ xs) a (inl e) = inl (ap f e)
map_in f (x ∷ xs) a (inr m) = inr (map_in f xs a m)
