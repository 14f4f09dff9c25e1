-- Lists that are made of parts in turn.
use Rattle.std.proofs.Common.{◌≡◌, List, [], ◌∷◌, ◌++◌, refl, sym, ◌∙◌, ap, append_assoc}
use Rattle.std.proofs.lemmas.List.{append-nil}
use Rattle.mds_export.specs.Exports.{AreInTurn}

-- of one thing
pub turn_one : {T A : Type 0} (Is : T → List A → Type 0) (x : T) (all : List A) → Is x all → AreInTurn Is (x ∷ []) all
turn_one Is x all h = (all, [], sym (append-nil all), h, refl)

-- of a thing and others
pub turn_cons : {T A : Type 0} (Is : T → List A → Type 0) (x : T) (xs : List T) (a b : List A) → Is x a → AreInTurn Is xs b
    → AreInTurn Is (x ∷ xs) (a ++ b)
turn_cons Is x xs a b h g = (a, b, refl, h, g)

-- of some things and others
pub turn_append : {T A : Type 0} (Is : T → List A → Type 0) (xs ys : List T) (a b : List A) → AreInTurn Is xs a → AreInTurn Is ys b
    → AreInTurn Is (xs ++ ys) (a ++ b)
turn_append Is [] ys a b h g = at (a ++ b) (ap (λ t. t ++ b) h) where
  at : (all : List _) → all ≡ b → AreInTurn Is ys all
  at all e = same Is ys b all (sym e) g where
    same : {T A : Type 0} (Is : T → List A → Type 0) (ys : List T) (b all : List A) → b ≡ all → AreInTurn Is ys b → AreInTurn Is ys all
    same Is [] b all e g = sym e ∙ g
    same Is (y ∷ ys) b all e g = (g.0, g.1, sym e ∙ g.2, g.3, g.4)
turn_append Is (x ∷ xs) ys a b h g =
    let rest = turn_append Is xs ys h.1 b h.4 g in
    (h.0, h.1 ++ b, ap (λ t. t ++ b) h.2 ∙ append_assoc h.0 h.1 b, h.3, rest)

-- and one more
pub turn_push : {T A : Type 0} (Is : T → List A → Type 0) (xs : List T) (x : T) (a b : List A) → AreInTurn Is xs a → Is x b
    → AreInTurn Is (xs ++ x ∷ []) (a ++ b)
turn_push Is xs x a b h g = turn_append Is xs (x ∷ []) a b h (turn_one Is x b g)

-- parts that are something else too
pub turn_map : {T A : Type 0} (Is Also : T → List A → Type 0) → ((x : T) (part : List A) → Is x part → Also x part)
    → (xs : List T) (all : List A) → AreInTurn Is xs all → AreInTurn Also xs all
turn_map Is Also more [] all h = h
turn_map Is Also more (x ∷ xs) all h = (h.0, h.1, h.2, more x h.0 h.3, turn_map Is Also more xs h.1 h.4)

-- the parts of some things, and those of others
pub turn_split : {T A : Type 0} (Is : T → List A → Type 0) (xs ys : List T) (all : List A) → AreInTurn Is (xs ++ ys) all
    → (a b : List A) × (all ≡ a ++ b) × AreInTurn Is xs a × AreInTurn Is ys b
turn_split Is [] ys all h = ([], all, refl, refl, h)
turn_split Is (x ∷ xs) ys all h =
    let rest = turn_split Is xs ys h.1 h.4 in (
      h.0 ++ rest.0,
      rest.1,
      h.2 ∙ ap (λ t. h.0 ++ t) rest.2 ∙ sym (append_assoc h.0 rest.0 rest.1),
      (h.0, rest.0, refl, h.3, rest.3),
      rest.4,
    )
