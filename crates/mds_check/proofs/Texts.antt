-- Texts that grow.
use Rattle.std.proofs.Common.{◌≡◌, ℕ, List, Result, Ok, Err, cond, ◌++◌, is_ok, OnOk, ◌∙◌, ap, append_assoc}

-- a text that grew by a front grows by a part
pub more : (old text new front part : List ℕ) → text ≡ old ++ front → new ≡ text ++ part → new ≡ old ++ (front ++ part)
more old text new front part e h = h ∙ ap (λ t. t ++ part) e ∙ append_assoc old front part

-- whose bytes are equal to those that were appended
pub more_char : (old text new front char part : List ℕ) → text ≡ old ++ front → new ≡ text ++ char → char ≡ part → new ≡ old ++ (front ++ part)
more_char old text new front char part e h same = more old text new front part e (h ∙ ap (λ t. text ++ t) same)

-- what holds where bytes were appended
pub grown : {T E P : Type 0} (r : Result T E) (new done kept : List ℕ) → new ≡ cond (is_ok r) done kept → (new ≡ done → P) → OnOk r P
grown (Ok x) new done kept e h = h e
grown (Err x) new done kept e h = tt

-- what follows from what a call did where it succeeded
pub on_ok : {T E P Q : Type 0} (r : Result T E) → OnOk r P → (P → Q) → OnOk r Q
on_ok (Ok x) h f = f h
on_ok (Err x) h f = tt
