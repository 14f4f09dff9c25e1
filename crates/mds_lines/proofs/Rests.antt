-- What is left of a line while its fields are taken.
use Rattle.std.proofs.Common.{◌≡◌, ℕ, ◌+◌, ◌<◌, Bool, true, false, ◌&&◌, List, [], ◌∷◌, length, take, drop, refl, ◌∙◌, ap, arith}
use Rattle.std.specs.List.{onto_first, position_or_len, list_all}
use Rattle.std.proofs.lemmas.List.Sums.{fails_before_first}
use Rattle.std.proofs.lemmas.List.Splits.{slice_split_none, slice_split_first, slice_split-cons_yes, slice_split-cons_no}
use Rattle.mds_lines.specs.Lines.{is_comma, fields_of}
use Rattle.mds_lines.specs.Rest.{are_blank}

-- where there is no comma, the text is its one field
pub one_field : (text : List ℕ) (n : ℕ) → n ≡ position_or_len is_comma text → n ≡ length text → fields_of text ≡ text ∷ []
one_field text n e l = slice_split_none is_comma text (λ k d lt. fails_before_first is_comma text k d (omega arith))

-- at a comma, the first field stands before it and the others after it
pub more_fields : (text : List ℕ) (n : ℕ) → n ≡ position_or_len is_comma text → n < length text → fields_of text ≡ take n text ∷ fields_of (drop (n + 1) text)
more_fields text n e lt = let h : position_or_len is_comma text < length text = omega arith in rw e (slice_split_first is_comma text 0 h)

-- a byte more in the first field makes it no longer empty
onto_first_blank : (x : ℕ) (parts : List (List ℕ)) → are_blank (onto_first x parts) ≡ false
onto_first_blank x [] = refl
onto_first_blank x (part ∷ parts) = grind arith

blank_more : (x : ℕ) (xs : List ℕ) (b : Bool) → is_comma x ≡ b → are_blank (fields_of xs) ≡ list_all is_comma xs → are_blank (fields_of (x ∷ xs)) ≡ (b && list_all is_comma xs)
blank_more x xs true e h = ap are_blank (slice_split-cons_yes is_comma x xs e) ∙ h
blank_more x xs false e h = ap are_blank (slice_split-cons_no is_comma x xs e) ∙ onto_first_blank x (fields_of xs)

-- the fields of a text are empty exactly if it is commas alone
pub are_blank-fields_of : (text : List ℕ) → are_blank (fields_of text) ≡ list_all is_comma text
are_blank-fields_of [] = refl
are_blank-fields_of (x ∷ xs) = blank_more x xs (is_comma x) refl (are_blank-fields_of xs)
