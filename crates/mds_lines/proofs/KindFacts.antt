-- The kind of a line, from what the calls say of its text and of its first field.
use Rattle.std.proofs.Common.{◌≡◌, ◌≢◌, ℕ, zero, suc, ◌<◌, ◌≤◌, Bool, true, false, cond, not, eqb, List, [], ◌∷◌, length, take, get_or, Option, Some, None, Err, IsUtf8, refl, sym, ◌∙◌, ap, arith, ◌⊎◌, inl, inr, ◌-◌, MatchOption, unwrap_or}
use denote.Ref.{Bor}
use Rattle.std.specs.List.{slice_get}
use Rattle.std.proofs.lemmas.List.{take_all}
use Rattle.std.proofs.lemmas.List.Splits.{length-slice_split}
use Rattle.std.proofs.lemmas.Option.{get_or_from_slice_get}
use Rattle.std.proofs.lemmas.Bool.Decides.{nat_tests}
use Rattle.std.proofs.lemmas.Str.{IsUtf8-from_is_utf8, is_utf8-from_IsUtf8}
use Rattle.std.specs.Str.{is_utf8}
use Rattle.std.specs.Prelude.{ok_or}
use Rattle.mds_lines.specs.declared.line.KindFault.TheVariants.{NotText, Unknown}
use Rattle.mds_lines.specs.Kinds.{kind_named, kind_of}
use Rattle.mds_lines.specs.Lines.{field, fields_of}

-- a test that fails
is_text_false : (line : List ℕ) → ¬ IsUtf8 line → is_utf8 line ≡ false
is_text_false line h = at (is_utf8 line) refl where
  at : (b : Bool) → is_utf8 line ≡ b → b ≡ false
  at true e = absurd (h (IsUtf8-from_is_utf8 line e))
  at false e = refl

-- a line that isn't UTF-8
pub kind_not_text : (line : List ℕ) → ¬ IsUtf8 line → kind_of line ≡ Err NotText
unfolding kind_of
kind_not_text line h = ap (λ b. cond (not b) (Err NotText) (ok_or (kind_named (field line 1)) Unknown)) (is_text_false line h)

-- a line that is
pub kind_text : (line : List ℕ) → IsUtf8 line → kind_of line ≡ ok_or (kind_named (field line 1)) Unknown
unfolding kind_of
kind_text line h = ap (λ b. cond (not b) (Err NotText) (ok_or (kind_named (field line 1)) Unknown)) (is_utf8-from_IsUtf8 line h)

-- the first field, which every line has
pub first_field : (r : Option (Bor (List ℕ))) (default : Bor (List ℕ)) (parts : List (List ℕ)) (line : List ℕ) → parts ≡ fields_of line
    → MatchOption r ((◌≡◌ {A = ℕ} 1 0) ⊎ (length parts < 1)) (λ found. (0 < 1) × (slice_get parts (1 - 1) ≡ Some found.now))
    → (unwrap_or r default).now ≡ field line 1
first_field None default parts line same h =
    let some = length-slice_split (λ c. eqb c 44) line in
    let e = ap length same in
    absurd (elim h [ inl e ↦ omega arith | inr lt ↦ omega arith ])
first_field (Some found) default parts line same h = sym (get_or_from_slice_get parts 0 found.now [] h.1) ∙ ap (λ ps. get_or ps 0 []) same
