-- How long a text without a fault so far is.
use Rattle.std.proofs.Common.{◌≡◌, ℕ, suc, zero, ◌+◌, ◌-◌, ◌*◌, ◌<◌, ◌≤◌, inl, inr, List, [], ◌∷◌, ◌++◌, length, take, get_or, map, None, refl, sym, ◌∙◌, ap, arith, length-append}
use Rattle.std.specs.List.{join_with_byte}
use Rattle.std.proofs.lemmas.Bool.{cases_lt}
use Rattle.std.proofs.lemmas.List.{length-map, length-take-le}
use Rattle.mds_lines.specs.Lines.{line_text, longest_line, most_lines}
use Rattle.mds_lines.proofs.Splits.{split_is_split}
use Rattle.mds_walk.specs.Faults.{Judge, fault_at, line_fault}
use Rattle.mds_walk.specs.Governing.{line_at}
use Rattle.mds_walk.proofs.Faultless.{fault_over}
use Rattle.mds_walk.specs.SoFar.{fault_so_far, open_piece, whole_pieces}
use Rattle.mds_walk.proofs.Parts.{parts}
use Rattle.mds_walk.proofs.Stops.{none_found}

-- a line without a fault is within the limits
record IsWithin (number : ℕ) (piece : List ℕ) : Type 0 where
  short : length piece ≤ longest_line
  few : number ≤ most_lines

within : (judge : Judge) (before : List (List ℕ)) (piece : List ℕ) → line_fault judge before piece ≡ None → IsWithin (length before + 1) piece
within judge before piece e = record {
  short = elim (cases_lt longest_line (length piece)) [
    | inl lt ↦ absurd (let over = sym (fault_over judge before piece (inl lt)) ∙ e in cc)
    | inr ge ↦ ge
  ];
  few = elim (cases_lt most_lines (length before + 1)) [
    | inl lt ↦ absurd (let over = sym (fault_over judge before piece (inr lt)) ∙ e in cc)
    | inr ge ↦ ge
  ];
}

joined_few : (front : List (List ℕ)) (last : List ℕ) → ((i : ℕ) → i < length front → length (get_or front i []) ≤ longest_line)
    → length (join_with_byte 10 (front ++ last ∷ [])) ≤ length front * 16_385 + length last
joined_few [] last short = omega arith
joined_few (x ∷ []) last short =
    let here : length x ≤ 16_384 = short 0 (omega arith) in
    let size : length (x ++ 10 ∷ last) ≡ length x + length (10 ∷ last) = length-append x (10 ∷ last) in
    omega arith
joined_few (x ∷ y ∷ ys) last short =
    let here : length x ≤ 16_384 = short 0 (omega arith) in
    let rest = joined_few (y ∷ ys) last (λ i lt. short (suc i) (omega arith)) in
    let size = length-append x (10 ∷ join_with_byte 10 (y ∷ (ys ++ last ∷ []))) in
    omega arith

few_lines : (judge : Judge) (pieces : List (List ℕ)) (n : ℕ) → n ≡ length pieces → ((k : ℕ) → 1 ≤ k → k ≤ length pieces → fault_at judge pieces k ≡ None) → length pieces ≤ 1_000_000
few_lines judge pieces zero e none = omega arith
few_lines judge pieces (suc n) e none =
    let w = within judge (map line_text (take (suc n - 1) pieces)) (line_at pieces (suc n)) (none (suc n) (omega arith) (omega arith)) in
    let few = w.few in
    let place : suc n - 1 ≡ n = omega arith in
    let size = length-map (take (suc n - 1) pieces) line_text ∙ length-take-le (suc n - 1) pieces (omega arith) in
    omega arith

pub so_far_few : (judge : Judge) (text : List ℕ) → fault_so_far judge text ≡ None → length text ≤ 16_385_016_384
so_far_few judge text e =
    let sound = none_found judge text e in
    let whole = whole_pieces text in
    let lines = few_lines judge whole (length whole) refl sound.faultless.none in
    let short = sound.short in
    let joined = joined_few whole (open_piece text) (λ i lt. (within judge _ _ (sound.faultless.none (suc i) (omega arith) (omega arith))).short) in
    let all : join_with_byte 10 (whole ++ open_piece text ∷ []) ≡ text = ap (join_with_byte 10) (sym (parts text)) ∙ (split_is_split 10 text).joined in
    let size = ap length all in
    omega arith
