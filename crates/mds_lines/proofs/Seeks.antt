-- How far the pending bytes have no line feed.
use Rattle.std.proofs.Common.{◌≡◌, ◌≢◌, ℕ, ◌+◌, ◌-◌, ◌<◌, ◌≤◌, Bool, true, false, ltb, List, ◌++◌, length, take, drop, get_or, Option, Some, None, refl, sym, ◌∙◌, ap, subst, arith}
use Rattle.std.specs.List.{All}
use Rattle.std.proofs.lemmas.Bool.Decides.{nat_tests}
use Rattle.std.proofs.lemmas.List.{take_at, get_or-take, get_or-drop, length-take-le, length-drop, take_all, take_rest}
use Rattle.std.proofs.lemmas.List.Elements.{All-from_get_or, All-same}
use Rattle.mds_lines.specs.Reads.{IsNeeded}
use Rattle.memchr.specs.Find.{IsFirstByte, Nowhere, Passes, is_byte}

-- a byte that fails the search's test
fails : (x : ℕ) → ¬ (is_byte 10 x ≡ true) → x ≢ 10
fails x h = λ e. h (ap (is_byte 10) e)

-- a byte that passes it
passes : (x : ℕ) → is_byte 10 x ≡ true → x ≡ 10
passes x h = grind (arith, nat_tests)

-- bytes that were seen, and more after them that were searched
seen_more : (xs : List ℕ) (seen more : ℕ) → seen + more ≤ length xs → All (λ x. x ≢ 10) (take seen xs) → Nowhere (Passes (is_byte 10) (drop seen xs)) 0 more
    → All (λ x. x ≢ 10) (take (seen + more) xs)
seen_more xs seen more within apart nowhere =
    let size = length-take-le (seen + more) xs within in
    All-from_get_or (λ x. x ≢ 10) (take (seen + more) xs) 0 (λ i lt. at i (omega arith) (ltb i seen) refl) where
      at : (i : ℕ) → i < seen + more → (t : Bool) → ltb i seen ≡ t → get_or (take (seen + more) xs) i 0 ≢ 10
      at i lt true t =
          let low : i < seen = grind (arith, nat_tests) in
          let size = length-take-le seen xs (omega arith) in
          let same = get_or-take (seen + more) xs i 0 lt ∙ sym (get_or-take seen xs i 0 low) in
          λ e. apart i 0 (omega arith) (sym same ∙ e)
      at i lt false t =
          let high : seen ≤ i = grind (arith, nat_tests) in
          let here : seen + (i - seen) ≡ i = omega arith in
          let same = get_or-drop seen xs (i - seen) 0 ∙ ap (λ k. get_or xs k 0) here ∙ sym (get_or-take (seen + more) xs i 0 lt) in
          λ e. fails _ (nowhere (i - seen) (omega arith) (omega arith)) (same ∙ e)

-- where a source goes on, and the bytes have no line feed and aren't too many, it has to be read
pub needed : (is_ended : Bool) (xs : List ℕ) → All (λ x. x ≢ 10) (take (length xs) xs) → length xs ≤ 16_384 → is_ended ≡ false → IsNeeded xs is_ended
needed is_ended xs apart few goes_on =
    record { no_line = subst (λ (ys : List ℕ). All (λ x. x ≢ 10) ys) (take_all (length xs) xs (omega arith)) apart; no_fault = few; goes_on = goes_on }

-- the search found a line feed
pub record IsFound (xs : List ℕ) (n : ℕ) : Type 0 where
  pub within : n < length xs
  pub apart : All (λ x. x ≢ 10) (take n xs)
  pub here : get_or xs n 0 ≡ 10

pub seen_found : (xs : List ℕ) (seen more : ℕ) → seen ≤ length xs → All (λ x. x ≢ 10) (take seen xs) → IsFirstByte (is_byte 10) (drop seen xs) (Some more)
    → IsFound xs (seen + more)
seen_found xs seen more within apart h =
    let size = length-drop seen xs in
    let high = h.0.high in
    record {
      within = omega arith;
      apart = seen_more xs seen more (omega arith) apart h.0.before;
      here = sym (get_or-drop seen xs more 0) ∙ passes _ h.1;
    }

-- the search found none
pub seen_all : (xs : List ℕ) (seen : ℕ) → seen ≤ length xs → All (λ x. x ≢ 10) (take seen xs) → IsFirstByte (is_byte 10) (drop seen xs) None
    → All (λ x. x ≢ 10) (take (length xs) xs)
seen_all xs seen within apart h =
    let size = length-drop seen xs in
    let e : seen + (length xs - seen) ≡ length xs = omega arith in
    All-same (λ x. x ≢ 10) (take (length xs) xs) (take (seen + (length xs - seen)) xs) (ap (λ k. take k xs) (sym e))
    (seen_more xs seen (length xs - seen) (omega arith) apart (λ k low high. h k low (omega arith)))

-- bytes that were seen, before more
pub seen_before : (xs now more : List ℕ) → now ≡ xs ++ more → All (λ x. x ≢ 10) (take (length xs) xs) → All (λ x. x ≢ 10) (take (length xs) now)
seen_before xs now more e apart =
    All-same (λ x. x ≢ 10) (take (length xs) now) (take (length xs) xs) (ap (take (length xs)) e ∙ take_at xs more (length xs) refl ∙ sym (take_all (length xs) xs (omega arith))) apart

-- what was searched is what was not seen yet
pub searched : (ps xs : List ℕ) (seen : ℕ) (r : Option ℕ) → ps ≡ xs → IsFirstByte (is_byte 10) (take (length ps - seen) (drop seen ps)) r → IsFirstByte (is_byte 10) (drop seen xs) r
searched ps xs seen r e h = subst (λ (hay : List ℕ). IsFirstByte (is_byte 10) hay r) (take_rest ps seen ∙ ap (drop seen) e) h

-- the same place, in the words of another length
pub apart_at : (xs : List ℕ) (m n : ℕ) → m ≡ n → All (λ x. x ≢ 10) (take n xs) → All (λ x. x ≢ 10) (take m xs)
apart_at xs m n e h = All-same (λ x. x ≢ 10) (take m xs) (take n xs) (ap (λ k. take k xs) e) h
