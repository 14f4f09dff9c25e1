-- The text that is still to come.
use Rattle.std.proofs.Common.{◌≡◌, ◌≢◌, ℕ, ◌+◌, ◌<◌, ◌≤◌, Bool, true, false, List, [], ◌∷◌, ◌++◌, length, take, drop, get_or, Option, Some, None, IfSome, refl, sym, ◌∙◌, ap, subst, arith, append_assoc, ◌⊎◌, inl, inr, eqb, ltb, Result, Ok, Err, IfErr, IfOk, MatchBool}
use Rattle.std.proofs.lemmas.Bool.Decides.{nat_tests}
use Rattle.std.specs.Option.{option_map}
use Rattle.std.specs.List.{All}
use Rattle.std.specs.Prelude.{if◌then◌else◌}
use Rattle.std.specs.Io.KnownBytes.{Keeps, Consumes, IsAtEnd}
use Rattle.std.proofs.lemmas.List.{append-nil, take-append-drop, drop_more, take_all, drop_all, length-take-le}
use Rattle.std.proofs.lemmas.List.Elements.{All-same}
use Rattle.std.proofs.lemmas.Bool.{false≢true}
use Rattle.std.proofs.lemmas.Option.{IfSome_then}
use Rattle.mds_lines.specs.declared.reader.LineFault.{LineFault}
use Rattle.mds_lines.specs.declared.reader.LineFault.TheVariants.{TooLarge}
use Rattle.mds_lines.specs.Lines.{line_pieces, longest_line, most_lines}
use Rattle.mds_lines.specs.Buffered.{Buffered, BothKnown, text_left, FindsLine, IsOverLimit}
use Rattle.mds_lines.specs.BufferedSteps.{Reaches, TakesPiece}
use Rattle.mds_lines.proofs.Pieces.{pieces_at, pieces_last, pieces_long, HasFirst}

-- the text that is still to come, of the parts of a buffer
abbrev pub coming : Bool → List ℕ → Option (List ℕ) → Option (List ℕ)
coming ended pending remaining = if ended then Some pending else option_map (λ more. pending ++ more) remaining

-- what is read comes off the source
pub left_filled : (e0 e1 : Bool) (pending now bytes : List ℕ) (r0 r1 : Option (List ℕ)) → e0 ≡ false → now ≡ pending ++ bytes → Consumes r0 r1 bytes
    → (e1 ≡ true → IsAtEnd r1) → Keeps (coming e0 pending r0) (coming e1 now r1)
left_filled true e1 pending now bytes r0 r1 going e consumed ends = absurd (grind arith)
left_filled false e1 pending now bytes None r1 going e consumed ends = tt
left_filled false e1 pending now bytes (Some xs) None going e consumed ends = absurd consumed
left_filled false true pending now bytes (Some xs) (Some ys) going e consumed ends =
    let none : ys ≡ [] = ends refl in
    e ∙ ap (λ t. pending ++ t) (sym (append-nil bytes) ∙ ap (λ t. bytes ++ t) (sym none) ∙ sym consumed)
left_filled false false pending now bytes (Some xs) (Some ys) going e consumed ends =
    ap (λ t. t ++ ys) e ∙ append_assoc pending bytes ys ∙ ap (λ t. pending ++ t) (sym consumed)

-- the test that none was read
pub zero_from_test : (n : ℕ) → eqb n 0 ≡ true → n ≡ 0
zero_from_test n e = grind (arith, nat_tests)

-- a relation of a known text, which was kept before
pub known_after : (a b c : Option (List ℕ)) (R : List ℕ → List ℕ → Type 0) → Keeps a b → BothKnown b c R → BothKnown a c R
known_after None b c R k h = tt
known_after (Some xs) None c R k h = absurd k
known_after (Some xs) (Some ys) c R k h = (h.0, h.1, subst (λ (t : List ℕ). R t h.0) k h.2)

-- a fact of a known text, which was kept before
pub some_after : (a b : Option (List ℕ)) (P : List ℕ → Type 0) → Keeps a b → IfSome b P → IfSome a P
some_after None b P k h = tt
some_after (Some xs) None P k h = absurd k
some_after (Some xs) (Some ys) P k h = subst P k h

-- the pending bytes around a line feed
pub around : (pending : List ℕ) (n : ℕ) → n < length pending → get_or pending n 0 ≡ 10 → pending ≡ take n pending ++ 10 ∷ drop (n + 1) pending
around pending n within here = sym (take-append-drop n pending) ∙ ap (λ t. take n pending ++ t) (drop_more pending n 0 within ∙ ap (λ x. x ∷ drop (n + 1) pending) here)

-- the first piece of the pending bytes, with more after them
pieces_more_after : (pending more : List ℕ) (n : ℕ) → n < length pending → All (λ x. x ≢ 10) (take n pending) → get_or pending n 0 ≡ 10
    → line_pieces (pending ++ more) ≡ take n pending ∷ line_pieces (drop (n + 1) pending ++ more)
pieces_more_after pending more n within apart here =
    ap (λ t. line_pieces (t ++ more)) (around pending n within here)
    ∙ ap line_pieces (append_assoc (take n pending) (10 ∷ drop (n + 1) pending) more)
    ∙ pieces_at (take n pending) (drop (n + 1) pending ++ more) apart

-- the first piece of the pending bytes, with none after them
pieces_whole : (pending : List ℕ) (n : ℕ) → n ≤ length pending → 0 < length pending → All (λ x. x ≢ 10) (take n pending) → (n < length pending → get_or pending n 0 ≡ 10)
    → line_pieces pending ≡ take n pending ∷ line_pieces (drop (n + 1) pending)
pieces_whole pending n within some apart stops = at (ltb n (length pending)) refl where
  at : (t : Bool) → ltb n (length pending) ≡ t → line_pieces pending ≡ take n pending ∷ line_pieces (drop (n + 1) pending)
  at true t = let lt : n < length pending = grind (arith, nat_tests) in ap line_pieces (around pending n lt (stops lt)) ∙ pieces_at (take n pending) (drop (n + 1) pending) apart
  at false t =
      let ge : length pending ≤ n = grind (arith, nat_tests) in
      let all = take_all n pending ge in
      let none = drop_all (n + 1) pending (omega arith) in
      ap line_pieces (sym all) ∙ pieces_last (take n pending) (omega (arith, ap length all)) apart ∙ ap (λ t. take n pending ∷ line_pieces t) (sym none)

-- at most, and not the same
less_from : (n m : ℕ) → n ≤ m → ¬ (n ≡ m) → n < m
less_from n m le ne = omega arith

-- the first piece is taken
taken : (ended e1 : Bool) (pending p1 piece : List ℕ) (n : ℕ) (r : Option (List ℕ)) → e1 ≡ ended → p1 ≡ drop (n + 1) pending → piece ≡ take n pending
    → n ≤ length pending → 0 < length pending → All (λ x. x ≢ 10) (take n pending) → (n < length pending → get_or pending n 0 ≡ 10) → (n ≡ length pending → ended ≡ true)
    → BothKnown (coming ended pending r) (coming e1 p1 r) (λ a b. line_pieces a ≡ piece ∷ line_pieces b)
taken true false pending p1 piece n r e p q within some apart stops ends = absurd (grind arith)
taken false true pending p1 piece n r e p q within some apart stops ends = absurd (grind arith)
taken true true pending p1 piece n r e p q within some apart stops ends =
    (p1, refl, pieces_whole pending n within some apart stops ∙ ap (λ t. t ∷ line_pieces (drop (n + 1) pending)) (sym q) ∙ ap (λ t. piece ∷ line_pieces t) (sym p))
taken false false pending p1 piece n None e p q within some apart stops ends = tt
taken false false pending p1 piece n (Some more) e p q within some apart stops ends =
    let lt : n < length pending = less_from n (length pending) within (λ same. absurd (false≢true (ends same))) in
    (p1 ++ more, refl, pieces_more_after pending more n lt apart (stops lt) ∙ ap (λ t. t ∷ line_pieces (drop (n + 1) pending ++ more)) (sym q) ∙ ap (λ t. piece ∷ line_pieces (t ++ more)) (sym p))

-- the first piece is as long as what was reached
reached : (ended : Bool) (pending : List ℕ) (n : ℕ) (r : Option (List ℕ))
    → n ≤ length pending → 0 < length pending → All (λ x. x ≢ 10) (take n pending) → (n < length pending → get_or pending n 0 ≡ 10)
    → IfSome (coming ended pending r) (HasFirst n)
reached true pending n r within some apart stops =
    record { piece = take n pending; rest = line_pieces (drop (n + 1) pending); is = pieces_whole pending n within some apart stops; long = omega (arith, length-take-le n pending within) }
reached false pending n None within some apart stops = tt
reached false pending n (Some more) within some apart stops = at (ltb n (length pending)) refl where
  at : (t : Bool) → ltb n (length pending) ≡ t → HasFirst n (pending ++ more)
  at true t =
      let lt : n < length pending = grind (arith, nat_tests) in
      record { piece = take n pending; rest = line_pieces (drop (n + 1) pending ++ more); is = pieces_more_after pending more n lt apart (stops lt); long = omega (arith, length-take-le n pending within) }
  at false t =
      let same : n ≡ length pending = grind (arith, nat_tests) in
      let all = take_all n pending (omega arith) in
      subst (λ (k : ℕ). HasFirst k (pending ++ more)) (sym same) (pieces_long pending more some (All-same (λ x. x ≢ 10) pending (take n pending) (sym all) apart))

-- The steps of the reader, put together.

-- the next line was found
pub finds_line : (old mid new : Buffered) (n : ℕ) (r0 r1 : Option (List ℕ)) → old.fault ≡ None → Keeps (text_left old r0) (text_left mid r1)
    → mid.number ≡ old.number → mid.fault ≡ old.fault → Reaches mid n → 0 < length mid.pending → TakesPiece mid new n → FindsLine old new (text_left old r0) (text_left new r1)
finds_line old mid new n r0 r1 faultless keeps number fault reach some take =
    let short = take.short in
    record {
      pieces = known_after _ _ _ _ keeps (taken mid.is_ended new.is_ended mid.pending new.pending new.piece n r1 take.is_ended take.pending take.piece reach.within some reach.apart reach.stops
          (λ e. elim (reach.ends e) [ inl long ↦ absurd (omega arith) | inr ended ↦ ended ]));
      short = omega (arith, ap length take.piece, length-take-le n mid.pending reach.within);
      number = take.number ∙ ap (λ k. k + 1) number;
      few = take.few;
      faultless = take.fault ∙ fault ∙ faultless;
    }

-- it has too many bytes, or too great a number
pub over_limit : (old mid : Buffered) (n number : ℕ) (r0 r1 : Option (List ℕ)) → Keeps (text_left old r0) (text_left mid r1)
    → Reaches mid n → 0 < length mid.pending → (longest_line < n) ⊎ (most_lines < number) → IfSome (text_left old r0) (IsOverLimit number)
over_limit old mid n number r0 r1 keeps reach some over =
    some_after _ _ _ keeps (IfSome_then (text_left mid r1) (reached mid.is_ended mid.pending n r1 reach.within some reach.apart reach.stops) (λ text first.
    let long = first.long in
    (first.piece, first.rest, first.is, elim over [ inl lt ↦ inl (omega arith) | inr lt ↦ inr lt ])))

-- what holds after a fault
pub err_gives : (r : Result Bool LineFault) (fault : LineFault) (P : Type 0) → IfErr r (λ _. P) → r ≡ Err fault → P
err_gives (Ok b) fault P h e = absurd (cc)
err_gives (Err f) fault P h e = h

-- a fault that names its line
pub named_fault : (r : Result Bool LineFault) (m number : ℕ) (Q : Type 0) → IfErr r (λ fault. (fault ≡ TooLarge m) × Q) → r ≡ Err (TooLarge number) → (number ≡ m) × Q
named_fault (Ok b) m number Q h e = absurd (cc)
named_fault (Err f) m number Q h e = (cc, h.1)

-- a line was found, where one was taken
pub found_line : (r : Result Bool LineFault) (T F E : Type 0) → IfOk r (λ found. (found ≡ true) × T) → (T → F) → IfOk r (λ found. MatchBool found F E)
found_line (Err f) T F E h gives = tt
found_line (Ok true) T F E h gives = gives h.1
found_line (Ok false) T F E h gives = absurd (false≢true h.0)
