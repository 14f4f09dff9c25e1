-- The fault of a text so far.
use Rattle.std.proofs.Common.{◌≡◌, ℕ, suc, zero, ◌+◌, ◌<◌, ◌≤◌, ◌⊎◌, inl, inr, true, false, ltb, cond, List, [], ◌∷◌, ◌++◌, length, map, Option, Some, None, refl, sym, ◌∙◌, ap, subst, arith, length-append}
use Rattle.std.specs.List.{range_with_len}
use Rattle.std.proofs.lemmas.Bool.{cases_lt}
use Rattle.std.proofs.lemmas.Bool.Decides.{nat_tests}
use Rattle.std.proofs.lemmas.List.{length-map}
use Rattle.mds_lines.specs.Lines.{line_pieces, line_text, longest_line}
use Rattle.mds_lines.proofs.Pieces.{pieces_long}
use Rattle.mds_records.specs.declared.file.FaultCode.TheVariants as code
use Rattle.mds_records.specs.declared.file.FileFault.{FileFault}
use Rattle.mds_walk.specs.Faults.{Judge, at_line, end_fault, fault_at, fault_of, faults_of, first_of, line_fault}
use Rattle.mds_walk.proofs.Faultless.{Faultless, fault_front, fault_here, fault_over, fault_stops, first_last, first_none, first_some}
use Rattle.mds_walk.specs.SoFar.{fault_so_far, open_fault, open_piece, whole_pieces}
use Rattle.mds_walk.proofs.Parts.{Goes, goes, open_apart, pieces_so_far}

-- the line of a number is the first that has a fault
pub record Stops (judge : Judge) (pieces : List (List ℕ)) (fault : FileFault) : Type 0 where
  pub number : ℕ
  pub low : 1 ≤ number
  pub high : number ≤ length pieces
  pub here : fault_at judge pieces number ≡ Some fault
  pub before : (k : ℕ) → 1 ≤ k → k < number → fault_at judge pieces k ≡ None

pub stops_front : (judge : Judge) (pieces more : List (List ℕ)) (fault : FileFault) → Stops judge pieces fault → Stops judge (pieces ++ more) fault
stops_front judge pieces more fault s =
    let high = s.high in
    record {
      number = s.number;
      low = s.low;
      high = omega (arith, s.high, length-append pieces more);
      here = fault_front judge pieces more s.number s.high ∙ s.here;
      before = λ k h l. fault_front judge pieces more k (omega arith) ∙ s.before k h l;
    }

-- the line after lines without a fault
pub stops_here : (judge : Judge) (done : List (List ℕ)) (piece : List ℕ) (more : List (List ℕ)) (fault : FileFault) → Faultless judge done
    → line_fault judge (map line_text done) piece ≡ Some fault → Stops judge (done ++ piece ∷ more) fault
stops_here judge done piece more fault before here = record {
  number = suc (length done);
  low = omega arith;
  high = omega (arith, length-append done (piece ∷ more));
  here = fault_here judge done piece more ∙ here;
  before = λ k h l. fault_front judge done (piece ∷ more) k (omega arith) ∙ before.none k h (omega arith);
}

-- where it is found
record Found (f : ℕ → Option FileFault) (fault : FileFault) (a n : ℕ) : Type 0 where
  place : ℕ
  low : a ≤ place
  high : place < a + n
  here : f place ≡ Some fault
  before : (k : ℕ) → a ≤ k → k < place → f k ≡ None

record NoneOf (f : ℕ → Option FileFault) (a n : ℕ) : Type 0 where
  none : (k : ℕ) → a ≤ k → k < a + n → f k ≡ None

abbrev Finds : (ℕ → Option FileFault) → List (Option FileFault) → Option FileFault → ℕ → ℕ → Type 0
Finds f more found a n = ((fault : FileFault) × (found ≡ Some fault) × Found f fault a n) ⊎ (NoneOf f a n × (first_of more ≡ found))

found_here : (f : ℕ → Option FileFault) (more : List (Option FileFault)) (found : Option FileFault) (fault : FileFault) (a n : ℕ)
    → f a ≡ Some fault → found ≡ Some fault → Finds f more found a (suc n)
found_here f more found fault a n h e =
    inl (fault, e, record { place = a; low = omega arith; high = omega arith; here = h; before = λ k low high. absurd (omega arith) })

-- nothing at the first place
none_first : (f : ℕ → Option FileFault) (a j : ℕ) → f a ≡ None → ((k : ℕ) → a + 1 ≤ k → k < j → f k ≡ None) → (k : ℕ) → a ≤ k → k < j → f k ≡ None
none_first f a j h rest k l u =
    elim (cases_lt a k) [
      | inl lt ↦ rest k (omega arith) u
      | inr ge ↦
          let same : k ≡ a = omega arith in
          ap f same ∙ h
    ]

found_later : (f : ℕ → Option FileFault) (more : List (Option FileFault)) (found : Option FileFault) (a n : ℕ) → f a ≡ None
    → Finds f more found (a + 1) n → Finds f more found a (suc n)
found_later f more found a n h (inl it) =
    let low = it.2.low in
    let high = it.2.high in
    inl (it.0, it.1, record { place = it.2.place; low = omega arith; high = omega arith; here = it.2.here; before = none_first f a it.2.place h it.2.before })
found_later f more found a n h (inr it) =
    inr (record { none = none_first f a (a + suc n) h (λ k l u. it.0.none k l (omega arith)) }, it.1)

first_found : (f : ℕ → Option FileFault) (more : List (Option FileFault)) (found : Option FileFault) (a n : ℕ)
    → first_of (map f (range_with_len a n) ++ more) ≡ found → Finds f more found a n
first_found f more found a zero e = inr (record { none = λ k h l. absurd (omega arith) }, e)
first_found f more found a (suc n) e = at (f a) refl (first_found f more found (a + 1) n) where
  at : (o : Option FileFault) → f a ≡ o → (first_of (map f (range_with_len (a + 1) n) ++ more) ≡ found → Finds f more found (a + 1) n) → Finds f more found a (suc n)
  at (Some fault) h next =
      found_here f more found fault a n h (sym e ∙ ap (λ o. first_of (o ∷ (map f (range_with_len (a + 1) n) ++ more))) h)
  at None h next =
      found_later f more found a n h (next (sym (ap (λ o. first_of (o ∷ (map f (range_with_len (a + 1) n) ++ more))) h) ∙ e))

-- a text whose lines begin with such
pub stops_text : (judge : Judge) (text : List ℕ) (pieces more : List (List ℕ)) (fault : FileFault) → line_pieces text ≡ pieces ++ more → Stops judge pieces fault
    → fault_of judge text ≡ Some fault
unfolding fault_of
stops_text judge text pieces more fault e s =
    let all = pieces ++ more in
    let t = stops_front judge pieces more fault s in
    let low = t.low in
    let high = t.high in
    ap (λ t. first_of (faults_of judge t)) e
    ∙ first_some (fault_at judge all) (end_fault judge (map line_text all) ∷ []) fault 1 (length all) t.number t.before t.low (omega arith) t.here

pub so_far_stops : (judge : Judge) (text : List ℕ) (fault : FileFault) → Stops judge (whole_pieces text) fault → fault_so_far judge text ≡ Some fault
unfolding fault_so_far
so_far_stops judge text fault s =
    let low = s.low in
    let high = s.high in
    first_some (fault_at judge (whole_pieces text)) _ fault 1 (length (whole_pieces text)) s.number s.before s.low (omega arith) s.here

-- the line that isn't whole is too long already
pub record IsTooLong (judge : Judge) (text : List ℕ) (fault : FileFault) : Type 0 where
  pub faultless : Faultless judge (whole_pieces text)
  pub long : longest_line < length (open_piece text)
  pub is : at_line (length (whole_pieces text) + 1) code.TooLarge ≡ fault

open_long : (n lines : ℕ) (piece : List ℕ) → n ≡ length piece → longest_line < n → open_fault lines piece ≡ Some (at_line (lines + 1) code.TooLarge)
open_long n lines piece size long =
    let test : ltb longest_line (length piece) ≡ true = grind (arith, nat_tests) in
    ap (λ b. cond b (Some (at_line (lines + 1) code.TooLarge)) None) test

open_short : (lines : ℕ) (piece : List ℕ) → length piece ≤ longest_line → open_fault lines piece ≡ None
open_short lines piece short =
    let test : ltb longest_line (length piece) ≡ false = grind (arith, nat_tests) in
    ap (λ b. cond b (Some (at_line (lines + 1) code.TooLarge)) None) test

pub so_far_long : (judge : Judge) (text : List ℕ) (fault : FileFault) → IsTooLong judge text fault → fault_so_far judge text ≡ Some fault
unfolding fault_so_far
so_far_long judge text fault h =
    let pieces = whole_pieces text in
    first_none (fault_at judge pieces) _ 1 (length pieces) (λ k l u. h.faultless.none k l (omega arith))
    ∙ first_last _ ∙ open_long _ (length pieces) (open_piece text) refl h.long ∙ ap Some h.is

pub so_far_none : (judge : Judge) (text : List ℕ) → Faultless judge (whole_pieces text) → length (open_piece text) ≤ longest_line → fault_so_far judge text ≡ None
unfolding fault_so_far
so_far_none judge text none short =
    let pieces = whole_pieces text in
    first_none (fault_at judge pieces) _ 1 (length pieces) (λ k l u. none.none k l (omega arith))
    ∙ first_last _ ∙ open_short (length pieces) (open_piece text) short

-- What the fault of a text so far is, and that it has none.

open_cases : (found : Option FileFault) (lines : ℕ) (piece : List ℕ) → open_fault lines piece ≡ found
    → ((longest_line < length piece) × (found ≡ Some (at_line (lines + 1) code.TooLarge))) ⊎ ((length piece ≤ longest_line) × (found ≡ None))
open_cases found lines piece e =
    elim (cases_lt longest_line (length piece)) [
      | inl lt ↦ inl (lt, sym e ∙ open_long _ lines piece refl lt)
      | inr ge ↦ inr (ge, sym e ∙ open_short lines piece ge)
    ]

pub record IsSound (judge : Judge) (text : List ℕ) : Type 0 where
  pub faultless : Faultless judge (whole_pieces text)
  pub short : length (open_piece text) ≤ longest_line

pub so_far : (judge : Judge) (text : List ℕ) (found : Option FileFault) → fault_so_far judge text ≡ found
    → ((fault : FileFault) × (found ≡ Some fault) × (Stops judge (whole_pieces text) fault ⊎ IsTooLong judge text fault)) ⊎ ((found ≡ None) × IsSound judge text)
unfolding fault_so_far
so_far judge text found e =
    let pieces = whole_pieces text in
    elim (first_found (fault_at judge pieces) _ found 1 (length pieces) e) [
      | inl it ↦
          let high = it.2.high in
          inl (it.0, it.1, inl (record { number = it.2.place; low = it.2.low; high = omega arith; here = it.2.here; before = it.2.before }))
      | inr it ↦
          let none : Faultless judge pieces = record { none = λ k l u. it.0.none k l (omega arith) } in
          elim (open_cases found (length pieces) (open_piece text) (sym (first_last _) ∙ it.1)) [
            | inl long ↦ inl (_, long.1, inr (record { faultless = none; long = long.0; is = refl }))
            | inr short ↦ inr (short.1, record { faultless = none; short = short.0 })
          ]
    ]

some_same : (a b : FileFault) (P : FileFault → Type 0) → Some a ≡ Some b → P b → P a
some_same a b P e h = let same : a ≡ b = cc in subst P (sym same) h

pub fault_found : (judge : Judge) (text : List ℕ) (fault : FileFault) → fault_so_far judge text ≡ Some fault
    → Stops judge (whole_pieces text) fault ⊎ IsTooLong judge text fault
fault_found judge text fault e =
    elim (so_far judge text (Some fault) e) [
      | inl it ↦ some_same fault it.0 (λ f. Stops judge (whole_pieces text) f ⊎ IsTooLong judge text f) it.1 it.2
      | inr it ↦ absurd (let no = it.0 in cc)
    ]

pub none_found : (judge : Judge) (text : List ℕ) → fault_so_far judge text ≡ None → IsSound judge text
none_found judge text e =
    elim (so_far judge text None e) [
      | inl it ↦ absurd (let no = it.1 in cc)
      | inr it ↦ it.1
    ]

-- The laws.

-- a piece that is too long after lines without a fault
long_fault : (judge : Judge) (text : List ℕ) (fault : FileFault) (piece : List ℕ) → IsTooLong judge text fault → longest_line < length piece
    → line_fault judge (map line_text (whole_pieces text)) piece ≡ Some fault
long_fault judge text fault piece l long =
    fault_over judge (map line_text (whole_pieces text)) piece (inl long)
    ∙ ap (λ n. Some (at_line (n + 1) code.TooLarge)) (length-map (whole_pieces text) line_text) ∙ ap Some l.is

-- it is that of every text that goes on
pub fault_stays : (judge : Judge) (text more : List ℕ) (fault : FileFault) → fault_so_far judge text ≡ Some fault → fault_so_far judge (text ++ more) ≡ Some fault
fault_stays judge text more fault e = at (fault_found judge text fault e) (goes text more) where
  stops : (pieces : List (List ℕ)) → whole_pieces (text ++ more) ≡ pieces → Stops judge pieces fault → fault_so_far judge (text ++ more) ≡ Some fault
  stops pieces whole s = so_far_stops judge (text ++ more) fault (subst (λ (t : List (List ℕ)). Stops judge t fault) (sym whole) s)

  at : Stops judge (whole_pieces text) fault ⊎ IsTooLong judge text fault → Goes text more → fault_so_far judge (text ++ more) ≡ Some fault
  at (inl s) (inl it) = stops (whole_pieces text) it.1.whole s
  at (inl s) (inr it) = stops _ it.3.whole (stops_front judge (whole_pieces text) ((open_piece text ++ it.0) ∷ it.1) fault s)
  at (inr l) (inl it) =
      so_far_long judge (text ++ more) fault (record {
        faultless = subst (Faultless judge) (sym it.1.whole) l.faultless;
        long = omega (arith, l.long, ap length it.1.open_is, length-append (open_piece text) it.0);
        is = ap (λ t. at_line (length t + 1) code.TooLarge) it.1.whole ∙ l.is;
      })
  at (inr l) (inr it) =
      let piece = open_piece text ++ it.0 in
      stops _ it.3.whole (stops_here judge (whole_pieces text) piece it.1 fault l.faultless
      (long_fault judge text fault piece l (omega (arith, l.long, length-append (open_piece text) it.0))))

-- and of every whole text that begins so
pub fault_of_all : (judge : Judge) (text more : List ℕ) (fault : FileFault) → fault_so_far judge text ≡ Some fault → fault_of judge (text ++ more) ≡ Some fault
fault_of_all judge text more fault e =
    elim (fault_found judge text fault e) [
      | inl s ↦ stops_text judge (text ++ more) (whole_pieces text) _ fault (pieces_so_far text more) s
      | inr l ↦
          let long = l.long in
          let first = pieces_long (open_piece text) more (omega arith) (open_apart text) in
          fault_stops judge (text ++ more) (whole_pieces text) first.piece first.rest fault
          (pieces_so_far text more ∙ ap (λ t. whole_pieces text ++ t) first.is) l.faultless
          (long_fault judge text fault first.piece l (omega (arith, l.long, first.long)))
    ]

-- none is held back: where a text so far has no fault, none of its whole lines has one, whatever follows
pub none_held_back : (judge : Judge) (text more : List ℕ) → fault_so_far judge text ≡ None → (k : ℕ) → 1 ≤ k → k ≤ length (whole_pieces text)
    → fault_at judge (line_pieces (text ++ more)) k ≡ None
none_held_back judge text more e k low high =
    ap (λ t. fault_at judge t k) (pieces_so_far text more) ∙ fault_front judge (whole_pieces text) _ k high
    ∙ (none_found judge text e).faultless.none k low high
