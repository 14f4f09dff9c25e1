-- Lines none of which has a fault, and the fault of a text that begins with them.
use Rattle.std.proofs.Common.{◌≡◌, ℕ, suc, zero, ◌+◌, ◌-◌, ◌<◌, ◌≤◌, ◌⊎◌, inl, inr, Bool, true, false, ◌||◌, ltb, cond, List, [], ◌∷◌, ◌++◌, length, take, map, Option, Some, None, Result, Ok, Err, eqb, refl, sym, ◌∙◌, ap, subst, arith, append_assoc}
use Rattle.std.specs.List.{range_with_len}
use Rattle.std.proofs.lemmas.Bool.{cases_lt}
use Rattle.std.proofs.lemmas.Bool.Decides.{nat_tests}
use Rattle.std.specs.Result.{result_ok}
use Rattle.std.proofs.lemmas.List.{append-nil, length-append, map_push, take-append-le}
use Rattle.mds_lines.specs.Kinds.{kind_of}
use Rattle.mds_lines.specs.declared.line.Kind.{Kind}
use Rattle.mds_lines.specs.declared.line.KindFault.{KindFault}
use Rattle.mds_records.specs.declared.file.FaultCode.TheVariants as code
use Rattle.mds_records.specs.declared.file.FileFault.{FileFault}
use Rattle.mds_lines.specs.Lines.{line_pieces, line_text, longest_line, most_lines}
use Rattle.mds_walk.specs.Faults.{Judge, at_line, end_fault, fault_at, fault_of, faults_of, first_of, kind_fault, line_fault, text_fault}
use Rattle.mds_walk.specs.Governing.{line_at, record_kind}
use Rattle.mds_walk.proofs.Numbered.{line_front, line_here, no_kind, size_push, take_here}

-- none of the lines has a fault
pub record Faultless (judge : Judge) (pieces : List (List ℕ)) : Type 0 where
  pub none : (k : ℕ) → 1 ≤ k → k ≤ length pieces → fault_at judge pieces k ≡ None

-- before the first
pub faultless_none : (judge : Judge) → Faultless judge []
faultless_none judge = record { none = λ k low high. absurd (omega arith) }

-- a line's fault is that of the lines up to it, whatever follows
pub fault_front : (judge : Judge) (done more : List (List ℕ)) (k : ℕ) → k ≤ length done → fault_at judge (done ++ more) k ≡ fault_at judge done k
fault_front judge done more k h =
    ap (λ t. line_fault judge (map line_text t) (line_at (done ++ more) k)) (take-append-le (k - 1) done more (omega arith))
    ∙ ap (line_fault judge (map line_text (take (k - 1) done))) (line_front done more k h)

-- the line after them is judged by them
pub fault_here : (judge : Judge) (done : List (List ℕ)) (piece : List ℕ) (more : List (List ℕ))
    → fault_at judge (done ++ piece ∷ more) (suc (length done)) ≡ line_fault judge (map line_text done) piece
fault_here judge done piece more =
    ap (λ t. line_fault judge (map line_text t) (line_at (done ++ piece ∷ more) (suc (length done)))) (take_here done (piece ∷ more))
    ∙ ap (line_fault judge (map line_text done)) (line_here done piece more)

pub faultless_push : (judge : Judge) (done : List (List ℕ)) (piece : List ℕ) → Faultless judge done → line_fault judge (map line_text done) piece ≡ None
    → Faultless judge (done ++ piece ∷ [])
faultless_push judge done piece before here = record {
  none = λ k low high.
      let size = size_push done piece in
      at k (cases_lt (length done) k) low (omega arith);
} where
  at : (k : ℕ) → (length done < k) ⊎ (k ≤ length done) → 1 ≤ k → k ≤ suc (length done) → fault_at judge (done ++ piece ∷ []) k ≡ None
  at k (inr le) low high = fault_front judge done (piece ∷ []) k le ∙ before.none k low le
  at k (inl gt) low high =
      let same : k ≡ suc (length done) = omega arith in
      ap (fault_at judge (done ++ piece ∷ [])) same ∙ fault_here judge done piece [] ∙ here

-- the first fault of a list that has none up to a place
pub first_none : (f : ℕ → Option FileFault) (more : List (Option FileFault)) (a n : ℕ) → ((k : ℕ) → a ≤ k → k < a + n → f k ≡ None)
    → first_of (map f (range_with_len a n) ++ more) ≡ first_of more
first_none f more a zero none = refl
first_none f more a (suc n) none =
    ap (λ o. first_of (o ∷ (map f (range_with_len (a + 1) n) ++ more))) (none a (omega arith) (omega arith))
    ∙ first_none f more (a + 1) n (λ k h l. none k (omega arith) (omega arith))

pub first_some : (f : ℕ → Option FileFault) (more : List (Option FileFault)) (fault : FileFault) (a n j : ℕ)
    → ((k : ℕ) → a ≤ k → k < j → f k ≡ None) → a ≤ j → j < a + n → f j ≡ Some fault
    → first_of (map f (range_with_len a n) ++ more) ≡ Some fault
first_some f more fault a zero j none low high here = absurd (omega arith)
first_some f more fault a (suc n) j none low high here =
    elim (cases_lt a j) [
      | inl lt ↦
          ap (λ o. first_of (o ∷ (map f (range_with_len (a + 1) n) ++ more))) (none a (omega arith) lt)
          ∙ first_some f more fault (a + 1) n j (λ k h l. none k (omega arith) l) (omega arith) (omega arith) here
      | inr ge ↦
          let same : a ≡ j = omega arith in
          ap (λ o. first_of (o ∷ (map f (range_with_len (a + 1) n) ++ more))) (ap f same ∙ here)
    ]

-- the line after lines without a fault has the fault of the text, if it has one
pub fault_stops : (judge : Judge) (text : List ℕ) (done : List (List ℕ)) (piece : List ℕ) (more : List (List ℕ)) (fault : FileFault)
    → line_pieces text ≡ done ++ piece ∷ more → Faultless judge done → line_fault judge (map line_text done) piece ≡ Some fault
    → fault_of judge text ≡ Some fault
unfolding fault_of
fault_stops judge text done piece more fault e before here =
    let all = done ++ piece ∷ more in
    let size = length-append done (piece ∷ more) in
    ap (λ t. first_of (faults_of judge t)) e
    ∙ first_some (fault_at judge all) (end_fault judge (map line_text all) ∷ []) fault 1 (length all) (suc (length done))
    (λ k h l. fault_front judge done (piece ∷ more) k (omega arith) ∙ before.none k h (omega arith))
    (omega arith) (omega arith) (fault_here judge done piece more ∙ here)

pub first_last : (o : Option FileFault) → first_of (o ∷ []) ≡ o
first_last None = refl
first_last (Some fault) = refl

-- a text whose lines have no fault has that of the line after the last, if it has one
pub fault_ends : (judge : Judge) (text : List ℕ) (done : List (List ℕ)) → line_pieces text ≡ done → Faultless judge done
    → fault_of judge text ≡ end_fault judge (map line_text done)
unfolding fault_of
fault_ends judge text done e before =
    ap (λ t. first_of (faults_of judge t)) e
    ∙ first_none (fault_at judge done) (end_fault judge (map line_text done) ∷ []) 1 (length done) (λ k h l. before.none k h (omega arith))
    ∙ first_last (end_fault judge (map line_text done))

-- no line of a text without a fault has one
pub none_both : (o : Option FileFault) (rest : List (Option FileFault)) → first_of (o ∷ rest) ≡ None → (o ≡ None) × (first_of rest ≡ None)
none_both None rest e = (refl, e)
none_both (Some fault) rest e = absurd (cc)

none_each : (f : ℕ → Option FileFault) (more : List (Option FileFault)) (a n : ℕ) → first_of (map f (range_with_len a n) ++ more) ≡ None
    → (k : ℕ) → a ≤ k → k < a + n → f k ≡ None
none_each f more a zero e k low high = absurd (omega arith)
none_each f more a (suc n) e k low high =
    let parts = none_both (f a) (map f (range_with_len (a + 1) n) ++ more) e in
    elim (cases_lt a k) [
      | inl lt ↦ none_each f more (a + 1) n parts.1 k (omega arith) (omega arith)
      | inr ge ↦
          let same : k ≡ a = omega arith in
          ap f same ∙ parts.0
    ]

pub faultless_text : (judge : Judge) (text : List ℕ) → fault_of judge text ≡ None → Faultless judge (line_pieces text)
unfolding fault_of
faultless_text judge text e = record {
  none = λ k low high. none_each (fault_at judge (line_pieces text)) _ 1 (length (line_pieces text)) e k low (omega arith);
}

-- the fault of a line by its size
within_limits : (b c : Bool) (x y : Option FileFault) → b ≡ false → c ≡ false → cond (b || c) x y ≡ y
within_limits true c x y e g = absurd (grind arith)
within_limits false true x y e g = absurd (grind arith)
within_limits false false x y e g = refl

over_limits : (b c : Bool) (x y : Option FileFault) → (b ≡ true) ⊎ (c ≡ true) → cond (b || c) x y ≡ x
over_limits true c x y e = refl
over_limits false true x y e = refl
over_limits false false x y (inl e) = absurd (grind arith)
over_limits false false x y (inr e) = absurd (grind arith)

pub fault_within : (judge : Judge) (before : List (List ℕ)) (piece : List ℕ) → length piece ≤ longest_line → length before + 1 ≤ most_lines
    → line_fault judge before piece ≡ text_fault judge before (line_text piece)
fault_within judge before piece short few =
    within_limits (ltb longest_line (length piece)) (ltb most_lines (length before + 1)) _ _ (grind (arith, nat_tests)) (grind (arith, nat_tests))

pub fault_over : (judge : Judge) (before : List (List ℕ)) (piece : List ℕ) → (longest_line < length piece) ⊎ (most_lines < length before + 1)
    → line_fault judge before piece ≡ Some (at_line (length before + 1) code.TooLarge)
fault_over judge before piece over =
    over_limits (ltb longest_line (length piece)) (ltb most_lines (length before + 1)) _ _
    (elim over [ inl long ↦ inl (grind (arith, nat_tests)) | inr many ↦ inr (grind (arith, nat_tests)) ])

-- a line that has a size has the fault that its text has
in_size : (b : Bool) (large : FileFault) (o : Option FileFault) → cond b (Some large) o ≡ None → o ≡ None
in_size true large o e = absurd (cc)
in_size false large o e = e

-- an induction over lines without a fault
pub along : (judge : Judge) (P : List (List ℕ) → Type 0) → P []
    → ((before : List (List ℕ)) (x : List ℕ) → P before → text_fault judge before x ≡ None → P (before ++ x ∷ []))
    → (pieces : List (List ℕ)) → Faultless judge pieces → P (map line_text pieces)
along judge P none step pieces h = from [] pieces h none where
  from : (done more : List (List ℕ)) → Faultless judge (done ++ more) → P (map line_text done) → P (map line_text (done ++ more))
  from done [] f p = subst (λ (t : List (List ℕ)). P (map line_text t)) (sym (append-nil done)) p
  from done (x ∷ more) f p =
      let size = length-append done (x ∷ more) in
      let here = sym (fault_here judge done x more) ∙ f.none (suc (length done)) (omega arith) (omega arith) in
      let next = subst P (sym (map_push line_text done x)) (step (map line_text done) (line_text x) p (in_size _ _ _ here)) in
      subst (λ (t : List (List ℕ)). P (map line_text t)) (append_assoc done (x ∷ []) more)
      (from (done ++ x ∷ []) more (subst (Faultless judge) (sym (append_assoc done (x ∷ []) more)) f) next)

-- the kind of a line that is a record
kind_from : (r : Result Kind KindFault) (kind : Kind) → result_ok r ≡ Some kind → r ≡ Ok kind
kind_from (Ok found) kind e =
    let same : found ≡ kind = cc in
    ap Ok same
kind_from (Err fault) kind e = absurd (cc)

more_than_none : (n : ℕ) → eqb (suc n) 0 ≡ false
more_than_none n = grind (arith, nat_tests)

-- a record without a fault
pub record_faultless : (judge : Judge) (before : List (List ℕ)) (x : List ℕ) (kind : Kind) → record_kind x ≡ Some kind
    → text_fault judge before x ≡ None → judge.of_record before x kind ≡ None
record_faultless judge before [] kind e none = absurd (let no = sym e ∙ no_kind in cc)
record_faultless judge before (c ∷ cs) kind e none =
    let found = kind_fault judge before (c ∷ cs) in
    sym (ap found (kind_from (kind_of (c ∷ cs)) kind e))
    ∙ sym (ap (λ b. cond b None (found (kind_of (c ∷ cs)))) (more_than_none (length cs)))
    ∙ none
