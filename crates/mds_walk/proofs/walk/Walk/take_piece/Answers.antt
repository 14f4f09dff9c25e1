use Rattle.std.proofs.Common.{◌≡◌, ◌<◌, ◌≤◌, ◌+◌, ◌++◌, ◌⊎◌, inl, inr, ℕ, List, [], ◌∷◌, length, Option, None, Result, Ok, Err, MatchResult, sym, subst, ap, ◌∙◌, arith}
use Rattle.mds_lines.specs.Lines.{line_text, longest_line, most_lines}
use Rattle.mds_lines.specs.Numbered.{number_of}
use Rattle.mds_records.specs.declared.file.FaultCode.TheVariants.{TooLarge}
use Rattle.mds_records.specs.declared.file.FileFault.{FileFault}
use Rattle.mds_walk.specs.Answers.{HasWalked, IsRefusal, Takes}
use Rattle.mds_walk.specs.Faults.{Judge, at_line, line_fault, text_fault}
use Rattle.mds_walk.specs.declared.fault.TakeFault.{TakeFault}
use Rattle.mds_walk.specs.declared.fault.TakeFault.TheVariants.{File, Memory}
use Rattle.mds_walk.proofs.Faultless.{fault_over, fault_within}
use Rattle.mds_walk.proofs.walk.Walk.take_piece.Goals as goal

-- a piece that is too large is refused for that
over : (judge : Judge) (before : List (List ℕ)) (piece : List ℕ) (n : ℕ) (answer : TakeFault) → n ≡ length before
    → (longest_line < length piece) ⊎ (most_lines < length before + 1) → answer ≡ File (at_line (n + 1) TooLarge) → IsRefusal (line_fault judge before piece) answer
over judge before piece n answer counted large is =
    subst (λ (a : TakeFault). IsRefusal (line_fault judge before piece) a) (sym (is ∙ ap (λ k. File (at_line (k + 1) TooLarge)) counted)) (fault_over judge before piece large)

not_memory : {U P : Type 0} {answer : TakeFault} {fault : FileFault} → answer ≡ File fault → ◌≡◌ {A = Result U TakeFault} (Err answer) (Err Memory) → P
not_memory is wanting = absurd (cc)

-- any other is judged by its text
module _ {T U : Type 0} (judge : Judge) (taken : T → List (List ℕ) → Type 0) (may_lack : List (List ℕ) → List ℕ → Option FileFault → Type 0) (before : List (List ℕ)) (piece : List ℕ) (new : T) where
  within : (line : List ℕ) (r : Result U TakeFault) → line ≡ line_text piece → line_fault judge before piece ≡ text_fault judge before (line_text piece)
      → Takes taken may_lack before line (text_fault judge before line) r new
      → MatchResult r (λ _. (line_fault judge before piece ≡ None) × taken new (before ++ line_text piece ∷ [])) (IsRefusal (line_fault judge before piece))
  within line r text short h = by r (subst (λ (l : List ℕ). Takes taken may_lack before l (text_fault judge before l) r new) text h)
    where
      by : (r : Result U TakeFault) → Takes taken may_lack before (line_text piece) (text_fault judge before (line_text piece)) r new
          → MatchResult r (λ _. (line_fault judge before piece ≡ None) × taken new (before ++ line_text piece ∷ [])) (IsRefusal (line_fault judge before piece))
      by (Ok x) h = (short ∙ h.0, h.1)
      by (Err (File fault)) h = short ∙ h
      by (Err Memory) h = tt

  lacks : (line : List ℕ) (r : Result U TakeFault) → line ≡ line_text piece → r ≡ Err Memory → Takes taken may_lack before line (text_fault judge before line) r new
      → may_lack before (line_text piece) (text_fault judge before (line_text piece))
  lacks line r text is h =
      subst (λ (l : List ℕ). may_lack before l (text_fault judge before l)) text (subst (λ (a : Result U TakeFault). Takes taken may_lack before line (text_fault judge before line) a new) is h)

pub returns-then-piece-gt-LONGEST_LINE-clause-taken : goal.returns-then-piece-gt-LONGEST_LINE-clause-taken
returns-then-piece-gt-LONGEST_LINE-clause-taken g c = λ before walked counted.
    let large : (longest_line < length c.args.piece.now) ⊎ (most_lines < length before + 1) = elim c.then-piece-gt-LONGEST_LINE.either [
      | inl long ↦ inl (omega arith)
      | inr many ↦ inr (omega (arith, counted, c.from-number.ensures))
    ] in
    over g.T.RecordSink.judge before c.args.piece.now _ _ (c.from.ensures ∙ counted) large c.at_end.ensures

pub returns-then-piece-gt-LONGEST_LINE-clause-memory : goal.returns-then-piece-gt-LONGEST_LINE-clause-memory
returns-then-piece-gt-LONGEST_LINE-clause-memory g c = λ before walked counted wanting. not_memory c.at_end.ensures wanting

pub returns-clause-taken : goal.returns-clause-taken
returns-clause-taken g c = λ before walked counted.
    let short : length c.args.piece.now ≤ longest_line = omega arith in
    let few : length before + 1 ≤ most_lines = omega (arith, counted, c.from-number.ensures) in
    let number : number_of c.new.result ≡ length before + 1 = omega (arith, counted, c.from-number.ensures, c.new.ensures.number) in
    within g.T.RecordSink.judge (HasWalked g.T.RecordSink.taken) g.T.RecordSink.may_lack before c.args.piece.now _ _ _ c.new.ensures.text
    (fault_within g.T.RecordSink.judge before c.args.piece.now short few) (c.take.ensures.taken before walked number)

pub returns-clause-memory : goal.returns-clause-memory
returns-clause-memory g c = λ before walked counted wanting.
    let short : length c.args.piece.now ≤ longest_line = omega arith in
    let number : number_of c.new.result ≡ length before + 1 = omega (arith, counted, c.from-number.ensures, c.new.ensures.number) in
    (short, lacks g.T.RecordSink.judge (HasWalked g.T.RecordSink.taken) g.T.RecordSink.may_lack before c.args.piece.now _ _ _ c.new.ensures.text wanting (c.take.ensures.taken before walked number))
