use Rattle.std.proofs.Common.{◌≡◌, ◌++◌, ◌==◌, List, [], ◌∷◌, ℕ, length, false, true≢false, if◌then◌else◌, None, Result, ap, sym, subst, refl, ◌∙◌, arith}
use Rattle.std.proofs.lemmas.Bool.Decides.{nat_tests}
use Rattle.mds_lines.specs.Kinds.{kind_of}
use Rattle.mds_lines.specs.Numbered.{text_of}
use Rattle.mds_lines.specs.declared.line.Kind.{Kind}
use Rattle.mds_lines.specs.declared.line.KindFault.{KindFault}
use Rattle.mds_walk.specs.Answers.{Takes}
use Rattle.mds_walk.specs.Faults.{Judge, kind_fault, text_fault}
use Rattle.mds_walk.proofs.walk.take_line.Goals as goal

-- an empty line has no fault
empty_line : (judge : Judge) (Taken : List (List ℕ) → Type 0) (before : List (List ℕ)) (line : List ℕ) → line ≡ []
    → Taken (before ++ [] ∷ []) → (text_fault judge before line ≡ None) × Taken (before ++ line ∷ [])
empty_line judge Taken before line none taken = rw none (refl, taken)

-- any other has that of its kind
full_line : (judge : Judge) (before : List (List ℕ)) (line : List ℕ) (kind : Result Kind KindFault) → (line ≡ [] → ⊥) → kind_of line ≡ kind
    → text_fault judge before line ≡ kind_fault judge before line kind
full_line judge before [] kind some is = absurd (some refl)
full_line judge before (x ∷ xs) kind some is =
    let full : (length (x ∷ xs) == 0) ≡ false = grind (arith, nat_tests) in
    ap (λ b. if b then None else kind_fault judge before (x ∷ xs) (kind_of (x ∷ xs))) full ∙ ap (kind_fault judge before (x ∷ xs)) is

pub returns-then-is_empty : goal.returns-then-is_empty
returns-then-is_empty g c = λ before taken number.
    empty_line g.T.RecordSink.judge (λ lines. g.T.RecordSink.taken c.take_empty.new.self lines) before _ (c.is_empty.ensures.0 c.if-is_empty.true) (c.take_empty.ensures before taken)

pub returns-in-Ok : goal.returns-in-Ok
returns-in-Ok g c = λ before taken number.
    let is = full_line g.T.RecordSink.judge before (text_of c.args.line.now) _ (λ none. absurd (true≢false (sym (c.is_empty.ensures.1 none) ∙ c.if-is_empty.false))) (sym c.kind.ensures ∙ c.in-Ok.is) in
    subst (λ found. Takes g.T.RecordSink.taken g.T.RecordSink.may_lack before (text_of c.args.line.now) found c.take_record.result c.take_record.new.self) (sym is)
    (c.take_record.ensures before taken number)
