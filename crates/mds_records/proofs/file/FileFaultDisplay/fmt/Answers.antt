use Rattle.std.specs.Prelude.{◌≡◌, ◌≢◌, ℕ, zero, suc, ◌==◌, false, if◌then◌else◌, List, [], ◌++◌, codes, decimal, Result, Ok, Err, IsErr, IsOk}
use Rattle.std.proofs.Common.{append_assoc, ap, subst, sym, refl, ◌∙◌}
use Rattle.std.specs.Fmt.{HasWritten}
use Rattle.std.proofs.lemmas.Grind.{put_two}
use Rattle.std.proofs.lemmas.List.{append-nil}
use Rattle.mds_records.specs.Printed.{code_text, fault_text}
use Rattle.mds_records.specs.declared.file.FileFault.{FileFault}
use Rattle.mds_records.proofs.Rules.{suc_is_not}
use Rattle.mds_records.proofs.file.FileFaultDisplay.fmt.Goals as goal

-- no result is both
not_both : {T E : Type 0} (r : Result T E) → IsErr r → IsOk r → ⊥
not_both (Ok x) wrong right = cc
not_both (Err e) wrong right = cc

is_not : (n : ℕ) → n ≢ 0 → (n == 0) ≡ false
is_not zero some = absurd (some refl)
is_not (suc n) some = suc_is_not n

abbrev behind : ℕ → List ℕ
behind field = if field == 0 then [] else codes " field " ++ decimal field

-- the text of a fault, with its field and without one
with_field : (fault : FileFault) → fault.field ≢ 0
    → (code_text fault.code ++ (codes " line " ++ decimal fault.line)) ++ (codes " field " ++ decimal fault.field) ≡ fault_text fault
with_field fault some =
    let field = codes " field " ++ decimal fault.field in
    ap (λ text. text ++ field) (sym (append_assoc (code_text fault.code) (codes " line ") (decimal fault.line)))
    ∙ ap (λ b. code_text fault.code ++ codes " line " ++ decimal fault.line ++ (if b then [] else field)) (sym (is_not fault.field some))

with_none : (fault : FileFault) → fault.field ≡ 0 → code_text fault.code ++ (codes " line " ++ decimal fault.line) ≡ fault_text fault
with_none fault none =
    let line = code_text fault.code ++ codes " line " ++ decimal fault.line in
    sym (append_assoc (code_text fault.code) (codes " line ") (decimal fault.line)) ∙ sym (append-nil line) ∙ ap (λ n. line ++ behind n) (sym none)

pub returns-in_err-write-clause-writes : goal.returns-in_err-write-clause-writes
returns-in_err-write-clause-writes g c = λ plain right. absurd (not_both c.from_residual.result c.from_residual.ensures.0 right)

pub returns-in_err-write-2-clause-writes : goal.returns-in_err-write-2-clause-writes
returns-in_err-write-2-clause-writes g c = λ plain right. absurd (not_both c.from_residual-in_err-write-2.result c.from_residual-in_err-write-2.ensures.0 right)

pub returns-in_ok-write-2-clause-writes : goal.returns-in_ok-write-2-clause-writes
returns-in_ok-write-2-clause-writes g c = λ plain right.
    let first = c.in_ok-write.ensures.writes plain refl in
    put_two g.W.Write.write_str_gives _ _ _ _ _ _ first (c.in_ok-write-2.ensures.writes first.plain refl) (with_field c.args.self.now c.if-self-ne0.true)

pub returns-else-self-ne0-clause-writes : goal.returns-else-self-ne0-clause-writes
returns-else-self-ne0-clause-writes g c = λ plain right.
    subst (λ text. HasWritten g.W.Write.write_str_gives c.args.f.now text c.write.new.self) (with_none c.args.self.now c.if-self-ne0.false)
    (c.in_ok-write.ensures.writes plain refl)
