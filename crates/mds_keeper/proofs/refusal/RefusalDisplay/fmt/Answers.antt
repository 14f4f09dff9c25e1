use Rattle.std.proofs.Common.{◌≡◌, ◌≢◌, ℕ, List, ◌++◌, refl, ap, arith, append-nil}
use Rattle.std.specs.Prelude.{codes, decimal}
use Rattle.std.specs.Fmt.{HasWritten}
use Rattle.std.specs.declared.fmt.Formatter.{Formatter}
use Rattle.std.proofs.lemmas.Bool.Decides.{nat_tests}
use Rattle.std.proofs.lemmas.Grind.{put_two}
use Rattle.mds_keeper.specs.declared.refusal.Refusal.{Refusal}
use Rattle.mds_keeper.specs.Refusals.{code_text, place_text}
use Rattle.mds_keeper.proofs.refusal.RefusalDisplay.fmt.Goals.{then-self-ne0+in_ok-write, else-self-ne0, then-self-ne0-2+in_ok-write-2, else-self-ne0-2}
use Rattle.mds_keeper.proofs.refusal.RefusalDisplay.fmt.Goals as goal

-- the text as far as the line, and as far as the field
abbrev with_line : Refusal → List ℕ
with_line r = code_text r.code ++ place_text (codes " line ") r.line

abbrev with_field : Refusal → List ℕ
with_field r = with_line r ++ place_text (codes " field ") r.field

told_text : (name : List ℕ) (n : ℕ) → n ≢ 0 → name ++ decimal n ≡ place_text name n
told_text name n some = grind (arith, nat_tests)

module _ {W : Type 0} (took : W → List ℕ → W → Type 0) where
  -- a number stands behind what was written before, and one that is 0 doesn't
  told : (f g h i : Formatter W) (a name : List ℕ) (n : ℕ) → n ≢ 0 → i ≡ h → HasWritten took f a g → HasWritten took g (name ++ decimal n) h → HasWritten took f (a ++ place_text name n) i
  told f g h i a name n some is p q = rw is (put_two took f g h a (name ++ decimal n) _ p q (ap (λ t. a ++ t) (told_text name n some)))

  untold : (f g i : Formatter W) (a name : List ℕ) (n : ℕ) → n ≡ 0 → i ≡ g → HasWritten took f a g → HasWritten took f (a ++ place_text name n) i
  untold f g i a name n none is p = rw (is, none, append-nil) p

pub returns-in_ok-write-3-clause-writes : goal.returns-in_ok-write-3-clause-writes
returns-in_ok-write-3-clause-writes g c = λ plain _.
    let took = g.W.Write.write_str_gives in
    let code = rw c.text.ensures at (c.in_ok-write_str.ensures.writes plain refl) in
    let line : HasWritten took c.args.f.now (with_line c.args.self.now) c.if-self-ne0.f =
    elim c.if-self-ne0.branch [
      | then-self-ne0+in_ok-write w ↦
          told took _ _ _ _ _ (codes " line ") _ w.if-self-ne0.true w.f-is code (w.in_ok-write.ensures.writes code.plain refl)
      | else-self-ne0 w ↦ untold took _ _ _ _ (codes " line ") _ w.if-self-ne0.false w.f-is code
    ] in
    let field : HasWritten took c.args.f.now (with_field c.args.self.now) c.if-self-ne0-2.f =
    elim c.if-self-ne0-2.branch [
      | then-self-ne0-2+in_ok-write-2 w ↦
          told took _ _ _ _ _ (codes " field ") _ w.if-self-ne0-2.true w.f-is line (w.in_ok-write-2.ensures.writes line.plain refl)
      | else-self-ne0-2 w ↦ untold took _ _ _ _ (codes " field ") _ w.if-self-ne0-2.false w.f-is line
    ] in
    told took _ _ _ _ _ (codes " interval ") _ c.if-self-ne0-3.true refl field (c.in_ok-write-3.ensures.writes field.plain refl)

pub returns-else-self-ne0-3-clause-writes : goal.returns-else-self-ne0-3-clause-writes
returns-else-self-ne0-3-clause-writes g c = λ plain _.
    let took = g.W.Write.write_str_gives in
    let code = rw c.text.ensures at (c.in_ok-write_str.ensures.writes plain refl) in
    let line : HasWritten took c.args.f.now (with_line c.args.self.now) c.if-self-ne0.f =
    elim c.if-self-ne0.branch [
      | then-self-ne0+in_ok-write w ↦
          told took _ _ _ _ _ (codes " line ") _ w.if-self-ne0.true w.f-is code (w.in_ok-write.ensures.writes code.plain refl)
      | else-self-ne0 w ↦ untold took _ _ _ _ (codes " line ") _ w.if-self-ne0.false w.f-is code
    ] in
    let field : HasWritten took c.args.f.now (with_field c.args.self.now) c.if-self-ne0-2.f =
    elim c.if-self-ne0-2.branch [
      | then-self-ne0-2+in_ok-write-2 w ↦
          told took _ _ _ _ _ (codes " field ") _ w.if-self-ne0-2.true w.f-is line (w.in_ok-write-2.ensures.writes line.plain refl)
      | else-self-ne0-2 w ↦ untold took _ _ _ _ (codes " field ") _ w.if-self-ne0-2.false w.f-is line
    ] in
    untold took _ _ _ _ (codes " interval ") _ c.if-self-ne0-3.false refl field
