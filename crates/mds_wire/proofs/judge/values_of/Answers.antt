use Rattle.std.proofs.Common.{sym, ap, ◌∙◌, [], ◌∷◌}
use Rattle.std.specs.Str.{str_eq_ignore_ascii_case}
use Rattle.mds_wire.proofs.Named.{named_is, seen_first, seen_other, seen_several}
use Rattle.mds_wire.proofs.judge.values_of.Goals as goal
use Rattle.mds_wire.proofs.judge.values_of.Goals.{then-eq_ignore_ascii_case+in-None, else-eq_ignore_ascii_case}

pub returns-in_default : goal.returns-in_default
returns-in_default c =
    let test = ap (λ t. str_eq_ignore_ascii_case t c.args.name.now) (sym c.of.ensures) ∙ sym (named_is _ _ _ c.eq_ignore_ascii_case.ensures.test) ∙ c.if-eq_ignore_ascii_case.true in
    seen_several c.args.bytes.now c.args.name.now c.args.fields.now c.loop-field.field-index _ c.loop-field.found c.loop-field-test.true test c.loop-field.invariant (λ e. c.in_default.not-None e)

pub loop-field-preserved : goal.loop-field-preserved
loop-field-preserved c =
    let test = ap (λ t. str_eq_ignore_ascii_case t c.args.name.now) (sym c.of.ensures) ∙ sym (named_is _ _ _ c.eq_ignore_ascii_case.ensures.test) in
    elim c.if-eq_ignore_ascii_case.branch [
      | then-eq_ignore_ascii_case+in-None w ↦ rw w.found-is (seen_first c.args.bytes.now c.args.name.now c.args.fields.now c.loop-field.field-index _ c.loop-field.found _ c.loop-field-test.true (test ∙ w.if-eq_ignore_ascii_case.true) c.loop-field.invariant w.in-None.is (ap (λ v. v ∷ []) (sym w.of-in-None.ensures)))
      | else-eq_ignore_ascii_case w ↦ rw w.found-is (seen_other c.args.bytes.now c.args.name.now c.args.fields.now c.loop-field.field-index _ c.loop-field.found c.loop-field-test.true (test ∙ w.if-eq_ignore_ascii_case.false) c.loop-field.invariant)
    ]
