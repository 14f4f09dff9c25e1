use Rattle.std.proofs.Common.{ap, ◌∙◌, get_or, arith, refl, subst, sym}
use Rattle.mds_marks.specs.Reading.{ReadingValue, is_reading}
use Rattle.mds_marks.specs.declared.mark.Mark.{Mark}
use Rattle.mds_runs.proofs.KeptLemmas.{reading-goes}
use Rattle.mds_keeper.specs.LentVersions.{IsUnder}
use Rattle.mds_keeper.proofs.WholeDays.{none_outside, under_whole}
use Rattle.mds_keeper.proofs.day_book.lent_at.Goals as goal

pub returns-in_err-at : goal.returns-in_err-at
returns-in_err-at c = λ book is.
    subst (IsUnder book c.args.interval c.args.update) (sym c.from_residual.ensures) (record {
      some = tt;
      none = none_outside book _ _ _ is c.args.interval (λ k e h. c.in_err-at.ensures (omega (arith, e, c.from.ensures)));
    })

pub returns-then-at-len : goal.returns-then-at-len
returns-then-at-len c = λ book is. record {
  some = tt;
  none = none_outside book _ _ _ is c.args.interval (λ k e h.
      absurd (omega (arith, e, h, c.from.ensures, c.in_ok-at.ensures.1, c.len.ensures.value, c.if-at-len.true)));
}

pub invariant_of-result : goal.invariant_of-result
invariant_of-result c =
    let d : ReadingValue = record { mark = c.mark.result.now; value = c.value.result } in
    record {
      together = ap (λ (m : Mark). is_reading m.quality.flag c.value.result) (c.mark.ensures d)
          ∙ ap (is_reading (get_or c.args.readings.now c.in_ok-at.at d).mark.quality.flag) (c.value.ensures d)
          ∙ reading-goes c.args.readings.now c.in_ok-at.at d c.are_lawful.ensures (omega (arith, c.len.ensures.value, c.if-at-len.false));
    }

pub returns : goal.returns
returns c = λ book is.
    let d : ReadingValue = record { mark = c.mark.result.now; value = c.value.result } in
    record {
      some = (
        refl,
        under_whole book _ _ _ is c.args.interval c.in_ok-at.at d (omega (arith, c.from.ensures, c.in_ok-at.ensures))
            (omega (arith, c.len.ensures.value, c.if-at-len.false)) (λ j. record { mark = c.mark.ensures d j; value = c.value.ensures d j }),
      );
      none = tt;
    }
