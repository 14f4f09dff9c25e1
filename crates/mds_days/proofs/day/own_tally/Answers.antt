use Rattle.std.proofs.Common.{length, sym, ap, ◌∙◌}
use Rattle.std.proofs.lemmas.Int.{to_z-of_z}
use mir.Syntax.{w128}
use Rattle.mds_days.specs.Readings.{total}
use Rattle.mds_days.proofs.Tallies.{null_amounts, own_amounts, count_amounts, all_amounts}
use Rattle.mds_days.proofs.day.own_tally.Goals as goal
use Rattle.mds_days.proofs.day.own_tally.Goals.{Else-flag-eq-VARIABLE}

pub returns-then-flag-eq-NULL-clause-count : goal.returns-then-flag-eq-NULL-clause-count
returns-then-flag-eq-NULL-clause-count c =
    ap length (null_amounts c.args.own.now c.args.values.now _ c.flag-flag.ensures.value c.if-flag-eq-NULL.true)

pub returns-then-flag-eq-NULL-clause-total : goal.returns-then-flag-eq-NULL-clause-total
returns-then-flag-eq-NULL-clause-total c =
    ap total (null_amounts c.args.own.now c.args.values.now _ c.flag-flag.ensures.value c.if-flag-eq-NULL.true)

pub returns-then-flag-eq-VARIABLE-clause-count : goal.returns-then-flag-eq-VARIABLE-clause-count
returns-then-flag-eq-VARIABLE-clause-count c =
    c.count_values.ensures ∙ sym (count_amounts c.args.values.now)
    ∙ ap length (own_amounts c.args.own.now c.args.values.now _ c.flag-flag.ensures.value c.if-flag-eq-NULL.false)

pub returns-then-flag-eq-VARIABLE-clause-total : goal.returns-then-flag-eq-VARIABLE-clause-total
returns-then-flag-eq-VARIABLE-clause-total c =
    to_z-of_z w128 c.args.sum c.ranges.sum ∙ c.requires.sum
    ∙ ap total (own_amounts c.args.own.now c.args.values.now _ c.flag-flag.ensures.value c.if-flag-eq-NULL.false)

pub returns-clause-count : goal.returns-clause-count
returns-clause-count c =
    all_amounts c.args.own.now c.args.values.now _ c.flag-flag.ensures.value c.if-flag-eq-NULL.false c.if-flag-eq-VARIABLE.false c.requires.valued
    ∙ ap length (own_amounts c.args.own.now c.args.values.now _ c.flag-flag.ensures.value c.if-flag-eq-NULL.false)

pub returns-clause-total : goal.returns-clause-total
returns-clause-total c =
    to_z-of_z w128 c.args.sum c.ranges.sum ∙ c.requires.sum
    ∙ ap total (own_amounts c.args.own.now c.args.values.now _ c.flag-flag.ensures.value c.if-flag-eq-NULL.false)
