use Rattle.std.proofs.Common.{ap, refl, rules, w64}
use Rattle.std.proofs.lemmas.Int.{to_z-of_z}
use Rattle.sqlite_value.specs.Order.{column}
use Rattle.mds_tables.proofs.WrittenLemmas.{amount_below, code_below, lawful_quality, lawful_utf8}
use Rattle.mds_tables.proofs.terms.reading_ref_in.Goals as goal

pub returns-in_err-quality-clause-none : goal.returns-in_err-quality-clause-none
returns-in_err-quality-clause-none c =
    rw c.from_residual.ensures (λ key reading it.
    c.in_err-quality.ensures.none reading.mark.quality (lawful_quality reading it.lawful) (ap (λ r. column r 5) it.cells))

pub returns-in_err-code_at-clause-none : goal.returns-in_err-code_at-clause-none
returns-in_err-code_at-clause-none c =
    rw c.from_residual-in_err-code_at.ensures (λ key reading it.
    c.in_err-code_at.ensures.none reading.mark.reason.code (code_below reading it.lawful) (ap (λ r. column r 6) it.cells))

pub returns-in_err-str_at-clause-none : goal.returns-in_err-str_at-clause-none
returns-in_err-str_at-clause-none c =
    rw c.from_residual-in_err-str_at.ensures (λ key reading it.
    c.in_err-str_at.ensures.none reading.mark.reason.text (lawful_utf8 reading it.lawful) (ap (λ r. column r 7) it.cells))

pub returns-in_err-int_at-clause-none : goal.returns-in_err-int_at-clause-none
returns-in_err-int_at-clause-none c =
    rw c.from_residual-in_err-int_at.ensures (λ key reading it.
    c.in_err-int_at.ensures.none _ (ap (λ r. column r 8) it.cells))

pub returns-in_err-value_in-clause-none : goal.returns-in_err-value_in-clause-none
returns-in_err-value_in-clause-none c =
    let amount = c.in_ok-int_at.field-0 in
    let above = rw (to_z-of_z w64 amount (search rules)) at c.in_err-value_in.ensures.none.1 in
    rw c.from_residual-in_err-value_in.ensures (λ key reading it.
    amount_below c.args.row.now key reading it amount c.in_ok-int_at.ensures.some above)

pub returns-clause-some : goal.returns-clause-some
returns-clause-some c =
    rw (
      c.in_ok-quality.ensures.some,
      c.in_ok-code_at.ensures.some,
      c.in_ok-str_at.ensures.some,
      c.in_ok-int_at.ensures.some,
      c.in_ok-value_in.ensures.some,
      to_z-of_z w64 c.in_ok-int_at.field-0 (search rules),
    ) refl
