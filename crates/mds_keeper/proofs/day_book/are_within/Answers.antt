use Rattle.std.proofs.Common.{◌≤◌, ℕ, arith, inl, inr}
use Rattle.mds_calendar.specs.Length.{count_of}
use Rattle.mds_keeper.specs.declared.day_book.Version.{Version}
use Rattle.mds_keeper.proofs.Rows.{all_more, all_so, row_member}
use Rattle.mds_keeper.proofs.day_book.are_within.Goals as goal

abbrev IsWithin : ℕ × Version → Type 0
IsWithin row = (1 ≤ row.0) × (row.0 ≤ count_of row.1.length)

pub loop-row-init : goal.loop-row-init
loop-row-init c = λ k row below is. absurd (omega arith)

pub returns-then-row-eq0 : goal.returns-then-row-eq0
returns-then-row-eq0 c =
    (c.row-item.result, row_member _ _ _ c.loop-row-test.true c.row-item.is, inl (omega (arith, c.if-row-eq0.true)))

pub returns-then-from-count : goal.returns-then-from-count
returns-then-from-count c = (
  c.row-item.result,
  row_member _ _ _ c.loop-row-test.true c.row-item.is,
  inr (omega (arith, c.if-from-count.true, c.from.ensures, c.count.ensures.value)),
)

pub loop-row-preserved : goal.loop-row-preserved
loop-row-preserved c =
    all_more IsWithin _ _ c.row-item.result c.loop-row-test.true c.row-item.is
    (omega (arith, c.if-row-eq0.false), omega (arith, c.if-from-count.false, c.from.ensures, c.count.ensures.value)) c.loop-row.invariant

pub returns : goal.returns
returns c = all_so IsWithin c.args.rows.now c.loop-row.row-index c.loop-row-test.false c.loop-row.invariant
