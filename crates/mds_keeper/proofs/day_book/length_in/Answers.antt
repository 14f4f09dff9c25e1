use Rattle.std.proofs.Common.{◌≢◌, ℕ, arith, refl, rules}
use Rattle.mds_keeper.specs.declared.day_book.Version.{Version}
use Rattle.mds_keeper.proofs.Rows.{all_more, all_so, row_member}
use Rattle.mds_keeper.proofs.day_book.length_in.Goals as goal

pub loop-row-init : goal.loop-row-init
loop-row-init c = λ k row below is. absurd (omega arith)

pub returns-then-eq : goal.returns-then-eq
returns-then-eq c = (
  c.row-item.result,
  row_member _ _ _ c.loop-row-test.true c.row-item.is,
  search (rules, c.if-eq.true, c.eq.ensures),
  refl,
)

pub loop-row-preserved : goal.loop-row-preserved
loop-row-preserved c =
    all_more (λ (row : ℕ × Version). row.1.update ≢ c.args.update) _ _ c.row-item.result c.loop-row-test.true c.row-item.is
    (search (rules, c.if-eq.false, c.eq.ensures)) c.loop-row.invariant

pub returns : goal.returns
returns c =
    all_so (λ (row : ℕ × Version). row.1.update ≢ c.args.update) c.args.rows.now c.loop-row.row-index c.loop-row-test.false
    c.loop-row.invariant
