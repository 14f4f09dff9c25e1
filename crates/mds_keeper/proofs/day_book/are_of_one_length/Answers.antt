use Rattle.std.proofs.Common.{◌≡◌, ◌∙◌, ℕ, arith, rules, sym}
use Rattle.mds_keeper.specs.declared.day_book.Version.{Version}
use Rattle.mds_keeper.proofs.Rows.{all_more, all_so}
use Rattle.mds_keeper.proofs.day_book.are_of_one_length.Goals as goal

pub loop-row-init : goal.loop-row-init
loop-row-init c = λ k row below is. absurd (omega arith)

pub loop-row-preserved : goal.loop-row-preserved
loop-row-preserved c =
    all_more (λ (row : ℕ × Version). row.1.length ≡ c.first-item.result.1.length) _ _ c.row-item.result c.loop-row-test.true c.row-item.is
    (search (rules, c.if-ne.false, c.ne.ensures)) c.loop-row.invariant

pub returns : goal.returns
returns c = λ told a b m n e.
    let all = all_so (λ (row : ℕ × Version). row.1.length ≡ c.first-item.result.1.length) c.args.rows.now c.loop-row.row-index
    c.loop-row-test.false c.loop-row.invariant in
    all a m ∙ sym (all b n)
