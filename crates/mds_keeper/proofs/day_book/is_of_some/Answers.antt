use Rattle.std.proofs.Common.{◌≤◌, ℕ, refl}
use Rattle.mds_calendar.specs.Length.{count_of}
use Rattle.mds_keeper.specs.declared.day_book.Version.{Version}
use Rattle.mds_keeper.proofs.Rows.{all_more, all_so, row_member}
use Rattle.mds_keeper.proofs.day_book.is_of_some.Goals as goal

abbrev HasNot : ℕ → ℕ × Version → Type 0
HasNot interval row = 1 ≤ interval → interval ≤ count_of row.1.length → ⊥

pub returns-then-is_of : goal.returns-then-is_of
returns-then-is_of c =
    let has = c.is_of.ensures.0 c.if-is_of.true in
    ((λ is. (c.row-item.result, row_member _ _ _ c.loop-row-test.true c.row-item.is, has.0, has.1)), (λ some. refl))

pub loop-row-preserved : goal.loop-row-preserved
loop-row-preserved c =
    all_more (HasNot c.args.interval) _ _ c.row-item.result c.loop-row-test.true c.row-item.is
    (λ low high. let is = c.is_of.ensures.1 (low, high) in let not = c.if-is_of.false in cc) c.loop-row.invariant

pub returns : goal.returns
returns c = (
  (λ is. cc),
  (λ some.
      absurd (all_so (HasNot c.args.interval) c.args.rows.now c.loop-row.row-index c.loop-row-test.false c.loop-row.invariant
      some.0 some.1 some.2 some.3)),
)
