use Rattle.std.proofs.Common.{◌≡◌, length, sym, ◌∙◌, arith}
use Rattle.std.proofs.lemmas.Bool.Decides.{nat_tests}
use Rattle.std.proofs.lemmas.List.{nil_from_length}
use Rattle.mds_keeper.proofs.Walks.{held_none, no_rows, walk_end, walk_from, walk_on, walk_start, walk_stop}
use Rattle.mds_keeper.proofs.day_merge.count_in_rows.Goals as goal

pub returns-then-is_empty : goal.returns-then-is_empty
returns-then-is_empty c =
    let none : length c.args.rows.now ≡ 0 = grind (arith, nat_tests) in
    λ minutes of_length. held_none c.args.book.now minutes c.args.update
    (no_rows c.args.book.now minutes c.args.update (sym c.requires.rows ∙ nil_from_length _ none)) c.args.readings.now

pub loop-i-init : goal.loop-i-init
loop-i-init c = walk_start _ _ _ _ c.requires.rows c.requires.ascending

pub count_at-requires-clause-from : goal.count_at-requires-clause-from
count_at-requires-clause-from c = walk_from _ _ _ _ _ _ _ c.loop-i.invariant c.rows_from-left.ensures

pub returns-in_default : goal.returns-in_default
returns-in_default c =
    walk_stop _ _ _ _ _ _ _ c.loop-i.invariant c.rows_from-left.ensures (omega (arith, c.len-i-end.ensures.value)) c.in_default.ensures.none
    _ (omega arith)

pub loop-i-preserved : goal.loop-i-preserved
loop-i-preserved c =
    walk_on _ _ _ _ _ _ _ c.loop-i.invariant c.rows_from-left.ensures (omega (arith, c.len-i-end.ensures.value)) _ c.in-Some.ensures.small
    c.in-Some.ensures.some

pub returns : goal.returns
returns c = walk_end _ _ _ _ _ _ c.loop-i.invariant (omega (arith, c.len-i-end.ensures.value))
