use Rattle.std.proofs.Common.{◌∙◌, sym, arith, rules}
use Rattle.std.proofs.lemmas.Bool.{eqb-true}
use Rattle.std.proofs.lemmas.List.{nil_from_length}
use Rattle.mds_keeper.proofs.Settled.{all_put, day_pushed, none_pushed, part_fresh, part_held, pushed, start_part}
use Rattle.mds_keeper.proofs.day_merge.settle_some.Goals as goal

pub loop-i-init : goal.loop-i-init
loop-i-init c = start_part _ _ _ _ _ c.new-rows.ensures.items

pub loop-i-preserved-then-has_reading : goal.loop-i-preserved-then-has_reading
loop-i-preserved-then-has_reading c =
    part_held _ _ _ _ _ _ c.loop-i.invariant (omega (arith, c.len-i-end.ensures.value)) _ c.in_ok-reading.ensures.value c.if-has_reading.ensures

pub loop-i-preserved : goal.loop-i-preserved
loop-i-preserved c =
    part_fresh _ _ _ _ _ _ c.loop-i.invariant (omega (arith, c.len-i-end.ensures.value)) _ c.in_ok-reading.ensures.value _ c.if-has_reading.ensures
    (pushed c.args.book.now _ _ _ _ _ _ c.in_ok-push.ensures.items)

pub returns-clause-ok : goal.returns-clause-ok
returns-clause-ok c =
    day_pushed c.args.book.now _ _ _ _ c.in_ok-push-2.ensures.items c.stream.ensures c.day.ensures
    (all_put _ _ _ _ _ _ c.loop-i.invariant (omega (arith, c.len-i-end.ensures.value)))
    (λ none. search (rules, none, c.is_empty.ensures, c.if-is_empty.false))

pub returns-then-is_empty-clause-ok : goal.returns-then-is_empty-clause-ok
returns-then-is_empty-clause-ok c =
    none_pushed c.args.book.now _ _ c.loop-i.rows.items (nil_from_length _
    (sym c.loop-i.rows.ok.0 ∙ eqb-true c.loop-i.rows.len 0 (sym c.is_empty.ensures ∙ c.if-is_empty.true)))
    (all_put _ _ _ _ _ _ c.loop-i.invariant (omega (arith, c.len-i-end.ensures.value)))
