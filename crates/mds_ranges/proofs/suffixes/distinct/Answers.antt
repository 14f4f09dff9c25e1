use Rattle.std.proofs.Common.{take, ◌∙◌, rules, arith}
use Rattle.std.proofs.lemmas.List.{length-take-le, take_more_set}
use Rattle.mds_ranges.proofs.InOrder.{up_to_all, up_to_many, up_to_next}
use Rattle.mds_ranges.proofs.suffixes.distinct.Goals as goal

pub returns-then-count-eq-MOST_SUFFIXES-clause-none : goal.returns-then-count-eq-MOST_SUFFIXES-clause-none
returns-then-count-eq-MOST_SUFFIXES-clause-none c =
    let i = c.loop-next.invariant in
    let size = length-take-le c.loop-next.count c.loop-next.places (omega (arith, i.eight, i.within)) in
    up_to_many c.loop-next.last c.args.suffixes.now (take c.loop-next.count c.loop-next.places) c.in-Some.next i.distinct
    c.in-Some.ensures (size ∙ c.if-count-eq-MOST_SUFFIXES.true)

pub loop-next-preserved : goal.loop-next-preserved
loop-next-preserved c =
    let i = c.loop-next.invariant in
    record {
      within = omega arith;
      eight = search rules;
      distinct = rw (take_more_set c.loop-next.places c.loop-next.count c.in-Some.next (omega arith))
          (up_to_next c.loop-next.last c.args.suffixes.now (take c.loop-next.count c.loop-next.places) c.in-Some.next
          i.distinct c.in-Some.ensures);
    }

pub returns-clause-some : goal.returns-clause-some
returns-clause-some c =
    up_to_all c.loop-next.last c.args.suffixes.now (take c.loop-next.count c.loop-next.places)
    c.loop-next.invariant.distinct c.in_default.ensures
