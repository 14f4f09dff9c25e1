use Rattle.std.proofs.Common.{◌+◌, length, sym, ap, ◌∙◌, ◌++◌, map, arith}
use Rattle.mds_keeper.specs.Books.{row_fact}
use Rattle.mds_pack_rows.specs.PackFacts.{facts_from}
use Rattle.mds_commit.proofs.BookLemmas.{held_end, held_on}
use Rattle.mds_commit.proofs.books.add_held.Goals as goal

pub loop-reading-init : goal.loop-reading-init
loop-reading-init c =
    let gives = c.into_iter-reading-iterator.ensures.into_iter_gives in
    record {
      held = λ s day.
          ap (λ rs. map (row_fact s day) c.args.versions.now.items ++ facts_from s day c.args.length c.args.update 1 rs) gives.0
          ∙ ap (λ minutes. map (row_fact s day) c.args.versions.now.items ++ facts_from s day minutes c.args.update 1 c.args.readings.items)
          (sym c.requires.len);
      len = gives.1 ∙ c.args.readings.ok.0 ∙ ap length (sym gives.0);
      count = omega (arith, ap length gives.0);
    }

pub overflow_add-interval : goal.overflow_add-interval
overflow_add-interval c = omega (arith, ap length c.in-Some.ensures.steps.0, c.loop-reading.invariant.count, c.requires.few)

pub loop-reading-preserved : goal.loop-reading-preserved
loop-reading-preserved c =
    let s = c.in-Some.ensures.steps in
    let e = ap length s.0 in
    record {
      held = λ stream day. held_on stream day c.args.length c.args.update (c.loop-reading.interval + 1) c.in-Some.reading c.loop-reading.reading-iterator.rest.items _ _ _ _
          s.0 (c.in_ok-add_one.ensures stream day) (c.loop-reading.invariant.held stream day);
      len = omega (arith, e, s.1, c.loop-reading.invariant.len);
      count = omega (arith, e, c.loop-reading.invariant.count);
    }

pub returns : goal.returns
returns c = λ s day. held_end s day c.args.length c.args.update _ _ _ _ (sym (sym c.loop-reading.invariant.len ∙ c.in-None.ensures.steps.0)) (c.loop-reading.invariant.held s day)
