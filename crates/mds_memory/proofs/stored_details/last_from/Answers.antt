use Rattle.mds_memory.proofs.CurrentDetails.{last_found, none_found}
use Rattle.mds_memory.proofs.stored_details.last_from.Goals as goal

pub returns-in-Some-clause-some : goal.returns-in-Some-clause-some
returns-in-Some-clause-some c =
    last_found c.args.days.now c.args.first c.args.last _ _ c.range-range.result c.next_back.new.self c.in-Some.day.now
    c.new.ensures.start c.new.ensures.end (c.range-range.ensures.in_range c.new.ensures.exhausted) c.in-Some.ensures.steps

pub returns-in-None-clause-none : goal.returns-in-None-clause-none
returns-in-None-clause-none c =
    none_found c.args.days.now c.args.first c.args.last _ _ c.range-range.result c.new.ensures.start c.new.ensures.end
    (c.range-range.ensures.in_range c.new.ensures.exhausted) c.in-None.ensures.steps.0
