use Rattle.std.proofs.Common.{◌∙◌, arith}
use Rattle.std.specs.BTreeMap.Range.{entries_between}
use Rattle.std.specs.declared.ops.Bound.TheVariants.{Included}
use Rattle.mds_memory.specs.Stored.{last_number, place_cmp}
use Rattle.mds_memory.proofs.DaysBetween.{is_forward}
use Rattle.mds_memory.proofs.LastDay.{begin, found, missed, step}
use Rattle.mds_memory.proofs.stored_days.last_day.Goals as goal

pub range-requires : goal.range-requires
range-requires c =
    rw (c.new.ensures.start, c.new.ensures.end, c.place_at-first.ensures, c.place_at-last.ensures)
    (is_forward c.args.stream 0 last_number (omega arith))

pub loop-place-init : goal.loop-place-init
loop-place-init c =
    begin c.args.days.now c.args.stream _
    ((λ i. (c.into_iter-place-iterator.ensures.into_iter_gives i).iter) ∙ c.rev-place-items.ensures.source
    ∙ c.range.ensures.between c.new.ensures.exhausted
    ∙ (λ i. entries_between place_cmp (Included ((c.new.ensures.start ∙ c.place_at-first.ensures) i))
    (Included ((c.new.ensures.end ∙ c.place_at-last.ensures) i)) c.args.days.now.entries))

pub loop-place-preserved : goal.loop-place-preserved
loop-place-preserved c =
    step c.args.days.now c.args.stream _ _ _ c.loop-place.invariant c.in-Some.ensures.steps c.if-has_head.ensures

pub returns-then-has_head : goal.returns-then-has_head
returns-then-has_head c =
    found c.args.days.now c.args.stream c.requires _ _ _ c.loop-place.invariant c.in-Some.ensures.steps c.if-has_head.ensures

pub returns : goal.returns
returns c = missed c.args.days.now c.args.stream c.requires _ c.loop-place.invariant c.in-None.ensures.steps.0
