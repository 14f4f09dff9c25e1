use Rattle.mds_fill.proofs.LikeDays.{some_if, none_if, sunday_there, no_other_sunday}
use Rattle.mds_fill.proofs.like_days.sunday_before.Goals as goal

pub returns-clause-some : goal.returns-clause-some
returns-clause-some c =
    some_if _ _ _ c.back.ensures (sunday_there c.args.day c.days_since_sunday.result c.args.place c.days_since_sunday.ensures.value)

pub returns-clause-none : goal.returns-clause-none
returns-clause-none c =
    none_if _ _ c.back.ensures (λ none sunday is below within.
    no_other_sunday c.args.day c.days_since_sunday.result c.args.place sunday c.days_since_sunday.ensures.value none is below within)
