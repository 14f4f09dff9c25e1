use Rattle.std.proofs.Common.{◌≡◌, sym}
use Rattle.mds_memory.proofs.Places.{if_ok_at}
use Rattle.mds_memory.proofs.StoredDays.{day_found, day_there, day_unknown}
use Rattle.mds_memory.proofs.stored_days.day_of.Goals as goal

pub returns-in-None-clause-book : goal.returns-in-None-clause-book
returns-in-None-clause-book c =
    day_unknown c.args.days.now (record { stream = c.args.stream; day = c.args.day }) c.unknown.result c.requires
    (sym c.in-None.ensures.value) c.unknown.ensures.of_day c.unknown.ensures.empty

pub returns-in-Some-clause-of_day : goal.returns-in-Some-clause-of_day
returns-in-Some-clause-of_day c = if_ok_at c.try_clone.result c.in-Some.book.now (λ book. (book.stream ≡ c.args.stream) × (book.day ≡ c.args.day))
    c.try_clone.ensures.value
    (day_there c.args.days.now (record { stream = c.args.stream; day = c.args.day }) _ c.requires (sym c.in-Some.ensures.value))

pub returns-in-Some-clause-book : goal.returns-in-Some-clause-book
returns-in-Some-clause-book c = if_ok_at c.try_clone.result c.in-Some.book.now _ c.try_clone.ensures.value
    (day_found c.args.days.now (record { stream = c.args.stream; day = c.args.day }) _ c.requires (sym c.in-Some.ensures.value))
