use Rattle.std.proofs.Common.{◌∙◌, ap}
use Rattle.std.specs.BTreeMap.{insert_entry}
use Rattle.mds_memory.specs.Stored.{place_cmp}
use Rattle.mds_memory.proofs.Changed.{making_end, making_lawful, making_start, making_step}
use Rattle.mds_memory.proofs.Places.{if_none_at, if_some_at}
use Rattle.mds_memory.proofs.stored_days.books_of.Goals as goal

pub unreachable-requires : goal.unreachable-requires
unreachable-requires c =
    making_lawful c.args.closed _ _ c.loop-place.books c.in-Some.place c.in-Some.rows c.requires c.loop-place.invariant
    c.in-Some.ensures.steps (if_none_at _ _ c.in_default.is c.in_ok-book.ensures.none)

pub loop-place-init : goal.loop-place-init
loop-place-init c = making_start c.args.closed _ _ c.into_iter-place-iterator.ensures.into_iter_gives.0 c.new-books.ensures.empty c.new-books.ensures.ordered

pub loop-place-preserved : goal.loop-place-preserved
loop-place-preserved c =
    let told = if_some_at _ c.in-Some-2.book _ c.in-Some-2.is c.in_ok-book.ensures.some in
    making_step c.args.closed _ _ c.loop-place.books c.insert.new.self c.in-Some.place c.in-Some.rows c.in-Some-2.book c.loop-place.invariant
    c.in-Some.ensures.steps (c.in_ok-insert.ensures.entries
    ∙ ap (insert_entry place_cmp c.loop-place.books.entries c.in-Some.place) c.in_ok-shared.ensures) c.insert.ensures.ordered
    (told.0, told.1) c.number.ensures.last told.2

pub loop-place-preserved-in_ok-insert : goal.loop-place-preserved-in_ok-insert
loop-place-preserved-in_ok-insert c =
    let told = if_some_at _ c.in-Some-2.book _ c.in-Some-2.is c.in_ok-book.ensures.some in
    making_step c.args.closed _ _ c.loop-place.books c.insert.new.self c.in-Some.place c.in-Some.rows c.in-Some-2.book c.loop-place.invariant
    c.in-Some.ensures.steps (c.in_ok-insert.ensures.entries
    ∙ ap (insert_entry place_cmp c.loop-place.books.entries c.in-Some.place) c.in_ok-shared.ensures) c.insert.ensures.ordered
    (told.0, told.1) c.number.ensures.last told.2

pub returns : goal.returns
returns c = making_end c.args.closed _ c.loop-place.books c.loop-place.invariant c.in-None.ensures.steps.0
