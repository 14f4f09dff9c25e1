use Rattle.std.proofs.Common.{◌≡◌, ℕ, Bool, false, not, IsTrue, List, Option, None, Some, is_some, rules, sym, subst, ap, ◌∙◌}
use Rattle.std.specs.Prelude.{option_map}
use Rattle.std.specs.Option.{IsSome}
use Rattle.std.proofs.lemmas.Result.{IfOk-from_err}
use Rattle.mds_quantity.proofs.Front.{on_err_from}
use Rattle.mds_runs.specs.GapSteps.{are_parted, marks_after}
use Rattle.mds_runs.specs.declared.cover.Run.{Run}
use Rattle.mds_packs.specs.LoopSteps.{ReadsWhole}
use Rattle.mds_packs.specs.Unpacked.{readings_at}
use Rattle.mds_calendar.specs.Length.{count_of}
use Rattle.mds_packs.specs.Sizes.{values_size}
use Rattle.mds_packs.proofs.BodySizes.{unsized}
use Rattle.mds_packs.proofs.HeldReads.{whole_left, whole_no_head, whole_read, whole_unread}
use Rattle.mds_packs.proofs.whole_days.unpack_readings.Goals as goal

-- a size that was found not to be absent
sized : (found size : Option ℕ) (none : Bool) → is_some found ≡ not none → none ≡ false → found ≡ size → IsSome size
sized found size none is found_one same = ap (λ o. is_some o) (sym same) ∙ is ∙ ap not found_one

pub returns-in_default-clause-none : goal.returns-in_default-clause-none
returns-in_default-clause-none c =
    rw (← c.intervals_of-count.ensures.value) (whole_no_head c.intervals_of-count.result c.args.body.now (sym c.in_ok-rest.ensures.value ∙ ap (λ o. option_map (λ rest. (c.read_head.new.runs.items, rest.now)) o) c.in_default.is))

pub returns-in_default-2-clause-none : goal.returns-in_default-2-clause-none
returns-in_default-2-clause-none c =
    let head = sym c.in_ok-rest.ensures.value ∙ ap (λ o. option_map (λ rest. (c.read_head.new.runs.items, rest.now)) o) c.in-Some.is ∙ ap (λ (l : List Run). Some (l, c.in-Some.rest.now)) (sym c.as_slice.ensures.value) in
    let read = subst (λ o. ReadsWhole (readings_at (marks_after c.intervals_of-count.result 0 c.as_slice.result.now) c.in-Some.rest.now) (option_map (λ rest. (c.read_each.new.readings, rest.now)) o)) c.in_default-2.is c.in_ok-rest-2.ensures in
    rw (← c.intervals_of-count.ensures.value) (whole_unread c.intervals_of-count.result c.args.body.now c.in-Some.rest.now c.as_slice.result.now head read)

pub returns-then-not-is_empty-clause-none : goal.returns-then-not-is_empty-clause-none
returns-then-not-is_empty-clause-none c =
    let head = sym c.in_ok-rest.ensures.value ∙ ap (λ o. option_map (λ rest. (c.read_head.new.runs.items, rest.now)) o) c.in-Some.is ∙ ap (λ (l : List Run). Some (l, c.in-Some.rest.now)) (sym c.as_slice.ensures.value) in
    let read = subst (λ o. ReadsWhole (readings_at (marks_after c.intervals_of-count.result 0 c.as_slice.result.now) c.in-Some.rest.now) (option_map (λ rest. (c.read_each.new.readings, rest.now)) o)) c.in-Some-2.is c.in_ok-rest-2.ensures in
    rw (← c.intervals_of-count.ensures.value) (whole_left c.intervals_of-count.result c.args.body.now c.in-Some.rest.now c.in-Some-2.rest.now c.as_slice.result.now c.read_each.new.readings head read c.if-not-is_empty.ensures)

pub returns-clause-some : goal.returns-clause-some
returns-clause-some c =
    let head = sym c.in_ok-rest.ensures.value ∙ ap (λ o. option_map (λ rest. (c.read_head.new.runs.items, rest.now)) o) c.in-Some.is ∙ ap (λ (l : List Run). Some (l, c.in-Some.rest.now)) (sym c.as_slice.ensures.value) in
    let read = subst (λ o. ReadsWhole (readings_at (marks_after c.intervals_of-count.result 0 c.as_slice.result.now) c.in-Some.rest.now) (option_map (λ rest. (c.read_each.new.readings, rest.now)) o)) c.in-Some-2.is c.in_ok-rest-2.ensures in
    rw (← c.intervals_of-count.ensures.value) (whole_read c.intervals_of-count.result c.args.body.now c.in-Some.rest.now c.in-Some-2.rest.now c.as_slice.result.now c.read_each.new.readings head read c.if-not-is_empty.ensures)

pub returns-then-is_none-clause-none : goal.returns-then-is_none-clause-none
returns-then-is_none-clause-none c = λ readings e.
    let none : c.values_size.result ≡ None = search rules in
    let unread = unsized (count_of c.args.length) c.args.body.now
    (ap (λ n. values_size n c.args.body.now) (sym c.intervals_of-count.ensures.value) ∙ sym c.values_size.ensures ∙ none) ∙ e in
    cc

pub returns-in_err-rest-clause-some : goal.returns-in_err-rest-clause-some
returns-in_err-rest-clause-some c = IfOk-from_err _ _ c.from_residual.ensures.0

pub returns-in_err-rest-clause-none : goal.returns-in_err-rest-clause-none
returns-in_err-rest-clause-none c = IfOk-from_err _ _ c.from_residual.ensures.0

pub returns-in_err-rest-clause-memory : goal.returns-in_err-rest-clause-memory
returns-in_err-rest-clause-memory c =
    on_err_from c.from_residual.result _
    (sized _ _ _ c.is_none.ensures c.if-is_none.false (c.values_size.ensures ∙ ap (λ n. values_size n c.args.body.now) c.intervals_of-count.ensures.value))

pub returns-in_err-readings-clause-some : goal.returns-in_err-readings-clause-some
returns-in_err-readings-clause-some c = IfOk-from_err _ _ c.from_residual-in_err-readings.ensures.0

pub returns-in_err-readings-clause-none : goal.returns-in_err-readings-clause-none
returns-in_err-readings-clause-none c = IfOk-from_err _ _ c.from_residual-in_err-readings.ensures.0

pub returns-in_err-readings-clause-memory : goal.returns-in_err-readings-clause-memory
returns-in_err-readings-clause-memory c =
    on_err_from c.from_residual-in_err-readings.result _
    (sized _ _ _ c.is_none.ensures c.if-is_none.false (c.values_size.ensures ∙ ap (λ n. values_size n c.args.body.now) c.intervals_of-count.ensures.value))

pub returns-in_err-rest-2-clause-some : goal.returns-in_err-rest-2-clause-some
returns-in_err-rest-2-clause-some c = IfOk-from_err _ _ c.from_residual-in_err-rest-2.ensures.0

pub returns-in_err-rest-2-clause-none : goal.returns-in_err-rest-2-clause-none
returns-in_err-rest-2-clause-none c = IfOk-from_err _ _ c.from_residual-in_err-rest-2.ensures.0

pub returns-in_err-rest-2-clause-memory : goal.returns-in_err-rest-2-clause-memory
returns-in_err-rest-2-clause-memory c =
    on_err_from c.from_residual-in_err-rest-2.result _
    (sized _ _ _ c.is_none.ensures c.if-is_none.false (c.values_size.ensures ∙ ap (λ n. values_size n c.args.body.now) c.intervals_of-count.ensures.value))

pub returns-then-is_none-clause-some : goal.returns-then-is_none-clause-some
returns-then-is_none-clause-some c = tt

pub returns-then-is_none-clause-memory : goal.returns-then-is_none-clause-memory
returns-then-is_none-clause-memory c = tt

pub returns-in_default-clause-some : goal.returns-in_default-clause-some
returns-in_default-clause-some c = tt

pub returns-in_default-clause-memory : goal.returns-in_default-clause-memory
returns-in_default-clause-memory c = tt

pub returns-in_default-2-clause-some : goal.returns-in_default-2-clause-some
returns-in_default-2-clause-some c = tt

pub returns-in_default-2-clause-memory : goal.returns-in_default-2-clause-memory
returns-in_default-2-clause-memory c = tt

pub returns-then-not-is_empty-clause-some : goal.returns-then-not-is_empty-clause-some
returns-then-not-is_empty-clause-some c = tt

pub returns-then-not-is_empty-clause-memory : goal.returns-then-not-is_empty-clause-memory
returns-then-not-is_empty-clause-memory c = tt

pub returns-clause-none : goal.returns-clause-none
returns-clause-none c = tt

pub returns-clause-memory : goal.returns-clause-memory
returns-clause-memory c = tt

pub read_each-requires-clause-lawful : goal.read_each-requires-clause-lawful
read_each-requires-clause-lawful c =
    let count = c.intervals_of-count.result in
    subst (λ (runs : List Run). IsTrue (are_parted count None runs)) (sym c.as_slice.ensures.value) (rw c.in-Some.is at c.in_ok-rest.ensures.lawful)

pub read_each-requires-clause-empty : goal.read_each-requires-clause-empty
read_each-requires-clause-empty c = c.in_ok-readings.ensures.value
