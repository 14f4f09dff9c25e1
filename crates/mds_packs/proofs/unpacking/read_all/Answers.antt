use Rattle.std.proofs.Common.{◌≡◌, ℕ, Bool, true, false, cond, not, nat_eq, List, Option, None, Some, IsTrue, is_some, length, ap, sym, subst, ◌∙◌, rules}
use Rattle.std.specs.Prelude.{option_map}
use Rattle.std.specs.Option.{IsSome}
use Rattle.std.proofs.lemmas.Result.{IfOk-from_err}
use Rattle.mds_quantity.proofs.Front.{on_err_from}
use Rattle.mds_marks.specs.Reading.{ReadingValue}
use Rattle.mds_runs.specs.declared.cover.Run.{Run}
use Rattle.mds_runs.specs.GapSteps.{are_parted, marks_after}
use Rattle.mds_packs.specs.Unpacked.{head_at, readings_at, unpacked}
use Rattle.mds_packs.proofs.Fields.{step}
use Rattle.mds_packs.proofs.Loops.{none_from}
use Rattle.mds_packs.proofs.Whole.{q1, q2}
use Rattle.mds_packs.proofs.BodySizes.{unsized}
use Rattle.mds_packs.proofs.unpacking.read_all.Goals as goal

-- a size that was found not to be absent
sized : (found size : Option ℕ) (none : Bool) → is_some found ≡ not none → none ≡ false → found ≡ size → IsSome size
sized found size none is found_one same = ap (λ o. is_some o) (sym same) ∙ is ∙ ap not found_one

-- the steps of `unpacked`, by where they end
no_head : (count : ℕ) (bytes : List ℕ) → head_at count bytes ≡ None → None ≡ unpacked count bytes
unfolding unpacked
no_head count bytes none = sym (none_from (head_at count bytes) (q1 count) none)

unread : (count : ℕ) (bytes rest : List ℕ) (runs : List Run) → head_at count bytes ≡ Some (runs, rest) → readings_at (marks_after count 0 runs) rest ≡ None → None ≡ unpacked count bytes
unfolding unpacked
unread count bytes rest runs head none =
    sym (step (head_at count bytes) (q1 count) (runs, rest) head ∙ none_from (readings_at (marks_after count 0 runs) rest) q2 none)

so_far : (count : ℕ) (bytes rest behind : List ℕ) (runs : List Run) (readings : List (Option ReadingValue)) → head_at count bytes ≡ Some (runs, rest)
    → readings_at (marks_after count 0 runs) rest ≡ Some (readings, behind) → q2 (readings, behind) ≡ unpacked count bytes
unfolding unpacked
so_far count bytes rest behind runs readings head read =
    sym (step (head_at count bytes) (q1 count) (runs, rest) head ∙ step (readings_at (marks_after count 0 runs) rest) q2 (readings, behind) read)

left : (count : ℕ) (bytes rest behind : List ℕ) (runs : List Run) (readings : List (Option ReadingValue)) → head_at count bytes ≡ Some (runs, rest)
    → readings_at (marks_after count 0 runs) rest ≡ Some (readings, behind) → false ≡ nat_eq (length behind) 0 → None ≡ unpacked count bytes
left count bytes rest behind runs readings head read some =
    ap (λ b. cond b (Some readings) None) some ∙ so_far count bytes rest behind runs readings head read

read : (count : ℕ) (bytes rest behind : List ℕ) (runs : List Run) (readings : List (Option ReadingValue)) → head_at count bytes ≡ Some (runs, rest)
    → readings_at (marks_after count 0 runs) rest ≡ Some (readings, behind) → true ≡ nat_eq (length behind) 0 → Some readings ≡ unpacked count bytes
read count bytes rest behind runs readings head all none =
    ap (λ b. cond b (Some readings) None) none ∙ so_far count bytes rest behind runs readings head all

pub returns-then-is_none-clause-value : goal.returns-then-is_none-clause-value
returns-then-is_none-clause-value c =
    let none : c.values_size.result ≡ None = search rules in
    unsized c.args.count c.args.body.now (sym c.values_size.ensures ∙ none)

pub returns-then-is_none-clause-memory : goal.returns-then-is_none-clause-memory
returns-then-is_none-clause-memory c = tt

pub returns-in_err-rest-clause-value : goal.returns-in_err-rest-clause-value
returns-in_err-rest-clause-value c = IfOk-from_err _ _ c.from_residual.ensures.0

pub returns-in_err-rest-clause-memory : goal.returns-in_err-rest-clause-memory
returns-in_err-rest-clause-memory c =
    on_err_from c.from_residual.result _ (sized _ _ _ c.is_none.ensures c.if-is_none.false c.values_size.ensures)

pub returns-in_err-readings-clause-value : goal.returns-in_err-readings-clause-value
returns-in_err-readings-clause-value c = IfOk-from_err _ _ c.from_residual-in_err-readings.ensures.0

pub returns-in_err-readings-clause-memory : goal.returns-in_err-readings-clause-memory
returns-in_err-readings-clause-memory c =
    on_err_from c.from_residual-in_err-readings.result _ (sized _ _ _ c.is_none.ensures c.if-is_none.false c.values_size.ensures)

pub returns-in_err-rest-2-clause-value : goal.returns-in_err-rest-2-clause-value
returns-in_err-rest-2-clause-value c = IfOk-from_err _ _ c.from_residual-in_err-rest-2.ensures.0

pub returns-in_err-rest-2-clause-memory : goal.returns-in_err-rest-2-clause-memory
returns-in_err-rest-2-clause-memory c =
    on_err_from c.from_residual-in_err-rest-2.result _ (sized _ _ _ c.is_none.ensures c.if-is_none.false c.values_size.ensures)

pub returns-in_default-clause-memory : goal.returns-in_default-clause-memory
returns-in_default-clause-memory c = tt

pub returns-in_default-2-clause-memory : goal.returns-in_default-2-clause-memory
returns-in_default-2-clause-memory c = tt

pub returns-then-not-is_empty-clause-memory : goal.returns-then-not-is_empty-clause-memory
returns-then-not-is_empty-clause-memory c = tt

pub returns-clause-memory : goal.returns-clause-memory
returns-clause-memory c = tt

pub read_readings-requires-clause-lawful : goal.read_readings-requires-clause-lawful
read_readings-requires-clause-lawful c =
    subst (λ (runs : List Run). IsTrue (are_parted c.args.count None runs)) (sym c.as_slice.ensures.value) (rw c.in-Some.is at c.in_ok-rest.ensures.lawful)

pub read_readings-requires-clause-empty : goal.read_readings-requires-clause-empty
read_readings-requires-clause-empty c = c.in_ok-readings.ensures.items

pub returns-in_default-clause-value : goal.returns-in_default-clause-value
returns-in_default-clause-value c =
    no_head c.args.count c.args.body.now (sym c.in_ok-rest.ensures.value ∙ ap (λ o. option_map (λ rest. (c.read_head.new.runs.items, rest.now)) o) c.in_default.is)

pub returns-in_default-2-clause-value : goal.returns-in_default-2-clause-value
returns-in_default-2-clause-value c =
    unread c.args.count c.args.body.now c.in-Some.rest.now c.read_head.new.runs.items
    (sym c.in_ok-rest.ensures.value ∙ ap (λ o. option_map (λ rest. (c.read_head.new.runs.items, rest.now)) o) c.in-Some.is)
    (ap (λ (runs : List Run). readings_at (marks_after c.args.count 0 runs) c.in-Some.rest.now) (sym c.as_slice.ensures.value) ∙ sym c.in_ok-rest-2.ensures
    ∙ ap (λ o. option_map (λ rest. (c.read_readings.new.readings.items, rest.now)) o) c.in_default-2.is)

pub returns-then-not-is_empty-clause-value : goal.returns-then-not-is_empty-clause-value
returns-then-not-is_empty-clause-value c =
    left c.args.count c.args.body.now c.in-Some.rest.now c.in-Some-2.rest.now c.read_head.new.runs.items c.read_readings.new.readings.items
    (sym c.in_ok-rest.ensures.value ∙ ap (λ o. option_map (λ rest. (c.read_head.new.runs.items, rest.now)) o) c.in-Some.is)
    (ap (λ (runs : List Run). readings_at (marks_after c.args.count 0 runs) c.in-Some.rest.now) (sym c.as_slice.ensures.value) ∙ sym c.in_ok-rest-2.ensures
    ∙ ap (λ o. option_map (λ rest. (c.read_readings.new.readings.items, rest.now)) o) c.in-Some-2.is)
    c.if-not-is_empty.ensures

pub returns-clause-value : goal.returns-clause-value
returns-clause-value c =
    read c.args.count c.args.body.now c.in-Some.rest.now c.in-Some-2.rest.now c.read_head.new.runs.items c.read_readings.new.readings.items
    (sym c.in_ok-rest.ensures.value ∙ ap (λ o. option_map (λ rest. (c.read_head.new.runs.items, rest.now)) o) c.in-Some.is)
    (ap (λ (runs : List Run). readings_at (marks_after c.args.count 0 runs) c.in-Some.rest.now) (sym c.as_slice.ensures.value) ∙ sym c.in_ok-rest-2.ensures
    ∙ ap (λ o. option_map (λ rest. (c.read_readings.new.readings.items, rest.now)) o) c.in-Some-2.is)
    c.if-not-is_empty.ensures
