use Rattle.std.proofs.Common.{rules, ◌≡◌, ℕ, ◌+◌, ◌*◌, ◌<◌, ◌≤◌, ◌||◌, Bool, not, eqb, [], length, take, set, get_or, is_some, is_ok, Option, Some, refl, subst, sym, ◌∙◌, ap, arith, if◌then◌else◌, ◌+ℤ◌, to_z, unsigned_abs, ◌^◌}
use Rattle.std.specs.Int.{w128}
use Rattle.std.specs.Result.{result_ok}
use Rattle.std.proofs.lemmas.List.{take_all}
use Rattle.std.proofs.lemmas.Int.{ints}
use Rattle.mds_quantity.specs.Quantity.{denoted}
use Rattle.mds_lines.specs.Lines.{fields_of}
use Rattle.mds_records.specs.Records.{amount_of, sum_of}
use Rattle.mds_records.specs.RecordSteps.{is_empty_or_quantity, is_there}
use Rattle.mds_records.proofs.Tallies.{field_at, tested, quantity_is_there, slot_more, no_bad, no_empty, bad_noted, sum_of_more, first_false_more, left_means_more, more_small, sum_fits}
use Rattle.mds_records.proofs.interval_values.read_values.Goals as goal
use Rattle.mds_records.proofs.interval_values.read_values.Goals.{in-Ok, in-Err}

pub loop-k-init : goal.loop-k-init
loop-k-init c =
    let front = c.read_short_values-front.ensures in
    let fits = sum_fits c.read_short_values-front.result.sum c.read_short_values-front.result.count (omega (arith, front.few, c.requires.few)) front.small in
    record { within = front.within; left = front.left; held = front.held; sum = fits ∙ front.sum; small = subst (λ z. unsigned_abs z ≤ c.read_short_values-front.result.count * 10 ^ 18) (sym fits) front.small; bad = sym front.bad; empty = sym front.empty }

pub split_at-requires : goal.split_at-requires
split_at-requires c = c.loop-k.invariant.within

pub overflow_add-at : goal.overflow_add-at
overflow_add-at c =
    let f = field_at c.args.text.now (fields_of c.args.text.now) c.loop-k.at c.loop-k.k c.read_field-value.result.1 c.loop-k.invariant.within c.loop-k.invariant.left (rw (← c.split_at.ensures.back) c.read_field-value.ensures.length) in
    omega (arith, f.within, c.if-end-text.false)

pub overflow_add-end : goal.overflow_add-end
overflow_add-end c =
    let f = field_at c.args.text.now (fields_of c.args.text.now) c.loop-k.at c.loop-k.k c.read_field-value.result.1 c.loop-k.invariant.within c.loop-k.invariant.left (rw (← c.split_at.ensures.back) c.read_field-value.ensures.length) in
    omega (arith, f.within)

pub returns-then-end-text-clause-none : goal.returns-then-end-text-clause-none
returns-then-end-text-clause-none c =
    let fs = fields_of c.args.text.now in
    let f = field_at c.args.text.now fs c.loop-k.at c.loop-k.k c.read_field-value.result.1 c.loop-k.invariant.within c.loop-k.invariant.left (rw (← c.split_at.ensures.back) c.read_field-value.ensures.length) in
    omega (arith, f.last c.if-end-text.true)

pub loop-k-preserved : goal.loop-k-preserved
loop-k-preserved c =
    let text = c.args.text.now in
    let fs = fields_of text in
    let n = c.read_field-value.result.1 in
    let value = c.read_field-value.result.0 in
    let f = field_at text fs c.loop-k.at c.loop-k.k n c.loop-k.invariant.within c.loop-k.invariant.left (rw (← c.split_at.ensures.back) c.read_field-value.ensures.length) in
    let same : value ≡ denoted (get_or fs c.loop-k.k []) =
    c.read_field-value.ensures.value ∙ ap denoted (ap (λ m. take m c.split_at.result.1.now) (sym c.read_field-value.ensures.length) ∙ ap (take n) c.split_at.ensures.back ∙ f.field) in
    let more = f.more (omega (arith, f.within)) in
    let test = tested (get_or fs c.loop-k.k []) n value f.size same in
    let sum : to_z w128 c.match-value.sum-bits ≡ to_z w128 c.loop-k.sum-bits +ℤ amount_of value = elim c.match-value.branch [
      | in-Ok w ↦ rw (w.in-Ok.is, w.sum-is) (search (rules, ints))
      | in-Err w ↦ rw (w.in-Err.is, w.sum-is) (omega (arith, ints))
    ] in
    let small : unsigned_abs (to_z w128 c.match-value.sum-bits) ≤ unsigned_abs (to_z w128 c.loop-k.sum-bits) + 10 ^ 18 = elim c.match-value.branch [
      | in-Ok w ↦ rw (w.sum-is) (search (rules, ints))
      | in-Err w ↦ rw (w.sum-is) (omega (arith, ints))
    ] in
    let kept : c.match-value.value ≡ value = elim c.match-value.branch [
      | in-Ok w ↦ w.value-is ∙ sym w.in-Ok.is
      | in-Err w ↦ w.value-is
    ] in
    let bad : c.match-value.faults.bad ≡ (if is_some c.loop-k.faults.bad || (eqb n 0 || is_ok value) then c.loop-k.faults.bad else Some (c.loop-k.k + 3)) = elim c.match-value.branch [
      | in-Ok w ↦ rw (w.in-Ok.is, w.faults-is) (no_bad c.loop-k.faults.bad (eqb n 0) (c.loop-k.k + 3))
      | in-Err w ↦ rw (w.in-Err.is, w.faults-is) (w.note.ensures.bad ∙ bad_noted c.loop-k.faults.bad (eqb n 0) (c.loop-k.k + 3))
    ] in
    let empty : c.match-value.faults.empty ≡ (if is_some c.loop-k.faults.empty || not (eqb n 0) then c.loop-k.faults.empty else Some (c.loop-k.k + 3)) = elim c.match-value.branch [
      | in-Ok w ↦ rw (w.faults-is) (no_empty c.loop-k.faults.empty (eqb n 0) (c.loop-k.k + 3) (quantity_is_there (get_or fs c.loop-k.k []) n w.in-Ok.quantity f.size (sym w.in-Ok.is ∙ same)))
      | in-Err w ↦ rw (w.faults-is) (w.note.ensures.empty)
    ] in
    let here : c.loop-k.k < length c.loop-k.slots = search rules in
    record {
      within = omega (arith, f.within);
      left = more.0;
      held = ap (λ q. take (c.loop-k.k + 1) (set c.loop-k.slots c.loop-k.k q)) (c.ok.ensures.value ∙ ap result_ok (kept ∙ same))
          ∙ slot_more c.loop-k.slots fs c.loop-k.k here f.there c.loop-k.invariant.held;
      sum = sum ∙ ap (λ s. s +ℤ amount_of value) c.loop-k.invariant.sum
          ∙ ap (λ v. sum_of (take c.loop-k.k fs) +ℤ amount_of v) same ∙ sym (sum_of_more fs c.loop-k.k f.there);
      small = more_small _ _ c.loop-k.k small c.loop-k.invariant.small;
      bad = bad ∙ ap (λ (x : Bool). if is_some c.loop-k.faults.bad || x then c.loop-k.faults.bad else Some (c.loop-k.k + 3)) test
          ∙ ap (λ (b : Option ℕ). if is_some b || is_empty_or_quantity (get_or fs c.loop-k.k []) then b else Some (c.loop-k.k + 3)) c.loop-k.invariant.bad
          ∙ sym (first_false_more is_empty_or_quantity fs c.loop-k.k f.there);
      empty = empty ∙ ap (λ m. if is_some c.loop-k.faults.empty || not (eqb m 0) then c.loop-k.faults.empty else Some (c.loop-k.k + 3)) (sym f.size)
          ∙ ap (λ (b : Option ℕ). if is_some b || is_there (get_or fs c.loop-k.k []) then b else Some (c.loop-k.k + 3)) c.loop-k.invariant.empty
          ∙ sym (first_false_more is_there fs c.loop-k.k f.there);
    }

pub returns-clause-some : goal.returns-clause-some
returns-clause-some c =
    let text = c.args.text.now in
    let fs = fields_of text in
    let all : length c.args.slots.now ≡ c.loop-k.k = omega arith in
    rw all (record {
      more = left_means_more text c.loop-k.at c.loop-k.k c.loop-k.invariant.left;
      rest = ap fields_of c.split_at-2.ensures.back ∙ c.loop-k.invariant.left;
      sum = c.loop-k.invariant.sum;
      small = c.loop-k.invariant.small;
      bad = c.loop-k.invariant.bad;
      empty = c.loop-k.invariant.empty;
    })

pub returns-clause-held : goal.returns-clause-held
returns-clause-held c =
    let all : length c.args.slots.now ≡ c.loop-k.k = omega arith in
    let whole : take c.loop-k.k c.loop-k.slots ≡ c.loop-k.slots = take_all c.loop-k.k c.loop-k.slots (omega (arith, c.loop-k.auto.slots)) in
    rw all (sym whole ∙ c.loop-k.invariant.held)
