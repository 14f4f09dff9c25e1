use Rattle.std.proofs.Common.{rules, ◌≡◌, ◌+◌, ◌^◌, ◌≤◌, [], true, length, take, drop, set, get_or, length-drop, of_z, Ok, Some, refl, sym, ◌∙◌, ap, arith, ◌+ℤ◌, to_z, unsigned_abs}
use Rattle.std.specs.Int.{w128}
use Rattle.std.specs.Result.{result_ok}
use Rattle.std.proofs.lemmas.Int.{ints}
use Rattle.mds_quantity.specs.Quantity.{denoted}
use Rattle.mds_lines.specs.Lines.{fields_of}
use Rattle.mds_records.specs.Records.{amount_of, sum_of}
use Rattle.mds_records.specs.RecordSteps.{is_empty_or_quantity, is_there}
use Rattle.mds_records.proofs.Tallies.{field_at, tested, slot_more, sum_of_more, none_false_more, more_small}
use Rattle.mds_records.proofs.interval_values.read_short_values.Goals as goal

pub loop-k-init : goal.loop-k-init
loop-k-init c = record { within = omega arith; left = refl; held = refl; sum = refl; small = omega arith; bad = refl; empty = refl }

pub split_at-requires : goal.split_at-requires
split_at-requires c = c.loop-k.invariant.within

pub overflow_add-at : goal.overflow_add-at
overflow_add-at c =
    let f = field_at c.args.text.now (fields_of c.args.text.now) c.loop-k.at c.loop-k.k 5 c.loop-k.invariant.within c.loop-k.invariant.left (rw (← c.split_at.ensures.back) (sym c.in-Some.ensures.length)) in
    omega (arith, f.within)

pub loop-k-preserved : goal.loop-k-preserved
loop-k-preserved c =
    let text = c.args.text.now in
    let fs = fields_of text in
    let q = c.in-Some.quantity in
    let f = field_at text fs c.loop-k.at c.loop-k.k 5 c.loop-k.invariant.within c.loop-k.invariant.left (rw (← c.split_at.ensures.back) (sym c.in-Some.ensures.length)) in
    let same : Ok q ≡ denoted (get_or fs c.loop-k.k []) =
    c.in-Some.ensures.value ∙ ap denoted (ap (λ m. take m c.split_at.result.1.now) c.in-Some.ensures.length ∙ ap (take 5) c.split_at.ensures.back ∙ f.field) in
    let more = f.more (omega (arith, c.in-Some.ensures.within, ap length c.split_at.ensures.back, length-drop c.loop-k.at text)) in
    let next : c.loop-k.at + 5 + 1 ≡ c.loop-k.at + 6 = omega arith in
    let test : is_empty_or_quantity (get_or fs c.loop-k.k []) ≡ true = sym (tested (get_or fs c.loop-k.k []) 5 (Ok q) f.size same) in
    let there : is_there (get_or fs c.loop-k.k []) ≡ true = rw f.size refl in
    let sum : to_z w128 (of_z w128 (to_z w128 c.loop-k.sum-bits +ℤ to_z w128 (of_z w128 c.from-sum.result))) ≡ to_z w128 c.loop-k.sum-bits +ℤ q = search (rules, ints) in
    let small : unsigned_abs (to_z w128 (of_z w128 (to_z w128 c.loop-k.sum-bits +ℤ to_z w128 (of_z w128 c.from-sum.result)))) ≤ unsigned_abs (to_z w128 c.loop-k.sum-bits) + 10 ^ 18 = search (rules, ints) in
    record {
      within = omega (arith, f.within, c.in-Some.ensures.within, ap length c.split_at.ensures.back, length-drop c.loop-k.at text);
      left = ap (λ n. fields_of (drop n text)) (sym next) ∙ more.0;
      held = ap (λ v. take (c.loop-k.k + 1) (set c.loop-k.slots c.loop-k.k v)) (ap result_ok same)
          ∙ slot_more c.loop-k.slots fs c.loop-k.k (omega (arith, c.loop-k.auto.slots)) f.there c.loop-k.invariant.held;
      sum = sum ∙ ap (λ s. s +ℤ q) c.loop-k.invariant.sum
          ∙ ap (λ v. sum_of (take c.loop-k.k fs) +ℤ amount_of v) same ∙ sym (sum_of_more fs c.loop-k.k f.there);
      small = more_small _ _ c.loop-k.k small c.loop-k.invariant.small;
      bad = none_false_more is_empty_or_quantity fs c.loop-k.k f.there test c.loop-k.invariant.bad;
      empty = none_false_more is_there fs c.loop-k.k f.there there c.loop-k.invariant.empty;
    }
