use Rattle.std.proofs.Common.{arith, ◌≡◌, ℕ, ◌+◌, ◌-◌, ◌/◌, ◌%◌, ◌<◌, ◌≤◌, ◌==◌, false, get_or, length, take, sym, ap, ◌∙◌, refl}
use Rattle.std.proofs.lemmas.Bool.{ne_eqb}
use Rattle.std.proofs.lemmas.List.{length-take-le}
use Rattle.std.proofs.lemmas.Result.{err_from_is_err_and}
use Rattle.mds_quantity.specs.Quantity.{point_and_decimals, six_decimals, without_last_zeros}
use Rattle.mds_quantity.proofs.Front.{on_err_from}
use Rattle.mds_quantity.proofs.Trim.{places, rest_of, prior_rest, digit_small, place_some, rest_more, text_more, prior_more, text_done, trimmed_here, longer}
use Rattle.mds_export.proofs.Begun.{begun_after, begun_kept}
use Rattle.mds_export.proofs.value.write_decimals.Goals as goal

-- the next decimal is a digit
digit_here : (part rest i : ℕ) → part < 1000000 → i < 6 → rest ≡ rest_of part i → rest / get_or places i 0 < 10
digit_here part rest i h l e = rw e (digit_small part i h l)

-- the point and the decimals that are left
length_of : (part n : ℕ) → 0 < part → n ≤ 6 → without_last_zeros (six_decimals part) ≡ take n (six_decimals part) → length (point_and_decimals part) ≡ 1 + n
length_of part n some within e =
    let other : (part == 0) ≡ false = ne_eqb part 0 (λ z. omega arith) in
    let long = length-take-le n (six_decimals part) within in
    rw (other, e) (omega (arith, long))

-- where nothing is left, that is the point and the decimals so far
length_done : (part i : ℕ) → 0 < part → part < 1000000 → i ≤ 6 → 0 < prior_rest part i → rest_of part i ≡ 0 → length (point_and_decimals part) ≡ 1 + i
length_done part i p h l some none = length_of part i p l (trimmed_here part i h l some none)

-- where something is left, there are more
length_more : (part i : ℕ) → 0 < part → part < 1000000 → i < 6 → 0 < rest_of part i → 1 + i < length (point_and_decimals part)
length_more part i p h l some =
    let on = longer part i (6 - i) h (omega arith) some in
    omega (arith, on.1, length_of part on.0 p on.2.within on.2.text)

pub nonzero_div-rest : goal.nonzero_div-rest
nonzero_div-rest c = place_some c.loop-place.place-index c.loop-place-test.true

pub nonzero_rem-rest : goal.nonzero_rem-rest
nonzero_rem-rest c = place_some c.loop-place.place-index c.loop-place-test.true

pub overflow_cast-rest : goal.overflow_cast-rest
overflow_cast-rest c = omega (arith, digit_here c.args.part c.loop-place.rest c.loop-place.place-index c.requires c.loop-place-test.true c.loop-place.invariant.rest)

pub overflow_add-rest : goal.overflow_add-rest
overflow_add-rest c = omega (arith, digit_here c.args.part c.loop-place.rest c.loop-place.place-index c.requires c.loop-place-test.true c.loop-place.invariant.rest)

pub loop-place-preserved : goal.loop-place-preserved
loop-place-preserved c =
    let part = c.args.part in
    let i = c.loop-place.place-index in
    let before = c.loop-place.invariant in record {
      text = text_more _ _ _ part i _ _ c.requires c.loop-place-test.true before.rest refl before.text c.in_ok-push-2.ensures.items;
      rest = ap (λ r. r % get_or places i 0) before.rest ∙ sym (rest_more part i c.loop-place-test.true);
      len = omega (arith, c.in_ok-push-2.ensures.len, before.len);
      capacity = omega (arith, c.in_ok-push-2.ensures.capacity, before.capacity);
      some = prior_more part i (omega (arith, before.rest));
    }

pub returns-after-loop-place-clause-done : goal.returns-after-loop-place-clause-done
returns-after-loop-place-clause-done c =
    let six : c.loop-place.place-index ≡ 6 = omega arith in
    let ended : rest_of c.args.part c.loop-place.place-index ≡ 0 = ap (rest_of c.args.part) six in
    text_done _ _ c.args.part c.loop-place.place-index (omega arith) (omega arith) (omega arith) c.loop-place.invariant.some ended c.loop-place.invariant.text

pub returns-then-rest-eq0-clause-done : goal.returns-then-rest-eq0-clause-done
returns-then-rest-eq0-clause-done c =
    text_done _ _ c.args.part c.loop-place.place-index (omega arith) (omega arith) (omega arith) c.loop-place.invariant.some (omega (arith, c.loop-place.invariant.rest)) c.loop-place.invariant.text

pub returns-in_err-push-clause-done : goal.returns-in_err-push-clause-done
returns-in_err-push-clause-done c =
    let p = err_from_is_err_and c.from_residual.result c.from_residual.ensures.1 in rw p.1 tt

pub returns-in_err-push-clause-grown : goal.returns-in_err-push-clause-grown
returns-in_err-push-clause-grown c = on_err_from c.from_residual.result _ (begun_kept _ _ c.in_err-push.ensures.items)

pub returns-in_err-push-clause-full : goal.returns-in_err-push-clause-full
returns-in_err-push-clause-full c =
    let more = length_more c.args.part 0 (omega arith) c.requires (omega arith) (omega arith) in
    on_err_from c.from_residual.result _ (omega (arith, c.in_err-push.ensures.full, more))

pub returns-in_err-push-clause-grows : goal.returns-in_err-push-clause-grows
returns-in_err-push-clause-grows c = omega (arith, c.in_err-push.ensures.capacity)

pub returns-in_err-push-clause-len : goal.returns-in_err-push-clause-len
returns-in_err-push-clause-len c =
    let p = err_from_is_err_and c.from_residual.result c.from_residual.ensures.1 in rw p.1 tt

pub returns-in_err-push-2-clause-done : goal.returns-in_err-push-2-clause-done
returns-in_err-push-2-clause-done c =
    let p = err_from_is_err_and c.from_residual-in_err-push-2.result c.from_residual-in_err-push-2.ensures.1 in rw p.1 tt

pub returns-in_err-push-2-clause-grown : goal.returns-in_err-push-2-clause-grown
returns-in_err-push-2-clause-grown c =
    on_err_from c.from_residual-in_err-push-2.result _
    (begun_after _ _ _ _ c.loop-place.invariant.text (begun_kept _ _ c.in_err-push-2.ensures.items))

pub returns-in_err-push-2-clause-full : goal.returns-in_err-push-2-clause-full
returns-in_err-push-2-clause-full c =
    let before = c.loop-place.invariant in
    let more = length_more c.args.part c.loop-place.place-index (omega arith) c.requires c.loop-place-test.true (omega (arith, before.rest)) in
    on_err_from c.from_residual-in_err-push-2.result _ (omega (arith, c.in_err-push-2.ensures.full, before.len, before.capacity, more))

pub returns-in_err-push-2-clause-grows : goal.returns-in_err-push-2-clause-grows
returns-in_err-push-2-clause-grows c = omega (arith, c.in_err-push-2.ensures.capacity, c.loop-place.invariant.capacity)

pub returns-in_err-push-2-clause-len : goal.returns-in_err-push-2-clause-len
returns-in_err-push-2-clause-len c =
    let p = err_from_is_err_and c.from_residual-in_err-push-2.result c.from_residual-in_err-push-2.ensures.1 in rw p.1 tt

pub returns-after-loop-place-clause-grows : goal.returns-after-loop-place-clause-grows
returns-after-loop-place-clause-grows c = c.loop-place.invariant.capacity

pub returns-after-loop-place-clause-len : goal.returns-after-loop-place-clause-len
returns-after-loop-place-clause-len c =
    let before = c.loop-place.invariant in
    let six : c.loop-place.place-index ≡ 6 = omega arith in
    let ended : rest_of c.args.part c.loop-place.place-index ≡ 0 = ap (rest_of c.args.part) six in
    let long = length_done c.args.part c.loop-place.place-index (omega arith) c.requires (omega arith) before.some ended in
    omega (arith, before.len, long)

pub returns-then-rest-eq0-clause-grows : goal.returns-then-rest-eq0-clause-grows
returns-then-rest-eq0-clause-grows c = c.loop-place.invariant.capacity

pub returns-then-rest-eq0-clause-len : goal.returns-then-rest-eq0-clause-len
returns-then-rest-eq0-clause-len c =
    let before = c.loop-place.invariant in
    let long = length_done c.args.part c.loop-place.place-index (omega arith) c.requires (omega arith) before.some (omega (arith, before.rest)) in
    omega (arith, before.len, long)
