use Rattle.std.proofs.Common.{◌≡◌, ◌+◌, ◌≤◌, ◌++◌, ◌/◌, ◌%◌, ◌∙◌, ap, arith, decimal, length, refl, unsigned_abs, vec_capacity, vec_len}
use Rattle.std.specs.Int.{w64}
use Rattle.std.proofs.lemmas.Int.{to_z-of_z}
use Rattle.std.proofs.lemmas.Result.{on_err_weaker, on_ok_weaker, err_from_is_err_and}
use Rattle.mds_quantity.specs.Quantity.{point_and_decimals, sign_of}
use Rattle.mds_quantity.proofs.Front.{on_err_from, whole_text, written_done, written_length}
use Rattle.mds_export.proofs.Begun.{begun_after, begun_kept}
use Rattle.mds_export.proofs.value.write_quantity.Goals as goal

pub returns-clause-done : goal.returns-clause-done
returns-clause-done c =
    let s = c.args.out.now.items in
    let t = c.write_sign.new.out.items in
    let u = c.extend_from_slice.new.self.items in
    let z = c.args.millionths in
    let m = c.unsigned_abs-magnitude.result in
    let back = to_z-of_z w64 z c.ranges.millionths in
    let is : m ≡ unsigned_abs z = c.unsigned_abs-magnitude.ensures.value ∙ ap unsigned_abs back in
    let before = whole_text s t u z m (m / 1000000) (c.in_ok-write_sign.ensures.done ∙ ap (λ k. s ++ sign_of k) back) is refl
    (c.in_ok-extend_from_slice.ensures.items ∙ ap (λ x. t ++ x) (c.as_bytes.ensures.value ∙ c.format.ensures.text)) in
    on_ok_weaker c.write_decimals.result (written_done s u c.write_decimals.new.out.items z (m % 1000000) before (ap (λ k. k % 1000000) is)) c.write_decimals.ensures.done

pub returns-in_err-write_sign-clause-full : goal.returns-in_err-write_sign-clause-full
returns-in_err-write_sign-clause-full c =
    let sign = ap (λ k. length (sign_of k)) (to_z-of_z w64 c.args.millionths c.ranges.millionths) in
    on_err_from c.from_residual.result _ (omega (arith, c.in_err-write_sign.ensures.full, sign, written_length c.args.millionths))

pub returns-in_err-extend_from_slice-clause-full : goal.returns-in_err-extend_from_slice-clause-full
returns-in_err-extend_from_slice-clause-full c =
    let z = c.args.millionths in
    let back = to_z-of_z w64 z c.ranges.millionths in
    let is : c.unsigned_abs-magnitude.result ≡ unsigned_abs z = c.unsigned_abs-magnitude.ensures.value ∙ ap unsigned_abs back in
    let digits = ap length (c.as_bytes.ensures.value ∙ c.format.ensures.text) ∙ ap (λ k. length (decimal (k / 1000000))) is in
    let sign = c.in_ok-write_sign.ensures in
    on_err_from c.from_residual-in_err-extend_from_slice.result _
    (omega (arith, c.in_err-extend_from_slice.ensures.full, sign.len, sign.grows, ap (λ k. length (sign_of k)) back, digits, written_length z))

-- how much stands before the decimals, and of what number they are
record BeforeDecimals (c : goal.After-write_decimals) : Type 0 where
  long : vec_len c.extend_from_slice.new.self
      ≡ vec_len c.args.out.now + length (sign_of c.args.millionths) + length (decimal (unsigned_abs c.args.millionths / 1000000))
  room : vec_capacity c.args.out.now ≤ vec_capacity c.extend_from_slice.new.self
  rest : length (point_and_decimals (c.unsigned_abs-magnitude.result % 1000000))
      ≡ length (point_and_decimals (unsigned_abs c.args.millionths % 1000000))

before_decimals : (c : goal.After-write_decimals) → BeforeDecimals c
before_decimals c =
    let z = c.args.millionths in
    let back = to_z-of_z w64 z c.ranges.millionths in
    let is : c.unsigned_abs-magnitude.result ≡ unsigned_abs z = c.unsigned_abs-magnitude.ensures.value ∙ ap unsigned_abs back in
    let digits = ap length (c.as_bytes.ensures.value ∙ c.format.ensures.text) ∙ ap (λ k. length (decimal (k / 1000000))) is in
    let sign = c.in_ok-write_sign.ensures in
    let put = c.in_ok-extend_from_slice.ensures in
    record {
      long = omega (arith, put.len, sign.len, ap (λ k. length (sign_of k)) back, digits);
      room = omega (arith, put.capacity, sign.grows);
      rest = ap (λ k. length (point_and_decimals (k % 1000000))) is;
    }

pub returns-clause-full : goal.returns-clause-full
returns-clause-full c =
    let before = before_decimals c in
    let long = written_length c.args.millionths in
    on_err_weaker c.write_decimals.result (λ full. omega (arith, full, before.long, before.room, before.rest, long)) c.write_decimals.ensures.full

pub returns-clause-len : goal.returns-clause-len
returns-clause-len c =
    let before = before_decimals c in
    let long = written_length c.args.millionths in
    on_ok_weaker c.write_decimals.result (λ put. omega (arith, put, before.long, before.rest, long)) c.write_decimals.ensures.len

pub returns-in_err-write_sign-clause-done : goal.returns-in_err-write_sign-clause-done
returns-in_err-write_sign-clause-done c = let p = err_from_is_err_and c.from_residual.result c.from_residual.ensures.1 in rw p.1 tt

pub returns-in_err-write_sign-clause-len : goal.returns-in_err-write_sign-clause-len
returns-in_err-write_sign-clause-len c = let p = err_from_is_err_and c.from_residual.result c.from_residual.ensures.1 in rw p.1 tt

pub returns-in_err-write_sign-clause-grown : goal.returns-in_err-write_sign-clause-grown
returns-in_err-write_sign-clause-grown c =
    on_err_from c.from_residual.result _
    (c.in_err-write_sign.ensures.grown)

pub returns-in_err-write_sign-clause-grows : goal.returns-in_err-write_sign-clause-grows
returns-in_err-write_sign-clause-grows c = c.write_sign.ensures.grows

pub returns-in_err-extend_from_slice-clause-done : goal.returns-in_err-extend_from_slice-clause-done
returns-in_err-extend_from_slice-clause-done c =
    let p = err_from_is_err_and c.from_residual-in_err-extend_from_slice.result c.from_residual-in_err-extend_from_slice.ensures.1 in rw p.1 tt

pub returns-in_err-extend_from_slice-clause-len : goal.returns-in_err-extend_from_slice-clause-len
returns-in_err-extend_from_slice-clause-len c =
    let p = err_from_is_err_and c.from_residual-in_err-extend_from_slice.result c.from_residual-in_err-extend_from_slice.ensures.1 in rw p.1 tt

pub returns-in_err-extend_from_slice-clause-grown : goal.returns-in_err-extend_from_slice-clause-grown
returns-in_err-extend_from_slice-clause-grown c =
    on_err_from c.from_residual-in_err-extend_from_slice.result _
    (begun_after _ _ _ _ c.in_ok-write_sign.ensures.done (begun_kept _ _ c.in_err-extend_from_slice.ensures.items))

pub returns-in_err-extend_from_slice-clause-grows : goal.returns-in_err-extend_from_slice-clause-grows
returns-in_err-extend_from_slice-clause-grows c = omega (arith, c.in_ok-write_sign.ensures.grows, c.in_err-extend_from_slice.ensures.capacity)

pub returns-clause-grown : goal.returns-clause-grown
returns-clause-grown c =
    on_err_weaker c.write_decimals.result (λ more.
    begun_after _ _ _ _ c.in_ok-write_sign.ensures.done (begun_after _ _ _ _ c.in_ok-extend_from_slice.ensures.items more))
    c.write_decimals.ensures.grown

pub returns-clause-grows : goal.returns-clause-grows
returns-clause-grows c =
    omega (arith, c.in_ok-write_sign.ensures.grows, c.in_ok-extend_from_slice.ensures.capacity, c.write_decimals.ensures.grows)
