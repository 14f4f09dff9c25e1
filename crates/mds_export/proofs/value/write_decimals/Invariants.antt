use Rattle.std.proofs.Common.{◌≡◌, ◌+◌, ◌<◌, ◌≤◌, ◌++◌, ◌∷◌, take, vec_capacity, vec_len}
use Rattle.mds_quantity.specs.Quantity.{six_decimals}
use Rattle.mds_quantity.proofs.Trim.{rest_of, prior_rest}
use Rattle.mds_export.proofs.value.write_decimals.Given as goal

abbrev pub invariant-loop-place : goal.invariant-loop-place
invariant-loop-place l = record {
  text : l.out.items ≡ l.fn.out.items ++ (46 ∷ take l.place-index (six_decimals l.part));
  rest : l.rest ≡ rest_of l.part l.place-index;
  len : vec_len l.out ≡ vec_len l.fn.out + 1 + l.place-index;
  capacity : vec_capacity l.fn.out ≤ vec_capacity l.out;
  some : 0 < prior_rest l.part l.place-index;
}
