use Rattle.std.proofs.Common.{◌≡◌, ◌≤◌, ◌+◌, ◌++◌, length, take, vec_capacity, vec_len}
use Rattle.mds_export.specs.RowSteps.{value_texts}
use Rattle.mds_export.proofs.value.write_values.Given as goal

abbrev pub invariant-loop-number : goal.invariant-loop-number
invariant-loop-number l = record {
  text : l.out.items ≡ l.fn.out.items ++ value_texts (take l.number-index l.readings);
  len : vec_len l.out ≡ vec_len l.fn.out + length (value_texts (take l.number-index l.readings));
  capacity : vec_capacity l.fn.out ≤ vec_capacity l.out;
}
