use Rattle.std.proofs.Common.{◌≡◌, ◌≤◌, ◌+◌, ◌++◌, map, take, vec_len, vec_capacity, true}
use Rattle.std.specs.List.{list_all}
use Rattle.mds_runs.specs.KeptReadings.{is_small, number_of}
use Rattle.mds_runs.proofs.day_readings.put_values.Given as goal

abbrev pub invariant-loop-value : goal.invariant-loop-value
invariant-loop-value l = record {
  done : l.millionths.items ≡ l.initial.millionths.items ++ map (number_of l.is_null) (take l.value-index l.values);
  small : list_all (is_small l.is_null) (take l.value-index l.values) ≡ true;
  long : vec_len l.millionths ≡ vec_len l.initial.millionths + l.value-index;
  room : vec_capacity l.initial.millionths ≤ vec_capacity l.millionths;
}
