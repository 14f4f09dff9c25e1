use Rattle.std.proofs.Common.{◌≡◌, ◌*◌, ◌^◌, ◌≤◌, None, length, take, drop, map, unsigned_abs}
use Rattle.mds_lines.specs.Lines.{fields_of}
use Rattle.mds_records.specs.Records.{quantity_in, sum_of}
use Rattle.mds_records.specs.RecordSteps.{first_false, is_empty_or_quantity, is_there}
use Rattle.mds_records.proofs.interval_values.read_short_values.Given as goal

-- k short values were read, and the next field begins at `at`, after a comma
abbrev pub invariant-loop-k : goal.invariant-loop-k
invariant-loop-k l = record {
  within : l.at ≤ length l.text;
  left : fields_of (drop l.at l.text) ≡ drop l.k (fields_of l.text);
  held : take l.k l.slots ≡ map quantity_in (take l.k (fields_of l.text));
  sum : l.sum ≡ sum_of (take l.k (fields_of l.text));
  small : unsigned_abs l.sum ≤ l.k * 10 ^ 18;
  bad : first_false 3 (map is_empty_or_quantity (take l.k (fields_of l.text))) ≡ None;
  empty : first_false 3 (map is_there (take l.k (fields_of l.text))) ≡ None;
}
