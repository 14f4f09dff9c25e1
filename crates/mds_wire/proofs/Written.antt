-- What was written of two texts.
use Rattle.std.proofs.Common.{ℕ, ◌+◌, ◌<◌, List, ◌++◌, length, take, Option, Result, Ok, Err, OnErr, sym, arith, length-append}
use Rattle.std.specs.Io.KnownBytes.{Appends}
use Rattle.mds_lines.proofs.StreamSteps.{take_across, appends_both}

pub part_behind : {T E : Type 0} (head body : List ℕ) (r : Result T E) (a b c : Option (List ℕ)) → Appends a b head
    → OnErr r ((n : ℕ) × (n < length body) × Appends b c (take n body))
    → OnErr r ((n : ℕ) × (n < length (head ++ body)) × Appends a c (take n (head ++ body)))
part_behind head body (Ok x) a b c h k = tt
part_behind head body (Err e) a b c h (n, lt, k) = (
  length head + n,
  omega (arith, length-append head body, lt),
  appends_both a b c head (take n body) _ (sym (take_across head body n)) h k,
)
