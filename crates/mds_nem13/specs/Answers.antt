-- The results of reading a file (profile).
use Rattle.std.specs.Prelude.{◌≡◌, ℕ, Bool, true, false, List, Option, Some, None}
use Rattle.mds_lines.specs.declared.line.Kind.{Kind}
use Rattle.mds_lines.specs.declared.line.Kind.TheVariants.{Header, AccumulationData, AccumulationB2bDetails}
use Rattle.mds_records.specs.declared.file.FileFault.{FileFault}
use Rattle.mds_walk.specs.Governing.{record_kind}

-- the sink receives a line that is a record of this kind
abbrev pub is_told : Option Kind → Bool
is_told (Some Header) = true
is_told (Some AccumulationData) = true
is_told (Some AccumulationB2bDetails) = true
is_told kind = false

-- memory may run out for a line: it has no fault, and the sink receives it
abbrev pub MayLack : List ℕ → Option FileFault → Type 0
MayLack line found = (found ≡ None) × (is_told (record_kind line) ≡ true)

-- the same for a line after these lines that has this fault, if it has one
abbrev pub MayLackMemory : List (List ℕ) → List ℕ → Option FileFault → Type 0
MayLackMemory before line found = MayLack line found
