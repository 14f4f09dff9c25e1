-- Loop invariants of unpacking: private (profile).
use Rattle.std.specs.Prelude.{◌≡◌, ℕ, ℤ, List, ◌++◌, map, Option, Some, None}
use Rattle.mds_marks.specs.Reading.{ReadingValue}
use Rattle.mds_marks.specs.declared.mark.Mark.{Mark}
use Rattle.mds_runs.specs.Marked.{reading_by}
use Rattle.mds_packs.specs.Unpacked.{◌>>=◌, PartsValue}
use Rattle.mds_packs.specs.declared.unpacking.Parts.{Parts}

-- the fields of a run, with the bytes of its borrowed text
abbrev pub parts_value : Parts → PartsValue
parts_value p = record { first = p.first; last = p.last; flag = p.flag; method = p.method; code = p.code; text = p.text.now }

-- what was read before, and what is still read
abbrev pub with_front : {A : Type 0} → List A → Option (List A × List ℕ) → Option (List A × List ℕ)
with_front front read = read >>= λ x. Some (front ++ x.0, x.1)

-- the same for readings
abbrev pub held_front : List (Option ReadingValue) → Option (List (Option ReadingValue) × List ℕ) → Option (List (Option ReadingValue) × List ℕ)
held_front front read = with_front front read

-- the reading of a mark and a value, as a held one
abbrev pub held_by : Mark → Option ℤ → Option ReadingValue
held_by mark value = Some (reading_by mark value)

-- these readings are all that was read, without a gap. If there are none, there was a gap, or nothing was read
abbrev pub ReadsWhole : Option (List (Option ReadingValue) × List ℕ) → Option (List ReadingValue × List ℕ) → Type 0
ReadsWhole read (Some whole) = read ≡ Some (map (λ (r : ReadingValue). Some r) whole.0, whole.1)
ReadsWhole read None =
    (readings : List ReadingValue) (rest : List ℕ) → read ≡ Some (map (λ (r : ReadingValue). Some r) readings, rest) → ⊥
