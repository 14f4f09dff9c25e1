-- The size in bytes of the values of a packed day, by its head and its runs (profile). Marks aren't looked at yet.
use Rattle.std.specs.Prelude.{ℕ, zero, suc, ◌+◌, ◌-◌, ◌*◌, not, ◌&&◌, ◌==◌, nat_lt, if◌then◌else◌, List, Option, Some, None, length}
use Rattle.std.specs.Int.{w16}
use Rattle.mds_marks.specs.Quality.{null}
use Rattle.mds_packs.specs.Unpacked.{◌>>=◌, PartsValue, byte_at, number_at, parts_at}

-- the size of the values of the run with these fields: N has no values
abbrev pub parts_size : PartsValue → ℕ
parts_size p = if p.flag == null then 0 else 8 * (p.last + 1 - p.first)

-- the size of the values of this many runs, and the bytes after these runs
abbrev pub sizes_at : ℕ → List ℕ → Option (ℕ × List ℕ)
sizes_at zero bytes = Some (0, bytes)
sizes_at (suc n) bytes = do
  parts ← parts_at bytes
  others ← sizes_at n parts.1
  Some (parts_size parts.0 + others.0, others.1)

-- the size of the values of a day of `count` intervals, if the bytes begin as its body and exactly this many follow the runs
unfoldable pub values_size : ℕ → List ℕ → Option ℕ
values_size count bytes = do
  version ← byte_at bytes
  places ← number_at w16 version.1
  number ← number_at w16 places.1
  if not ((version.0 == 1) && (places.0 == count) && nat_lt 0 number.0) then None else (do
    sizes ← sizes_at number.0 number.1
    if length sizes.1 == sizes.0 then Some sizes.0 else None)
