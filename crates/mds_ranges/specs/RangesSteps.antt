-- What is appended to the rows of a range. No public contract cites it.
use Rattle.std.specs.Prelude.{◌≡◌, ◌+◌, ℕ, suc, zero, List, [], ◌∷◌, ◌++◌, map}
use Rattle.mds_world.specs.World.{World}
use Rattle.mds_keeper.specs.Books.{BookValue, IsDay}
use Rattle.mds_registers.specs.Stretches.{AreFinals, AreGaps}
use Rattle.mds_registers.specs.declared.stretches.Final.{Final}
use Rattle.mds_registers.specs.declared.stretches.Gap.{Gap}
use Rattle.mds_registers.specs.declared.writing.FinalRow.{FinalRow}
use Rattle.mds_registers.specs.declared.writing.GapRow.{GapRow}

-- the gaps of a day are appended
abbrev pub AddsGaps : BookValue → List GapRow → List GapRow → Type 0
AddsGaps book old new =
    (gaps : List Gap) × (new ≡ old ++ map (λ gap. record { day = book.day; gap = gap }) gaps)
    × ((w : World) → IsDay w book → AreGaps w book.stream book.day gaps)

-- the finals of a day are appended
abbrev pub AddsFinals : BookValue → List FinalRow → List FinalRow → Type 0
AddsFinals book old new =
    (finals : List Final) × (new ≡ old ++ map (λ stretch. record { day = book.day; stretch = stretch }) finals)
    × ((w : World) → IsDay w book → AreFinals w book.stream book.day finals)

-- the row of a day that isn't known
abbrev pub whole_day : ℕ → GapRow
whole_day day = record { day = day; gap = record { first = 0; last = 0 } }

-- the rows of this many such days
abbrev pub whole_days : ℕ → ℕ → List GapRow
whole_days first zero = []
whole_days first (suc n) = whole_days first n ++ whole_day (first + n) ∷ []
