-- How an interval is added to the stretches so far. No public contract cites it.
use Rattle.std.specs.Prelude.{◌≡◌, ◌⊎◌, ◌+◌, ℕ, List, [], ◌∷◌, ◌++◌}
use Rattle.mds_marks.specs.declared.mark.Mark.{Mark}
use Rattle.mds_registers.specs.declared.stretches.Final.{Final}
use Rattle.mds_registers.specs.declared.stretches.Gap.{Gap}

-- The last of a list satisfies `IsSuch` and becomes longer, or else the next is appended.
abbrev pub GoesOnOr : {T : Type 0} → (T → Type 0) → (T → T) → T → List T → List T → Type 0
GoesOnOr {T = T} IsSuch longer next old new =
    ((front : List T) × (last : T) × (old ≡ front ++ last ∷ []) × IsSuch last × (new ≡ front ++ longer last ∷ []))
    ⊎ (((front : List T) (last : T) → old ≡ front ++ last ∷ [] → IsSuch last → ⊥) × (new ≡ old ++ next ∷ []))

-- the interval continues a gap that ends right before it, or begins one
abbrev pub TakesInNull : ℕ → List Gap → List Gap → Type 0
TakesInNull interval old new =
    GoesOnOr (λ gap. gap.last + 1 ≡ interval) (λ gap. record gap { last = interval })
    (record { first = interval; last = interval }) old new

-- a stretch has the interval's mark, and ends right before it
abbrev pub GoesOn : ℕ → Mark → Final → Type 0
GoesOn interval mark stretch = (stretch.last + 1 ≡ interval) × (stretch.mark ≡ mark)

-- the interval continues such a stretch, or begins one
abbrev pub TakesInFinal : ℕ → Mark → List Final → List Final → Type 0
TakesInFinal interval mark old new =
    GoesOnOr (GoesOn interval mark) (λ stretch. record stretch { last = interval })
    (record { first = interval; last = interval; mark = mark }) old new
