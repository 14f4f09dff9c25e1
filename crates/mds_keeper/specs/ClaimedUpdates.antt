-- What was claimed for a day, as a list: each update, its length, and its readings if they are kept (profile).
use Rattle.std.specs.Prelude.{◌≡◌, ℕ, List, ◌∷◌, ◌++◌, Option, Some, None}
use Rattle.mds_keeper.specs.declared.claimed.ClaimedReadings.{ClaimedReadings}
use Rattle.mds_keeper.specs.declared.claimed.ClaimedUpdate.{ClaimedUpdate}

-- the first update, if there is one, and then the others
abbrev pub entries_of : Option ClaimedUpdate → List (ℕ × ClaimedReadings) → List (ℕ × ClaimedReadings)
entries_of None others = others
entries_of (Some first) others = (first.update, first.kept) ∷ others

-- one more entry, somewhere among the others
abbrev pub ComesBeside : {T : Type 0} → List T → List T → T → Type 0
ComesBeside old new entry =
    (front : List _) × (back : List _) × (old ≡ front ++ back) × (new ≡ front ++ entry ∷ back)
