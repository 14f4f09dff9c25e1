-- A reader or writer with a count of its failed calls, and a borrowed source.
use Rattle.std.specs.Prelude.{◌≡◌, ℕ, List}
use denote.MutBor.{MutBor}
use Rattle.mds_lines.specs.declared.source.Counted.{Counted}

-- the reader or writer whose calls are counted
abbrev pub counted_inner : {T : Type 0} → Counted T → T
counted_inner counted = counted.inner

-- how many of its calls have failed
abbrev pub counted_failures : {T : Type 0} → Counted T → ℕ
counted_failures counted = counted.failures

-- what a borrowed source may bring, and leave: the same as the source itself, which stays borrowed
abbrev pub lent_gives : {S : Type 0} → (S → List ℕ → S → Type 0)
    → MutBor S → List ℕ → MutBor S → Type 0
lent_gives gives old bytes new = (new.ghost_name ≡ old.ghost_name) × gives old.now bytes new.now
