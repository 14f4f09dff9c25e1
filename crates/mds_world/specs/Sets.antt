-- Members of finite sets.
use Rattle.std.specs.Prelude.{◌≡◌, true}
use Rattle.std.specs.declared.cmp.Ordering.{Ordering}
use Rattle.std.specs.FinSet as set
use Rattle.std.specs.FinSet.{FinSet}

-- it is a member of the set
infix 4 ◌∈◌
abbrev pub ◌∈◌ : {K : Type 0} {R : K → K → Ordering} → K → FinSet R → Type 0
x ∈ s = set.contains s x ≡ true
