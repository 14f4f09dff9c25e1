-- What the lines of a file do to a World (profile). What they state is added if all agrees. Otherwise it is refused at the
-- first line that breaks a rule.
use Rattle.std.specs.Prelude.{◌≡◌, ◌≢◌, ◌⊎◌, ℕ, ◌<◌, Bool, false, nat_le, List, filter}
use Rattle.std.specs.List.{flat_map}
use Rattle.std.specs.FinSet as set
use Rattle.mds_names.specs.declared.stream.Stream.{Stream}
use Rattle.mds_marks.specs.Reading.{ReadingValue}
use Rattle.mds_statements.specs.Statements.{Statement}
use Rattle.mds_statements.specs.Statements.Statement.{DayOf, PeriodOf}
use Rattle.mds_world.specs.declared.facts.Head.{Head}
use Rattle.mds_world.specs.declared.facts.Key.{Key}
use Rattle.mds_world.specs.Facts.{Fact, PeriodContent}
use Rattle.mds_statements.specs.declared.periods.PeriodKey.{PeriodKey}
use Rattle.mds_world.specs.Facts.Fact.{HeadIs, VersionIs, PeriodIs}
use Rattle.mds_world.specs.Sets.{◌∈◌}
use Rattle.mds_world.specs.Stated.{day_facts, stated}
use Rattle.mds_world.specs.World.{Agrees, World, union}
use Rattle.mds_keeper.specs.declared.claim.Claim.{Claim}
use Rattle.mds_keeper.specs.declared.refusal.Refusal.{Refusal}
use Rattle.mds_keeper.specs.declared.refusal.RefusalCode.{RefusalCode}
use Rattle.mds_keeper.specs.declared.refusal.RefusalCode.TheVariants.{LengthConflict, UnitConflict, VersionConflict}

-- a day has two lengths under the same update
abbrev pub HasTwoLengths : World → Type 0
HasTwoLengths w =
    (a : Head) × (b : Head) × (HeadIs a ∈ w) × (HeadIs b ∈ w) × (a.stream ≡ b.stream) × (a.day ≡ b.day)
    × (a.update ≡ b.update) × (a.length ≢ b.length)

-- a day has two units, under any updates
abbrev pub HasTwoUnits : World → Type 0
HasTwoUnits w =
    (a : Head) × (b : Head) × (HeadIs a ∈ w) × (HeadIs b ∈ w) × (a.stream ≡ b.stream) × (a.day ≡ b.day)
    × (a.unit ≢ b.unit)

-- an interval of this number has two readings under the same update; a period with two contents counts as interval 0
abbrev pub HasTwoReadings : World → ℕ → Type 0
HasTwoReadings w interval =
    ((key : Key) × (a : ReadingValue) × (b : ReadingValue) × (VersionIs key a ∈ w) × (VersionIs key b ∈ w)
    × (key.interval ≡ interval) × (a ≢ b))
    ⊎ ((key : PeriodKey) × (a : PeriodContent) × (b : PeriodContent) × (PeriodIs key a ∈ w) × (PeriodIs key b ∈ w)
    × (interval ≡ 0) × (a ≢ b))

-- The first rule that a World breaks: lengths come before units, units before readings, and these by the least interval.
abbrev pub Breaks : World → RefusalCode → ℕ → Type 0
Breaks w LengthConflict interval = HasTwoLengths w × (interval ≡ 0)
Breaks w UnitConflict interval = (HasTwoLengths w → ⊥) × HasTwoUnits w × (interval ≡ 0)
Breaks w VersionConflict interval =
    (HasTwoLengths w → ⊥) × (HasTwoUnits w → ⊥) × HasTwoReadings w interval × ((i : ℕ) → i < interval → HasTwoReadings w i → ⊥)
Breaks w code interval = ⊥

-- a statement of a day or a period on a line up to this one; details and events break no rule
abbrev pub is_upto : ℕ → Statement → Bool
is_upto line (DayOf day) = nat_le day.line line
is_upto line (PeriodOf period) = nat_le period.line line
is_upto line statement = false

-- what the lines up to this one state, as far as rules look at it
abbrev pub upto : ℕ → List Statement → World
upto line statements = stated (filter (is_upto line) statements)

-- The least line up to which the statements, with the World, break a rule, and the first such rule.
pub record IsRefusal (w : World) (stated_upto : ℕ → World) (refusal : Refusal) : Type 0 where
  pub breaks : Breaks (union w (stated_upto refusal.line)) refusal.code refusal.interval
  pub before : (line : ℕ) → line < refusal.line → Agrees (union w (stated_upto line))
  pub no_field : refusal.field ≡ 0

-- what a claim states about a day of a stream
abbrev pub claim_facts : Stream → ℕ → Claim → List Fact
claim_facts stream day claim = day_facts stream day claim.length claim.unit claim.update claim.readings

abbrev pub claim_world : Stream → ℕ → Claim → World
claim_world stream day claim = set.from_list (claim_facts stream day claim)

-- what claims state about it
abbrev pub claims_world : Stream → ℕ → List Claim → World
claims_world stream day claims = set.from_list (flat_map (claim_facts stream day) claims)

-- what the claims on lines up to this one state
abbrev pub claims_upto : Stream → ℕ → List Claim → ℕ → World
claims_upto stream day claims line = claims_world stream day (filter (λ claim. nat_le claim.line line) claims)
