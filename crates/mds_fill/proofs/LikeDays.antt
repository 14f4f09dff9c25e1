-- The Sundays before a day, and days in a list.
use Rattle.std.proofs.Common.{◌≡◌, ◌+◌, ◌-◌, ◌*◌, ◌<◌, ◌≤◌, ℕ, zero, suc, slice_get, Bool, true, false, ◌||◌, ◌==◌, List, [], ◌∷◌, Option, Some, None, SomeIff, IfSome, IfNone, refl, sym, subst, inl, inr, arith}
use Rattle.std.proofs.lemmas.Bool.Decides.{nat_tests}
use Rattle.std.specs.Bool.{MatchBool}
use Rattle.std.specs.List.{list_any}
use Rattle.mds_calendar.specs.Calendar.{weekday_of}
use Rattle.mds_calendar.proofs.Days.{weekday_bound, weekday_later}
use Rattle.mds_world.specs.Lists.{Member}
use Rattle.mds_world.proofs.Sets.{split_or}
use Rattle.mds_fill.specs.Candidates.{IsSunday}

-- what a value has that is there under a condition, and what an absent one says
pub some_if : {T : Type 0} (Q : T → Type 0) (r : Option T) (x : T) {P : Type 0} → SomeIff r P x → (P → Q x) → IfSome r Q
some_if Q (Some y) x h f = subst Q (sym h.1) (f h.0)
some_if Q None x h f = tt

pub none_if : {T : Type 0} (r : Option T) (x : T) {P R : Type 0} → SomeIff r P x → ((P → ⊥) → R) → IfNone r R
none_if (Some y) x h f = tt
none_if None x h f = f h

-- the Sunday that the weekday of a day tells
pub sunday_there : (day n place : ℕ) → n ≡ weekday_of day + 1 → n + 7 * place ≤ day
    → IsSunday (day - (n + 7 * place)) × (day - (n + 7 * place) + 7 * place < day)
    × (day ≤ day - (n + 7 * place) + 7 * place + 7)
sunday_there day n place e le =
    let whole : day ≡ day - (n + 7 * place) + (n + 7 * place) = omega arith in
    let later = weekday_later (day - (n + 7 * place)) day (n + 7 * place) whole in
    let small = weekday_bound (day - (n + 7 * place)) in
    let bound = weekday_bound day in
    (omega (arith, later, small, bound, e), omega (arith, e, bound), omega (arith, e, bound))

-- a Sunday within a week before the place is that one
pub no_other_sunday : (day n place sunday : ℕ) → n ≡ weekday_of day + 1 → (n + 7 * place ≤ day → ⊥) → IsSunday sunday
    → sunday + 7 * place < day → day ≤ sunday + 7 * place + 7 → ⊥
no_other_sunday day n place sunday e none is below within =
    let whole : day ≡ sunday + (day - sunday) = omega arith in
    let later = weekday_later sunday day (day - sunday) whole in
    none (omega (arith, later, e, is, below, within))

-- a day is found in a list just where it is one of it
found : (day : ℕ) (days : List ℕ) → list_any (λ other. other == day) days ≡ true → Member day days
found day [] e = cc
found day (other ∷ days) e = elim (split_or (other == day) (list_any (λ one. one == day) days) e) [
  | inl t ↦ inl (grind (arith, nat_tests))
  | inr t ↦ inr (found day days t)
]

neither : (a b : Bool) → (a || b) ≡ false → (a ≡ false) × (b ≡ false)
neither true b e = cc
neither false b e = (refl, e)

missed : (day : ℕ) (days : List ℕ) → list_any (λ other. other == day) days ≡ false → Member day days → ⊥
missed day [] e m = m
missed day (other ∷ days) e (inl is) =
    let apart : (other == day) ≡ false = (neither (other == day) (list_any (λ one. one == day) days) e).0 in
    grind (arith, nat_tests)
missed day (other ∷ days) e (inr m) =
    missed day days (neither (other == day) (list_any (λ one. one == day) days) e).1 m

pub is_member : (test : Bool) (day : ℕ) (days : List ℕ) → test ≡ list_any (λ other. other == day) days
    → MatchBool test (Member day days) (Member day days → ⊥)
is_member true day days e = found day days (sym e)
is_member false day days e = missed day days (sym e)

-- what holds of four slots, each at its place, holds of each slot
pub each_slot : {T : Type 0} (P : ℕ → Option T → Type 0) (a b c d : Option T) → P 0 a → P 1 b → P 2 c → P 3 d
    → (place : ℕ) (slot : Option T) → slice_get (a ∷ b ∷ c ∷ d ∷ []) place ≡ Some slot → P place slot
each_slot P a b c d pa pb pc pd zero slot e = let same : a ≡ slot = cc in subst (P 0) same pa
each_slot P a b c d pa pb pc pd (suc zero) slot e = let same : b ≡ slot = cc in subst (P 1) same pb
each_slot P a b c d pa pb pc pd (suc (suc zero)) slot e = let same : c ≡ slot = cc in subst (P 2) same pc
each_slot P a b c d pa pb pc pd (suc (suc (suc zero))) slot e = let same : d ≡ slot = cc in subst (P 3) same pd
each_slot P a b c d pa pb pc pd (suc (suc (suc (suc place)))) slot e = absurd (cc)
