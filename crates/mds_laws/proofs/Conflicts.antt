-- Where a World agrees, no rule is broken.
use Rattle.std.specs.Prelude.{◌≡◌, ◌⊎◌, ℕ, Bool, true, false, cond, List, [], ◌∷◌}
use Rattle.std.specs.List.{filter}
use Rattle.std.proofs.Common.{inl, inr}
use Rattle.mds_world.specs.Facts.{Fact}
use Rattle.mds_world.specs.Lists.{Member}
use Rattle.mds_world.proofs.Members.{in_union, union_left, union_right}
use Rattle.mds_world.specs.Sets.{◌∈◌}
use Rattle.mds_world.specs.Stated.{stated}
use Rattle.mds_world.specs.World.{Agrees, World, union}
use Rattle.mds_statements.specs.Statements.{Statement}
use Rattle.mds_keeper.specs.Merge.{Breaks, HasTwoLengths, HasTwoReadings, HasTwoUnits, is_upto, upto}
use Rattle.mds_keeper.specs.declared.refusal.RefusalCode.{RefusalCode}
use Rattle.mds_keeper.specs.declared.refusal.RefusalCode.TheVariants as code
use Rattle.mds_laws.proofs.Members.{in_stated, stated_in}

two_lengths : (w : World) → Agrees w → HasTwoLengths w → ⊥
two_lengths w agrees (a, b, h, k, s, d, u, other) = other (agrees.one_length a b h k s d u)

two_units : (w : World) → Agrees w → HasTwoUnits w → ⊥
two_units w agrees (a, b, h, k, s, d, other) = other (agrees.one_unit a b h k s d)

two_readings : (w : World) (interval : ℕ) → Agrees w → HasTwoReadings w interval → ⊥
two_readings w interval agrees (inl (key, a, b, h, k, at, other)) = other (agrees.one_reading key a b h k)
two_readings w interval agrees (inr (key, a, b, h, k, at, other)) = other (agrees.one_content key a b h k)

pub breaks_none : (w : World) (broken : RefusalCode) (interval : ℕ) → Agrees w → Breaks w broken interval → ⊥
breaks_none w code.LengthConflict interval agrees breaks = two_lengths w agrees breaks.0
breaks_none w code.UnitConflict interval agrees breaks = two_units w agrees breaks.1
breaks_none w code.VersionConflict interval agrees breaks = two_readings w interval agrees breaks.2
breaks_none w code.JobReused interval agrees breaks = breaks
breaks_none w code.Protected interval agrees breaks = breaks
breaks_none w code.StaleUpdate interval agrees breaks = breaks
breaks_none w code.NoLikeDay interval agrees breaks = breaks
breaks_none w code.TooLong interval agrees breaks = breaks
breaks_none w code.NoAnchor interval agrees breaks = breaks
breaks_none w code.UnknownDay interval agrees breaks = breaks
breaks_none w code.BadJob interval agrees breaks = breaks
breaks_none w code.RangeTooWide interval agrees breaks = breaks

in_cond : {A : Type 0} (b : Bool) (x y : A) (ys : List A) → Member x (cond b (y ∷ ys) ys) → (x ≡ y) ⊎ Member x ys
in_cond true x y ys m = m
in_cond false x y ys m = inr m

in_filter : {A : Type 0} (p : A → Bool) (xs : List A) (x : A) → Member x (filter p xs) → Member x xs
in_filter p [] x m = m
in_filter p (y ∷ ys) x m = elim (in_cond (p y) x y (filter p ys) m) [
  | inl e ↦ inl e
  | inr n ↦ inr (in_filter p ys x n)
]

-- what the lines up to one state, all lines state
pub upto_within : (line : ℕ) (xs : List Statement) (f : Fact) → f ∈ upto line xs → f ∈ stated xs
upto_within line xs f h =
    let s = in_stated (filter (is_upto line) xs) f h in
    stated_in xs f s.0 (in_filter (is_upto line) xs s.0 s.1) s.2

-- a union with less is within the union
pub union_within : (w a b : World) → ((f : Fact) → f ∈ a → f ∈ b) → (f : Fact) → f ∈ union w a → f ∈ union w b
union_within w a b more f h = elim (in_union w a f h) [ inl x ↦ union_left w b f x | inr y ↦ union_right w b f (more f y) ]
