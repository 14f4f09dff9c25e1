-- SQL's comparisons of whole numbers.
use Rattle.std.proofs.Common.{◌≡◌, ◌≤◌, ℕ, ℤ, pos, negsuc, true, false, refl, ap, ◌∙◌, arith}
use Rattle.std.proofs.lemmas.Int.{ints}
use Rattle.std.specs.Ordering.{int_cmp, is_ge, is_le, is_lt}
use Rattle.sqlite.specs.declared.types.Value.TheVariants.{Int}
use Rattle.sqlite_sql.specs.Ops.{binary, is_true}
use Rattle.sqlite_sql.specs.declared.ops.BinaryOp.TheVariants.{Compare}
use Rattle.sqlite_sql.specs.declared.ops.CompareOp.TheVariants.{Ge, Le}
use Rattle.sqlite_value.proofs.OrderLemmas.{value_cmp-Int}
use Rattle.sqlite_value.specs.declared.keys.Collation.TheVariants.{Binary}
use Rattle.mds_tables.proofs.KeyLemmas.{truth_of}

pub at_least_is : (a b : ℤ) → is_true (binary (Compare Ge Binary) (Int a) (Int b)) ≡ is_ge (int_cmp a b)
unfolding binary
at_least_is a b = truth_of _ ∙ ap is_ge (value_cmp-Int a b)

pub at_most_is : (a b : ℤ) → is_true (binary (Compare Le Binary) (Int a) (Int b)) ≡ is_le (int_cmp a b)
unfolding binary
at_most_is a b = truth_of _ ∙ ap is_le (value_cmp-Int a b)

-- ---- the same of counts

pub from_le : (a b : ℕ) → is_le (int_cmp (pos a) (pos b)) ≡ true → a ≤ b
from_le a b h = grind (arith, ints)

pub to_le : (a b : ℕ) → a ≤ b → is_le (int_cmp (pos a) (pos b)) ≡ true
to_le a b h = grind (arith, ints)

pub to_ge : (a b : ℕ) → b ≤ a → is_ge (int_cmp (pos a) (pos b)) ≡ true
to_ge a b h = grind (arith, ints)

pub not_less : (a b : ℕ) → is_lt (int_cmp (pos a) (pos b)) ≡ false → b ≤ a
not_less a b h = grind (arith, ints)

-- a number between two counts is one
pub between : (z : ℤ) (first last : ℕ) → is_ge (int_cmp z (pos first)) ≡ true → is_le (int_cmp z (pos last)) ≡ true
    → (n : ℕ) × (first ≤ n) × (n ≤ last) × (z ≡ pos n)
between (pos n) first last low high = (n, grind (arith, ints), from_le n last high, refl)
between (negsuc n) first last low high = absurd (cc)
