-- What the types of the columns say of a row.
use Rattle.std.proofs.Common.{◌≡◌, ℕ, suc, zero, ◌+◌, List, [], ◌∷◌, drop, Bool, true, false, cond, ◌&&◌, ◌||◌, not, None, refl, subst, arith}
use Rattle.sqlite.specs.declared.types.Value.{Value}
use Rattle.sqlite.specs.declared.types.Value.TheVariants.{Null, Int, Real, Text, Blob}
use Rattle.sqlite_value.specs.Order.{Row, column, bytes}
use Rattle.sqlite_sql.specs.Ops.{is_null}
use Rattle.sqlite_schema.specs.declared.schema.Column.{Column}
use Rattle.sqlite_schema.specs.declared.schema.Kind.TheVariants as kind
use Rattle.sqlite_schema.specs.Rules.{is_of, are_typed, are_present, has_affinity}
use Rattle.sqlite_rules.specs.Edit.{id_in}
use Rattle.mds_tables.specs.Tables.{needed}

-- a value of the kind of another, where that is a text or an integer
abbrev pub IsAlike : Value → Value → Type 0
IsAlike (Text t) v = v ≡ Text (bytes v)
IsAlike (Int n) v = v ≡ Int (id_in v)
IsAlike _ v = ⊥

-- the columns of a row behind this one have the kinds of a key's cells
abbrev pub AreAlike : ℕ → Row → Row → Type 0
AreAlike at [] row = Unit {0}
AreAlike at (k ∷ ks) row = IsAlike k (column row (suc at)) × AreAlike (suc at) ks row

-- a column that has values of the kind of a cell
abbrev pub IsFor : Column → Value → Type 0
IsFor c (Text t) = (name : List ℕ) × (c ≡ needed name kind.Text)
IsFor c (Int n) = (name : List ℕ) × (c ≡ needed name kind.Integer)
IsFor c _ = ⊥

-- the first columns are those of a key
abbrev pub AreFor : List Column → Row → Type 0
AreFor cs [] = Unit {0}
AreFor [] (k ∷ ks) = ⊥
AreFor (c ∷ cs) (k ∷ ks) = IsFor c k × AreFor cs ks

-- a row has a value of its type in each of the columns
pub record AreTyped (cs : List Column) (row : Row) : Type 0 where
  pub typed : are_typed None 0 cs (drop 1 row) ≡ true
  pub present : are_present None 0 cs row ≡ true

pub is_text : (v : Value) → is_of kind.Text v ≡ true → is_null v ≡ false → v ≡ Text (bytes v)
is_text Null fits some = absurd (cc)
is_text (Int n) fits some = absurd (cc)
is_text (Real x) fits some = absurd (cc)
is_text (Text t) fits some = refl
is_text (Blob b) fits some = absurd (cc)

pub is_integer : (v : Value) → is_of kind.Integer v ≡ true → is_null v ≡ false → v ≡ Int (id_in v)
is_integer Null fits some = absurd (cc)
is_integer (Int n) fits some = refl
is_integer (Real x) fits some = absurd (cc)
is_integer (Text t) fits some = absurd (cc)
is_integer (Blob b) fits some = absurd (cc)

pub both : (a b : Bool) → (a && b) ≡ true → (a ≡ true) × (b ≡ true)
both true b h = (refl, h)
both false b h = absurd (cc)

unnot : (b : Bool) → not b ≡ true → b ≡ false
unnot true h = absurd (cc)
unnot false h = refl

-- a row reaches as far as a column that has a value
pub reaches : (row : Row) (at : ℕ) → is_null (column row at) ≡ false → drop at row ≡ column row at ∷ drop (suc at) row
reaches [] at some = absurd (cc)
reaches (v ∷ vs) zero some = refl
reaches (v ∷ vs) (suc at) some = reaches vs at some

abbrev Suits : Value → Column → Type 0
Suits v c = cond c.is_strict (is_of c.kind v) (has_affinity c.kind v) ≡ true

kind_is : (c : Column) (k v : Value) → IsFor c k → Suits v c → is_null v ≡ false → IsAlike k v
kind_is c Null v of fits some = absurd of
kind_is c (Int n) v of fits some =
    is_integer v (subst (Suits v) of.1 fits) some
kind_is c (Real x) v of fits some = absurd of
kind_is c (Text t) v of fits some =
    is_text v (subst (Suits v) of.1 fits) some
kind_is c (Blob b) v of fits some = absurd of

not_null : (c : Column) (k v : Value) → IsFor c k → (not c.not_null || not (is_null v)) ≡ true → is_null v ≡ false
not_null c Null v of there = absurd of
not_null c (Int n) v of there =
    unnot _ (subst (λ (d : Column). (not d.not_null || not (is_null v)) ≡ true) of.1 there)
not_null c (Real x) v of there = absurd of
not_null c (Text t) v of there =
    unnot _ (subst (λ (d : Column). (not d.not_null || not (is_null v)) ≡ true) of.1 there)
not_null c (Blob b) v of there = absurd of

alike_from : (cs : List Column) (ks : Row) (at : ℕ) (row : Row) → AreFor cs ks
    → are_typed None at cs (drop (suc at) row) ≡ true → are_present None at cs row ≡ true → AreAlike at ks row
alike_from cs [] at row of typed present = tt
alike_from [] (k ∷ ks) at row of typed present = absurd of
alike_from (c ∷ cs) (k ∷ ks) at row of typed present =
    let e : at + 1 ≡ suc at = omega arith in
    let there =
    subst (λ n. ((not c.not_null || not (is_null (column row n))) && are_present None n cs row) ≡ true) e present in
    let some : is_null (column row (suc at)) ≡ false = not_null c k _ of.0 (both _ _ there).0 in
    let here = subst (λ vs. are_typed None at (c ∷ cs) vs ≡ true) (reaches row (suc at) some) typed in
    let next = subst (λ n. are_typed None n cs (drop (suc (suc at)) row) ≡ true) e (both _ _ here).1 in (
      kind_is c k (column row (suc at)) of.0 (both _ _ here).0 some,
      alike_from cs ks (suc at) row of.1 next (both _ _ there).1,
    )

-- So the first columns of a row have the kinds of the key's cells.
pub alike : (cs : List Column) (ks : Row) (row : Row) → AreFor cs ks → AreTyped cs row → AreAlike 0 ks row
alike cs ks row of it = alike_from cs ks 0 row of it.typed it.present
