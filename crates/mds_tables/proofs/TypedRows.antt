-- What the types of the columns say of a row, and which rows begin with a key.
use Rattle.std.proofs.Common.{◌≡◌, ◌<◌, ◌^◌, ℕ, ℤ, pos, negsuc, suc, zero, ◌+◌, List, [], ◌∷◌, length, slice_get, take, drop, Bool, true, false, cond, not, Option, Some, None, refl, sym, ap, subst, ◌∙◌, arith}
use Rattle.sqlite.specs.declared.types.Value.{Value}
use Rattle.sqlite.specs.declared.types.Value.TheVariants.{Null, Int, Text}
use Rattle.sqlite_trees.specs.Tree.{Trees}
use Rattle.sqlite_value.specs.Order.{Row, column}
use Rattle.sqlite_catalog.specs.Listing.{IsSound}
use Rattle.sqlite_sql.specs.Ops.{is_null}
use Rattle.sqlite_schema.specs.declared.schema.Column.{Column}
use Rattle.sqlite_schema.specs.declared.schema.Constraint.TheVariants.{Datatype, NotNull}
use Rattle.sqlite_schema.specs.declared.schema.Kind.{Kind}
use Rattle.sqlite_schema.specs.declared.schema.Kind.TheVariants as kind
use Rattle.sqlite_schema.specs.declared.schema.Reference.{Reference}
use Rattle.sqlite.specs.Table.{Table}
use Rattle.sqlite_schema.specs.Rules.{passes, is_of, are_typed, are_present, has_affinity}
use Rattle.sqlite_rules.specs.Edit.{id_in}
use Rattle.mds_world.specs.Lists.{Member}
use Rattle.mds_tables.specs.RowFacts.{int_at, letter_in, natural, optional, text_at}
use Rattle.mds_tables.specs.Cells.{letter_text, optional_cell}
use Rattle.mds_tables.specs.Stores.{Begins}
use Rattle.mds_tables.proofs.MemberLemmas.{all_has}
use Rattle.mds_tables.proofs.TypedLemmas.{both, is_integer, is_text}
use Rattle.mds_tables.specs.Tables.{More, needed, keyed_table, schema_with, head_table, version_table, event_table, period_table, day_key, version_key, event_key, period_key, to_head}

-- a column that is needed has a value of its type
needed_typed : (name : List ℕ) (k : Kind) (at : ℕ) (cs : List Column) (row : Row) → slice_get cs at ≡ Some (needed name k)
    → (from : ℕ) → are_typed None from cs row ≡ true → is_null (column row at) ≡ false → is_of k (column row at) ≡ true
needed_typed name k at [] row is from typed some = absurd (cc)
needed_typed name k at (c ∷ cs) [] is from typed some = absurd (cc)
needed_typed name k zero (c ∷ cs) (v ∷ vs) is from typed some =
    let same : c ≡ needed name k = cc in
    subst (λ (d : Column). cond d.is_strict (is_of d.kind v) (has_affinity d.kind v) ≡ true) same (both _ _ typed).0
needed_typed name k (suc at) (c ∷ cs) (v ∷ vs) is from typed some =
    needed_typed name k at cs vs is (from + 1) (both _ _ typed).1 some

unnot : (b : Bool) → not b ≡ true → b ≡ false
unnot true h = absurd (cc)
unnot false h = refl

needed_present : (name : List ℕ) (k : Kind) (at : ℕ) (cs : List Column) (row : Row)
    → slice_get cs at ≡ Some (needed name k) → (from place : ℕ) → place ≡ from + at + 1
    → are_present None from cs row ≡ true → is_null (column row place) ≡ false
needed_present name k at [] row is from place there present = absurd (cc)
needed_present name k zero (c ∷ cs) row is from place there present =
    let same : c ≡ needed name k = cc in
    let here = subst (λ (d : Column). are_present None from (d ∷ cs) row ≡ true) same present in
    let e : from + 1 ≡ place = omega arith in
    subst (λ n. is_null (column row n) ≡ false) e (unnot _ (both _ _ here).0)
needed_present name k (suc at) (c ∷ cs) row is from place there present =
    needed_present name k at cs row is (from + 1) place (omega arith) (both _ _ present).1

next_column : (row : Row) (at : ℕ) → column (drop 1 row) at ≡ column row (suc at)
next_column [] at = refl
next_column (v ∷ vs) at = refl

module _ (more : More) (name : List ℕ) (tree : ℕ) (columns : List Column) (primary key : List ℕ) (refs : List Reference) where
  abbrev pub one_of : Table
  one_of = record (keyed_table name tree columns primary key) { references = refs }

  typed_at : (k : Kind) (called : List ℕ) (db : Trees) (r : Row) (at : ℕ) → slice_get columns at ≡ Some (needed called k)
      → passes Datatype (schema_with more) db one_of r ≡ true → passes NotNull (schema_with more) db one_of r ≡ true
      → (is_of k (column r (suc at)) ≡ true) × (is_null (column r (suc at)) ≡ false)
  typed_at k called db r at is fits there =
      let some : is_null (column r (suc at)) ≡ false = needed_present called k at columns r is 0 (suc at) (omega arith) there in
      let typed = needed_typed called k at columns (drop 1 r) is 0 (both _ _ fits).0 (ap is_null (next_column r at) ∙ some) in
      (ap (is_of k) (sym (next_column r at)) ∙ typed, some)

  pub text_typed : (called : List ℕ) (db : Trees) (r : Row) (at : ℕ) → slice_get columns at ≡ Some (needed called kind.Text)
      → passes Datatype (schema_with more) db one_of r ≡ true → passes NotNull (schema_with more) db one_of r ≡ true
      → column r (suc at) ≡ Text (text_at r (suc at))
  text_typed called db r at is fits there =
      let t = typed_at kind.Text called db r at is fits there in is_text _ t.0 t.1

  pub int_typed : (called : List ℕ) (db : Trees) (r : Row) (at : ℕ) → slice_get columns at ≡ Some (needed called kind.Integer)
      → passes Datatype (schema_with more) db one_of r ≡ true → passes NotNull (schema_with more) db one_of r ≡ true
      → column r (suc at) ≡ Int (int_at r (suc at))
  int_typed called db r at is fits there =
      let t = typed_at kind.Integer called db r at is fits there in is_integer _ t.0 t.1

-- a row that begins with a stream and a number
pub record HasKeyCells (r : Row) : Type 0 where
  pub nmi : column r 1 ≡ Text (text_at r 1)
  pub suffix : column r 2 ≡ Text (text_at r 2)
  pub number : column r 3 ≡ Int (int_at r 3)

pub record HasEventCells (r : Row) : Type 0 where
  pub keyed : HasKeyCells r
  pub trans : column r 4 ≡ Text (text_at r 4)
  pub ticket : column r 5 ≡ Text (text_at r 5)
  pub moment : column r 6 ≡ Int (int_at r 6)
  pub reading : column r 7 ≡ Text (text_at r 7)

pub record HasPeriodCells (r : Row) : Type 0 where
  pub nmi : column r 1 ≡ Text (text_at r 1)
  pub suffix : column r 2 ≡ Text (text_at r 2)
  pub register : column r 3 ≡ Text (text_at r 3)
  pub start : column r 4 ≡ Int (int_at r 4)
  pub finish : column r 5 ≡ Int (int_at r 5)
  pub update : column r 6 ≡ Int (int_at r 6)

module _ (more : More) (db : Trees) (sound : IsSound (schema_with more) db) (r : Row) where
  pub head_row : Member r (db 2) → HasKeyCells r
  head_row m =
      let fits : passes Datatype (schema_with more) db head_table r ≡ true =
      all_has _ (db 2) r (sound.obeys.rules Datatype).1.0 m in
      let there : passes NotNull (schema_with more) db head_table r ≡ true =
      all_has _ (db 2) r (sound.obeys.rules NotNull).1.0 m in
      let texts : (called : List ℕ) (at : ℕ) → slice_get head_table.columns at ≡ Some (needed called kind.Text)
      → column r (suc at) ≡ Text (text_at r (suc at)) =
      λ called at is. text_typed more head_table.name 2 head_table.columns day_key day_key [] called db r at is fits there in
      let ints : (called : List ℕ) (at : ℕ) → slice_get head_table.columns at ≡ Some (needed called kind.Integer)
      → column r (suc at) ≡ Int (int_at r (suc at)) =
      λ called at is. int_typed more head_table.name 2 head_table.columns day_key day_key [] called db r at is fits there in
      record {
        nmi = texts _ 0 refl;
        suffix = texts _ 1 refl;
        number = ints _ 2 refl;
      }

  pub version_row : Member r (db 4) → HasKeyCells r
  version_row m =
      let fits : passes Datatype (schema_with more) db version_table r ≡ true =
      all_has _ (db 4) r (sound.obeys.rules Datatype).1.1.0 m in
      let there : passes NotNull (schema_with more) db version_table r ≡ true =
      all_has _ (db 4) r (sound.obeys.rules NotNull).1.1.0 m in
      let texts : (called : List ℕ) (at : ℕ) → slice_get version_table.columns at ≡ Some (needed called kind.Text)
      → column r (suc at) ≡ Text (text_at r (suc at)) =
      λ called at is. text_typed more version_table.name 4 version_table.columns version_key version_key (to_head ∷ []) called db r at is fits there in
      let ints : (called : List ℕ) (at : ℕ) → slice_get version_table.columns at ≡ Some (needed called kind.Integer)
      → column r (suc at) ≡ Int (int_at r (suc at)) =
      λ called at is. int_typed more version_table.name 4 version_table.columns version_key version_key (to_head ∷ []) called db r at is fits there in
      record {
        nmi = texts _ 0 refl;
        suffix = texts _ 1 refl;
        number = ints _ 2 refl;
      }

  pub event_row : Member r (db 8) → HasEventCells r
  event_row m =
      let fits : passes Datatype (schema_with more) db event_table r ≡ true =
      all_has _ (db 8) r (sound.obeys.rules Datatype).1.1.1.1.0 m in
      let there : passes NotNull (schema_with more) db event_table r ≡ true =
      all_has _ (db 8) r (sound.obeys.rules NotNull).1.1.1.1.0 m in
      let texts : (called : List ℕ) (at : ℕ) → slice_get event_table.columns at ≡ Some (needed called kind.Text)
      → column r (suc at) ≡ Text (text_at r (suc at)) =
      λ called at is. text_typed more event_table.name 8 event_table.columns event_key event_key [] called db r at is fits there in
      let ints : (called : List ℕ) (at : ℕ) → slice_get event_table.columns at ≡ Some (needed called kind.Integer)
      → column r (suc at) ≡ Int (int_at r (suc at)) =
      λ called at is. int_typed more event_table.name 8 event_table.columns event_key event_key [] called db r at is fits there in
      record {
        keyed = record {
          nmi = texts _ 0 refl;
          suffix = texts _ 1 refl;
          number = ints _ 2 refl;
        };
        trans = texts _ 3 refl;
        ticket = texts _ 4 refl;
        moment = ints _ 5 refl;
        reading = texts _ 6 refl;
      }

  pub period_row : Member r (db 10) → HasPeriodCells r
  period_row m =
      let fits : passes Datatype (schema_with more) db period_table r ≡ true =
      all_has _ (db 10) r (sound.obeys.rules Datatype).1.1.1.1.1.0 m in
      let there : passes NotNull (schema_with more) db period_table r ≡ true =
      all_has _ (db 10) r (sound.obeys.rules NotNull).1.1.1.1.1.0 m in
      let texts : (called : List ℕ) (at : ℕ) → slice_get period_table.columns at ≡ Some (needed called kind.Text)
      → column r (suc at) ≡ Text (text_at r (suc at)) =
      λ called at is. text_typed more period_table.name 10 period_table.columns period_key period_key [] called db r at is fits there in
      let ints : (called : List ℕ) (at : ℕ) → slice_get period_table.columns at ≡ Some (needed called kind.Integer)
      → column r (suc at) ≡ Int (int_at r (suc at)) =
      λ called at is. int_typed more period_table.name 10 period_table.columns period_key period_key [] called db r at is fits there in
      record {
        nmi = texts _ 0 refl;
        suffix = texts _ 1 refl;
        register = texts _ 2 refl;
        start = ints _ 3 refl;
        finish = ints _ 4 refl;
        update = ints _ 5 refl;
      }

-- ---- a row that begins with a key

column_front : (key cols : Row) → take (length key) cols ≡ key → (at : ℕ) → at < length key → column cols at ≡ column key at
column_front [] cols e at l = absurd (omega arith)
column_front (k ∷ ks) [] e at l = absurd (cc)
column_front (k ∷ ks) (c ∷ cs) e zero l = cc
column_front (k ∷ ks) (c ∷ cs) e (suc at) l = let rest : take (length ks) cs ≡ ks = cc in column_front ks cs rest at (omega arith)

pub begins_at : (key row : Row) → Begins key row → (at : ℕ) → at < length key → column row (suc at) ≡ column key at
begins_at key row b at l = sym (next_column row at) ∙ column_front key (drop 1 row) b at l

-- the columns from a place on are these, none of them NULL
abbrev pub Fill : Row → ℕ → Row → Type 0
Fill [] at row = Unit {0}
Fill (k ∷ ks) at row = (column row at ≡ k) × (k ≡ Null → ⊥) × Fill ks (suc at) row

fill_rest : (ks : Row) (at : ℕ) (c : Value) (cs : Row) → Fill ks (suc at) (c ∷ cs) → Fill ks at cs
fill_rest [] at c cs f = tt
fill_rest (k ∷ ks) at c cs f = (f.0, f.1, fill_rest ks (suc at) c cs f.2)

fill_front : (key cols : Row) → Fill key 0 cols → take (length key) cols ≡ key
fill_front [] cols f = refl
fill_front (k ∷ ks) [] f = absurd (f.1 (sym f.0))
fill_front (k ∷ ks) (c ∷ cs) f = λ i. f.0 i ∷ fill_front ks cs (fill_rest ks 0 c cs f.2) i

pub begins_by : (key row : Row) → Fill key 1 row → Begins key row
begins_by [] row f = refl
begins_by (k ∷ ks) [] f = absurd (f.1 (sym f.0))
begins_by (k ∷ ks) (c ∷ cs) f = fill_front (k ∷ ks) cs (fill_rest (k ∷ ks) 0 c cs f)

-- ---- numbers and letters that the store writes

pub small : (z : ℤ) (n : ℕ) → natural z ≡ n → n < 2 ^ 63 → z ≡ pos n
small (pos m) n e l = ap pos e
small (negsuc m) n e l = let same : 2 ^ 63 + m ≡ n = e in absurd (omega (arith, same))

pub small_option : (z : ℤ) (o : Option ℕ) → optional z ≡ o → ((n : ℕ) → o ≡ Some n → n < 2 ^ 63) → Int z ≡ optional_cell o
small_option (pos m) None e l = absurd (cc)
small_option (pos m) (Some n) e l = let same : m ≡ n = cc in ap (λ k. Int (pos k)) same
small_option (negsuc zero) None e l = refl
small_option (negsuc zero) (Some n) e l = absurd (cc)
small_option (negsuc (suc m)) None e l = absurd (cc)
small_option (negsuc (suc m)) (Some n) e l =
    let same : 2 ^ 63 + m ≡ n = cc in let below = l n refl in absurd (omega (arith, same))

pub small_letter : (text : List ℕ) (o : Option ℕ) → letter_in text ≡ o → ((n : ℕ) → o ≡ Some n → n < 2 ^ 63)
    → text ≡ letter_text o
small_letter [] None e l = refl
small_letter [] (Some n) e l = absurd (cc)
small_letter (x ∷ []) None e l = absurd (cc)
small_letter (x ∷ []) (Some n) e l = let same : x ≡ n = cc in ap (λ k. k ∷ []) same
small_letter (x ∷ y ∷ more) None e l = absurd (cc)
small_letter (x ∷ y ∷ more) (Some n) e l =
    let same : 2 ^ 63 ≡ n = cc in let below = l n refl in absurd (omega (arith, same))

pub optional_back : (o : Option ℕ) → optional (id_in (optional_cell o)) ≡ o
optional_back None = refl
optional_back (Some n) = refl

pub some_cell : (o : Option ℕ) → optional_cell o ≡ Null → ⊥
some_cell None e = cc
some_cell (Some n) e = cc

pub letter_back : (o : Option ℕ) → letter_in (letter_text o) ≡ o
letter_back None = refl
letter_back (Some n) = refl
