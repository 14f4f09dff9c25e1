-- Each row of mds_version is of a day that has a row of mds_head, as its reference asks.
use Rattle.std.proofs.Common.{◌≡◌, ◌||◌, inl, inr, List, ◌∷◌, [], Bool, true, false, Some, refl, sym, ap, subst}
use Rattle.std.specs.List.{list_any}
use Rattle.sqlite.specs.declared.types.Value.TheVariants.{Int, Text}
use Rattle.sqlite_catalog.specs.Listing.{IsSound}
use Rattle.sqlite_rules.specs.Edit.{id_in}
use Rattle.sqlite_schema.specs.Names.{same_name}
use Rattle.sqlite_schema.specs.Rules.{ParentKey, agree, equal, has_null, has_parent, is_held, parent_key, passes}
use Rattle.sqlite_schema.specs.declared.schema.Constraint.TheVariants.{ForeignKey}
use Rattle.sqlite_sql.specs.Ops.{is_null}
use Rattle.sqlite_trees.specs.Tree.{Trees}
use Rattle.sqlite_value.specs.Keys.{first_key, joined, plain}
use Rattle.sqlite_value.specs.Order.{Row, bytes, column}
use Rattle.sqlite_value.specs.declared.keys.Collation.TheVariants.{Binary}
use Rattle.mds_world.specs.Lists.{Member}
use Rattle.mds_tables.specs.RowFacts.{int_at, natural, natural_at, stream_in, text_at}
use Rattle.mds_tables.specs.Tables.{More, day_key, head_tree, schema_with, tables_with, to_head, version_table, version_tree}
use Rattle.mds_tables.proofs.KeyLemmas.{equal_cells}
use Rattle.mds_tables.proofs.MemberLemmas.{all_has}
use Rattle.mds_tables.proofs.TypedLemmas.{both}
use Rattle.mds_tables.proofs.TypedRows.{head_row, version_row}

-- a test that one of a list passes
passed : {X : Type 0} (p : X → Bool) (xs : List X) → list_any p xs ≡ true → (x : X) × Member x xs × (p x ≡ true)
passed {X = X} p [] h = absurd (cc)
passed {X = X} p (x ∷ xs) h = elim (p x) as (λ b. p x ≡ b → (b || list_any p xs) ≡ true → (y : X) × Member y (x ∷ xs) × (p y ≡ true)) [
  | true ↦ λ is _. (x, inl refl, is)
  | false ↦ λ is more. let it = passed p xs more in (it.0, inr it.1, it.2)
] refl h

-- where a version's reference to its head points to
abbrev head_key : ParentKey
head_key = (head_tree, day_key, plain)

points_to_head : (more : More) → parent_key (tables_with more) to_head ≡ Some head_key
unfolding same_name joined
points_to_head more = refl

none_null : (a b c : Bool) → a ≡ false → b ≡ false → c ≡ false → (a || (b || (c || false))) ≡ false
none_null a b c p q r = rw (p, q, r)

agrees : (parent row : Row) → agree plain day_key parent day_key row ≡ true
    → (equal Binary (column parent 1) (column row 1) ≡ true) × (equal Binary (column parent 2) (column row 2) ≡ true)
    × (equal Binary (column parent 3) (column row 3) ≡ true)
unfolding first_key
agrees parent row h = let more = both _ _ h in let last = both _ _ more.1 in (more.0, last.0, (both _ _ last.1).0)

module _ (more : More) (db : Trees) (sound : IsSound (schema_with more) db) (row : Row) (m : Member row (db version_tree)) where
  refers : has_parent (tables_with more) db row to_head ≡ true
  refers =
      let obeys = (sound.obeys.rules ForeignKey).1.1.0 in
      (both _ _ (all_has (λ r. passes ForeignKey (schema_with more) db version_table r ≡ true) (db version_tree) row obeys m)).0

  not_null : has_null day_key row ≡ false
  not_null =
      let it = version_row more db sound row m in
      none_null _ _ _ (ap is_null it.nmi) (ap is_null it.suffix) (ap is_null it.number)

  held : list_any (λ parent. agree plain day_key parent day_key row) (db head_tree) ≡ true
  held = subst (λ key. is_held db day_key row key ≡ true) (points_to_head more)
      (subst (λ b. (b || is_held db day_key row (parent_key (tables_with more) to_head)) ≡ true) not_null refers)

  -- a head is of the day of the version
  pub has_head : (head : Row) × Member head (db head_tree) × (stream_in row ≡ stream_in head) × (natural_at row 3 ≡ natural_at head 3)
  has_head =
      let found = passed (λ parent. agree plain day_key parent day_key row) (db head_tree) held in
      let head = found.0 in
      let same = agrees head row found.2 in
      let it = version_row more db sound row m in
      let cells = head_row more db sound head found.1 in
      let nmi : column head 1 ≡ Text (text_at row 1) =
      equal_cells (Text (text_at row 1)) (column head 1) cells.nmi (subst (λ v. equal Binary (column head 1) v ≡ true) it.nmi same.0) in
      let suffix : column head 2 ≡ Text (text_at row 2) =
      equal_cells (Text (text_at row 2)) (column head 2) cells.suffix (subst (λ v. equal Binary (column head 2) v ≡ true) it.suffix same.1) in
      let on : column head 3 ≡ Int (int_at row 3) =
      equal_cells (Int (int_at row 3)) (column head 3) cells.number (subst (λ v. equal Binary (column head 3) v ≡ true) it.number same.2) in
      let one : text_at row 1 ≡ text_at head 1 = sym (ap bytes nmi) in
      let two : text_at row 2 ≡ text_at head 2 = sym (ap bytes suffix) in
      let day : natural_at row 3 ≡ natural_at head 3 = sym (ap (λ v. natural (id_in v)) on) in
      (head, found.1, (λ i. record { nmi = one i; suffix = two i }), day)
