-- The day of a head that mds_form says has a row in mds_head, as the references of the tables ask.
use Rattle.std.proofs.Common.{◌≡◌, ◌||◌, inl, inr, ℕ, List, [], ◌∷◌, Bool, true, false, Some, codes, refl, ap, subst, ◌∙◌}
use Rattle.std.specs.List.{list_any}
use Rattle.sqlite.specs.Table.{Table}
use Rattle.sqlite.specs.declared.types.Value.TheVariants.{Int, Text}
use Rattle.sqlite_catalog.specs.Listing.{IsSound}
use Rattle.sqlite_rules.specs.Edit.{id_in}
use Rattle.sqlite_schema.specs.Names.{same_name}
use Rattle.sqlite_schema.specs.Rules.{ParentKey, agree, equal, has_null, has_parent, is_held, parent_key, passes}
use Rattle.sqlite_schema.specs.declared.schema.Constraint.TheVariants.{Datatype, ForeignKey, NotNull}
use Rattle.sqlite_schema.specs.declared.schema.Reference.{Reference}
use Rattle.sqlite_sql.specs.Ops.{is_null}
use Rattle.sqlite_trees.specs.Tree.{Trees}
use Rattle.sqlite_value.specs.Keys.{first_key, joined, plain}
use Rattle.sqlite_value.specs.Order.{Row, bytes, column}
use Rattle.sqlite_value.specs.declared.keys.Collation.TheVariants.{Binary}
use Rattle.mds_names.specs.declared.stream.Stream.{Stream}
use Rattle.mds_world.specs.Lists.{Member}
use Rattle.mds_tables.specs.RowFacts.{int_at, natural, natural_at, text_at}
use Rattle.mds_tables.specs.Tables.{day_key, form_tree, head_tree, to_head}
use Rattle.mds_tables.proofs.KeyLemmas.{equal_cells}
use Rattle.mds_tables.proofs.MemberLemmas.{all_has}
use Rattle.mds_tables.proofs.QueryLemmas.{kept}
use Rattle.mds_tables.proofs.TypedLemmas.{AreFor, AreTyped, alike, both}
use Rattle.mds_tables.proofs.TypedRows.{HasKeyCells, head_row}
use Rattle.mds_pack_rows.specs.Current.{after_details, current_more, current_schema, current_tables}
use Rattle.mds_pack_rows.specs.DailyTables.{daydetails_then}
use Rattle.mds_pack_rows.specs.FormLayout.{day_in}
use Rattle.mds_pack_rows.specs.FormTables.{form_key, form_table, to_pack}
use Rattle.mds_pack_rows.specs.PackCells.{key_cells}
use Rattle.mds_pack_rows.specs.PackTables.{pack_key, pack_table, pack_tree}
use Rattle.mds_pack_rows.proofs.AskLemmas.{pack_row}

-- ---- the row that a reference points to

-- a test that one of a list passes
passed : {X : Type 0} (p : X → Bool) (xs : List X) → list_any p xs ≡ true → (x : X) × Member x xs × (p x ≡ true)
passed {X = X} p [] h = absurd (cc)
passed {X = X} p (x ∷ xs) h = elim (p x) as (λ b. p x ≡ b → (b || list_any p xs) ≡ true → (y : X) × Member y (x ∷ xs) × (p y ≡ true)) [
  | true ↦ λ is _. (x, inl refl, is)
  | false ↦ λ is more. let it = passed p xs more in (it.0, inr it.1, it.2)
] refl h

-- a row without NULL in the columns of a reference has a parent
has_its : (tables : List Table) (db : Trees) (row : Row) (ref : Reference) (key : ParentKey) → parent_key tables ref ≡ Some key
    → has_null ref.columns row ≡ false → has_parent tables db row ref ≡ true
    → (parent : Row) × Member parent (db key.0) × (agree key.2 key.1 parent ref.columns row ≡ true)
has_its tables db row ref key to whole has =
    passed (λ parent. agree key.2 key.1 parent ref.columns row) (db key.0)
    (subst (λ k. is_held db ref.columns row k ≡ true) to
    (subst (λ b. (b || is_held db ref.columns row (parent_key tables ref)) ≡ true) whole has))

-- rows whose first three columns are equal are of one day
one_day_in : (parent row : Row) → HasKeyCells parent → HasKeyCells row → equal Binary (column parent 1) (column row 1) ≡ true
    → equal Binary (column parent 2) (column row 2) ≡ true → equal Binary (column parent 3) (column row 3) ≡ true → day_in parent ≡ day_in row
one_day_in parent row its mine a b c =
    let nmi : column parent 1 ≡ Text (text_at row 1) =
    equal_cells (Text (text_at row 1)) (column parent 1) its.nmi (subst (λ v. equal Binary (column parent 1) v ≡ true) mine.nmi a) in
    let suffix : column parent 2 ≡ Text (text_at row 2) =
    equal_cells (Text (text_at row 2)) (column parent 2) its.suffix (subst (λ v. equal Binary (column parent 2) v ≡ true) mine.suffix b) in
    let number : column parent 3 ≡ Int (int_at row 3) =
    equal_cells (Int (int_at row 3)) (column parent 3) its.number (subst (λ v. equal Binary (column parent 3) v ≡ true) mine.number c) in
    let one : text_at parent 1 ≡ text_at row 1 = ap bytes nmi in
    let two : text_at parent 2 ≡ text_at row 2 = ap bytes suffix in
    let day : natural_at parent 3 ≡ natural_at row 3 = ap (λ v. natural (id_in v)) number in
    λ i. record { stream = record { nmi = one i; suffix = two i }; day = day i }

-- ---- where the references of mds_form and of mds_pack point to

points_to_pack : parent_key current_tables to_pack ≡ Some (pack_tree, pack_key, plain)
unfolding same_name joined
points_to_pack = refl

points_to_head : parent_key current_tables to_head ≡ Some (head_tree, day_key, plain)
unfolding same_name joined
points_to_head = refl

none_three : (a b c : Bool) → a ≡ false → b ≡ false → c ≡ false → (a || (b || (c || false))) ≡ false
none_three a b c p q r = rw (p, q, r)

none_four : (a b c d : Bool) → a ≡ false → b ≡ false → c ≡ false → d ≡ false → (a || (b || (c || (d || false)))) ≡ false
none_four a b c d p q r s = rw (p, q, r, s)

agrees_three : (parent row : Row) → agree plain day_key parent day_key row ≡ true
    → (equal Binary (column parent 1) (column row 1) ≡ true) × (equal Binary (column parent 2) (column row 2) ≡ true)
    × (equal Binary (column parent 3) (column row 3) ≡ true)
unfolding first_key
agrees_three parent row h = let more = both _ _ h in let last = both _ _ more.1 in (more.0, last.0, (both _ _ last.1).0)

agrees_four : (parent row : Row) → agree plain pack_key parent form_key row ≡ true
    → (equal Binary (column parent 1) (column row 1) ≡ true) × (equal Binary (column parent 2) (column row 2) ≡ true)
    × (equal Binary (column parent 3) (column row 3) ≡ true)
unfolding first_key
agrees_four parent row h = let more = both _ _ h in let last = both _ _ more.1 in (more.0, last.0, (both _ _ last.1).0)

form_for : (s : Stream) (day update : ℕ) → AreFor form_table.columns (key_cells s day update)
form_for s day update = ((codes "nmi", refl), ((codes "suffix", refl), ((codes "day", refl), ((codes "moment", refl), tt))))

module _ (db : Trees) (sound : IsSound current_schema db) where
  form_typed : (row : Row) → Member row (db form_tree) → AreTyped form_table.columns row
  form_typed row m =
      let fits = (sound.obeys.rules Datatype).1.1.1.1.1.1.1.1.1.1.0 in
      let it = kept current_more db sound row form_table (db form_tree) fits (sound.obeys.rules NotNull).1.1.1.1.1.1.1.1.1.1.0 m in
      record { typed = (both _ _ it.0).0; present = it.1 }

  -- a row of mds_form is of the day of one of mds_pack
  has_pack : (row : Row) → Member row (db form_tree) → (pack : Row) × Member pack (db pack_tree) × (day_in pack ≡ day_in row)
  has_pack row m =
      let s : Stream = record { nmi = []; suffix = [] } in
      let it = alike form_table.columns (key_cells s 0 0) row (form_for s 0 0) (form_typed row m) in
      let obeys = (sound.obeys.rules ForeignKey).1.1.1.1.1.1.1.1.1.1.0 in
      let refers = (both _ _ (all_has (λ r. passes ForeignKey current_schema db form_table r ≡ true) (db form_tree) row obeys m)).0 in
      let whole : has_null form_key row ≡ false = none_four _ _ _ _ (ap is_null it.0) (ap is_null it.1.0) (ap is_null it.1.1.0) (ap is_null it.1.1.1.0) in
      let found = has_its current_tables db row to_pack (pack_tree, pack_key, plain) points_to_pack whole refers in
      let same = agrees_four found.0 row found.2 in (
        found.0,
        found.1,
        one_day_in found.0 row (pack_row (daydetails_then after_details) db sound found.0 found.1)
            (record { nmi = it.0; suffix = it.1.0; number = it.1.1.0 }) same.0 same.1 same.2,
      )

  -- and that one of the day of one of mds_head
  has_head : (row : Row) → Member row (db pack_tree) → (head : Row) × Member head (db head_tree) × (day_in head ≡ day_in row)
  has_head row m =
      let it = pack_row (daydetails_then after_details) db sound row m in
      let obeys = (sound.obeys.rules ForeignKey).1.1.1.1.1.1.1.1.0 in
      let refers = (both _ _ (all_has (λ r. passes ForeignKey current_schema db pack_table r ≡ true) (db pack_tree) row obeys m)).0 in
      let whole : has_null day_key row ≡ false = none_three _ _ _ (ap is_null it.nmi) (ap is_null it.suffix) (ap is_null it.number) in
      let found = has_its current_tables db row to_head (head_tree, day_key, plain) points_to_head whole refers in
      let same = agrees_three found.0 row found.2 in
      (found.0, found.1, one_day_in found.0 row (head_row current_more db sound found.0 found.1) it same.0 same.1 same.2)

  -- So a row of mds_head is of the day of each row of mds_form.
  pub has_day : (row : Row) → Member row (db form_tree) → (head : Row) × Member head (db head_tree) × (day_in head ≡ day_in row)
  has_day row m =
      let pack = has_pack row m in
      let head = has_head pack.0 pack.1 in
      (head.0, head.1, head.2 ∙ pack.2)
