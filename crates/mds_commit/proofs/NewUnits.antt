-- The row of a new day in mds_head is the only one of that day, as another would have its key.
use Rattle.std.proofs.Common.{◌≡◌, ◌<◌, ◌^◌, ◌&&◌, ◌||◌, inl, inr, ℤ, pos, List, [], ◌∷◌, drop, Bool, true, false, not, unwrap_or, refl, sym, ap, ◌∙◌}
use Rattle.std.specs.List.{AllByRecursion, list_all, list_any}
use Rattle.std.specs.Ordering.{is_eq, is_ne}
use Rattle.std.specs.declared.cmp.Ordering.{Ordering}
use Rattle.std.specs.declared.cmp.Ordering.TheVariants.{Less, Equal, Greater}
use Rattle.sqlite.specs.declared.types.Value.{Value}
use Rattle.sqlite.specs.declared.types.Value.TheVariants.{Blob, Int, Null, Real, Text}
use Rattle.sqlite_catalog.specs.Listing.{IsSound}
use Rattle.sqlite_schema.specs.Rules.{agree, clashes, differ, guards, passes}
use Rattle.sqlite_schema.specs.declared.schema.Constraint.TheVariants.{Unique}
use Rattle.sqlite_sql.specs.Ops.{binary, is_null}
use Rattle.sqlite_trees.specs.Tree.{Trees, rowid}
use Rattle.sqlite_value.specs.Keys.{first_key, plain}
use Rattle.sqlite_value.specs.Order.{Row, column, value_cmp}
use Rattle.mds_quantity.specs.Unit.{unit_text}
use Rattle.mds_quantity.specs.declared.unit.Unit.{Unit as MeasureUnit}
use Rattle.mds_quantity.specs.declared.unit.Unit.TheVariants.{MWh}
use Rattle.mds_world.specs.Lists.{Member}
use Rattle.mds_world.specs.declared.facts.Head.{Head}
use Rattle.mds_world.specs.declared.facts.StreamDay.{StreamDay}
use Rattle.mds_tables.specs.Cells.{unit_cells}
use Rattle.mds_tables.specs.HeadTabling.{reads_back}
use Rattle.mds_tables.specs.RowFacts.{int_at, text_at, unit_named}
use Rattle.mds_tables.specs.Tables.{day_key, head_table, head_tree}
use Rattle.mds_tables.proofs.KeyLemmas.{cells_equal, truth_of}
use Rattle.mds_tables.proofs.MemberLemmas.{all_has}
use Rattle.mds_tables.proofs.TypedLemmas.{both}
use Rattle.mds_tables.proofs.TypedRows.{head_row, small}
use Rattle.mds_pack_rows.specs.Current.{current_more, current_schema}
use Rattle.mds_pack_rows.specs.FormLayout.{day_in}
use Rattle.mds_commit.specs.FormPutting.{SayUnits, day_of}
use Rattle.mds_commit.specs.Units.{HaveRowids}
use Rattle.mds_commit.proofs.KeepLemmas.{IsAlone}

unequal : (o : Ordering) → is_eq o ≡ false → is_ne o ≡ true
unequal Less apart = refl
unequal Equal apart = absurd cc
unequal Greater apart = refl

-- SQL's inequality with an integer is that of the order of values
differs : (v : Value) (n : ℤ) → is_null v ≡ false → is_eq (value_cmp v (Int n)) ≡ false → differ v (Int n) ≡ true
unfolding binary
differs Null n some apart = absurd cc
differs (Int m) n some apart = truth_of _ ∙ unequal _ apart
differs (Real x) n some apart = truth_of _ ∙ unequal _ apart
differs (Text t) n some apart = truth_of _ ∙ unequal _ apart
differs (Blob b) n some apart = truth_of _ ∙ unequal _ apart

any_of : {X : Type 0} (p : X → Bool) (xs : List X) (x : X) → Member x xs → p x ≡ true → list_any p xs ≡ true
any_of p [] x m is = absurd m
any_of p (y ∷ ys) x (inl e) is = let here : p y ≡ true = sym (ap p e) ∙ is in ap (λ b. b || list_any p ys) here
any_of p (y ∷ ys) x (inr m) is = or_later (p y) _ (any_of p ys x m is)
  where
    or_later : (a b : Bool) → b ≡ true → (a || b) ≡ true
    or_later true b is = refl
    or_later false b is = is

module _ (trees : Trees) (sound : IsSound current_schema trees) (some : HaveRowids trees) where
  module _ (head : Head) (below : head.day < 2 ^ 63) (it : IsAlone head (trees head_tree)) where
    abbrev mine : Row
    mine = Int it.id ∷ unit_cells head

    -- a row of the day has its key
    same_key : (row : Row) → Member row (trees head_tree) → day_in row ≡ day_of head → agree plain day_key row day_key mine ≡ true
    unfolding first_key
    same_key row m on =
        let cells = head_row current_more trees sound row m in
        let nmi : column row 1 ≡ Text head.stream.nmi = cells.nmi ∙ ap (λ (d : StreamDay). Text d.stream.nmi) on in
        let suffix : column row 2 ≡ Text head.stream.suffix = cells.suffix ∙ ap (λ (d : StreamDay). Text d.stream.suffix) on in
        let whole : int_at row 3 ≡ pos head.day = small (int_at row 3) head.day (ap (λ (d : StreamDay). d.day) on) below in
        let number : column row 3 ≡ Int (pos head.day) = cells.number ∙ ap Int whole in
        let a = cells_equal (Text head.stream.nmi) (column row 1) cells.nmi nmi in
        let b = cells_equal (Text head.stream.suffix) (column row 2) cells.suffix suffix in
        let c = cells_equal (Int (pos head.day)) (column row 3) cells.number number in
        λ i. a i && (b i && (c i && true))

    -- so it has its rowid
    no_other : (row : Row) → Member row (trees head_tree) → day_in row ≡ day_of head → is_eq (value_cmp (rowid row) (Int it.id)) ≡ false → ⊥
    no_other row m on apart =
        let far : differ (rowid row) (rowid mine) ≡ true = differs (rowid row) it.id (some row m) apart in
        let clash : clashes plain day_key (trees head_tree) mine ≡ true =
        any_of (λ other. agree plain day_key other day_key mine && differ (rowid other) (rowid mine)) (trees head_tree) row m
        (λ i. same_key row m on i && far i) in
        let kept = all_has (λ r. passes Unique current_schema trees head_table r ≡ true) (trees head_tree) mine (sound.obeys.rules Unique).1.0 it.there in
        let free : not (clashes plain day_key (trees head_tree) mine) ≡ true =
        (both (not (clashes plain day_key (trees head_tree) mine))
        (list_all (λ i. not (guards i head_table && clashes i.order i.columns (trees head_tree) mine)) (drop 2 current_schema.indexes)) kept).0 in
        let no : not true ≡ true = sym (ap not clash) ∙ free in cc

    -- and says its unit
    says : (row : Row) → Member row (trees head_tree) → day_in row ≡ day_of head → unit_named (text_at row 5) ≡ head.unit
    says row m on = elim (it.alone row m) [
      | inl same ↦ ap (λ (r : Row). unit_named (text_at r 5)) same ∙ reads head.unit
      | inr apart ↦ absurd (no_other row m on apart)
    ]
      where
        reads : (u : MeasureUnit) → unit_named (unit_text u) ≡ u
        reads u = ap (λ o. unwrap_or o MWh) (reads_back u)

  -- The rows of new days say their units.
  pub say_new : (heads : List Head) → AllByRecursion (λ (head : Head). head.day < 2 ^ 63) heads
      → ((head : Head) → Member head heads → IsAlone head (trees head_tree)) → SayUnits heads trees
  say_new heads days alone head m row n on =
      says head (all_has (λ (head : Head). head.day < 2 ^ 63) heads head days m) (alone head m) row n on
