-- The heads that mds_form says once rows of new days and of heads are put.
use Rattle.std.proofs.Common.{◌≡◌, inl, inr, List, [], ◌∷◌, ◌++◌, drop, map, refl, sym, ap, subst, ◌∙◌}
use Rattle.std.proofs.lemmas.List.Sorted.{IsPermutation-sym}
use Rattle.sqlite.specs.declared.types.Value.TheVariants.{Null}
use Rattle.sqlite_catalog.specs.Listing.{IsSound}
use Rattle.sqlite_trees.specs.Tree.{Trees}
use Rattle.sqlite_value.specs.Order.{Row}
use Rattle.std.specs.Ordering.{is_eq}
use Rattle.std.specs.Prelude.{cond}
use Rattle.mds_world.proofs.Lists.{append_left, append_right, in_map, map_in}
use Rattle.mds_world.specs.Facts.{head_at}
use Rattle.mds_world.specs.Facts.Fact.{HeadIs}
use Rattle.mds_world.specs.Lists.{Member}
use Rattle.mds_world.specs.StreamDays.{stream_day_cmp}
use Rattle.mds_world.specs.declared.facts.Head.{Head}
use Rattle.mds_tables.specs.Cells.{form_cells}
use Rattle.mds_tables.specs.RowFacts.{natural_at, stream_in, text_at, unit_named}
use Rattle.mds_tables.specs.Stores.{Gains}
use Rattle.mds_tables.specs.Tables.{form_tree, head_tree}
use Rattle.mds_tables.specs.Parts.{Part, Says}
use Rattle.mds_tables.specs.Writing.{IsMore}
use Rattle.mds_tables.proofs.RowLemmas.{Unnamed, more}
use Rattle.mds_tables.proofs.MemberLemmas.{moved}
use Rattle.mds_pack_rows.specs.Current.{current_schema}
use Rattle.mds_pack_rows.specs.FormLayout.{day_in, form_fact, form_heads, unit_in}
use Rattle.mds_commit.specs.Committing.{KeepsUnits}
use Rattle.mds_commit.specs.FormPutting.{SayUnits, day_of}
use Rattle.mds_commit.proofs.ReferenceLemmas.{has_day}
use Rattle.mds_commit.proofs.UnitLemmas.{unit_found}

-- ---- what a row of mds_form says

-- rows of one day have one unit
unit_same : (heads : List Row) (a b : Row) → day_in a ≡ day_in b → unit_in heads a ≡ unit_in heads b
unit_same [] a b same = refl
unit_same (head ∷ heads) a b same =
    λ i. cond (is_eq (stream_day_cmp (day_in head) (same i))) (unit_named (text_at head 5)) (unit_same heads a b same i)

-- the rowid is nothing of it
day_bare : (row : Row) → day_in row ≡ day_in (Null ∷ drop 1 row)
day_bare [] = refl
day_bare (v ∷ row) = refl

form_bare : (heads : List Row) → Unnamed (form_fact heads)
form_bare heads [] = λ i. HeadIs (head_at (stream_in []) (natural_at [] 3) (natural_at [] 4) (natural_at [] 5) (unit_same heads [] (Null ∷ []) refl i))
form_bare heads (v ∷ row) =
    λ i. HeadIs (head_at (stream_in (v ∷ row)) (natural_at (v ∷ row) 3) (natural_at (v ∷ row) 4) (natural_at (v ∷ row) 5)
    (unit_same heads (v ∷ row) (Null ∷ row) refl i))

-- ---- rows that are put

-- Where mds_head keeps the units of other days, and says those of the heads that are put:
module _ (one last : Trees) (new_days further : List Head) (sound : IsSound current_schema one) (sound_then : IsSound current_schema last)
    (keeps : KeepsUnits new_days (one head_tree) (last head_tree)) (say : SayUnits (new_days ++ further) last)
    (gains : Gains form_tree (map form_cells (new_days ++ further)) one last) where
  abbrev all : List Head
  all = new_days ++ further

  -- a head that was there has the unit that it had
  unit_stays : (row : Row) → Member row (one form_tree) → unit_in (last head_tree) row ≡ unit_in (one head_tree) row
  unit_stays row m = elim (keeps.units row) [
    | inl same ↦ same
    | inr it ↦
        let head = it.0 in
        let there = has_day one sound row m in
        let says : (other : Row) → Member other (last head_tree) → day_in other ≡ day_in row → unit_named (text_at other 5) ≡ head.unit =
        λ other n on. say head (append_left head new_days further it.1) other n (on ∙ it.2) in
        unit_found (last head_tree) row head.unit there.0 (keeps.rows there.0 there.1) there.2 says
        ∙ sym (unit_found (one head_tree) row head.unit there.0 there.1 there.2 (λ other n on. says other (keeps.rows other n) on))
  ]

  heads_stay : (rows : List Row) → ((row : Row) → Member row rows → unit_in (last head_tree) row ≡ unit_in (one head_tree) row)
      → map (form_fact (last head_tree)) rows ≡ map (form_fact (one head_tree)) rows
  heads_stay [] units = refl
  heads_stay (row ∷ rows) units =
      let unit = units row (inl refl) in
      λ i. HeadIs (head_at (stream_in row) (natural_at row 3) (natural_at row 4) (natural_at row 5) (unit i))
      ∷ heads_stay rows (λ r m. units r (inr m)) i

  -- a head that is put has its row, under some rowid
  has_row : (head : Head) → Member head all → (row : Row) × Member row (last form_tree) × (form_cells head ≡ drop 1 row)
  has_row head m =
      let cells = append_right (form_cells head) (map (drop 1) (one form_tree)) (map form_cells all) (map_in form_cells all head m) in
      in_map (drop 1) (last form_tree) (form_cells head)
      (moved (map (drop 1) (last form_tree)) (map (drop 1) (one form_tree) ++ map form_cells all) (IsPermutation-sym _ _ gains) (form_cells head) cells)

  -- and its unit is found
  unit_put : (head : Head) → Member head all → (row : Row) → day_in row ≡ day_of head → unit_in (last head_tree) row ≡ head.unit
  unit_put head m row on =
      let mine = has_row head m in
      let there = has_day last sound_then mine.0 mine.1 in
      let day : day_in mine.0 ≡ day_of head = day_bare mine.0 ∙ ap (λ (cells : Row). day_in (Null ∷ cells)) (sym mine.2) in
      unit_found (last head_tree) row head.unit there.0 there.1 (there.2 ∙ day ∙ sym on) (λ other n at. say head m other n (at ∙ on))

  -- how it reads beside the rows of mds_head that there are then
  abbrev part : Part Head
  part = record { place = 10; tree = form_tree; cells = form_cells; fact = HeadIs; read = form_fact (last head_tree) }

  says_heads : (heads : List Head) → ((head : Head) → Member head heads → Member head all) → Says part heads
  says_heads [] among = tt
  says_heads (head ∷ heads) among = (
    (λ id. let unit = unit_put head (among head (inl refl)) (id ∷ form_cells head) refl in
        λ i. HeadIs (head_at head.stream head.day head.update head.length (unit i))),
    says_heads heads (λ h m. among h (inr m)),
  )

  -- So mds_form says these heads beside those that it said.
  pub forms_more : IsMore (form_heads last) (form_heads one) (map HeadIs all)
  forms_more =
      subst (λ facts. IsMore (form_heads last) facts (map HeadIs all)) (heads_stay (one form_tree) unit_stays)
      (more part (form_bare (last head_tree)) all (says_heads all (λ h m. m)) one last gains)
