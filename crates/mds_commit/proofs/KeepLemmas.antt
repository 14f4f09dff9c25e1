-- What statements that put new days into mds_head keep: its rows, and the units of other days. The row of a new day has a rowid of its
-- own.
use Rattle.std.proofs.Common.{◌≡◌, ◌<◌, ◌≤◌, ◌⊎◌, ◌||◌, ◌+◌, ◌*◌, ◌/◌, ◌++◌, inl, inr, ℕ, ℤ, zero, suc, Bool, List, [], ◌∷◌, drop, length, map, take, slice_get, true, false, cond, Option, Some, None, Ok, refl, sym, ap, subst, ◌∙◌, arith}
use Rattle.std.proofs.Math.Nat.{mul-div_cancel}
use Rattle.std.proofs.lemmas.Bool.{and_parts, not-true}
use Rattle.std.proofs.lemmas.Grind.{flat_map-append}
use Rattle.std.proofs.lemmas.List.{length-drop, length-take, map-append}
use Rattle.std.specs.List.{AllByRecursion}
use Rattle.std.specs.Ordering.{is_eq, match_ordering, ordering_reverse}
use Rattle.std.specs.Simd.{first_chunks}
use Rattle.std.specs.declared.cmp.Ordering.{Ordering}
use Rattle.std.specs.declared.cmp.Ordering.TheVariants.{Less, Equal, Greater}
use Rattle.sqlite.specs.Command.TheVariants.{Insert}
use Rattle.sqlite.specs.Does.{Does, Tally}
use Rattle.sqlite.specs.Effect.{Database, value_rows}
use Rattle.sqlite.specs.Rows.{Inserts, Task, Written}
use Rattle.sqlite.specs.Source.TheVariants.{Values}
use Rattle.sqlite.specs.declared.types.Value.{Value}
use Rattle.sqlite.specs.declared.types.Value.TheVariants.{Int, Null}
use Rattle.sqlite.proofs.Callers.{one_step}
use Rattle.sqlite_rules.proofs.ActionLemmas.{no_works}
use Rattle.sqlite_rules.specs.Action.{works}
use Rattle.sqlite_rules.specs.Cast.{cast_row}
use Rattle.sqlite_rules.specs.Edit.{Applies, are_fresh, edit_of, is_taken, next_rowid, numbered, put_all}
use Rattle.sqlite_rules.specs.declared.error.Rowids.TheVariants.{Chosen}
use Rattle.sqlite_schema.specs.declared.schema.Keys.TheVariants.{Enforced}
use Rattle.sqlite_schema.specs.declared.schema.Schema.{Schema}
use Rattle.sqlite_sql.specs.Term.{Term}
use Rattle.sqlite_trees.specs.Tree.{Trees, put_row, rowid}
use Rattle.sqlite_value.proofs.OrderLemmas.{value_cmp_total}
use Rattle.sqlite_value.specs.Order.{Row, value_cmp}
use Rattle.mds_world.proofs.Lists.{append_left, append_right, member_append}
use Rattle.mds_world.specs.Lists.{Member}
use Rattle.mds_world.specs.StreamDays.{stream_day_cmp}
use Rattle.mds_world.specs.declared.facts.Head.{Head}
use Rattle.mds_tables.proofs.InsertLemmas.{cast_int, cast_null, same_value, simple, stored, went}
use Rattle.mds_tables.specs.Cells.{unit_cells}
use Rattle.mds_tables.specs.RowFacts.{text_at, unit_named}
use Rattle.mds_tables.specs.Tables.{head_table, head_tree}
use Rattle.mds_tables.specs.Parts.{head_part, in_turn, statements_of, together}
use Rattle.mds_tables.specs.Refusals.{TakesAll, all_cells, insert_of, terms_from, width_of}
use Rattle.mds_tables.specs.Tabling.{terms_of}
use Rattle.mds_tables.proofs.Batches.{chunks_are, flat}
use Rattle.mds_tables.proofs.ManyLemmas.{sources}
use Rattle.mds_tables.proofs.TermLemmas.{AreWide, length_terms, rows_are, terms_are}
use Rattle.mds_pack_rows.specs.Current.{current_schema}
use Rattle.mds_pack_rows.specs.FormLayout.{day_in, unit_in}
use Rattle.mds_commit.specs.Committing.{KeepsUnits}
use Rattle.mds_commit.specs.FormPutting.{day_of}
use Rattle.mds_commit.proofs.UnitLemmas.{one_day}

-- ---- a row under a fresh rowid

-- the others stay
member_put : (new : Row) (rows : List Row) → is_taken rows new ≡ false → (row : Row) → Member row rows → Member row (put_row new rows)
member_put new [] fresh row m = absurd m
member_put new (r ∷ rs) fresh row m =
    elim (value_cmp (rowid r) (rowid new)) as (λ o. (is_eq o || is_taken rs new) ≡ false
    → Member row (match_ordering o (r ∷ put_row new rs) (new ∷ rs) (new ∷ r ∷ rs))) [
      | Less ↦ λ none. elim m [ inl e ↦ inl e | inr n ↦ inr (member_put new rs none row n) ]
      | Equal ↦ λ none. absurd (cc)
      | Greater ↦ λ none. inr m
    ] fresh

-- and in their order, so that the unit of another day stays
unit_other : (new row : Row) → is_eq (stream_day_cmp (day_in new) (day_in row)) ≡ false → (rows : List Row) → is_taken rows new ≡ false
    → unit_in (put_row new rows) row ≡ unit_in rows row
unit_other new row apart [] fresh = ap (λ b. cond b (unit_named (text_at new 5)) (unit_named [])) apart
unit_other new row apart (r ∷ rs) fresh =
    elim (value_cmp (rowid r) (rowid new)) as (λ o. (is_eq o || is_taken rs new) ≡ false
    → unit_in (match_ordering o (r ∷ put_row new rs) (new ∷ rs) (new ∷ r ∷ rs)) row ≡ unit_in (r ∷ rs) row) [
      | Less ↦ λ none. ap (cond (is_eq (stream_day_cmp (day_in r) (day_in row))) (unit_named (text_at r 5))) (unit_other new row apart rs none)
      | Equal ↦ λ none. absurd (cc)
      | Greater ↦ λ none. ap (λ b. cond b (unit_named (text_at new 5)) (unit_in (r ∷ rs) row)) apart
    ] fresh

-- a row that is there is the new one, or was there
put_member : (new : Row) (rows : List Row) (row : Row) → Member row (put_row new rows) → (row ≡ new) ⊎ Member row rows
put_member new [] row m = m
put_member new (r ∷ rs) row m =
    elim (value_cmp (rowid r) (rowid new)) as (λ o. Member row (match_ordering o (r ∷ put_row new rs) (new ∷ rs) (new ∷ r ∷ rs))
    → (row ≡ new) ⊎ Member row (r ∷ rs)) [
      | Less ↦ λ there. elim there [
        | inl e ↦ inr (inl e)
        | inr n ↦ elim (put_member new rs row n) [ inl e ↦ inl e | inr old ↦ inr (inr old) ]
      ]
      | Equal ↦ λ there. elim there [ inl e ↦ inl e | inr n ↦ inr (inr n) ]
      | Greater ↦ λ there. there
    ] m

-- the new one is there
put_there : (new : Row) (rows : List Row) → Member new (put_row new rows)
put_there new [] = inl refl
put_there new (r ∷ rs) =
    elim (value_cmp (rowid r) (rowid new)) as (λ o. Member new (match_ordering o (r ∷ put_row new rs) (new ∷ rs) (new ∷ r ∷ rs))) [
      | Less ↦ inr (put_there new rs)
      | Equal ↦ inl refl
      | Greater ↦ inl refl
    ]

neither : (a b : Bool) → (a || b) ≡ false → (a ≡ false) × (b ≡ false)
neither true b none = absurd cc
neither false b none = (refl, none)

-- none of the others has its rowid
fresh_apart : (new : Row) (rows : List Row) → is_taken rows new ≡ false → (row : Row) → Member row rows
    → is_eq (value_cmp (rowid row) (rowid new)) ≡ false
fresh_apart new [] fresh row m = absurd m
fresh_apart new (r ∷ rs) fresh row (inl e) = subst (λ y. is_eq (value_cmp (rowid y) (rowid new)) ≡ false) (sym e) (neither _ _ fresh).0
fresh_apart new (r ∷ rs) fresh row (inr m) = fresh_apart new rs (neither _ _ fresh).1 row m

reversed : (o : Ordering) → is_eq o ≡ false → is_eq (ordering_reverse o) ≡ false
reversed Less apart = refl
reversed Equal apart = absurd cc
reversed Greater apart = refl

turned : (a b : Value) → is_eq (value_cmp a b) ≡ false → is_eq (value_cmp b a) ≡ false
turned a b apart = ap is_eq (value_cmp_total.antisymm b a) ∙ reversed (value_cmp a b) apart

-- A head's row is there under a rowid, and no other row has that.
pub record IsAlone (head : Head) (rows : List Row) : Type 0 where
  pub id : ℤ
  pub there : Member (Int id ∷ unit_cells head) rows
  pub alone : (row : Row) → Member row rows → (row ≡ Int id ∷ unit_cells head) ⊎ (is_eq (value_cmp (rowid row) (Int id)) ≡ false)

alone_new : (head : Head) (id : ℤ) (rows : List Row) → is_taken rows (Int id ∷ unit_cells head) ≡ false
    → IsAlone head (put_row (Int id ∷ unit_cells head) rows)
alone_new head id rows fresh =
    let new : Row = Int id ∷ unit_cells head in
    record {
      id = id;
      there = put_there new rows;
      alone = λ row m. elim (put_member new rows row m) [ inl e ↦ inl e | inr n ↦ inr (fresh_apart new rows fresh row n) ];
    }

alone_still : (head : Head) (new : Row) (rows : List Row) → is_taken rows new ≡ false → IsAlone head rows → IsAlone head (put_row new rows)
alone_still head new rows fresh it =
    let mine : Row = Int it.id ∷ unit_cells head in
    record {
      id = it.id;
      there = member_put new rows fresh mine it.there;
      alone = λ row m. elim (put_member new rows row m) [
        | inl e ↦ inr (subst (λ r. is_eq (value_cmp (rowid r) (Int it.id)) ≡ false) (sym e)
            (turned (Int it.id) (rowid new) (fresh_apart new rows fresh mine it.there)))
        | inr n ↦ it.alone row n
      ];
    }

keeps_none : (rows : List Row) → KeepsUnits [] rows rows
keeps_none rows = record { rows = λ row m. m; units = λ row. inl refl }

keeps_one : (head : Head) (id : Value) (rows : List Row) → is_taken rows (id ∷ unit_cells head) ≡ false
    → KeepsUnits (head ∷ []) rows (put_row (id ∷ unit_cells head) rows)
keeps_one head id rows fresh =
    let new : Row = id ∷ unit_cells head in
    record {
      rows = member_put new rows fresh;
      units = λ row.
          elim (is_eq (stream_day_cmp (day_in new) (day_in row))) as (λ b. is_eq (stream_day_cmp (day_in new) (day_in row)) ≡ b
          → (unit_in (put_row new rows) row ≡ unit_in rows row) ⊎ ((it : Head) × Member it (head ∷ []) × (day_in row ≡ day_of it))) [
            | true ↦ λ tied. inr (head, inl refl, sym (one_day (day_in new) (day_in row) tied))
            | false ↦ λ apart. inl (unit_other new row apart rows fresh)
          ] refl;
    }

keeps_then : (xs ys : List Head) (a b c : List Row) → KeepsUnits xs a b → KeepsUnits ys b c → KeepsUnits (xs ++ ys) a c
keeps_then xs ys a b c p q = record {
  rows = λ row m. q.rows row (p.rows row m);
  units = λ row. elim (q.units row) [
    | inl last ↦ elim (p.units row) [
      | inl first ↦ inl (last ∙ first)
      | inr it ↦ inr (it.0, append_left it.0 xs ys it.1, it.2)
    ]
    | inr it ↦ inr (it.0, append_right it.0 xs ys it.1, it.2)
  ];
}

-- Rows of these heads were put among others, each under a rowid of its own.
pub record PutsHeads (heads : List Head) (old new : List Row) : Type 0 where
  pub keeps : KeepsUnits heads old new
  pub still : (head : Head) → IsAlone head old → IsAlone head new
  pub alone : (head : Head) → Member head heads → IsAlone head new

puts_none : (rows : List Row) → PutsHeads [] rows rows
puts_none rows = record { keeps = keeps_none rows; still = λ head it. it; alone = λ head m. absurd m }

puts_one : (head : Head) (id : ℤ) (rows : List Row) → is_taken rows (Int id ∷ unit_cells head) ≡ false
    → PutsHeads (head ∷ []) rows (put_row (Int id ∷ unit_cells head) rows)
puts_one head id rows fresh = record {
  keeps = keeps_one head (Int id) rows fresh;
  still = λ other it. alone_still other (Int id ∷ unit_cells head) rows fresh it;
  alone = λ other m. elim m [
    | inl e ↦ subst (λ h. IsAlone h (put_row (Int id ∷ unit_cells head) rows)) (sym e) (alone_new head id rows fresh)
    | inr none ↦ absurd none
  ];
}

puts_then : (xs ys : List Head) (a b c : List Row) → PutsHeads xs a b → PutsHeads ys b c → PutsHeads (xs ++ ys) a c
puts_then xs ys a b c p q = record {
  keeps = keeps_then xs ys a b c p.keeps q.keeps;
  still = λ head it. q.still head (p.still head it);
  alone = λ head m. elim (member_append head xs ys m) [ inl n ↦ q.still head (p.alone head n) | inr n ↦ q.alone head n ];
}

puts_many : (heads : List Head) (rows : List Row) → are_fresh rows (numbered Chosen rows (sources (map unit_cells heads))) ≡ true
    → PutsHeads heads rows (put_all rows (numbered Chosen rows (sources (map unit_cells heads))))
puts_many [] rows fresh = puts_none rows
puts_many (h ∷ hs) rows fresh =
    let parts = and_parts _ _ fresh in
    let next : List Row = put_row (stored rows (unit_cells h)) rows in
    puts_then (h ∷ []) hs rows next (put_all next (numbered Chosen next (sources (map unit_cells hs))))
    (puts_one h (next_rowid rows) rows (not-true _ parts.0)) (puts_many hs next parts.1)

-- ---- a statement that puts days

cast_days : (heads : List Head) → map (λ s. cast_row (simple head_table) s) (sources (map unit_cells heads)) ≡ sources (map unit_cells heads)
cast_days [] = refl
cast_days (h ∷ hs) =
    let one : cast_row (simple head_table) (Null ∷ unit_cells h) ≡ Null ∷ unit_cells h = rw (cast_null, cast_int, cast_int) in
    λ i. one i ∷ cast_days hs i

module _ (limit : Option ℕ) (schema : Schema) (params : Row) (db : Trees) (heads : List Head) where
  abbrev task : Task
  task = record { limit = limit; keys = Enforced; schema = schema; table = simple head_table; params = params }

  abbrev rows_given : List Row
  rows_given = sources (map unit_cells heads)

  applied : (news : List Row) (next : Trees) → news ≡ rows_given → Applies schema Enforced db (edit_of db (simple head_table) [] Chosen 0 news) next
      → PutsHeads heads (db head_tree) (next head_tree)
  applied news next are it =
      let edit : edit_of db (simple head_table) [] Chosen 0 news
      ≡ record { table = simple head_table; gone = []; news = numbered Chosen (db head_tree) rows_given } =
      ap (edit_of db (simple head_table) [] Chosen 0) are
      ∙ ap (λ rows. record { table = simple head_table; gone = []; news = numbered Chosen (db head_tree) rows }) (cast_days heads) in
      let same = subst (λ e. Applies schema Enforced db e next) edit it in
      subst (PutsHeads heads (db head_tree)) (sym same.rows) (puts_many heads (db head_tree) same.fresh)

  module _ (terms : List Term) (width : ℕ) (are : value_rows (params ++ []) width (length terms / width) terms ≡ rows_given) where
    written : (w : Written) → Inserts task (Values terms width) db (Ok w) → PutsHeads heads (db head_tree) (w.trees head_tree)
    written w h =
        let quiet : (news : List Row) → works schema Enforced 0 head_tree [] news ≡ [] = no_works schema Enforced 0 head_tree in
        let rows = went h in
        let edited = went (went rows.2).2 in
        let counted = went edited.2 in
        let trees : w.trees ≡ edited.0 = ap (λ (it : Written). it.trees) (same_value counted.2) ∙ same_value counted.1 in
        let it = one_step schema Enforced db edited.0 (edit_of db (simple head_table) [] Chosen 0 rows.0) (quiet _) edited.1 in
        rw trees (applied rows.0 edited.0 (rows.1.1 ∙ are) it)

    puts : (tally : Tally) (after : Database) → slice_get schema.tables 1 ≡ Some (simple head_table)
        → Does limit (record { keys = Enforced; in_doubt = false; may_wait = false }) params (record { schema = schema; trees = db }) [] None
        (Insert 1 (Values terms width)) (Ok (tally, after))
        → (after.schema ≡ schema) × PutsHeads heads (db head_tree) (after.trees head_tree)
    puts tally after placed does =
        let done = went (rw placed at does) in
        let now = ap (λ (p : Tally × Database). p.1) (same_value (went (went done.2).2).2) in
        (ap (λ (d : Database). d.schema) now, rw now (written done.0 done.1))

-- ---- several statements

-- what a statement for one day, or for several, puts
abbrev AreGiven : List Head → Type 0
AreGiven heads =
    value_rows (all_cells (map unit_cells heads) ++ []) (width_of (map unit_cells heads))
    (length (terms_from 0 (map unit_cells heads)) / width_of (map unit_cells heads)) (terms_from 0 (map unit_cells heads))
    ≡ sources (map unit_cells heads)

given_one : (head : Head) → AreGiven (head ∷ [])
given_one head = refl

wide_days : (heads : List Head) → AreWide 5 (map unit_cells heads)
wide_days [] = tt
wide_days (h ∷ hs) = (refl, wide_days hs)

wide_of : (heads : List Head) → 0 < length heads → width_of (map unit_cells heads) ≡ 6
wide_of [] none = absurd (omega (arith, none))
wide_of (h ∷ hs) some = refl

given_some : (heads : List Head) → 0 < length heads → AreGiven heads
given_some heads some =
    let rows = map unit_cells heads in
    let terms : terms_from 0 rows ≡ terms_of 0 5 (length rows) = terms_are 5 rows 0 (wide_days heads) in
    let count : length (terms_of 0 5 (length rows)) / 6 ≡ length rows =
    ap (λ n. n / 6) (length_terms 0 5 (length rows)) ∙ mul-div_cancel (length rows) (omega arith) in
    rw (wide_of heads some, terms, count) (rows_are (all_cells rows ++ []) 5 rows 0 [] (wide_days heads) refl)

ones_given : (heads : List Head) → AllByRecursion AreGiven (map (λ head. head ∷ []) heads)
ones_given [] = tt
ones_given (h ∷ hs) = (given_one h, ones_given hs)

batches_given : (k : ℕ) (heads : List Head) → k * together ≤ length heads → AllByRecursion AreGiven (first_chunks together k heads)
batches_given zero heads low = tt
batches_given (suc k) heads low =
    let more : together + k * together ≤ length heads = omega (arith, low) in
    let size : length (take together heads) ≡ together = omega (arith, more, length-take together heads) in
    (given_some (take together heads) (omega (arith, size)), batches_given k (drop together heads) (omega (arith, more, length-drop together heads)))

given_both : (xss yss : List (List Head)) → AllByRecursion AreGiven xss → AllByRecursion AreGiven yss → AllByRecursion AreGiven (xss ++ yss)
given_both [] yss p q = q
given_both (xs ∷ xss) yss p q = (p.0, given_both xss yss p.1 q)

each_puts : (limit : Option ℕ) (hss : List (List Head)) → AllByRecursion AreGiven hss → (old new : Database) → old.schema ≡ current_schema
    → TakesAll limit (statements_of head_part hss) old new → PutsHeads (flat hss) (old.trees head_tree) (new.trees head_tree)
each_puts limit [] all old new has takes =
    subst (λ (d : Database). PutsHeads [] (old.trees head_tree) (d.trees head_tree)) (sym takes) (puts_none (old.trees head_tree))
each_puts limit (heads ∷ hss) all old new has takes =
    let rows = map unit_cells heads in
    let does =
    subst (λ (s : Schema). Does limit (record { keys = Enforced; in_doubt = false; may_wait = false }) (all_cells rows)
    (record { schema = s; trees = old.trees }) [] None (insert_of 1 rows) (Ok (takes.0, takes.1))) has takes.2 in
    let one = puts limit current_schema (all_cells rows) old.trees heads (terms_from 0 rows) (width_of rows) all.0 takes.0 takes.1 refl does in
    puts_then heads (flat hss) (old.trees head_tree) (takes.1.trees head_tree) (new.trees head_tree) one.1
    (each_puts limit hss all.1 takes.1 new one.0 takes.3)

flat_ones : (heads : List Head) → flat (map (λ head. head ∷ []) heads) ≡ heads
flat_ones [] = refl
flat_ones (h ∷ hs) = ap (λ more. h ∷ more) (flat_ones hs)

-- What puts days in turn puts their heads, and keeps the units of the others.
pub heads_put : (limit : Option ℕ) (heads : List Head) (old new : Database) → old.schema ≡ current_schema
    → TakesAll limit (in_turn head_part heads) old new → PutsHeads heads (old.trees head_tree) (new.trees head_tree)
heads_put limit heads old new has takes =
    let k = length heads / together in
    let chunks = first_chunks together k heads in
    let rest = drop (k * together) heads in
    let ones : List (List Head) = map (λ head. head ∷ []) rest in
    let whole : flat (chunks ++ ones) ≡ heads =
    flat_map-append (λ xs. xs) chunks ones ∙ ap (λ l. flat chunks ++ l) (flat_ones rest) ∙ chunks_are together heads k chunks rest refl refl in
    let both : in_turn head_part heads ≡ statements_of head_part (chunks ++ ones) =
    sym (map-append {B = ℕ × List Row} (λ (items : List Head). (head_part.place, map head_part.cells items)) chunks ones) in
    subst (λ hs. PutsHeads hs (old.trees head_tree) (new.trees head_tree)) whole
    (each_puts limit (chunks ++ ones) (given_both chunks ones (batches_given k heads (omega arith)) (ones_given rest)) old new has
    (subst (λ puts. TakesAll limit puts old new) both takes))
