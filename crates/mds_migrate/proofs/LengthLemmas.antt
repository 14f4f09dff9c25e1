-- What an UPDATE of all rows of mds_head makes of them.
use Rattle.std.proofs.Common.{◌≡◌, inl, inr, ℕ, ℤ, pos, List, [], ◌∷◌, ◌++◌, drop, map, Bool, true, false, not, ◌&&◌, ◌||◌, None, Ok, codes, refl, sym, ap, subst, ◌∙◌}
use Rattle.std.proofs.lemmas.Bool.{and_parts, not-true}
use Rattle.std.proofs.lemmas.List.{append-nil, append_assoc}
use Rattle.std.proofs.lemmas.List.Sorted.{IsPermutation-append_left, IsPermutation-map, IsPermutation-refl, IsPermutation-sym, IsPermutation-trans}
use Rattle.std.specs.List.{filter, list_all, list_any}
use Rattle.std.specs.List.Sorted.{IsPermutation}
use Rattle.std.specs.Ordering.{is_eq, is_ne, match_ordering}
use Rattle.std.specs.declared.cmp.Ordering.{Ordering}
use Rattle.std.specs.declared.cmp.Ordering.TheVariants.{Less, Equal, Greater}
use Rattle.sqlite.specs.Command.TheVariants.{Update}
use Rattle.sqlite.specs.Does.{Does}
use Rattle.sqlite.specs.Query.{Output}
use Rattle.sqlite.specs.State.{ExecutesInside, HasCleanDisk, State, mode_of}
use Rattle.sqlite.specs.Listing.{understood}
use Rattle.sqlite.specs.declared.types.Value.{Value}
use Rattle.sqlite.specs.declared.types.Value.TheVariants.{Null, Int, Real, Text, Blob}
use Rattle.sqlite.proofs.Callers.{runs_as, statement_of}
use Rattle.sqlite_catalog.specs.Listing.{IsSound}
use Rattle.sqlite_rules.specs.Calls.{ids_of}
use Rattle.sqlite_rules.specs.Cast.{cast, cast_all, cast_row}
use Rattle.sqlite_rules.specs.Edit.{Applies, are_fresh, edit_of, have_rowids, id_in, is_taken, numbered, put_all, without_all}
use Rattle.sqlite_rules.specs.declared.error.Rowids.TheVariants.{Given}
use Rattle.sqlite_schema.specs.Rules.{agree, clashes, differ, equal, guards, passes}
use Rattle.sqlite_schema.specs.declared.program.Program.{Program}
use Rattle.sqlite_schema.specs.declared.schema.Constraint.TheVariants.{Unique}
use Rattle.sqlite_schema.specs.declared.schema.Keys.TheVariants.{Enforced}
use Rattle.sqlite_schema.specs.declared.schema.Kind.TheVariants.{Integer}
use Rattle.sqlite_schema.specs.declared.schema.Schema.{Schema}
use Rattle.sqlite_sql.specs.Ops.{binary, is_null, unary}
use Rattle.sqlite_trees.specs.Tree.{Trees, has_rowid, put_row, rowid, without_rowid}
use Rattle.sqlite_trees.specs.View.{is_int}
use Rattle.sqlite_value.specs.Keys.{first_key, plain}
use Rattle.sqlite_value.specs.Order.{Row, bytes, column, value_cmp}
use Rattle.sqlite_value.specs.declared.keys.Collation.TheVariants.{Binary}
use Rattle.mds_world.specs.Lists.{Member}
use Rattle.mds_world.proofs.Lists.{map_in}
use Rattle.mds_tables.specs.Tables.{day_key, head_table, head_tree, schema_with}
use Rattle.mds_tables.proofs.InsertLemmas.{cast_int, cast_null, simple}
use Rattle.mds_tables.proofs.RowLemmas.{gains_one}
use Rattle.mds_tables.proofs.KeyLemmas.{cells_equal, truth_of}
use Rattle.mds_tables.proofs.MemberLemmas.{all_has, filter_in, moved}
use Rattle.mds_tables.proofs.QueryLemmas.{head_typed}
use Rattle.mds_tables.proofs.SelectLemmas.{Picks, picks, shows}
use Rattle.mds_tables.proofs.TypedLemmas.{AreAlike, AreFor, alike, both}
use Rattle.mds_pack_rows.specs.PackTables.{Behind, packs_then}
use Rattle.mds_pack_rows.specs.Putting.{IsThere}
use Rattle.mds_pack_rows.proofs.PutLemmas.{others_in}
use Rattle.mds_pack_rows.proofs.UpdateLemmas.{updates}
use Rattle.mds_migrate.specs.Migrating.{ClearsLengths, without_length}
use Rattle.mds_migrate.proofs.StatementTexts.{bare_terms, head_place, lengths_query, update_lengths, update_lengths_is, update_lengths_plain}

-- ---- rows that are put under rowids of their own

given_same : (news rows : List Row) → numbered Given rows news ≡ news
given_same [] rows = refl
given_same (r ∷ rs) rows = ap (λ xs. r ∷ xs) (given_same rs (put_row r rows))

neither : (a b : Bool) → (a || b) ≡ false → (a ≡ false) × (b ≡ false)
neither true b none = absurd cc
neither false b none = (refl, none)

put_new : (new : Row) (rows : List Row) → Member new (put_row new rows)
put_new new [] = inl refl
put_new new (r ∷ rs) =
    elim (value_cmp (rowid r) (rowid new)) as (λ o. Member new (match_ordering o (r ∷ put_row new rs) (new ∷ rs) (new ∷ r ∷ rs))) [
      | Less ↦ inr (put_new new rs)
      | Equal ↦ inl refl
      | Greater ↦ inl refl
    ]

put_keeps : (new x : Row) (rows : List Row) → is_taken rows new ≡ false → Member x rows → Member x (put_row new rows)
put_keeps new x [] free m = absurd m
put_keeps new x (r ∷ rs) free m =
    elim (value_cmp (rowid r) (rowid new)) as (λ o. (is_eq o || is_taken rs new) ≡ false
    → Member x (match_ordering o (r ∷ put_row new rs) (new ∷ rs) (new ∷ r ∷ rs))) [
      | Less ↦ λ none. elim m [ inl e ↦ inl e | inr n ↦ inr (put_keeps new x rs none n) ]
      | Equal ↦ λ none. absurd cc
      | Greater ↦ λ none. inr m
    ] free

apart_from : (new x : Row) (rows : List Row) → is_taken rows new ≡ false → Member x rows → is_eq (value_cmp (rowid x) (rowid new)) ≡ false
apart_from new x [] free m = absurd m
apart_from new x (r ∷ rs) free (inl e) = subst (λ y. is_eq (value_cmp (rowid y) (rowid new)) ≡ false) (sym e) (neither _ _ free).0
apart_from new x (r ∷ rs) free (inr m) = apart_from new x rs (neither _ _ free).1 m

-- all rows that were there are there still
all_stay : (news rows : List Row) (x : Row) → are_fresh rows news ≡ true → Member x rows → Member x (put_all rows news)
all_stay [] rows x fresh m = m
all_stay (r ∷ rs) rows x fresh m =
    let parts = and_parts _ _ fresh in all_stay rs (put_row r rows) x parts.1 (put_keeps r x rows (not-true _ parts.0) m)

-- all that are put come
all_come : (news rows : List Row) (y : Row) → are_fresh rows news ≡ true → Member y news → Member y (put_all rows news)
all_come [] rows y fresh m = absurd m
all_come (r ∷ rs) rows y fresh (inl e) =
    let parts = and_parts _ _ fresh in
    subst (λ z. Member z (put_all (put_row r rows) rs)) (sym e) (all_stay rs (put_row r rows) r parts.1 (put_new r rows))
all_come (r ∷ rs) rows y fresh (inr m) = all_come rs (put_row r rows) y (and_parts _ _ fresh).1 m

-- and none of these has the rowid of one that was there
all_apart : (news rows : List Row) (x y : Row) → are_fresh rows news ≡ true → Member x rows → Member y news
    → is_eq (value_cmp (rowid x) (rowid y)) ≡ false
all_apart [] rows x y fresh m n = absurd n
all_apart (r ∷ rs) rows x y fresh m (inl e) =
    subst (λ z. is_eq (value_cmp (rowid x) (rowid z)) ≡ false) (sym e) (apart_from r x rows (not-true _ (and_parts _ _ fresh).0) m)
all_apart (r ∷ rs) rows x y fresh m (inr n) =
    let parts = and_parts _ _ fresh in all_apart rs (put_row r rows) x y parts.1 (put_keeps r x rows (not-true _ parts.0) m) n

-- the columns of all of them
puts_all : (news rows : List Row) → have_rowids news ≡ true → are_fresh rows news ≡ true
    → IsPermutation (map (drop 1) rows ++ map (drop 1) news) (map (drop 1) (put_all rows news))
puts_all [] rows keyed fresh =
    subst (λ xs. IsPermutation xs (map (drop 1) rows)) (sym (append-nil (map (drop 1) rows))) (IsPermutation-refl _)
puts_all ([] ∷ rs) rows keyed fresh = absurd cc
puts_all ((id ∷ cells) ∷ rs) rows keyed fresh =
    let parts = and_parts _ _ fresh in
    let next : List Row = put_row (id ∷ cells) rows in
    let one : IsPermutation (map (drop 1) rows ++ cells ∷ []) (map (drop 1) next) = gains_one id cells rows (not-true _ parts.0) in
    subst (λ xs. IsPermutation xs (map (drop 1) (put_all next rs))) (append_assoc (map (drop 1) rows) (cells ∷ []) (map (drop 1) rs))
    (IsPermutation-trans _ _ _ (IsPermutation-append_left (map (drop 1) rs) _ _ one) (puts_all rs next (both _ _ keyed).1 parts.1))

-- ---- rows that are taken away

left_in : (ids : List ℤ) (rows : List Row) (x : Row) → Member x (without_all rows ids) → Member x rows
left_in [] rows x m = m
left_in (id ∷ ids) rows x m = (filter_in (λ r. not (has_rowid id r)) rows x (left_in ids (without_rowid id rows) x m)).0

no_members : {X : Type 0} (xs : List X) → ((x : X) → Member x xs → ⊥) → xs ≡ []
no_members [] none = refl
no_members (x ∷ xs) none = absurd (none x (inl refl))

-- ---- one key

unequal : (o : Ordering) → is_eq o ≡ false → is_ne o ≡ true
unequal Less apart = refl
unequal Equal apart = absurd cc
unequal Greater apart = refl

-- SQL's inequality with an integer is that of the order of values
differs : (v : Value) (n : ℤ) → is_null v ≡ false → is_eq (value_cmp v (Int n)) ≡ false → differ v (Int n) ≡ true
unfolding binary
differs Null n some apart = absurd cc
differs (Int m) n some apart = truth_of _ ∙ unequal _ apart
differs (Real x) n some apart = truth_of _ ∙ unequal _ apart
differs (Text t) n some apart = truth_of _ ∙ unequal _ apart
differs (Blob b) n some apart = truth_of _ ∙ unequal _ apart

-- an integer is one that comes of a value that isn't NULL
of_some : (v : Value) → is_int (cast Integer v) ≡ true → is_null v ≡ false
unfolding unary
of_some Null int = absurd (let no : is_int Null ≡ true = subst (λ v. is_int v ≡ true) cast_null int in cc)
of_some (Int n) int = refl
of_some (Real x) int = refl
of_some (Text t) int = refl
of_some (Blob b) int = refl

as_int : (v : Value) → is_int v ≡ true → v ≡ Int (id_in v)
as_int Null int = absurd cc
as_int (Int n) int = refl
as_int (Real x) int = absurd cc
as_int (Text t) int = absurd cc
as_int (Blob b) int = absurd cc

text_itself : (v : Value) → v ≡ Text (bytes v) → equal Binary v v ≡ true
text_itself v is = subst (λ x. equal Binary x x ≡ true) (sym is) (cells_equal (Text (bytes v)) (Text (bytes v)) refl refl)

int_itself : (v : Value) → v ≡ Int (id_in v) → equal Binary v v ≡ true
int_itself v is = subst (λ x. equal Binary x x ≡ true) (sym is) (cells_equal (Int (id_in v)) (Int (id_in v)) refl refl)

any_of : {X : Type 0} (p : X → Bool) (xs : List X) (x : X) → Member x xs → p x ≡ true → list_any p xs ≡ true
any_of p [] x m is = absurd m
any_of p (y ∷ ys) x (inl e) is = let here : p y ≡ true = sym (ap p e) ∙ is in ap (λ b. b || list_any p ys) here
any_of p (y ∷ ys) x (inr m) is = or_later (p y) _ (any_of p ys x m is)
  where
    or_later : (a b : Bool) → b ≡ true → (a || b) ≡ true
    or_later true b is = refl
    or_later false b is = is

all_pass : {X : Type 0} (xs : List X) → filter (λ x. true) xs ≡ xs
all_pass [] = refl
all_pass (x ∷ xs) = ap (λ ys. x ∷ ys) (all_pass xs)

abbrev second : Output → Row
second o = o.1

abbrev under : Behind → Schema
under rest = schema_with (packs_then rest.more)

-- what the query shows of a row, and the row that comes of that
abbrev shown : Row → Row
shown r = column r 0 ∷ column r 0 ∷ without_length r

abbrev cast_shown : Row → Row
cast_shown s = cast_row (simple head_table) (drop 1 s)

module _ (rest : Behind) (old next : Trees) (sound : IsSound (under rest) old) (rows : List Row) where
  -- cells of the kinds of the columns
  abbrev any_cells : Row
  any_cells = Text [] ∷ Text [] ∷ Int (pos 0) ∷ Int (pos 0) ∷ Text [] ∷ []

  any_for : AreFor head_table.columns any_cells
  any_for = ((codes "nmi", refl), ((codes "suffix", refl), ((codes "day", refl), ((codes "length", refl), ((codes "unit", refl), tt)))))

  module _ (r : Row) (m : Member r (old head_tree)) where
    cells : AreAlike 0 any_cells r
    cells = alike head_table.columns any_cells r any_for (head_typed (packs_then rest.more) old sound r m)

    -- the columns are kept as they are
    as_they_are : cast_all head_table.columns (without_length r) ≡ without_length r
    as_they_are =
        let typed : without_length r
        ≡ Text (bytes (column r 1)) ∷ Text (bytes (column r 2)) ∷ Int (id_in (column r 3)) ∷ Int (pos 0) ∷ Text (bytes (column r 5)) ∷ [] =
        λ i. cells.0 i ∷ cells.1.0 i ∷ cells.1.1.0 i ∷ Int (pos 0) ∷ cells.1.1.1.1.0 i ∷ [] in
        ap (cast_all head_table.columns) typed ∙ rw (cast_int, cast_int) (sym typed)

    comes_as : cast_shown (shown r) ≡ cast Integer (column r 0) ∷ without_length r
    comes_as = ap (λ cells. cast Integer (column r 0) ∷ cells) as_they_are

    -- the row that comes has its key
    same_key : (id : Value) → agree plain day_key r day_key (id ∷ without_length r) ≡ true
    unfolding first_key
    same_key id =
        let a = text_itself (column r 1) cells.0 in
        let b = text_itself (column r 2) cells.1.0 in
        let c = int_itself (column r 3) cells.1.1.0 in
        λ i. a i && (b i && (c i && true))

  same_columns : (rs : List Row) → ((r : Row) → Member r rs → Member r (old head_tree))
      → map (drop 1) (map cast_shown (map shown rs)) ≡ map without_length rs
  same_columns [] there = refl
  same_columns (r ∷ rs) there =
      λ i. as_they_are r (there r (inl refl)) i ∷ same_columns rs (λ x m. there x (inr m)) i

  outs : (rs : List Row) → map second (map (shows head_tree [] bare_terms [] old []) rs) ≡ map shown rs
  outs [] = refl
  outs (r ∷ rs) = ap (λ xs. shown r ∷ xs) (outs rs)

  module _ (p : Picks head_tree [] bare_terms [] old [] rows)
      (it : Applies (under rest) Enforced old (edit_of old (simple head_table) (ids_of rows) Given 1 rows) next) where
    all_shown : IsPermutation (map shown (old head_tree)) rows
    all_shown =
        subst (λ xs. IsPermutation xs rows) (ap (λ rs. map second (map (shows head_tree [] bare_terms [] old []) rs)) (all_pass (old head_tree)) ∙ outs (old head_tree))
        (subst (IsPermutation _) (sym p.shown) (IsPermutation-map second _ p.ordered p.same))

    abbrev left : List Row
    left = without_all (old head_tree) (ids_of rows)

    abbrev news : List Row
    news = map cast_shown rows

    same_news : numbered Given left news ≡ news
    same_news = given_same news left

    keyed : have_rowids news ≡ true
    keyed = subst (λ rs. have_rowids rs ≡ true) same_news it.keyed

    fresh : are_fresh left news ≡ true
    fresh = subst (λ rs. are_fresh left rs ≡ true) same_news it.fresh

    next_is : next head_tree ≡ put_all left news
    next_is = it.rows ∙ ap (put_all left) same_news

    -- a row that was left would have the key of the one that came of it
    none_left : (x : Row) → Member x left → ⊥
    none_left x m =
        let was : Member x (old head_tree) = left_in (ids_of rows) (old head_tree) x m in
        let y : Row = cast Integer (column x 0) ∷ without_length x in
        let came : Member y news =
        subst (λ r. Member r news) (comes_as x was)
        (map_in cast_shown rows (shown x) (moved rows (map shown (old head_tree)) (IsPermutation-sym _ _ all_shown) (shown x) (map_in shown (old head_tree) x was))) in
        let int : is_int (cast Integer (column x 0)) ≡ true = all_true (λ r. is_int (rowid r)) news y came keyed in
        let apart = all_apart news left x y fresh m came in
        let far : differ (rowid x) (rowid y) ≡ true =
        subst (λ v. differ (rowid x) v ≡ true) (sym (as_int (rowid y) int))
        (differs (rowid x) (id_in (rowid y)) (of_some (rowid x) int)
        (subst (λ v. is_eq (value_cmp (rowid x) v) ≡ false) (as_int (rowid y) int) apart)) in
        let there : Member x (next head_tree) = subst (Member x) (sym next_is) (all_stay news left x fresh m) in
        let comes : Member y (next head_tree) = subst (Member y) (sym next_is) (all_come news left y fresh came) in
        let clash : clashes plain day_key (next head_tree) y ≡ true =
        any_of (λ other. agree plain day_key other day_key y && differ (rowid other) (rowid y)) (next head_tree) x there
        (λ i. same_key x was (rowid y) i && far i) in
        let kept = all_has (λ r. passes Unique (under rest) next head_table r ≡ true) (next head_tree) y (it.fits.rules Unique (λ e. cc)).1.0 comes in
        let free : not (clashes plain day_key (next head_tree) y) ≡ true =
        (both (not (clashes plain day_key (next head_tree) y))
        (list_all (λ i. not (guards i head_table && clashes i.order i.columns (next head_tree) y)) (drop 2 (under rest).indexes)) kept).0 in
        absurd (let no : not true ≡ true = sym (ap not clash) ∙ free in cc)
      where
        all_true : (p : Row → Bool) (rs : List Row) (r : Row) → Member r rs → list_all p rs ≡ true → p r ≡ true
        all_true p [] r m all = absurd m
        all_true p (s ∷ rs) r (inl e) all = ap p e ∙ (both _ _ all).0
        all_true p (s ∷ rs) r (inr m) all = all_true p rs r m (both _ _ all).1

    pub rows_cleared : IsPermutation (map without_length (old head_tree)) (map (drop 1) (next head_tree))
    rows_cleared =
        let none : left ≡ [] = no_members left none_left in
        let all : IsPermutation (map (drop 1) news) (map (drop 1) (put_all [] news)) =
        puts_all news [] keyed (subst (λ rs. are_fresh rs news ≡ true) none fresh) in
        let is : next head_tree ≡ put_all [] news = next_is ∙ ap (λ rs. put_all rs news) none in
        let parts : IsPermutation (map without_length (old head_tree)) (map (drop 1) news) =
        subst (λ xs. IsPermutation xs (map (drop 1) news)) (same_columns (old head_tree) (λ r m. m))
        (IsPermutation-map (drop 1) _ _ (IsPermutation-map cast_shown _ _ all_shown)) in
        subst (λ rs. IsPermutation (map without_length (old head_tree)) (map (drop 1) rs)) (sym is) (IsPermutation-trans _ _ _ parts all)

-- ---- the statement

pub clears_lengths : (old new : State) (count : ℕ) → (HasCleanDisk new → ExecutesInside 0 update_lengths [] old new (Ok count)) → IsThere old new
    → ClearsLengths old new
clears_lengths old new count runs there =
    let rest = there.rest in
    let has = there.schema in
    let ran = runs there.clean in
    let program : Program = record { lets = []; body = lengths_query } in
    let w = runs_as update_lengths [] old new (under rest) has _ (update_lengths_is rest.more) (update_lengths_plain rest.more) count ran.0 in
    let stated = statement_of update_lengths (understood (under rest) update_lengths) in
    let does = subst (λ s. Does old.step_limit (mode_of old) [] (record old.now { schema = s }) stated None
    (Update head_place program) (Ok (w.tally, new.now))) has w.changed in
    let it = updates old.step_limit Enforced (under rest) head_table [] old.now.trees program (rest.idle head_tree)
    (mode_of old) stated head_place w.tally new.now refl refl does in
    record {
      is_open = ran.1.is_open;
      schema = it.0 ∙ sym has;
      rows = rows_cleared rest old.now.trees new.now.trees there.sound it.1.rows
          (picks head_tree [] bare_terms [] old.now.trees [] it.1.rows refl it.1.shown.answer) it.1.applies;
      others = others_in head_tree (under rest) old new has it.1.applies.tables;
      committed = ran.1.committed_is;
      sound = w.sound;
    }
