-- What UPDATE of the row with a rowid makes of a table.
use Rattle.std.proofs.Common.{◌≡◌, inl, inr, ℕ, ℤ, suc, List, [], ◌∷◌, ◌++◌, drop, length, map, slice_get, Bool, true, false, not, ◌&&◌, cond, Some, None, Option, Ok, refl, sym, ap, subst, ◌∙◌, arith, unwrap_or}
use Rattle.std.proofs.lemmas.List.{length-map}
use Rattle.std.proofs.lemmas.List.Sorted.{IsPermutation-filter_both, IsPermutation-map, IsPermutation-sym, IsPermutation-to_front, IsPermutation-trans, length_permutation}
use Rattle.std.specs.Cmp.{int_cmp_total, tied_itself}
use Rattle.std.specs.List.{filter}
use Rattle.std.specs.List.Sorted.{IsPermutation}
use Rattle.std.specs.Ordering.{is_eq}
use Rattle.sqlite.specs.Command.TheVariants.{Update}
use Rattle.sqlite.specs.Does.{Does, Tally}
use Rattle.sqlite.specs.Effect.{Answers, Database}
use Rattle.sqlite.specs.Rows.{Task, Updates, Written}
use Rattle.sqlite.specs.declared.run.Mode.{Mode}
use Rattle.sqlite.specs.declared.types.Value.{Value}
use Rattle.sqlite.specs.declared.types.Value.TheVariants.{Null, Int, Real, Text, Blob}
use Rattle.sqlite.specs.Query.{Output}
use Rattle.sqlite.proofs.Callers.{one_permutation, one_step}
use Rattle.sqlite_rules.specs.Action.{works}
use Rattle.sqlite_rules.specs.Calls.{ids_of}
use Rattle.sqlite_rules.specs.Cast.{cast_row}
use Rattle.sqlite_rules.specs.Edit.{Applies, Edit, edit_of, id_in, is_taken, numbered, taken_by}
use Rattle.sqlite_rules.specs.declared.error.Rowids.TheVariants.{Given}
use Rattle.sqlite_schema.specs.declared.program.Program.{Program}
use Rattle.sqlite_schema.specs.declared.schema.Keys.{Keys}
use Rattle.sqlite_schema.specs.declared.schema.Schema.{Schema}
use Rattle.sqlite_schema.specs.declared.schema.Table.{Table}
use Rattle.sqlite_sql.specs.Ops.{binary, is_true}
use Rattle.sqlite_sql.specs.Term.{Term, eval_all}
use Rattle.sqlite_sql.specs.declared.ops.BinaryOp.TheVariants.{Compare}
use Rattle.sqlite_sql.specs.declared.ops.CompareOp.TheVariants.{Eq}
use Rattle.sqlite_trees.specs.Tree.{Trees, has_rowid, put_row, rowid, without_rowid}
use Rattle.sqlite_value.specs.Order.{Row, column, value_cmp}
use Rattle.sqlite_value.proofs.OrderLemmas.{value_cmp-Int}
use Rattle.sqlite_value.specs.declared.keys.Collation.TheVariants.{Binary}
use Rattle.mds_world.specs.Lists.{Member}
use Rattle.mds_tables.proofs.InsertLemmas.{same_value, simple, went}
use Rattle.mds_tables.proofs.RowLemmas.{gains_one}
use Rattle.mds_tables.proofs.KeyLemmas.{truth_of}
use Rattle.mds_tables.proofs.SelectLemmas.{Picks, passes, shows}
use Rattle.mds_tables.proofs.SelectTexts.{equals}
use Rattle.mds_pack_rows.specs.Swaps.{Swaps}

-- ---- the test of a rowid

-- SQL's equality with an integer is that of the order of values
same_id : (v : Value) (id : ℤ) → is_true (binary (Compare Eq Binary) v (Int id)) ≡ is_eq (value_cmp v (Int id))
unfolding binary value_cmp
same_id Null id = refl
same_id (Int n) id = truth_of _
same_id (Real x) id = truth_of _
same_id (Text t) id = truth_of _
same_id (Blob b) id = truth_of _

and_true : (b : Bool) → (b && true) ≡ b
and_true true = refl
and_true false = refl

not_taken : (b : Bool) → (not b && true) ≡ true → b ≡ false
not_taken true h = absurd cc
not_taken false h = refl

filter_same : {X : Type 0} (p q : X → Bool) → ((x : X) → p x ≡ q x) → (xs : List X) → filter p xs ≡ filter q xs
filter_same p q same [] = refl
filter_same p q same (x ∷ xs) = λ i. cond (same x i) (x ∷ filter_same p q same xs i) (filter_same p q same xs i)

pub in_filter : {X : Type 0} (p : X → Bool) (xs : List X) (x : X) → Member x xs → p x ≡ true → Member x (filter p xs)
in_filter p [] x m h = absurd m
in_filter p (y ∷ ys) x m h =
    elim (p y) as (λ b. p y ≡ b → Member x (cond b (y ∷ filter p ys) (filter p ys))) [
      | true ↦ λ is. elim m [ inl e ↦ inl e | inr n ↦ inr (in_filter p ys x n h) ]
      | false ↦ λ is. elim m [
        | inl e ↦ absurd (let here : p x ≡ p y = ap p e in cc)
        | inr n ↦ in_filter p ys x n h
      ]
    ] refl

only_one : {X : Type 0} (xs : List X) (x : X) → length xs ≡ 1 → Member x xs → xs ≡ x ∷ []
only_one [] x one m = absurd m
only_one (y ∷ []) x one (inl e) = ap (λ z. z ∷ []) (sym e)
only_one (y ∷ []) x one (inr m) = absurd m
only_one (y ∷ z ∷ more) x one m = absurd (omega (arith, one))

numbered_length : (news : List Row) (rows : List Row) → length (numbered Given rows news) ≡ length news
numbered_length [] rows = refl
numbered_length (r ∷ rs) rows = ap suc (numbered_length rs (put_row r rows))

-- ---- the statement

module _ (limit : Option ℕ) (keys : Keys) (schema : Schema) (t : Table) (params : Row) (db : Trees) (q : Program)
    (quiet : (olds news : List Row) → works schema keys 0 t.tree olds news ≡ []) where
  abbrev task : Task
  task = record { limit = limit; keys = keys; schema = schema; table = simple t; params = params }

  abbrev edit_for : List Row → Edit
  edit_for rows = edit_of db (simple t) (ids_of rows) Given 1 rows

  -- the rows that the query shows are put in the place of those that have their rowids
  pub record Changes (next : Trees) (count : ℕ) : Type 0 where
    pub rows : List Row
    pub shown : Answers (record { schema = schema; trees = db }) q params rows
    pub applies : Applies schema keys db (edit_for rows) next
    pub counted : count ≡ length rows

  changed : (w : Written) → Updates task q params db (Ok w) → Changes w.trees (length w.rows)
  changed w h =
      let given = went h in
      let edited = went given.2 in
      let is : record { trees = edited.0; rows = (edit_for given.0).news; last = None } ≡ w = same_value (sym edited.2) in
      let it = one_step schema keys db edited.0 (edit_for given.0) (quiet (taken_by db (edit_for given.0)) (edit_for given.0).news) edited.1 in
      subst (λ (w : Written). Changes w.trees (length w.rows)) is
      (record {
        rows = given.0;
        shown = given.1;
        applies = it;
        counted = numbered_length _ _ ∙ length-map given.0 _;
      })

  pub updates : (mode : Mode) (text : List ℕ) (at : ℕ) (tally : Tally) (after : Database) → mode.keys ≡ keys → slice_get schema.tables at ≡ Some (simple t)
      → Does limit mode params (record { schema = schema; trees = db }) text None (Update at q) (Ok (tally, after))
      → (after.schema ≡ schema) × Changes after.trees (unwrap_or tally.rows 0)
  updates mode text at tally after by placed does =
      let done = went (rw (placed, by) at does) in
      let end = same_value (went (went done.2).2).2 in
      let now = ap (λ (p : Tally × Database). p.1) end in
      let rows = ap (λ (p : Tally × Database). unwrap_or p.0.rows 0) end in
      (ap (λ (d : Database). d.schema) now, rw (now, rows) (changed done.0 done.1))

-- ---- the one row with a rowid

module _ (keys : Keys) (schema : Schema) (t : Table) (id : ℤ) (more : Row) (db next : Trees) (project : List Term) (cells : Row) where
  abbrev params : Row
  params = Int id ∷ more

  abbrev pass : Row → Bool
  pass = passes t.tree (equals 0 0 ∷ []) project [] db params

  pass_is : (r : Row) → pass r ≡ has_rowid id r
  pass_is r = and_true _ ∙ same_id (rowid r) id

  -- where there is just one row with a rowid, it is replaced
  pub swaps : (rows : List Row) (row : Row) → Member row (db t.tree) → column row 0 ≡ Int id → length rows ≡ 1
      → Picks t.tree (equals 0 0 ∷ []) project [] db params rows
      → id_in (rowid (eval_all project (params ∷ row ∷ []))) ≡ id
      → cast_row (simple t) (drop 1 (eval_all project (params ∷ row ∷ []))) ≡ Int id ∷ cells
      → Applies schema keys db (edit_of db (simple t) (ids_of rows) Given 1 rows) next
      → Swaps t.tree (drop 1 row) cells db next
  swaps rows row there has one p names kept it =
      let found = filter pass (db t.tree) in
      let many : length found ≡ 1 =
      sym (length-map found (shows t.tree (equals 0 0 ∷ []) project [] db params)) ∙ sym (length_permutation _ p.ordered p.same)
      ∙ sym (length-map p.ordered (λ (o : Output). o.1)) ∙ sym (ap length p.shown) ∙ one in
      let passing : pass row ≡ true = pass_is row ∙ ap (λ v. is_eq (value_cmp v (Int id))) has ∙ itself in
      let alone : found ≡ row ∷ [] = only_one found row many (in_filter pass (db t.tree) row there passing) in
      let shown : Row = eval_all project (params ∷ row ∷ []) in
      let out : p.ordered ≡ shows t.tree (equals 0 0 ∷ []) project [] db params row ∷ [] =
      one_permutation _ p.ordered (subst (λ rs. IsPermutation (map (shows t.tree (equals 0 0 ∷ []) project [] db params) rs) p.ordered) alone p.same) in
      let are : rows ≡ shown ∷ [] = p.shown ∙ ap (map (λ (o : Output). o.1)) out in
      let edit : edit_of db (simple t) (ids_of rows) Given 1 rows
      ≡ record { table = simple t; gone = id ∷ []; news = (Int id ∷ cells) ∷ [] } =
      ap (λ rs. edit_of db (simple t) (ids_of rs) Given 1 rs) are
      ∙ (λ i. record { table = simple t; gone = names i ∷ []; news = kept i ∷ [] }) in
      let same = subst (λ e. Applies schema keys db e next) edit it in
      let left = without_rowid id (db t.tree) in
      let fresh : is_taken left (Int id ∷ cells) ≡ false = not_taken _ same.fresh in
      let parted : IsPermutation (db t.tree) (row ∷ left) =
      subst (λ rs. IsPermutation (db t.tree) (rs ++ left)) (sym (filter_same pass (has_rowid id) pass_is (db t.tree)) ∙ alone)
      (IsPermutation-filter_both (has_rowid id) (λ r. not (has_rowid id r)) (λ r. refl) (db t.tree)) in
      record {
        rest = map (drop 1) left;
        was = IsPermutation-sym _ _ (IsPermutation-map (drop 1) (db t.tree) (row ∷ left) parted);
        is = subst (λ rs. IsPermutation (cells ∷ map (drop 1) left) (map (drop 1) rs)) (sym same.rows)
            (IsPermutation-trans _ _ _ (IsPermutation-sym _ _ (IsPermutation-to_front (map (drop 1) left) cells)) (gains_one (Int id) cells left fresh));
      }
    where
      itself : is_eq (value_cmp (Int id) (Int id)) ≡ true
      itself = ap is_eq (value_cmp-Int id id) ∙ ap is_eq (tied_itself int_cmp_total id)
