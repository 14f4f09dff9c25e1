-- What several rows of VALUES make of a table.
use Rattle.std.proofs.Common.{◌≡◌, ◌≢◌, ℕ, ◌/◌, List, [], ◌∷◌, ◌++◌, drop, length, map, slice_get, Some, None, Option, Ok, true, refl, sym, ap, subst, ◌∙◌}
use Rattle.std.proofs.lemmas.Bool.{and_parts, not-true}
use Rattle.std.proofs.lemmas.List.{append-nil, append_assoc}
use Rattle.std.proofs.lemmas.List.Sorted.{IsPermutation-append_left, IsPermutation-refl, IsPermutation-trans}
use Rattle.std.specs.List.{AllByRecursion}
use Rattle.std.specs.List.Sorted.{IsPermutation}
use Rattle.sqlite.specs.Command.TheVariants.{Insert}
use Rattle.sqlite.specs.Does.{Does, Tally}
use Rattle.sqlite.specs.Effect.{Database, value_rows}
use Rattle.sqlite.specs.Rows.{Inserts, Task, Written}
use Rattle.sqlite.specs.Source.TheVariants.{Values}
use Rattle.sqlite.specs.declared.run.Mode.{Mode}
use Rattle.sqlite.specs.declared.types.Value.TheVariants.{Int, Null}
use Rattle.sqlite.proofs.Callers.{one_step}
use Rattle.sqlite_rules.specs.Action.{works}
use Rattle.sqlite_rules.specs.Cast.{cast_all, cast_row}
use Rattle.sqlite_rules.specs.Edit.{Applies, are_fresh, edit_of, next_rowid, numbered, put_all}
use Rattle.sqlite_rules.specs.declared.error.Rowids.TheVariants.{Chosen}
use Rattle.sqlite_schema.specs.declared.schema.Keys.{Keys}
use Rattle.sqlite_schema.specs.declared.schema.Schema.{Schema}
use Rattle.sqlite_schema.specs.declared.schema.Table.{Table}
use Rattle.sqlite_sql.specs.Term.{Term}
use Rattle.sqlite_trees.specs.Tree.{Trees, put_row}
use Rattle.sqlite_value.specs.Order.{Row}
use Rattle.mds_tables.specs.Stores.{Gains}
use Rattle.mds_tables.proofs.InsertLemmas.{cast_null, same_value, simple, stored, went}
use Rattle.mds_tables.proofs.RowLemmas.{gains_one}

-- the columns behind a rowid that is still to be chosen
abbrev pub sources : List Row → List Row
sources values = map (λ v. Null ∷ v) values

-- rows under fresh rowids are put between the others
gains_many : (values rows : List Row) → are_fresh rows (numbered Chosen rows (sources values)) ≡ true
    → IsPermutation (map (drop 1) rows ++ values) (map (drop 1) (put_all rows (numbered Chosen rows (sources values))))
gains_many [] rows fresh =
    subst (λ xs. IsPermutation xs (map (drop 1) rows)) (sym (append-nil (map (drop 1) rows))) (IsPermutation-refl _)
gains_many (v ∷ vs) rows fresh =
    let parts = and_parts _ _ fresh in
    let next : List Row = put_row (stored rows v) rows in
    let one : IsPermutation (map (drop 1) rows ++ v ∷ []) (map (drop 1) next) = gains_one (Int (next_rowid rows)) v rows (not-true _ parts.0) in
    subst (λ xs. IsPermutation xs (map (drop 1) (put_all next (numbered Chosen next (sources vs))))) (append_assoc (map (drop 1) rows) (v ∷ []) vs)
    (IsPermutation-trans _ _ _ (IsPermutation-append_left vs _ _ one) (gains_many vs next parts.1))

-- the cells of each are of the types of the columns
abbrev pub AreFit : Table → List Row → Type 0
AreFit t values = AllByRecursion (λ v. cast_all t.columns v ≡ v) values

-- the rows are put into the table, and the other tables are as they were
pub record AddsAll (schema : Schema) (old new : Trees) (table : Table) (values : List Row) : Type 0 where
  pub rows : Gains table.tree values old new
  pub others : AllByRecursion (λ t. t.tree ≢ table.tree → new t.tree ≡ old t.tree) schema.tables

cast_same : (t : Table) (values : List Row) → AreFit t values → map (λ s. cast_row (simple t) s) (sources values) ≡ sources values
cast_same t [] fit = refl
cast_same t (v ∷ vs) fit =
    let one : cast_row (simple t) (Null ∷ v) ≡ Null ∷ v = rw (cast_null, fit.0) in
    λ i. one i ∷ cast_same t vs fit.1 i

module _ (limit : Option ℕ) (keys : Keys) (schema : Schema) (t : Table) (params : Row) (db : Trees) (values : List Row) (fit : AreFit t values) where
  abbrev task : Task
  task = record { limit = limit; keys = keys; schema = schema; table = simple t; params = params }

  applied : (news : List Row) (next : Trees) → news ≡ sources values → Applies schema keys db (edit_of db (simple t) [] Chosen 0 news) next
      → AddsAll schema db next t values
  applied news next are it =
      let edit : edit_of db (simple t) [] Chosen 0 news
      ≡ record { table = simple t; gone = []; news = numbered Chosen (db t.tree) (sources values) } =
      ap (edit_of db (simple t) [] Chosen 0) are
      ∙ ap (λ rows. record { table = simple t; gone = []; news = numbered Chosen (db t.tree) rows }) (cast_same t values fit) in
      let same = subst (λ e. Applies schema keys db e next) edit it in
      record {
        rows = subst (λ (rows : List Row). IsPermutation (map (drop 1) (db t.tree) ++ values) (map (drop 1) rows)) (sym same.rows)
            (gains_many values (db t.tree) same.fresh);
        others = same.tables;
      }

  module _ (terms : List Term) (width : ℕ) (are : value_rows (params ++ []) width (length terms / width) terms ≡ sources values)
      (quiet : (news : List Row) → works schema keys 0 t.tree [] news ≡ []) where
    written : (w : Written) → Inserts task (Values terms width) db (Ok w) → AddsAll schema db w.trees t values
    written w h =
        let given = went h in
        let edited = went (went given.2).2 in
        let counted = went edited.2 in
        let trees : w.trees ≡ edited.0 = ap (λ (it : Written). it.trees) (same_value counted.2) ∙ same_value counted.1 in
        let it = one_step schema keys db edited.0 (edit_of db (simple t) [] Chosen 0 given.0) (quiet _) edited.1 in
        rw trees (applied given.0 edited.0 (given.1.1 ∙ are) it)

    -- All rows of one statement are put into the table.
    pub adds_all : (mode : Mode) (text : List ℕ) (at : ℕ) (tally : Tally) (after : Database) → mode.keys ≡ keys → slice_get schema.tables at ≡ Some (simple t)
        → Does limit mode params (record { schema = schema; trees = db }) text None (Insert at (Values terms width)) (Ok (tally, after))
        → (after.schema ≡ schema) × AddsAll schema db after.trees t values
    adds_all mode text at tally after by placed does =
        let done = went (rw (placed, by) at does) in
        let now = ap (λ (p : Tally × Database). p.1) (same_value (went (went done.2).2).2) in
        (ap (λ (d : Database). d.schema) now, rw now (written done.0 done.1))
