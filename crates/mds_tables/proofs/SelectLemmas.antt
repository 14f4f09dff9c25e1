-- The answer of a query over one table.
use Rattle.std.proofs.Common.{◌≡◌, ℕ, List, [], ◌∷◌, ◌++◌, map, take, Bool, true, false, cond, refl, ap, subst, ◌∙◌}
use Rattle.std.specs.List.{list_all, filter, flat_map}
use Rattle.std.specs.List.Sorted.{IsPermutation, IsSorted}
use Rattle.sqlite.specs.declared.types.Value.TheVariants.{Null}
use Rattle.sqlite_value.specs.declared.keys.Key.{Key}
use Rattle.sqlite.specs.Order.{Row}
use Rattle.sqlite.specs.Tree.{Trees}
use Rattle.sqlite_sql.specs.Term.{Term, Env, holds}
use Rattle.sqlite.specs.Query.{Query, IsAnswer, Output, output, output_cmp, matches_as, end}
use Rattle.sqlite.specs.Program.{overlay, IsProgramAnswer}
use Rattle.mds_tables.proofs.SelectTexts.{first_of, from_one}

module _ (tree : ℕ) (test project : List Term) (order : List (Term × Key)) (db : Trees) (params : Row) where
  abbrev query : Query
  query = from_one tree test project order

  abbrev pub passes : Row → Bool
  passes r = list_all (holds (params ∷ r ∷ [])) test

  abbrev pub shows : Row → Output
  shows r = output query (params ∷ r ∷ [])

  -- the rows that pass, in an order that the query allows
  pub record Picks (rows : List Row) : Type 0 where
    pub ordered : List Output
    pub same : IsPermutation (map shows (filter passes (db tree))) ordered
    pub sorted : IsSorted (output_cmp (from_one tree test project order)) ordered
    pub shown : rows ≡ map (λ o. o.1) ordered

  abbrev env : Row → Env
  env r = params ∷ r ∷ []

  cons_if : (b : Bool) (e : Env) (r : Row) (more : List Row) → e ≡ env r
      → cond b (e ∷ []) [] ++ map env more ≡ map env (cond b (r ∷ more) more)
  cons_if true e r more is = ap (λ x. x ∷ map env more) is
  cons_if false e r more is = refl

  matched : (trees : Trees) (rows : List Row)
      → flat_map (λ r. matches_as Null trees test end (params ∷ r ∷ [])) rows ≡ map env (filter passes rows)
  matched trees [] = refl
  matched trees (r ∷ rs) =
      ap (λ xs. matches_as Null trees test end (params ∷ r ∷ []) ++ xs) (matched trees rs)
      ∙ cons_if (passes r) _ r (filter passes rs) refl

  outputs : (rows : List Row) → map (output query) (map env rows) ≡ map shows rows
  outputs [] = refl
  outputs (r ∷ rs) = ap (λ xs. shows r ∷ xs) (outputs rs)

  picked : (rows : List Row) → overlay db [] tree ≡ db tree → IsAnswer query (overlay db []) params rows → Picks rows
  picked rows there a =
      let staged =
      a.grouped ∙ matched (overlay db []) (overlay db [] tree) ∙ ap (λ es. map env (filter passes es)) there in
      let kept : a.kept ≡ map shows (filter passes (db tree)) =
      a.distinct ∙ ap (map (output query)) staged ∙ outputs (filter passes (db tree)) in
      record {
        ordered = a.ordered;
        same = subst (λ k. IsPermutation k a.ordered) kept a.same;
        sorted = a.sorted;
        shown = a.shown;
      }

  pub picks : (rows : List Row) → overlay db [] tree ≡ db tree
      → IsProgramAnswer [] (from_one tree test project order) db params rows → Picks rows
  picks rows there answer = picked rows there (answer Null)

  -- a query for the first row shows that of all
  pub picks_first : (rows : List Row) → overlay db [] tree ≡ db tree
      → IsProgramAnswer [] (first_of (from_one tree test project order)) db params rows
      → (all : List Row) × Picks all × (rows ≡ take 1 all)
  picks_first rows there answer =
      let a : IsAnswer (first_of query) (overlay db []) params rows = answer Null in
      let all = map (λ (o : Output). o.1) a.ordered in (
        all,
        picked all there (record {
          staged = a.staged;
          grouped = a.grouped;
          kept = a.kept;
          distinct = a.distinct;
          ordered = a.ordered;
          same = a.same;
          sorted = a.sorted;
          shown = refl;
        }),
        a.shown,
      )
