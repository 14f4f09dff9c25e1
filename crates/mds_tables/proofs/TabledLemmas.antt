-- Rows of any table that are put by one statement.
use Rattle.std.proofs.Common.{inl, ◌≡◌, ◌<◌, ◌/◌, ◌*◌, ◌++◌, ℕ, suc, List, [], ◌∷◌, length, map, Ok, Err, refl, sym, ap, ◌∙◌, arith}
use Rattle.std.proofs.Math.Nat.{mul-div_cancel}
use Rattle.std.proofs.lemmas.List.{length-map}
use Rattle.std.proofs.lemmas.List.Folds.{flat_map-map}
use Rattle.std.specs.List.{flat_map}
use Rattle.sqlite.specs.Command.TheVariants.{Insert}
use Rattle.sqlite.specs.Effect.{value_rows}
use Rattle.sqlite.specs.Schema.{Schema}
use Rattle.sqlite.specs.Source.TheVariants.{Values}
use Rattle.sqlite.specs.State.{ExecutesInside, HasCleanDisk, State}
use Rattle.sqlite.specs.Term.{Term}
use Rattle.sqlite.specs.declared.error.Error.{Error}
use Rattle.sqlite.specs.declared.error.Error.TheVariants.{SqliteFailure}
use Rattle.sqlite.specs.declared.error.ErrorCode.TheVariants.{OutOfMemory}
use Rattle.sqlite_trees.specs.declared.error.StoreError.TheVariants as store
use Rattle.sqlite_value.specs.Order.{Row}
use Rattle.mds_tables.specs.Tables.{More, schema_with}
use Rattle.mds_tables.proofs.CallLemmas.{keeps_same, survives_same}
use Rattle.mds_tables.specs.Parts.{Says, statements_of}
use Rattle.mds_tables.specs.Refusals.{FailsToPut, TakesAll, all_cells, insert_of, width_of}
use Rattle.mds_tables.specs.Tabling.{IsInsert, IsTabled, Tabling, part_in, terms_of}
use Rattle.mds_tables.specs.Writing.{Changes, PutsThere}
use Rattle.mds_tables.proofs.ManyLemmas.{AreFit, sources}
use Rattle.mds_tables.proofs.PutLemmas.{fails_to_put, puts_there, takes_all}
use Rattle.mds_tables.proofs.TermLemmas.{AreWide, length_all, length_terms, rows_are, terms_are}

-- Memory ran out before the statement, so nothing is put. No state shows that, and nothing is asked of such a failure.
pub ran_out : {under : Schema} {Done : Type 0} {puts : List (ℕ × List Row)} (s : State) → Changes {X = Unit {0}} under Done puts s s (Err (SqliteFailure OutOfMemory))
ran_out s = record {
  ok = tt;
  took = λ clean has fit. tt;
  cause = λ clean inside has fit. inl (store.OutOfMemory, refl, tt);
  kept = λ clean. keeps_same s;
  survives = survives_same s;
}

module _ {A : Type 0} (t : Tabling A) (rest : More) (it : IsTabled t rest) where
  are_wide : (items : List A) → AreWide t.width (map t.cells items)
  are_wide [] = tt
  are_wide (x ∷ xs) = (it.wide x, are_wide xs)

  are_fit : (items : List A) → AreFit t.table (map t.cells items)
  are_fit [] = tt
  are_fit (x ∷ xs) = (it.fits x, are_fit xs)

  are_said : (items : List A) → Says (part_in t) items
  are_said [] = tt
  are_said (x ∷ xs) = (it.says x, are_said xs)

  module _ (text : List ℕ) (items : List A) (ins : IsInsert (t.behind rest) t.place t.width (length items) text) where
    abbrev pub values : Row
    values = all_cells (map t.cells items)

    pub given_so : (cells : Row) → cells ≡ flat_map t.cells items → cells ≡ values
    given_so cells are = are ∙ sym (flat_map-map (λ (row : Row). row) t.cells items)

    abbrev terms : List Term
    terms = terms_of 0 t.width (length items)

    as_many : length terms / suc t.width ≡ length items
    as_many = ap (λ n. n / suc t.width) (length_terms 0 t.width (length items)) ∙ mul-div_cancel (length items) (omega arith)

    what_is_put : value_rows (values ++ []) (suc t.width) (length terms / suc t.width) terms ≡ sources (map t.cells items)
    what_is_put =
        let made = rows_are (values ++ []) t.width (map t.cells items) 0 [] (are_wide items) refl in
        let same : length (map t.cells items) ≡ length items = length-map items t.cells in
        rw as_many (rw same at made)

    pub puts_some : (old new : State) (count : ℕ) → (HasCleanDisk new → ExecutesInside 0 text values old new (Ok count))
        → PutsThere (schema_with (t.behind rest)) (part_in t) old new items
    puts_some old new count runs =
        puts_there (t.behind rest) t.table t.place text terms (suc t.width) it.placed ins.is ins.plain t.cells t.fact t.read old new items values
        count what_is_put (are_fit items) (are_said items) runs

    module _ (some : 0 < length items) where
      width_is : (xs : List A) → 0 < length xs → width_of (map t.cells xs) ≡ suc t.width
      width_is [] none = absurd (omega (arith, none))
      width_is (x ∷ xs) has = omega (arith, it.wide x)

      shape : insert_of t.place (map t.cells items) ≡ Insert t.place (Values terms (suc t.width))
      shape =
          let same : length (map t.cells items) ≡ length items = length-map items t.cells in
          let from = rw same at (terms_are t.width (map t.cells items) 0 (are_wide items)) in
          rw (from, width_is items some) refl

      pub takes_some : (old new : State) (count : ℕ) → old.now.schema ≡ schema_with (t.behind rest) → ExecutesInside 0 text values old new (Ok count)
          → TakesAll old.step_limit (statements_of (part_in t) (items ∷ [])) old.now new.now
      takes_some old new count has ran =
          takes_all (t.behind rest) t.table t.place text terms (suc t.width) it.placed ins.is ins.plain t.cells t.fact t.read old new items values
          refl shape count has ran

      pub fails_some : (old new : State) (e : Error) → old.now.schema ≡ schema_with (t.behind rest) → ExecutesInside 0 text values old new (Err e)
          → FailsToPut old new (statements_of (part_in t) (items ∷ [])) old.now e
      fails_some old new e has ran =
          let many : length values ≡ length items * t.width = length_all t.width (map t.cells items) (are_wide items) ∙ ap (λ n. n * t.width) (length-map items t.cells) in
          fails_to_put (t.behind rest) t.table t.place text terms (suc t.width) it.placed ins.is ins.plain t.cells t.fact t.read old new items values
          refl shape e (rw many ins.whole) has ran
