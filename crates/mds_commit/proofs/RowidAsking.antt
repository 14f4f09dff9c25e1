-- What is found where mds_head is asked for its least rowid.
use Rattle.std.proofs.Common.{◌≡◌, ◌⊎◌, inl, inr, ℕ, ℤ, Bool, List, [], ◌∷◌, map, take, true, false, Ok, Err, codes, refl, sym, ap, subst, ◌∙◌, arith}
use Rattle.std.proofs.lemmas.List.Sorted.{IsPermutation-sym, ranks_by, sorted_far}
use Rattle.std.specs.List.{filter}
use Rattle.std.specs.List.Sorted.{IsSorted}
use Rattle.std.specs.Ordering.{is_lt, ordering_then}
use Rattle.std.specs.declared.cmp.Ordering.TheVariants.{Equal}
use Rattle.sqlite.specs.Command.TheVariants.{Select}
use Rattle.sqlite.specs.Listing.{reads_listing, understood}
use Rattle.sqlite.specs.Program.{IsProgramAnswer}
use Rattle.sqlite.specs.Query.{Output, Query, output_cmp}
use Rattle.sqlite.specs.State.{FailsToQuery, HasCleanDisk, IsTooLate, Shown, State, Survives}
use Rattle.sqlite.specs.Term.{Term, col}
use Rattle.sqlite.specs.declared.error.Error.{Error}
use Rattle.sqlite.specs.declared.types.Value.{Value}
use Rattle.sqlite.specs.declared.types.Value.TheVariants.{Blob, Int, Null, Real, Text}
use Rattle.sqlite.proofs.Callers.{IsPlain, command_of, reads_as}
use Rattle.sqlite_sql.proofs.QueryLemmas.{output_cmp_total}
use Rattle.sqlite_sql.specs.Ops.{is_null}
use Rattle.sqlite_tied.specs.Compute.{everything}
use Rattle.sqlite_trees.specs.Tree.{Trees, rowid}
use Rattle.sqlite_value.proofs.OrderLemmas.{then-Equal, value_cmp-Null}
use Rattle.sqlite_value.specs.Keys.{by_key}
use Rattle.sqlite_value.specs.Order.{Row, column, value_cmp}
use Rattle.sqlite_value.specs.declared.keys.Key.{Key}
use Rattle.mds_world.proofs.Lists.{in_map, map_in}
use Rattle.mds_world.specs.Lists.{Member}
use Rattle.mds_tables.specs.Tables.{More, head_tree, schema_with}
use Rattle.mds_tables.specs.Shown.{rising}
use Rattle.mds_tables.proofs.MemberLemmas.{moved, place_of}
use Rattle.mds_tables.proofs.QueryLemmas.{shown_same}
use Rattle.mds_tables.proofs.SelectLemmas.{Picks, passes, picks_first, shows}
use Rattle.mds_tables.proofs.SelectTexts.{columns_at, first_of, from_one}
use Rattle.mds_pack_rows.specs.PackTables.{packs_then}
use Rattle.mds_pack_rows.specs.Putting.{FindsThere}
use Rattle.mds_pack_rows.proofs.AskLemmas.{fails_kept, shown_kept, shown_on}
use Rattle.mds_commit.specs.Units.{AsksThere, TellRowids}

-- ---- the query

abbrev pub select_rowid : List ℕ
select_rowid = codes "SELECT rowid FROM mds_head ORDER BY rowid LIMIT 1"

abbrev by_rowid : List (Term × Key)
by_rowid = (col 1 0, rising) ∷ []

abbrev rowids_query : Query
rowids_query = from_one head_tree [] (columns_at (0 ∷ [])) by_rowid

select_rowid_is : (rest : More) → command_of (understood (schema_with (packs_then rest)) select_rowid)
    ≡ Select (record { lets = []; body = first_of rowids_query }) (codes "rowid" ∷ [])
unfolding understood everything
select_rowid_is rest = refl

select_rowid_plain : (rest : More) → IsPlain (understood (schema_with (packs_then rest)) select_rowid)
    × (reads_listing (schema_with (packs_then rest)) select_rowid ≡ false)
unfolding understood everything
select_rowid_plain rest = ((refl, refl), refl)

-- ---- the least of all

-- an integer isn't NULL
pub some_value : (v : Value) (n : ℤ) → v ≡ Int n → is_null v ≡ false
some_value v n is = subst (λ x. is_null x ≡ false) (sym is) refl

-- NULL is less than any other value
null_least : (a b : Value) → is_lt (value_cmp a b) ≡ false → is_null b ≡ false → is_null a ≡ false
null_least Null Null least some = absurd cc
null_least Null (Int n) least some = absurd (let no : true ≡ false = ap is_lt (sym (value_cmp-Null (Int n))) ∙ least in cc)
null_least Null (Real x) least some = absurd (let no : true ≡ false = ap is_lt (sym (value_cmp-Null (Real x))) ∙ least in cc)
null_least Null (Text t) least some = absurd (let no : true ≡ false = ap is_lt (sym (value_cmp-Null (Text t))) ∙ least in cc)
null_least Null (Blob b) least some = absurd (let no : true ≡ false = ap is_lt (sym (value_cmp-Null (Blob b))) ∙ least in cc)
null_least (Int n) b least some = refl
null_least (Real x) b least some = refl
null_least (Text t) b least some = refl
null_least (Blob c) b least some = refl

-- none of a sorted list is less than the first
first_least : (o : Output) (os : List Output) → IsSorted (output_cmp rowids_query) (o ∷ os) → (x : Output) → Member x (o ∷ os)
    → is_lt (output_cmp rowids_query x o) ≡ false
first_least o os up x m =
    let at = place_of (o ∷ os) x o m in
    subst (λ y. is_lt (output_cmp rowids_query y o) ≡ false) at.2
    (sorted_far _ (ranks_by (output_cmp_total rowids_query) (λ (y : Output). y)) (o ∷ os) up 0 at.0 o (omega arith) at.1)

by_column : (x o : Output) (a b : Row) → x.0 ≡ a → o.0 ≡ b → is_lt (output_cmp rowids_query x o) ≡ false
    → is_lt (value_cmp (column a 0) (column b 0)) ≡ false
by_column x o a b p q least =
    ap is_lt (sym (then-Equal (by_key rising (column a 0) (column b 0))))
    ∙ (λ i. is_lt (ordering_then (by_key rising (column (sym p i) 0) (column (sym q i) 0)) Equal)) ∙ least

module _ (db : Trees) where
  abbrev PicksRowids : List Row → Type 0
  PicksRowids = Picks head_tree [] (columns_at (0 ∷ [])) by_rowid db []

  abbrev out_of : Row → Output
  out_of = shows head_tree [] (columns_at (0 ∷ [])) by_rowid db []

  abbrev test : Row → Bool
  test = passes head_tree [] (columns_at (0 ∷ [])) by_rowid db []

  -- what is shown is what is sorted by
  keyed : (all : List Row) (p : PicksRowids all) (o : Output) → Member o p.ordered → o.0 ≡ o.1
  keyed all p o m =
      let r = in_map out_of (filter test (db head_tree)) o (moved _ p.ordered p.same o m) in
      ap (λ (x : Output). x.0) r.2 ∙ sym (ap (λ (x : Output). x.1) r.2)

  -- each row passes, as nothing is tested
  in_all : (rows : List Row) (row : Row) → Member row rows → Member row (filter test rows)
  in_all [] row m = absurd m
  in_all (r ∷ rs) row (inl e) = inl e
  in_all (r ∷ rs) row (inr m) = inr (in_all rs row m)

  there : (all : List Row) (p : PicksRowids all) (row : Row) → Member row (db head_tree) → Member (out_of row) p.ordered
  there all p row m =
      moved p.ordered _ (IsPermutation-sym _ _ p.same) (out_of row)
      (map_in out_of (filter test (db head_tree)) row (in_all (db head_tree) row m))

  of_all : (all rows : List Row) (p : PicksRowids all) → rows ≡ take 1 all → (os : List Output) → p.ordered ≡ os → TellRowids rows db
  of_all all rows p first [] none row m = absurd (subst (Member (out_of row)) none (there all p row m))
  of_all all rows p first (o ∷ os) is row m =
      let up : IsSorted (output_cmp rowids_query) (o ∷ os) = subst (IsSorted (output_cmp rowids_query)) is p.sorted in
      let here : Member o p.ordered = subst (Member o) (sym is) (inl refl) in
      let shown : rows ≡ o.1 ∷ [] = first ∙ ap (take 1) (p.shown ∙ ap (map (λ (x : Output). x.1)) is) in
      let least = first_least o os up (out_of row) (subst (Member (out_of row)) is (there all p row m)) in (
        o.1,
        subst (Member o.1) (sym shown) (inl refl),
        null_least (rowid row) (column o.1 0) (by_column (out_of row) o (column row 0 ∷ []) o.1 refl (keyed all p o here) least),
      )

  tells : (rows : List Row) → IsProgramAnswer [] (first_of rowids_query) db [] rows → TellRowids rows db
  tells rows answer =
      let p = picks_first head_tree [] (columns_at (0 ∷ [])) by_rowid db [] rows refl answer in
      of_all p.0 rows p.1 p.2 p.1.ordered refl

finds_rowids : (old new : State) (rows : List Row) → Shown select_rowid [] old new rows → FindsThere old new (TellRowids rows)
finds_rowids old new rows shown = record {
  same = λ rest has. shown_same select_rowid [] old new (schema_with (packs_then rest)) has (select_rowid_plain rest).0 rows shown;
  shows = λ rest has whole.
      let read = reads_as select_rowid [] old new (schema_with (packs_then rest)) has _ (select_rowid_is rest) (select_rowid_plain rest).0
      (select_rowid_plain rest).1 rows shown in
      tells old.now.trees rows read.answer;
}

-- ---- a query that is answered, or isn't

module _ {X E : Type 0} {old new : State} {Tells : X → Trees → Type 0} (survives : Survives old new (λ _. ⊥)) where
  pub rowids_told : (x : X) (rows : List Row) → (HasCleanDisk new → Shown select_rowid [] old new rows)
      → ((trees : Trees) → TellRowids rows trees → Tells x trees) → AsksThere {E = E} old new (Ok x) Tells
  rowids_told x rows shown so = record {
    ok = λ clean is_open.
        let finds = finds_rowids old new rows (shown clean) in
        record { same = finds.same; shows = λ rest has whole. so _ (finds.shows rest has whole) };
    goes_on = shown_on select_rowid _ old new rows shown;
    kept = λ clean is_open rest has. shown_kept (schema_with (packs_then rest)) select_rowid (select_rowid_plain rest).0 old new _ has rows (shown clean);
    survives = survives;
  }

  pub rowids_untold : (e : E) (stop : Error) → (HasCleanDisk new → FailsToQuery select_rowid [] old new stop ⊎ IsTooLate select_rowid [] old new stop)
      → AsksThere {X = X} old new (Err e) Tells
  rowids_untold e stop fails = record {
    ok = λ clean is_open. tt;
    goes_on = tt;
    kept = λ clean is_open rest has. fails_kept (schema_with (packs_then rest)) select_rowid (select_rowid_plain rest).0 old new _ has stop (fails clean);
    survives = survives;
  }
