-- New days whose rows one statement puts.
use Rattle.std.proofs.Common.{◌≡◌, ◌≢◌, ◌≤◌, ◌<◌, ◌+◌, ◌/◌, ◌++◌, ℕ, Bool, List, [], ◌∷◌, get_or, length, map, take, IsTrue, IfOk, IfSome, Ok, Err, None, Some, Option, Result, refl, sym, ap, subst, ◌∙◌}
use Rattle.std.proofs.lemmas.Grind.{flat_map-append}
use Rattle.std.proofs.lemmas.List.{append-nil, length-map, map-append, take_more}
use Rattle.std.proofs.lemmas.List.Folds.{flat_map-map}
use Rattle.std.specs.List.{flat_map}
use Rattle.sqlite.specs.Command.TheVariants.{Insert}
use Rattle.sqlite.specs.Does.{Does}
use Rattle.sqlite.specs.Effect.{Database, IsDatabase, value_rows}
use Rattle.sqlite.specs.Listing.{understood}
use Rattle.sqlite.specs.Source.TheVariants.{Values}
use Rattle.sqlite.specs.State.{ExecutesInside, HasCleanDisk, State, mode_of}
use Rattle.sqlite.specs.declared.types.Value.TheVariants.{Null}
use Rattle.sqlite.proofs.Callers.{runs_as, statement_of}
use Rattle.sqlite_rules.proofs.ActionLemmas.{no_works}
use Rattle.sqlite_schema.specs.declared.schema.Keys.TheVariants.{Enforced}
use Rattle.sqlite_trees.specs.View.{doubt}
use Rattle.sqlite_value.specs.Order.{Row}
use Rattle.mds_names.specs.declared.stream.Stream.{Stream}
use Rattle.mds_marks.specs.Reading.{ReadingValue}
use Rattle.mds_world.specs.FactOrder.{exact, total}
use Rattle.mds_world.specs.Facts.{Fact}
use Rattle.mds_world.specs.Lists.{Member}
use Rattle.mds_world.proofs.Lists.{in_map}
use Rattle.mds_world.proofs.Sets.{list_append}
use Rattle.mds_world.specs.World.{union}
use Rattle.mds_keeper.specs.Books.{row_fact}
use Rattle.mds_keeper.specs.Content.{day_versions, rows_of, version_fact, versions_of}
use Rattle.mds_keeper.specs.declared.additions.DayVersions.{DayVersions}
use Rattle.mds_keeper.specs.declared.day_book.Version.{Version}
use Rattle.mds_tables.specs.Parts.{together}
use Rattle.mds_tables.specs.Stores.{Gains}
use Rattle.mds_tables.specs.Tables.{More, schema_with}
use Rattle.mds_tables.specs.Tabling.{terms_of}
use Rattle.mds_tables.specs.Writing.{KeepsOthers}
use Rattle.mds_tables.proofs.TermLemmas.{AreWide, rows_are}
use Rattle.mds_tables.proofs.RowLemmas.{of}
use Rattle.mds_tables.proofs.MemberLemmas.{all_has}
use Rattle.mds_pack_rows.specs.Batches.{SayDays, SaySome, SaysDay, columns_of, said_by}
use Rattle.mds_pack_rows.specs.PackFacts.{body_facts, pack_facts, readings_in}
use Rattle.mds_pack_rows.specs.PackTables.{pack_table, pack_tree, packs_then}
use Rattle.mds_pack_rows.specs.Putting.{ChangesPacks, NamesMore, PutsFacts, SayRows}
use Rattle.mds_pack_rows.specs.declared.statements.PackRow.{PackRow}
use Rattle.mds_tables.proofs.ManyLemmas.{AddsAll, AreFit, adds_all, sources}
use Rattle.mds_pack_rows.proofs.PackTexts.{batch_terms, insert_packs, insert_packs_is, insert_packs_plain, pack_place}
use Rattle.mds_pack_rows.proofs.NameLemmas.{came_all, named_none, plain}
use Rattle.mds_pack_rows.proofs.PutLemmas.{fits, is_database, others_in, puts_as, puts_then, ran_on, rows_say, same_others, says_day}
use Rattle.mds_pack_rows.proofs.RefusedLemmas.{StaysAs}

-- ---- rows that are put

fit_all : (rows : List PackRow) → AreFit pack_table (map columns_of rows)
fit_all [] = tt
fit_all (r ∷ rs) = (fits r.stream r.day r.update r.body.items, fit_all rs)

say_all : (rows : List PackRow) → flat_map (λ cells. pack_facts (Null ∷ cells)) (map columns_of rows) ≡ flat_map said_by rows
say_all [] = refl
say_all (r ∷ rs) = ap (λ facts. said_by r ++ facts) (say_all rs)

wide_all : (rows : List PackRow) → AreWide 5 (map columns_of rows)
wide_all [] = tt
wide_all (r ∷ rs) = (refl, wide_all rs)

-- what the text puts are these rows
text_rows : (rows : List PackRow) → length rows ≡ together
    → value_rows (flat_map columns_of rows ++ []) 6 (length batch_terms / 6) batch_terms ≡ sources (map columns_of rows)
text_rows rows count =
    let size : length (map columns_of rows) ≡ together = length-map rows columns_of ∙ count in
    subst (λ n. value_rows (flat_map columns_of rows ++ []) 6 n (terms_of 0 5 n) ≡ sources (map columns_of rows)) size
    (rows_are (flat_map columns_of rows ++ []) 5 (map columns_of rows) 0 [] (wide_all rows)
    (ap (λ cells. cells ++ []) (sym (flat_map-map (λ (row : Row). row) columns_of rows))))

module _ (rows : List PackRow) (whole : length rows ≡ together) (count : ℕ) (old new : State) where
  abbrev cells : Row
  cells = flat_map columns_of rows

  abbrev Puts : Type 0
  Puts = ChangesPacks old new × Gains pack_tree (map columns_of rows) old.now.trees new.now.trees

  puts : (rest : More) → old.now.schema ≡ schema_with (packs_then rest) → ExecutesInside 0 insert_packs cells old new (Ok count) → Puts
  puts rest has ran =
      let db = old.now.trees in
      let schema = schema_with (packs_then rest) in
      let w = runs_as insert_packs cells old new schema has _ (insert_packs_is rest) (insert_packs_plain rest) count ran.0 in
      let stated = statement_of insert_packs (understood schema insert_packs) in
      let does = subst (λ s. Does old.step_limit (mode_of old) cells (record old.now { schema = s }) stated None
      (Insert pack_place (Values batch_terms 6)) (Ok (w.tally, new.now))) has w.changed in
      let it = adds_all old.step_limit Enforced schema pack_table cells db (map columns_of rows) (fit_all rows) batch_terms 6 (text_rows rows whole)
      (no_works schema Enforced 0 pack_tree) (mode_of old) stated pack_place w.tally new.now refl refl does in
      let put : AddsAll schema db new.now.trees pack_table (map columns_of rows) = it.1 in (
        record {
          is_open = ran.1.is_open;
          schema = it.0 ∙ sym has;
          others = others_in pack_tree schema old new has put.others;
          committed = ran.1.committed_is;
          sound = w.sound;
        },
        put.rows,
      )

  -- each row says a version
  says_each : SaySome rows → (row : Row) → Member row (map columns_of rows) → plain row ≢ []
  says_each some row m =
      let it = in_map columns_of rows row m in
      subst (λ cells. plain cells ≢ []) (sym it.2) (all_has (λ (r : PackRow). said_by r ≢ []) rows it.0 some it.1)

  pub batch_there : SaySome rows → (HasCleanDisk new → ExecutesInside 0 insert_packs cells old new (Ok count))
      → PutsFacts old new (flat_map said_by rows)
  batch_there some runs = (
    ran_on insert_packs cells count old new runs,
    λ there.
        let it = puts there.rest.more there.schema (runs there.clean) in (
          it.0,
          subst (NamesMore old.now.trees new.now.trees) (say_all rows)
              (came_all (map columns_of rows) old.now.trees new.now.trees (says_each some) it.1),
        ),
  )

-- ---- a statement that the tables refuse

pub none_there : (old new : State) → (HasCleanDisk new → StaysAs old new) → PutsFacts old new []
none_there old new stays = (
  record {
    was_open = λ clean. (stays clean).was_open;
    is_open = λ clean. (stays clean).is_open;
    inside = λ clean inside. subst IsTrue (sym (stays clean).inside) inside;
  },
  λ there.
      let it = stays there.clean in
      let now : new.now ≡ old.now = it.now_is there.is_open in (
        record {
          is_open = it.is_open there.is_open;
          schema = ap (λ (d : Database). d.schema) now;
          others = subst (λ (d : Database). KeepsOthers pack_tree old.now.trees d.trees old.now.schema.tables) (sym now)
              (same_others old.now.trees old.now.schema.tables);
          committed = it.committed_is there.is_open;
          sound = subst IsDatabase (sym now) (is_database old new there);
        },
        subst (λ (d : Database). NamesMore old.now.trees d.trees []) (sym now) (named_none old.now.trees),
      ),
)

-- the same facts in other words, where they were put
pub put_as : {E : Type 0} (r : Result Bool E) (old new : State) (xs ys : List Fact) → of xs ≡ of ys
    → IfOk r (λ put. IsTrue put → PutsFacts old new xs) → IfOk r (λ put. IsTrue put → PutsFacts old new ys)
put_as (Ok put) old new xs ys same puts = λ is. puts_as old new xs ys same (puts is)
put_as (Err e) old new xs ys same puts = tt

-- ---- the rows of days

-- those of two lists of days
pub facts_both : (xs ys : List DayVersions)
    → map version_fact (versions_of (xs ++ ys)) ≡ map version_fact (versions_of xs) ++ map version_fact (versions_of ys)
facts_both xs ys = ap (map version_fact) (flat_map-append day_versions xs ys) ∙ map-append version_fact (versions_of xs) (versions_of ys)

-- what a body says, whose readings say these versions
pub packed_says : (s : Stream) (day update : ℕ) (body : List ℕ) (readings : List (Option ReadingValue)) (rows : List (ℕ × Version))
    → readings_in body ≡ Some readings → SayRows update readings rows
    → of (body_facts s day update body) ≡ of (map (row_fact s day) rows)
packed_says s day update body readings rows is says = ap of (says_day s day update body readings is) ∙ says s day

-- a row that says these versions is that of their day
pub row_of_day : {E : Type 0} (r : Result (Option PackRow) E) (added : DayVersions) (rows : List (ℕ × Version)) → rows_of added.rows ≡ rows
    → IfOk r (λ o. IfSome o (λ row. of (said_by row) ≡ of (map (row_fact added.stream added.day) rows)))
    → IfOk r (λ o. IfSome o (λ row. SaysDay row added))
row_of_day (Ok (Some row)) added rows is says = says ∙ ap of (rows_say added rows is)
row_of_day (Ok None) added rows is says = tt
row_of_day (Err e) added rows is says = tt

-- the rows of the first days, and that of the next
pub say_more : (rows : List PackRow) (days : List DayVersions) (k : ℕ) (row : PackRow) (day : DayVersions) → k < length days
    → day ≡ get_or days k day → SayDays rows (take k days) → SaysDay row day → SayDays (rows ++ row ∷ []) (take (k + 1) days)
say_more rows days k row day low is before one =
    let front : take (k + 1) days ≡ take k days ++ day ∷ [] = take_more days k day low ∙ ap (λ x. take k days ++ x ∷ []) (sym is) in
    ap of (flat_map-append said_by rows (row ∷ [])) ∙ list_append total exact (flat_map said_by rows) (said_by row ++ [])
    ∙ (λ i. union (before i) ((ap of (append-nil (said_by row)) ∙ one) i))
    ∙ sym (ap (λ ds. of (map version_fact (versions_of ds))) front ∙ ap of (facts_both (take k days) (day ∷ []))
    ∙ ap (λ vs. of (map version_fact (versions_of (take k days)) ++ map version_fact vs)) (append-nil (day_versions day))
    ∙ list_append total exact (map version_fact (versions_of (take k days))) (map version_fact (day_versions day)))

-- some days were put, and then others are
pub puts_both : (a b c : State) → doubt b.is_clean ≤ doubt c.is_clean → (xs ys : List DayVersions)
    → PutsFacts a b (map version_fact (versions_of xs)) → PutsFacts b c (map version_fact (versions_of ys))
    → PutsFacts a c (map version_fact (versions_of (xs ++ ys)))
puts_both a b c later xs ys p q =
    subst (PutsFacts a c) (sym (facts_both xs ys)) (puts_then a b c later (map version_fact (versions_of xs)) (map version_fact (versions_of ys)) p q)
