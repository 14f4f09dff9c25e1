-- What rows that are put into the tables add to them, and to the facts that they say.
use Rattle.std.specs.Prelude.{◌<◌, ◌+◌, length, slice_index_or, string_bytes, take}
use Rattle.std.proofs.Common.{◌≡◌, ℕ, false, List, [], ◌∷◌, ◌++◌, drop, map, ◌||◌, IsPermutation, refl, sym, ap, subst, ◌∙◌}
use Rattle.std.proofs.lemmas.List.{map-append, append_assoc, take_more}
use Rattle.std.proofs.lemmas.List.Sorted.{IsPermutation-append_left, IsPermutation-cons, IsPermutation-map, IsPermutation-middle, IsPermutation-refl, IsPermutation-sym, IsPermutation-to_front, IsPermutation-trans, list_any-IsPermutation}
use Rattle.std.specs.FinSet.{contains-from_list, from_list, same_set}
use Rattle.std.specs.Ordering.{eq_by_cmp, is_eq, match_ordering}
use Rattle.std.specs.declared.cmp.Ordering.TheVariants.{Less, Equal, Greater}
use Rattle.sqlite.specs.declared.types.Value.{Value}
use Rattle.sqlite.specs.declared.types.Value.TheVariants.{Null}
use Rattle.sqlite_rules.specs.Edit.{is_taken}
use Rattle.sqlite_trees.specs.Tree.{Trees, put_row, rowid}
use Rattle.sqlite_value.specs.Order.{Row, value_cmp}
use Rattle.mds_world.specs.FactOrder.{exact, fact_cmp, total}
use Rattle.mds_jobs.specs.declared.job.Job.{Job}
use Rattle.mds_statements.proofs.BodyLemmas.{body_back}
use Rattle.mds_statements.specs.declared.periods.Period.{Period}
use Rattle.mds_world.specs.Facts.{Fact}
use Rattle.mds_world.specs.declared.facts.Detail.{Detail}
use Rattle.mds_world.specs.Facts.Fact.{DetailIs, HeadIs, JobIs, PeriodIs}
use Rattle.mds_world.proofs.Sets.{list_append, union_assoc, union_comm}
use Rattle.mds_world.specs.World.{World, union}
use Rattle.mds_keeper.specs.Content.{content, details_of, heads_of, versions_of, job_fact as content_fact, period_fact as content_period_fact, version_fact as content_version_fact}
use Rattle.mds_keeper.specs.declared.additions.Additions.{Additions}
use Rattle.mds_tables.proofs.FactLemmas.{detail_back}
use Rattle.mds_tables.specs.RowFacts.{detail_fact, event_fact, holiday_fact, job_fact, natural, period_fact}
use Rattle.mds_tables.specs.Layouts.{Layout, world_with}
use Rattle.mds_tables.specs.Stores.{AddsOf, AreRowsOf, Gained, Gains, IsJobRow, IsPeriodRow}
use Rattle.mds_tables.specs.Cells.{job_cells, period_cells}
use Rattle.mds_tables.specs.MadeRows.{IsRowOfJob, IsRowOfPeriod}
use Rattle.mds_tables.specs.declared.jobs.JobRow.{JobRow}
use Rattle.mds_tables.specs.declared.periods.PeriodRow.{PeriodRow}
use Rattle.mds_tables.specs.Parts.{Part, Says, detail_part, event_part, holiday_part, job_part, period_part}
pub use Rattle.mds_tables.specs.Writing.{IsMore}

-- a row under a fresh rowid is put between the others
put_shuffles : (new : Row) (rows : List Row) → is_taken rows new ≡ false → IsPermutation (new ∷ rows) (put_row new rows)
put_shuffles new [] fresh = IsPermutation-refl _
put_shuffles new (r ∷ rs) fresh =
    elim (value_cmp (rowid r) (rowid new)) as (λ o. (is_eq o || is_taken rs new) ≡ false
    → IsPermutation (new ∷ r ∷ rs) (match_ordering o (r ∷ put_row new rs) (new ∷ rs) (new ∷ r ∷ rs))) [
      | Less ↦ λ none. IsPermutation-trans _ _ _ (IsPermutation-sym _ _ (IsPermutation-middle (r ∷ []) new rs))
          (IsPermutation-cons r _ _ (put_shuffles new rs none))
      | Equal ↦ λ none. absurd (cc)
      | Greater ↦ λ none. IsPermutation-refl _
    ] fresh

-- so that the table has its columns beside those of the others
pub gains_one : (id : Value) (cells : Row) (rows : List Row) → is_taken rows (id ∷ cells) ≡ false
    → IsPermutation (map (drop 1) rows ++ cells ∷ []) (map (drop 1) (put_row (id ∷ cells) rows))
gains_one id cells rows fresh =
    IsPermutation-trans _ _ _ (IsPermutation-to_front (map (drop 1) rows) cells)
    (IsPermutation-map (drop 1) ((id ∷ cells) ∷ rows) (put_row (id ∷ cells) rows) (put_shuffles (id ∷ cells) rows fresh))

-- what a table gains in two steps
pub gains_more : (tree : ℕ) (xs ys : List Row) (a b c : Trees) → Gains tree xs a b → Gains tree ys b c
    → Gains tree (xs ++ ys) a c
gains_more tree xs ys a b c p q =
    subst (λ rows. IsPermutation rows (map (drop 1) (c tree))) (append_assoc (map (drop 1) (a tree)) xs ys)
    (IsPermutation-trans _ _ _ (IsPermutation-append_left ys _ _ p) q)

pub gains_kept : (tree : ℕ) (rows : List Row) (a b c : Trees) → Gains tree rows a b → c tree ≡ b tree → Gains tree rows a c
gains_kept tree rows a b c gains same =
    subst (λ (now : List Row). IsPermutation (map (drop 1) (a tree) ++ rows) (map (drop 1) now)) (sym same) gains

pub kept_gains : (tree : ℕ) (rows : List Row) (a b c : Trees) → b tree ≡ a tree → Gains tree rows b c → Gains tree rows a c
kept_gains tree rows a b c same gains =
    subst (λ (was : List Row). IsPermutation (map (drop 1) was ++ rows) (map (drop 1) (c tree))) same gains

-- the World of a list of facts
abbrev pub of : List Fact → World
of facts = from_list {R = fact_cmp} facts

append_of : (xs ys : List Fact) → of (xs ++ ys) ≡ union (of xs) (of ys)
append_of = list_append total exact

shuffled_of : (xs ys : List Fact) → IsPermutation xs ys → of xs ≡ of ys
shuffled_of xs ys p =
    same_set total exact _ _ (λ q. contains-from_list total xs q ∙ list_any-IsPermutation (eq_by_cmp fact_cmp q) xs ys p
    ∙ sym (contains-from_list total ys q))

-- more in both of two parts
pub more_both : (xs ys us vs fs gs : List Fact) → IsMore us xs fs → IsMore vs ys gs → IsMore (us ++ vs) (xs ++ ys) (fs ++ gs)
more_both xs ys us vs fs gs p q =
    let x = of xs in
    let y = of ys in
    let f = of fs in
    let g = of gs in
    append_of us vs ∙ (λ i. union (p i) (q i)) ∙ union_assoc total exact x f (union y g)
    ∙ ap (union x) (sym (union_assoc total exact f y g) ∙ ap (λ w. union w g) (union_comm total exact f y)
    ∙ union_assoc total exact y f g)
    ∙ sym (union_assoc total exact x y (union f g))
    ∙ (λ i. union (sym (append_of xs ys) i) (sym (append_of fs gs) i))

-- the rowid is nothing that a fact says
abbrev pub Unnamed : (Row → Fact) → Type 0
Unnamed read = (row : Row) → read row ≡ read (Null ∷ drop 1 row)

bare : (read : Row → Fact) → Unnamed read → (rows : List Row)
    → map read rows ≡ map (λ cells. read (Null ∷ cells)) (map (drop 1) rows)
bare read same [] = refl
bare read same (r ∷ rs) = λ i. same r i ∷ bare read same rs i

module _ {A : Type 0} (part : Part A) where
  say : (items : List A) → Says part items
      → map (λ cells. part.read (Null ∷ cells)) (map part.cells items) ≡ map part.fact items
  say [] said = refl
  say (x ∷ xs) said = λ i. said.0 Null i ∷ say xs said.1 i

  pub say_more : (xs ys : List A) → Says part xs → Says part ys → Says part (xs ++ ys)
  say_more [] ys p q = q
  say_more (x ∷ xs) ys p q = (p.0, say_more xs ys p.1 q)

  -- a table says more by the facts of the rows that it gained
  pub more : Unnamed part.read → (items : List A) → Says part items → (old new : Trees)
      → Gains part.tree (map part.cells items) old new
      → IsMore (map part.read (new part.tree)) (map part.read (old part.tree)) (map part.fact items)
  more same items said old new gains =
      let rows : List Row = map (drop 1) (old part.tree) in
      let plain : Row → Fact = λ cells. part.read (Null ∷ cells) in
      ap of (bare part.read same (new part.tree))
      ∙ sym (shuffled_of _ _ (IsPermutation-map plain (rows ++ map part.cells items) (map (drop 1) (new part.tree)) gains))
      ∙ ap of (map-append plain rows (map part.cells items))
      ∙ (λ i. of (sym (bare part.read same (old part.tree)) i ++ say items said i))
      ∙ append_of (map part.read (old part.tree)) (map part.fact items)

-- the row of details of a day, under any rowid, says them
pub says_details : (details : List Detail) → Says detail_part details
says_details [] = tt
says_details (d ∷ ds) = ((λ id. detail_back id d), says_details ds)

pub detail_bare : Unnamed detail_fact
detail_bare [] = refl
detail_bare (x ∷ xs) = refl

event_bare : Unnamed event_fact
event_bare [] = refl
event_bare (x ∷ xs) = refl

period_bare : Unnamed period_fact
period_bare [] = refl
period_bare (x ∷ xs) = refl

holiday_bare : Unnamed holiday_fact
holiday_bare [] = refl
holiday_bare (x ∷ xs) = refl

job_bare : Unnamed job_fact
job_bare [] = refl
job_bare (x ∷ xs) = refl

rows_push : {A B : Type 0} (IsRow : A → B → Type 0) (things : List A) (rows : List B) (thing : A) (row : B)
    → AreRowsOf IsRow things rows → IsRow thing row → AreRowsOf IsRow (things ++ thing ∷ []) (rows ++ row ∷ [])
rows_push IsRow [] [] thing row are is = (is, tt)
rows_push IsRow [] (r ∷ rs) thing row are is = absurd are
rows_push IsRow (t ∷ ts) [] thing row are is = absurd are
rows_push IsRow (t ∷ ts) (r ∷ rs) thing row are is = (are.0, rows_push IsRow ts rs thing row are.1 is)

-- the row of the next thing follows those of the things before it
pub rows_more : {A B : Type 0} (IsRow : A → B → Type 0) (things : List A) (at : ℕ) (thing : A) (rows new : List B) (row : B)
    → at < length things → thing ≡ slice_index_or things at thing → AreRowsOf IsRow (take at things) rows → IsRow thing row
    → new ≡ rows ++ row ∷ [] → AreRowsOf IsRow (take (at + 1) things) new
rows_more IsRow things at thing rows new row low is are of more =
    let front : take (at + 1) things ≡ take at things ++ thing ∷ [] =
    take_more things at thing low ∙ ap (λ x. take at things ++ x ∷ []) (sym is) in
    subst (λ ts. AreRowsOf IsRow ts new) (sym front)
    (subst (AreRowsOf IsRow (take at things ++ thing ∷ [])) (sym more) (rows_push IsRow (take at things) rows thing row are of))

-- what are rows of things are theirs as the tables have them
shown_rows : {A B : Type 0} (IsRow : A → B → Type 0) (IsShown : A → Row → Type 0) (cells : B → Row)
    → ((thing : A) (row : B) → IsRow thing row → IsShown thing (cells row)) → (things : List A) (rows : List B)
    → AreRowsOf IsRow things rows → AreRowsOf IsShown things (map cells rows)
shown_rows IsRow IsShown cells shows [] [] are = tt
shown_rows IsRow IsShown cells shows [] (row ∷ rows) are = absurd are
shown_rows IsRow IsShown cells shows (thing ∷ things) [] are = absurd are
shown_rows IsRow IsShown cells shows (thing ∷ things) (row ∷ rows) are =
    (shows thing row are.0, shown_rows IsRow IsShown cells shows things rows are.1)

-- and say what these are
same_facts : {A B : Type 0} (IsRow : A → B → Type 0) (said : B → Fact) (meant : A → Fact)
    → ((thing : A) (row : B) → IsRow thing row → said row ≡ meant thing) → (things : List A) (rows : List B)
    → AreRowsOf IsRow things rows → map said rows ≡ map meant things
same_facts IsRow said meant same [] [] are = refl
same_facts IsRow said meant same [] (row ∷ rows) are = absurd are
same_facts IsRow said meant same (thing ∷ things) [] are = absurd are
same_facts IsRow said meant same (thing ∷ things) (row ∷ rows) are =
    λ i. same thing row are.0 i ∷ same_facts IsRow said meant same things rows are.1 i

pub period_rows_are : (periods : List Period) (rows : List PeriodRow) → AreRowsOf IsRowOfPeriod periods rows
    → AreRowsOf IsPeriodRow periods (map period_part.cells rows)
period_rows_are = shown_rows IsRowOfPeriod IsPeriodRow period_part.cells
    (λ period row is. (string_bytes row.body, is.body, λ i. period_cells (is.key i) (string_bytes row.body)))

period_facts_are : (periods : List Period) (rows : List PeriodRow) → AreRowsOf IsRowOfPeriod periods rows
    → map period_part.fact rows ≡ map content_period_fact periods
period_facts_are = same_facts IsRowOfPeriod period_part.fact content_period_fact
    (λ period row is. let says = body_back period (string_bytes row.body) is.body in λ i. PeriodIs (is.key i) (says i))

pub job_rows_are : (jobs : List (Job × ℕ)) (rows : List JobRow) → AreRowsOf IsRowOfJob jobs rows
    → AreRowsOf IsJobRow jobs (map job_part.cells rows)
job_rows_are = shown_rows IsRowOfJob IsJobRow job_part.cells
    (λ job row is. (string_bytes row.body, is.body, λ i. job_cells (is.id i) (string_bytes row.body) (is.count i)))

job_facts_are : (jobs : List (Job × ℕ)) (rows : List JobRow) → AreRowsOf IsRowOfJob jobs rows
    → map job_part.fact rows ≡ map content_fact jobs
job_facts_are = same_facts IsRowOfJob job_part.fact content_fact
    (λ job row is i. JobIs (is.id i) (is.says i) (natural (is.count i)))

-- the heads, the versions and the details of days among what is added
abbrev pub own_facts : Additions → List Fact
own_facts added =
    map HeadIs (heads_of added) ++ map content_version_fact (versions_of added.days.items) ++ map DetailIs (details_of added.details.items)

-- the World that the tables of a layout name is the union
pub world_after : (layout : Layout) (HasOwn : Gained) (old new : Trees) (added : Additions) (periods : List PeriodRow) (jobs : List JobRow)
    → AreRowsOf IsRowOfPeriod added.periods.items periods → AreRowsOf IsRowOfJob added.jobs.items jobs
    → IsMore (layout.heads new ++ layout.own new) (layout.heads old ++ layout.own old) (own_facts added)
    → Says event_part added.events.items → Says period_part periods
    → Says holiday_part added.holidays.items → Says job_part jobs
    → AddsOf HasOwn old new added → Gains 10 (map period_part.cells periods) old new → Gains 14 (map job_part.cells jobs) old new
    → world_with layout new ≡ union (world_with layout old) (content added)
world_after layout HasOwn old new added periods jobs of_periods of_jobs own events accumulated holidays rows adds more_periods more_jobs =
    more_both _ (map job_fact (old 14)) _ (map job_fact (new 14)) _ _
    (more_both _ (map holiday_fact (old 12)) _ (map holiday_fact (new 12)) _ _
    (more_both _ (map period_fact (old 10)) _ (map period_fact (new 10)) _ _
    (more_both _ (map event_fact (old 8)) _ (map event_fact (new 8)) _ _ own
    (more event_part event_bare added.events.items events old new adds.events))
    (subst (λ fs. IsMore (map period_fact (new 10)) (map period_fact (old 10)) fs)
    (period_facts_are added.periods.items periods of_periods)
    (more period_part period_bare periods accumulated old new more_periods)))
    (more holiday_part holiday_bare added.holidays.items holidays old new adds.holidays))
    (subst (λ fs. IsMore (map job_fact (new 14)) (map job_fact (old 14)) fs) (job_facts_are added.jobs.items jobs of_jobs)
    (more job_part job_bare jobs rows old new more_jobs))
