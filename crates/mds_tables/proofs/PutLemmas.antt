-- Rows that are put into the tables in a transaction.
use Rattle.std.proofs.Common.{◌≡◌, ◌≢◌, ◌≤◌, ◌<◌, ◌+◌, ◌++◌, ◌/◌, inl, inr, ℕ, List, [], ◌∷◌, drop, length, map, take, get_or, slice_get, IsPermutation, IsTrue, Some, None, Ok, Err, Result, OnOk, Option, refl, sym, ap, subst, ◌∙◌, arith}
use Rattle.std.specs.List.{AllByRecursion}
use Rattle.std.proofs.lemmas.List.{append-nil, map-append, take_more}
use Rattle.std.proofs.lemmas.List.Sorted.{IsPermutation-refl}
use Rattle.sqlite.specs.Command.TheVariants.{Insert}
use Rattle.sqlite.specs.Does.{Does, Tally}
use Rattle.sqlite.specs.Effect.{Database, value_rows}
use Rattle.sqlite.specs.Listing.{understood}
use Rattle.sqlite.specs.Schema.{Schema}
use Rattle.sqlite.specs.Source.TheVariants.{Values}
use Rattle.sqlite.specs.State.{ExecutesInside, HasCleanDisk, State, mode_of}
use Rattle.sqlite.specs.Table.{Table}
use Rattle.sqlite.specs.Kind.TheVariants.{Integer}
use Rattle.sqlite.proofs.Callers.{IsPlain, command_of, runs_as, statement_of}
use Rattle.sqlite_catalog.specs.Listing.{IsSound}
use Rattle.sqlite_rules.proofs.ActionLemmas.{no_works}
use Rattle.sqlite_rules.specs.Cast.{cast}
use Rattle.sqlite_schema.specs.declared.schema.Keys.TheVariants.{Enforced}
use Rattle.sqlite_sql.specs.Term.{Term}
use Rattle.sqlite_trees.specs.Tree.{Trees}
use Rattle.sqlite_trees.specs.View.{doubt}
use Rattle.sqlite_value.specs.Order.{Row}
use Rattle.mds_terms.specs.Event.{EventValue}
use Rattle.mds_world.specs.Facts.{Fact}
use Rattle.mds_world.specs.Facts.Fact.{EventIs}
use Rattle.mds_keeper.specs.declared.additions.Additions.{Additions}
use Rattle.mds_tables.proofs.InsertLemmas.{cast_int, simple}
use Rattle.mds_tables.proofs.OpenTexts.{event_terms, insert_event, insert_event_is, insert_event_plain}
use Rattle.mds_tables.specs.Cells.{event_cells, optional_cell}
use Rattle.mds_tables.specs.RowFacts.{event_fact}
use Rattle.mds_tables.specs.Layouts.{Layout}
use Rattle.mds_tables.specs.Stores.{AddsOf, AreRowsOf, Gained, Gains}
use Rattle.mds_tables.specs.Tables.{More, event_table, schema_with, trees_taken}
use Rattle.mds_tables.specs.MadeRows.{IsRowOfJob, IsRowOfPeriod}
use Rattle.mds_tables.specs.declared.jobs.JobRow.{JobRow}
use Rattle.mds_tables.specs.declared.periods.PeriodRow.{PeriodRow}
use Rattle.mds_tables.specs.Parts.{Part, Says, event_part, holiday_part, job_part, period_part, singly, statements_of}
use Rattle.mds_tables.specs.Refusals.{FailsToPut, RefusesOne, TakesAll, all_cells, insert_of}
use Rattle.mds_tables.specs.Writing.{HasAddedOf, IsMore, IsSteady, Keeps, KeepsBut, KeepsOthers, Puts, PutsOwn, PutsRest, PutsRestThere, PutsThere, rest_trees}
use Rattle.mds_tables.proofs.CauseLemmas.{IsWhole, fails_since, fails_until, stopped_as}
use Rattle.sqlite.specs.Rows.{Outcome}
use Rattle.sqlite.specs.declared.error.Error.{Error}
use Rattle.sqlite_tied.specs.Compute.{everything}
use Rattle.mds_tables.proofs.FactLemmas.{event_back}
use Rattle.mds_tables.proofs.ManyLemmas.{AddsAll, AreFit, adds_all, sources}
use Rattle.mds_tables.proofs.RowLemmas.{gains_kept, gains_more, job_rows_are, kept_gains, of, own_facts, period_rows_are, say_more, world_after}

pub cast_optional : (o : Option ℕ) → cast Integer (optional_cell o) ≡ optional_cell o
cast_optional None = cast_int _
cast_optional (Some n) = cast_int _

-- ---- rows that are put, or refused

-- a text that puts rows into a table, whatever tables stand behind those that every schema has
module _ (more : More) (table : Table) (at : ℕ) (text : List ℕ) (terms : List Term) (width : ℕ)
    (placed : slice_get (schema_with more).tables at ≡ Some (simple table))
    (is : command_of (understood (schema_with more) text) ≡ Insert at (Values terms width))
    (plain : IsPlain (understood (schema_with more) text))
    {A : Type 0} (cells : A → Row) (fact : A → Fact) (read : Row → Fact) where
  abbrev pub part : Part A
  part = record { place = at; tree = table.tree; cells = cells; fact = fact; read = read }

  module _ (old new : State) (items : List A) (values : Row) (count : ℕ)
      (are : value_rows (values ++ []) width (length terms / width) terms ≡ sources (map cells items)) (fit : AreFit table (map cells items)) where
    puts_rows : old.now.schema ≡ schema_with more → ExecutesInside 0 text values old new (Ok count) → Puts (schema_with more) part old new items
    puts_rows has ran =
        let db = old.now.trees in
        let w = runs_as text values old new (schema_with more) has _ is plain count ran.0 in
        let stated = statement_of text (understood (schema_with more) text) in
        let does =
        subst (λ s. Does old.step_limit (mode_of old) values (record old.now { schema = s }) stated None
        (Insert at (Values terms width)) (Ok (w.tally, new.now))) has w.changed in
        let it = adds_all old.step_limit Enforced (schema_with more) table values db (map cells items) fit terms width are
        (no_works (schema_with more) Enforced 0 table.tree) (mode_of old) stated at w.tally new.now refl placed does in
        let put : AddsAll (schema_with more) db new.now.trees table (map cells items) = it.1 in
        record {
          schema = it.0;
          rows = put.rows;
          others = put.others;
          committed = ran.1.committed_is;
          sound = subst (λ s. IsSound s new.now.trees) it.0 w.sound;
        }

    pub puts_there : Says part items → (HasCleanDisk new → ExecutesInside 0 text values old new (Ok count))
        → PutsThere (schema_with more) part old new items
    puts_there says runs = record {
      was_open = λ clean _. (runs clean).1.was_open;
      is_open = λ clean _. (runs clean).1.is_open;
      inside = λ clean _. (runs clean).1.mode;
      puts = λ clean _ has _. puts_rows has (runs clean);
      said = says;
    }

  -- the statement in the words of what may be refused
  module _ (old new : State) (items : List A) (values : Row) (given : all_cells (map cells items) ≡ values)
      (shape : insert_of at (map cells items) ≡ Insert at (Values terms width)) where
    as_given : (outcome : Outcome (Tally × Database)) → Does old.step_limit (mode_of old) values old.now [] None (Insert at (Values terms width)) outcome
        → Does old.step_limit (mode_of old) (all_cells (map cells items)) old.now [] None (insert_of at (map cells items)) outcome
    as_given outcome does =
        subst (λ v. Does old.step_limit (mode_of old) v old.now [] None (insert_of at (map cells items)) outcome) (sym given)
        (subst (λ k. Does old.step_limit (mode_of old) values old.now [] None k outcome) (sym shape) does)

    pub takes_all : (count : ℕ) → old.now.schema ≡ schema_with more → ExecutesInside 0 text values old new (Ok count)
        → TakesAll old.step_limit (statements_of part (items ∷ [])) old.now new.now
    takes_all count has ran =
        let w = runs_as text values old new (schema_with more) has _ is plain count ran.0 in
        (w.tally, new.now, as_given _ w.changed, refl)

    pub fails_to_put : (e : Error) → IsWhole text (length values) (understood (schema_with more) text) → old.now.schema ≡ schema_with more
        → ExecutesInside 0 text values old new (Err e) → FailsToPut old new (statements_of part (items ∷ [])) old.now e
    fails_to_put e whole has ran =
        elim (stopped_as text values old new (schema_with more) has (Insert at (Values terms width)) is plain whole tt e ran) [
          | inl refused ↦ inr (inl (as_given _ refused))
          | inr failed ↦ inl (fails_until old new new _ (RefusesOne old.step_limit (statements_of part (items ∷ [])) old.now None)
              (λ big. inl (as_given _ big)) (omega arith) e failed)
        ]

-- ---- the row of an event

pub puts_event : (more : More) (old new : State) (e : EventValue) (count : ℕ)
    → (HasCleanDisk new → ExecutesInside 0 insert_event (event_cells e) old new (Ok count))
    → PutsThere (schema_with more) event_part old new (e ∷ [])
puts_event more old new e count runs =
    puts_there more event_table 4 insert_event event_terms 8 refl (insert_event_is more) (insert_event_plain more) event_cells EventIs
    event_fact old new (e ∷ []) (event_cells e) count refl (rw (cast_int, cast_optional), tt) ((λ id. event_back id e), tt) runs

event_whole : (more : More) → IsWhole insert_event 7 (understood (schema_with more) insert_event)
unfolding understood everything
event_whole more = (omega arith, refl, refl)

pub takes_event : (more : More) (old new : State) (event : EventValue) (count : ℕ) → old.now.schema ≡ schema_with more
    → ExecutesInside 0 insert_event (event_cells event) old new (Ok count) → TakesAll old.step_limit (singly event_part (event ∷ [])) old.now new.now
takes_event more old new event count has ran =
    takes_all more event_table 4 insert_event event_terms 8 refl (insert_event_is more) (insert_event_plain more) event_cells EventIs event_fact
    old new (event ∷ []) (event_cells event) refl refl count has ran

pub fails_event : (more : More) (old new : State) (event : EventValue) (e : Error) → old.now.schema ≡ schema_with more
    → ExecutesInside 0 insert_event (event_cells event) old new (Err e) → FailsToPut old new (singly event_part (event ∷ [])) old.now e
fails_event more old new event e has ran =
    fails_to_put more event_table 4 insert_event event_terms 8 refl (insert_event_is more) (insert_event_plain more) event_cells EventIs event_fact
    old new (event ∷ []) (event_cells event) refl refl e (event_whole more) has ran

-- ---- rows that are put one after another

same_others : (tree : ℕ) (a : Trees) (tables : List Table) → KeepsOthers tree a a tables
same_others tree a [] = tt
same_others tree a (t ∷ ts) = (λ _. refl, same_others tree a ts)

kept_others : (tree : ℕ) (a b c : Trees) (tables : List Table) → KeepsOthers tree a b tables → KeepsOthers tree b c tables
    → KeepsOthers tree a c tables
kept_others tree a b c [] p q = tt
kept_others tree a b c (t ∷ ts) p q = (λ other. q.0 other ∙ p.0 other, kept_others tree a b c ts p.1 q.1)

-- a database that takes some statements and then others takes all of them
pub takes_then : (limit : Option ℕ) (xs ys : List (ℕ × List Row)) (a b c : Database) → TakesAll limit xs a b → TakesAll limit ys b c
    → TakesAll limit (xs ++ ys) a c
takes_then limit [] ys a b c p q = subst (λ db. TakesAll limit ys db c) p q
takes_then limit (x ∷ xs) ys a b c p q = (p.0, p.1, p.2, takes_then limit xs ys p.1 b c p.3 q)

-- one that refuses one of some refuses one of these and others
refuses_more : (limit : Option ℕ) (xs ys : List (ℕ × List Row)) (db : Database) (stop : Option Error) → RefusesOne limit xs db stop
    → RefusesOne limit (xs ++ ys) db stop
refuses_more limit [] ys db stop h = absurd h
refuses_more limit (x ∷ xs) ys db stop (inl h) = inl h
refuses_more limit (x ∷ xs) ys db stop (inr (tally, next, took, h)) = inr (tally, next, took, refuses_more limit xs ys next stop h)

-- and one that took some refuses one of these and others, where it then refuses one of the others
refuses_later : (limit : Option ℕ) (xs ys : List (ℕ × List Row)) (a b : Database) (stop : Option Error) → TakesAll limit xs a b
    → RefusesOne limit ys b stop → RefusesOne limit (xs ++ ys) a stop
refuses_later limit [] ys a b stop p h = subst (λ db. RefusesOne limit ys db stop) p h
refuses_later limit (x ∷ xs) ys a b stop p h = inr (p.0, p.1, p.2, refuses_later limit xs ys p.1 b stop p.3 h)

pub fails_more : (a c : State) (xs ys : List (ℕ × List Row)) (db : Database) (e : Error) → FailsToPut a c xs db e
    → FailsToPut a c (xs ++ ys) db e
fails_more a c xs ys db e (inl failed) =
    inl (fails_until a c c _ _ (λ big. refuses_more a.step_limit xs ys db None big) (omega arith) e failed)
fails_more a c xs ys db e (inr refused) = inr (refuses_more a.step_limit xs ys db (Some e) refused)

pub fails_later : (a b c : State) (xs ys : List (ℕ × List Row)) (e : Error) → a.faults ≤ b.faults → IsTrue b.is_open
    → b.step_limit ≡ a.step_limit → TakesAll a.step_limit xs a.now b.now → FailsToPut b c ys b.now e
    → FailsToPut a c (xs ++ ys) a.now e
fails_later a b c xs ys e up is_open limit took (inl failed) =
    inl (fails_since a b c _ _ (λ big. refuses_later a.step_limit xs ys a.now b.now None took (rw limit at big)) up is_open e failed)
fails_later a b c xs ys e up is_open limit took (inr refused) =
    inr (refuses_later a.step_limit xs ys a.now b.now (Some e) took (rw limit at refused))

module _ (under : Schema) {A : Type 0} (part : Part A) where
  pub none_there : (s : State) → PutsThere under part s s []
  none_there s = record {
    was_open = λ _ o. o;
    is_open = λ _ o. o;
    inside = λ _ o. o;
    puts = λ _ _ has sound. record {
      schema = has;
      rows = subst (λ rows. IsPermutation rows (map (drop 1) (s.now.trees part.tree)))
          (sym (append-nil (map (drop 1) (s.now.trees part.tree)))) (IsPermutation-refl _);
      others = same_others part.tree s.now.trees under.tables;
      committed = refl;
      sound = sound;
    };
    said = tt;
  }

  pub puts_then : (a b c : State) (xs ys : List A) → Puts under part a b xs → Puts under part b c ys
      → Puts under part a c (xs ++ ys)
  puts_then a b c xs ys p q = record {
    schema = q.schema;
    rows = subst (λ rows. Gains part.tree rows a.now.trees c.now.trees) (sym (map-append part.cells xs ys))
        (gains_more part.tree (map part.cells xs) (map part.cells ys) a.now.trees b.now.trees c.now.trees p.rows q.rows);
    others = kept_others part.tree a.now.trees b.now.trees c.now.trees under.tables p.others q.others;
    committed = q.committed ∙ p.committed;
    sound = q.sound;
  }

  pub there_then : (a b c : State) (xs ys : List A) → doubt b.is_clean ≤ doubt c.is_clean
      → PutsThere under part a b xs → PutsThere under part b c ys → PutsThere under part a c (xs ++ ys)
  there_then a b c xs ys later p q = record {
    was_open = λ clean o. p.was_open (omega arith) (q.was_open clean o);
    is_open = λ clean o. q.is_open clean (p.is_open (omega arith) o);
    inside = λ clean o. q.inside clean (p.inside (omega arith) o);
    puts = λ clean o has sound.
        let first = p.puts (omega arith) o has sound in
        puts_then a b c xs ys first (q.puts clean (p.is_open (omega arith) o) first.schema first.sound);
    said = say_more part xs ys p.said q.said;
  }

-- the things up to a place, and the one there
pub one_more : {A : Type 0} (xs : List A) (at : ℕ) (x : A) → at < length xs → x ≡ get_or xs at x → take at xs ++ x ∷ [] ≡ take (at + 1) xs
one_more xs at x low is = ap (λ y. take at xs ++ y ∷ []) is ∙ sym (take_more xs at x low)

pub if_ok : {X E : Type 0} (r : Result X E) (A B : Type 0) → (A → B) → OnOk r A → OnOk r B
if_ok (Ok x) A B f h = f h
if_ok (Err e) A B f h = tt

-- ---- the parts of what is added

-- trees that come behind all others
behind_rest : (tree : ℕ) → trees_taken ≤ tree → AllByRecursion (λ at. tree ≢ at) rest_trees
behind_rest tree high =
    (λ e. omega (arith, high, e), (λ e. omega (arith, high, e), (λ e. omega (arith, high, e), (λ e. omega (arith, high, e), tt))))

before_rest : (tree : ℕ) → tree < 8 → AllByRecursion (λ at. tree ≢ at) rest_trees
before_rest tree low =
    (λ e. omega (arith, low, e), (λ e. omega (arith, low, e), (λ e. omega (arith, low, e), (λ e. omega (arith, low, e), tt))))

rest_keeps : (old new : Trees) (tables : List Table) → AllByRecursion (λ (t : Table). trees_taken ≤ t.tree) tables
    → KeepsBut rest_trees old new tables → Keeps old new tables
rest_keeps old new [] behind same = tt
rest_keeps old new (t ∷ ts) behind same = (same.0 (behind_rest t.tree behind.0), rest_keeps old new ts behind.1 same.1)

kept_but_rest : (a b c d f : Trees) (tables : List Table) → KeepsOthers 8 a b tables → KeepsOthers 10 b c tables
    → KeepsOthers 12 c d tables → KeepsOthers 14 d f tables → KeepsBut rest_trees a f tables
kept_but_rest a b c d f [] p q r s = tt
kept_but_rest a b c d f (t ∷ ts) p q r s =
    (λ none. s.0 none.1.1.1.0 ∙ r.0 none.1.1.0 ∙ q.0 none.1.0 ∙ p.0 none.0, kept_but_rest a b c d f ts p.1 q.1 r.1 s.1)

-- what is put behind heads, versions and details, one part after another
module _ (more : More) (a b c d f : State) (added : Additions) (periods : List PeriodRow) (jobs : List JobRow) where
  abbrev rest_under : Schema
  rest_under = schema_with more

  rest_put : Puts rest_under event_part a b added.events.items → Puts rest_under period_part b c periods
      → Puts rest_under holiday_part c d added.holidays.items → Puts rest_under job_part d f jobs
      → PutsRest rest_under a f added periods jobs
  rest_put p q r s =
      let one = a.now.trees in
      let two = b.now.trees in
      let three = c.now.trees in
      let four = d.now.trees in
      let last = f.now.trees in
      record {
        schema = s.schema;
        events = gains_kept 8 _ one two last p.rows
            (s.others.1.1.1.1.0 (λ e. omega arith) ∙ r.others.1.1.1.1.0 (λ e. omega arith) ∙ q.others.1.1.1.1.0 (λ e. omega arith));
        accumulated = gains_kept 10 _ one three last (kept_gains 10 _ one two three (p.others.1.1.1.1.1.0 (λ e. omega arith)) q.rows)
            (s.others.1.1.1.1.1.0 (λ e. omega arith) ∙ r.others.1.1.1.1.1.0 (λ e. omega arith));
        holidays = gains_kept 12 _ one four last
            (kept_gains 12 _ one three four
            (q.others.1.1.1.1.1.1.0 (λ e. omega arith) ∙ p.others.1.1.1.1.1.1.0 (λ e. omega arith)) r.rows)
            (s.others.1.1.1.1.1.1.0 (λ e. omega arith));
        planned = kept_gains 14 _ one four last
            (r.others.1.1.1.1.1.1.1.0 (λ e. omega arith) ∙ q.others.1.1.1.1.1.1.1.0 (λ e. omega arith)
            ∙ p.others.1.1.1.1.1.1.1.0 (λ e. omega arith)) s.rows;
        others = kept_but_rest one two three four last rest_under.tables p.others q.others r.others s.others;
        sound = s.sound;
      }

  pub rest_there : doubt b.is_clean ≤ doubt c.is_clean → doubt c.is_clean ≤ doubt d.is_clean → doubt d.is_clean ≤ doubt f.is_clean
      → PutsThere rest_under event_part a b added.events.items → PutsThere rest_under period_part b c periods
      → PutsThere rest_under holiday_part c d added.holidays.items → PutsThere rest_under job_part d f jobs
      → PutsRestThere rest_under a f added periods jobs
  rest_there bc cd df p q r s = record {
    was_open = λ clean o. p.was_open (omega arith) (q.was_open (omega arith) (r.was_open (omega arith) (s.was_open clean o)));
    is_open = λ clean o. s.is_open clean (r.is_open (omega arith) (q.is_open (omega arith) (p.is_open (omega arith) o)));
    inside = λ clean o. s.inside clean (r.inside (omega arith) (q.inside (omega arith) (p.inside (omega arith) o)));
    puts = λ clean o has sound.
        let one = p.puts (omega arith) o has sound in
        let o2 = p.is_open (omega arith) o in
        let two = q.puts (omega arith) o2 one.schema one.sound in
        let o3 = q.is_open (omega arith) o2 in
        let three = r.puts (omega arith) o3 two.schema two.sound in
        let four = s.puts clean (r.is_open (omega arith) o3) three.schema three.sound in
        rest_put one two three four;
    said_events = p.said;
    said_periods = q.said;
    said_holidays = r.said;
    said_jobs = s.said;
  }

same_tables : (a : Trees) (tables : List Table) → Keeps a a tables
same_tables a [] = tt
same_tables a (t ∷ ts) = (refl, same_tables a ts)

-- heads, versions and details, and the rest, in any layout
module _ (layout : Layout) (HasOwn : Gained) (steady : IsSteady layout.more HasOwn) (a b c : State) (added : Additions)
    (periods : List PeriodRow) (jobs : List JobRow) (of_periods : AreRowsOf IsRowOfPeriod added.periods.items periods)
    (of_jobs : AreRowsOf IsRowOfJob added.jobs.items jobs) where
  abbrev all_under : Schema
  all_under = schema_with layout.more

  module _ (p : PutsOwn layout HasOwn a b added) (q : PutsRest all_under b c added periods jobs) where
    rest_kept : Keeps b.now.trees c.now.trees layout.more.tables
    rest_kept = rest_keeps b.now.trees c.now.trees layout.more.tables layout.behind q.others.1.1.1.1.1.1.1.1

    heads_kept : c.now.trees 2 ≡ b.now.trees 2
    heads_kept = q.others.1.0 (before_rest 2 (omega arith))

    versions_kept : c.now.trees 4 ≡ b.now.trees 4
    versions_kept = q.others.1.1.0 (before_rest 4 (omega arith))

    gains_periods : Gains 10 (map period_part.cells periods) a.now.trees c.now.trees
    gains_periods = kept_gains 10 _ a.now.trees b.now.trees c.now.trees p.others.1.1.1.1.0 q.accumulated

    gains_jobs : Gains 14 (map job_part.cells jobs) a.now.trees c.now.trees
    gains_jobs = kept_gains 14 _ a.now.trees b.now.trees c.now.trees p.others.1.1.1.1.1.1.0 q.planned

    -- Each table has the rows of its part, and no other.
    all_added : AddsOf HasOwn a.now.trees c.now.trees added
    all_added =
        let one = a.now.trees in
        let two = b.now.trees in
        let last = c.now.trees in
        record {
          schema = q.others.0 (before_rest 0 (omega arith)) ∙ p.others.0;
          own = steady one one two last added refl refl (same_tables one layout.more.tables) p.rows heads_kept versions_kept rest_kept;
          unfilled = versions_kept ∙ p.others.1.0;
          undated = q.others.1.1.1.0 (before_rest 6 (omega arith)) ∙ p.others.1.1.0;
          events = kept_gains 8 _ one two last p.others.1.1.1.0 q.events;
          periods = (map period_part.cells periods, period_rows_are added.periods.items periods of_periods, gains_periods);
          holidays = kept_gains 12 _ one two last p.others.1.1.1.1.1.0 q.holidays;
          jobs = (map job_part.cells jobs, job_rows_are added.jobs.items jobs of_jobs, gains_jobs);
        }

    -- what the layout says by itself is more by the heads, versions and details that are added
    names_more : IsMore (layout.heads c.now.trees ++ layout.own c.now.trees) (layout.heads a.now.trees ++ layout.own a.now.trees) (own_facts added)
    names_more =
        let heads = layout.steady_heads b.now.trees c.now.trees heads_kept rest_kept in
        let own = layout.steady b.now.trees c.now.trees versions_kept rest_kept in
        (λ i. of (heads i ++ own i)) ∙ p.names

  -- what follows heads, versions and details is put behind them
  pub all_put : PutsOwn layout HasOwn a b added → PutsRestThere all_under b c added periods jobs → PutsRest all_under b c added periods jobs
      → HasAddedOf layout HasOwn added a.now.trees c.now.trees
  all_put own there rest =
      let rows = all_added own rest in
      record {
        rows = rows;
        world = world_after layout HasOwn a.now.trees c.now.trees added periods jobs of_periods of_jobs
            (names_more own rest) there.said_events there.said_periods there.said_holidays there.said_jobs rows
            (gains_periods own rest) (gains_jobs own rest);
        sound = rest.sound;
      }
