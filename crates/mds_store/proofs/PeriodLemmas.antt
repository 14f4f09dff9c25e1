-- What rows of accumulations say of a World.
use Rattle.std.specs.Prelude.{◌≡◌, ◌<◌, ◌^◌, ◌+◌, ◌↔◌, ℕ, List, [], ◌∷◌, ◌++◌, length, slice_index_or, take, Option, Some, None, refl}
use Rattle.std.proofs.Common.{sym, ap, subst, inl, inr, ◌∙◌, arith, true, false, Bool}
use Rattle.std.proofs.lemmas.List.{take_more}
use Rattle.std.specs.Cmp.{IsTotalOrder, nat_cmp_total, on_total, then_total}
use Rattle.std.specs.Cmp.Lexicographic.{nat_list_cmp_total}
use Rattle.std.specs.List.{AllPairs}
use Rattle.std.specs.Ordering.{is_lt}
use Rattle.std.specs.declared.cmp.Ordering.{Ordering}
use Rattle.std.specs.declared.cmp.Ordering.TheVariants.{Less, Equal, Greater}
use Rattle.sqlite.specs.declared.types.Value.TheVariants.{Int, Null, Text}
use Rattle.sqlite_catalog.specs.Listing.{IsSound}
use Rattle.sqlite_rules.specs.Edit.{id_in}
use Rattle.sqlite_trees.specs.Tree.{Trees}
use Rattle.sqlite_value.specs.Order.{Row, bytes, column}
use Rattle.mds_names.specs.declared.stream.Stream.{Stream}
use Rattle.mds_statements.specs.Bodies.{content_of_body}
use Rattle.mds_statements.specs.declared.periods.Period.{Period}
use Rattle.mds_statements.specs.declared.periods.PeriodKey.{PeriodKey}
use Rattle.mds_world.specs.Facts.{Fact, PeriodContent}
use Rattle.mds_world.specs.Facts.Fact.{DetailIs, EventIs, HeadIs, HolidayIs, JobIs, PeriodIs, VersionIs}
use Rattle.mds_world.specs.Lists.{Member}
use Rattle.mds_keeper.specs.Queries.{ArePeriodsOf, IsContentOf, period_cmp}
use Rattle.mds_tables.specs.Cells as cells
use Rattle.mds_tables.specs.Layouts.{Layout, world_with}
use Rattle.mds_tables.specs.RowFacts.{int_at, natural, natural_at, period_fact, stream_in, text_at}
use Rattle.mds_tables.specs.Stores.{Begins, Selects}
use Rattle.mds_tables.specs.Tables.{schema_with}
use Rattle.mds_tables.proofs.Listed.{on_stream, tells, told}
use Rattle.mds_tables.proofs.Named.{of_period}
use Rattle.mds_tables.proofs.TypedRows.{begins_at, begins_by, period_row, small}
use Rattle.mds_store.specs.Periods.{ArePeriodsIn, IsOnlyContent, SaysPeriod}

-- ---- their order

period_total : IsTotalOrder period_cmp
period_total =
    then_total (on_total (λ (k : PeriodKey). k.register) nat_list_cmp_total)
    (then_total (on_total (λ (k : PeriodKey). k.start) nat_cmp_total)
    (then_total (on_total (λ (k : PeriodKey). k.finish) nat_cmp_total) (on_total (λ (k : PeriodKey). k.update) nat_cmp_total)))

-- one stands before another
abbrev pub IsBefore : Period → Period → Type 0
IsBefore a b = period_cmp a.key b.key ≡ Less

abbrev pub comes_before : Period → Period → Bool
comes_before a b = is_lt (period_cmp a.key b.key)

pub chain : (a b c : Period) → IsBefore a b → IsBefore b c → IsBefore a c
chain a b c = period_total.trans a.key b.key c.key

less_is : (o : Ordering) → is_lt o ≡ true → o ≡ Less
less_is Less h = refl
less_is Equal h = absurd (cc)
less_is Greater h = absurd (cc)

pub before_is : (a b : Period) → comes_before a b ≡ true → IsBefore a b
before_is a b = less_is (period_cmp a.key b.key)

pub not_before : (a b : Period) → comes_before a b ≡ false → IsBefore a b → ⊥
not_before a b none less = let is : comes_before a b ≡ true = ap is_lt less in cc

-- ---- lists of rows and their accumulations

one_more : (rows : List Row) (ps : List Period) (row : Row) (p : Period) → ArePeriodsIn rows ps → SaysPeriod row p
    → ArePeriodsIn (rows ++ row ∷ []) (ps ++ p ∷ [])
one_more [] [] row p are says = (says, tt)
one_more [] (q ∷ ps) row p are says = absurd are
one_more (r ∷ rows) [] row p are says = absurd are
one_more (r ∷ rows) (q ∷ ps) row p are says = (are.0, one_more rows ps row p are.1 says)

pub read_more : (rows : List Row) (i : ℕ) (row : Row) (ps new : List Period) (p : Period) → i < length rows
    → row ≡ slice_index_or rows i row → ArePeriodsIn (take i rows) ps → SaysPeriod row p → new ≡ ps ++ p ∷ []
    → ArePeriodsIn (take (i + 1) rows) new
read_more rows i row ps new p l is are says more =
    let rest : take (i + 1) rows ≡ take i rows ++ row ∷ [] =
    take_more rows i row l ∙ ap (λ x. take i rows ++ x ∷ []) (sym is) in
    subst (λ rs. ArePeriodsIn rs new) (sym rest)
    (subst (ArePeriodsIn (take i rows ++ row ∷ [])) (sym more) (one_more (take i rows) ps row p are says))

row_of : (rows : List Row) (ps : List Period) → ArePeriodsIn rows ps → (p : Period) → Member p ps
    → (row : Row) × Member row rows × SaysPeriod row p
row_of [] [] are p m = absurd m
row_of [] (q ∷ ps) are p m = absurd are
row_of (r ∷ rows) [] are p m = absurd are
row_of (r ∷ rows) (q ∷ ps) are p (inl e) = (r, inl refl, subst (SaysPeriod r) (sym e) are.0)
row_of (r ∷ rows) (q ∷ ps) are p (inr m) = let s = row_of rows ps are.1 p m in (s.0, inr s.1, s.2)

same_period : (a b : Period) → PeriodIs a.key a.content ≡ PeriodIs b.key b.content → a ≡ b
same_period a b e =
    let key : a.key ≡ b.key = cc in
    let content : a.content ≡ b.content = cc in
    λ i. record { key = key i; content = content i }

period_of : (rows : List Row) (ps : List Period) → ArePeriodsIn rows ps → (p : Period) (row : Row) → Member row rows
    → SaysPeriod row p → Member p ps
period_of [] [] are p row m says = absurd m
period_of [] (q ∷ ps) are p row m says = absurd are
period_of (r ∷ rows) [] are p row m says = absurd are
period_of (r ∷ rows) (q ∷ ps) are p row (inl e) says =
    inl (same_period p q (sym says ∙ ap (λ x. period_fact (Null ∷ x)) e ∙ are.0))
period_of (r ∷ rows) (q ∷ ps) are p row (inr m) says = inr (period_of rows ps are.1 p row m says)

-- ---- the accumulations of a stream

-- the fact is an accumulation of a stream
abbrev pub IsPeriodOf : Stream → Fact → Type 0
IsPeriodOf s (HeadIs head) = ⊥
IsPeriodOf s (VersionIs key reading) = ⊥
IsPeriodOf s (DetailIs detail) = ⊥
IsPeriodOf s (EventIs event) = ⊥
IsPeriodOf s (PeriodIs key content) = key.stream ≡ s
IsPeriodOf s (HolidayIs date) = ⊥
IsPeriodOf s (JobIs id content count) = ⊥

abbrev all_columns : List ℕ
all_columns = 1 ∷ 2 ∷ 3 ∷ 4 ∷ 5 ∷ 6 ∷ 7 ∷ []

module _ (layout : Layout) (s : Stream) (trees : Trees) (sound : IsSound (schema_with layout.more) trees) where
  period_on : (r : Row) → Member r (trees 10) → Begins (cells.stream_cells s) r ↔ IsPeriodOf s (period_fact r)
  period_on r m =
      let it = period_row layout.more trees sound r m in (
        (λ b. on_stream s r b),
        (λ e. begins_by (cells.stream_cells s) r (
          it.nmi ∙ ap (λ (x : Stream). Text x.nmi) e,
          (λ n. cc),
          (it.suffix ∙ ap (λ (x : Stream). Text x.suffix) e, (λ n. cc), tt),
        )),
      )

  pub finds_periods : (rows : List Row) → Selects 10 (cells.stream_cells s) all_columns trees rows → (periods : List Period)
      → ArePeriodsIn rows periods → AllPairs IsBefore periods → ArePeriodsOf (world_with layout trees) s periods
  finds_periods rows sel periods are up = record {
    each = λ period. (
      (λ m.
          let t = told period_fact 10 _ all_columns trees rows sel (λ r. refl) (IsPeriodOf s) period_on
          (PeriodIs period.key period.content) (row_of rows periods are period m) in
          ((of_period layout trees period.key period.content).1 t.0, t.1)),
      (λ p.
          let t = tells period_fact 10 _ all_columns trees rows sel (λ r. refl) (IsPeriodOf s) period_on
          (PeriodIs period.key period.content) ((of_period layout trees period.key period.content).0 p.0) p.1 in
          period_of rows periods are period t.0 t.1 t.2),
    );
    ascending = up;
  }

-- ---- the accumulation of a key

-- the key and the content of an accumulation's fact
abbrev key_of : PeriodKey → Fact → PeriodKey
key_of none (HeadIs head) = none
key_of none (VersionIs key reading) = none
key_of none (DetailIs detail) = none
key_of none (EventIs event) = none
key_of none (PeriodIs key content) = key
key_of none (HolidayIs date) = none
key_of none (JobIs id content count) = none

abbrev key_at : Row → PeriodKey
key_at r = record {
  stream = stream_in r;
  register = text_at r 3;
  start = natural_at r 4;
  finish = natural_at r 5;
  update = natural_at r 6;
}

key_is : (r : Row) (k : PeriodKey) (c : PeriodContent) → period_fact r ≡ PeriodIs k c → key_at r ≡ k
key_is r k c e = ap (key_of k) e

module _ (layout : Layout) (trees : Trees) (sound : IsSound (schema_with layout.more) trees) (k : PeriodKey) (start : k.start < 2 ^ 63) (finish : k.finish < 2 ^ 63)
    (update : k.update < 2 ^ 63) where
  -- a row of the key begins with its cells
  key_begins : (r : Row) → Member r (trees 10) → key_at r ≡ k → Begins (cells.period_key_cells k) r
  key_begins r m same =
      let it = period_row layout.more trees sound r m in
      begins_by (cells.period_key_cells k) r (
        it.nmi ∙ ap (λ (x : PeriodKey). Text x.stream.nmi) same,
        (λ n. cc),
        (
          it.suffix ∙ ap (λ (x : PeriodKey). Text x.stream.suffix) same,
          (λ n. cc),
          (
            it.register ∙ ap (λ (x : PeriodKey). Text x.register) same,
            (λ n. cc),
            (
              it.start ∙ ap Int (small (int_at r 4) k.start (ap (λ (x : PeriodKey). x.start) same) start),
              (λ n. cc),
              (
                it.finish ∙ ap Int (small (int_at r 5) k.finish (ap (λ (x : PeriodKey). x.finish) same) finish),
                (λ n. cc),
                (
                  it.update ∙ ap Int (small (int_at r 6) k.update (ap (λ (x : PeriodKey). x.update) same) update),
                  (λ n. cc),
                  tt,
                ),
              ),
            ),
          ),
        ),
      )

  -- and one that begins with them is of the key
  begun : (r : Row) → Begins (cells.period_key_cells k) r → key_at r ≡ k
  begun r b =
      let at = begins_at (cells.period_key_cells k) r b in
      let nmi : text_at r 1 ≡ k.stream.nmi = ap bytes (at 0 (omega arith)) in
      let suffix : text_at r 2 ≡ k.stream.suffix = ap bytes (at 1 (omega arith)) in
      let register : text_at r 3 ≡ k.register = ap bytes (at 2 (omega arith)) in
      let from : natural_at r 4 ≡ k.start = ap (λ c. natural (id_in c)) (at 3 (omega arith)) in
      let to : natural_at r 5 ≡ k.finish = ap (λ c. natural (id_in c)) (at 4 (omega arith)) in
      let as_of : natural_at r 6 ≡ k.update = ap (λ c. natural (id_in c)) (at 5 (omega arith)) in
      λ i. record {
        stream = record { nmi = nmi i; suffix = suffix i };
        register = register i;
        start = from i;
        finish = to i;
        update = as_of i;
      }

  pub finds_content : (rows : List Row) → Selects 10 (cells.period_key_cells k) (7 ∷ []) trees rows
      → (found : Option PeriodContent) → IsOnlyContent rows found → IsContentOf (world_with layout trees) k found
  finds_content rows sel None only = λ content h.
      let n = (of_period layout trees k content).0 h in
      let begins = key_begins n.0 n.1 (key_is n.0 k content n.2) in
      let shown = (sel (column n.0 7 ∷ [])).1 (n.0, n.1, begins, refl) in
      subst (Member (column n.0 7 ∷ [])) only shown
  finds_content rows sel (Some content) only =
      let row = only.0 in
      let s = (sel row).0 (subst (Member row) (sym only.1) (inl refl)) in
      let key : key_at s.0 ≡ k = begun s.0 s.2 in
      let body : text_at s.0 7 ≡ text_at row 0 = ap (λ x. bytes (column x 0)) (sym s.3) in
      let says : content_of_body (text_at s.0 7) ≡ content = ap (λ t. content_of_body t) body ∙ only.2 in
      (of_period layout trees k content).1 (s.0, s.1, λ i. PeriodIs (key i) (says i))
