-- The facts of a World that rows name, kind by kind.
use Rattle.std.specs.Prelude.{◌≡◌, ◌↔◌, ℕ, List, ◌++◌, map, refl}
use Rattle.std.proofs.Common.{sym, subst, inl, inr}
use Rattle.sqlite_trees.specs.Tree.{Trees}
use Rattle.sqlite_value.specs.Order.{Row}
use Rattle.mds_marks.specs.Reading.{ReadingValue}
use Rattle.mds_terms.specs.Event.{EventValue}
use Rattle.mds_world.specs.declared.facts.Detail.{Detail}
use Rattle.mds_world.specs.declared.facts.Head.{Head}
use Rattle.mds_world.specs.declared.facts.Key.{Key}
use Rattle.mds_world.specs.Facts.{Fact, JobContent, PeriodContent}
use Rattle.mds_statements.specs.declared.periods.PeriodKey.{PeriodKey}
use Rattle.mds_world.specs.Facts.Fact.{DetailIs, EventIs, HeadIs, HolidayIs, JobIs, PeriodIs, VersionIs}
use Rattle.mds_world.proofs.Lists.{append_left, append_right, in_map, map_in, member_append}
use Rattle.mds_world.specs.Lists.{Member}
use Rattle.mds_world.proofs.Members.{in_list, list_in}
use Rattle.mds_world.specs.Sets.{◌∈◌}
use Rattle.mds_tables.specs.Layouts.{IsHead, IsOwn, Layout, world_with}
use Rattle.mds_tables.specs.RowFacts.{event_fact, facts_with, head_fact, heads_in, holiday_fact, job_fact, period_fact}

-- one of the rows of a tree names the fact
abbrev pub Names : (Row → Fact) → List Row → Fact → Type 0
Names read rows f = (row : Row) × Member row rows × (read row ≡ f)

names : (read : Row → Fact) (rows : List Row) (f : Fact) → Names read rows f → Member f (map read rows)
names read rows f n = subst (λ g. Member g (map read rows)) n.2 (map_in read rows n.0 n.1)

named : (read : Row → Fact) (rows : List Row) (f : Fact) → Member f (map read rows) → Names read rows f
named read rows f m = let r = in_map read rows f m in (r.0, r.1, sym r.2)

-- a row of the table of its kind names the fact, and heads, versions and details are those of the layout
abbrev IsNamed : Layout → Trees → Fact → Type 0
IsNamed layout trees (HeadIs head) = Member (HeadIs head) (layout.heads trees)
IsNamed layout trees (VersionIs key reading) = Member (VersionIs key reading) (layout.own trees)
IsNamed layout trees (DetailIs detail) = Member (DetailIs detail) (layout.own trees)
IsNamed layout trees (EventIs event) = Names event_fact (trees 8) (EventIs event)
IsNamed layout trees (PeriodIs key content) = Names period_fact (trees 10) (PeriodIs key content)
IsNamed layout trees (HolidayIs day) = Names holiday_fact (trees 12) (HolidayIs day)
IsNamed layout trees (JobIs id content count) = Names job_fact (trees 14) (JobIs id content count)

-- What holds of the fact of each row holds of each fact of the rows.
of_rows : (P : Fact → Type 0) (read : Row → Fact) (rows : List Row) → ((row : Row) → Member row rows → P (read row))
    → (f : Fact) → Member f (map read rows) → P f
of_rows P read rows each f m = let r = in_map read rows f m in subst P (sym r.2) (each r.0 r.1)

module _ (layout : Layout) (trees : Trees) where
  head_named : (f : Fact) → IsHead f → Member f (layout.heads trees) → IsNamed layout trees f
  head_named (HeadIs head) is m = m
  head_named (VersionIs key reading) is m = absurd is
  head_named (DetailIs detail) is m = absurd is
  head_named (EventIs event) is m = absurd is
  head_named (PeriodIs key content) is m = absurd is
  head_named (HolidayIs day) is m = absurd is
  head_named (JobIs id content count) is m = absurd is

  own_named : (f : Fact) → IsOwn f → Member f (layout.own trees) → IsNamed layout trees f
  own_named (HeadIs head) is m = absurd is
  own_named (VersionIs key reading) is m = m
  own_named (DetailIs detail) is m = m
  own_named (EventIs event) is m = absurd is
  own_named (PeriodIs key content) is m = absurd is
  own_named (HolidayIs day) is m = absurd is
  own_named (JobIs id content count) is m = absurd is

  abbrev heads : List Fact
  heads = layout.heads trees

  abbrev own : List Fact
  own = layout.own trees

  abbrev events : List Fact
  events = map event_fact (trees 8)

  abbrev periods : List Fact
  periods = map period_fact (trees 10)

  abbrev holidays : List Fact
  holidays = map holiday_fact (trees 12)

  abbrev jobs : List Fact
  jobs = map job_fact (trees 14)

  -- the facts of the first tables, one table more each
  abbrev two : List Fact
  two = heads ++ own

  abbrev three : List Fact
  three = two ++ events

  abbrev four : List Fact
  four = three ++ periods

  abbrev five : List Fact
  five = four ++ holidays

  is_named : (f : Fact) → Member f (facts_with layout.heads layout.own trees) → IsNamed layout trees f
  is_named f m = elim (member_append f five jobs m) [
    | inr a ↦ of_rows (IsNamed layout trees) job_fact (trees 14) (λ r n. (r, n, refl)) f a
    | inl m ↦ elim (member_append f four holidays m) [
      | inr a ↦ of_rows (IsNamed layout trees) holiday_fact (trees 12) (λ r n. (r, n, refl)) f a
      | inl m ↦ elim (member_append f three periods m) [
        | inr a ↦ of_rows (IsNamed layout trees) period_fact (trees 10) (λ r n. (r, n, refl)) f a
        | inl m ↦ elim (member_append f two events m) [
          | inr a ↦ of_rows (IsNamed layout trees) event_fact (trees 8) (λ r n. (r, n, refl)) f a
          | inl m ↦ elim (member_append f heads own m) [
            | inl a ↦ head_named f (layout.only_heads trees f a) a
            | inr a ↦ own_named f (layout.only trees f a) a
          ]
        ]
      ]
    ]
  ]

  -- what the first three tables name, all of them name
  of_three : (f : Fact) → Member f three → Member f (facts_with layout.heads layout.own trees)
  of_three f m = append_left f five jobs (append_left f four holidays (append_left f three periods m))

  of_two : (f : Fact) → Member f two → Member f (facts_with layout.heads layout.own trees)
  of_two f m = of_three f (append_left f two events m)

  -- what the layout says of heads is of the World
  pub in_heads : (f : Fact) → Member f (layout.heads trees) → f ∈ world_with layout trees
  in_heads f m = list_in (facts_with layout.heads layout.own trees) f (of_two f (append_left f heads own m))

  pub of_head : (h : Head) → (HeadIs h ∈ world_with layout trees) ↔ Member (HeadIs h) (layout.heads trees)
  of_head h = (
    (λ m. is_named (HeadIs h) (in_list _ _ m)),
    in_heads (HeadIs h),
  )

  -- where each row of mds_head says a head, one of them names it
  pub of_head_row : layout.heads trees ≡ heads_in trees → (h : Head)
      → (HeadIs h ∈ world_with layout trees) ↔ Names head_fact (trees 2) (HeadIs h)
  of_head_row rows h = (
    (λ m. named head_fact (trees 2) (HeadIs h) (subst (Member (HeadIs h)) rows ((of_head h).0 m))),
    (λ n. in_heads (HeadIs h) (subst (Member (HeadIs h)) (sym rows) (names head_fact (trees 2) (HeadIs h) n))),
  )

  -- what the layout says of versions and details is of the World
  pub in_versions : (f : Fact) → Member f (layout.own trees) → f ∈ world_with layout trees
  in_versions f m = list_in (facts_with layout.heads layout.own trees) f (of_two f (append_right f heads own m))

  pub of_version : (k : Key) (v : ReadingValue) → (VersionIs k v ∈ world_with layout trees) ↔ Member (VersionIs k v) (layout.own trees)
  of_version k v = (
    (λ m. is_named (VersionIs k v) (in_list _ _ m)),
    in_versions (VersionIs k v),
  )

  pub of_detail : (d : Detail) → (DetailIs d ∈ world_with layout trees) ↔ Member (DetailIs d) (layout.own trees)
  of_detail d = (
    (λ m. is_named (DetailIs d) (in_list _ _ m)),
    in_versions (DetailIs d),
  )

  pub of_event : (v : EventValue) → (EventIs v ∈ world_with layout trees) ↔ Names event_fact (trees 8) (EventIs v)
  of_event v = (
    (λ m. is_named (EventIs v) (in_list _ _ m)),
    (λ n. list_in (facts_with layout.heads layout.own trees) (EventIs v) (of_three (EventIs v) (append_right (EventIs v) two events
        (names event_fact (trees 8) _ n)))),
  )

  pub of_period : (k : PeriodKey) (c : PeriodContent)
      → (PeriodIs k c ∈ world_with layout trees) ↔ Names period_fact (trees 10) (PeriodIs k c)
  of_period k c = (
    (λ m. is_named (PeriodIs k c) (in_list _ _ m)),
    (λ n. list_in (facts_with layout.heads layout.own trees) (PeriodIs k c) (append_left (PeriodIs k c) five jobs (append_left (PeriodIs k c) four holidays
        (append_right (PeriodIs k c) three periods (names period_fact (trees 10) _ n))))),
  )

  pub of_holiday : (day : ℕ) → (HolidayIs day ∈ world_with layout trees) ↔ Names holiday_fact (trees 12) (HolidayIs day)
  of_holiday day = (
    (λ m. is_named (HolidayIs day) (in_list _ _ m)),
    (λ n. list_in (facts_with layout.heads layout.own trees) (HolidayIs day) (append_left (HolidayIs day) five jobs
        (append_right (HolidayIs day) four holidays (names holiday_fact (trees 12) _ n)))),
  )

  pub of_job : (id : List ℕ) (c : JobContent) (count : ℕ)
      → (JobIs id c count ∈ world_with layout trees) ↔ Names job_fact (trees 14) (JobIs id c count)
  of_job id c count = (
    (λ m. is_named (JobIs id c count) (in_list _ _ m)),
    (λ n. list_in (facts_with layout.heads layout.own trees) (JobIs id c count) (append_right (JobIs id c count) five jobs
        (names job_fact (trees 14) _ n))),
  )
