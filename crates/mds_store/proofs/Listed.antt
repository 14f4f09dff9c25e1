-- What rows that a query shows say of a World.
use Rattle.std.specs.Prelude.{◌≡◌, ◌≢◌, ◌<◌, ℕ, List, [], ◌∷◌, slice_index_or, Option, Some, None, codes, refl, true}
use Rattle.std.proofs.Common.{sym, ap, subst, inl, ◌∙◌, arith}
use Rattle.std.specs.List.{AllPairs}
use Rattle.std.specs.FinSet.{IsAntisymmetric, nat_cmp-IsAntisymmetric}
use Rattle.std.specs.Ordering.{nat_cmp}
use Rattle.std.specs.declared.cmp.Ordering.TheVariants.{Less}
use Rattle.std.proofs.lemmas.Cmp.{ranked}
use Rattle.sqlite.specs.declared.types.Value.TheVariants.{Text}
use Rattle.sqlite_catalog.specs.Listing.{IsSound}
use Rattle.sqlite_rules.specs.Edit.{id_in}
use Rattle.sqlite_schema.specs.declared.schema.Constraint.TheVariants.{Datatype, NotNull}
use Rattle.sqlite_schema.specs.Rules.{passes}
use Rattle.sqlite_trees.specs.Tree.{Trees}
use Rattle.sqlite_value.specs.Order.{Row, bytes, column}
use Rattle.mds_jobs.specs.Bodies.{job_in, parts_of}
use Rattle.mds_jobs.specs.Jobs.{content_of}
use Rattle.mds_jobs.specs.declared.job.Job.{Job}
use Rattle.mds_world.specs.Facts.{Fact, JobContent}
use Rattle.mds_world.specs.Facts.Fact.{DetailIs, EventIs, HeadIs, HolidayIs, JobIs, PeriodIs, VersionIs}
use Rattle.mds_world.specs.Lists.{Member}
use Rattle.mds_world.specs.Sets.{◌∈◌}
use Rattle.mds_keeper.specs.Queries.{AreHolidays, IsJobOf}
use Rattle.mds_tables.specs.Layouts.{Layout, world_with}
use Rattle.mds_tables.specs.RowFacts.{holiday_fact, natural, natural_at, text_at}
use Rattle.mds_tables.specs.Stores.{Begins, Selects}
use Rattle.mds_tables.specs.Tables.{job_table, schema_with}
use Rattle.mds_tables.proofs.Listed.{tells, told}
use Rattle.mds_tables.proofs.MemberLemmas.{all_has}
use Rattle.mds_tables.proofs.Named.{of_holiday, of_job}
use Rattle.mds_tables.proofs.TypedRows.{begins_at, begins_by, text_typed}
use Rattle.mds_store.specs.Said.{AreHolidaysIn, IsOnlyJob, SaysHoliday, SaysJob}

pub day_exact : IsAntisymmetric nat_cmp
day_exact = nat_cmp-IsAntisymmetric

-- days in their order ascend
pub rising : (days : List ℕ) → AllPairs (λ a b. nat_cmp a b ≡ Less) days → AllPairs (λ a b. a < b) days
rising days up i j d l m = ranked (slice_index_or days i d) (slice_index_or days j d) Less (sym (up i j d l m))

-- a row says one holiday
pub one_holiday : (row : Row) (a b : ℕ) → SaysHoliday row a → SaysHoliday row b → a ≡ b
one_holiday row a b p q = let same : HolidayIs a ≡ HolidayIs b = sym p ∙ q in cc

module _ (layout : Layout) (trees : Trees) where
  -- the listed holidays
  pub finds_holidays : (rows : List Row) → Selects 12 [] (1 ∷ []) trees rows → (days : List ℕ) → AreHolidaysIn rows days
      → AllPairs (λ a b. a < b) days → AreHolidays (world_with layout trees) days
  finds_holidays rows sel days are up = record {
    each = λ day. (
      (λ m. (of_holiday layout trees day).1
          (told holiday_fact 12 [] (1 ∷ []) trees rows sel (λ r. refl) (λ f. Unit {0}) (λ r m. ((λ b. tt), (λ u. refl)))
          (HolidayIs day) ((are day).0 m)).0),
      (λ h. (are day).1
          (tells holiday_fact 12 [] (1 ∷ []) trees rows sel (λ r. refl) (λ f. Unit {0}) (λ r m. ((λ b. tt), (λ u. refl)))
          (HolidayIs day) ((of_holiday layout trees day).0 h) tt)),
    );
    ascending = up;
  }

  -- the id of a job
  abbrev id_of : Fact → List ℕ
  id_of (HeadIs head) = []
  id_of (VersionIs key reading) = []
  id_of (DetailIs detail) = []
  id_of (EventIs event) = []
  id_of (PeriodIs key content) = []
  id_of (HolidayIs day) = []
  id_of (JobIs id content count) = id

  module _ (sound : IsSound (schema_with layout.more) trees) (id : List ℕ) where
    -- a row of the job begins with its id
    begins_with : (r : Row) → Member r (trees 14) → text_at r 1 ≡ id → Begins (Text id ∷ []) r
    begins_with r m is =
        let fits : passes Datatype (schema_with layout.more) trees job_table r ≡ true =
        all_has _ (trees 14) r (sound.obeys.rules Datatype).1.1.1.1.1.1.1.0 m in
        let there : passes NotNull (schema_with layout.more) trees job_table r ≡ true =
        all_has _ (trees 14) r (sound.obeys.rules NotNull).1.1.1.1.1.1.1.0 m in
        let typed = text_typed layout.more job_table.name 14 job_table.columns (1 ∷ []) (1 ∷ []) [] (codes "id") trees r 0 refl fits there in
        begins_by (Text id ∷ []) r (typed ∙ ap Text is, (λ n. cc), tt)

    module _ (rows : List Row) (sel : Selects 14 (Text id ∷ []) (2 ∷ 3 ∷ []) trees rows) where
      -- a job of the id has a row
      shown_for : (content : JobContent) (count : ℕ) → JobIs id content count ∈ world_with layout trees → rows ≢ []
      shown_for content count h none =
          let n = (of_job layout trees id content count).0 h in
          let is : text_at n.0 1 ≡ id = ap id_of n.2 in
          let shown = (sel (column n.0 2 ∷ column n.0 3 ∷ [])).1 (n.0, n.1, begins_with n.0 n.1 is, refl) in
          subst (Member (column n.0 2 ∷ column n.0 3 ∷ [])) none shown

      -- the row is that of a job
      said_by : (row : Row) → Member row rows → (kept : Job × ℕ) → SaysJob id row kept
          → JobIs id (content_of kept.0) kept.1 ∈ world_with layout trees
      said_by row m kept says =
          let s = (sel row).0 m in
          let r = s.0 in
          let named : text_at r 1 ≡ id = ap bytes (begins_at (Text id ∷ []) r s.2 0 (omega arith)) in
          let body : text_at r 2 ≡ text_at row 0 = ap (λ x. bytes (column x 0)) (sym s.3) in
          let number : natural_at r 3 ≡ natural_at row 1 = ap (λ x. natural (id_in (column x 1))) (sym s.3) in
          let content : job_in (parts_of (text_at r 2)) ≡ content_of kept.0 =
          ap (λ t. job_in (parts_of t)) body ∙ sym says.content in
          let count : natural_at r 3 ≡ kept.1 = number ∙ says.count in
          (of_job layout trees id (content_of kept.0) kept.1).1 (r, s.1, λ i. JobIs (named i) (content i) (count i))

    -- the job of an id
    pub finds_job : (rows : List Row) → Selects 14 (Text id ∷ []) (2 ∷ 3 ∷ []) trees rows → (found : Option (Job × ℕ))
        → IsOnlyJob id rows found → IsJobOf (world_with layout trees) id found
    finds_job rows sel None only = λ content count h. shown_for rows sel content count h only
    finds_job rows sel (Some kept) only =
        (only.2.named, said_by rows sel only.0 (subst (Member only.0) (sym only.1) (inl refl)) kept only.2)
