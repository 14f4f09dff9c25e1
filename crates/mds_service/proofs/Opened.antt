-- Merges that are opened before anything is claimed of their days.
use Rattle.std.specs.Prelude.{◌≡◌, ℕ, ◌+◌, ◌<◌, ◌≤◌, List, [], ◌∷◌, ◌++◌, length, map, slice_index_or, take, false, cond, Option, Some, None, is_some}
use Rattle.std.proofs.Common.{sym, ap, ◌∙◌, subst, inl, inr, arith, get_or}
use Rattle.std.specs.BTreeMap.{BTreeMap, get}
use Rattle.std.proofs.Math.ListN.{set as set_at}
use Rattle.std.proofs.lemmas.Bool.{cases_lt}
use Rattle.std.proofs.lemmas.List.{map-append, take_all, take_more}
use Rattle.std.proofs.lemmas.List.Elements.{All-get_or, All-nil, All-push, All-same, All-set, All-weaker}
use Rattle.std.specs.FinSet as set
use Rattle.std.specs.List.{All}
use Rattle.std.specs.Ordering.{is_eq}
use Rattle.mds_names.specs.declared.stream.Stream.{Stream}
use Rattle.mds_world.specs.declared.facts.StreamDay.{StreamDay}
use Rattle.mds_world.specs.FactOrder.{exact, total}
use Rattle.mds_world.specs.Facts.{Fact}
use Rattle.mds_world.specs.Facts.Fact.{HeadIs, VersionIs, DetailIs, EventIs, PeriodIs, HolidayIs, JobIs}
use Rattle.mds_world.proofs.Lists.{append_left, append_right}
use Rattle.mds_world.proofs.Sets.{decided, not_in_empty, same_bool, union_empty}
use Rattle.mds_world.specs.Sets.{◌∈◌}
use Rattle.mds_world.specs.World.{Agrees, IsKnownDay, IsLawful, IsOn, World, head_over, union}
use Rattle.mds_keeper.specs.Books.{BookValue, IsDay, book_world}
use Rattle.mds_keeper.specs.DayMerges.{DayMergeValue}
use Rattle.mds_keeper.specs.Queries.{AreDaysOf}
use Rattle.mds_statements.specs.declared.blocks.DeliveredDay.{DeliveredDay}
use Rattle.mds_ranges.proofs.Ranged.{days_behind, first_is, unknown_before}
use Rattle.mds_service.proofs.DayOrder.{day_cmp, day_exact}
use Rattle.mds_service.proofs.Collect.{open_new}
use Rattle.mds_service.specs.Imports.{AreMerges, IsMergeOf, MatchMerge}
use Rattle.mds_service.specs.OpeningSteps.{AreUnknown, IsOfDates}
use Rattle.mds_service.specs.declared.opening.Stretch.{Stretch}

-- ---- stretches of dates

-- with one date more
wider : (dates : List ℕ) (date : ℕ) (s : Stretch) → IsOfDates dates s → IsOfDates (dates ++ date ∷ []) s
wider dates date s of = record { each = λ day from upto. append_left day dates (date ∷ []) (of.each day from upto); few = of.few }

all_wider : (dates : List ℕ) (date : ℕ) (xs : List Stretch) → All (IsOfDates dates) xs → All (IsOfDates (dates ++ date ∷ [])) xs
all_wider dates date xs all = All-weaker (IsOfDates dates) (IsOfDates (dates ++ date ∷ [])) (wider dates date) xs all

module _ (dates : List ℕ) (date : ℕ) (xs : List Stretch) (all : All (IsOfDates dates) xs) where
  -- of a date that comes last
  goes_on : (s : Stretch) → IsOfDates dates s → date ≡ s.last + 1 → date < s.first + 64
      → IsOfDates (dates ++ date ∷ []) (record { first = s.first; last = date })
  goes_on s of next near = record {
    each = λ day from upto. elim (cases_lt day date) [
      | inl before ↦ append_left day dates (date ∷ []) (of.each day from (omega (arith, before, next)))
      | inr late ↦
          let same : day ≡ date = omega (arith, late, upto) in
          append_right day dates (date ∷ []) (inl same)
    ];
    few = near;
  }

  module _ (i : ℕ) (s : Stretch) (is : s ≡ slice_index_or xs i s) (here : i < length xs) where
    of_dates : IsOfDates dates s
    of_dates = subst (IsOfDates dates) (sym is) (All-get_or (IsOfDates dates) xs i s here all)

    pub date_taken : date ≡ s.last + 1 → date < s.first + 64
        → All (IsOfDates (dates ++ date ∷ [])) (set_at xs i (record { first = s.first; last = date }))
    date_taken next near =
        All-set (IsOfDates (dates ++ date ∷ [])) xs i _ (goes_on s of_dates next near) (all_wider dates date xs all)

    pub date_known : All (IsOfDates (dates ++ date ∷ [])) (set_at xs i s)
    date_known = All-set (IsOfDates (dates ++ date ∷ [])) xs i s (wider dates date s of_dates) (all_wider dates date xs all)

  -- of a date by itself
  pub date_pushed : All (IsOfDates (dates ++ date ∷ [])) (xs ++ record { first = date; last = date } ∷ [])
  date_pushed = All-push (IsOfDates (dates ++ date ∷ [])) xs _ (all_wider dates date xs all) (record {
    each = λ day from upto. let same : day ≡ date = omega (arith, from, upto) in append_right day dates (date ∷ []) (inl same);
    few = omega arith;
  })

pub same_stretches : (dates : List ℕ) (xs ys : List Stretch) → xs ≡ ys → All (IsOfDates dates) ys → All (IsOfDates dates) xs
same_stretches dates xs ys e all = All-same (IsOfDates dates) xs ys e all

pub no_stretch : (dates : List ℕ) (xs : List Stretch) → xs ≡ [] → All (IsOfDates dates) xs
no_stretch dates xs e = All-same (IsOfDates dates) xs [] e (All-nil (IsOfDates dates))

abbrev dates_of : List DeliveredDay → List ℕ
dates_of days = map (λ day. day.date) days

pub dates_more : (days : List DeliveredDay) (i : ℕ) (day : DeliveredDay) (xs : List Stretch) → i < length days
    → day ≡ get_or days i day → All (IsOfDates (dates_of (take i days) ++ day.date ∷ [])) xs
    → All (IsOfDates (dates_of (take (i + 1) days))) xs
dates_more days i day xs h at all = subst (λ dates. All (IsOfDates dates) xs)
    (sym (ap dates_of (take_more days i day h ∙ ap (λ z. take i days ++ z ∷ []) (sym at))
    ∙ map-append (λ (x : DeliveredDay). x.date) (take i days) (day ∷ []))) all

pub all_dates : (days : List DeliveredDay) (i : ℕ) (xs : List Stretch) → length days ≤ i
    → All (IsOfDates (dates_of (take i days))) xs → All (IsOfDates (dates_of days)) xs
all_dates days i xs end all = subst (λ l. All (IsOfDates (dates_of l)) xs) (take_all i days end) all

-- ---- one merge

-- a day has no merge yet
unopened : (w facts : World) (s : Stream) (d : ℕ) (found : Option DayMergeValue) → is_some found ≡ false
    → MatchMerge w facts s d found → MatchMerge w facts s d None
unopened w facts s d None e m = m
unopened w facts s d (Some merge) e m = absurd (cc)

-- The merge of a day's book, of which nothing is claimed, is put where there is none. The facts are the same.
pub opened : (w facts : World) (key : StreamDay) (book : BookValue) (merge : DayMergeValue)
    (old new : BTreeMap StreamDay DayMergeValue) → (book.stream ≡ key.stream) × (book.day ≡ key.day)
    → Agrees (book_world book) → merge ≡ record { book = book; said = set.empty } → is_some (get day_cmp old key) ≡ false
    → ((q : StreamDay) → get day_cmp new q ≡ cond (is_eq (day_cmp key q)) (Some merge) (get day_cmp old q))
    → IsDay w book → AreMerges day_cmp w facts old → AreMerges day_cmp w facts new
opened w facts key book merge old new of agrees e none u is x =
    let here = open_new w facts key.stream key.day book merge
    (unopened w facts key.stream key.day (get day_cmp old key) none (x key.stream key.day)) of is e in
    let merged : IsMergeOf w facts key.stream key.day merge = record {
      stream = here.stream;
      day = here.day;
      book = here.book_is;
      said = here.told;
      agrees = subst (λ m. Agrees (union (book_world m.book) m.said)) (sym e)
          (subst Agrees (sym (union_empty total exact (book_world book))) agrees);
    } in
    λ stream day.
    let q : StreamDay = record { stream = stream; day = day } in
    subst (MatchMerge w facts stream day) (sym (u q)) (elim (decided (is_eq (day_cmp key q))) [
      | inl tied ↦
          let same : key ≡ q = day_exact.one key q tied in
          subst (λ b. MatchMerge w facts stream day (cond b (Some merge) (get day_cmp old q))) (sym tied)
          (subst (λ k. IsMergeOf w facts k.stream k.day merge) same merged)
      | inr n ↦
          let off : is_eq (day_cmp key q) ≡ false = same_bool _ _ (λ t. absurd (n t)) (λ t. cc) in
          subst (λ b. MatchMerge w facts stream day (cond b (Some merge) (get day_cmp old q))) (sym off) (x stream day)
    ])

-- ---- days of which nothing is known

-- the empty book is theirs
pub empty_is_day : (w : World) (s : Stream) (first end day : ℕ) (book : BookValue)
    → (book.stream ≡ s) × (book.day ≡ day) × (book_world book ≡ set.empty) → first ≤ day → day < end
    → AreUnknown w s first end → IsDay w book
empty_is_day w s first end day book of low high unknown = record {
  whole = λ f on h. absurd (unknown day low high f
      (subst (λ t. IsOn t day f) of.0 (subst (λ d. IsOn book.stream d f) of.1 on)) h);
  only = λ f h. absurd (not_in_empty total exact f (subst (λ u. f ∈ u) of.2 h));
}

-- a day that has a head or a version is known
known_on : (w : World) (s : Stream) (day : ℕ) → IsLawful w → (f : Fact) → IsOn s day f → f ∈ w → IsKnownDay w s day
known_on w s day lawful (HeadIs head) on h = (head, h, on.0, on.1)
known_on w s day lawful (VersionIs key reading) on h =
    let its = lawful.closed.headed key reading h in (head_over key its.0, its.1, on.0, on.1)
known_on w s day lawful (DetailIs detail) on h = absurd on
known_on w s day lawful (EventIs event) on h = absurd on
known_on w s day lawful (PeriodIs key content) on h = absurd on
known_on w s day lawful (HolidayIs date) on h = absurd on
known_on w s day lawful (JobIs id content count) on h = absurd on

-- ---- the walk over the known days

-- nothing is known of the days before the first of them
pub unknown_front : (w : World) (s : Stream) (from last day : ℕ) (left later : List BookValue) (book : BookValue)
    → left ≡ book ∷ later → day ≡ book.day → IsLawful w → AreDaysOf w s from last left → AreUnknown w s from day
unknown_front w s from last day left later book e same lawful are = λ d low high f on h.
    unknown_before w s from last book later (subst (AreDaysOf w s from last) e are) d low (subst (λ n. d < n) same high)
    (known_on w s d lawful f on h)

-- nor of those behind the last of them
pub unknown_end : (w : World) (s : Stream) (from last end : ℕ) (left : List BookValue) → left ≡ [] → end ≡ last → IsLawful w
    → AreDaysOf w s from last left → AreUnknown w s from (end + 1)
unknown_end w s from last end left e same lawful are = λ d low high f on h.
    let none : AreDaysOf w s from last [] = subst (AreDaysOf w s from last) e are in
    (none.known d).1 (low, omega (arith, high, same), known_on w s d lawful f on h)

-- the first of them is of its day
pub front_is : (w : World) (s : Stream) (from last : ℕ) (left later : List BookValue) (book : BookValue)
    → left ≡ book ∷ later → AreDaysOf w s from last left → IsDay w book
front_is w s from last left later book e are = (first_is w s from last book later (subst (AreDaysOf w s from last) e are)).1

-- the others are the known days from the next day on
pub front_off : (w : World) (s : Stream) (from last day : ℕ) (left later : List BookValue) (book : BookValue)
    → left ≡ book ∷ later → day ≡ book.day → AreDaysOf w s from last left → AreDaysOf w s (day + 1) last later
front_off w s from last day left later book e same are =
    subst (λ n. AreDaysOf w s (n + 1) last later) (sym same)
    (days_behind w s from last book later (subst (AreDaysOf w s from last) e are))
