-- What the tests of a selection tell: that it is orderly.
use Rattle.std.proofs.Common.{◌≡◌, ◌↔◌, ◌<◌, ◌≤◌, suc, Bool, true, ltb, List, [], ◌∷◌, ◌++◌, length, get_or, Option, Some, None, IfSome, IsTrue, refl, sym, ◌∙◌, ap, arith}
use Rattle.std.specs.Cmp.{IsTotalOrder, on_total, then_total}
use Rattle.std.specs.Cmp.Lexicographic.{nat_list_cmp_total}
use Rattle.std.specs.List.{All, AllPairs}
use Rattle.std.specs.Ordering.{is_lt}
use Rattle.std.specs.declared.cmp.Ordering.{Ordering}
use Rattle.std.specs.declared.cmp.Ordering.TheVariants.{Less, Equal, Greater}
use Rattle.std.proofs.lemmas.Bool.{and_from, and_parts, eq-eqb, eqb-true, lt-ltb, ltb-true}
use Rattle.std.proofs.lemmas.List.Elements.{All-append, All-cons, All-head, All-nil, All-tail}
use Rattle.std.proofs.lemmas.List.Kept.{AllPairs-cons}
use Rattle.mds_calendar.specs.Length.{count_of}
use Rattle.mds_statements.specs.Selected.{AreOrderly, IsWhole, days_of, most_days, stream_cmp}
use Rattle.mds_statements.specs.SelectedSteps.{day_follows, days_follow, has_all, is_after, stream_follows, streams_follow}
use Rattle.mds_statements.specs.declared.selected.SelectedDay.{SelectedDay}
use Rattle.mds_statements.specs.declared.selected.SelectedStream.{SelectedStream}

stream_total : IsTotalOrder stream_cmp
stream_total = then_total (on_total (λ s. s.nmi) nat_list_cmp_total) (on_total (λ s. s.suffix) nat_list_cmp_total)

-- what holds of each of two lists together holds of each of both
pub All-split : {T : Type 0} (P : T → Type 0) (xs ys : List T) → All P (xs ++ ys) → All P xs × All P ys
All-split P [] ys h = (All-nil P, h)
All-split P (x ∷ xs) ys h =
    let later = All-split P xs ys (All-tail P x (xs ++ ys) h) in
    (All-cons P x xs (All-head P x (xs ++ ys) h) later.0, later.1)

less : (o : Ordering) → is_lt o ≡ true → o ≡ Less
less Less e = refl
less Equal e = absurd (cc)
less Greater e = absurd (cc)

-- ---- days

-- a day comes after the last one, if there is one
abbrev ComesAfter : Option SelectedDay → SelectedDay → Type 0
ComesAfter last day = IfSome last (λ before. before.date < day.date)

abbrev Ascend : List SelectedDay → Type 0
Ascend days = AllPairs (λ a b. a.date < b.date) days

day_parts : (last : Option SelectedDay) (day : SelectedDay) → day_follows last day ≡ true → ComesAfter last day × IsWhole day
day_parts None day e = (tt, eqb-true (length day.readings) (count_of day.length) e)
day_parts (Some before) day e =
    let parts = and_parts (ltb before.date day.date) (has_all day) e in
    (ltb-true before.date day.date parts.0, eqb-true (length day.readings) (count_of day.length) parts.1)

day_from : (last : Option SelectedDay) (day : SelectedDay) → ComesAfter last day → IsWhole day → day_follows last day ≡ true
day_from None day after whole = eq-eqb (length day.readings) (count_of day.length) whole
day_from (Some before) day after whole =
    and_from (ltb before.date day.date) (has_all day) (lt-ltb before.date day.date after)
    (eq-eqb (length day.readings) (count_of day.length) whole)

-- what comes after a day comes after those before it
later_day : (last : Option SelectedDay) (day next : SelectedDay) → ComesAfter last day → day.date < next.date → ComesAfter last next
later_day None day next after lt = tt
later_day (Some before) day next after lt = omega arith

days_parts : (last : Option SelectedDay) (days : List SelectedDay) → days_follow last days ≡ true
    → All (ComesAfter last) days × Ascend days × All IsWhole days
days_parts last [] e = (All-nil (ComesAfter last), λ i j d lt size. absurd (omega arith), All-nil IsWhole)
days_parts last (day ∷ days) e =
    let parts = and_parts (day_follows last day) (days_follow (Some day) days) e in
    let here = day_parts last day parts.0 in
    let later = days_parts (Some day) days parts.1 in (
      All-cons (ComesAfter last) day days here.0 (λ k d within. later_day last day (get_or days k d) here.0 (later.0 k d within)),
      AllPairs-cons (λ a b. a.date < b.date) day days later.0 later.1,
      All-cons IsWhole day days here.1 later.2,
    )

days_from : (last : Option SelectedDay) (days : List SelectedDay) → All (ComesAfter last) days → Ascend days → All IsWhole days
    → days_follow last days ≡ true
days_from last [] after ascend whole = refl
days_from last (day ∷ days) after ascend whole =
    and_from (day_follows last day) (days_follow (Some day) days)
    (day_from last day (All-head (ComesAfter last) day days after) (All-head IsWhole day days whole))
    (days_from (Some day) days (λ k d within. ascend 0 (suc k) d (omega arith) (omega arith))
    (λ i j d lt within. ascend (suc i) (suc j) d (omega arith) (omega arith)) (All-tail IsWhole day days whole))

-- ---- streams

-- a stream comes after the last one, if there is one
abbrev IsNext : Option SelectedStream → SelectedStream → Type 0
IsNext last selected = IfSome last (λ before. stream_cmp before.stream selected.stream ≡ Less)

abbrev Follow : List SelectedStream → Type 0
Follow streams = AllPairs (λ a b. stream_cmp a.stream b.stream ≡ Less) streams

abbrev HasAscending : SelectedStream → Type 0
HasAscending selected = Ascend selected.days.items

after_parts : (last : Option SelectedStream) (selected : SelectedStream) → is_after last selected ≡ true → IsNext last selected
after_parts None selected e = tt
after_parts (Some before) selected e = less (stream_cmp before.stream selected.stream) e

after_from : (last : Option SelectedStream) (selected : SelectedStream) → IsNext last selected → is_after last selected ≡ true
after_from None selected h = refl
after_from (Some before) selected h = ap is_lt h

later_stream : (last : Option SelectedStream) (selected next : SelectedStream) → IsNext last selected
    → stream_cmp selected.stream next.stream ≡ Less → IsNext last next
later_stream None selected next after lt = tt
later_stream (Some before) selected next after lt =
    stream_total.trans before.stream selected.stream next.stream after lt

streams_parts : (last : Option SelectedStream) (streams : List SelectedStream) → streams_follow last streams ≡ true
    → All (IsNext last) streams × Follow streams × All HasAscending streams × All IsWhole (days_of streams)
streams_parts last [] e =
    (All-nil (IsNext last), λ i j d lt size. absurd (omega arith), All-nil HasAscending, All-nil IsWhole)
streams_parts last (selected ∷ streams) e =
    let parts = and_parts (stream_follows last selected) (streams_follow (Some selected) streams) e in
    let own = and_parts (is_after last selected) (days_follow None selected.days.items) parts.0 in
    let here = after_parts last selected own.0 in
    let days = days_parts None selected.days.items own.1 in
    let later = streams_parts (Some selected) streams parts.1 in (
      All-cons (IsNext last) selected streams here (λ k d within. later_stream last selected (get_or streams k d) here (later.0 k d within)),
      AllPairs-cons (λ a b. stream_cmp a.stream b.stream ≡ Less) selected streams later.0 later.1,
      All-cons HasAscending selected streams days.1 later.2,
      All-append IsWhole selected.days.items (days_of streams) days.2 later.3,
    )

streams_from : (last : Option SelectedStream) (streams : List SelectedStream) → All (IsNext last) streams → Follow streams
    → All HasAscending streams → All IsWhole (days_of streams) → streams_follow last streams ≡ true
streams_from last [] after follow ascend whole = refl
streams_from last (selected ∷ streams) after follow ascend whole =
    let days = All-split IsWhole selected.days.items (days_of streams) whole in
    and_from (stream_follows last selected) (streams_follow (Some selected) streams)
    (and_from (is_after last selected) (days_follow None selected.days.items)
    (after_from last selected (All-head (IsNext last) selected streams after))
    (days_from None selected.days.items (λ k d within. tt) (All-head HasAscending selected streams ascend) days.0))
    (streams_from (Some selected) streams (λ k d within. follow 0 (suc k) d (omega arith) (omega arith))
    (λ i j d lt within. follow (suc i) (suc j) d (omega arith) (omega arith))
    (All-tail HasAscending selected streams ascend) days.1)

-- the tests pass just where streams are orderly
pub orderly_tested : (streams : List SelectedStream) (passed : Bool) → length (days_of streams) ≤ most_days
    → streams_follow None streams ≡ passed → IsTrue passed ↔ AreOrderly streams
orderly_tested streams passed few same = (
  λ e. let parts = streams_parts None streams (same ∙ e) in
      record { ascending = parts.1; dates = parts.2; whole = parts.3; few = few },
  λ h. sym same ∙ streams_from None streams (λ k d within. tt) h.ascending h.dates h.whole,
)
