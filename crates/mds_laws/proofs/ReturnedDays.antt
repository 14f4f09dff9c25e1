-- What an export of a lawful World states comes back to it.
use Rattle.std.specs.Prelude.{◌≡◌, ◌<◌, ◌≤◌, ℕ, ◌+◌, List, length, get_or, slice_get, Some}
use Rattle.std.proofs.Common.{sym, ap, ◌∙◌, subst, arith, zero, suc}
use Rattle.std.proofs.lemmas.Option.{slice_get-get_or, slice_get_within}
use Rattle.mds_calendar.specs.Length.{count_of}
use Rattle.mds_names.specs.declared.stream.Stream.{Stream}
use Rattle.mds_marks.specs.Reading.{ReadingValue}
use Rattle.mds_statements.specs.Statements.{HeaderValue}
use Rattle.mds_world.specs.declared.facts.Detail.{Detail}
use Rattle.mds_world.specs.declared.facts.Head.{Head}
use Rattle.mds_world.specs.declared.facts.Key.{Key}
use Rattle.mds_world.specs.Current.{HasSameDetails, IsCurrentDetails, IsForm, IsReading, no_reading}
use Rattle.mds_world.specs.Facts.Fact.{HeadIs, VersionIs}
use Rattle.mds_world.proofs.Lists.{in_map, map_in}
use Rattle.mds_world.specs.Lists.{Member}
use Rattle.mds_world.proofs.Returned.{details_alone, details_beside}
use Rattle.mds_world.specs.Sets.{◌∈◌}
use Rattle.mds_world.specs.Stated.{stated}
use Rattle.mds_world.specs.World.{HasHead, IsKnownDay, IsLawful, World, head_over, key_under}
use Rattle.mds_export.specs.Shows.{selection_stated}
use Rattle.mds_statements.specs.declared.selected.SelectedDay.{SelectedDay}
use Rattle.mds_statements.specs.declared.selected.SelectedStream.{SelectedStream}
use Rattle.mds_ranges.proofs.Pairs.{all_member}
use Rattle.mds_ranges.specs.Selections.{IsSelectedDay, IsSelectedStream, IsSelection}
use Rattle.mds_laws.proofs.ReturnedCounts.{intervals_counted}
use Rattle.mds_laws.proofs.ReturnedFacts.{IsChosen, detail_of, detail_stated, detail_whence, head_of, head_stated, head_whence, key_of, no_period, version_stated, version_whence}
use Rattle.mds_laws.proofs.ReturnedReadings.{ComesFrom, agrees_alone, agrees_home, form_by_latest, same_day_alone, same_day_home, shown_by_form}
use Rattle.mds_laws.specs.Returns.{IsAskedFor, IsSameDay}
use Rattle.mds_laws.proofs.ReturnedWorlds.{ComesBackAlone, ComesBackHome}

module _ (w : World) (nmi : List ℕ) (suffixes : List (List ℕ)) (first last : ℕ) (header : HeaderValue)
    (streams : List SelectedStream) (lawful : IsLawful w) (is : IsSelection w nmi suffixes first last streams) where
  -- each stream is selected
  stream_is : (selected : SelectedStream) → Member selected streams → IsSelectedStream w first last selected
  stream_is selected m = all_member (IsSelectedStream w first last) streams selected is.each m

  -- and so is each of its days
  day_is : (selected : SelectedStream) (day : SelectedDay) → IsChosen streams selected day
      → IsSelectedDay w selected.stream day
  day_is selected day chosen =
      all_member (IsSelectedDay w selected.stream) selected.days.items day (stream_is selected chosen.0).each chosen.1

  -- a version of a day that is selected is of one of its intervals
  headed : (key : Key) (reading : ReadingValue) → VersionIs key reading ∈ stated (selection_stated header streams)
      → HasHead (stated (selection_stated header streams)) key
  headed key reading h =
      let v = version_whence header streams key reading h in
      let selected : SelectedStream = v.0 in
      let day : SelectedDay = v.1 in
      let k : ℕ = v.2 in
      let chosen : IsChosen streams selected day = v.3 in
      let same : key ≡ key_of selected day (k + 1) = v.5 in
      let at : key.interval ≡ k + 1 = ap (λ (x : Key). x.interval) same in
      let within = slice_get_within day.readings k reading v.4 in
      let size = (day_is selected day chosen).readings.count_is in
      let high : key.interval ≤ count_of day.length = omega (arith, at, within, size) in (
        day.unit,
        subst (λ (x : Key). HeadIs (head_over x day.unit) ∈ stated (selection_stated header streams)) (sym same)
            (head_stated header streams selected day chosen),
        omega (arith, at),
        subst (λ (x : Key). key.interval ≤ count_of x.length) (sym same) high,
      )

  -- the head of a day that is selected decides its form
  form_of : (selected : SelectedStream) (day : SelectedDay) → IsChosen streams selected day
      → IsForm w selected.stream day.date (head_of selected day)
  form_of selected day chosen =
      let d = day_is selected day chosen in
      form_by_latest w selected.stream day.date day.update day.length day.unit lawful d.form d.update

  -- a reading of a day that is selected is one of the day's current length
  reading_there : (selected : SelectedStream) (day : SelectedDay) → IsChosen streams selected day → (k : ℕ)
      (reading : ReadingValue) → slice_get day.readings k ≡ Some reading
      → IsReading w selected.stream day.date day.length (k + 1) reading
  reading_there selected day chosen k reading at =
      let d = day_is selected day chosen in
      shown_by_form w selected.stream day.date day.length (k + 1) day.unit reading lawful.agrees d.form
      (d.readings.each k reading at)

  -- each interval of a day that is selected has a version under its head
  whole : (selected : SelectedStream) (day : SelectedDay) → IsChosen streams selected day → (interval : ℕ)
      → 1 ≤ interval → interval ≤ count_of day.length
      → (reading : ReadingValue)
      × (VersionIs (key_under (head_of selected day) interval) reading ∈ stated (selection_stated header streams))
  whole selected day chosen zero low high = absurd (omega (arith, low))
  whole selected day chosen (suc k) low high =
      let size = (day_is selected day chosen).readings.count_is in
      let less : k < length day.readings = omega (arith, high, size) in
      let reading : ReadingValue = get_or day.readings k no_reading in
      let at = slice_get-get_or day.readings k no_reading less in
      let z : k + 1 ≡ suc k = omega arith in (
        reading,
        subst (λ n. VersionIs (key_of selected day n) reading ∈ stated (selection_stated header streams)) z
            (version_stated header streams selected day chosen k reading at),
      )

  -- what is stated comes from the World
  comes_from : ComesFrom w (stated (selection_stated header streams))
  comes_from = record {
    forms = λ head h.
        let v = head_whence header streams head h in
        subst (λ (x : Head). IsForm w x.stream x.day x) (sym v.3) (form_of v.0 v.1 v.2);
    readings = λ key reading h.
        let v = version_whence header streams key reading h in
        subst (λ (x : Key). IsReading w x.stream x.day x.length x.interval reading) (sym v.5)
        (reading_there v.0 v.1 v.3 v.2 reading v.4);
    headed = headed;
    whole = λ head interval h low high.
        let v = head_whence header streams head h in
        subst (λ (x : Head). (reading : ReadingValue)
        × (VersionIs (key_under x interval) reading ∈ stated (selection_stated header streams)))
        (sym v.3)
        (whole v.0 v.1 v.2 interval low (subst (λ (x : Head). interval ≤ count_of x.length) v.3 high));
    details = λ detail h.
        let v = detail_whence header streams detail h in
        subst (λ (x : Detail). IsCurrentDetails w x.stream x.day x.details) (sym v.3) (day_is v.0 v.1 v.2).details;
    periods = no_period header streams;
  }

  -- ---- days that were asked for

  -- a selected day was asked for
  asked : (selected : SelectedStream) (day : SelectedDay) → IsChosen streams selected day
      → IsAskedFor w nmi suffixes first last selected.stream day.date
  asked selected day chosen =
      let named = (is.named selected.stream).0 (map_in (λ (x : SelectedStream). x.stream) streams selected chosen.0) in
      let known = ((stream_is selected chosen.0).known day.date).0
      (map_in (λ (x : SelectedDay). x.date) selected.days.items day chosen.1) in
      (named.0, named.1, known.0, known.1, known.2)

  -- and a day that was asked for is selected
  chosen_of : (stream : Stream) (day : ℕ) → IsAskedFor w nmi suffixes first last stream day
      → (selected : SelectedStream) × (chosen : SelectedDay) × IsChosen streams selected chosen
      × (selected.stream ≡ stream) × (chosen.date ≡ day)
  chosen_of stream day (named, among, low, high, known) =
      let s = in_map (λ (x : SelectedStream). x.stream) streams stream ((is.named stream).1 (named, among)) in
      let there : IsKnownDay w s.0.stream day = subst (λ z. IsKnownDay w z day) s.2 known in
      let d = in_map (λ (x : SelectedDay). x.date) s.0.days.items day
      (((stream_is s.0 s.1).known day).1 (low, high, there)) in
      (s.0, d.0, (s.1, d.1), sym s.2, sym d.2)

  -- a day that is known in what is stated was asked for
  known_back : (stream : Stream) (day : ℕ) → IsKnownDay (stated (selection_stated header streams)) stream day
      → IsAskedFor w nmi suffixes first last stream day
  known_back stream day (head, h, s, d) =
      let v = head_whence header streams head h in
      let a = asked v.0 v.1 v.2 in
      let one : v.0.stream ≡ stream = sym (ap (λ (x : Head). x.stream) v.3) ∙ s in
      let two : v.1.date ≡ day = sym (ap (λ (x : Head). x.day) v.3) ∙ d in
      subst (λ z. IsAskedFor w nmi suffixes first last stream z) two
      (subst (λ z. IsAskedFor w nmi suffixes first last z v.1.date) one a)

  -- and one that was asked for is known there
  asked_back : (stream : Stream) (day : ℕ) → IsAskedFor w nmi suffixes first last stream day
      → IsKnownDay (stated (selection_stated header streams)) stream day
  asked_back stream day a =
      let c = chosen_of stream day a in
      (head_of c.0 c.1, head_stated header streams c.0 c.1 c.2, c.3, c.4)

  -- a selected day is the same in what is stated
  day_alone : (selected : SelectedStream) (day : SelectedDay) → IsChosen streams selected day
      → IsSameDay w (stated (selection_stated header streams)) selected.stream day.date
  day_alone selected day chosen =
      same_day_alone w (stated (selection_stated header streams)) lawful comes_from (head_of selected day)
      (head_stated header streams selected day chosen)

  -- and has the same details
  details_same : (selected : SelectedStream) (day : SelectedDay) → IsChosen streams selected day
      → HasSameDetails w (stated (selection_stated header streams)) selected.stream day.date
  details_same selected day chosen =
      details_alone w (stated (selection_stated header streams)) comes_from.details (detail_of header selected day)
      (detail_stated header streams selected day chosen)

  -- so it is with each day that was asked for
  both_same : (stream : Stream) (day : ℕ) → IsAskedFor w nmi suffixes first last stream day
      → IsSameDay w (stated (selection_stated header streams)) stream day
      × HasSameDetails w (stated (selection_stated header streams)) stream day
  both_same stream day a =
      let c = chosen_of stream day a in (
        subst (λ z. IsSameDay w (stated (selection_stated header streams)) stream z) c.4
            (subst (λ z. IsSameDay w (stated (selection_stated header streams)) z c.1.date) c.3 (day_alone c.0 c.1 c.2)),
        subst (λ z. HasSameDetails w (stated (selection_stated header streams)) stream z) c.4
            (subst (λ z. HasSameDetails w (stated (selection_stated header streams)) z c.1.date) c.3 (details_same c.0 c.1 c.2)),
      )

-- ---- the law

-- what an export states, taken in by a store that has nothing
pub comes_back_alone : ComesBackAlone
comes_back_alone w nmi suffixes first last header streams lawful is =
    let from = comes_from w nmi suffixes first last header streams lawful is in (
      agrees_alone w (stated (selection_stated header streams)) lawful from,
      (λ stream day. (
        known_back w nmi suffixes first last header streams lawful is stream day,
        asked_back w nmi suffixes first last header streams lawful is stream day,
      )),
      both_same w nmi suffixes first last header streams lawful is,
    )

-- and by the one that it came from
pub comes_back_home : ComesBackHome
comes_back_home w nmi suffixes first last header streams lawful is =
    let from = comes_from w nmi suffixes first last header streams lawful is in
    let back = stated (selection_stated header streams) in (
      agrees_home w back lawful from,
      (λ stream day. (same_day_home w back lawful from stream day, details_beside w back from.details stream day)),
      intervals_counted w header streams is.ascending
          (λ s m. (stream_is w nmi suffixes first last header streams lawful is s m).ascending),
    )
