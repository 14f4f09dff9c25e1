-- What an export selects, part by part.
use Rattle.std.proofs.Common.{◌≡◌, ◌+◌, ◌-◌, ◌*◌, ◌<◌, ◌≤◌, ℕ, List, [], ◌∷◌, ◌++◌, map, take, length, get_or, refl, sym, ap, ◌∙◌, subst, inl, inr, arith}
use Rattle.std.specs.Cmp.{tied_itself}
use Rattle.std.specs.Cmp.Lexicographic.{nat_list_cmp_total, slice_cmp}
use Rattle.std.specs.List.{All, AllPairs}
use Rattle.std.specs.Ordering.{nat_cmp, ordering_then}
use Rattle.std.specs.declared.cmp.Ordering.TheVariants.{Equal, Less}
use Rattle.std.proofs.lemmas.Bool.{cases_lt}
use Rattle.std.proofs.lemmas.List.{length-append, length-map, map-append, nil_from_length, take_all, take_more}
use Rattle.std.proofs.lemmas.List.Elements.{All-append, All-head, All-nil, All-push, All-tail, All-weaker}
use Rattle.mds_names.specs.declared.stream.Stream.{Stream}
use Rattle.mds_terms.specs.Details.{DetailsValue}
use Rattle.mds_world.proofs.Lists.{in_map, map_in}
use Rattle.mds_world.specs.Current.{IsCurrentDetails}
use Rattle.mds_world.specs.Lists.{Member}
use Rattle.mds_world.specs.World.{IsKnownDay, World}
use Rattle.mds_keeper.specs.Books.{BookValue, IsDay, book_world}
use Rattle.mds_keeper.specs.Queries.{AreDaysOf}
use Rattle.mds_keeper.proofs.BookPlaces.{member_at}
use Rattle.mds_statements.specs.Selected.{AreOrderly, IsWhole, days_of, stream_cmp}
use Rattle.mds_statements.specs.declared.selected.SelectedDay.{SelectedDay}
use Rattle.mds_statements.specs.declared.selected.SelectedStream.{SelectedStream}
use Rattle.mds_ranges.specs.Ranges.{IsTooWide}
use Rattle.mds_ranges.specs.Selections.{AreDistinct, AreSelectedDays, Ascend, IsSelectedDay, IsSelectedStream, IsSelection}
use Rattle.mds_ranges.proofs.DayFacts.{unknown_here}
use Rattle.mds_ranges.proofs.Pairs.{map_pairs, no_more, pairs_apart, pairs_head, pairs_map, pairs_tail}

-- ---- days

-- These are the days of the books so far.
pub record AreTaken (w : World) (s : Stream) (books : List BookValue) (days : List SelectedDay) : Type 0 where
  pub dates : map (λ day. day.date) days ≡ map (λ book. book.day) books
  pub each : All (IsSelectedDay w s) days

pub taken_none : (w : World) (s : Stream) (days : List SelectedDay) → days ≡ [] → AreTaken w s [] days
taken_none w s days e = subst (AreTaken w s []) (sym e) (record { dates = refl; each = All-nil (IsSelectedDay w s) })

-- each of the books is of a known day of the range
book_known : (w : World) (s : Stream) (first last : ℕ) (books : List BookValue) (book : BookValue) → Member book books
    → AreDaysOf w s first last books → (first ≤ book.day) × (book.day ≤ last) × IsKnownDay w s book.day
book_known w s first last books book m are = (are.known book.day).0 (map_in (λ (b : BookValue). b.day) books book m)

-- the book of a place
module _ (w : World) (s : Stream) (first last : ℕ) (books : List BookValue) (i : ℕ) (book : BookValue)
    (within : i < length books) (at : book ≡ get_or books i book) (are : AreDaysOf w s first last books) where
  here : Member book books
  here = subst (λ b. Member b books) (sym at) (member_at books i book within)

  -- its day is a known one of the range
  pub in_range : (first ≤ book.day) × (book.day ≤ last) × IsKnownDay w s book.day
  in_range = book_known w s first last books book here are

  here_is : (book.stream ≡ s) × IsDay w book
  here_is = subst (λ (b : BookValue). (b.stream ≡ s) × IsDay w b) (sym at) (are.each i book within)

  -- its book knows it
  pub never_unknown : (IsKnownDay (book_world book) book.stream book.day → ⊥) → ⊥
  never_unknown none =
      let is = here_is in
      unknown_here w book is.1 none
      (subst (λ t. IsKnownDay w t book.day) (sym is.0) in_range.2)

  -- its day comes behind
  pub taken_more : (details : DetailsValue) (day : SelectedDay) (xs ys : List SelectedDay) → day.date ≡ book.day
      → IsCurrentDetails w s book.day details
      → (IsDay w book → IsCurrentDetails w book.stream book.day details → IsSelectedDay w book.stream day) → ys ≡ xs ++ day ∷ []
      → AreTaken w s (take i books) xs → AreTaken w s (take (i + 1) books) ys
  taken_more details day xs ys date current is e taken =
      let at_is = here_is in
      subst (AreTaken w s (take (i + 1) books)) (sym e) (record {
        dates = map-append (λ (d : SelectedDay). d.date) xs (day ∷ []) ∙ ap (λ l. l ++ day.date ∷ []) taken.dates
            ∙ ap (λ z. map (λ (b : BookValue). b.day) (take i books) ++ z ∷ []) (date ∙ ap (λ (b : BookValue). b.day) at)
            ∙ sym (ap (map (λ (b : BookValue). b.day)) (take_more books i book within)
            ∙ map-append (λ (b : BookValue). b.day) (take i books) (get_or books i book ∷ []));
        each = All-push (IsSelectedDay w s) xs day taken.each (subst (λ t. IsSelectedDay w t day) at_is.0
            (is at_is.1 (subst (λ t. IsCurrentDetails w t book.day details) (sym at_is.0) current)));
      })

-- all of them
pub days_selected : (w : World) (s : Stream) (first last n : ℕ) (books : List BookValue) (days : List SelectedDay)
    → length books ≤ n → AreTaken w s (take n books) days → AreDaysOf w s first last books
    → AreSelectedDays w s first last days
days_selected w s first last n books days whole taken are =
    let dates : map (λ (d : SelectedDay). d.date) days ≡ map (λ (b : BookValue). b.day) books =
    taken.dates ∙ ap (map (λ (b : BookValue). b.day)) (take_all n books whole) in
    record {
      known = λ day. (
        (λ m. (are.known day).0 (subst (Member day) dates m)),
        (λ k. subst (Member day) (sym dates) ((are.known day).1 k)),
      );
      ascending = pairs_map (λ (d : SelectedDay). d.date) (λ a b. a < b) days (subst (AllPairs (λ a b. a < b)) (sym dates)
          (map_pairs (λ (b : BookValue). b.day) (λ a b. a < b) books are.ascending));
      each = taken.each;
    }

-- ---- streams

-- the stream of a suffix
abbrev pub named : List ℕ → List ℕ → Stream
named nmi suffix = record { nmi = nmi; suffix = suffix }

abbrev pub stream_in : SelectedStream → Stream
stream_in selected = selected.stream

-- one more
pub names_more : (nmi : List ℕ) (suffixes : List (List ℕ)) (i : ℕ) (suffix : List ℕ) (selected : SelectedStream)
    (xs ys : List SelectedStream) → i < length suffixes → suffix ≡ get_or suffixes i suffix
    → selected.stream ≡ named nmi suffix → ys ≡ xs ++ selected ∷ []
    → map stream_in xs ≡ map (named nmi) (take i suffixes) → map stream_in ys ≡ map (named nmi) (take (i + 1) suffixes)
names_more nmi suffixes i suffix selected xs ys within at is e names =
    ap (map stream_in) e ∙ map-append stream_in xs (selected ∷ []) ∙ ap (λ l. l ++ selected.stream ∷ []) names
    ∙ ap (λ z. map (named nmi) (take i suffixes) ++ z ∷ []) (is ∙ ap (named nmi) at)
    ∙ sym (ap (map (named nmi)) (take_more suffixes i suffix within)
    ∙ map-append (named nmi) (take i suffixes) (get_or suffixes i suffix ∷ []))

pub each_more : (w : World) (first last : ℕ) (selected : SelectedStream) (xs ys : List SelectedStream)
    → ys ≡ xs ++ selected ∷ [] → All (IsSelectedStream w first last) xs → IsSelectedStream w first last selected
    → All (IsSelectedStream w first last) ys
each_more w first last selected xs ys e all is =
    subst (All (IsSelectedStream w first last)) (sym e) (All-push (IsSelectedStream w first last) xs selected all is)

names_up : (nmi : List ℕ) (suffixes : List (List ℕ)) → Ascend suffixes
    → AllPairs (λ a b. stream_cmp a b ≡ Less) (map (named nmi) suffixes)
names_up nmi suffixes up =
    let same : slice_cmp nat_cmp nmi nmi ≡ Equal = tied_itself nat_list_cmp_total nmi in
    map_pairs (named nmi) (λ a b. stream_cmp a b ≡ Less) suffixes (λ i j d less within.
    ap (λ o. ordering_then o (slice_cmp nat_cmp (get_or suffixes i d) (get_or suffixes j d))) same ∙ up i j d less within)

-- no suffix names no stream
pub none_named : (nmi : List ℕ) (suffixes : List (List ℕ)) (n : ℕ) (streams : List SelectedStream) → length suffixes ≡ 0
    → map stream_in streams ≡ map (named nmi) (take n suffixes) → streams ≡ []
none_named nmi [] n streams none are =
    nil_from_length streams (sym (length-map streams stream_in) ∙ ap length are
    ∙ ap (λ (l : List (List ℕ)). length (map (named nmi) l)) (take_all n [] (omega arith)))
none_named nmi (suffix ∷ suffixes) n streams none are = absurd (omega arith)

pub streams_selected : (w : World) (nmi : List ℕ) (suffixes : List (List ℕ)) (first last n : ℕ)
    (streams : List SelectedStream) → length suffixes ≤ n → Ascend suffixes
    → map stream_in streams ≡ map (named nmi) (take n suffixes) → All (IsSelectedStream w first last) streams
    → IsSelection w nmi suffixes first last streams
streams_selected w nmi suffixes first last n streams whole up are each =
    let names : map stream_in streams ≡ map (named nmi) suffixes = are ∙ ap (map (named nmi)) (take_all n suffixes whole) in
    record {
      named = λ stream. (
        (λ m.
            let at = in_map (named nmi) suffixes stream (subst (Member stream) names m) in
            (ap (λ (s : Stream). s.nmi) at.2, subst (λ z. Member z suffixes) (sym (ap (λ (s : Stream). s.suffix) at.2)) at.1)),
        (λ h.
            let e : named nmi stream.suffix ≡ stream = λ i. record { nmi = sym h.0 i; suffix = stream.suffix } in
            subst (Member stream) (sym names)
            (subst (λ s. Member s (map (named nmi) suffixes)) e (map_in (named nmi) suffixes stream.suffix h.1))),
      );
      ascending = pairs_map stream_in (λ a b. stream_cmp a b ≡ Less) streams
          (subst (AllPairs (λ a b. stream_cmp a b ≡ Less)) (sym names) (names_up nmi suffixes up));
      each = each;
    }

-- what the distinct ones of suffixes select these do
pub selection_asked : (w : World) (nmi : List ℕ) (suffixes distinct : List (List ℕ)) (first last : ℕ)
    (streams : List SelectedStream) → AreDistinct suffixes distinct → IsSelection w nmi distinct first last streams
    → IsSelection w nmi suffixes first last streams
selection_asked w nmi suffixes distinct first last streams are is = record {
  named = λ stream. (
    (λ m. let h = (is.named stream).0 m in (h.0, (are.each stream.suffix).0 h.1)),
    (λ h. (is.named stream).1 (h.0, (are.each stream.suffix).1 h.1)),
  );
  ascending = is.ascending;
  each = is.each;
}

-- ---- what is selected is orderly

-- numbers that ascend within bounds are few
pub few_within : (numbers : List ℕ) (first last : ℕ) → AllPairs (λ a b. a < b) numbers
    → ((n : ℕ) → Member n numbers → (first ≤ n) × (n ≤ last)) → length numbers ≤ last + 1 - first
few_within [] first last up within = omega arith
few_within (n ∷ numbers) first last up within =
    let here = within n (inl refl) in
    let low = here.0 in
    let high = here.1 in
    let later = few_within numbers (n + 1) last (pairs_tail (λ a b. a < b) n numbers up) (λ k m.
    let less = pairs_head (λ a b. a < b) n numbers up k m in
    (omega (arith, less), (within k (inr m)).1)) in
    omega (arith, later, low, high)

few_days : (w : World) (s : Stream) (first last : ℕ) (days : List SelectedDay) → (IsTooWide first last → ⊥)
    → AreSelectedDays w s first last days → length days ≤ 400
few_days w s first last days narrow are =
    let few = few_within (map (λ (d : SelectedDay). d.date) days) first last
    (map_pairs (λ (d : SelectedDay). d.date) (λ a b. a < b) days are.ascending)
    (λ n m. let k = (are.known n).0 m in (k.0, k.1)) in
    let size = length-map days (λ (d : SelectedDay). d.date) in
    elim (cases_lt last (first + 400)) [
      | inl less ↦ omega (arith, less, few, size)
      | inr more ↦ absurd (narrow more)
    ]

module _ (w : World) (first last : ℕ) (narrow : IsTooWide first last → ⊥) where
  few_all : (streams : List SelectedStream) → All (IsSelectedStream w first last) streams
      → length (days_of streams) ≤ 400 * length streams
  few_all [] all = omega arith
  few_all (x ∷ streams) all =
      let here = few_days w x.stream first last x.days.items narrow
      (All-head (IsSelectedStream w first last) x streams all) in
      let later = few_all streams (All-tail (IsSelectedStream w first last) x streams all) in
      let size = length-append x.days.items (days_of streams) in
      omega (arith, here, later, size)

  whole_all : (streams : List SelectedStream) → All (IsSelectedStream w first last) streams
      → All IsWhole (days_of streams)
  whole_all [] all = All-nil IsWhole
  whole_all (x ∷ streams) all =
      All-append IsWhole x.days.items (days_of streams)
      (All-weaker (IsSelectedDay w x.stream) IsWhole (λ day is. is.readings.count_is) x.days.items
      (All-head (IsSelectedStream w first last) x streams all).each)
      (whole_all streams (All-tail (IsSelectedStream w first last) x streams all))

never_before : (s : Stream) → stream_cmp s s ≡ Less → ⊥
never_before s less =
    let nmi : slice_cmp nat_cmp s.nmi s.nmi ≡ Equal = tied_itself nat_list_cmp_total s.nmi in
    let suffix : slice_cmp nat_cmp s.suffix s.suffix ≡ Equal = tied_itself nat_list_cmp_total s.suffix in
    let same : stream_cmp s s ≡ Equal = (λ i. ordering_then (nmi i) (suffix i)) in
    cc

pub is_orderly : (w : World) (nmi : List ℕ) (suffixes : List (List ℕ)) (first last : ℕ) (streams : List SelectedStream)
    → (IsTooWide first last → ⊥) → length suffixes ≤ 8 → IsSelection w nmi suffixes first last streams
    → AreOrderly streams
is_orderly w nmi suffixes first last streams narrow few is =
    let once = pairs_apart (λ a b. stream_cmp a b ≡ Less) never_before (map stream_in streams)
    (map_pairs stream_in (λ a b. stream_cmp a b ≡ Less) streams is.ascending) in
    let no_more_than = no_more (map stream_in streams) (map (named nmi) suffixes) once (λ stream m.
    let h = (is.named stream).0 m in
    let e : named nmi stream.suffix ≡ stream = λ i. record { nmi = sym h.0 i; suffix = stream.suffix } in
    subst (λ s. Member s (map (named nmi) suffixes)) e (map_in (named nmi) suffixes stream.suffix h.1)) in
    let taken = length-map streams stream_in in
    let given = length-map suffixes (named nmi) in
    let all = few_all w first last narrow streams is.each in
    record {
      ascending = is.ascending;
      dates = All-weaker (IsSelectedStream w first last) (λ selected. AllPairs (λ a b. a.date < b.date) selected.days.items)
          (λ selected h. h.ascending) streams is.each;
      whole = whole_all w first last narrow streams is.each;
      few = omega (arith, no_more_than, taken, given, all, few);
    }
