-- What the statements of a selection state: details, heads and versions, each of a selected stream and day.
use Rattle.std.specs.Prelude.{◌≡◌, ◌⊎◌, ℕ, ◌+◌, List, [], ◌∷◌, ◌++◌, length, map, slice_get, Bool, true, false, if◌then◌else◌, Option, Some, None, refl}
use Rattle.std.proofs.Common.{sym, ap, ◌∙◌, subst, inl, inr, arith}
use Rattle.std.specs.FinSet as set
use Rattle.std.specs.List.{flat_map, sum_by}
use Rattle.std.proofs.lemmas.List.Sums.{sum_by-append}
use Rattle.mds_marks.specs.Reading.{ReadingValue}
use Rattle.mds_statements.specs.Statements.{DayStatement, HeaderValue, PeriodContent, Statement, days_in, days_of}
use Rattle.mds_statements.specs.Statements.Statement.{HeaderOf, StreamOf, DetailsOf, DayOf, EventOf, PeriodOf}
use Rattle.mds_statements.specs.declared.periods.PeriodKey.{PeriodKey}
use Rattle.mds_nem12.specs.Statements.{statements_of}
use Rattle.mds_world.specs.declared.facts.Detail.{Detail}
use Rattle.mds_world.specs.declared.facts.Head.{Head}
use Rattle.mds_world.specs.declared.facts.Key.{Key}
use Rattle.mds_world.specs.Facts.{Fact, detail_at, head_at, key_at}
use Rattle.mds_world.specs.Facts.Fact.{HeadIs, VersionIs, DetailIs, PeriodIs}
use Rattle.mds_world.proofs.Lists.{append_right, flat_in, in_flat, member_append}
use Rattle.mds_world.specs.Lists.{Member}
use Rattle.mds_world.specs.Sets.{◌∈◌}
use Rattle.mds_world.specs.Stated.{day_facts, facts_of, stated}
use Rattle.mds_keeper.proofs.Taken.{from_versions, to_versions}
use Rattle.mds_export.specs.Placed.{PlacedDay, is_governed, placed_after, placed_days}
use Rattle.mds_export.specs.Shows.{day_selected, day_stated, details_selected, selection_stated, stream_selected, unlined}
use Rattle.mds_statements.specs.declared.selected.SelectedDay.{SelectedDay}
use Rattle.mds_statements.specs.declared.selected.SelectedStream.{SelectedStream}
use Rattle.mds_laws.specs.Returns.{intervals_in}
use Rattle.mds_laws.proofs.Members.{in_stated, same_key, stated_in}
use Rattle.mds_laws.proofs.ReturnedWorlds.{StatesTheSelection}

-- ---- lines

-- how many intervals a day has
abbrev size_of : DayStatement → ℕ
size_of day = length day.readings

-- a statement states the same without its line
same_facts : (s : Statement) → facts_of (unlined s) ≡ facts_of s
same_facts (HeaderOf header) = refl
same_facts (StreamOf stream) = refl
same_facts (DetailsOf details) = refl
same_facts (DayOf day) = refl
same_facts (EventOf event) = refl
same_facts (PeriodOf period) = refl

-- and so do all of a list
facts_unlined : (xs : List Statement) → flat_map facts_of (map unlined xs) ≡ flat_map facts_of xs
facts_unlined [] = refl
facts_unlined (x ∷ xs) = λ i. same_facts x i ++ facts_unlined xs i

-- and it has as many intervals
same_size : (s : Statement) → sum_by size_of (days_in (unlined s)) ≡ sum_by size_of (days_in s)
same_size (HeaderOf header) = refl
same_size (StreamOf stream) = refl
same_size (DetailsOf details) = refl
same_size (DayOf day) = refl
same_size (EventOf event) = refl
same_size (PeriodOf period) = refl

-- and so has a list
intervals_unlined : (xs : List Statement) → intervals_in (map unlined xs) ≡ intervals_in xs
intervals_unlined [] = refl
intervals_unlined (x ∷ xs) =
    sum_by-append size_of (days_in (unlined x)) (days_of (map unlined xs))
    ∙ (λ i. same_size x i + intervals_unlined xs i)
    ∙ sym (sum_by-append size_of (days_in x) (days_of xs))

-- a text states what its selection does
pub states_the_selection : StatesTheSelection
states_the_selection header streams text shows = (
  sym (ap set.from_list (facts_unlined (statements_of text))) ∙ ap stated shows.stated,
  sym (intervals_unlined (statements_of text)) ∙ ap intervals_in shows.stated,
)

-- ---- placed days

-- a placed day is a day of its stream
pub from_placed : (selected : SelectedStream) (before : Option SelectedDay) (days : List SelectedDay) (p : PlacedDay)
    → Member p (placed_after selected before days) → (p.selected ≡ selected) × Member p.day days
from_placed selected before [] p m = absurd m
from_placed selected before (day ∷ days) p (inl e) =
    (ap (λ (x : PlacedDay). x.selected) e, inl (ap (λ (x : PlacedDay). x.day) e))
from_placed selected before (day ∷ days) p (inr m) =
    let r = from_placed selected (Some day) days p m in (r.0, inr r.1)

-- each day of a stream is placed
to_placed : (selected : SelectedStream) (before : Option SelectedDay) (days : List SelectedDay) (day : SelectedDay)
    → Member day days
    → (front : Option SelectedDay)
    × Member (record { selected = selected; before = front; day = day }) (placed_after selected before days)
to_placed selected before [] day m = absurd m
to_placed selected before (x ∷ days) day (inl e) =
    (before, inl (λ i. record { selected = selected; before = before; day = e i }))
to_placed selected before (x ∷ days) day (inr m) =
    let r = to_placed selected (Some x) days day m in (r.0, inr r.1)

-- ---- facts

-- the details of a selected day under the moment of the header
abbrev pub detail_of : HeaderValue → SelectedStream → SelectedDay → Detail
detail_of header selected day = detail_at selected.stream day.date header.moment day.details

-- the head of a selected day under its update
abbrev pub head_of : SelectedStream → SelectedDay → Head
head_of selected day =
    head_at selected.stream day.date day.update day.length day.unit

-- where a reading of a selected day stands
abbrev pub key_of : SelectedStream → SelectedDay → ℕ → Key
key_of selected day interval =
    key_at selected.stream day.date day.length interval day.update

-- the facts of a selected day
abbrev pub facts_of_day : SelectedStream → SelectedDay → List Fact
facts_of_day selected day = day_facts selected.stream day.date day.length day.unit day.update day.readings

-- a day of a selected stream
abbrev pub IsChosen : List SelectedStream → SelectedStream → SelectedDay → Type 0
IsChosen streams selected day = Member selected streams × Member day selected.days.items

-- heads that are one fact are one
same_head : (x y : Head) → HeadIs x ≡ HeadIs y → x ≡ y
same_head x y e = cc

-- and so are details
same_detail : (x y : Detail) → DetailIs x ≡ DetailIs y → x ≡ y
same_detail x y e = cc

-- a fact of a day that is selected, or of its details
pub record Origin (header : HeaderValue) (streams : List SelectedStream) (f : Fact) : Type 0 where
  pub selected : SelectedStream
  pub day : SelectedDay
  pub chosen : IsChosen streams selected day
  pub is : (f ≡ DetailIs (detail_of header selected day)) ⊎ Member f (facts_of_day selected day)

-- a statement that is there under a test is that one
member_if : (b : Bool) (x s : Statement) → Member s (if b then [] else x ∷ []) → s ≡ x
member_if true x s m = absurd m
member_if false x s (inl e) = e
member_if false x s (inr m) = absurd m

module _ (header : HeaderValue) (streams : List SelectedStream) where
  -- a placed day is a day of a selected stream
  of_placed : (p : PlacedDay) → Member p (placed_days streams) → IsChosen streams p.selected p.day
  of_placed p m =
      let r = in_flat (λ (s : SelectedStream). placed_after s None s.days.items) streams p m in
      let d = from_placed r.0 None r.0.days.items p r.2 in (
        subst (λ s. Member s streams) (sym d.0) r.1,
        subst (λ (s : SelectedStream). Member p.day s.days.items) (sym d.0) d.1,
      )

  -- and what is placed of a selected stream is placed among all
  placed_of : (selected : SelectedStream) → Member selected streams → (p : PlacedDay)
      → Member p (placed_after selected None selected.days.items) → Member p (placed_days streams)
  placed_of selected m p n =
      flat_in (λ (s : SelectedStream). placed_after s None s.days.items) streams p selected m n

  -- a fact of a placed day's statements is from that day
  by_statement : (p : PlacedDay) → Member p (placed_days streams) → (s : Statement)
      → Member s (day_stated header.moment p) → (f : Fact) → Member f (facts_of s) → Origin header streams f
  by_statement p mp s ms f mf =
      elim (member_append s (if is_governed p.before p.day then [] else StreamOf (stream_selected header.moment p) ∷ [])
      (DetailsOf (details_selected header.moment p) ∷ DayOf (day_selected p) ∷ []) ms) [
        | inl a ↦
            let e = member_if (is_governed p.before p.day) (StreamOf (stream_selected header.moment p)) s a in
            absurd (subst (λ t. Member f (facts_of t)) e mf)
        | inr b ↦ elim b [
          | inl e ↦
              let n : Member f (DetailIs (detail_of header p.selected p.day) ∷ []) = subst (λ t. Member f (facts_of t)) e mf in
              record {
                selected = p.selected;
                day = p.day;
                chosen = of_placed p mp;
                is = elim n [ inl q ↦ inl q | inr q ↦ absurd q ];
              }
          | inr c ↦ elim c [
            | inl e ↦ record {
              selected = p.selected;
              day = p.day;
              chosen = of_placed p mp;
              is = inr (subst (λ t. Member f (facts_of t)) e mf);
            }
            | inr q ↦ absurd q
          ]
        ]
      ]

  -- where each fact is from
  pub origin : (f : Fact) → f ∈ stated (selection_stated header streams) → Origin header streams f
  origin f h =
      let s = in_stated (selection_stated header streams) f h in
      elim s.1 [
        | inl e ↦ absurd (subst (λ t. Member f (facts_of t)) e s.2)
        | inr m ↦
            let p = in_flat (day_stated header.moment) (placed_days streams) s.0 m in
            by_statement p.0 p.1 s.0 p.2 f s.2
      ]

  -- a head is that of a selected day
  pub head_whence : (head : Head) → HeadIs head ∈ stated (selection_stated header streams)
      → (selected : SelectedStream) × (day : SelectedDay) × IsChosen streams selected day × (head ≡ head_of selected day)
  head_whence head h =
      let o = origin (HeadIs head) h in
      elim o.is [
        | inl e ↦ cc
        | inr m ↦ elim m [
          | inl e ↦ (o.selected, o.day, o.chosen, same_head _ _ e)
          | inr n ↦
              let v = from_versions o.selected.stream o.day.date o.day.length o.day.update 1 o.day.readings (HeadIs head) n in
              let e = v.3 in
              cc
        ]
      ]

  -- a version is that of a reading of a selected day, by its place
  pub version_whence : (key : Key) (reading : ReadingValue)
      → VersionIs key reading ∈ stated (selection_stated header streams)
      → (selected : SelectedStream) × (day : SelectedDay) × (k : ℕ) × IsChosen streams selected day
      × (slice_get day.readings k ≡ Some reading) × (key ≡ key_of selected day (k + 1))
  version_whence key reading h =
      let o = origin (VersionIs key reading) h in
      elim o.is [
        | inl e ↦ cc
        | inr m ↦ elim m [
          | inl e ↦ cc
          | inr n ↦
              let v = from_versions o.selected.stream o.day.date o.day.length o.day.update 1 o.day.readings _ n in
              let same = same_key _ _ _ _ v.3 in
              let z : 1 + v.0 ≡ v.0 + 1 = omega arith in (
                o.selected,
                o.day,
                v.0,
                o.chosen,
                v.2 ∙ ap (λ r. Some r) (sym same.1),
                same.0 ∙ ap (key_of o.selected o.day) z,
              )
        ]
      ]

  -- details are those of a selected day
  pub detail_whence : (detail : Detail) → DetailIs detail ∈ stated (selection_stated header streams)
      → (selected : SelectedStream) × (day : SelectedDay) × IsChosen streams selected day × (detail ≡ detail_of header selected day)
  detail_whence detail h =
      let o = origin (DetailIs detail) h in
      elim o.is [
        | inl e ↦ (o.selected, o.day, o.chosen, same_detail detail (detail_of header o.selected o.day) e)
        | inr m ↦ elim m [
          | inl e ↦ cc
          | inr n ↦
              let v = from_versions o.selected.stream o.day.date o.day.length o.day.update 1 o.day.readings _ n in
              let e = v.3 in
              cc
        ]
      ]

  -- no period is stated
  pub no_period : (key : PeriodKey) (content : PeriodContent)
      → PeriodIs key content ∈ stated (selection_stated header streams) → ⊥
  no_period key content h =
      let o = origin (PeriodIs key content) h in
      elim o.is [
        | inl e ↦ cc
        | inr m ↦ elim m [
          | inl e ↦ cc
          | inr n ↦
              let v = from_versions o.selected.stream o.day.date o.day.length o.day.update 1 o.day.readings _ n in
              let e = v.3 in
              cc
        ]
      ]

  -- the facts of a selected day are stated
  pub day_in : (selected : SelectedStream) (day : SelectedDay) → IsChosen streams selected day → (f : Fact)
      → Member f (facts_of_day selected day) → f ∈ stated (selection_stated header streams)
  day_in selected day chosen f m =
      let r = to_placed selected None selected.days.items day chosen.1 in
      let p : PlacedDay = record { selected = selected; before = r.0; day = day } in
      let stands = placed_of selected chosen.0 p r.1 in
      stated_in (selection_stated header streams) f (DayOf (day_selected p))
      (inr (flat_in (day_stated header.moment) (placed_days streams) (DayOf (day_selected p)) p stands
      (append_right (DayOf (day_selected p))
      (if is_governed p.before p.day then [] else StreamOf (stream_selected header.moment p) ∷ [])
      (DetailsOf (details_selected header.moment p) ∷ DayOf (day_selected p) ∷ []) (inr (inl refl))))) m

  -- so its head is
  pub head_stated : (selected : SelectedStream) (day : SelectedDay) → IsChosen streams selected day
      → HeadIs (head_of selected day) ∈ stated (selection_stated header streams)
  head_stated selected day chosen = day_in selected day chosen (HeadIs (head_of selected day)) (inl refl)

  -- and each of its readings
  pub version_stated : (selected : SelectedStream) (day : SelectedDay) → IsChosen streams selected day → (k : ℕ)
      (reading : ReadingValue) → slice_get day.readings k ≡ Some reading
      → VersionIs (key_of selected day (k + 1)) reading ∈ stated (selection_stated header streams)
  version_stated selected day chosen k reading at =
      let z : 1 + k ≡ k + 1 = omega arith in
      subst (λ n. VersionIs (key_of selected day n) reading ∈ stated (selection_stated header streams)) z
      (day_in selected day chosen (VersionIs (key_of selected day (1 + k)) reading)
      (inr (to_versions selected.stream day.date day.length day.update 1 day.readings k reading at)))

  -- and so are its details
  pub detail_stated : (selected : SelectedStream) (day : SelectedDay) → IsChosen streams selected day
      → DetailIs (detail_of header selected day) ∈ stated (selection_stated header streams)
  detail_stated selected day chosen =
      let r = to_placed selected None selected.days.items day chosen.1 in
      let p : PlacedDay = record { selected = selected; before = r.0; day = day } in
      let s : Statement = DetailsOf (details_selected header.moment p) in
      stated_in (selection_stated header streams) (DetailIs (detail_of header selected day)) s
      (inr (flat_in (day_stated header.moment) (placed_days streams) s p (placed_of selected chosen.0 p r.1)
      (append_right s (if is_governed p.before p.day then [] else StreamOf (stream_selected header.moment p) ∷ [])
      (s ∷ DayOf (day_selected p) ∷ []) (inl refl)))) (inl refl)
