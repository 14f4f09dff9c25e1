-- The versions of a day, from its rows of mds_form and of mds_pack, and the heads that they are under.
use Rattle.std.proofs.Common.{◌≡◌, ◌<◌, ◌*◌, inl, inr, suc, zero, ℕ, ◌+◌, List, [], ◌∷◌, ◌++◌, length, map, slice_index_or, take, true, Option, Some, None, append_assoc, refl, sym, ap, subst, ◌∙◌, arith}
use Rattle.std.proofs.lemmas.Grind.{flat_map-append}
use Rattle.std.proofs.lemmas.List.{append-nil, length-map, map-append, take_more}
use Rattle.std.specs.Prelude.{is_some}
use Rattle.std.specs.List.{flat_map, list_any}
use Rattle.sqlite.specs.declared.types.Value.TheVariants.{Blob}
use Rattle.sqlite_value.specs.Order.{Row, bytes, column}
use Rattle.mds_names.specs.declared.stream.Stream.{Stream}
use Rattle.mds_quantity.specs.declared.unit.Unit.{Unit as MeasureUnit}
use Rattle.mds_marks.specs.Reading.{ReadingValue}
use Rattle.mds_world.specs.Facts.{Fact, head_at}
use Rattle.mds_world.specs.Facts.Fact.{HeadIs, VersionIs}
use Rattle.mds_world.specs.Lists.{Member}
use Rattle.mds_world.specs.World.{head_over}
use Rattle.mds_world.proofs.Lists.{append_left, append_right, member_append}
use Rattle.mds_keeper.specs.Books.{row_fact, row_head}
use Rattle.mds_keeper.specs.Content.{whole_rows}
use Rattle.mds_keeper.specs.declared.day_book.Version.{Version}
use Rattle.mds_tables.specs.RowFacts.{natural_at}
use Rattle.mds_pack_rows.specs.DayRows.{shown_facts}
use Rattle.mds_pack_rows.specs.PackFacts.{body_facts, facts_from, minutes_of, readings_facts, readings_in}
use Rattle.mds_pack_rows.proofs.PutLemmas.{says_day, whole_said}
use Rattle.mds_commit.specs.FormRows.{AddsRow, AreUnder, shown_head}

-- ---- the loop over a body's readings

split : (s : Stream) (day minutes update interval : ℕ) (r : Option ReadingValue) (rs : List (Option ReadingValue))
    → facts_from s day minutes update interval (r ∷ rs) ≡ facts_from s day minutes update interval (r ∷ []) ++ facts_from s day minutes update (interval + 1) rs
split s day minutes update interval None rs = refl
split s day minutes update interval (Some r) rs = refl

pub held_on : (s : Stream) (day minutes update interval : ℕ) (r : Option ReadingValue) (left later : List (Option ReadingValue)) (old new total : List Fact)
    → left ≡ r ∷ later → new ≡ old ++ facts_from s day minutes update interval (r ∷ []) → old ++ facts_from s day minutes update interval left ≡ total
    → new ++ facts_from s day minutes update (interval + 1) later ≡ total
held_on s day minutes update interval r left later old new total is more before =
    ap (λ xs. xs ++ facts_from s day minutes update (interval + 1) later) more
    ∙ append_assoc old (facts_from s day minutes update interval (r ∷ [])) (facts_from s day minutes update (interval + 1) later)
    ∙ ap (λ xs. old ++ xs) (sym (ap (facts_from s day minutes update interval) is ∙ split s day minutes update interval r later))
    ∙ before

pub held_end : (s : Stream) (day minutes update interval : ℕ) (left : List (Option ReadingValue)) (old total : List Fact)
    → 0 ≡ length left → old ++ facts_from s day minutes update interval left ≡ total → old ≡ total
held_end s day minutes update interval [] old total none before = sym (append-nil old) ∙ before
held_end s day minutes update interval (r ∷ rs) old total none before = absurd (omega (arith, none))

-- ---- the heads that versions are under

-- the head that a version is under, with a unit
abbrev head_of : MeasureUnit → Fact → Fact
head_of unit (VersionIs key reading) = HeadIs (head_over key unit)
head_of unit f = f

heads_by_facts : (s : Stream) (day : ℕ) (unit : MeasureUnit) (versions : List (ℕ × Version))
    → map (row_head s day unit) versions ≡ map (head_of unit) (map (row_fact s day) versions)
heads_by_facts s day unit [] = refl
heads_by_facts s day unit (v ∷ versions) = ap (λ heads. row_head s day unit v ∷ heads) (heads_by_facts s day unit versions)

module _ (s : Stream) (day minutes update : ℕ) (unit : MeasureUnit) where
  -- all versions of one length and update are under one head
  only_head : (interval : ℕ) (rs : List (Option ReadingValue)) (f : Fact) → Member f (map (head_of unit) (facts_from s day minutes update interval rs))
      → f ≡ HeadIs (head_at s day update minutes unit)
  only_head interval [] f m = absurd m
  only_head interval (None ∷ rs) f m = only_head (interval + 1) rs f m
  only_head interval (Some r ∷ rs) f (inl e) = e
  only_head interval (Some r ∷ rs) f (inr m) = only_head (interval + 1) rs f m

  -- and one is, where an interval has a reading
  some_head : (interval : ℕ) (rs : List (Option ReadingValue)) → list_any (λ reading. is_some reading) rs ≡ true
      → Member (HeadIs (head_at s day update minutes unit)) (map (head_of unit) (facts_from s day minutes update interval rs))
  some_head interval [] some = absurd (cc)
  some_head interval (None ∷ rs) some = some_head (interval + 1) rs some
  some_head interval (Some r ∷ rs) some = inl refl

-- ---- one row of each table

-- what a row of mds_pack says, whose body is read
pack_says : (s : Stream) (day : ℕ) (pack : Row) (update : ℕ) (body : List ℕ) (readings : List (Option ReadingValue)) → natural_at pack 0 ≡ update
    → column pack 1 ≡ Blob body → readings_in body ≡ Some readings → shown_facts s day pack ≡ readings_facts s day update readings
pack_says s day pack update body readings at has is =
    (λ i. body_facts s day (at i) (bytes (has i))) ∙ says_day s day update body readings is

-- a row of each, of one update: the body has a reading, and as many intervals as have the length
pub row_adds : (form pack : Row) (update minutes : ℕ) (body : List ℕ) (readings : List (Option ReadingValue)) (old new : List (ℕ × Version))
    → natural_at form 0 ≡ update → natural_at form 1 ≡ minutes → natural_at pack 0 ≡ update → column pack 1 ≡ Blob body
    → readings_in body ≡ Some readings → minutes_of (length readings) ≡ minutes → list_any (λ reading. is_some reading) readings ≡ true
    → ((s : Stream) (day : ℕ) → map (row_fact s day) new ≡ map (row_fact s day) old ++ readings_facts s day update readings)
    → AddsRow form pack old new
row_adds form pack update minutes body readings old new at_form of_form at_pack has is many some more = record {
  held = λ s day. more s day ∙ ap (λ facts. map (row_fact s day) old ++ facts) (sym (pack_says s day pack update body readings at_pack has is));
  head = λ s day unit f.
      let facts = readings_facts s day update readings in
      let olds = map (row_head s day unit) old in
      let all : map (row_head s day unit) new ≡ olds ++ map (head_of unit) facts =
      heads_by_facts s day unit new ∙ ap (map (head_of unit)) (more s day)
      ∙ map-append (head_of unit) (map (row_fact s day) old) facts
      ∙ ap (λ heads. heads ++ map (head_of unit) facts) (sym (heads_by_facts s day unit old)) in
      let shown : shown_head s day unit form ≡ HeadIs (head_at s day update (minutes_of (length readings)) unit) =
      (λ i. HeadIs (head_at s day (at_form i) ((of_form ∙ sym many) i) unit)) in (
        (λ m. elim (member_append f olds (map (head_of unit) facts) (subst (Member f) all m)) [
          | inl a ↦ inl a
          | inr b ↦ inr (only_head s day (minutes_of (length readings)) update unit 1 readings f b ∙ sym shown)
        ]),
        (λ p. subst (Member f) (sym all) (elim p [
          | inl a ↦ append_left f olds (map (head_of unit) facts) a
          | inr e ↦ append_right f olds (map (head_of unit) facts)
              (subst (λ g. Member g (map (head_of unit) facts)) (sym (e ∙ shown))
              (some_head s day (minutes_of (length readings)) update unit 1 readings some))
        ])),
      );
}

-- ---- rows one after the other

pub none_under : AreUnder [] [] []
none_under = record { heads = λ s day unit f. (λ m. m, λ m. m); held = λ s day. refl }

pub under_more : (forms packs : List Row) (form pack : Row) (old new : List (ℕ × Version)) → AreUnder forms packs old → AddsRow form pack old new
    → AreUnder (forms ++ form ∷ []) (packs ++ pack ∷ []) new
under_more forms packs form pack old new before adds = record {
  heads = λ s day unit f.
      let shown = map (shown_head s day unit) forms in
      let front : map (shown_head s day unit) (forms ++ form ∷ []) ≡ shown ++ shown_head s day unit form ∷ [] =
      map-append (shown_head s day unit) forms (form ∷ []) in
      let was = before.heads s day unit f in
      let here = adds.head s day unit f in (
        (λ m. subst (Member f) (sym front) (elim (here.0 m) [
          | inl a ↦ append_left f shown (shown_head s day unit form ∷ []) (was.0 a)
          | inr e ↦ append_right f shown (shown_head s day unit form ∷ []) (inl e)
        ])),
        (λ m. here.1 (elim (member_append f shown (shown_head s day unit form ∷ []) (subst (Member f) front m)) [
          | inl a ↦ inl (was.1 a)
          | inr b ↦ elim b [ inl e ↦ inr e | inr z ↦ absurd z ]
        ])),
      );
  held = λ s day.
      adds.held s day ∙ ap (λ facts. facts ++ shown_facts s day pack) (before.held s day)
      ∙ sym (flat_map-append (shown_facts s day) packs (pack ∷ [])
      ∙ ap (λ facts. flat_map (shown_facts s day) packs ++ facts) (append-nil (shown_facts s day pack)));
}

front_of : (rows : List Row) (k : ℕ) (row : Row) → k < length rows → row ≡ slice_index_or rows k row → take (k + 1) rows ≡ take k rows ++ row ∷ []
front_of rows k row low is = take_more rows k row low ∙ ap (λ x. take k rows ++ x ∷ []) (sym is)

pub next_row : (forms packs : List Row) (k : ℕ) (form pack : Row) (old new : List (ℕ × Version)) → k < length forms → k < length packs
    → form ≡ slice_index_or forms k form → pack ≡ slice_index_or packs k pack → AreUnder (take k forms) (take k packs) old → AddsRow form pack old new
    → AreUnder (take (k + 1) forms) (take (k + 1) packs) new
next_row forms packs k form pack old new low_form low_pack is_form is_pack before adds =
    subst (λ rows. AreUnder rows (take (k + 1) packs) new) (sym (front_of forms k form low_form is_form))
    (subst (λ rows. AreUnder (take k forms ++ form ∷ []) rows new) (sym (front_of packs k pack low_pack is_pack))
    (under_more (take k forms) (take k packs) form pack old new before adds))

-- ---- the rows of a whole day

-- intervals that make up a day have a length
pub some_minutes : (count minutes : ℕ) → count * minutes ≡ 1440 → 0 < minutes
some_minutes count zero day = absurd (omega (arith, day))
some_minutes count (suc minutes) day = omega arith

-- a day whose intervals have a length has one
has_reading : (minutes : ℕ) → 0 < minutes → (readings : List ReadingValue) → minutes_of (length readings) ≡ minutes
    → list_any (λ reading. is_some reading) (map (λ reading. Some reading) readings) ≡ true
has_reading minutes low [] many = absurd (omega (arith, low, many))
has_reading minutes low (r ∷ readings) many = refl

-- rows that are alone, of a body with a reading of each interval
pub whole_under : (forms packs : List Row) (form pack : Row) (minutes update : ℕ) (body : List ℕ) (readings : List ReadingValue) → forms ≡ form ∷ []
    → packs ≡ pack ∷ [] → natural_at form 0 ≡ update → natural_at form 1 ≡ minutes → natural_at pack 0 ≡ update → column pack 1 ≡ Blob body
    → readings_in body ≡ Some (map (λ reading. Some reading) readings) → minutes_of (length readings) ≡ minutes → 0 < minutes
    → AreUnder forms packs (whole_rows minutes update 1 readings)
whole_under forms packs form pack minutes update body readings one_form one_pack at_form of_form at_pack has is many low =
    let all = map (λ (reading : ReadingValue). Some reading) readings in
    let count : minutes_of (length all) ≡ minutes = ap minutes_of (length-map readings (λ (reading : ReadingValue). Some reading)) ∙ many in
    let adds = row_adds form pack update minutes body all [] (whole_rows minutes update 1 readings) at_form of_form at_pack has is count
    (has_reading minutes low readings many) (λ s day. sym (whole_said s day minutes update readings many)) in
    subst (λ rows. AreUnder rows packs (whole_rows minutes update 1 readings)) (sym one_form)
    (subst (λ rows. AreUnder (form ∷ []) rows (whole_rows minutes update 1 readings)) (sym one_pack)
    (under_more [] [] form pack [] (whole_rows minutes update 1 readings) none_under adds))
