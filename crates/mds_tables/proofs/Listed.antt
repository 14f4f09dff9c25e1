-- What rows that a query shows say of a World.
use Rattle.std.specs.Prelude.{◌≡◌, ◌≢◌, ◌↔◌, ◌<◌, ◌^◌, ◌+◌, ℕ, List, [], ◌∷◌, ◌++◌, length, map, slice_index_or, take, Some, refl}
use Rattle.std.proofs.Common.{sym, ap, subst, inl, inr, ◌∙◌, arith}
use Rattle.std.proofs.lemmas.List.{take_more}
use Rattle.sqlite.specs.declared.types.Value.TheVariants.{Int, Null, Text}
use Rattle.sqlite_catalog.specs.Listing.{IsSound}
use Rattle.sqlite_rules.specs.Edit.{id_in}
use Rattle.sqlite_trees.specs.Tree.{Trees}
use Rattle.sqlite_value.specs.Order.{Row, bytes, column}
use Rattle.mds_names.specs.declared.stream.Stream.{Stream}
use Rattle.mds_terms.specs.Event.{EventValue}
use Rattle.mds_marks.specs.Reading.{ReadingValue}
use Rattle.mds_world.specs.declared.facts.Key.{Key}
use Rattle.mds_world.specs.Facts.{Fact, key_at}
use Rattle.mds_world.specs.Facts.Fact.{DetailIs, EventIs, HeadIs, HolidayIs, JobIs, PeriodIs, VersionIs}
use Rattle.mds_world.specs.Lists.{Apart, Member}
use Rattle.mds_world.specs.Sets.{◌∈◌}
use Rattle.mds_world.specs.World.{IsEventOf, IsOn}
use Rattle.mds_keeper.specs.Books.{row_fact}
use Rattle.mds_keeper.specs.Queries.{AreEventsOf}
use Rattle.mds_keeper.specs.declared.day_book.Version.{Version}
use Rattle.mds_tables.specs.Cells as cells
use Rattle.mds_tables.specs.Layouts.{Layout, world_with}
use Rattle.mds_tables.specs.RowFacts.{event_fact, head_fact, int_at, lengthless, letter_in, natural, natural_at, optional, optional_at, stream_in, text_at, version_fact}
use Rattle.mds_tables.specs.Stores.{Begins, Selects}
use Rattle.mds_tables.specs.Tables.{schema_with}
use Rattle.mds_tables.specs.Shown.{AreEventsIn, AreVersionsIn, SaysVersion}
use Rattle.mds_tables.proofs.Named.{Names, of_event}
use Rattle.mds_tables.proofs.TypedRows.{HasKeyCells, begins_at, begins_by, event_row, head_row, small, small_letter, small_option, letter_back, optional_back, some_cell, version_row}

-- ---- rows that begin with a stream and a day

module _ (s : Stream) (r : Row) where
  pub on_stream : Begins (cells.stream_cells s) r → stream_in r ≡ s
  on_stream b =
      let nmi : text_at r 1 ≡ s.nmi = ap bytes (begins_at (cells.stream_cells s) r b 0 (omega arith)) in
      let suffix : text_at r 2 ≡ s.suffix = ap bytes (begins_at (cells.stream_cells s) r b 1 (omega arith)) in
      λ i. record { nmi = nmi i; suffix = suffix i }

  pub stream_on : HasKeyCells r → stream_in r ≡ s → Begins (cells.stream_cells s) r
  stream_on it e = begins_by (cells.stream_cells s) r (
    it.nmi ∙ ap (λ (x : Stream). Text x.nmi) e,
    (λ n. cc),
    (it.suffix ∙ ap (λ (x : Stream). Text x.suffix) e, (λ n. cc), tt),
  )

module _ (s : Stream) (day : ℕ) (r : Row) where
  pub on_day : Begins (cells.day_cells s day) r → (stream_in r ≡ s) × (natural_at r 3 ≡ day)
  on_day b =
      let nmi : text_at r 1 ≡ s.nmi = ap bytes (begins_at (cells.day_cells s day) r b 0 (omega arith)) in
      let suffix : text_at r 2 ≡ s.suffix = ap bytes (begins_at (cells.day_cells s day) r b 1 (omega arith)) in
      let on : natural_at r 3 ≡ day =
      ap (λ v. natural (id_in v)) (begins_at (cells.day_cells s day) r b 2 (omega arith)) in
      ((λ i. record { nmi = nmi i; suffix = suffix i }), on)

  pub day_on : day < 2 ^ 63 → HasKeyCells r → stream_in r ≡ s → natural_at r 3 ≡ day → Begins (cells.day_cells s day) r
  day_on low it e d = begins_by (cells.day_cells s day) r (
    it.nmi ∙ ap (λ (x : Stream). Text x.nmi) e,
    (λ n. cc),
    (
      it.suffix ∙ ap (λ (x : Stream). Text x.suffix) e,
      (λ n. cc),
      (it.number ∙ ap Int (small (int_at r 3) day d low), (λ n. cc), tt),
    ),
  )

-- ---- rows that are shown, as facts

module _ (read : Row → Fact) where
  -- one of the rows that are shown names the fact
  abbrev pub Tells : List Row → Fact → Type 0
  Tells rows f = (row : Row) × Member row rows × (read (Null ∷ row) ≡ f)

  module _ (tree : ℕ) (key : Row) (places : List ℕ) (trees : Trees) (rows : List Row)
      (sel : Selects tree key places trees rows)
      (whole : (r : Row) → read (Null ∷ map (column r) places) ≡ read r)
      (On : Fact → Type 0)
      (on : (r : Row) → Member r (trees tree) → Begins key r ↔ On (read r)) where
    pub told : (f : Fact) → Tells rows f → Names read (trees tree) f × On f
    told f t =
        let s = (sel t.0).0 t.1 in
        let is : read s.0 ≡ f = sym (whole s.0) ∙ ap (λ r. read (Null ∷ r)) (sym s.3) ∙ t.2 in
        ((s.0, s.1, is), subst On is ((on s.0 s.1).0 s.2))

    pub tells : (f : Fact) → Names read (trees tree) f → On f → Tells rows f
    tells f n o = (
      map (column n.0) places,
      (sel (map (column n.0) places)).1 (n.0, n.1, (on n.0 n.1).1 (subst On (sym n.2) o), refl),
      whole n.0 ∙ n.2,
    )

-- one row more, with its version
one_more : (minutes : ℕ) (rows : List Row) (vs : List (ℕ × Version)) (row : Row) (v : ℕ × Version) → AreVersionsIn minutes rows vs
    → SaysVersion minutes row v → AreVersionsIn minutes (rows ++ row ∷ []) (vs ++ v ∷ [])
one_more minutes [] [] row v are says = (says, tt)
one_more minutes [] (w ∷ vs) row v are says = absurd are
one_more minutes (r ∷ rows) [] row v are says = absurd are
one_more minutes (r ∷ rows) (w ∷ vs) row v are says = (are.0, one_more minutes rows vs row v are.1 says)

pub listed_more : (minutes : ℕ) (rows : List Row) (i : ℕ) (row : Row) (vs new : List (ℕ × Version)) (v : ℕ × Version) → i < length rows
    → row ≡ slice_index_or rows i row → AreVersionsIn minutes (take i rows) vs → SaysVersion minutes row v → new ≡ vs ++ v ∷ []
    → AreVersionsIn minutes (take (i + 1) rows) new
listed_more minutes rows i row vs new v l is are says more =
    let rest : take (i + 1) rows ≡ take i rows ++ row ∷ [] =
    take_more rows i row l ∙ ap (λ x. take i rows ++ x ∷ []) (sym is) in
    subst (λ rs. AreVersionsIn minutes rs new) (sym rest)
    (subst (AreVersionsIn minutes (take i rows ++ row ∷ [])) (sym more) (one_more minutes (take i rows) vs row v are says))

-- where the version of a fact stands, and its reading
abbrev key_of : Key → Fact → Key
key_of none (VersionIs key reading) = key
key_of none _ = none

abbrev reading_of : ReadingValue → Fact → ReadingValue
reading_of none (VersionIs key reading) = reading
reading_of none _ = none

-- two versions are the same where they are but for their lengths, and have one length
same_version : (a b : Key) (r t : ReadingValue) → VersionIs (lengthless a) r ≡ VersionIs (lengthless b) t → a.length ≡ b.length
    → VersionIs a r ≡ VersionIs b t
same_version a b r t e of =
    let at : lengthless a ≡ lengthless b = ap (key_of (lengthless a)) e in
    let same : r ≡ t = ap (reading_of r) e in
    λ i. VersionIs (key_at (at i).stream (at i).day (of i) (at i).interval (at i).update) (same i)

-- and the other way round
lengthless_same : (a b : Key) (r t : ReadingValue) → VersionIs a r ≡ VersionIs b t
    → (VersionIs (lengthless a) r ≡ VersionIs (lengthless b) t) × (a.length ≡ b.length)
lengthless_same a b r t e =
    let at : a ≡ b = ap (key_of a) e in
    let same : r ≡ t = ap (reading_of r) e in
    ((λ i. VersionIs (lengthless (at i)) (same i)), ap (λ (k : Key). k.length) at)

module _ (layout : Layout) (s : Stream) (day : ℕ) (low : day < 2 ^ 63) (trees : Trees) (sound : IsSound (schema_with layout.more) trees) where
  pub head_on : (r : Row) → Member r (trees 2) → Begins (cells.day_cells s day) r ↔ IsOn s day (head_fact r)
  head_on r m = ((λ b. on_day s day r b), (λ o. day_on s day r low (head_row layout.more trees sound r m) o.0 o.1))

  pub version_on : (r : Row) → Member r (trees 4) → Begins (cells.day_cells s day) r ↔ IsOn s day (version_fact r)
  version_on r m = ((λ b. on_day s day r b), (λ o. day_on s day r low (version_row layout.more trees sound r m) o.0 o.1))

  abbrev key_in : ℕ × Version → Key
  key_in v = key_at s day v.1.length v.0 v.1.update

  version_is : (minutes : ℕ) (row : Row) (v : ℕ × Version) → SaysVersion minutes row v → IsOn s day (version_fact (Null ∷ row))
      → version_fact (Null ∷ row) ≡ VersionIs (lengthless (key_in v)) v.1.reading
  version_is minutes row v says on =
      let o : (says.0.stream ≡ s) × (says.0.day ≡ day) = subst (IsOn s day) says.1 on in
      says.1 ∙ ap (λ k. VersionIs k v.1.reading)
      (λ i. key_at (o.0 i) (o.1 i) 0 (says.2 i) (says.3 i))

  -- The versions of rows of a day are those that the rows tell, with the length that the rows don't say.
  pub listed : (minutes : ℕ) (rows : List Row) (vs : List (ℕ × Version)) → AreVersionsIn minutes rows vs
      → ((f : Fact) → Tells version_fact rows f → IsOn s day f)
      → (key : Key) (reading : ReadingValue)
      → (Tells version_fact rows (VersionIs (lengthless key) reading) × (key.length ≡ minutes)) ↔ Member (VersionIs key reading) (map (row_fact s day) vs)
  listed minutes [] [] are on key reading = ((λ t. absurd t.0.1), (λ m. absurd m))
  listed minutes [] (v ∷ vs) are on key reading = absurd are
  listed minutes (row ∷ rows) [] are on key reading = absurd are
  listed minutes (row ∷ rows) (v ∷ vs) are on key reading =
      let is : version_fact (Null ∷ row) ≡ VersionIs (lengthless (key_in v)) v.1.reading =
      version_is minutes row v are.0 (on (version_fact (Null ∷ row)) (row, inl refl, refl)) in
      let of : v.1.length ≡ minutes = are.0.4 in
      let rest = listed minutes rows vs are.1 (λ g t. on g (t.0, inr t.1, t.2)) key reading in (
        (λ t. elim t.0.1 [
          | inl e ↦
              inl (same_version key (key_in v) reading v.1.reading (sym t.0.2 ∙ ap (λ r. version_fact (Null ∷ r)) e ∙ is) (t.1 ∙ sym of))
          | inr m ↦ inr (rest.0 ((t.0.0, m, t.0.2), t.1))
        ]),
        (λ m. elim m [
          | inl e ↦
              let same = lengthless_same key (key_in v) reading v.1.reading e in
              ((row, inl refl, is ∙ sym same.0), same.1 ∙ of)
          | inr n ↦ let t = rest.1 n in ((t.0.0, inr t.0.1, t.0.2), t.1)
        ]),
      )

-- the fact is an event of a day
abbrev pub IsEventOn : Stream → ℕ → Fact → Type 0
IsEventOn s day (HeadIs head) = ⊥
IsEventOn s day (VersionIs key reading) = ⊥
IsEventOn s day (DetailIs detail) = ⊥
IsEventOn s day (EventIs event) = IsEventOf s day event
IsEventOn s day (PeriodIs key content) = ⊥
IsEventOn s day (HolidayIs date) = ⊥
IsEventOn s day (JobIs id content count) = ⊥

module _ (layout : Layout) (s : Stream) (day : ℕ) (low : day < 2 ^ 63) (trees : Trees) (sound : IsSound (schema_with layout.more) trees) where
  event_on : (r : Row) → Member r (trees 8) → Begins (cells.day_cells s day) r ↔ IsEventOn s day (event_fact r)
  event_on r m = (
    (λ b. let o = on_day s day r b in (ap (λ (x : Stream). x.nmi) o.0, ap (λ (x : Stream). x.suffix) o.0, o.1)),
    (λ o. day_on s day r low (event_row layout.more trees sound r m).keyed (λ i. record { nmi = o.0 i; suffix = o.1 i }) o.2),
  )

  -- the events of a day
  pub finds_events : (rows : List Row)
      → Selects 8 (cells.day_cells s day) (1 ∷ 2 ∷ 3 ∷ 4 ∷ 5 ∷ 6 ∷ 7 ∷ []) trees rows
      → (events : List EventValue) → AreEventsIn rows events → Apart events
      → AreEventsOf (world_with layout trees) s day events
  finds_events rows sel events are apart = record {
    each = λ event. (
      (λ m.
          let t = told event_fact 8 _ (1 ∷ 2 ∷ 3 ∷ 4 ∷ 5 ∷ 6 ∷ 7 ∷ []) trees rows sel (λ r. refl) (IsEventOn s day) event_on
          (EventIs event) ((are event).0 m) in
          ((of_event layout trees event).1 t.0, t.1)),
      (λ p. (are event).1 (tells event_fact 8 _ (1 ∷ 2 ∷ 3 ∷ 4 ∷ 5 ∷ 6 ∷ 7 ∷ []) trees rows sel (λ r. refl) (IsEventOn s day)
          event_on (EventIs event) ((of_event layout trees event).0 p.0) p.1)),
    );
    apart = apart;
  }

-- ---- one row that has all cells

abbrev event_at : Row → EventValue
event_at r = record {
  nmi = text_at r 1;
  suffix = text_at r 2;
  day = natural_at r 3;
  trans = letter_in (text_at r 4);
  ticket = text_at r 5;
  moment = optional_at r 6;
  reading = text_at r 7;
}

event_is : (r : Row) (v : EventValue) → event_fact r ≡ EventIs v → event_at r ≡ v
event_is r v e = cc

pub any_shown : (rows : List Row) (r : Row) → Member r rows → rows ≢ []
any_shown [] r m = absurd m
any_shown (x ∷ xs) r m = λ e. cc

pub first_shown : (rows : List Row) → rows ≢ [] → (r : Row) × Member r rows
first_shown [] n = absurd (n refl)
first_shown (x ∷ xs) n = (x, inl refl)

module _ (layout : Layout) (trees : Trees) (sound : IsSound (schema_with layout.more) trees) where
  module _ (v : EventValue) (low : v.day < 2 ^ 63) (trans : (n : ℕ) → v.trans ≡ Some n → n < 2 ^ 63)
      (moment : (n : ℕ) → v.moment ≡ Some n → n < 2 ^ 63) where
    event_begins : (r : Row) → Member r (trees 8) → Begins (cells.event_cells v) r ↔ (event_fact r ≡ EventIs v)
    event_begins r m =
        let it = event_row layout.more trees sound r m in (
          (λ b.
              let at = begins_at (cells.event_cells v) r b in
              let nmi : text_at r 1 ≡ v.nmi = ap bytes (at 0 (omega arith)) in
              let suffix : text_at r 2 ≡ v.suffix = ap bytes (at 1 (omega arith)) in
              let day : natural_at r 3 ≡ v.day = ap (λ c. natural (id_in c)) (at 2 (omega arith)) in
              let letter : letter_in (text_at r 4) ≡ v.trans =
              ap (λ c. letter_in (bytes c)) (at 3 (omega arith)) ∙ letter_back v.trans in
              let ticket : text_at r 5 ≡ v.ticket = ap bytes (at 4 (omega arith)) in
              let read_at : optional_at r 6 ≡ v.moment =
              ap (λ c. optional (id_in c)) (at 5 (omega arith)) ∙ optional_back v.moment in
              let index : text_at r 7 ≡ v.reading = ap bytes (at 6 (omega arith)) in
              λ i. EventIs (record {
                nmi = nmi i;
                suffix = suffix i;
                day = day i;
                trans = letter i;
                ticket = ticket i;
                moment = read_at i;
                reading = index i;
              })),
          (λ e.
              let same = event_is r v e in
              begins_by (cells.event_cells v) r (
                it.keyed.nmi ∙ ap (λ (x : EventValue). Text x.nmi) same,
                (λ n. cc),
                (
                  it.keyed.suffix ∙ ap (λ (x : EventValue). Text x.suffix) same,
                  (λ n. cc),
                  (
                    it.keyed.number ∙ ap Int (small (int_at r 3) v.day (ap (λ (x : EventValue). x.day) same) low),
                    (λ n. cc),
                    (
                      it.trans ∙ ap Text (small_letter (text_at r 4) v.trans (ap (λ (x : EventValue). x.trans) same) trans),
                      (λ n. cc),
                      (
                        it.ticket ∙ ap (λ (x : EventValue). Text x.ticket) same,
                        (λ n. cc),
                        (
                          it.moment ∙ small_option (int_at r 6) v.moment (ap (λ (x : EventValue). x.moment) same) moment,
                          (λ n. some_cell v.moment n),
                          (it.reading ∙ ap (λ (x : EventValue). Text x.reading) same, (λ n. cc), tt),
                        ),
                      ),
                    ),
                  ),
                ),
              )),
        )

    -- whether the event is kept
    pub finds_event : (rows : List Row) → Selects 8 (cells.event_cells v) (1 ∷ []) trees rows
        → rows ≢ [] ↔ (EventIs v ∈ world_with layout trees)
    finds_event rows sel = (
      (λ n.
          let f = first_shown rows n in
          let s = (sel f.0).0 f.1 in
          (of_event layout trees v).1 (s.0, s.1, (event_begins s.0 s.1).0 s.2)),
      (λ h.
          let n = (of_event layout trees v).0 h in
          any_shown rows (column n.0 1 ∷ [])
          ((sel (column n.0 1 ∷ [])).1 (n.0, n.1, (event_begins n.0 n.1).1 n.2, refl))),
    )
