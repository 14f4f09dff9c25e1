-- What the rows of a day say of a World.
use Rattle.std.proofs.Common.{◌≡◌, ◌↔◌, ◌<◌, ◌^◌, ◌+◌, inl, inr, ℕ, List, [], ◌∷◌, length, map, Option, Some, None, refl, sym, ap, subst, ◌∙◌, arith, unwrap_or}
use Rattle.std.specs.List.{flat_map}
use Rattle.sqlite_catalog.specs.Listing.{IsSound}
use Rattle.sqlite_trees.specs.Tree.{Trees}
use Rattle.sqlite_value.specs.Order.{Row, column}
use Rattle.mds_names.specs.declared.stream.Stream.{Stream}
use Rattle.mds_quantity.specs.declared.unit.Unit.{Unit as MeasureUnit}
use Rattle.mds_marks.specs.Reading.{ReadingValue}
use Rattle.mds_world.specs.Facts.{Fact, head_at, key_at}
use Rattle.mds_world.specs.Facts.Fact.{DetailIs, EventIs, HeadIs, HolidayIs, JobIs, PeriodIs, VersionIs}
use Rattle.mds_world.specs.Lists.{Member}
use Rattle.mds_world.specs.Sets.{◌∈◌}
use Rattle.mds_world.specs.World.{IsOn, World}
use Rattle.mds_world.specs.declared.facts.Head.{Head}
use Rattle.mds_world.specs.declared.facts.Key.{Key}
use Rattle.mds_world.specs.declared.facts.StreamDay.{StreamDay}
use Rattle.mds_world.proofs.Lists.{append_left, append_right, flat_in, in_flat, in_map, map_in, member_append}
use Rattle.mds_world.proofs.Members.{in_list, list_in}
use Rattle.mds_keeper.specs.Books.{BookValue, IsDay, book_facts, book_world, row_fact, row_head}
use Rattle.mds_tables.specs.Cells.{day_cells}
use Rattle.mds_tables.specs.RowFacts.{natural_at, stream_in, text_at, unit_named}
use Rattle.mds_tables.specs.Stores.{Selects}
use Rattle.mds_tables.specs.Tables.{form_tree, head_tree}
use Rattle.mds_tables.proofs.Named.{of_version}
use Rattle.mds_tables.proofs.Listed.{day_on, on_day}
use Rattle.mds_tables.proofs.TypedRows.{head_row}
use Rattle.mds_pack_rows.specs.Current.{current_layout, current_more, current_packs, current_schema, current_world}
use Rattle.mds_pack_rows.specs.DayRows.{shown_facts}
use Rattle.mds_pack_rows.specs.FormLayout.{unit_in}
use Rattle.mds_pack_rows.specs.PackFacts.{body_facts, facts_from, minutes_of, pack_facts, pack_versions, readings_in}
use Rattle.mds_pack_rows.specs.PackTables.{pack_tree}
use Rattle.mds_pack_rows.proofs.AskLemmas.{pack_row}
use Rattle.mds_commit.specs.FormRows.{IsBookOf, shown_head, unit_columns}
use Rattle.mds_commit.proofs.FormNamed.{form_head, form_named, form_row, named_form}
use Rattle.mds_commit.proofs.UnitLemmas.{unit_found}

pub no_rows : (rows : List Row) → length rows ≡ 0 → rows ≡ []
no_rows [] none = refl
no_rows (row ∷ rows) none = absurd (omega (arith, none))

-- a version of readings is of their day
pub on_from : (s : Stream) (day minutes update interval : ℕ) (rs : List (Option ReadingValue)) (f : Fact)
    → Member f (facts_from s day minutes update interval rs) → IsOn s day f
on_from s day minutes update interval [] f m = absurd m
on_from s day minutes update interval (None ∷ rs) f m = on_from s day minutes update (interval + 1) rs f m
on_from s day minutes update interval (Some r ∷ rs) f (inl e) = subst (IsOn s day) (sym e) (refl, refl)
on_from s day minutes update interval (Some r ∷ rs) f (inr m) = on_from s day minutes update (interval + 1) rs f m

-- a book that says the same is the same day's
same_day : (w : World) (book other : BookValue) → book.stream ≡ other.stream → book.day ≡ other.day
    → book_world book ≡ book_world other → IsDay w other → IsDay w book
same_day w book other stream day says is = record {
  whole = λ f on h.
      subst (λ v. f ∈ v) (sym says)
      (is.whole f (subst (λ d. IsOn other.stream d f) day (subst (λ s. IsOn s book.day f) stream on)) h);
  only = λ f h. is.only f (subst (λ v. f ∈ v) says h);
}

module _ (s : Stream) (day : ℕ) (low : day < 2 ^ 63) (trees : Trees) (sound : IsSound current_schema trees) where
  -- The unit that the only row of mds_head of a day says is that of its heads.
  pub only_unit : (units : List Row) → Selects head_tree (day_cells s day) unit_columns trees units → (shown : Row) → units ≡ shown ∷ []
      → (row : Row) → stream_in row ≡ s → natural_at row 3 ≡ day → unit_in (trees head_tree) row ≡ unit_named (text_at shown 0)
  only_unit units sel shown alone row stream on =
      let it = (sel shown).0 (subst (Member shown) (sym alone) (inl refl)) in
      let at = on_day s day it.0 it.2 in
      unit_found (trees head_tree) row (unit_named (text_at shown 0)) it.0 it.1
      (λ i. record { stream = (at.0 ∙ sym stream) i; day = (at.1 ∙ sym on) i })
      (λ other m same.
      let begins = day_on s day other low (head_row current_more trees sound other m) (ap (λ (d : StreamDay). d.stream) same ∙ stream)
      (ap (λ (d : StreamDay). d.day) same ∙ on) in
      let here : Member (column other 5 ∷ []) (shown ∷ []) =
      subst (Member (column other 5 ∷ [])) alone ((sel (column other 5 ∷ [])).1 (other, m, begins, refl)) in
      elim here [ inl e ↦ ap (λ r. unit_named (text_at r 0)) e | inr z ↦ absurd z ])

  -- The rows that are shown of a day begin with its update, and with the length or the body. More columns may stand behind them.
  module _ (unit : MeasureUnit) (forms packs : List Row) (more : List ℕ) (of_forms : Selects form_tree (day_cells s day) (4 ∷ 5 ∷ more) trees forms)
      (of_packs : Selects pack_tree (day_cells s day) (4 ∷ 5 ∷ more) trees packs)
      (of_unit : (row : Row) → Member row (trees form_tree) → stream_in row ≡ s → natural_at row 3 ≡ day → unit_in (trees head_tree) row ≡ unit) where
    -- ---- heads

    abbrev IsHeadHere : Head → Type 0
    IsHeadHere head = (HeadIs head ∈ current_world trees) × (head.stream ≡ s) × (head.day ≡ day)

    -- what a row of the day says is what is shown of it
    same_head : (r : Row) → Member r (trees form_tree) → stream_in r ≡ s → natural_at r 3 ≡ day
        → form_head (trees head_tree) r ≡ head_at s day (natural_at r 4) (natural_at r 5) unit
    same_head r m stream on = λ i. head_at (stream i) (on i) (natural_at r 4) (natural_at r 5) (of_unit r m stream on i)

    head_shown : (head : Head) → IsHeadHere head → Member (HeadIs head) (map (shown_head s day unit) forms)
    head_shown head p =
        let n = form_named trees head p.0 in
        let r = n.0 in
        let stream : stream_in r ≡ s = ap (λ (h : Head). h.stream) n.2 ∙ p.1 in
        let on : natural_at r 3 ≡ day = ap (λ (h : Head). h.day) n.2 ∙ p.2 in
        let shown = map (column r) (4 ∷ 5 ∷ more) in
        let there = (of_forms shown).1 (r, n.1, day_on s day r low (form_row trees sound r n.1) stream on, refl) in
        subst (λ h. Member (HeadIs h) (map (shown_head s day unit) forms)) (sym (same_head r n.1 stream on) ∙ n.2)
        (map_in (shown_head s day unit) forms shown there)

    shown_is : (f : Fact) → Member f (map (shown_head s day unit) forms) → (head : Head) × (f ≡ HeadIs head) × IsHeadHere head
    shown_is f m =
        let n = in_map (shown_head s day unit) forms f m in
        let row = (of_forms n.0).0 n.1 in
        let r = row.0 in
        let at = on_day s day r row.2 in
        let head : Head = head_at s day (natural_at r 4) (natural_at r 5) unit in (
          head,
          n.2 ∙ ap (shown_head s day unit) row.3,
          (named_form trees r row.1 head (same_head r row.1 at.0 at.1), refl, refl),
        )

    -- ---- versions

    abbrev IsVersionHere : Key → ReadingValue → Type 0
    IsVersionHere key reading = (VersionIs key reading ∈ current_world trees) × (key.stream ≡ s) × (key.day ≡ day)

    abbrev held : Row → List (Option ReadingValue)
    held r = unwrap_or (readings_in (text_at r 5)) []

    same_day_facts : (r : Row) → stream_in r ≡ s → natural_at r 3 ≡ day → pack_facts r ≡ shown_facts s day (map (column r) (4 ∷ 5 ∷ more))
    same_day_facts r stream on = λ i. body_facts (stream i) (on i) (natural_at r 4) (text_at r 5)

    -- a version is said by mds_pack
    said : (key : Key) (reading : ReadingValue) → (VersionIs key reading ∈ current_world trees) ↔ Member (VersionIs key reading) (pack_versions trees)
    said key reading =
        let own = of_version current_layout trees key reading in
        let packed = current_packs.versions trees key reading in
        (λ m. packed.0 (own.0 m), λ m. own.1 (packed.1 m))

    version_shown : (key : Key) (reading : ReadingValue) → IsVersionHere key reading → Member (VersionIs key reading) (flat_map (shown_facts s day) packs)
    version_shown key reading p =
        let f : Fact = VersionIs key reading in
        let here = in_flat pack_facts (trees pack_tree) f ((said key reading).0 p.0) in
        let r = here.0 in
        let at = on_from (stream_in r) (natural_at r 3) (minutes_of (length (held r))) (natural_at r 4) 1 (held r) f here.2 in
        let stream : stream_in r ≡ s = sym at.0 ∙ p.1 in
        let on : natural_at r 3 ≡ day = sym at.1 ∙ p.2 in
        let shown = map (column r) (4 ∷ 5 ∷ more) in
        let begins = day_on s day r low (pack_row current_packs.rest.more trees sound r here.1) stream on in
        flat_in (shown_facts s day) packs f shown ((of_packs shown).1 (r, here.1, begins, refl)) (subst (Member f) (same_day_facts r stream on) here.2)

    shown_version : (key : Key) (reading : ReadingValue) → Member (VersionIs key reading) (flat_map (shown_facts s day) packs)
        → VersionIs key reading ∈ current_world trees
    shown_version key reading m =
        let f : Fact = VersionIs key reading in
        let here = in_flat (shown_facts s day) packs f m in
        let row = (of_packs here.0).0 here.1 in
        let r = row.0 in
        let at = on_day s day r row.2 in
        let says : Member f (shown_facts s day (map (column r) (4 ∷ 5 ∷ more))) = subst (λ x. Member f (shown_facts s day x)) row.3 here.2 in
        (said key reading).1 (flat_in pack_facts (trees pack_tree) f r row.1 (subst (Member f) (sym (same_day_facts r at.0 at.1)) says))

    -- ---- the book

    module _ (book : BookValue) (is : IsBookOf s day unit forms packs book) where
      abbrev made : BookValue
      made = record { stream = s; day = day; unit = Some unit; rows = is.versions }

      abbrev heads : List Fact
      heads = map (row_head s day unit) is.versions

      abbrev versions : List Fact
      versions = map (row_fact s day) is.versions

      whole : (f : Fact) → IsOn s day f → f ∈ current_world trees → f ∈ book_world made
      whole (HeadIs head) on h =
          list_in (book_facts made) (HeadIs head)
          (append_left (HeadIs head) heads versions ((is.under.heads s day unit (HeadIs head)).1 (head_shown head (h, on.0, on.1))))
      whole (VersionIs key reading) on h =
          let f : Fact = VersionIs key reading in
          list_in (book_facts made) f
          (append_right f heads versions (subst (Member f) (sym (is.under.held s day)) (version_shown key reading (h, on.0, on.1))))
      whole (DetailIs detail) on h = absurd on
      whole (EventIs event) on h = absurd on
      whole (PeriodIs key content) on h = absurd on
      whole (HolidayIs date) on h = absurd on
      whole (JobIs id content count) on h = absurd on

      only : (f : Fact) → f ∈ book_world made → f ∈ current_world trees
      only f h = elim (member_append f heads versions (in_list (book_facts made) f h)) [
        | inl a ↦
            let it = shown_is f ((is.under.heads s day unit f).0 a) in
            subst (λ g. g ∈ current_world trees) (sym it.1) it.2.0
        | inr b ↦
            let v = in_map (row_fact s day) is.versions f b in
            subst (λ g. g ∈ current_world trees) (sym v.2)
            (shown_version (key_at s day v.0.1.length v.0.0 v.0.1.update) v.0.1.reading
            (subst (Member (row_fact s day v.0)) (is.under.held s day) (map_in (row_fact s day) is.versions v.0 v.1)))
      ]

      -- The book that is made of the rows of a day is that day of the World.
      pub is_day : IsDay (current_world trees) book
      is_day = same_day (current_world trees) book made is.stream is.on is.says (record { whole = whole; only = only })

  -- a day without a row of mds_form isn't known
  pub no_day : (forms packs : List Row) → Selects form_tree (day_cells s day) (4 ∷ 5 ∷ []) trees forms
      → Selects pack_tree (day_cells s day) (4 ∷ 5 ∷ []) trees packs → forms ≡ [] → (book : BookValue)
      → ((unit : MeasureUnit) → IsBookOf s day unit [] packs book) → IsDay (current_world trees) book
  no_day forms packs of_forms of_packs none book is =
      let unit = unit_named [] in
      is_day unit forms packs [] of_forms of_packs
      (λ row m stream on.
      let shown = column row 4 ∷ column row 5 ∷ [] in
      absurd (subst (Member shown) none ((of_forms shown).1 (row, m, day_on s day row low (form_row trees sound row m) stream on, refl))))
      book (subst (λ rows. IsBookOf s day unit rows packs book) (sym none) (is unit))
