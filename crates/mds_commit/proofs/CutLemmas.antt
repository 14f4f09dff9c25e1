-- What rows of a range of days say of a World, once they are cut by day.
use Rattle.std.proofs.Common.{◌≡◌, ◌<◌, ◌≢◌, ◌≤◌, ◌^◌, ◌+◌, inl, inr, suc, zero, ℕ, List, [], ◌∷◌, ◌++◌, length, map, slice_index_or, take, append_assoc, refl, sym, ap, subst, ◌∙◌, arith}
use Rattle.std.proofs.lemmas.Grind.{flat_map-append}
use Rattle.std.proofs.lemmas.List.{append-nil, map-append, take_all, take_more}
use Rattle.std.proofs.lemmas.List.Quantifiers.{all_pairs_push}
use Rattle.std.specs.List.{flat_map}
use Rattle.sqlite_catalog.specs.Listing.{IsSound}
use Rattle.sqlite_trees.specs.Tree.{Trees}
use Rattle.sqlite_value.specs.Order.{Row, column}
use Rattle.mds_names.specs.declared.stream.Stream.{Stream}
use Rattle.mds_quantity.specs.declared.unit.Unit.{Unit as MeasureUnit}
use Rattle.mds_world.specs.Lists.{Member}
use Rattle.mds_world.specs.World.{IsKnownDay}
use Rattle.mds_world.specs.declared.facts.Head.{Head}
use Rattle.mds_world.specs.declared.facts.StreamDay.{StreamDay}
use Rattle.mds_world.proofs.Lists.{append_left, append_right, flat_in, in_flat, in_map, map_in, member_append}
use Rattle.mds_keeper.specs.Books.{BookValue, IsDay}
use Rattle.mds_keeper.specs.Queries.{AreDaysOf}
use Rattle.mds_tables.specs.Cells.{day_cells}
use Rattle.mds_tables.specs.RowFacts.{natural_at, stream_in}
use Rattle.mds_tables.specs.Stores.{Begins, Selects}
use Rattle.mds_tables.specs.Tables.{form_tree, head_tree}
use Rattle.mds_tables.proofs.Adding.{member_at}
use Rattle.mds_tables.proofs.Listed.{day_on, first_shown, on_day}
use Rattle.mds_tables.proofs.TypedRows.{head_row}
use Rattle.mds_pack_rows.specs.Current.{current_more, current_schema, current_world}
use Rattle.mds_pack_rows.specs.FormLayout.{unit_in}
use Rattle.mds_pack_rows.specs.PackTables.{pack_tree}
use Rattle.mds_commit.specs.Cuts.{AddsDay, AreCut, DayCut, DaysAscend, IsCut, day_columns, day_unit, range_columns}
use Rattle.mds_commit.specs.FormRows.{IsBookOf}
use Rattle.mds_commit.specs.Ranges.{AreOfDay, SelectsRange}
use Rattle.mds_commit.proofs.DayLemmas as of_day
use Rattle.mds_commit.proofs.FormNamed.{form_head, form_named, form_row, named_form}
use Rattle.mds_commit.proofs.InOrder.{Ascend, ascend_map, is_earlier, of_all, same_one}
use Rattle.mds_commit.proofs.UnitLemmas.{unit_found}

-- ---- books that are cut one after the other

abbrev Day : Type 0
Day = ℕ × MeasureUnit

abbrev its_day : DayCut → ℕ
its_day cut = cut.book.day

abbrev its_book : DayCut → BookValue
its_book cut = cut.book

abbrev its_forms : DayCut → List Row
its_forms cut = cut.forms

abbrev its_packs : DayCut → List Row
its_packs cut = cut.packs

-- a day and its unit that are read one after the other from a place
pub both_at : (days : List Day) (i : ℕ) (a b d : Day) → i < length days
    → ((slice_index_or days i a).0, (slice_index_or days i b).1) ≡ slice_index_or days i d
both_at [] i a b d low = absurd (omega (arith, low))
both_at (x ∷ days) zero a b d low = refl
both_at (x ∷ days) (suc i) a b d low = both_at days i a b d (omega (arith, low))

pub none_cut : (s : Stream) (books : List BookValue) → books ≡ [] → AreCut s [] [] [] books
none_cut s books none = record {
  cuts = [];
  each = λ cut m. absurd m;
  ascending = λ i j d less low. absurd (omega (arith, low));
  of_books = none;
  of_forms = refl;
  of_packs = refl;
}

module _ (s : Stream) (days : List Day) (up : DaysAscend days) (i : ℕ) (low : i < length days) (day : ℕ) (unit : MeasureUnit)
    (here : (day, unit) ≡ slice_index_or days i (day, unit)) where
  abbrev before : List Day
  before = take i days

  front : take (i + 1) days ≡ before ++ (day, unit) ∷ []
  front = take_more days i (day, unit) low ∙ ap (λ x. before ++ x ∷ []) (sym here)

  wider : (cut : DayCut) → IsCut s before cut → IsCut s (take (i + 1) days) cut
  wider cut is = record {
    listed = subst (Member (cut.book.day, cut.unit)) (sym front) (append_left (cut.book.day, cut.unit) before ((day, unit) ∷ []) is.listed);
    some = is.some;
    of_forms = is.of_forms;
    of_packs = is.of_packs;
    made = is.made;
  }

  -- a day that isn't known adds nothing
  skips : (forms packs mine_forms mine_packs : List Row) (books new : List BookValue) → AreCut s before forms packs books
      → mine_forms ≡ [] → mine_packs ≡ [] → new ≡ books → AreCut s (take (i + 1) days) (forms ++ mine_forms) (packs ++ mine_packs) new
  skips forms packs mine_forms mine_packs books new are no_forms no_packs same = record {
    cuts = are.cuts;
    each = λ cut m. wider cut (are.each cut m);
    ascending = are.ascending;
    of_books = same ∙ are.of_books;
    of_forms = ap (λ rows. forms ++ rows) no_forms ∙ append-nil forms ∙ are.of_forms;
    of_packs = ap (λ rows. packs ++ rows) no_packs ∙ append-nil packs ∙ are.of_packs;
  }

  module _ (mine_forms mine_packs : List Row) (book : BookValue) (some : mine_forms ≢ []) (alike_forms : AreOfDay day mine_forms)
      (alike_packs : AreOfDay day mine_packs) (made : IsBookOf s day unit mine_forms mine_packs book) where
    abbrev one : DayCut
    one = record { book = book; unit = unit; forms = mine_forms; packs = mine_packs }

    is_cut : IsCut s (take (i + 1) days) one
    is_cut = record {
      listed = subst (λ d. Member (d, unit) (take (i + 1) days)) (sym made.on)
          (subst (Member (day, unit)) (sym front) (append_right (day, unit) before ((day, unit) ∷ []) (inl refl)));
      some = some;
      of_forms = subst (λ d. AreOfDay d mine_forms) (sym made.on) alike_forms;
      of_packs = subst (λ d. AreOfDay d mine_packs) (sym made.on) alike_packs;
      made = subst (λ d. IsBookOf s d unit mine_forms mine_packs book) (sym made.on) made;
    }

    -- one that is known adds its book
    adds : (forms packs : List Row) (books new : List BookValue) → AreCut s before forms packs books → new ≡ books ++ book ∷ []
        → AreCut s (take (i + 1) days) (forms ++ mine_forms) (packs ++ mine_packs) new
    adds forms packs books new are more = record {
      cuts = are.cuts ++ one ∷ [];
      each = λ cut m. elim (member_append cut are.cuts (one ∷ []) m) [
        | inl a ↦ wider cut (are.each cut a)
        | inr b ↦ elim b [ inl e ↦ subst (IsCut s (take (i + 1) days)) (sym e) is_cut | inr z ↦ absurd z ]
      ];
      ascending = all_pairs_push (λ a b. its_day a < its_day b) are.cuts one are.ascending
          (λ k d less.
          let cut = slice_index_or are.cuts k d in
          let listed = (are.each cut (member_at are.cuts k d less)).listed in
          let h : its_day cut < day = is_earlier (λ (d : Day). d.0) days up i low (its_day cut, cut.unit) (day, unit) listed here in
          let on = made.on in
          omega (arith, h, on));
      of_books = more ∙ ap (λ xs. xs ++ book ∷ []) are.of_books ∙ sym (map-append its_book are.cuts (one ∷ []));
      of_forms = ap (λ rows. rows ++ mine_forms) are.of_forms ∙ sym (flat_more its_forms are.cuts);
      of_packs = ap (λ rows. rows ++ mine_packs) are.of_packs ∙ sym (flat_more its_packs are.cuts);
    }
      where
        flat_more : (rows_of : DayCut → List Row) (cuts : List DayCut) → flat_map rows_of (cuts ++ one ∷ []) ≡ flat_map rows_of cuts ++ rows_of one
        flat_more rows_of cuts =
            flat_map-append rows_of cuts (one ∷ []) ∙ ap (λ rows. flat_map rows_of cuts ++ rows) (append-nil (rows_of one))

  -- one day more
  pub cut_more : (forms packs mine_forms mine_packs : List Row) (books new : List BookValue) → AreCut s before forms packs books
      → AreOfDay day mine_forms → AreOfDay day mine_packs → AddsDay s day unit mine_forms mine_packs books new
      → AreCut s (take (i + 1) days) (forms ++ mine_forms) (packs ++ mine_packs) new
  cut_more forms packs mine_forms mine_packs books new are of_forms of_packs (inl none) =
      skips forms packs mine_forms mine_packs books new are none.0 none.1 none.2
  cut_more forms packs mine_forms mine_packs books new are of_forms of_packs (inr more) =
      adds mine_forms mine_packs more.0 more.1 of_forms of_packs more.2 forms packs books new are more.3

-- what is cut off the front is behind what was
pub cut_off : (rows used left mine later : List Row) → rows ≡ used ++ left → left ≡ mine ++ later → rows ≡ (used ++ mine) ++ later
cut_off rows used left mine later is split = is ∙ ap (λ xs. used ++ xs) split ∙ sym (append_assoc used mine later)

-- no row is left
pub all_cut : (s : Stream) (days : List Day) (i : ℕ) (forms packs used_forms used_packs left_forms left_packs : List Row) (books : List BookValue)
    → length days ≤ i → forms ≡ used_forms ++ left_forms → packs ≡ used_packs ++ left_packs → left_forms ≡ [] → left_packs ≡ []
    → AreCut s (take i days) used_forms used_packs books → AreCut s days forms packs books
all_cut s days i forms packs used_forms used_packs left_forms left_packs books end of_forms of_packs no_forms no_packs are =
    subst (λ ds. AreCut s ds forms packs books) (take_all i days end)
    (record {
      cuts = are.cuts;
      each = are.each;
      ascending = are.ascending;
      of_books = are.of_books;
      of_forms = of_forms ∙ ap (λ rows. used_forms ++ rows) no_forms ∙ append-nil used_forms ∙ are.of_forms;
      of_packs = of_packs ∙ ap (λ rows. used_packs ++ rows) no_packs ∙ append-nil used_packs ∙ are.of_packs;
    })

-- ---- what the books are

module _ (s : Stream) (first last : ℕ) (small : last < 2 ^ 63) (trees : Trees) (sound : IsSound current_schema trees) (heads forms packs : List Row)
    (of_heads : SelectsRange head_tree s first last day_columns trees heads)
    (of_forms : SelectsRange form_tree s first last range_columns trees forms)
    (of_packs : SelectsRange pack_tree s first last range_columns trees packs) (books : List BookValue)
    (are : AreCut s (map day_unit heads) forms packs books) (up : DaysAscend (map day_unit heads)) where
  abbrev cuts : List DayCut
  cuts = are.cuts

  -- a day of the range, with the row of mds_head that says it
  record HasRow (day : ℕ) : Type 0 where
    from : first ≤ day
    to : day ≤ last
    row : Row
    there : Member row (trees head_tree)
    stream : stream_in row ≡ s
    on : natural_at row 3 ≡ day

  has_row : (cut : DayCut) → Member cut cuts → HasRow cut.book.day
  has_row cut m =
      let n = in_map day_unit heads (cut.book.day, cut.unit) (are.each cut m).listed in
      let row = (of_heads n.0).0 n.1 in
      let r = row.0 in
      let from = row.2.1 in
      let to = row.2.2 in
      let at = on_day s row.2.0 r row.2.3 in
      let on : natural_at r 3 ≡ cut.book.day = sym (ap (λ x. natural_at x 0) row.3) ∙ sym (ap (λ (d : Day). d.0) n.2) in
      let same = at.1 in
      record {
        from = omega (arith, from, on, same);
        to = omega (arith, to, on, same);
        row = r;
        there = row.1;
        stream = at.0;
        on = on;
      }

  low : (day : ℕ) → day ≤ last → day < 2 ^ 63
  low day to = omega (arith, to, small)

  -- The rows of a known day are those of a table that begin with it.
  module _ (tree : ℕ) (rows : List Row) (sel : SelectsRange tree s first last range_columns trees rows) (rows_of : DayCut → List Row)
      (all : rows ≡ flat_map rows_of cuts) (alike : (cut : DayCut) → Member cut cuts → AreOfDay cut.book.day (rows_of cut)) where
    on_its_day : (cut : DayCut) → Member cut cuts → (shown : Row) → Member shown (rows_of cut) → natural_at shown 2 ≡ cut.book.day
    on_its_day cut m = of_all (λ row. natural_at row 2 ≡ cut.book.day) (rows_of cut) (alike cut m)

    its_rows : (cut : DayCut) → Member cut cuts → Selects tree (day_cells s cut.book.day) range_columns trees (rows_of cut)
    its_rows cut m shown = (
      (λ n.
          let row = (sel shown).0 (subst (Member shown) (sym all) (flat_in rows_of cuts shown cut m n)) in
          let is : row.2.0 ≡ cut.book.day =
          sym (on_day s row.2.0 row.0 row.2.3).1 ∙ sym (ap (λ r. natural_at r 2) row.3) ∙ on_its_day cut m shown n in
          (row.0, row.1, subst (λ d. Begins (day_cells s d) row.0) is row.2.3, row.3)),
      (λ row.
          let has = has_row cut m in
          let there = (sel shown).1 (row.0, row.1, (cut.book.day, has.from, has.to, row.2), row.3) in
          let here = in_flat rows_of cuts shown (subst (Member shown) all there) in
          let is : here.0.book.day ≡ cut.book.day =
          sym (on_its_day here.0 here.1 shown here.2) ∙ ap (λ r. natural_at r 2) row.3 ∙ (on_day s cut.book.day row.0 row.2).1 in
          subst (λ c. Member shown (rows_of c)) (same_one its_day cuts are.ascending here.0 cut here.1 m is) here.2),
    )

  -- the unit of a known day is the one that mds_head says of it
  its_unit : (cut : DayCut) → Member cut cuts → (row : Row) → Member row (trees form_tree) → stream_in row ≡ s → natural_at row 3 ≡ cut.book.day
      → unit_in (trees head_tree) row ≡ cut.unit
  its_unit cut m row there stream on =
      let has = has_row cut m in
      let day = cut.book.day in
      let of_stream = has.stream in
      let of_on = has.on in
      unit_found (trees head_tree) row cut.unit has.row has.there
      (λ i. record { stream = (of_stream ∙ sym stream) i; day = (of_on ∙ sym on) i })
      (λ other n same.
      let begins = day_on s day other (low day has.to) (head_row current_more trees sound other n) (ap (λ (d : StreamDay). d.stream) same ∙ stream)
      (ap (λ (d : StreamDay). d.day) same ∙ on) in
      let shown = map (column other) day_columns in
      let listed = (of_heads shown).1 (other, n, (day, has.from, has.to, begins), refl) in
      let one = same_one (λ (d : Day). d.0) (map day_unit heads) up (day_unit shown) (day, cut.unit) (map_in day_unit heads shown listed)
      (are.each cut m).listed (ap (λ (d : StreamDay). d.day) same ∙ on) in
      ap (λ (d : Day). d.1) one)

  forms_of : (cut : DayCut) → Member cut cuts → Selects form_tree (day_cells s cut.book.day) range_columns trees cut.forms
  forms_of = its_rows form_tree forms of_forms its_forms are.of_forms (λ cut m. (are.each cut m).of_forms)

  packs_of : (cut : DayCut) → Member cut cuts → Selects pack_tree (day_cells s cut.book.day) range_columns trees cut.packs
  packs_of = its_rows pack_tree packs of_packs its_packs are.of_packs (λ cut m. (are.each cut m).of_packs)

  is_day : (cut : DayCut) → Member cut cuts → (cut.book.stream ≡ s) × IsDay (current_world trees) cut.book
  is_day cut m =
      let it = are.each cut m in
      let has = has_row cut m in (
        it.made.stream,
        of_day.is_day s cut.book.day (low cut.book.day has.to) trees sound cut.unit cut.forms cut.packs (3 ∷ []) (forms_of cut m) (packs_of cut m)
            (its_unit cut m) cut.book it.made,
      )

  -- its day is known
  is_known : (cut : DayCut) → Member cut cuts → (first ≤ cut.book.day) × (cut.book.day ≤ last) × IsKnownDay (current_world trees) s cut.book.day
  is_known cut m =
      let has = has_row cut m in
      let shown = first_shown cut.forms (are.each cut m).some in
      let row = (forms_of cut m shown.0).0 shown.1 in
      let at = on_day s cut.book.day row.0 row.2 in
      let head = form_head (trees head_tree) row.0 in
      (has.from, has.to, (head, named_form trees row.0 row.1 head refl, at.0, at.1))

  -- the cut that a book is of
  cut_of : (book : BookValue) → Member book books → (cut : DayCut) × Member cut cuts × (book ≡ cut.book)
  cut_of book m = in_map its_book cuts book (subst (Member book) are.of_books m)

  -- a known day has a book
  has_book : (day : ℕ) → first ≤ day → day ≤ last → IsKnownDay (current_world trees) s day → Member day (map (λ book. book.day) books)
  has_book day from to known =
      let n = form_named trees known.0 known.1 in
      let r = n.0 in
      let stream : stream_in r ≡ s = ap (λ (h : Head). h.stream) n.2 ∙ known.2 in
      let on : natural_at r 3 ≡ day = ap (λ (h : Head). h.day) n.2 ∙ known.3 in
      let shown = map (column r) range_columns in
      let begins = day_on s day r (low day to) (form_row trees sound r n.1) stream on in
      let there = (of_forms shown).1 (r, n.1, (day, from, to, begins), refl) in
      let here = in_flat its_forms cuts shown (subst (Member shown) are.of_forms there) in
      let is : here.0.book.day ≡ day =
      sym (of_all (λ row. natural_at row 2 ≡ here.0.book.day) here.0.forms (are.each here.0 here.1).of_forms shown here.2) ∙ on in
      let listed = subst (Member here.0.book) (sym are.of_books) (map_in its_book cuts here.0 here.1) in
      subst (λ d. Member d (map (λ book. book.day) books)) is (map_in (λ (book : BookValue). book.day) books here.0.book listed)

  pub are_days : AreDaysOf (current_world trees) s first last books
  are_days = record {
    each = λ i d less.
        let book = slice_index_or books i d in
        let c = cut_of book (member_at books i d less) in
        subst (λ b. (b.stream ≡ s) × IsDay (current_world trees) b) (sym c.2) (is_day c.0 c.1);
    known = λ day. (
      (λ m.
          let b = in_map (λ (book : BookValue). book.day) books day m in
          let c = cut_of b.0 b.1 in
          let same : c.0.book.day ≡ day = sym (b.2 ∙ ap (λ (book : BookValue). book.day) c.2) in
          subst (λ d. (first ≤ d) × (d ≤ last) × IsKnownDay (current_world trees) s d) same (is_known c.0 c.1)),
      (λ p. has_book day p.0 p.1 p.2),
    );
    ascending = subst (Ascend (λ (book : BookValue). book.day)) (sym are.of_books) (ascend_map its_book (λ (book : BookValue). book.day) cuts are.ascending);
  }
