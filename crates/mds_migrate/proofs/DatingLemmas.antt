-- Days that are given the greatest details of their streams.
use Rattle.std.proofs.Common.{◌≡◌, ◌≤◌, ◌<◌, ◌+◌, ◌↔◌, inl, inr, suc, ℕ, List, [], ◌∷◌, ◌++◌, All, Ok, Option, Some, None, true, length, map, slice_index_or, take, refl, sym, ap, subst, ◌∙◌, arith}
use Rattle.std.specs.Cmp.{IsTotalOrder, nat_cmp_total, on_total, then_total}
use Rattle.std.specs.FinSet.{nat_cmp-IsAntisymmetric}
use Rattle.std.specs.Ordering.{is_le, nat_cmp, ordering_then}
use Rattle.std.specs.declared.cmp.Ordering.TheVariants.{Less, Equal, Greater}
use Rattle.std.proofs.lemmas.List.{take_more}
use Rattle.sqlite.specs.State.{HasCleanDisk, IsUnchanged, State}
use Rattle.sqlite.specs.declared.types.Value.TheVariants.{Null}
use Rattle.sqlite_catalog.specs.Listing.{IsSound}
use Rattle.sqlite_trees.specs.Tree.{Trees}
use Rattle.sqlite_value.specs.Order.{Row, column}
use Rattle.mds_names.specs.declared.stream.Stream.{Stream}
use Rattle.mds_terms.specs.Details.{details_cmp}
use Rattle.mds_terms.proofs.TermOrder.{details_exact}
use Rattle.mds_terms.specs.TermOrder.{details_total}
use Rattle.mds_world.specs.Facts.{Fact}
use Rattle.mds_world.specs.Facts.Fact.{HeadIs}
use Rattle.mds_world.specs.Lists.{Member}
use Rattle.mds_world.specs.declared.facts.Detail.{Detail}
use Rattle.mds_world.specs.declared.facts.Head.{Head}
use Rattle.mds_world.proofs.Lists.{append_left, append_right, member_append}
use Rattle.mds_world.proofs.Orders.{le_both, le_self}
use Rattle.mds_keeper.specs.Content.{detail_on}
use Rattle.mds_keeper.specs.declared.additions.DetailDays.{DetailDays}
use Rattle.mds_tables.specs.Cells.{stream_cells}
use Rattle.mds_tables.specs.RowFacts.{head_fact, natural_at, stream_in}
use Rattle.mds_tables.specs.Stores.{Selects}
use Rattle.mds_tables.specs.Tables.{detail_tree, head_columns, head_tree}
use Rattle.mds_tables.specs.Frames.{Frames, IsAt}
use Rattle.mds_tables.specs.Parts.{detail_part}
use Rattle.mds_tables.specs.Writing.{Puts}
use Rattle.mds_tables.proofs.FrameLemmas.{frames_none}
use Rattle.mds_tables.proofs.PutLemmas.{none_there, puts_then}
use Rattle.mds_tables.proofs.Listed.{on_stream, stream_on}
use Rattle.mds_tables.proofs.MemberLemmas.{place_of}
use Rattle.mds_tables.proofs.TypedRows.{HasKeyCells}
use Rattle.mds_pack_rows.specs.DailyTables.{daydetails, schema_3}
use Rattle.mds_commit.specs.Shown.{AreLatestFirst, IsDetailRow, shown_details}
use Rattle.mds_migrate.specs.Dating.{AreGreatestOf, AreOfHeads, Dates, DatesDays, IsKnown, IsKnownOf, IsLatest, IsOf, IsOfHead, IsOfKnownDay, Knows, SaysDetails, SaysFirst, ShowsDetailsOf, all_on, known_on, shown_columns}
use Rattle.mds_migrate.specs.OldDetails.{IsGreatestOf, StreamDetail, pair_cmp, stream_detail}
use Rattle.mds_migrate.specs.declared.dating.Latest.{Latest}
use Rattle.mds_migrate.proofs.BehindQuery.{puts_since}
use Rattle.mds_migrate.proofs.DatingOrder.{detail_keyed}

-- ---- the greatest details of a stream

pair_total : IsTotalOrder pair_cmp
pair_total = then_total (on_total (λ (d : StreamDetail). d.moment) nat_cmp_total) (on_total (λ (d : StreamDetail). d.details) details_total)

pair_tied : (a b : StreamDetail) → pair_cmp a b ≡ Equal → (a.moment ≡ b.moment) × (a.details ≡ b.details)
pair_tied a b e =
    elim (nat_cmp a.moment b.moment) as (λ o. nat_cmp a.moment b.moment ≡ o → ordering_then o (details_cmp a.details b.details) ≡ Equal
    → (a.moment ≡ b.moment) × (a.details ≡ b.details)) [
      | Less ↦ λ is tied. absurd (cc)
      | Equal ↦ λ is tied. (nat_cmp-IsAntisymmetric a.moment b.moment is, details_exact a.details b.details tied)
      | Greater ↦ λ is tied. absurd (cc)
    ] refl e

module _ (trees : Trees) (s : Stream) where
  -- a row of greatest details is of the stream
  held_on : (d : StreamDetail) (row : Row) → stream_detail row ≡ d → d.stream ≡ s → stream_in row ≡ s
  held_on d row is on = ap (λ (x : StreamDetail). x.stream) is ∙ on

  upto_greatest : (a b : StreamDetail) → IsGreatestOf trees s a → IsGreatestOf trees s b → is_le (pair_cmp a b) ≡ true
  upto_greatest a b p q =
      let row = p.held.0 in
      subst (λ x. is_le (pair_cmp x b) ≡ true) p.held.2 (q.greatest row p.held.1 (held_on a row p.held.2 p.of_stream))

  -- a stream has one greatest
  one_greatest : (a b : StreamDetail) → IsGreatestOf trees s a → IsGreatestOf trees s b → (a.moment ≡ b.moment) × (a.details ≡ b.details)
  one_greatest a b p q = pair_tied a b (le_both pair_total a b (upto_greatest a b p q) (upto_greatest b a q p))

-- what a shown row says
abbrev shown_detail : Stream → Row → StreamDetail
shown_detail s shown = record { stream = s; moment = natural_at shown 0; details = shown_details shown }

upto_first : (s : Stream) (first : Row) (rest : List Row) → AreLatestFirst (first ∷ rest) → (shown : Row) → Member shown (first ∷ rest)
    → is_le (pair_cmp (shown_detail s shown) (shown_detail s first)) ≡ true
upto_first s first rest sorted shown (inl e) =
    subst (λ x. is_le (pair_cmp (shown_detail s x) (shown_detail s first)) ≡ true) (sym e) (le_self pair_total (shown_detail s first))
upto_first s first rest sorted shown (inr m) =
    let at = place_of rest shown first m in
    subst (λ x. is_le (pair_cmp (shown_detail s x) (shown_detail s first)) ≡ true) at.2
    (sorted 0 (suc at.0) first (omega arith) (omega (arith, at.1)))

module _ (trees : Trees) (s : Stream) (keyed : (row : Row) → Member row (trees detail_tree) → HasKeyCells row) (rows : List Row)
    (sel : Selects detail_tree (stream_cells s) shown_columns trees rows) where
  -- each row of the stream is shown
  shown_of : (row : Row) → Member row (trees detail_tree) → stream_in row ≡ s → Member (map (column row) shown_columns) rows
  shown_of row m on = (sel (map (column row) shown_columns)).1 (row, m, stream_on s row (keyed row m) on, refl)

  pub first_greatest : (list : List Row) → rows ≡ list → AreLatestFirst list → (details : Option DetailDays) → SaysFirst list s details
      → AreGreatestOf trees s details
  first_greatest [] none sorted details is =
      subst (AreGreatestOf trees s) (sym is)
      (λ row m on. subst (Member (map (column row) shown_columns)) none (shown_of row m on))
  first_greatest (first ∷ rest) are sorted details is =
      let d = is.0 in
      let says = is.2 in
      let r = (sel first).0 (subst (Member first) (sym are) (inl refl)) in
      let on : stream_in r.0 ≡ s = on_stream s r.0 r.2 in
      let it : StreamDetail = record { stream = s; moment = d.moment; details = d.details } in
      let said : shown_detail s first ≡ it = λ i. record { stream = s; moment = says.1 i; details = says.2 i } in
      let row_says : stream_detail r.0 ≡ shown_detail s (map (column r.0) shown_columns) =
      λ i. record { stream = on i; moment = natural_at r.0 3; details = shown_details (map (column r.0) shown_columns) } in
      subst (AreGreatestOf trees s) (sym is.1) (
        says.0,
        record {
          held = (r.0, r.1, row_says ∙ ap (shown_detail s) (sym r.3) ∙ said);
          of_stream = refl;
          greatest = λ other m of_other.
              let shown = map (column other) shown_columns in
              let upto = upto_first s first rest sorted shown (subst (Member shown) are (shown_of other m of_other)) in
              let other_says : stream_detail other ≡ shown_detail s shown =
              λ i. record { stream = of_other i; moment = natural_at other 3; details = shown_details shown } in
              subst (λ x. is_le (pair_cmp x it) ≡ true) (sym other_says)
              (subst (λ x. is_le (pair_cmp (shown_detail s shown) x) ≡ true) said upto);
        },
      )

-- all details of a stream were asked for, and the first of them are the greatest
pub finds_greatest : (s : Stream) (trees : Trees) → IsSound schema_3 trees → (rows : List Row) (details : Option DetailDays)
    → All (λ row. IsDetailRow row) rows → SaysFirst rows s details → ShowsDetailsOf s trees rows
    → IsLatest trees (record { stream = s; details = details })
finds_greatest s trees sound rows details all says it =
    first_greatest trees s (detail_keyed daydetails trees sound) rows it.0 rows refl (it.1 all) details says

-- the first of some rows says them
pub some_first : (rows : List Row) (first : Row) (s : Stream) (d : DetailDays) → 1 ≤ length rows → first ≡ slice_index_or rows 0 first
    → SaysDetails first s d → SaysFirst rows s (Some d)
some_first [] first s d low is says = absurd (omega (arith, low))
some_first (row ∷ rows) first s d low is says = (d, refl, subst (λ r. SaysDetails r s d) is says)

-- the greatest details of a stream were found
pub knows_found : (a b : State) (before : Option Latest) (latest : Latest) (s : Stream) → latest.stream ≡ s
    → IsUnchanged a b × IsLatest a.now.trees latest → Knows a b before (Some latest) s
knows_found a b before latest s of found = record {
  now = found.0.0.now_is;
  committed = found.0.0.committed_is;
  known = λ _. (found.1, subst (λ of. AreGreatestOf a.now.trees of latest.details) of found.1);
}

-- what is known of this stream is known still
pub knows_still : (s : State) (known : Option Latest) (stream : Stream) → IsOf known stream → Knows s s known known stream
knows_still s None stream is = absurd is
knows_still s (Some latest) stream is = record {
  now = refl;
  committed = refl;
  known = λ right. (right, subst (λ stream. AreGreatestOf s.now.trees stream latest.details) is right);
}

-- ---- the day of a head

abbrev stream_of : Stream → Fact → Stream
stream_of other (HeadIs head) = head.stream
stream_of other _ = other

abbrev day_of : ℕ → Fact → ℕ
day_of other (HeadIs head) = head.day
day_of other _ = other

pub one_member : {X : Type 0} (x y : X) → Member x (y ∷ []) → x ≡ y
one_member x y (inl is) = is
one_member x y (inr none) = absurd none

module _ (trees : Trees) (shown : Row) (s : Stream) (day : ℕ) (of : s ≡ stream_in (Null ∷ shown)) (on : day ≡ natural_at (Null ∷ shown) 3) where
  -- a head that has some, has them of a row of its stream
  held_by : (head : Row) → Member head (shown ∷ []) → (detail : Detail) → IsOfHead trees head detail → detail.stream ≡ s
  held_by head m detail is = is.stream ∙ ap (λ r. stream_in (Null ∷ r)) (one_member head shown m) ∙ sym of

  pub of_one_day : (details : Option DetailDays) → AreGreatestOf trees s details → AreOfHeads trees (shown ∷ []) (all_on details day)
  of_one_day None none detail = (
    λ m. absurd m,
    λ it.
        let row = it.2.greatest.held in
        absurd (none row.0 row.1 (held_on trees detail.stream (record { stream = detail.stream; moment = detail.moment; details = detail.details })
        row.0 row.2 refl ∙ held_by it.0 it.1 detail it.2)),
  )
  of_one_day (Some d) is detail =
      let greatest : IsGreatestOf trees d.stream (record { stream = d.stream; moment = d.moment; details = d.details }) =
      subst (λ x. IsGreatestOf trees x (record { stream = x; moment = d.moment; details = d.details })) (sym is.0) is.1 in (
        λ m.
            let same : detail ≡ detail_on d day = one_member detail (detail_on d day) m in (
              shown,
              inl refl,
              subst (IsOfHead trees shown) (sym same) (record { stream = is.0 ∙ of; day = on; greatest = greatest }),
            ),
        λ it.
            let to : detail.stream ≡ s = held_by it.0 it.1 detail it.2 in
            let same_day : detail.day ≡ day = it.2.day ∙ ap (λ r. natural_at (Null ∷ r) 3) (one_member it.0 shown it.1) ∙ sym on in
            let other = subst (λ x. IsGreatestOf trees x (record { stream = x; moment = detail.moment; details = detail.details })) to it.2.greatest in
            let one = one_greatest trees s _ _ other is.1 in
            inl (λ i. record { stream = (to ∙ sym is.0) i; day = same_day i; moment = one.0 i; details = one.1 i }),
      )

-- what is known of the stream of a head
of_known_day : (trees : Trees) (shown : Row) (s : Stream) (day : ℕ) → s ≡ stream_in (Null ∷ shown) → day ≡ natural_at (Null ∷ shown) 3
    → (known : Option Latest) → IsKnownOf trees known s → AreOfHeads trees (shown ∷ []) (known_on known day)
of_known_day trees shown s day of on None is = absurd is
of_known_day trees shown s day of on (Some latest) is = of_one_day trees shown s day of on latest.details is

-- The greatest details of the stream of a head were known, and then put on its day.
pub dates_day : (a b c : State) (shown : Row) (head : Head) → head_fact (Null ∷ shown) ≡ HeadIs head → (before after : Option Latest)
    → Knows a b before after head.stream → Puts schema_3 detail_part b c (known_on after head.day) → DatesDays a c before after (shown ∷ [])
dates_day a b c shown head is before after knows puts = record {
  details = known_on after head.day;
  puts = puts_since schema_3 detail_part a b c knows.now knows.committed (known_on after head.day) puts;
  are = λ was.
      let known = knows.known was in
      let of : stream_in (Null ∷ shown) ≡ head.stream = ap (stream_of head.stream) is in
      let on : natural_at (Null ∷ shown) 3 ≡ head.day = ap (day_of head.day) is in (
        of_known_day a.now.trees shown head.stream head.day (sym of) (sym on) after known.1,
        known.0,
      );
}

-- where nothing is known of a stream, nothing is put
pub none_known : {E : Type 0} (s : State) (items : List Detail) → items ≡ []
    → Frames {X = Unit {0}} {E = E} schema_3 (λ _. Puts schema_3 detail_part s s items) s s (Ok tt)
none_known s items none = frames_none s (λ clean at. subst (Puts schema_3 detail_part s s) (sym none)
    ((none_there schema_3 detail_part s).puts clean at.is_open at.schema at.sound))

-- ---- one day after another

-- of no heads there are none
pub dates_since : (a b : State) → HasCleanDisk b → IsAt schema_3 b → IsUnchanged a b → DatesDays a b None None []
dates_since a b clean there same = record {
  details = [];
  puts = puts_since schema_3 detail_part a b b same.0.now_is same.0.committed_is []
      ((none_there schema_3 detail_part b).puts clean there.is_open there.schema there.sound);
  are = λ _. ((λ detail. ((λ m. absurd m), (λ p. absurd p.1))), tt);
}

-- what is said of mds_detail alone
module _ (old new : Trees) (same : new detail_tree ≡ old detail_tree) where
  pub greatest_as : (s : Stream) (d : StreamDetail) → IsGreatestOf old s d → IsGreatestOf new s d
  greatest_as s d is = record {
    held = (is.held.0, subst (Member is.held.0) (sym same) is.held.1, is.held.2);
    of_stream = is.of_stream;
    greatest = λ row m on. is.greatest row (subst (Member row) same m) on;
  }

  of_head_as : (head : Row) (detail : Detail) → IsOfHead old head detail → IsOfHead new head detail
  of_head_as head detail is = record {
    stream = is.stream;
    day = is.day;
    greatest = greatest_as detail.stream (record { stream = detail.stream; moment = detail.moment; details = detail.details }) is.greatest;
  }

  are_greatest_as : (s : Stream) (details : Option DetailDays) → AreGreatestOf old s details → AreGreatestOf new s details
  are_greatest_as s None none = λ row m on. none row (subst (Member row) same m) on
  are_greatest_as s (Some d) is = (is.0, greatest_as s (record { stream = s; moment = d.moment; details = d.details }) is.1)

  known_as : (known : Option Latest) → IsKnown old known → IsKnown new known
  known_as None is = tt
  known_as (Some latest) is = are_greatest_as latest.stream latest.details is

-- those of some heads and of others
of_both : (trees : Trees) (xs ys : List Row) (one two : List Detail) → AreOfHeads trees xs one → AreOfHeads trees ys two
    → AreOfHeads trees (xs ++ ys) (one ++ two)
of_both trees xs ys one two p q d = (
  (λ m. elim (member_append d one two m) [
    | inl n ↦ let it = (p d).0 n in (it.0, append_left it.0 xs ys it.1, it.2)
    | inr n ↦ let it = (q d).0 n in (it.0, append_right it.0 xs ys it.1, it.2)
  ]),
  (λ it. elim (member_append it.0 xs ys it.1) [
    | inl n ↦ append_left d one two ((p d).1 (it.0, n, it.2))
    | inr n ↦ append_right d one two ((q d).1 (it.0, n, it.2))
  ]),
)

module _ (a b c : State) (x y z : Option Latest) where
  dates_both : (xs ys : List Row) → DatesDays a b x y xs → DatesDays b c y z ys → DatesDays a c x z (xs ++ ys)
  dates_both xs ys p q = record {
    details = p.details ++ q.details;
    puts = puts_then schema_3 detail_part a b c p.details q.details p.puts q.puts;
    are = λ was.
        let same : b.now.trees detail_tree ≡ a.now.trees detail_tree = p.puts.others.1.1.1.0 (λ e. omega arith) in
        let one = p.are was in
        let two = q.are (known_as a.now.trees b.now.trees same y one.1) in
        let back = of_head_as b.now.trees a.now.trees (sym same) in
        let on = of_head_as a.now.trees b.now.trees same in
        let more : AreOfHeads a.now.trees ys q.details =
        λ d. ((λ m. let it = (two.0 d).0 m in (it.0, it.1, back it.0 d it.2)), (λ it. (two.0 d).1 (it.0, it.1, on it.0 d it.2))) in
        (of_both a.now.trees xs ys p.details q.details one.0 more, known_as b.now.trees a.now.trees (sym same) z two.1);
  }

  pub dates_next : (heads : List Row) (k : ℕ) (head : Row) → k < length heads → head ≡ slice_index_or heads k head
      → DatesDays a b x y (take k heads) → DatesDays b c y z (head ∷ []) → DatesDays a c x z (take (k + 1) heads)
  dates_next heads k head low is p q =
      let front : take (k + 1) heads ≡ take k heads ++ head ∷ [] = take_more heads k head low ∙ ap (λ x. take k heads ++ x ∷ []) (sym is) in
      subst (DatesDays a c x z) (sym front) (dates_both (take k heads) (head ∷ []) p q)

-- ---- all heads

-- what is known of the days of heads that are shown is so of all days that mds_head says
of_all : (trees : Trees) (heads : List Row) → Selects head_tree [] head_columns trees heads → (details : List Detail) → AreOfHeads trees heads details
    → (detail : Detail) → Member detail details ↔ IsOfKnownDay trees detail
of_all trees heads sel details are detail = (
  (λ m.
      let it = (are detail).0 m in
      let r = (sel it.0).0 it.1 in
      record {
        head = r.0;
        there = r.1;
        stream = it.2.stream ∙ ap (λ s. stream_in (Null ∷ s)) r.3;
        day = it.2.day ∙ ap (λ s. natural_at (Null ∷ s) 3) r.3;
        greatest = it.2.greatest;
      }),
  (λ it.
      let shown = map (column it.head) head_columns in
      (are detail).1 (shown, (sel shown).1 (it.head, it.there, refl, refl), record { stream = it.stream; day = it.day; greatest = it.greatest })),
)

pub dates_all : (a c : State) (heads : List Row) → Selects head_tree [] head_columns a.now.trees heads → (z : Option Latest)
    → DatesDays a c None z heads → Dates a c
dates_all a c heads sel z p = record {
  details = p.details;
  puts = p.puts;
  are = of_all a.now.trees heads sel p.details (p.are tt).0;
}
