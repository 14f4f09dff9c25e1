-- What the details of days in the tables are in their World.
use Rattle.std.proofs.Common.{◌≡◌, ◌↔◌, ◌<◌, ◌≤◌, ◌^◌, inl, inr, ℕ, List, [], ◌∷◌, map, true, All, Some, None, refl, suc, sym, ap, subst, ◌∙◌, arith}
use Rattle.std.specs.Cmp.{nat_cmp_total, tied_itself}
use Rattle.std.specs.List.{AllPairs}
use Rattle.std.specs.Ordering.{is_le, nat_cmp, ordering_then}
use Rattle.std.specs.declared.cmp.Ordering.TheVariants.{Equal}
use Rattle.sqlite.specs.declared.types.Value.TheVariants.{Int, Text}
use Rattle.sqlite_catalog.specs.Listing.{IsSound}
use Rattle.sqlite_rules.specs.Edit.{id_in}
use Rattle.sqlite_trees.specs.Tree.{Trees}
use Rattle.sqlite_value.specs.Order.{Row, bytes, column}
use Rattle.mds_names.specs.declared.stream.Stream.{Stream}
use Rattle.mds_terms.specs.Details.{DetailsValue, details_cmp}
use Rattle.mds_terms.specs.TermOrder.{details_total}
use Rattle.mds_world.proofs.Nearest.{nearest}
use Rattle.mds_world.specs.Current.{IsCurrentDetails, IsGreatestOfDay, IsUpto, no_details}
use Rattle.mds_world.specs.Facts.Fact.{DetailIs}
use Rattle.mds_world.specs.Lists.{Member}
use Rattle.mds_world.specs.Sets.{◌∈◌}
use Rattle.mds_world.specs.World.{World}
use Rattle.mds_world.specs.declared.facts.Detail.{Detail}
use Rattle.mds_keeper.specs.Content.{detail_on}
use Rattle.mds_keeper.specs.Queries.{AreDaysWithout, AreDetailsBetween}
use Rattle.mds_keeper.specs.declared.additions.DetailDays.{DetailDays}
use Rattle.mds_tables.specs.Cells.{day_cells, detail_cells, number_cell}
use Rattle.mds_tables.specs.RowFacts.{int_at, natural, natural_at, optional, optional_at, text_at}
use Rattle.mds_tables.specs.Stores.{Begins, Selects}
use Rattle.mds_tables.specs.Tables.{daydetail_tree}
use Rattle.mds_tables.specs.Shown.{SaysDay}
use Rattle.mds_tables.proofs.Listed.{day_on, on_day}
use Rattle.mds_tables.proofs.MemberLemmas.{place_of}
use Rattle.mds_tables.proofs.TypedRows.{begins_at, begins_by, optional_back, small, small_option, some_cell}
use Rattle.mds_pack_rows.specs.Current.{current_layout, current_schema, current_world}
use Rattle.mds_commit.specs.Shown.{AreLatestFirst, AreLeft, HasRow, IsBelow, IsDetailRow, IsTold, ShowsDaysWith, ShowsDetails, ShowsNearest, ShowsRange, TellsDays, TellsFirst, details_columns, range_columns, shown_day, shown_details}
use Rattle.mds_commit.proofs.DetailCells.{detail_in, detail_is, named_in, row_cells}

-- ---- the order of rows

pub below_self : (a : Row) → IsBelow a a
below_self a =
    let one : nat_cmp (natural_at a 0) (natural_at a 0) ≡ Equal = tied_itself nat_cmp_total (natural_at a 0) in
    let two : details_cmp (shown_details a) (shown_details a) ≡ Equal = tied_itself details_total (shown_details a) in
    ap (λ o. is_le (ordering_then o (details_cmp (shown_details a) (shown_details a)))) one ∙ ap is_le two

below_first : (row : Row) (rest : List Row) → AreLatestFirst (row ∷ rest) → (r : Row) → Member r (row ∷ rest) → IsBelow r row
below_first row rest sorted r (inl e) = subst (λ x. IsBelow x row) (sym e) (below_self row)
below_first row rest sorted r (inr m) =
    let at = place_of rest r row m in
    subst (λ x. IsBelow x row) at.2 (sorted 0 (suc at.0) row (omega arith) (omega (arith, at.1)))

-- the same of the details that they tell
details_below : (a b : Row) (d e : Detail) → natural_at a 0 ≡ d.moment → natural_at b 0 ≡ e.moment → shown_details a ≡ d.details
    → shown_details b ≡ e.details → IsBelow a b
    → is_le (ordering_then (nat_cmp d.moment e.moment) (details_cmp d.details e.details)) ≡ true
details_below a b d e m n p q below = (λ i. is_le (ordering_then (nat_cmp (sym m i) (sym n i)) (details_cmp (sym p i) (sym q i)))) ∙ below

module _ (trees : Trees) (sound : IsSound current_schema trees) where
  -- ---- current details

  module _ (s : Stream) where
    -- details of a day have a row
    row_of : (day : ℕ) → day < 2 ^ 63 → (d : Detail) → DetailIs d ∈ current_world trees → d.stream ≡ s → d.day ≡ day
        → (r : Row) × Member r (trees daydetail_tree) × (detail_in r ≡ d) × Begins (day_cells s day) r
    row_of day low d h on is =
        let n = (named_in current_layout refl trees d).0 h in
        let same = detail_is n.0 d n.2 in (
          n.0,
          n.1,
          same,
          day_on s day n.0 low (row_cells trees sound n.0 n.1).keyed (ap (λ (x : Detail). x.stream) same ∙ on)
              (ap (λ (x : Detail). x.day) same ∙ is),
        )

    module _ (day : ℕ) (low : day < 2 ^ 63) where
      -- a day up to this one that has details has a row
      has_row : (other : Detail) → IsUpto (current_world trees) s day other → HasRow trees (day_cells s other.day)
      has_row other upto =
          let to = upto.2 in
          let r = row_of other.day (omega (arith, low, to)) other upto.0 upto.1 refl in
          (r.0, r.1, r.3)

      -- where no row is shown, no details hold
      pub finds_none : (found : List Row) → ShowsNearest s day trees found → SaysDay found None → (details : DetailsValue)
          → details ≡ no_details → IsCurrentDetails (current_world trees) s day details
      finds_none found shows none details is =
          let no_row = subst (ShowsNearest s day trees) none shows in
          inr ((λ other upto. no_row other.day upto.2 (has_row other upto)), is)

    module _ (of : ℕ) (low : of < 2 ^ 63) (rows : List Row) (shows : Selects daydetail_tree (day_cells s of) details_columns trees rows) where
      -- a row that is shown tells details of the day
      told : (x : Row) → Member x rows
          → (d : Detail) × IsUpto (current_world trees) s of d × (d.day ≡ of) × (natural_at x 0 ≡ d.moment) × (shown_details x ≡ d.details)
      told x m =
          let r = (shows x).0 m in
          let at = on_day s of r.0 r.2 in
          let day = at.1 in (
            detail_in r.0,
            ((named_in current_layout refl trees (detail_in r.0)).1 (r.0, r.1, refl), at.0, omega (arith, day)),
            day,
            ap (λ y. natural_at y 0) r.3,
            ap shown_details r.3,
          )

      -- details of the day are told by a row that is shown
      tells : (d : Detail) → IsUpto (current_world trees) s of d → d.day ≡ of
          → (x : Row) × Member x rows × (natural_at x 0 ≡ d.moment) × (shown_details x ≡ d.details)
      tells d upto is =
          let r = row_of of low d upto.0 upto.1 is in
          let x = map (column r.0) details_columns in
          (x, (shows x).1 (r.0, r.1, r.3, refl), ap (λ (e : Detail). e.moment) r.2, ap (λ (e : Detail). e.details) r.2)

      -- the first of them tells the greatest of the day
      greatest : (list : List Row) → rows ≡ list → AreLatestFirst list → (details : DetailsValue) → TellsFirst list details
          → (d : Detail) × IsGreatestOfDay (current_world trees) s of d × (details ≡ d.details)
      greatest [] is sorted details first = absurd first
      greatest (row ∷ rest) is sorted details first =
          let here = told row (subst (Member row) (sym is) (inl refl)) in
          let d = here.0 in (
            d,
            record {
              held = here.1;
              here = here.2;
              greatest = λ other upto day.
                  let t = tells other upto day in
                  let below = below_first row rest sorted t.0 (subst (Member t.0) is t.1) in
                  details_below t.0 row other d t.2 here.3 t.3 here.4 below;
            },
            sym first ∙ here.4,
          )

    pub finds_own : (day : ℕ) → day < 2 ^ 63 → (rows : List Row) → ShowsDetails s day trees rows → All (λ row. IsDetailRow row) rows
        → (details : DetailsValue) → TellsFirst rows details → IsCurrentDetails (current_world trees) s day details
    finds_own day low rows all lawful details first =
        let it = greatest day low rows all.0 rows refl (all.1 lawful) details first in
        (nearest (current_world trees) s day details).1 (inl (day, it.0, omega arith, it.1, (λ other upto. upto.2), it.2))

    pub finds_current : (day : ℕ) → day < 2 ^ 63 → (found : List Row) → ShowsNearest s day trees found → (of : ℕ)
        → SaysDay found (Some of) → (rows : List Row) → ShowsDetails s of trees rows → All (λ row. IsDetailRow row) rows
        → (details : DetailsValue) → TellsFirst rows details → IsCurrentDetails (current_world trees) s day details
    finds_current day low found shows of says rows all lawful details first =
        let near = subst (ShowsNearest s day trees) says.2 shows of says.3 in
        let to = near.0 in
        let it = greatest of (omega (arith, low, to)) rows all.0 rows refl (all.1 lawful) details first in
        (nearest (current_world trees) s day details).1
        (inl (of, it.0, to, it.1, (λ other upto. near.2 other.day upto.2 (has_row day low other upto)), it.2))

    -- ---- the current details of the days of a range

    module _ (first last : ℕ) (low : last < 2 ^ 63) (rows : List Row) (shows : ShowsRange s first last trees rows)
        (told : List (ℕ × DetailsValue)) (tells : TellsDays rows told) where
      -- a row that is shown tells details of its day, which is in the range
      of_row : (x : Row) → Member x rows
          → (d : Detail) × (DetailIs d ∈ current_world trees) × (d.stream ≡ s) × (d.day ≡ shown_day x) × (first ≤ d.day) × (d.day ≤ last)
          × (natural_at x 0 ≡ d.moment) × (shown_details x ≡ d.details)
      of_row x m =
          let r = (shows.0 x).0 m in
          let at = on_day s r.2.0 r.0 r.2.3 in
          let day = at.1 in
          let from = r.2.1 in
          let to = r.2.2 in (
            detail_in r.0,
            (named_in current_layout refl trees (detail_in r.0)).1 (r.0, r.1, refl),
            at.0,
            sym (ap shown_day r.3),
            omega (arith, day, from),
            omega (arith, day, to),
            ap (λ y. natural_at y 0) r.3,
            ap shown_details r.3,
          )

      -- details of a day of the range are told by a row that is shown
      has_shown : (d : Detail) → DetailIs d ∈ current_world trees → d.stream ≡ s → first ≤ d.day → d.day ≤ last
          → (x : Row) × Member x rows × (shown_day x ≡ d.day) × (natural_at x 0 ≡ d.moment) × (shown_details x ≡ d.details)
      has_shown d h of from to =
          let r = row_of d.day (omega (arith, low, to)) d h of refl in
          let x = map (column r.0) range_columns in (
            x,
            (shows.0 x).1 (r.0, r.1, (d.day, from, to, r.3), refl),
            ap (λ (e : Detail). e.day) r.2,
            ap (λ (e : Detail). e.moment) r.2,
            ap (λ (e : Detail). e.details) r.2,
          )

      current : (entry : ℕ × DetailsValue) → IsTold rows entry
          → (first ≤ entry.0) × (entry.0 ≤ last) × IsCurrentDetails (current_world trees) s entry.0 entry.1
      current entry it =
          let here = of_row it.0 it.1 in
          let d = here.0 in
          let day : d.day ≡ entry.0 = here.3 ∙ it.2 in
          let from = here.4 in
          let to = here.5 in
          let greatest : IsGreatestOfDay (current_world trees) s entry.0 d = record {
            held = (here.1, here.2, omega (arith, day));
            here = day;
            greatest = λ other upto same.
                let t = has_shown other upto.0 upto.1 (omega (arith, same, day, from)) (omega (arith, same, day, to)) in
                let below = it.4 t.0 t.1 (t.2 ∙ same) in
                details_below t.0 it.0 other d t.3 here.6 t.4 here.7 below;
          } in (
            omega (arith, day, from),
            omega (arith, day, to),
            (nearest (current_world trees) s entry.0 entry.1).1
                (inl (entry.0, d, omega arith, greatest, (λ other upto. upto.2), sym it.3 ∙ here.7)),
          )

      pub finds_between : AreDetailsBetween (current_world trees) s first last told
      finds_between = record {
        each = λ entry m. current entry (tells.each entry m);
        all = λ d h of from to.
            let t = has_shown d h of from to in
            subst (λ n. Member n (map (λ (entry : ℕ × DetailsValue). entry.0) told)) t.2 (tells.all t.0 t.1);
        ascending = tells.ascending;
      }

  -- ---- the days without some details

  module _ (d : DetailDays) where
    -- a row of the details names them
    row_has : (day : ℕ) → HasRow trees (detail_cells (detail_on d day)) → DetailIs (detail_on d day) ∈ current_world trees
    row_has day has =
        let r = has.0 in
        let key = detail_cells (detail_on d day) in
        let at = begins_at key r has.2 in
        let nmi : text_at r 1 ≡ d.stream.nmi = ap bytes (at 0 (omega arith)) in
        let suffix : text_at r 2 ≡ d.stream.suffix = ap bytes (at 1 (omega arith)) in
        let of : natural_at r 3 ≡ day = ap (λ v. natural (id_in v)) (at 2 (omega arith)) in
        let moment : natural_at r 4 ≡ d.moment = ap (λ v. natural (id_in v)) (at 3 (omega arith)) in
        let configuration : text_at r 5 ≡ d.details.configuration = ap bytes (at 4 (omega arith)) in
        let register : text_at r 6 ≡ d.details.register = ap bytes (at 5 (omega arith)) in
        let datastream : text_at r 7 ≡ d.details.datastream = ap bytes (at 6 (omega arith)) in
        let meter : text_at r 8 ≡ d.details.meter = ap bytes (at 7 (omega arith)) in
        let next : optional_at r 9 ≡ d.details.next = ap (λ v. optional (id_in v)) (at 8 (omega arith)) ∙ optional_back d.details.next in
        (named_in current_layout refl trees (detail_on d day)).1 (
          r,
          has.1,
          (λ i. DetailIs (record {
            stream = record { nmi = nmi i; suffix = suffix i };
            day = of i;
            moment = moment i;
            details = record {
              configuration = configuration i;
              register = register i;
              datastream = datastream i;
              meter = meter i;
              next = next i;
            };
          })),
        )

    module _ (moment : d.moment < 2 ^ 63) (next : (n : ℕ) → d.details.next ≡ Some n → n < 2 ^ 63) where
      -- and they have one
      has_details : (day : ℕ) → day < 2 ^ 63 → DetailIs (detail_on d day) ∈ current_world trees → HasRow trees (detail_cells (detail_on d day))
      has_details day low h =
          let n = (named_in current_layout refl trees (detail_on d day)).0 h in
          let r = n.0 in
          let same = detail_is r (detail_on d day) n.2 in
          let it = row_cells trees sound r n.1 in (
            r,
            n.1,
            begins_by (detail_cells (detail_on d day)) r (
              it.keyed.nmi ∙ ap (λ (x : Detail). Text x.stream.nmi) same,
              (λ e. cc),
              (
                it.keyed.suffix ∙ ap (λ (x : Detail). Text x.stream.suffix) same,
                (λ e. cc),
                (
                  it.keyed.number ∙ ap Int (small (int_at r 3) day (ap (λ (x : Detail). x.day) same) low),
                  (λ e. cc),
                  (
                    it.moment ∙ ap Int (small (int_at r 4) d.moment (ap (λ (x : Detail). x.moment) same) moment),
                    (λ e. cc),
                    (
                      it.configuration ∙ ap (λ (x : Detail). Text x.details.configuration) same,
                      (λ e. cc),
                      (
                        it.register ∙ ap (λ (x : Detail). Text x.details.register) same,
                        (λ e. cc),
                        (
                          it.datastream ∙ ap (λ (x : Detail). Text x.details.datastream) same,
                          (λ e. cc),
                          (
                            it.meter ∙ ap (λ (x : Detail). Text x.details.meter) same,
                            (λ e. cc),
                            (
                              it.next ∙ small_option (int_at r 9) d.details.next (ap (λ (x : Detail). x.details.next) same) next,
                              (λ e. some_cell d.details.next e),
                              tt,
                            ),
                          ),
                        ),
                      ),
                    ),
                  ),
                ),
              ),
            ),
          )

      pub finds_without : (first last : ℕ) → last < 2 ^ 63 → (asked left : List ℕ)
          → ((day : ℕ) → Member day asked ↔ Member day d.days.items)
          → ((day : ℕ) → Member day asked → (first ≤ day) × (day ≤ last))
          → (rows : List Row) → ShowsDaysWith d first last trees rows → AreLeft asked rows left → AllPairs (λ a b. a < b) left
          → AreDaysWithout (current_world trees) d left
      finds_without first last low asked left same within rows shows are up = record {
        each = λ day. (
          (λ m.
              let p = (are day).0 m in
              let in_range = within day p.0 in
              let to = in_range.1 in (
                (same day).0 p.0,
                (λ h. p.1 (number_cell day ∷ [])
                    ((shows (number_cell day ∷ [])).1 (day, in_range.0, to, has_details day (omega (arith, low, to)) h, refl)) refl),
              )),
          (λ p. (are day).1 (
            (same day).1 p.0,
            (λ r here is.
                let t = (shows r).0 here in
                let cells : number_cell t.0 ≡ number_cell day = sym (ap (λ x. column x 0) t.4) ∙ is in
                let of : t.0 ≡ day = cc in
                p.1 (subst (λ n. DetailIs (detail_on d n) ∈ current_world trees) of (row_has t.0 t.3))),
          )),
        );
        ascending = up;
      }

-- where no days are asked for, there are none without
pub without_none : (w : World) (d : DetailDays) (asked left : List ℕ) → asked ≡ []
    → ((day : ℕ) → Member day asked ↔ Member day d.days.items) → left ≡ [] → AreDaysWithout w d left
without_none w d asked left none same bare = record {
  each = λ day. (
    (λ m. absurd (subst (Member day) bare m)),
    (λ p. absurd (subst (Member day) none ((same day).1 p.0))),
  );
  ascending = subst (AllPairs (λ a b. a < b)) (sym bare) (λ i j e low high. absurd (omega (arith, high)));
}
