-- What rows of mds_form say of streams and of their last days.
use Rattle.std.specs.Prelude.{◌≡◌, ◌↔◌, ◌≤◌, ℕ, ℤ, pos, negsuc, List, [], ◌∷◌, false, Option, Some, None, refl}
use Rattle.std.proofs.Common.{sym, ap, subst, inl, inr, ◌∙◌, arith}
use Rattle.std.proofs.lemmas.Int.{ints}
use Rattle.std.proofs.lemmas.Map.Lookups.{exact_bytes, exact_pairs}
use Rattle.std.specs.Cmp.Lexicographic.{slice_cmp}
use Rattle.std.specs.FinSet.{IsAntisymmetric}
use Rattle.std.specs.List.{AllPairs}
use Rattle.std.specs.Ordering.{int_cmp, is_lt, nat_cmp}
use Rattle.std.specs.declared.cmp.Ordering.TheVariants.{Less}
use Rattle.sqlite.specs.declared.types.Value.TheVariants.{Int, Text}
use Rattle.sqlite_catalog.specs.Listing.{IsSound}
use Rattle.sqlite_rules.specs.Edit.{id_in}
use Rattle.sqlite_trees.specs.Tree.{Trees}
use Rattle.sqlite_value.proofs.OrderLemmas.{value_cmp-Int}
use Rattle.sqlite_value.specs.Order.{Row, bytes, column}
use Rattle.mds_names.specs.declared.stream.Stream.{Stream}
use Rattle.mds_statements.specs.declared.periods.PeriodKey.{PeriodKey}
use Rattle.mds_world.specs.Facts.{Fact, PeriodContent}
use Rattle.mds_world.specs.Facts.Fact.{DetailIs, EventIs, HeadIs, HolidayIs, JobIs, PeriodIs, VersionIs}
use Rattle.mds_world.specs.Lists.{Member}
use Rattle.mds_world.specs.Sets.{◌∈◌}
use Rattle.mds_world.specs.World.{IsKnownDay}
use Rattle.mds_world.specs.declared.facts.Head.{Head}
use Rattle.mds_keeper.specs.Queries.{AreKnownStreams, IsLastDayOf, stream_cmp}
use Rattle.mds_tables.specs.Cells.{stream_cells}
use Rattle.mds_tables.specs.RowFacts.{int_at, natural, natural_at, period_fact, stream_in, text_at}
use Rattle.mds_tables.specs.Stores.{Begins, Selects}
use Rattle.mds_tables.specs.Tables.{form_tree, head_tree, period_tree, stream_columns}
use Rattle.mds_tables.proofs.Named.{of_period}
use Rattle.mds_tables.specs.Shown.{SaysDay, SelectsFirst, falling, rising}
use Rattle.mds_tables.proofs.Listed.{on_stream, stream_on}
use Rattle.mds_tables.proofs.TypedRows.{period_row}
use Rattle.mds_pack_rows.specs.Current.{current_layout, current_more, current_schema, current_world}
use Rattle.mds_commit.specs.FormRows.{form_day}
use Rattle.mds_commit.specs.StreamRows.{AreStreamsIn, SaysStream, ShowsStream}
use Rattle.mds_commit.proofs.FormNamed.{form_head, form_named, form_row, named_form}

-- ---- the streams of rows

pub stream_exact : IsAntisymmetric stream_cmp
stream_exact a b e =
    let p = exact_pairs (slice_cmp nat_cmp) (slice_cmp nat_cmp) exact_bytes exact_bytes (a.nmi, a.suffix) (b.nmi, b.suffix) e in
    λ i. record { nmi = (p i).0; suffix = (p i).1 }

-- a row says one stream
pub one_stream : (row : Row) (a b : Stream) → SaysStream row a → SaysStream row b → a ≡ b
one_stream row a b p q =
    let nmi : a.nmi ≡ b.nmi = ap bytes (sym p.0 ∙ q.0) in
    let suffix : a.suffix ≡ b.suffix = ap bytes (sym p.1 ∙ q.1) in
    λ i. record { nmi = nmi i; suffix = suffix i }

-- a row that is shown as its stream
names_stream : (r shown : Row) (s : Stream) → shown ≡ column r 1 ∷ column r 2 ∷ [] → SaysStream shown s → stream_in r ≡ s
names_stream r shown s is says =
    let nmi : text_at r 1 ≡ s.nmi = ap (λ x. bytes (column x 0)) (sym is) ∙ ap bytes says.0 in
    let suffix : text_at r 2 ≡ s.suffix = ap (λ x. bytes (column x 1)) (sym is) ∙ ap bytes says.1 in
    λ i. record { nmi = nmi i; suffix = suffix i }

-- the stream of a period's fact
abbrev stream_of : Stream → Fact → Stream
stream_of none (HeadIs head) = none
stream_of none (VersionIs key reading) = none
stream_of none (DetailIs detail) = none
stream_of none (EventIs event) = none
stream_of none (PeriodIs key content) = key.stream
stream_of none (HolidayIs date) = none
stream_of none (JobIs id content count) = none

-- the fact of a period's row
period_at : (r : Row) → (key : PeriodKey) × (content : PeriodContent) × (period_fact r ≡ PeriodIs key content) × (key.stream ≡ stream_in r)
period_at r = (_, _, refl, refl)

module _ (trees : Trees) (sound : IsSound current_schema trees) where
  module _ (rows : List Row) (s : Stream) where
    head_streams : Selects form_tree [] stream_columns trees rows
        → ShowsStream rows s ↔ ((head : Head) × (HeadIs head ∈ current_world trees) × (head.stream ≡ s))
    head_streams sel = (
      (λ t.
          let f = (sel t.0).0 t.1 in
          let head = form_head (trees head_tree) f.0 in
          (head, named_form trees f.0 f.1 head refl, names_stream f.0 t.0 s f.3 t.2)),
      (λ p.
          let n = form_named trees p.0 p.1 in
          let on : stream_in n.0 ≡ s = ap (λ (x : Head). x.stream) n.2 ∙ p.2 in
          let it = form_row trees sound n.0 n.1 in (
            column n.0 1 ∷ column n.0 2 ∷ [],
            (sel (column n.0 1 ∷ column n.0 2 ∷ [])).1 (n.0, n.1, refl, refl),
            (it.nmi ∙ ap (λ (x : Stream). Text x.nmi) on, it.suffix ∙ ap (λ (x : Stream). Text x.suffix) on),
          )),
    )

    period_streams : Selects period_tree [] stream_columns trees rows
        → ShowsStream rows s
        ↔ ((key : PeriodKey) × (content : PeriodContent) × (PeriodIs key content ∈ current_world trees) × (key.stream ≡ s))
    period_streams sel = (
      (λ t.
          let f = (sel t.0).0 t.1 in
          let p = period_at f.0 in (
            p.0,
            p.1,
            (of_period current_layout trees p.0 p.1).1 (f.0, f.1, p.2),
            p.3 ∙ names_stream f.0 t.0 s f.3 t.2,
          )),
      (λ p.
          let n = (of_period current_layout trees p.0 p.1).0 p.2 in
          let on : stream_in n.0 ≡ s = ap (stream_of p.0.stream) n.2 ∙ p.3 in
          let it = period_row current_more trees sound n.0 n.1 in (
            column n.0 1 ∷ column n.0 2 ∷ [],
            (sel (column n.0 1 ∷ column n.0 2 ∷ [])).1 (n.0, n.1, refl, refl),
            (it.nmi ∙ ap (λ (x : Stream). Text x.nmi) on, it.suffix ∙ ap (λ (x : Stream). Text x.suffix) on),
          )),
    )

  -- the known streams
  pub finds_streams : (heads periods : List Row) → Selects form_tree [] stream_columns trees heads
      → Selects period_tree [] stream_columns trees periods → (streams : List Stream) → AreStreamsIn heads periods streams
      → AllPairs (λ a b. stream_cmp a b ≡ Less) streams → AreKnownStreams (current_world trees) streams
  finds_streams heads periods of_heads of_periods streams are up = record {
    each = λ s. (
      (λ m. elim ((are s).0 m) [
        | inl h ↦ inl ((head_streams heads s of_heads).0 h)
        | inr p ↦ inr ((period_streams periods s of_periods).0 p)
      ]),
      (λ k. elim k [
        | inl h ↦ (are s).1 (inl ((head_streams heads s of_heads).1 h))
        | inr p ↦ (are s).1 (inr ((period_streams periods s of_periods).1 p))
      ]),
    );
    ascending = up;
  }

-- ---- the last day of a stream

-- a number between two days, as a count
no_later : (z : ℤ) (first last : ℕ) → is_lt (int_cmp z (pos first)) ≡ false → is_lt (int_cmp (pos last) z) ≡ false
    → natural z ≤ last
no_later (pos n) first last f l = grind (arith, ints)
no_later (negsuc n) first last f l = absurd (cc)

module _ (s : Stream) (trees : Trees) (sound : IsSound current_schema trees) where
  abbrev IsFirst : List Row → Type 0
  IsFirst = SelectsFirst rising form_tree (stream_cells s) form_day trees

  abbrev IsLast : List Row → Type 0
  IsLast = SelectsFirst falling form_tree (stream_cells s) form_day trees

  -- a known day has a row of its stream
  row_of : (day : ℕ) → IsKnownDay (current_world trees) s day
      → (row : Row) × Member row (trees form_tree) × Begins (stream_cells s) row × (natural_at row 3 ≡ day)
  row_of day k =
      let n = form_named trees k.0 k.1 in (
        n.0,
        n.1,
        stream_on s n.0 (form_row trees sound n.0 n.1) (ap (λ (x : Head). x.stream) n.2 ∙ k.2),
        ap (λ (x : Head). x.day) n.2 ∙ k.3,
      )

  -- the row of the last day, where there is a first one
  by_row : (first : List Row) → IsFirst first → (low : Option ℕ) → SaysDay first low → (row : Row) (later : List Row) → IsLast (row ∷ later)
      → (day : ℕ) → column row 0 ≡ Int (pos day) → (r : Row) → Member r (trees form_tree) → Begins (stream_cells s) r → natural_at r 3 ≤ day
  by_row first least None none row later greatest day is r m b = absurd (subst IsFirst none least r m b)
  by_row first least (Some low) says row later greatest day is r m b =
      let number = (form_row trees sound r m).number in
      let from : IsFirst (says.0 ∷ says.1) = subst IsFirst says.2 least in
      no_later (int_at r 3) low day
      (sym (ap is_lt (value_cmp-Int (int_at r 3) (pos low))) ∙ (rw (number, says.3) at (from.1 r m b)))
      (sym (ap is_lt (value_cmp-Int (pos day) (int_at r 3))) ∙ (rw (number, is) at (greatest.1 r m b)))

  pub finds_last : (first last : List Row) → IsFirst first → IsLast last → (low : Option ℕ) → SaysDay first low → (high : Option ℕ)
      → SaysDay last high → IsLastDayOf (current_world trees) s high
  finds_last first last least greatest low says None none = λ day k.
      let r = row_of day k in subst IsLast none greatest r.0 r.1 r.2
  finds_last first last least greatest low says (Some day) is =
      let of : IsLast (is.0 ∷ is.1) = subst IsLast is.2 greatest in
      let r = of.0 in
      let head = form_head (trees head_tree) r.0 in
      record {
        known = (
          head,
          named_form trees r.0 r.1 head refl,
          on_stream s r.0 r.2,
          ap (λ (x : Row). natural (id_in (column x 0))) (sym r.3) ∙ ap (λ v. natural (id_in v)) is.3,
        );
        last = λ other k.
            let o = row_of other k in
            subst (λ n. n ≤ day) o.3 (by_row first least low says is.0 is.1 of day is.3 o.0 o.1 o.2);
      }
