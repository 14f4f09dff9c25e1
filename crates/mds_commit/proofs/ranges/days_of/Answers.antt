use Rattle.std.proofs.Common.{map, arith}
use Rattle.sqlite.specs.Held.{state}
use Rattle.mds_tables.proofs.Asked.{and_then, answers, refused, steady, tables_held, with_both}
use Rattle.mds_pack_rows.specs.Current.{current_layout}
use Rattle.mds_commit.specs.Cuts.{AreCut, DaysAscend, day_unit}
use Rattle.mds_commit.proofs.CutLemmas.{are_days}
use Rattle.mds_commit.proofs.ranges.days_of.Goals as goal

pub returns : goal.returns
returns g c =
    let heads = c.in_ok-heads.heads.items in
    let forms = c.in_ok-forms.forms.items in
    let packs = c.in_ok-packs.packs.items in
    let ready = steady current_layout (rw c.in_ok-or_unavailable.ensures at c.ready.ensures.ok) c.ready.ensures.survives c.ready.ensures.mode in
    let asked = and_then (and_then (and_then ready (rw c.in_ok-heads.ensures at c.head_range_rows.ensures)) (rw c.in_ok-forms.ensures at c.form_range_rows.ensures)) (rw c.in_ok-packs.ensures at c.pack_range_rows.ensures) in
    answers (tables_held current_layout (state g.S.Store c.args.conn.now)) asked c.all_books.result
    (λ known. with_both c.all_books.result (λ books. AreCut c.args.stream.now (map day_unit heads) forms packs books.items)
    (λ _. DaysAscend (map day_unit heads)) _
    (λ books. are_days c.args.stream.now c.args.first c.args.last (omega (arith, c.number.ensures.last)) _ known.0.0.0 heads forms packs
    known.0.0.1 known.0.1 known.1 books.items)
    (rw (c.deref.ensures.value, c.deref-2.ensures.value, c.deref-3.ensures.value) at c.all_books.ensures.each)
    (rw c.deref.ensures.value at c.all_books.ensures.ascending))

pub returns-in_err-heads : goal.returns-in_err-heads
returns-in_err-heads g c =
    let ready = steady current_layout (rw c.in_ok-or_unavailable.ensures at c.ready.ensures.ok) c.ready.ensures.survives c.ready.ensures.mode in
    refused (tables_held current_layout (state g.S.Store c.args.conn.now)) ready _ c.head_range_rows.ensures c.in_err-heads.ensures _ _
    c.from_residual-in_err-heads.ensures.1

pub returns-in_err-forms : goal.returns-in_err-forms
returns-in_err-forms g c =
    let ready = steady current_layout (rw c.in_ok-or_unavailable.ensures at c.ready.ensures.ok) c.ready.ensures.survives c.ready.ensures.mode in
    refused (tables_held current_layout (state g.S.Store c.args.conn.now)) (and_then ready (rw c.in_ok-heads.ensures at c.head_range_rows.ensures)) _ c.form_range_rows.ensures c.in_err-forms.ensures _ _
    c.from_residual-in_err-forms.ensures.1

pub returns-in_err-packs : goal.returns-in_err-packs
returns-in_err-packs g c =
    let ready = steady current_layout (rw c.in_ok-or_unavailable.ensures at c.ready.ensures.ok) c.ready.ensures.survives c.ready.ensures.mode in
    refused (tables_held current_layout (state g.S.Store c.args.conn.now)) (and_then (and_then ready (rw c.in_ok-heads.ensures at c.head_range_rows.ensures)) (rw c.in_ok-forms.ensures at c.form_range_rows.ensures)) _ c.pack_range_rows.ensures c.in_err-packs.ensures _ _
    c.from_residual-in_err-packs.ensures.1
