use Rattle.std.specs.List.{AllPairs}
use Rattle.std.proofs.Common.{◌≡◌}
use Rattle.std.specs.declared.cmp.Ordering.TheVariants.{Less}
use Rattle.sqlite.specs.Held.{state}
use Rattle.mds_keeper.specs.Queries.{stream_cmp}
use Rattle.mds_tables.proofs.Asked.{and_then, answers, refused, steady, tables_held, with_both}
use Rattle.mds_pack_rows.specs.Current.{current_layout}
use Rattle.mds_commit.specs.StreamRows.{AreStreamsIn}
use Rattle.mds_commit.proofs.StreamLemmas.{finds_streams}
use Rattle.mds_commit.proofs.known_streams.streams.Goals as goal

pub returns : goal.returns
returns g c =
    let heads = c.in_ok-heads.heads.items in
    let periods = c.in_ok-periods.periods.items in
    let ready = steady current_layout (rw c.in_ok-or_unavailable.ensures at c.ready.ensures.ok) c.ready.ensures.survives c.ready.ensures.mode in
    let asked = and_then ready (rw c.in_ok-heads.ensures at c.form_stream_rows.ensures) in
    answers (tables_held current_layout (state g.S.Store c.args.conn.now)) (and_then asked (rw c.in_ok-periods.ensures at c.period_stream_rows.ensures)) c.all_streams.result
    (λ known. with_both c.all_streams.result (λ streams. AreStreamsIn heads periods streams.items)
    (λ streams. AllPairs (λ a b. stream_cmp a b ≡ Less) streams.items) _
    (λ streams. finds_streams _ known.0.0 heads periods known.0.1 known.1 streams.items)
    (rw (c.deref.ensures.value, c.deref-2.ensures.value) at c.all_streams.ensures.each)
    c.all_streams.ensures.ascending)

pub returns-in_err-heads : goal.returns-in_err-heads
returns-in_err-heads g c =
    let ready = steady current_layout (rw c.in_ok-or_unavailable.ensures at c.ready.ensures.ok) c.ready.ensures.survives c.ready.ensures.mode in
    refused (tables_held current_layout (state g.S.Store c.args.conn.now)) ready _ c.form_stream_rows.ensures c.in_err-heads.ensures _ _
    c.from_residual-in_err-heads.ensures.1

pub returns-in_err-periods : goal.returns-in_err-periods
returns-in_err-periods g c =
    let ready = steady current_layout (rw c.in_ok-or_unavailable.ensures at c.ready.ensures.ok) c.ready.ensures.survives c.ready.ensures.mode in
    refused (tables_held current_layout (state g.S.Store c.args.conn.now)) (and_then ready (rw c.in_ok-heads.ensures at c.form_stream_rows.ensures)) _ c.period_stream_rows.ensures c.in_err-periods.ensures _ _
    c.from_residual-in_err-periods.ensures.1
