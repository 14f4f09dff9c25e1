use Rattle.std.specs.Prelude.{ℕ, Option}
use Rattle.sqlite.specs.Held.{state}
use Rattle.mds_tables.specs.Shown.{SaysDay}
use Rattle.mds_tables.proofs.Asked.{and_then, answers, refused, steady, tables_held, with_both}
use Rattle.mds_pack_rows.specs.Current.{current_layout}
use Rattle.mds_commit.proofs.StreamLemmas.{finds_last}
use Rattle.mds_commit.proofs.known_streams.last_day.Goals as goal

pub returns : goal.returns
returns g c =
    let first = c.in_ok-first.first.items in
    let last = c.in_ok-last.last.items in
    let ready = steady current_layout (rw c.in_ok-or_unavailable.ensures at c.ready.ensures.ok) c.ready.ensures.survives c.ready.ensures.mode in
    let asked = and_then ready (rw c.in_ok-first.ensures at c.first_day_rows.ensures) in
    answers (tables_held current_layout (state g.S.Store c.args.conn.now)) (and_then asked (rw c.in_ok-last.ensures at c.last_day_rows.ensures)) c.last_of.result
    (λ known. with_both c.last_of.result (λ _. (low : Option ℕ) × SaysDay first low) (SaysDay last) _
    (λ high says is. finds_last c.args.stream.now _ known.0.0 first last known.0.1 known.1 says.0 says.1 high is)
    (rw c.deref.ensures.value at c.last_of.ensures.first)
    (rw c.deref-2.ensures.value at c.last_of.ensures.last))

pub returns-in_err-first : goal.returns-in_err-first
returns-in_err-first g c =
    let ready = steady current_layout (rw c.in_ok-or_unavailable.ensures at c.ready.ensures.ok) c.ready.ensures.survives c.ready.ensures.mode in
    refused (tables_held current_layout (state g.S.Store c.args.conn.now)) ready _ c.first_day_rows.ensures c.in_err-first.ensures _ _
    c.from_residual-in_err-first.ensures.1

pub returns-in_err-last : goal.returns-in_err-last
returns-in_err-last g c =
    let ready = steady current_layout (rw c.in_ok-or_unavailable.ensures at c.ready.ensures.ok) c.ready.ensures.survives c.ready.ensures.mode in
    refused (tables_held current_layout (state g.S.Store c.args.conn.now)) (and_then ready (rw c.in_ok-first.ensures at c.first_day_rows.ensures)) _ c.last_day_rows.ensures c.in_err-last.ensures _ _
    c.from_residual-in_err-last.ensures.1
