use Rattle.std.proofs.Common.{arith}
use Rattle.std.specs.Prelude.{All}
use Rattle.sqlite.specs.Held.{state}
use Rattle.mds_tables.proofs.Asked.{and_then, answers, steady, tables_held, with_both}
use Rattle.mds_pack_rows.specs.Current.{current_layout}
use Rattle.mds_commit.specs.Shown.{AreByDay, IsDetailRow, TellsDays}
use Rattle.mds_commit.proofs.DayFacts.{finds_between}
use Rattle.mds_commit.proofs.querying.details_between.Goals as goal

pub returns : goal.returns
returns g c =
    let rows = c.in_ok-rows.rows.items in
    let ready = steady current_layout (rw c.in_ok-or_unavailable.ensures at c.ready.ensures.ok) c.ready.ensures.survives c.ready.ensures.mode in
    answers (tables_held current_layout (state g.S.Store c.args.conn.now)) (and_then ready (rw c.in_ok-rows.ensures at c.range_rows.ensures)) c.tell_days.result
    (λ known. with_both c.tell_days.result (λ _. All (λ row. IsDetailRow row) rows) (λ told. AreByDay rows → TellsDays rows told.items) _
    (λ told lawful tells. finds_between _ known.0 c.args.stream.now c.args.first c.args.last (omega (arith, c.number.ensures.last)) rows
    known.1 told.items (tells (known.1.1 lawful)))
    (rw c.deref.ensures.value at c.tell_days.ensures.all)
    (rw c.deref.ensures.value at c.tell_days.ensures.told))
