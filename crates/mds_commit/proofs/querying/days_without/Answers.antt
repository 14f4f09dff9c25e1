use Rattle.std.proofs.Common.{◌≡◌, arith, subst, sym}
use Rattle.std.specs.List.{AllPairs}
use Rattle.std.specs.Ordering.{nat_cmp}
use Rattle.std.specs.declared.cmp.Ordering.TheVariants.{Less}
use Rattle.sqlite.specs.Held.{state}
use Rattle.mds_tables.proofs.Asked.{and_then, answers, steady, tables_held, with_both}
use Rattle.mds_pack_rows.specs.Current.{current_layout}
use Rattle.mds_commit.specs.Shown.{AreLeft}
use Rattle.mds_commit.proofs.DayFacts.{finds_without, without_none}
use Rattle.mds_commit.proofs.DaysLeft.{ascending, collected}
use Rattle.mds_commit.proofs.querying.days_without.Goals as goal

pub returns-in_default : goal.returns-in_default
returns-in_default g c =
    let details = c.args.details.now in
    let asked = c.in_ok-left.left in
    let ready = steady current_layout (rw c.in_ok-or_unavailable.ensures at c.ready.ensures.ok) c.ready.ensures.survives c.ready.ensures.mode in
    answers (tables_held current_layout (state g.S.Store c.args.conn.now)) ready _
    (λ known. without_none _ details asked.keys c.new.result.items c.in_default.ensures.none
    (collected details.days.items asked (rw c.deref.ensures.value at c.in_ok-left.ensures)) c.new.ensures.items)

pub returns : goal.returns
returns g c =
    let details = c.args.details.now in
    let asked = c.in_ok-left.left in
    let rows = c.in_ok-rows.rows.items in
    let left = c.take_shown.new.left.keys in
    let taken : AreLeft asked.keys rows left = rw c.deref-2.ensures.value at c.in_ok-take_shown.ensures in
    let ready = steady current_layout (rw c.in_ok-or_unavailable.ensures at c.ready.ensures.ok) c.ready.ensures.survives c.ready.ensures.mode in
    answers (tables_held current_layout (state g.S.Store c.args.conn.now)) (and_then ready (rw c.in_ok-rows.ensures at c.days_with_rows.ensures)) c.in_order.result
    (λ known. with_both c.in_order.result (λ days. days.items ≡ left) (λ days. AllPairs (λ a b. nat_cmp a b ≡ Less) days.items) _
    (λ days same up. finds_without _ known.0 details c.are_small.ensures.moment c.are_small.ensures.next c.in-Some.ends.0 c.in-Some.ends.1
    (omega (arith, c.number.ensures.last)) asked.keys days.items
    (collected details.days.items asked (rw c.deref.ensures.value at c.in_ok-left.ensures)) c.in-Some.ensures.some rows known.1
    (subst (AreLeft asked.keys rows) (sym same) taken) (ascending days.items up))
    c.in_order.ensures.same c.in_order.ensures.ascending)
