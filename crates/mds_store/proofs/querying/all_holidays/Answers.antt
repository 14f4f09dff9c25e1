use Rattle.std.proofs.Common.{◌≡◌, subst, sym}
use Rattle.std.specs.List.{AllPairs}
use Rattle.std.specs.Ordering.{nat_cmp}
use Rattle.std.specs.declared.cmp.Ordering.TheVariants.{Less}
use Rattle.std.proofs.lemmas.Result.{IfOk-weaker}
use Rattle.mds_tables.proofs.Adding.{just}
use Rattle.mds_store.specs.Said.{AreHolidaysIn, SaysHoliday}
use Rattle.mds_store.proofs.Listed.{rising}
use Rattle.mds_store.proofs.querying.all_holidays.Goals as goal

pub returns-clause-each : goal.returns-clause-each
returns-clause-each c =
    let rows = c.args.rows.now in
    let keys = c.add_holidays.new.found.keys in
    IfOk-weaker c.in_order.result (λ all. all.items ≡ keys) _
    (λ all same. subst (AreHolidaysIn rows) (sym same)
    (just SaysHoliday c.new-found.result.keys keys rows c.new-found.ensures.empty c.in_ok-add_holidays.ensures))
    c.in_order.ensures.same

pub returns-clause-ascending : goal.returns-clause-ascending
returns-clause-ascending c =
    IfOk-weaker c.in_order.result (λ all. AllPairs (λ a b. nat_cmp a b ≡ Less) all.items) _
    (λ all up. rising all.items up) c.in_order.ensures.ascending
