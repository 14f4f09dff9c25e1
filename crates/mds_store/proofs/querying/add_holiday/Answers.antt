use Rattle.std.proofs.Common.{ap}
use Rattle.std.proofs.lemmas.Result.{on_ok_weaker}
use Rattle.sqlite_rules.specs.Edit.{id_in}
use Rattle.mds_world.specs.Facts.Fact.{HolidayIs}
use Rattle.mds_tables.specs.RowFacts.{natural}
use Rattle.mds_tables.proofs.Adding.{adds_one}
use Rattle.mds_store.specs.Said.{SaysHoliday}
use Rattle.mds_store.proofs.Listed.{day_exact, one_holiday}
use Rattle.mds_store.proofs.querying.add_holiday.Goals as goal

pub returns : goal.returns
returns c =
    let row = c.args.row.now in
    let says : SaysHoliday row c.in_ok-day.day = ap (λ v. HolidayIs (natural (id_in v))) (rw c.in_ok-day.ensures at c.day_at.ensures.some) in
    on_ok_weaker c.put.result
    (λ h. adds_one SaysHoliday c.args.found.now.keys c.put.new.found.keys row c.in_ok-day.day h says
    (λ q s. one_holiday row q c.in_ok-day.day s says))
    (c.put.ensures day_exact)
