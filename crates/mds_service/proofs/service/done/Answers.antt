use Rattle.mds_service.proofs.service.done.Goals as goal

pub returns-in-Import-clause-step : goal.returns-in-Import-clause-step
returns-in-Import-clause-step g c = rw c.in-Import.is (rw c.deref.ensures.value at c.import.ensures)

pub returns-in-Holidays-clause-step : goal.returns-in-Holidays-clause-step
returns-in-Holidays-clause-step g c = rw c.in-Holidays.is (rw c.deref-in-Holidays.ensures.value at c.list_holidays.ensures)

pub returns-in-Export-clause-idle : goal.returns-in-Export-clause-idle
returns-in-Export-clause-idle g c = rw c.in-Export.is c.export.ensures.idle
