use Rattle.mds_export.proofs.row.write_row.Goals as goal

pub returns-in-Header-clause-full : goal.returns-in-Header-clause-full
returns-in-Header-clause-full c = rw c.in-Header.is c.write_header.ensures.full

pub returns-in-Details-clause-full : goal.returns-in-Details-clause-full
returns-in-Details-clause-full c = rw c.in-Details.is c.write_details.ensures.full

pub returns-in-Day-clause-full : goal.returns-in-Day-clause-full
returns-in-Day-clause-full c = rw c.in-Day.is c.write_day.ensures.full

pub returns-in-Header-clause-done : goal.returns-in-Header-clause-done
returns-in-Header-clause-done c = rw c.in-Header.is c.write_header.ensures.done

pub returns-in-Header-clause-lawful : goal.returns-in-Header-clause-lawful
returns-in-Header-clause-lawful c = rw c.in-Header.is c.write_header.ensures.lawful

pub returns-in-Header-clause-grown : goal.returns-in-Header-clause-grown
returns-in-Header-clause-grown c = c.write_header.ensures.grown

pub returns-in-Details-clause-done : goal.returns-in-Details-clause-done
returns-in-Details-clause-done c = rw c.in-Details.is c.write_details.ensures.done

pub returns-in-Details-clause-lawful : goal.returns-in-Details-clause-lawful
returns-in-Details-clause-lawful c = rw c.in-Details.is c.write_details.ensures.lawful

pub returns-in-Details-clause-grown : goal.returns-in-Details-clause-grown
returns-in-Details-clause-grown c = c.write_details.ensures.grown

pub returns-in-Day-clause-done : goal.returns-in-Day-clause-done
returns-in-Day-clause-done c = rw c.in-Day.is c.write_day.ensures.done

pub returns-in-Day-clause-lawful : goal.returns-in-Day-clause-lawful
returns-in-Day-clause-lawful c = rw c.in-Day.is c.write_day.ensures.lawful

pub returns-in-Day-clause-grown : goal.returns-in-Day-clause-grown
returns-in-Day-clause-grown c = c.write_day.ensures.grown

pub returns-in-Run-clause-done : goal.returns-in-Run-clause-done
returns-in-Run-clause-done c = rw c.in-Run.is c.write_run.ensures.done

pub returns-in-Run-clause-lawful : goal.returns-in-Run-clause-lawful
returns-in-Run-clause-lawful c = rw c.in-Run.is c.write_run.ensures.lawful

pub returns-in-Run-clause-grown : goal.returns-in-Run-clause-grown
returns-in-Run-clause-grown c = c.write_run.ensures.grown

pub returns-in-Run-clause-full : goal.returns-in-Run-clause-full
returns-in-Run-clause-full c = rw c.in-Run.is c.write_run.ensures.full

pub returns-in-End-clause-done : goal.returns-in-End-clause-done
returns-in-End-clause-done c = rw c.in-End.is c.write_end.ensures.done

pub returns-in-End-clause-grown : goal.returns-in-End-clause-grown
returns-in-End-clause-grown c = c.write_end.ensures.grown

pub returns-in-End-clause-full : goal.returns-in-End-clause-full
returns-in-End-clause-full c = rw c.in-End.is c.write_end.ensures.full
