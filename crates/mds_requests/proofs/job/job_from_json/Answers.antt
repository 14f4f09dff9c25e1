use Rattle.mds_quantity.proofs.Front.{on_err_from}
use Rattle.serde_json.specs.View.{view}
use Rattle.mds_requests.proofs.JobTexts.{found_in_text, some_text}
use Rattle.mds_requests.proofs.job.job_from_json.Goals as goal

pub returns-in-Ok-from_str-clause-found : goal.returns-in-Ok-from_str-clause-found
returns-in-Ok-from_str-clause-found c =
    let text = c.in-Ok.ensures.cases in
    let denoted = rw text.0 at c.in-Ok-from_str.ensures.ok in
    found_in_text c.args.text.now (view c.in-Ok-from_str.value) c.job_in.result text.1 denoted c.job_in.ensures

pub returns-in-Ok-from_str-clause-memory : goal.returns-in-Ok-from_str-clause-memory
returns-in-Ok-from_str-clause-memory c =
    let text = c.in-Ok.ensures.cases in
    let denoted = rw text.0 at c.in-Ok-from_str.ensures.ok in
    on_err_from c.job_in.result _ (text.1, some_text c.args.text.now (view c.in-Ok-from_str.value) denoted)
