use Rattle.std.proofs.Common.{[], ◌∷◌, ◌++◌, ◌∙◌, ap}
use Rattle.mds_keeper.proofs.Settled.{known_or_new}
use Rattle.mds_service.proofs.DayOfJob.{heads_put}
use Rattle.mds_service.proofs.substituting.additions_of.Goals as goal

pub returns : goal.returns
returns c = λ w of suits.
    let put = heads_put w c.args.job.now c.args.book.now of _ _ _ _
    (known_or_new _ _ _ c.is_none-is_new_day.ensures c.form.ensures.some c.form.ensures.none)
    c.in_ok-new_days.ensures.first c.in_ok-new_days.ensures.further in record {
      has_head = c.has_head_of-has_head.result;
      tells = c.has_head_of-has_head.ensures w of suits;
      heads = put.0;
      known_day = put.1;
      new_day = put.2;
      versions = c.in_ok-days.ensures.versions;
      days = c.in_ok-days.ensures.formed;
      details = c.new.ensures.items;
      events = c.new-2.ensures.items;
      periods = c.new-3.ensures.items;
      holidays = c.new-4.ensures.items;
      jobs = c.in_ok-push.ensures.items ∙ ap (λ l. l ++ (c.in_ok-try_clone.field-0, c.len-count.result) ∷ []) c.new-jobs.ensures.items
          ∙ (λ i. (c.in_ok-try_clone.ensures.value i, (c.len-count.ensures ∙ c.args.readings.ok.0) i) ∷ []);
    }
