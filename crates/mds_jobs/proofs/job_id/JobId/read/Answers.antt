use Rattle.std.proofs.Common.{rules, sym, ◌∙◌}
use Rattle.mds_jobs.proofs.IdLemmas.{made}
use Rattle.mds_jobs.proofs.job_id.JobId.read.Goals as goal

pub invariant_of-result : goal.invariant_of-result
invariant_of-result c =
    made c.args.text.now c.copy_from_slice.new.self (search rules) c.if-text-gt-LONGEST.false
    (sym c.are_id_chars.ensures ∙ c.if-not-are_id_chars.false) c.copy_from_slice.ensures.after
