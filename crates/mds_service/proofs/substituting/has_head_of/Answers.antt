use Rattle.std.proofs.Common.{subst, sym}
use Rattle.mds_service.specs.SubstitutionSteps.{HasItsHead}
use Rattle.mds_service.proofs.DayOfJob.{has_its_head}
use Rattle.mds_service.proofs.substituting.has_head_of.Goals as goal

pub returns : goal.returns
returns c = λ w of suits. let job = c.args.job.now in
    subst (HasItsHead w job) (sym c.is_some.ensures)
    (has_its_head w job c.args.book.now c.length_under.result of c.is_lawful.ensures c.length_under.ensures suits)
