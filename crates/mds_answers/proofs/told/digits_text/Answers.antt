use Rattle.mds_terms.proofs.Texts.{digits_utf8, ok_from}
use Rattle.mds_answers.proofs.told.digits_text.Goals as goal

pub unwrap-requires : goal.unwrap-requires
unwrap-requires c = ok_from c.from_utf8.result _ _ c.from_utf8.ensures.cases (λ e q. q.0 (digits_utf8 c.args.digits.now c.requires))
