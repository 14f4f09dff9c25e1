use Rattle.mds_terms.proofs.Texts.{ok_from, letters_utf8}
use Rattle.mds_terms.proofs.parts.trans_text.Goals as goal

pub unwrap-requires : goal.unwrap-requires
unwrap-requires c = ok_from c.from_utf8.result _ _ c.from_utf8.ensures.cases (λ e q. q.0 (letters_utf8 c.args.letter.now c.requires.letter))
