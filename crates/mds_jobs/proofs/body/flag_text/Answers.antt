use Rattle.std.proofs.Common.{◌∙◌, sym}
use Rattle.mds_terms.proofs.Texts.{letters_utf8, ok_from}
use Rattle.mds_jobs.proofs.body.flag_text.Goals as goal

pub unwrap-requires : goal.unwrap-requires
unwrap-requires c =
    ok_from c.from_utf8.result _ _ c.from_utf8.ensures.cases (λ e q. q.0 (letters_utf8 c.args.flags.now (sym c.are_letters.ensures ∙ c.if-are_letters.true)))
