use Rattle.mds_terms.proofs.Texts.{both, ok_from, printable_utf8}
use Rattle.mds_terms.proofs.printable.PrintableText.text.Goals as goal

pub unwrap-requires : goal.unwrap-requires
unwrap-requires c =
    ok_from c.from_utf8.result _ _ c.from_utf8.ensures.cases
    (λ e q. q.0 (printable_utf8 c.args.self.now.text.now (both _ _ c.args.self.now.printable).1))
