use Rattle.mds_names.proofs.Texts.{ok_from, name_utf8}
use Rattle.mds_names.proofs.nmi.Nmi.text.Goals as goal

pub unwrap-requires : goal.unwrap-requires
unwrap-requires c = ok_from c.from_utf8.result _ _ c.from_utf8.ensures.cases (λ e q. q.0 (name_utf8 10 c.self.inside.bytes c.self.invariant))
