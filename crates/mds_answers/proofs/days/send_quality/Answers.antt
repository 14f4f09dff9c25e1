use Rattle.std.proofs.Common.{subst, sym}
use Rattle.std.specs.Str.{IsUtf8}
use Rattle.mds_marks.proofs.Pieces.{ok_from}
use Rattle.mds_marks.proofs.Qualities.{quality_utf8}
use Rattle.mds_answers.proofs.days.send_quality.Goals as goal

pub unwrap-requires : goal.unwrap-requires
unwrap-requires g c =
    let utf8 = subst IsUtf8 (sym c.letters-count.ensures.text) (quality_utf8 c.args.quality c.letters-count.ensures.known) in
    ok_from c.from_utf8.result _ _ c.from_utf8.ensures.cases (λ e q. q.0 utf8)
