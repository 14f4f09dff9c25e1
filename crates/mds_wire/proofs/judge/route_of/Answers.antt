use Rattle.std.specs.Str.{IsUtf8}
use Rattle.mds_wire.proofs.Texts.{ok_from, path_is_text}
use Rattle.mds_wire.proofs.judge.route_of.Goals as goal

pub unwrap-requires : goal.unwrap-requires
unwrap-requires g c =
    let text : IsUtf8 c.path_of.result.now = rw c.path_of.ensures (path_is_text c.args.target.now c.requires) in
    ok_from c.from_utf8.result _ _ c.from_utf8.ensures.cases (λ e q. q.0 text)
