use Rattle.std.proofs.Common.{codes, refl}
use Rattle.std.proofs.lemmas.Result.{on_ok_weaker}
use Rattle.serde_json.specs.Data.{array, member, no_members, object}
use Rattle.serde_json.specs.View.{items_of}
use Rattle.mds_answers.proofs.streams.send_streams.Goals as goal

pub returns : goal.returns
returns g c =
    let w = g.S.Serializer.written in
    let streams = c.in_ok-send_list.ensures in
    let m1 = streams.2 in
    on_ok_weaker c.end_map.result (λ ended. (
      object (member (codes "streams") (array (items_of streams.0)) no_members),
      (streams.0, streams.1, refl),
      (w c.begin_map.new.self, c.in_ok-begin_map.ensures, (m1.0, w c.send_list.new.out, m1.1, m1.2, ended)),
    )) c.end_map.ensures
