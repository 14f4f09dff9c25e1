use Rattle.mds_wire.proofs.HeadLemmas.{no_head}
use Rattle.mds_wire.proofs.head.parse.Goals as goal

pub returns-in-Err-clause-bad : goal.returns-in-Err-clause-bad
returns-in-Err-clause-bad c =
    no_head c.args.bytes.now _ c.in-Err.field-0 c.requires c.in-Err.ensures.invalid (λ e. c.in-Err.ensures.too_many (cc)) c.in-Err.ensures.no_room
