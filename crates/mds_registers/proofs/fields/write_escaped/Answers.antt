use Rattle.std.proofs.Common.{refl, rules}
use Rattle.csv.proofs.WriteFacts.{escaped-double, escaped-other}
use Rattle.csv.specs.Writing.{default_writer}
use Rattle.mds_registers.proofs.fields.write_escaped.Goals as goal

pub returns-then-byte-eq34 : goal.returns-then-byte-eq34
returns-then-byte-eq34 c =
    rw (escaped-double default_writer c.args.byte c.if-byte-eq34.true refl, c.if-byte-eq34.true) (search rules)

pub returns : goal.returns
returns c = rw (escaped-other default_writer c.args.byte c.if-byte-eq34.false) (search rules)
