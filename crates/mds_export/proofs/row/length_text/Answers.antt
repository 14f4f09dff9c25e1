use Rattle.mds_export.proofs.Fields.{length_5, length_15, length_30}
use Rattle.mds_export.proofs.row.length_text.Goals as goal

pub returns-then-count-eq288 : goal.returns-then-count-eq288
returns-then-count-eq288 c = length_5 c.args.length c.count-count.result c.minutes.ensures.known c.count-count.ensures.value c.if-count-eq288.true

pub returns-then-count-eq96 : goal.returns-then-count-eq96
returns-then-count-eq96 c = length_15 c.args.length c.count-count.result c.minutes.ensures.known c.count-count.ensures.value c.if-count-eq96.true

pub returns : goal.returns
returns c = length_30 c.args.length c.count-count.result c.minutes.ensures.known c.count-count.ensures.value c.if-count-eq288.false c.if-count-eq96.false
