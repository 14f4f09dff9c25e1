use Rattle.std.proofs.Common.{◌∙◌}
use Rattle.mds_memory.proofs.Streams.{head_told}
use Rattle.mds_memory.proofs.stored_days.has_head.Goals as goal

pub returns : goal.returns
returns c = c.is_some.ensures ∙ head_told c.args.book.now c.form.result c.form.ensures.unit c.form.ensures.rows
