use Rattle.std.proofs.Common.{◌∙◌, ap, Some}
use Rattle.mds_registers.proofs.readings.put_update.Goals as goal

pub returns-then-ne : goal.returns-then-ne
returns-then-ne c = c.update_text.result.reads ∙ ap Some c.update_text.ensures
