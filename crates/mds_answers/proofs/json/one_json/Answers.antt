use Rattle.mds_answers.proofs.OneText.{one_text}
use Rattle.mds_answers.proofs.json.one_json.Goals as goal

pub returns : goal.returns
returns c = one_text c.one_day_text.ensures c.one_moment_text.ensures
