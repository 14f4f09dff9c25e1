use Rattle.std.proofs.lemmas.Fmt.{IsAscii-from_digits}
use Rattle.std.proofs.lemmas.Str.{IsUtf8-from_ascii}
use Rattle.mds_jobs.proofs.body.number_in.Goals as goal

pub returns-in_default-clause-none : goal.returns-in_default-clause-none
returns-in_default-clause-none c =
    λ number w. c.in_default.ensures.cases.0 (IsUtf8-from_ascii c.args.text.now (IsAscii-from_digits c.args.text.now w.numeral.1))
