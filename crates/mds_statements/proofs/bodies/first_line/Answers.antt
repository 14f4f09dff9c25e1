use Rattle.std.proofs.Common.{Some, None, arith}
use Rattle.std.proofs.lemmas.Str.Pattern.{find_char}
use Rattle.mds_statements.proofs.BodyLemmas.{first_found, only_found}
use Rattle.mds_statements.proofs.bodies.first_line.Goals as goal

pub returns-in-Some : goal.returns-in-Some
returns-in-Some c =
    let found = find_char 10 c.args.text.now (Some c.in-Some.end) c.in-Some.ensures.cases (omega arith) in
    rw (c.split_at.ensures.front, c.split_at.ensures.back) (first_found c.args.text.now c.in-Some.end found.0 found.1 found.2)

pub returns-in-None : goal.returns-in-None
returns-in-None c = only_found c.args.text.now (find_char 10 c.args.text.now None c.in-None.ensures.cases (omega arith))
