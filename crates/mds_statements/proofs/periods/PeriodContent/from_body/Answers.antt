use Rattle.std.proofs.Common.{◌≡◌, ◌++◌, ◌∙◌, Some, None, ap, arith, string_bytes}
use Rattle.std.proofs.lemmas.Result.{err_from_is_err_and}
use Rattle.std.proofs.lemmas.Str.Pattern.{rfind_char}
use Rattle.mds_statements.specs.Contents.{content_of}
use Rattle.mds_statements.proofs.BodyLemmas.{last_found, one_found, some_found, some_wanted}
use Rattle.mds_statements.proofs.periods.PeriodContent.from_body.Goals as goal

pub returns-in_default-clause-ok : goal.returns-in_default-clause-ok
returns-in_default-clause-ok c =
    one_found c.args.body.now c.first_line.result.0.now c.first_line.result.1.now c.first_line.ensures
    (rfind_char 44 c.first_line.result.0.now None c.in_default.ensures.cases (omega arith))

pub returns-in_err-reserve_exact-clause-err : goal.returns-in_err-reserve_exact-clause-err
returns-in_err-reserve_exact-clause-err c =
    let line = c.first_line.result.0.now in
    let rest = c.first_line.result.1.now in
    let found = rfind_char 44 line (Some c.in-Some.end) c.in-Some.ensures.cases (omega arith) in
    let said = last_found c.args.body.now line rest c.first_line.ensures c.in-Some.end found.0 found.1 found.2 in
    let p = err_from_is_err_and c.from_residual.result c.from_residual.ensures.1 in
    rw (p.1) (λ text is. some_wanted c.split_at.result.0.now rest text c.args.body.now (rw (c.split_at.ensures.front) said)
    (omega (arith, c.in_err-reserve_exact.ensures.full)) is)

pub returns-in_err-reserve_exact-clause-some : goal.returns-in_err-reserve_exact-clause-some
returns-in_err-reserve_exact-clause-some c =
    let line = c.first_line.result.0.now in
    let found = rfind_char 44 line (Some c.in-Some.end) c.in-Some.ensures.cases (omega arith) in
    let p = err_from_is_err_and c.from_residual.result c.from_residual.ensures.1 in
    rw (p.1) (some_found c.args.body.now line c.first_line.result.1.now c.first_line.ensures c.in-Some.end found.0 found.1)

pub returns-clause-ok : goal.returns-clause-ok
returns-clause-ok c =
    let line = c.first_line.result.0.now in
    let rest = c.first_line.result.1.now in
    let found = rfind_char 44 line (Some c.in-Some.end) c.in-Some.ensures.cases (omega arith) in
    let written : string_bytes c.push_str-2.new.self ≡ c.split_at.result.0.now ++ rest =
    c.in_ok-push_str-2.ensures.bytes ∙ ap (λ t. t ++ rest) (c.in_ok-push_str.ensures.bytes
    ∙ ap (λ t. t ++ c.split_at.result.0.now) (c.reserve_exact.ensures.bytes ∙ c.new-text.ensures.bytes)) in
    c.new.ensures ∙ ap content_of (written ∙ ap (λ t. t ++ rest) c.split_at.ensures.front)
    ∙ last_found c.args.body.now line rest c.first_line.ensures c.in-Some.end found.0 found.1 found.2
