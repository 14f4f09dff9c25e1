use Rattle.std.specs.Prelude.{◌≡◌, [], ◌∷◌, pos}
use Rattle.std.proofs.Common.{arith}
use Rattle.std.proofs.lemmas.Result.{IfOk-weaker, err_from_is_err_and}
use Rattle.sqlite.specs.Held.{state}
use Rattle.sqlite.specs.State.{HasCleanDisk}
use Rattle.mds_tables.specs.Stores.{versions_said}
use Rattle.mds_pack_rows.specs.Current.{current_layout}
use Rattle.mds_store.proofs.CurrentAdopting.{answers_as, answers_then, both_are, current, fails_then, is_so, none_are, tables_on, told_none}
use Rattle.mds_store.proofs.starting.are_current.Goals as goal

pub returns-in_err-says_current-clause-answers : goal.returns-in_err-says_current-clause-answers
returns-in_err-says_current-clause-answers g c =
    let p = err_from_is_err_and c.from_residual.result c.from_residual.ensures.1 in
    rw (p.1) (told_none (c.in_err-says_current.ensures.answers current_layout) _)

pub returns-in_err-says_current-clause-cause : goal.returns-in_err-says_current-clause-cause
returns-in_err-says_current-clause-cause g c clean held =
    let p = err_from_is_err_and c.from_residual.result c.from_residual.ensures.1 in
    rw (p.1, p.2) (c.in_err-says_current.ensures.cause current_layout clean held)

pub returns-then-not-says_current-clause-answers : goal.returns-then-not-says_current-clause-answers
returns-then-not-says_current-clause-answers g c =
    answers_as (c.in_ok-says_current.ensures.answers current_layout)
    (λ trees says. none_are (λ are. are.version) c.in_ok-says_current.says_current c.if-not-says_current.true says)

pub are_bare-requires : goal.are_bare-requires
are_bare-requires g c = (c.is_version.ensures.answers current_layout).mode

pub returns-clause-answers : goal.returns-clause-answers
returns-clause-answers g c =
    answers_then current_layout (c.in_ok-says_current.ensures.answers current_layout) (c.are_bare.ensures.answers current_layout) (λ trees says none.
    let said : versions_said trees ≡ pos current_layout.number ∷ [] = is_so _ c.in_ok-says_current.says_current c.if-not-says_current.false says in
    IfOk-weaker c.are_bare.result _ _ (both_are (current trees) (λ are. are.bare) said) none)

pub returns-clause-cause : goal.returns-clause-cause
returns-clause-cause g c clean held =
    let mid = state g.S.Store c.is_version.new.conn in
    let all = c.is_version.ensures.answers current_layout in
    let asked = c.in_ok-says_current.ensures.answers current_layout in
    let early : HasCleanDisk mid =
    let less = ((c.are_bare.ensures.answers current_layout).survives (tables_on current_layout all held)).clean in let is = clean in omega arith in
    fails_then current_layout (state g.S.Store c.are_bare.new.conn) asked held early c.are_bare.result
    (c.are_bare.ensures.cause current_layout clean (tables_on current_layout all held))
