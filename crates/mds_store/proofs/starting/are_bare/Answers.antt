use Rattle.std.specs.Prelude.{◌≡◌, []}
use Rattle.std.proofs.Common.{arith}
use Rattle.std.proofs.lemmas.Result.{IfOk-weaker, err_from_is_err_and}
use Rattle.sqlite.specs.Held.{state}
use Rattle.sqlite.specs.State.{HasCleanDisk}
use Rattle.mds_tables.specs.Tables.{version_tree}
use Rattle.mds_pack_rows.specs.PacksLayout.{packs_layout}
use Rattle.mds_store.proofs.CurrentAdopting.{answers_as, answers_then, both_are, fails_then, none_are, is_so, tables_on, told_none}
use Rattle.mds_store.proofs.starting.are_bare.Goals as goal

pub returns-in_err-no_version-clause-answers : goal.returns-in_err-no_version-clause-answers
returns-in_err-no_version-clause-answers g c layout =
    let p = err_from_is_err_and c.from_residual.result c.from_residual.ensures.1 in
    rw (p.1) (told_none (c.in_err-no_version.ensures.answers layout) _)

pub returns-in_err-no_version-clause-cause : goal.returns-in_err-no_version-clause-cause
returns-in_err-no_version-clause-cause g c layout clean held =
    let p = err_from_is_err_and c.from_residual.result c.from_residual.ensures.1 in
    rw (p.1, p.2) (c.in_err-no_version.ensures.cause layout clean held)

pub returns-then-not-no_version-clause-answers : goal.returns-then-not-no_version-clause-answers
returns-then-not-no_version-clause-answers g c layout =
    answers_as (c.in_ok-no_version.ensures.answers layout)
    (λ trees is. none_are (λ bare. bare.0) c.in_ok-no_version.no_version c.if-not-no_version.true is)

pub is_undated-requires : goal.is_undated-requires
is_undated-requires g c = (c.is_unversioned.ensures.answers packs_layout).mode

pub returns-clause-answers : goal.returns-clause-answers
returns-clause-answers g c layout =
    answers_then layout (c.in_ok-no_version.ensures.answers layout) (c.is_undated.ensures.answers layout) (λ trees is none.
    let empty : trees version_tree ≡ [] = is_so _ c.in_ok-no_version.no_version c.if-not-no_version.false is in
    IfOk-weaker c.is_undated.result _ _ (both_are (λ a b. (a, b)) (λ bare. bare.1) empty) none)

pub returns-clause-cause : goal.returns-clause-cause
returns-clause-cause g c layout clean held =
    let mid = state g.S.Store c.is_unversioned.new.conn in
    let all = c.is_unversioned.ensures.answers layout in
    let asked = c.in_ok-no_version.ensures.answers layout in
    let early : HasCleanDisk mid =
    let less = ((c.is_undated.ensures.answers layout).survives (tables_on layout all held)).clean in let is = clean in omega arith in
    fails_then layout (state g.S.Store c.is_undated.new.conn) asked held early c.is_undated.result
    (c.is_undated.ensures.cause layout clean (tables_on layout all held))
