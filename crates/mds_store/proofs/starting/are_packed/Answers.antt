use Rattle.std.specs.Prelude.{◌≡◌, [], ◌∷◌, pos}
use Rattle.std.proofs.Common.{arith}
use Rattle.std.proofs.lemmas.Result.{IfOk-weaker, err_from_is_err_and}
use Rattle.sqlite.specs.Held.{state}
use Rattle.sqlite.specs.State.{HasCleanDisk}
use Rattle.mds_tables.specs.Stores.{versions_said}
use Rattle.mds_pack_rows.specs.PacksLayout.{packs_layout}
use Rattle.mds_store.proofs.CurrentAdopting.{answers_as, answers_then, both_are, fails_then, is_so, none_are, packed, tables_on, told_none}
use Rattle.mds_store.proofs.starting.are_packed.Goals as goal

pub returns-in_err-says_2-clause-answers : goal.returns-in_err-says_2-clause-answers
returns-in_err-says_2-clause-answers g c =
    let p = err_from_is_err_and c.from_residual.result c.from_residual.ensures.1 in
    rw (p.1) (told_none (c.in_err-says_2.ensures.answers packs_layout) _)

pub returns-in_err-says_2-clause-cause : goal.returns-in_err-says_2-clause-cause
returns-in_err-says_2-clause-cause g c clean held =
    let p = err_from_is_err_and c.from_residual.result c.from_residual.ensures.1 in
    rw (p.1, p.2) (c.in_err-says_2.ensures.cause packs_layout clean held)

pub returns-then-not-says_2-clause-answers : goal.returns-then-not-says_2-clause-answers
returns-then-not-says_2-clause-answers g c =
    answers_as (c.in_ok-says_2.ensures.answers packs_layout)
    (λ trees says. none_are (λ are. are.version) c.in_ok-says_2.says_2 c.if-not-says_2.true says)

pub is_unversioned-requires : goal.is_unversioned-requires
is_unversioned-requires g c = (c.is_version.ensures.answers packs_layout).mode

pub returns-clause-answers : goal.returns-clause-answers
returns-clause-answers g c =
    answers_then packs_layout (c.in_ok-says_2.ensures.answers packs_layout) (c.is_unversioned.ensures.answers packs_layout) (λ trees says none.
    let said : versions_said trees ≡ pos 2 ∷ [] = is_so _ c.in_ok-says_2.says_2 c.if-not-says_2.false says in
    IfOk-weaker c.is_unversioned.result _ _ (both_are (packed trees) (λ are. are.unversioned) said) none)

pub returns-clause-cause : goal.returns-clause-cause
returns-clause-cause g c clean held =
    let mid = state g.S.Store c.is_version.new.conn in
    let all = c.is_version.ensures.answers packs_layout in
    let asked = c.in_ok-says_2.ensures.answers packs_layout in
    let early : HasCleanDisk mid =
    let less = ((c.is_unversioned.ensures.answers packs_layout).survives (tables_on packs_layout all held)).clean in let is = clean in omega arith in
    fails_then packs_layout (state g.S.Store c.is_unversioned.new.conn) asked held early c.is_unversioned.result
    (c.is_unversioned.ensures.cause packs_layout clean (tables_on packs_layout all held))
