use Rattle.std.proofs.Common.{◌≤◌, to_z, of_z, rules, tests}
use Rattle.std.proofs.lemmas.Int.{ints}
use Rattle.std.specs.Bool.{MatchBool}
use Rattle.std.specs.Int.{w64}
use Rattle.std.specs.Int.Signed.{le_z}
use Rattle.mds_keeper.specs.LentVersions.{lent_reading}
use Rattle.mds_fill.proofs.BookValues.{never_stale, stale_by}
use Rattle.mds_fill.proofs.targets.is_stale.Goals as goal

pub returns : goal.returns
returns c = λ w s d is.
    let version = c.in-Some.version in
    let now = c.in-Some.ensures.some in
    let late : MatchBool (le_z (to_z w64 (of_z w64 c.seconds-2.result)) (to_z w64 (of_z w64 c.seconds.result)))
    (c.args.than ≤ version.update) (c.args.than ≤ version.update → ⊥) = search (rules, tests, ints) in
    stale_by w s d _ c.args.interval c.args.than version.length now.0 version.update (lent_reading version) _ is
    c.is_lawful.ensures now.1 now.2 late

pub returns-in_default : goal.returns-in_default
returns-in_default c = λ w s d is. never_stale w s d _ c.args.interval c.args.than is c.is_lawful.ensures c.in_default.ensures.none
