use Rattle.std.proofs.Common.{arith}
use Rattle.std.proofs.lemmas.Bool.{eqb-true}
use Rattle.mds_runs.proofs.KeptLemmas.{are-alike, differ, holds-at, kept-length-in, pair-at, same-bits, small-from, view-at}
use Rattle.mds_runs.proofs.day_readings.DayReadings.is_same_at.Goals as goal

pub index-requires : goal.index-requires
index-requires c =
    let n = kept-length-in c.self.inside.runs.items c.self.inside.millionths.items c.args.self.now c.self.invariant c.self.view_is in
    omega (arith, n, c.self.inside.millionths.ok.0, c.requires)

pub index-requires-2 : goal.index-requires-2
index-requires-2 c =
    let n = kept-length-in c.others.inside.runs.items c.others.inside.millionths.items c.args.others.now c.others.invariant c.others.view_is in
    omega (arith, n, c.others.inside.millionths.ok.0, c.requires)

pub mark_at-requires : goal.mark_at-requires
mark_at-requires c =
    holds-at c.self.inside.runs.items c.deref.result.now c.self.inside.millionths.items c.args.self.now c.args.at c.self.invariant c.self.view_is c.deref.ensures.value c.requires.here

pub mark_at-requires-then-index : goal.mark_at-requires-then-index
mark_at-requires-then-index c =
    holds-at c.others.inside.runs.items c.deref-then-index.result.now c.others.inside.millionths.items c.args.others.now c.args.at c.others.invariant c.others.view_is c.deref-then-index.ensures.value c.requires.there

pub returns-then-index : goal.returns-then-index
returns-then-index c =
    let at = c.args.at in
    let y = c.index.result.now in
    let z = c.index-2.result.now in
    let m = c.mark_at.result.now in
    let n = c.mark_at-then-index.result.now in
    let left = c.self.inside in
    let right = c.others.inside in
    let p = pair-at left.runs.items c.deref.result.now left.millionths.items c.args.self.now at m y c.self.invariant c.self.view_is c.deref.ensures.value c.requires.here c.mark_at.ensures c.index.ensures in
    let q = pair-at right.runs.items c.deref-then-index.result.now right.millionths.items c.args.others.now at n z c.others.invariant c.others.view_is c.deref-then-index.ensures.value c.requires.there c.mark_at-then-index.ensures c.index-2.ensures in
    are-alike c.args.self.now c.args.others.now at m n y z c.is_same.result
    (view-at left.runs.items c.deref.result.now left.millionths.items c.args.self.now at m y c.self.invariant c.self.view_is c.deref.ensures.value c.requires.here c.mark_at.ensures c.index.ensures)
    (view-at right.runs.items c.deref-then-index.result.now right.millionths.items c.args.others.now at n z c.others.invariant c.others.view_is c.deref-then-index.ensures.value c.requires.there c.mark_at-then-index.ensures c.index-2.ensures)
    p q (same-bits y z (small-from m y p) (small-from n z q) c.if-index.true) c.is_same.ensures

pub returns-else-index : goal.returns-else-index
returns-else-index c =
    let at = c.args.at in
    let y = c.index.result.now in
    let z = c.index-2.result.now in
    let left = c.self.inside in
    let right = c.others.inside in (
      λ t. absurd (c.if-index.false (eqb-true _ _ t)),
      λ e. absurd (differ left.runs.items right.runs.items left.millionths.items right.millionths.items c.args.self.now c.args.others.now at y z c.self.invariant c.others.invariant c.self.view_is c.others.view_is c.requires.here c.requires.there c.index.ensures c.index-2.ensures c.if-index.false e),
    )
