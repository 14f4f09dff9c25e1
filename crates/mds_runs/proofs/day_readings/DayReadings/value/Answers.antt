use Rattle.std.proofs.Common.{ap, sym, ◌∙◌, arith, refl}
use Rattle.mds_marks.specs.Reading.{ReadingValue}
use Rattle.mds_marks.specs.ReadingSteps.{kept_value}
use Rattle.mds_runs.specs.KeptReadings.{reading_kept}
use Rattle.mds_runs.proofs.KeptLemmas.{back, from-some, get-at, holds-at, kept-length-in, pair-at, small-from, some-mark, value-nonzero, view-at, zero-bits}
use Rattle.mds_runs.proofs.day_readings.DayReadings.value.Goals as goal

pub index-millionths-requires : goal.index-millionths-requires
index-millionths-requires c =
    let n = kept-length-in c.self.inside.runs.items c.self.inside.millionths.items c.args.self.now c.self.invariant c.self.view_is in
    omega (arith, n, c.self.inside.millionths.ok.0)

pub returns-then-millionths-ne0 : goal.returns-then-millionths-ne0
returns-then-millionths-ne0 c = λ d.
    let runs = c.self.inside.runs.items in
    let zs = c.self.inside.millionths.items in
    let at = c.args.at in
    let z = c.index-millionths.result.now in
    let some = some-mark runs zs c.args.self.now at c.self.invariant c.self.view_is c.requires in
    let m = some.0 in
    let mark = some.1 in
    let pair = pair-at runs runs zs c.args.self.now at m z c.self.invariant c.self.view_is refl c.requires mark c.index-millionths.ensures in
    let view = view-at runs runs zs c.args.self.now at m z c.self.invariant c.self.view_is refl c.requires mark c.index-millionths.ensures in
    let small = small-from m z pair in
    from-some c.from_millionths.result z _ c.from_millionths.ensures (back z small) small
    ∙ sym (value-nonzero m z pair c.if-millionths-ne0.true)
    ∙ ap (λ (r : ReadingValue). r.value) (get-at c.args.self.now at (reading_kept (m, z)) d view)

pub mark_at-requires : goal.mark_at-requires
mark_at-requires c =
    holds-at c.self.inside.runs.items c.deref.result.now c.self.inside.millionths.items c.args.self.now c.args.at c.self.invariant c.self.view_is c.deref.ensures.value c.requires

pub returns : goal.returns
returns c = λ d.
    let runs = c.self.inside.runs.items in
    let zs = c.self.inside.millionths.items in
    let at = c.args.at in
    let z = c.index-millionths.result.now in
    let m = c.mark_at.result.now in
    let pair = pair-at runs c.deref.result.now zs c.args.self.now at m z c.self.invariant c.self.view_is c.deref.ensures.value c.requires c.mark_at.ensures c.index-millionths.ensures in
    let view = view-at runs c.deref.result.now zs c.args.self.now at m z c.self.invariant c.self.view_is c.deref.ensures.value c.requires c.mark_at.ensures c.index-millionths.ensures in
    let zero = zero-bits z (small-from m z pair) c.if-millionths-ne0.false in
    c.zero_under.ensures
    ∙ ap (kept_value m.quality.flag) (sym zero)
    ∙ ap (λ (r : ReadingValue). r.value) (get-at c.args.self.now at (reading_kept (m, z)) d view)
