use Rattle.std.proofs.Common.{◌≡◌, ◌==◌, ◌+◌, ◌<◌, ◌++◌, ◌∷◌, [], ℤ, Bool, List, Option, IsOk, length, map, arith, ap, sym, subst, ◌∙◌, true}
use Rattle.std.specs.List.{list_all}
use Rattle.std.proofs.lemmas.Bool.{eqb-true}
use Rattle.std.proofs.lemmas.List.{append-nil}
use Rattle.std.proofs.lemmas.Result.{IfOk-from_err, MatchResult-from_err}
use Rattle.mds_quantity.proofs.Front.{on_err_from}
use Rattle.mds_marks.specs.Quality.{null}
use Rattle.mds_marks.specs.Reading.{ReadingValue}
use Rattle.mds_runs.specs.KeptReadings.{AreClose, AreKept, is_small}
use Rattle.mds_runs.proofs.CloseRuns.{last_end-close}
use Rattle.mds_runs.proofs.KeptLemmas.{Puts, kept-length-in, more-kept, more-view, ok-anyway, ok-fact, puts-made, some_left}
use Rattle.mds_runs.proofs.day_readings.DayReadings.push_all.Goals as goal

pub overflow_cast-end : goal.overflow_cast-end
overflow_cast-end c =
    let n = kept-length-in c.self.inside.runs.items c.self.inside.millionths.items c.args.self.now c.self.invariant c.self.view_is in
    omega (arith, n, c.len.ensures, c.in_ok-reserve.ensures.len, c.self.inside.millionths.ok.0, c.requires.few)

pub put_stretch-requires-clause-close : goal.put_stretch-requires-clause-close
put_stretch-requires-clause-close c =
    subst (AreClose 0 c.self.inside.runs.items) (sym (last_end-close c.self.inside.runs.items (length c.self.inside.millionths.items) c.self.invariant.close)) c.self.invariant.close

pub put_stretch-requires-clause-more : goal.put_stretch-requires-clause-more
put_stretch-requires-clause-more c =
    let end = last_end-close c.self.inside.runs.items (length c.self.inside.millionths.items) c.self.invariant.close in
    let some : 0 < length c.args.values.now = some_left (length c.args.values.now) c.is_empty.result c.is_empty.ensures c.if-is_empty.false in
    omega (arith, end, c.len.ensures, c.in_ok-reserve.ensures.len, c.self.inside.millionths.ok.0, some)

-- what was put, as the last call succeeds: there is room
puts : (c : goal.After-put_values) → IsOk c.put_values.result × Puts c.self.inside.runs.items c.put_stretch.new.runs.items c.self.inside.millionths.items c.put_values.new.millionths.items c.args.mark.now c.args.values.now
puts c =
    let ok : IsOk c.put_values.result = c.put_values.ensures.succeeds c.in_ok-reserve.ensures.ok in
    let end : c.len.result + length c.args.values.now ≡ length c.self.inside.millionths.items + length c.args.values.now = omega (arith, c.len.ensures, c.in_ok-reserve.ensures.len, c.self.inside.millionths.ok.0) in
    (ok, puts-made c.self.inside.runs.items c.put_stretch.new.runs.items c.self.inside.millionths.items c.reserve.new.self.items c.put_values.new.millionths.items c.args.mark.now c.args.values.now _ c.is_null.result c.self.invariant end c.in_ok-put_stretch.ensures.close c.in_ok-put_stretch.ensures.marks c.in_ok-reserve.ensures.items c.is_null.ensures (ok-fact c.put_values.result _ ok c.put_values.ensures.done))

pub invariant_of-self-2 : goal.invariant_of-self-2
invariant_of-self-2 c =
    let p = puts c in
    let n = kept-length-in c.self.inside.runs.items c.self.inside.millionths.items c.args.self.now c.self.invariant c.self.view_is in
    let small : list_all (is_small (c.args.mark.now.quality.flag == null)) c.args.values.now ≡ true = ap (λ b. list_all (is_small b) c.args.values.now) (sym c.is_null.ensures) ∙ ok-fact c.put_values.result _ p.0 c.put_values.ensures.small in
    more-kept c.self.inside.runs.items c.put_stretch.new.runs.items c.self.inside.millionths.items c.put_values.new.millionths.items c.args.mark.now c.args.values.now c.self.invariant p.1 (omega (arith, n, c.requires.few)) c.parts_are_lawful.ensures c.requires.together small

pub returns-clause-done : goal.returns-clause-done
returns-clause-done c =
    let p = puts c in
    ok-anyway c.put_values.result _ (more-view c.self.inside.runs.items c.put_stretch.new.runs.items c.self.inside.millionths.items c.put_values.new.millionths.items c.args.self.now c.args.mark.now c.args.values.now c.self.invariant c.self.view_is p.1 c.requires.together)

-- no values add nothing
none_more : (v : List ReadingValue) (f : Option ℤ → ReadingValue) (values : List (Option ℤ)) (empty : Bool) → empty ≡ (length values == 0) → empty ≡ true → v ≡ v ++ map f values
none_more v f [] empty is e = sym (append-nil v)
none_more v f (x ∷ values) empty is e =
    let none : length (x ∷ values) ≡ 0 = eqb-true _ _ (sym is ∙ e) in
    absurd (omega arith)

pub returns-then-is_empty-clause-done : goal.returns-then-is_empty-clause-done
returns-then-is_empty-clause-done c = none_more _ _ c.args.values.now c.is_empty.result c.is_empty.ensures c.if-is_empty.true

pub invariant_of-self : goal.invariant_of-self
invariant_of-self c = subst (λ zs. AreKept c.self.inside.runs.items zs) (sym c.in_err-reserve.ensures.items) c.self.invariant

pub returns-in_err-reserve-clause-done : goal.returns-in_err-reserve-clause-done
returns-in_err-reserve-clause-done c = IfOk-from_err _ _ c.from_residual.ensures.0

pub returns-in_err-reserve-clause-memory : goal.returns-in_err-reserve-clause-memory
returns-in_err-reserve-clause-memory c = MatchResult-from_err c.from_residual.result _ _ c.from_residual.ensures.0 (λ _. some_left (length c.args.values.now) c.is_empty.result c.is_empty.ensures c.if-is_empty.false)

pub invariant_of-self-in_err-put_stretch : goal.invariant_of-self-in_err-put_stretch
invariant_of-self-in_err-put_stretch c =
    subst (λ zs. AreKept c.put_stretch.new.runs.items zs) (sym c.in_ok-reserve.ensures.items)
    (subst (λ rs. AreKept rs c.self.inside.millionths.items) (sym c.in_err-put_stretch.ensures.kept) c.self.invariant)

pub returns-in_err-put_stretch-clause-done : goal.returns-in_err-put_stretch-clause-done
returns-in_err-put_stretch-clause-done c = IfOk-from_err _ _ c.from_residual-in_err-put_stretch.ensures.0

pub returns-in_err-put_stretch-clause-memory : goal.returns-in_err-put_stretch-clause-memory
returns-in_err-put_stretch-clause-memory c = MatchResult-from_err c.from_residual-in_err-put_stretch.result _ _ c.from_residual-in_err-put_stretch.ensures.0 (λ _. some_left (length c.args.values.now) c.is_empty.result c.is_empty.ensures c.if-is_empty.false)

pub returns-clause-memory : goal.returns-clause-memory
returns-clause-memory c = on_err_from c.put_values.result _ (some_left (length c.args.values.now) c.is_empty.result c.is_empty.ensures c.if-is_empty.false)
