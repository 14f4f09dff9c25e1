use Rattle.std.proofs.Common.{◌≡◌, ◌++◌, ◌∷◌, [], ◌==◌, List, Bool, true, false, Option, None, Result, Ok, Err, OnOk, OnErr, length, refl, sym, ap, subst, ◌∙◌}
use Rattle.std.specs.Prelude.{ℤ, ◌&&◌, nat_le, not, option_to_list}
use Rattle.std.specs.List.{flat_map}
use Rattle.std.proofs.lemmas.List.Elements.{All-append, All-cons, All-nil}
use Rattle.std.proofs.lemmas.Result.{err_from_is_err_and}
use Rattle.mds_quantity.proofs.Front.{on_err_from}
use Rattle.mds_marks.specs.Quality.{null, variable}
use Rattle.mds_marks.specs.declared.mark.Mark.{Mark}
use Rattle.mds_records.specs.declared.file.FaultCode.{FaultCode}
use Rattle.mds_records.specs.declared.file.FaultCode.TheVariants.{NoValue, RunOrder, RunRange}
use Rattle.mds_runs.specs.Runs.{CoverValue, is_in_range, last_end}
use Rattle.mds_runs.specs.declared.cover.Run.{Run}
use Rattle.mds_days.specs.Days.{DayValue, IsDay, IsRunOf, run_value}
use Rattle.mds_days.specs.Readings.{total}
use Rattle.mds_days.specs.RunFaults.{first_of, lacks_value, run_fault, when}
use Rattle.mds_days.proofs.day.DayData.push.Goals as goal
use Rattle.mds_days.proofs.day.DayData.push.Goals.{in-Ok, in-Err}

-- what holds of the runs before and after a push holds of what it leaves
after_push : {T E : Type 0} (r : Result T E) (P : CoverValue → Type 0) (old added new : CoverValue) → OnOk r (new ≡ added) → OnErr r (new ≡ old)
    → P old → P added → P new
after_push (Ok x) P old added new done kept was is = subst P (sym done) is
after_push (Err e) P old added new done kept was is = subst P (sym kept) was

on_ok_from : {T E : Type 0} → (r : Result T E) (P : Type 0) → P → OnOk r P
on_ok_from (Ok x) P p = p
on_ok_from (Err e) P p = tt

third : (a b c : Bool) (x y z : FaultCode) → first_of (when a x ∷ when b y ∷ when c z ∷ []) ≡ None → c ≡ false
third true b c x y z e = cc
third false true c x y z e = cc
third false false true x y z e = cc
third false false false x y z e = refl

-- a run without a fault goes with the values
taken : (values : List (Option ℤ)) (runs : List Run) (run : Run) → (run.mark.quality.flag == variable) ≡ false
    → run_fault (length values) runs values run ≡ None → IsRunOf values run
taken values runs run other none = record {
  not_variable = other;
  valued = third (not (is_in_range (length values) run.first run.last)) (nat_le run.first (last_end runs))
      (not (run.mark.quality.flag == null) && lacks_value values run.first run.last) RunRange RunOrder NoValue none;
}

pub returns-in_err-to_mark-clause-done : goal.returns-in_err-to_mark-clause-done
returns-in_err-to_mark-clause-done c =
    let p = err_from_is_err_and c.from_residual.result c.from_residual.ensures.1 in rw p.1 tt

pub returns-in_err-to_mark-clause-kept : goal.returns-in_err-to_mark-clause-kept
returns-in_err-to_mark-clause-kept c = on_err_from c.from_residual.result _ refl

pub invariant_of-self : goal.invariant_of-self
invariant_of-self c =
    let inside = c.self.inside in
    let event = c.args.event.now in
    let run : Run = record { first = event.first; last = event.last; mark = c.in_ok-to_mark.field-0 } in
    let same : run ≡ run_value event = ap (λ (mark : Mark). record { first = event.first; last = event.last; mark = mark }) c.in_ok-to_mark.ensures.value in
    let faultless : run_fault (length inside.values) inside.cover.runs inside.values (run_value event) ≡ None =
    subst (λ (day : DayValue). run_fault (length day.values) day.runs day.values (run_value event) ≡ None) (sym c.self.view_is) c.requires.faultless in
    let here : IsRunOf inside.values run = subst (IsRunOf inside.values) (sym same) (taken inside.values inside.cover.runs (run_value event) c.requires.not_variable faultless) in
    let IsLeft : CoverValue → Type 0 = λ cover. IsDay (record {
      line = inside.line;
      date = inside.date;
      update = inside.update;
      mark = inside.mark;
      values = inside.values;
      runs = cover.runs;
    }) × (cover.count ≡ length inside.values) × (inside.sum ≡ total (flat_map option_to_list inside.values)) in
    after_push c.push.result IsLeft inside.cover (record { count = inside.cover.count; runs = inside.cover.runs ++ run ∷ [] }) c.push.new.self
    c.push.ensures.done c.push.ensures.kept c.self.invariant (
      record {
        own = c.self.invariant.0.own;
        marked = All-append (IsRunOf inside.values) inside.cover.runs (run ∷ []) c.self.invariant.0.marked
            (All-cons (IsRunOf inside.values) run [] here (All-nil (IsRunOf inside.values)));
      },
      c.self.invariant.1,
      c.self.invariant.2,
    )

pub returns-clause-done : goal.returns-clause-done
returns-clause-done c =
    let inside = c.self.inside in
    let event = c.args.event.now in
    let after : List Run → DayValue = λ runs. record {
      line = inside.line;
      date = inside.date;
      update = inside.update;
      mark = inside.mark;
      values = inside.values;
      runs = runs;
    } in
    elim c.match-push.branch [
      | in-Ok w ↦ on_ok_from c.match-push.result _ (ap (λ (cover : CoverValue). after cover.runs) w.in-Ok.ensures.done
          ∙ ap (λ (mark : Mark). after (inside.cover.runs ++ record { first = event.first; last = event.last; mark = mark } ∷ [])) c.in_ok-to_mark.ensures.value
          ∙ ap (λ (day : DayValue). record day { runs = day.runs ++ run_value event ∷ [] }) c.self.view_is)
      | in-Err w ↦ rw w.result-is tt
    ]

pub returns-clause-kept : goal.returns-clause-kept
returns-clause-kept c =
    let inside = c.self.inside in
    elim c.match-push.branch [
      | in-Ok w ↦ rw w.result-is tt
      | in-Err w ↦ on_err_from c.match-push.result _ (ap (λ (cover : CoverValue). record {
        line = inside.line;
        date = inside.date;
        update = inside.update;
        mark = inside.mark;
        values = inside.values;
        runs = cover.runs;
      }) w.in-Err.ensures.kept ∙ c.self.view_is)
    ]
