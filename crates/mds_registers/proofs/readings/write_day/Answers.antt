use Rattle.std.proofs.Common.{◌==◌, ℕ, List, ◌++◌, ◌∙◌, ap, is_ok, length, subst, sym, Some}
use Rattle.std.specs.Char.{is_ascii_digit}
use Rattle.std.specs.List.{list_all}
use Rattle.mds_calendar.proofs.Days.{day_of_parts}
use Rattle.mds_calendar.proofs.Digits.{both}
use Rattle.mds_names.specs.declared.stream.Stream.{Stream}
use Rattle.mds_world.specs.World.{IsKnownDay}
use Rattle.mds_registers.specs.FieldsSteps.{closed}
use Rattle.mds_registers.specs.Readings.{IsDayText}
use Rattle.mds_registers.proofs.BookReadings.{is_unknown}
use Rattle.mds_registers.proofs.ReadingRows.{begun_by, day_text, rows_put}
use Rattle.mds_registers.proofs.readings.write_day.Goals as goal

pub returns-in_default-clause-done : goal.returns-in_default-clause-done
returns-in_default-clause-done c = λ w same is known.
    absurd (is_unknown w c.args.book.now is c.in_default.ensures.none (subst (λ s. IsKnownDay w s c.args.book.now.day) (sym same) known))

pub returns-clause-done : goal.returns-clause-done
returns-clause-done c = λ w same is known.
    let stream = c.args.stream.now in
    let book = c.args.book.now in
    let form = c.in-Some.form in
    let date = c.digits-date.ensures ∙ ap Some c.day.ensures in
    let rows = c.in_ok-write_intervals.ensures form.1 (record {
      front = c.as_slice.ensures.value ∙ c.in_ok-front.ensures ∙ ap (λ (s : Stream). closed s.nmi ++ closed s.suffix) (sym same);
      date = (both (length c.digits-date.result == 8) (list_all is_ascii_digit c.digits-date.result) (day_of_parts c.digits-date.result book.day date).0).1;
      middle = c.as_slice-2.ensures.value ∙ c.in_ok-middle.ensures;
    }) c.in-Some.ensures.some in
    rows_put c.extend_from_slice.result (IsDayText w stream book.day) c.args.out.now.items c.extend_from_slice.new.self.items
    c.deref.result.now rows.0 c.extend_from_slice.ensures.items
    (c.deref.ensures.value ∙ rows.2 ∙ ap (λ (t : List ℕ). t ++ rows.0) c.clear.ensures.items)
    (day_text w stream book c.digits-date.result form.0 form.1 rows.0 same is date c.in-Some.ensures.some rows.1)

pub returns-clause-begun : goal.returns-clause-begun
returns-clause-begun c =
    begun_by (is_ok c.extend_from_slice.result) c.args.out.now.items c.extend_from_slice.new.self.items c.deref.result.now
    c.extend_from_slice.ensures.items
