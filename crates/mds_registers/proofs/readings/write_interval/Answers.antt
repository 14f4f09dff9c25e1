use Rattle.std.proofs.Common.{[], ◌++◌, ◌∙◌, ap, inr, refl}
use Rattle.std.proofs.lemmas.Result.{on_ok_weaker}
use Rattle.mds_world.specs.Current.{no_reading}
use Rattle.mds_keeper.specs.LentVersions.{lent_reading}
use Rattle.mds_registers.specs.Readings.{start_text}
use Rattle.mds_registers.specs.ReadingsSteps.{row_of}
use Rattle.mds_registers.proofs.ReadingRows.{shown_version}
use Rattle.mds_registers.proofs.readings.write_interval.Goals as goal

pub returns-in-Some : goal.returns-in-Some
returns-in-Some c = λ unit form.
    let day = c.args.day.now in
    let version = c.in-Some.version in
    let start = c.start_text-start.ensures ∙ ap (start_text day.date) c.minutes_before.ensures.value in
    on_ok_weaker c.write_version.result
    (λ done. (
      lent_reading version,
      done.0,
      shown_version c.args.book.now version day.length c.args.interval unit done.0 c.is_lawful.ensures form
          c.in-Some.ensures.some done.1,
      done.2 ∙ ap (λ s. c.args.rows.now.items ++ row_of day s (lent_reading version) done.0) start,
    ))
    c.write_version.ensures

pub returns-in-None : goal.returns-in-None
returns-in-None c = λ unit form.
    let day = c.args.day.now in
    let start = c.start_text-start.ensures ∙ ap (start_text day.date) c.minutes_before.ensures.value in
    on_ok_weaker c.write_none.result
    (λ done. (
      no_reading,
      [],
      inr (c.in-None.ensures.none day.length unit form, refl, refl),
      done ∙ ap (λ s. c.args.rows.now.items ++ row_of day s no_reading []) start,
    ))
    c.write_none.ensures
