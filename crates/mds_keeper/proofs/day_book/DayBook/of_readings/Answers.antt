use Rattle.std.proofs.Common.{Some, length, refl, subst, sym}
use Rattle.mds_keeper.specs.BookRows.{IsBook, IsFormOfRows}
use Rattle.mds_keeper.specs.Content.{whole_rows}
use Rattle.mds_keeper.specs.KeptRows.{AreWhole}
use Rattle.mds_keeper.proofs.BooksMade.{is_book}
use Rattle.mds_keeper.proofs.WholeDays.{fits_whole, form_whole, whole_ascends}
use Rattle.mds_keeper.proofs.day_book.DayBook.of_readings.Goals as goal

pub invariant_of-result : goal.invariant_of-result
invariant_of-result c =
    let whole : AreWhole (Some (c.args.length, length c.args.readings)) =
    subst (λ n. AreWhole (Some (c.args.length, n))) c.len.ensures.value (c.if-are_whole.ensures refl) in (
      subst (λ rows. IsBook (record {
        stream = c.args.stream;
        day = c.args.day;
        unit = Some c.in-Some.unit;
        rows = rows;
      })) (sym c.in_ok-rows.ensures.0)
          (is_book (record {
            stream = c.args.stream;
            day = c.args.day;
            unit = Some c.in-Some.unit;
            rows = whole_rows c.args.length c.args.update 1 c.args.readings;
          }) (whole_ascends c.args.length c.args.update c.args.readings) (fits_whole c.in-Some.unit c.args.length c.args.update c.args.readings whole)),
      subst (IsFormOfRows (Some (c.args.length, c.in-Some.unit))) (sym c.in_ok-rows.ensures.0)
          (form_whole c.in-Some.unit c.args.length c.args.update c.args.readings whole.1),
      subst AreWhole (sym c.in_ok-rows.ensures.1) whole,
    )
