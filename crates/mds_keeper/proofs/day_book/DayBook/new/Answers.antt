use Rattle.std.proofs.Common.{◌∙◌, refl, subst, sym}
use Rattle.mds_keeper.specs.BookRows.{Fits, Misfits, OneLength}
use Rattle.mds_keeper.proofs.BookRowsMade.{joined}
use Rattle.mds_keeper.proofs.BooksMade.{fits_form, is_book, lengths_refused, misfit_refused, readings_kept, same_unit, same_world, two_refused}
use Rattle.mds_keeper.proofs.RowsByUpdate.{lengths_kept}
use Rattle.mds_keeper.proofs.day_book.DayBook.new.Goals as goal
use Rattle.mds_keeper.proofs.day_book.DayBook.new.Goals.{After-form_of-form}

pub returns-then-not-have_one_length : goal.returns-then-not-have_one_length
returns-then-not-have_one_length c = record {
  some = tt;
  none = lengths_refused (record { stream = c.args.stream; day = c.args.day; unit = c.args.unit; rows = c.args.versions.items })
      c.if-not-have_one_length.ensures.lengths;
}

pub returns-in_default : goal.returns-in_default
returns-in_default c = record {
  some = tt;
  none = two_refused (record { stream = c.args.stream; day = c.args.day; unit = c.args.unit; rows = c.args.versions.items })
      (readings_kept c.args.versions.items c.have_one_length.new.rows.items c.have_one_length.ensures.members c.in_default.ensures.none);
}

pub fit-requires : goal.fit-requires
fit-requires c =
    subst OneLength (sym c.deref.ensures.value)
    (lengths_kept c.args.versions.items c.in-Some.rows.items
    (joined _ c.have_one_length.new.rows.items _ c.have_one_length.ensures.members c.in-Some.ensures.some.1)
    c.if-not-have_one_length.ensures.lengths)

pub returns-then-not-fit : goal.returns-then-not-fit
returns-then-not-fit c = record {
  some = tt;
  none = misfit_refused c.args.stream c.args.day c.args.unit c.args.versions.items c.in-Some.rows.items
      (joined _ c.have_one_length.new.rows.items _ c.have_one_length.ensures.members c.in-Some.ensures.some.1)
      (subst (Misfits c.args.unit) c.deref.ensures.value c.if-not-fit.ensures);
}

fits : (c : After-form_of-form) → Fits c.args.unit c.in-Some.rows.items
fits c = subst (Fits c.args.unit) c.deref.ensures.value c.if-not-fit.ensures

pub invariant_of-result : goal.invariant_of-result
invariant_of-result c =
    let form = rw c.deref-2.ensures.value at c.form_of-form.ensures.form in
    let unit = rw c.deref-2.ensures.value at c.form_of-form.ensures.unit in (
      is_book _ c.in-Some.ensures.some.0 (fits_form c.args.unit c.form_of-form.result c.in-Some.rows.items (fits c) unit form),
      form,
      tt,
    )

pub returns : goal.returns
returns c =
    let form = rw c.deref-2.ensures.value at c.form_of-form.ensures.form in
    let unit = rw c.deref-2.ensures.value at c.form_of-form.ensures.unit in
    record {
      some = (
        refl,
        refl,
        same_unit c.args.stream c.args.day c.args.unit c.form_of-form.result c.in-Some.rows.items form unit
            ∙ same_world c.args.stream c.args.day c.args.unit c.args.versions.items c.in-Some.rows.items
            (joined _ c.have_one_length.new.rows.items _ c.have_one_length.ensures.members c.in-Some.ensures.some.1),
      );
      none = tt;
    }
