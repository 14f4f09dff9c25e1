use Rattle.std.proofs.Common.{[], false}
use Rattle.std.proofs.lemmas.Result.{IfOk-from_err}
use Rattle.mds_registers.proofs.ReadingRows.{begun_by, begun_more, has_day, has_days, no_days}
use Rattle.mds_registers.proofs.readings.write_days.Goals as goal

pub loop-book-init : goal.loop-book-init
loop-book-init c = record {
  begun = (_, c.in_ok-extend_from_slice.ensures.items);
  days = λ w known. no_days w c.args.stream.now c.args.out.now.items c.extend_from_slice.new.self.items c.in_ok-extend_from_slice.ensures.items;
}

pub loop-book-preserved : goal.loop-book-preserved
loop-book-preserved c = record {
  begun = begun_more c.args.out.now.items c.loop-book.out.items c.write_day.new.out.items c.loop-book.invariant.begun c.write_day.ensures.begun;
  days = λ w known.
      has_day w c.args.stream.now c.args.books.now c.loop-book.book-index c.book-item.result c.args.out.now.items c.loop-book.out.items
      c.write_day.new.out.items c.loop-book-test.true c.book-item.is known (c.in_ok-write_day.ensures.done w)
      (c.loop-book.invariant.days w known);
}

pub returns-clause-done : goal.returns-clause-done
returns-clause-done c = λ w known.
    has_days w c.args.stream.now c.args.books.now c.loop-book.book-index c.args.out.now.items c.loop-book.out.items
    c.loop-book-test.false (c.loop-book.invariant.days w known)

pub returns-in_err-extend_from_slice-clause-done : goal.returns-in_err-extend_from_slice-clause-done
returns-in_err-extend_from_slice-clause-done c = λ w known. IfOk-from_err c.from_residual.result _ c.from_residual.ensures.0

pub returns-in_err-extend_from_slice-clause-begun : goal.returns-in_err-extend_from_slice-clause-begun
returns-in_err-extend_from_slice-clause-begun c =
    begun_by false c.args.out.now.items c.extend_from_slice.new.self.items [] c.in_err-extend_from_slice.ensures.items

pub returns-in_err-write_day-clause-done : goal.returns-in_err-write_day-clause-done
returns-in_err-write_day-clause-done c = λ w known.
    IfOk-from_err c.from_residual-in_err-write_day.result _ c.from_residual-in_err-write_day.ensures.0

pub returns-in_err-write_day-clause-begun : goal.returns-in_err-write_day-clause-begun
returns-in_err-write_day-clause-begun c =
    begun_more c.args.out.now.items c.loop-book.out.items c.write_day.new.out.items c.loop-book.invariant.begun c.write_day.ensures.begun

pub returns-clause-begun : goal.returns-clause-begun
returns-clause-begun c = c.loop-book.invariant.begun
