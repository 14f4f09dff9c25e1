use Rattle.std.proofs.Common.{◌≡◌, ℕ, List, ◌++◌}
use Rattle.mds_quantity.specs.declared.unit.Unit.{Unit as MeasureUnit}
use Rattle.mds_world.specs.Current.{IsFormOf}
use Rattle.mds_keeper.specs.Books.{book_world}
use Rattle.mds_registers.specs.Readings.{AreIntervalRows}
use Rattle.mds_registers.specs.ReadingsSteps.{AreTextsOf}
use Rattle.mds_registers.proofs.readings.write_intervals.Given as goal

abbrev pub invariant-loop-i : goal.invariant-loop-i
invariant-loop-i l =
    (unit : MeasureUnit) → AreTextsOf l.day l.book.stream unit
    → IsFormOf (book_world l.book) l.book.stream l.book.day l.day.length unit
    → (text : List ℕ)
    × AreIntervalRows (book_world l.book) l.book.stream l.book.day l.day.date l.day.length unit l.i text
    × (l.rows.items ≡ l.fn.rows.items ++ text)
