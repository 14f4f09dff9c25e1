use Rattle.std.proofs.Common.{◌≡◌, ◌≤◌, ◌++◌, ◌∙◌, ℕ, List, length, map, take}
use Rattle.std.proofs.lemmas.List.{take_all}
use Rattle.mds_registers.specs.declared.stretches.Gap.{Gap}
use Rattle.mds_registers.specs.declared.writing.GapRow.{GapRow}
use Rattle.mds_ranges.proofs.registers.add_gaps.Goals as goal

all_added : (day other : ℕ) (gaps all : List Gap) (i : ℕ) (old new : List GapRow) → length gaps ≤ i → gaps ≡ all → day ≡ other
    → new ≡ old ++ map (λ gap. record { day = day; gap = gap }) (take i gaps)
    → new ≡ old ++ map (λ gap. record { day = other; gap = gap }) all
all_added day other gaps all i old new over same is e =
    e ∙ (λ j. old ++ map (λ gap. record { day = is j; gap = gap }) ((take_all i gaps over ∙ same) j))

pub returns : goal.returns
returns c = (
  c.in_ok-gaps.field-0.items,
  all_added c.day-day.result c.args.book.now.day c.deref-gap-items.result.now c.in_ok-gaps.field-0.items c.loop-gap.gap-index
      c.args.rows.now.items c.loop-gap.rows.items c.loop-gap-test.false c.deref-gap-items.ensures.value c.day-day.ensures c.loop-gap.invariant,
  c.in_ok-gaps.ensures.gaps,
)
