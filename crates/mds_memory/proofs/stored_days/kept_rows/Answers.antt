use Rattle.std.proofs.Common.{refl, sym}
use Rattle.mds_memory.proofs.Changed.{holds_kept, holds_none}
use Rattle.mds_memory.proofs.stored_days.kept_rows.Goals as goal

pub returns-in_default : goal.returns-in_default
returns-in_default c =
    holds_none c.args.days.now c.args.place.now _ c.requires (sym c.in_default.ensures.value) refl c.new.ensures.items

pub returns : goal.returns
returns c =
    holds_kept c.args.days.now c.args.place.now c.in-Some.book.now _ c.requires (sym c.in-Some.ensures.value)
    c.unit.ensures c.in_ok-copied_rows.ensures.value
