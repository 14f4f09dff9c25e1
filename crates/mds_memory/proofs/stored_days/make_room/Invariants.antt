use Rattle.mds_memory.proofs.StoredDays.{IsRoom}
use Rattle.mds_memory.proofs.stored_days.make_room.Given as goal

abbrev pub invariant-loop-place : goal.invariant-loop-place
invariant-loop-place l = IsRoom l.fn.days l.changed l.place-iterator l.days
