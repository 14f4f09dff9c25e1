use Rattle.mds_memory.proofs.Places.{is_absent, is_there}
use Rattle.mds_memory.proofs.StoredPeriods.{room_added, room_there}
use Rattle.mds_memory.proofs.stored_periods.make_keys.Goals as goal
use Rattle.mds_memory.proofs.stored_periods.make_keys.Goals.{then-not-contains_key+in_ok-try_clone+in_ok-insert+in-Some+in-Some-branch-4, then-not-contains_key+in_ok-try_clone+in_ok-insert+in-Some+in-None-1, then-not-contains_key+in_ok-try_clone+in_ok-insert+in-None-1, else-not-contains_key}

pub loop-period-preserved : goal.loop-period-preserved
loop-period-preserved c = elim c.if-not-contains_key.branch [
  | then-not-contains_key+in_ok-try_clone+in_ok-insert+in-Some+in-Some-branch-4 w ↦ rw w.periods-is
      (room_added c.args.periods.now c.loop-period.periods w.insert.new.self c.args.more.now c.loop-period.period-index
      c.period-item.result _ c.loop-period-test.true c.period-item.is c.loop-period.invariant
      (is_absent _ w.if-not-contains_key.ensures) w.in_ok-try_clone.ensures.value w.in_ok-insert.ensures.entries
      w.insert.ensures.ordered)
  | then-not-contains_key+in_ok-try_clone+in_ok-insert+in-Some+in-None-1 w ↦ rw w.periods-is
      (room_added c.args.periods.now c.loop-period.periods w.insert.new.self c.args.more.now c.loop-period.period-index
      c.period-item.result _ c.loop-period-test.true c.period-item.is c.loop-period.invariant
      (is_absent _ w.if-not-contains_key.ensures) w.in_ok-try_clone.ensures.value w.in_ok-insert.ensures.entries
      w.insert.ensures.ordered)
  | then-not-contains_key+in_ok-try_clone+in_ok-insert+in-None-1 w ↦ rw w.periods-is
      (room_added c.args.periods.now c.loop-period.periods w.insert.new.self c.args.more.now c.loop-period.period-index
      c.period-item.result _ c.loop-period-test.true c.period-item.is c.loop-period.invariant
      (is_absent _ w.if-not-contains_key.ensures) w.in_ok-try_clone.ensures.value w.in_ok-insert.ensures.entries
      w.insert.ensures.ordered)
  | else-not-contains_key w ↦ rw w.periods-is
      (let there = is_there _ w.if-not-contains_key.ensures in
      room_there c.args.periods.now c.loop-period.periods c.args.more.now c.loop-period.period-index c.period-item.result
      there.0 c.loop-period-test.true c.period-item.is c.loop-period.invariant there.1)
]
