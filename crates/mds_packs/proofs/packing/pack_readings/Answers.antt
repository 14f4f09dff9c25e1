use Rattle.std.proofs.Common.{◌≡◌, ◌++◌, length, ap, arith, ◌∙◌}
use Rattle.mds_packs.specs.Body.{body_of, two}
use Rattle.mds_packs.specs.Unpacked.{unpacked}
use Rattle.mds_packs.proofs.DayPacks.{held, held-body, held-day, held-few}
use Rattle.mds_packs.proofs.Whole.{readings_again_all}
use Rattle.mds_packs.proofs.packing.pack_readings.Goals as goal

pub overflow_cast-runs : goal.overflow_cast-runs
overflow_cast-runs c =
    omega (arith, held-few c.args.readings.now c.runs-runs.result.now c.runs-runs.ensures, c.len.ensures.value, c.len.ensures.few)

-- the bytes are the body
made : (c : goal.In_ok-put_each_value) → c.put_each_value.new.out.items ≡ body_of (held c.args.readings.now)
made c =
    held-body c.args.readings.now c.runs-runs.result.now c.in_ok-out.out.items c.push.new.self.items c.put_two.new.out.items c.put_two-2.new.out.items c.put_each_run.new.out.items c.put_each_value.new.out.items c.runs-runs.ensures c.in_ok-out.ensures.items c.in_ok-push.ensures.items (c.in_ok-put_two.ensures ∙ ap (λ n. c.push.new.self.items ++ two n) c.len-2.ensures.value) c.in_ok-put_two-2.ensures c.in_ok-put_each_run.ensures c.in_ok-put_each_value.ensures

pub returns-clause-value : goal.returns-clause-value
returns-clause-value c = made c

pub returns-clause-day : goal.returns-clause-day
returns-clause-day c some = held-day c.args.readings.now c.are_lawful.ensures some

pub returns-clause-back : goal.returns-clause-back
returns-clause-back c some =
    ap (unpacked (length c.args.readings.now)) (made c)
    ∙ readings_again_all (length c.args.readings.now) (held c.args.readings.now) (omega (arith, c.len.ensures.value, c.len.ensures.few)) (held-day c.args.readings.now c.are_lawful.ensures some)
