use Rattle.std.proofs.Common.{◌++◌, map, refl, ap, sym, ◌∙◌, arith}
use Rattle.std.specs.List.{list_all}
use Rattle.std.proofs.lemmas.List.{append-nil, take_all}
use Rattle.mds_runs.specs.KeptReadings.{is_small, number_of}
use Rattle.mds_runs.proofs.KeptLemmas.{one-more}
use Rattle.mds_runs.proofs.day_readings.put_values.Goals as goal

pub loop-value-init : goal.loop-value-init
loop-value-init c = record { done = sym (append-nil c.args.millionths.now.items); small = refl; long = omega arith; room = omega arith }

pub returns-in_err-push-clause-succeeds : goal.returns-in_err-push-clause-succeeds
returns-in_err-push-clause-succeeds c enough = absurd (omega (arith, c.in_err-push.ensures.full, c.loop-value.invariant.long, c.loop-value.invariant.room))

pub loop-value-preserved : goal.loop-value-preserved
loop-value-preserved c =
    let more = one-more c.args.is_null c.args.values.now c.loop-value.value-index c.value-item.result c.args.millionths.now.items c.loop-value.millionths.items c.push.new.self.items c.number_of.result c.loop-value-test.true c.value-item.is c.number_of.ensures.value c.number_of.ensures.small c.in_ok-push.ensures.items c.loop-value.invariant.done c.loop-value.invariant.small in
    record {
      done = more.0;
      small = more.1;
      long = omega (arith, c.in_ok-push.ensures.len, c.loop-value.invariant.long);
      room = omega (arith, c.push.ensures.capacity, c.loop-value.invariant.room);
    }

pub returns-clause-done : goal.returns-clause-done
returns-clause-done c =
    c.loop-value.invariant.done ∙ ap (λ l. c.args.millionths.now.items ++ map (number_of c.args.is_null) l) (take_all c.loop-value.value-index c.args.values.now c.loop-value-test.false)

pub returns-clause-small : goal.returns-clause-small
returns-clause-small c =
    ap (list_all (is_small c.args.is_null)) (sym (take_all c.loop-value.value-index c.args.values.now c.loop-value-test.false)) ∙ c.loop-value.invariant.small
