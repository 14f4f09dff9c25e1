use Rattle.std.proofs.Common.{◌+◌, ◌-◌, ◌++◌, length, map, sym, ap, ◌∙◌, arith}
use Rattle.std.specs.Prelude.{option_map}
use Rattle.mds_runs.specs.Marked.{reading_by}
use Rattle.mds_packs.specs.LoopSteps.{held_by}
use Rattle.mds_packs.proofs.HeldReads.{put_behind, run_read, values_length}
use Rattle.mds_packs.proofs.whole_days.read_run.Goals as goal

pub push_all-requires-clause-few : goal.push_all-requires-clause-few
push_all-requires-clause-few c =
    let read = run_read c.args.run.now c.from.result c.from-2.result c.read_values.new.values.items c.args.bytes.now c.in-Some.rest.now c.from.ensures c.from-2.ensures (sym c.in_ok-rest.ensures.value ∙ ap (λ o. option_map (λ rest. (map (held_by c.args.run.now.mark) c.read_values.new.values.items, rest.now)) o) c.in-Some.is) in
    let n = values_length c.args.run.now.mark (c.args.run.now.last + 1 - c.args.run.now.first) c.read_values.new.values.items c.args.bytes.now c.in-Some.rest.now read in
    omega (arith, n, ap length c.as_slice.ensures.value, c.requires.next, c.requires.some, c.requires.few)

pub returns : goal.returns
returns c =
    let read = run_read c.args.run.now c.from.result c.from-2.result c.read_values.new.values.items c.args.bytes.now c.in-Some.rest.now c.from.ensures c.from-2.ensures (sym c.in_ok-rest.ensures.value ∙ ap (λ o. option_map (λ rest. (map (held_by c.args.run.now.mark) c.read_values.new.values.items, rest.now)) o) c.in-Some.is) in
    put_behind c.args.run.now.mark c.args.readings.now c.push_all.new.self c.read_values.new.values.items c.in-Some.rest.now _ read (c.in_ok-push_all.ensures.done ∙ ap (λ l. c.args.readings.now ++ map (reading_by c.args.run.now.mark) l) c.as_slice.ensures.value)
