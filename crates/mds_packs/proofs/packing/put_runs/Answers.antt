use Rattle.std.proofs.Common.{◌++◌, length, refl, arith}
use Rattle.std.specs.List.{flat_map}
use Rattle.std.proofs.lemmas.Option.{slice_get_read}
use Rattle.mds_packs.specs.Body.{run_bytes, runs_in}
use Rattle.mds_packs.proofs.Packs.{Alike, written_on, counted_on, few_runs}
use Rattle.mds_packs.proofs.packing.put_runs.Goals as goal

-- what was found from the place on
alike : (c : goal.In_ok-number) → Alike c.args.readings.now c.loop-place.place c.end_of_stretch-end.result c.index-readings-place.result
alike c = record {
  grows = c.end_of_stretch-end.ensures.within.0;
  within = c.end_of_stretch-end.ensures.within.1;
  first = slice_get_read c.args.readings.now (length c.args.readings.now) c.loop-place.place _ refl c.loop-place-test.true c.index-readings-place.is;
  alike = c.end_of_stretch-end.ensures.alike;
  differs = c.end_of_stretch-end.ensures.differs;
}

pub overflow_add-number : goal.overflow_add-number
overflow_add-number c =
    let n = counted_on c.args.readings.now c.loop-place.place c.end_of_stretch-end.result c.index-readings-place.result c.loop-place.number c.in_ok-number.field-0 (length (runs_in c.args.readings.now)) (alike c) c.in_ok-number.ensures.number c.loop-place.invariant.counted in
    omega (arith, n, few_runs c.args.readings.now, c.requires)

pub loop-place-preserved : goal.loop-place-preserved
loop-place-preserved c = record {
  written = written_on c.args.readings.now c.loop-place.place c.end_of_stretch-end.result c.index-readings-place.result c.loop-place.out.items c.put_stretch.new.out.items (c.args.out.now.items ++ flat_map run_bytes (runs_in c.args.readings.now)) (alike c) c.in_ok-number.ensures.done c.loop-place.invariant.written;
  counted = counted_on c.args.readings.now c.loop-place.place c.end_of_stretch-end.result c.index-readings-place.result c.loop-place.number c.in_ok-number.field-0 (length (runs_in c.args.readings.now)) (alike c) c.in_ok-number.ensures.number c.loop-place.invariant.counted;
  within = c.end_of_stretch-end.ensures.within.1;
}
