use Rattle.std.proofs.Common.{◌≡◌, ◌≤◌, ◌-◌, ◌*◌}
use Rattle.mds_packs.specs.Sizes.{sizes_at}
use Rattle.mds_packs.proofs.BodySizes.{with_size}
use Rattle.mds_packs.proofs.sizes.read_sizes.Given as goal

abbrev pub invariant-loop : goal.invariant-loop
invariant-loop l = record {
  read : with_size l.size (sizes_at (l.number - l.counter) l.rest) ≡ sizes_at l.number l.bytes;
  small : l.size ≤ l.counter * 524_288;
}
