use Rattle.std.specs.Int.{w128}
use Rattle.std.proofs.lemmas.Int.{to_z-of_z}
use Rattle.mds_quantity.proofs.Nearest.{nearest_small, rounded_size}
use Rattle.mds_quantity.proofs.rounding.rounded.Goals as goal

pub signed-requires : goal.signed-requires
signed-requires c =
    rw (c.unsigned_abs.ensures.value, c.from-parts.ensures, to_z-of_z w128 c.args.total c.ranges.total)
    (nearest_small _ _ c.requires.some c.requires.of_quantities)

pub returns : goal.returns
returns c =
    rw (c.signed.ensures, c.unsigned_abs.ensures.value, c.from-parts.ensures, to_z-of_z w128 c.args.total c.ranges.total)
    (rounded_size c.args.total c.args.parts c.requires.some)
