use Rattle.std.proofs.Common.{◌≡◌, ◌+◌, ℕ, suc, List, take, drop, refl, sym, ◌∙◌, ap}
use Rattle.mds_wire.specs.Routes.{part, part_length}
use Rattle.mds_wire.proofs.target.first_part.Goals as goal

part_first : (path : List ℕ) → take (part_length path) path ≡ part 0 path
unfolding part
part_first path = refl

part_next : (number : ℕ) (path : List ℕ) → part (suc number) path ≡ part number (drop (part_length path + 1) path)
unfolding part
part_next number path = refl

pub returns-clause-first : goal.returns-clause-first
returns-clause-first c = ap (λ n. take n c.args.path.now) c.part_length-length.ensures.value ∙ part_first c.args.path.now

pub returns-clause-rest : goal.returns-clause-rest
returns-clause-rest c =
    let rest = c.behind.ensures ∙ ap (λ n. drop (n + 1) c.args.path.now) c.part_length-length.ensures.value in
    λ number. part_next number c.args.path.now ∙ ap (part number) (sym rest)
