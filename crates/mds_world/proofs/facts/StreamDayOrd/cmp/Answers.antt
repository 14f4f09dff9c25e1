use Rattle.std.proofs.Common.{◌≡◌, true, false, refl, ◌∙◌}
use Rattle.std.specs.Ordering.{is_eq, nat_cmp, ordering_then}
use Rattle.std.specs.declared.cmp.Ordering.{Ordering}
use Rattle.std.specs.declared.cmp.Ordering.TheVariants.{Less, Equal, Greater}
use Rattle.mds_names.specs.contracts.stream.StreamOrd.TheImpl.Laws as stream_laws
use Rattle.mds_world.proofs.facts.StreamDayOrd.cmp.Goals as goal

-- the first part decides unless it is a tie
tied : (a b : Ordering) → true ≡ is_eq a → b ≡ ordering_then a b
tied Less b e = cc
tied Equal b e = refl
tied Greater b e = cc

apart : (a b : Ordering) → false ≡ is_eq a → a ≡ ordering_then a b
apart Less b e = refl
apart Equal b e = cc
apart Greater b e = refl

pub returns-then-eq : goal.returns-then-eq
returns-then-eq c =
    let e = stream_laws.matches_eq-law c.args.self.now.stream c.args.other.now.stream in
    c.cmp.ensures ∙ tied _ _ (c.if-eq.ensures ∙ e)

pub returns-else-eq : goal.returns-else-eq
returns-else-eq c =
    let e = stream_laws.matches_eq-law c.args.self.now.stream c.args.other.now.stream in
    c.cmp-else-eq.ensures ∙ apart _ (nat_cmp c.args.self.now.day c.args.other.now.day) (c.if-eq.ensures ∙ e)
