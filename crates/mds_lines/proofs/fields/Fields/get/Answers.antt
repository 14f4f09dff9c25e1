use Rattle.std.proofs.Common.{◌≡◌, ℕ, eqb, List, ◌⊎◌, ◌<◌, ◌+◌, ◌-◌, length, Option, Some, None, MatchOption, arith, rules, inr, tests}
use Rattle.std.specs.List.{slice_get}
use Rattle.std.specs.Option.{option_map}
use Rattle.std.proofs.lemmas.Grind.{common_steps}
use Rattle.std.proofs.lemmas.Option.{gets}
use denote.Ref.{Bor}
use Rattle.std.proofs.lemmas.Iterator.Splits.{YieldsList-from_slice_split}
use Rattle.std.proofs.lemmas.Iterator.Consumers.{nth_from_yields_List}
use Rattle.mds_lines.proofs.fields.Fields.get.Goals as goal

-- a part that is there, or none past the end
at_number : (r : Option (Bor (List ℕ))) (parts all : List (List ℕ)) (before number : ℕ) → parts ≡ all → before + 1 ≡ number → option_map (λ x. x.now) r ≡ slice_get parts before
    → MatchOption r ((number ≡ 0) ⊎ (length all < number)) (λ found. (0 < number) × (slice_get all (number - 1) ≡ Some found.now))
at_number None parts all before number p n e = inr (grind (arith, common_steps, gets))
at_number (Some x) parts all before number p n e = let b : number - 1 ≡ before = omega arith in (omega arith, cc)

pub returns : goal.returns
returns c =
    let e = nth_from_yields_List _ _ _ c.nth.ensures.ran (YieldsList-from_slice_split _ (λ x. eqb x 44) c.self.inside.line.now c.split.ensures.rest c.split.ensures.done c.split.ensures.closure (λ x b q k. search (rules, tests))) in
    at_number _ _ _ _ _ c.self.view_is (omega (arith, c.in_ok-before.ensures)) e
