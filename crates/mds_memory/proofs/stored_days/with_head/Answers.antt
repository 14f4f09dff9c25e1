use Rattle.std.proofs.Common.{◌≡◌, Some, inr, refl, rules, subst, sym}
use Rattle.std.proofs.lemmas.Bool.{ltb-true}
use Rattle.std.proofs.lemmas.Option.{slice_get_read}
use Rattle.std.specs.List.{slice_get}
use Rattle.mds_memory.proofs.stored_days.with_head.Goals as goal

pub returns : goal.returns
returns c =
    let head = c.in-Some.head.now in
    let found = c.in-Some.ensures.lookup in
    let is : slice_get c.args.heads.now.items c.args.at ≡ Some head =
    subst (λ heads. slice_get heads c.args.at ≡ Some head) c.deref.ensures.value
    (slice_get_read c.deref.result.now _ c.args.at head refl (ltb-true _ _ (sym found.0)) found.1) in
    let place : c.args.place.now ≡ record { stream = head.stream; day = head.day } = search rules in
    inr (head, is, place, c.of_head.ensures.0, c.of_head.ensures.1, refl)
