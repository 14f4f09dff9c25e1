use Rattle.std.proofs.Common.{ap, ◌∙◌}
use Rattle.std.specs.BTreeMap.{get}
use Rattle.std.specs.Ordering.{is_eq}
use Rattle.std.specs.Prelude.{Some, cond}
use Rattle.mds_service.proofs.SharedDays.{key_of, put_known, put_new, shared_cmp}
use Rattle.mds_service.proofs.details.put_group.Goals as goal

pub returns-in-Some : goal.returns-in-Some
returns-in-Some c =
    put_known c.args.group c.args.together.now (c.get_mut.follows.lender c.append.new.self) c.in-Some.known.now c.append.new.self
    c.in-Some.ensures.value (c.get_mut.follows.holds c.append.new.self) c.in_ok-append.ensures.items

pub returns : goal.returns
returns c =
    put_new c.args.group c.args.together.now c.insert.new.self c.in_default.ensures.value
    (λ q. c.in_ok-insert.ensures.updates.0 q ∙ ap (λ m. cond (is_eq (shared_cmp (key_of c.args.group) q)) (Some c.args.group.days)
    (get shared_cmp m q)) c.get_mut.follows.holds-at-none)
