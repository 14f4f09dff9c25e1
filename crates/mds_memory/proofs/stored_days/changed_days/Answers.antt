use Rattle.std.proofs.Common.{◌≡◌, ◌<◌, ◌≤◌, ◌++◌, [], Some, length, refl, ap, sym, ◌∙◌, arith}
use Rattle.std.specs.List.{slice_get}
use Rattle.std.proofs.lemmas.List.{append-nil}
use Rattle.std.proofs.lemmas.Option.{slice_get_read}
use Rattle.mds_memory.specs.Stored.{days_world}
use Rattle.mds_memory.proofs.Changed.{changed_all, changed_end, changed_lawful, day_put, head_put, split_step}
use Rattle.mds_memory.proofs.Places.{if_ok_map}
use Rattle.mds_memory.proofs.stored_days.changed_days.Goals as goal

pub loop-added-preserved : goal.loop-added-preserved
loop-added-preserved c =
    let day = c.in-Some.added in
    let hand = c.in_ok-hand in
    let split = c.loop-added.invariant.split in
    let steps = c.in-Some.ensures.steps.0 in
    record {
      split = split_step _ _ _ _ day split steps;
      changed = day_put (days_world c.args.days.now) c.args.heads.items c.args.versions.items c.loop-added.yielded
          c.next.new.self.rest.items c.loop-added.put c.with_head-headed.result.1 day c.opened.new.closed hand.hand
          c.with_head-headed.result.0 (record { place = record { stream = day.stream; day = day.day }; rows = c.in_ok-rows.rows })
          c.requires.lawful (ap (λ l. c.loop-added.yielded ++ l) (sym steps) ∙ split) hand.ensures.place
          (hand.ensures.changed _ c.loop-added.invariant.changed) c.with_head-headed.ensures (sym hand.ensures.place)
          c.in_ok-rows.ensures.0 c.in_ok-rows.ensures.1;
    }

pub loop-i-preserved : goal.loop-i-preserved
loop-i-preserved c =
    let head = c.index-head.result.now in
    let hand = c.in_ok-hand-2 in
    let within : c.loop-i.i < length c.args.heads.items = omega (arith, c.len-i-end.ensures, c.loop-i-test.true) in
    let is : slice_get c.args.heads.items c.loop-i.i ≡ Some head =
    slice_get_read c.args.heads.items _ c.loop-i.i head refl within c.index-head.ensures in
    head_put (days_world c.args.days.now) c.args.heads.items c.args.versions.items c.args.versions.items [] c.loop-i.i head
    c.opened-in-loop-i.new.closed hand.hand (record { place = c.place_of-place.result; rows = c.of_head-rows.result })
    c.requires.lawful (append-nil c.args.versions.items) is (hand.ensures.place ∙ c.place_of-place.ensures)
    (hand.ensures.changed _ c.loop-i.invariant) (sym hand.ensures.place) c.of_head-rows.ensures.0 c.of_head-rows.ensures.1

pub books_of-requires : goal.books_of-requires
books_of-requires c =
    let ends : length c.args.heads.items ≤ c.loop-i.i = omega (arith, c.len-i-end.ensures, c.loop-i-test.false) in
    changed_lawful (days_world c.args.days.now) _ c.loop-i.closed c.requires.lawful
    (changed_all (days_world c.args.days.now) c.args.heads.items c.loop-i.i c.args.versions.items _ _ _ ends c.in_default.is c.loop-i.invariant)

pub returns-in_default : goal.returns-in_default
returns-in_default c =
    let ends : length c.args.heads.items ≤ c.loop-i.i = omega (arith, c.len-i-end.ensures, c.loop-i-test.false) in
    if_ok_map c.books_of.result _ _ (λ books b. (
      b.0,
      changed_end (days_world c.args.days.now) _ c.loop-i.closed books c.requires.lawful
          (changed_all (days_world c.args.days.now) c.args.heads.items c.loop-i.i c.args.versions.items _ _ _ ends c.in_default.is c.loop-i.invariant) b.1,
    )) c.books_of.ensures

pub books_of-requires-2 : goal.books_of-requires-2
books_of-requires-2 c =
    let ends : length c.args.heads.items ≤ c.loop-i.i = omega (arith, c.len-i-end.ensures, c.loop-i-test.false) in
    changed_lawful (days_world c.args.days.now) _ c.close.new.closed c.requires.lawful
    (c.in_ok-close.ensures _ _ (changed_all (days_world c.args.days.now) c.args.heads.items c.loop-i.i c.args.versions.items _ _ _ ends c.in-Some-in_hand.is c.loop-i.invariant))

pub returns : goal.returns
returns c =
    let ends : length c.args.heads.items ≤ c.loop-i.i = omega (arith, c.len-i-end.ensures, c.loop-i-test.false) in
    if_ok_map c.books_of-2.result _ _ (λ books b. (
      b.0,
      changed_end (days_world c.args.days.now) _ c.close.new.closed books c.requires.lawful
          (c.in_ok-close.ensures _ _ (changed_all (days_world c.args.days.now) c.args.heads.items c.loop-i.i c.args.versions.items _ _ _ ends c.in-Some-in_hand.is c.loop-i.invariant)) b.1,
    )) c.books_of-2.ensures
