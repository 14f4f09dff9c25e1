use Rattle.std.proofs.Common.{◌≤◌, ◌∷◌, ◌∙◌, [], ap, rules, sym}
use Rattle.std.specs.Prelude.{cond}
use Rattle.std.specs.BTreeMap.Range.{entries_between}
use Rattle.std.specs.declared.ops.Bound.TheVariants.{Included}
use Rattle.mds_memory.specs.Stored.{place_cmp}
use Rattle.mds_memory.proofs.DaysBetween.{IsAny, between, days_done, is_forward, known_at}
use Rattle.mds_memory.proofs.Runs.{begin, pass, step}
use Rattle.mds_memory.proofs.stored_days.days_of.Goals as goal

pub range-book-items-requires : goal.range-book-items-requires
range-book-items-requires c =
    let l : c.args.first ≤ c.args.last = search rules in
    rw (c.new.ensures.start, c.new.ensures.end) (is_forward c.args.stream c.args.first c.args.last l)

pub loop-book-init : goal.loop-book-init
loop-book-init c =
    begin known_at IsAny (between c.args.days.now c.args.stream c.args.first c.args.last) _ _ c.new-books.ensures.items
    (c.into_iter-book-iterator.ensures.into_iter_gives ∙ c.range-book-items.ensures.between c.new.ensures.exhausted
    ∙ (λ i. entries_between place_cmp (Included (c.new.ensures.start i)) (Included (c.new.ensures.end i)) c.args.days.now.entries))

pub loop-book-preserved-in_ok-push : goal.loop-book-preserved-in_ok-push
loop-book-preserved-in_ok-push c =
    step known_at IsAny (between c.args.days.now c.args.stream c.args.first c.args.last) _ c.next.new.self _
    c.push.new.self.items _ _ c.loop-book.invariant c.in-Some.ensures.steps tt
    (ap (λ known. cond known (c.in-Some.book.now ∷ []) []) (sym c.if-has_head.ensures)
    ∙ (λ i. sym c.in_ok-try_clone.ensures.value i ∷ [])) c.in_ok-push.ensures.items

pub loop-book-preserved : goal.loop-book-preserved
loop-book-preserved c =
    pass known_at IsAny (between c.args.days.now c.args.stream c.args.first c.args.last) _ c.next.new.self _ _
    c.loop-book.invariant c.in-Some.ensures.steps tt
    (ap (λ known. cond known (c.in-Some.book.now ∷ []) []) (sym c.if-has_head.ensures))

pub returns : goal.returns
returns c =
    days_done c.args.days.now c.args.stream c.args.first c.args.last _ _ c.requires c.loop-book.invariant
    c.in-None.ensures.steps.0
