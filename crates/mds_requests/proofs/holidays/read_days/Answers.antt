use Rattle.std.proofs.Common.{ap, ◌≡◌, ◌++◌, ◌∷◌, [], length, true, refl, sym, ◌∙◌, arith, rules}
use Rattle.std.specs.Result.{is_ok}
use Rattle.std.proofs.lemmas.Bool.{false≢true}
use Rattle.std.proofs.lemmas.List.{length-append, length-map}
use Rattle.csv.specs.Records.{fields_of}
use Rattle.mds_requests.specs.Holidays.{head_row}
use Rattle.mds_requests.proofs.HolidayLists.{bad_row, named_more, no_head, other_head}
use Rattle.mds_requests.proofs.HolidayRows.{front_read, fewer_left}
use Rattle.mds_requests.proofs.holidays.read_days.Goals as goal

pub returns-then-not-branch-clause-refused : goal.returns-then-not-branch-clause-refused
returns-then-not-branch-clause-refused c = λ text start some.
    let none = rw c.if-not-branch.true at (c.in_ok-next_row.ensures.reads text [] start) in
    no_head _ none

pub returns-then-not-is_head-clause-refused : goal.returns-then-not-is_head-clause-refused
returns-then-not-is_head-clause-refused c = λ text start some.
    let read = rw c.if-not-branch.false at (c.in_ok-next_row.ensures.reads text [] start) in
    let front = front_read _ _ _ read in
    let other = rw c.if-not-is_head.true at c.is_head.ensures in
    other_head _ front.0 _ front.1 (λ same. false≢true (other.1 same))

pub loop-days-init : goal.loop-days-init
loop-days-init c = λ text start.
    let read = rw c.if-not-branch.false at (c.in_ok-next_row.ensures.reads text [] start) in
    let head = rw c.if-not-is_head.false at c.is_head.ensures in
    record {
      others = [];
      so_far = rw (head.0 refl) at read;
      named = rw c.new-days.ensures.items refl;
      counted = omega arith;
    }

pub returns-in_default-clause-refused : goal.returns-in_default-clause-refused
returns-in_default-clause-refused c = λ text start some.
    let inv = c.loop-days.invariant text start in
    let read = rw c.if-branch.true at (c.in_ok-next_row-2.ensures.reads text (head_row ∷ inv.others) inv.so_far) in
    let front = front_read _ _ _ read in
    bad_row _ inv.others front.0 c.loop-days.days.items _ c.loop-days.number front.1 inv.named (sym c.day_in.ensures ∙ c.in_default.is) inv.counted

pub overflow_add-number : goal.overflow_add-number
overflow_add-number c =
    let inv = c.loop-days.invariant c.requires.0 c.requires.1 in
    let days = simp length-map at (ap length inv.named) in
    omega (arith, inv.counted)

pub loop-days-smaller : goal.loop-days-smaller
loop-days-smaller c =
    let text = c.requires.0 in
    let inv = c.loop-days.invariant text c.requires.1 in
    let read = rw c.if-branch.true at (c.in_ok-next_row-2.ensures.reads text (head_row ∷ inv.others) inv.so_far) in
    fewer_left text c.args.reader.now _ (head_row ∷ inv.others) _ c.loop-days.number c.requires.1 read (omega (arith, inv.counted))

pub loop-days-preserved : goal.loop-days-preserved
loop-days-preserved c = λ text start.
    let inv = c.loop-days.invariant text start in
    let read = rw c.if-branch.true at (c.in_ok-next_row-2.ensures.reads text (head_row ∷ inv.others) inv.so_far) in
    let kept : is_ok c.push.result ≡ true = search rules in
    let items = rw kept at c.push.ensures.items in
    record {
      others = inv.others ++ fields_of c.next_row-in-loop-days.new.row ∷ [];
      so_far = read;
      named = rw items (named_more inv.others c.loop-days.days.items _ c.in-Some.day inv.named (sym c.day_in.ensures ∙ c.in-Some.is));
      counted = simp length-append (omega (arith, inv.counted));
    }

pub returns-clause-days : goal.returns-clause-days
returns-clause-days c = λ text start.
    let inv = c.loop-days.invariant text start in
    let all = rw c.if-branch.false at (c.in_ok-next_row-2.ensures.reads text (head_row ∷ inv.others) inv.so_far) in
    (inv.others, all, inv.named)
