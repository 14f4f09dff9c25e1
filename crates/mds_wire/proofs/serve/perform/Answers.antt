use Rattle.std.proofs.Common.{◌≡◌, ◌+◌, ◌≤◌, ◌++◌, [], List, ℕ, drop, take, length, ap, sym, ◌∙◌, subst, arith, refl, inl, inr, bytes_eq, codes, length-append}
use Rattle.std.proofs.lemmas.List.{append-nil, take_rest}
use Rattle.mds_wire.specs.ServeSteps.{answer_of}
use Rattle.mds_wire.specs.declared.body.BodyFault.TheVariants as fault
use Rattle.mds_wire.specs.declared.serve.Unread.TheVariants.{Read, Closed}
use Rattle.mds_wire.specs.declared.serve.Reply.TheVariants.{Told}
use Rattle.mds_wire.proofs.CallSteps.{read_none, read_for}
use Rattle.mds_wire.proofs.Exits.{errors_apart, no_error, ok_apart, other_error, that_error}
use Rattle.mds_wire.proofs.Meant.{means_refused, means_unavailable, means_step, awaits_body, part_is, unfinished_body}
use Rattle.mds_wire.proofs.serve.perform.Goals as goal

-- the faults are apart
closed_not_read : Closed ≡ Read → ⊥
closed_not_read is = absurd (cc)

closed_apart : fault.Closed ≡ fault.Read → ⊥
closed_apart is = absurd (cc)

unavailable_apart : fault.Unavailable ≡ fault.Read → ⊥
unavailable_apart is = absurd (cc)

-- what came of a body, of which the front came with the head
came_is : (size : ℕ) (rest front more : List ℕ) → front ≡ take size rest → length front + length more ≤ size → front ++ more ≡ take size (rest ++ more)
came_is size rest front more is few =
    ap (λ t. t ++ more) is ∙ sym (part_is rest more size (subst (λ (t : List ℕ). length t + length more ≤ size) is few))

-- nothing comes behind a whole body
whole_came : (size : ℕ) (rest front more : List ℕ) → front ≡ take size rest → length front + length more ≤ size
    → front ++ more ++ [] ++ [] ≡ take size (rest ++ more)
whole_came size rest front more is few =
    append-nil (front ++ more ++ []) ∙ append-nil (front ++ more) ∙ came_is size rest front more is few

-- nor behind a piece that wasn't taken
piece_came : (size : ℕ) (rest front more came piece : List ℕ) → front ≡ take size rest → length front + length more ≤ size
    → came ++ piece ≡ front ++ more → came ++ piece ++ [] ≡ take size (rest ++ more)
piece_came size rest front more came piece is few both =
    append-nil (came ++ piece) ∙ both ∙ came_is size rest front more is few

pub returns-in-Refused-clause-does : goal.returns-in-Refused-clause-does
returns-in-Refused-clause-does g c = record {
  more = [];
  few = omega arith;
  read = read_none _ _ _ _;
  is = means_refused g.H.Handler.step g.H.Handler.same g.H.Handler.takes_memory c.args.bytes.now c.args.fields.now c.args.read.spans c.requires.whole c.in-Refused.status c.is_head-is_head.result c.args.handler.now
      (sym c.in-Refused.is ∙ c.judge_head.ensures.value) (c.is_head-is_head.ensures ∙ ap (λ m. bytes_eq m (codes "HEAD")) c.of.ensures);
}

pub returns-in_default-clause-does : goal.returns-in_default-clause-does
returns-in_default-clause-does g c = record {
  more = [];
  few = omega arith;
  read = read_none _ _ _ _;
  is = means_unavailable g.H.Handler.step g.H.Handler.same g.H.Handler.takes_memory c.args.bytes.now [] c.args.fields.now c.args.read.spans c.requires.whole c.in-Wanted.route c.in-Wanted.size c.args.handler.now c.args.handler.now c.of-target.result.now
      (sym c.in-Wanted.is ∙ c.judge_head.ensures.value) c.of-target.ensures ([], [], _, refl, c.in_default.ensures.only) (inl refl);
}

pub returns-in-Ok-handle-clause-does : goal.returns-in-Ok-handle-clause-does
returns-in-Ok-handle-clause-does g c =
    let r = c.in-Ok-feed_body.ensures.feeds in
    let judged = sym c.in-Wanted.is ∙ c.judge_head.ensures.value in
    let front = c.front_of-front.ensures.value ∙ ap (take c.in-Wanted.size) (take_rest c.args.bytes.now c.args.read.spans.len) in
    let size : length (c.front_of-front.result.now ++ r.bytes) ≡ c.in-Wanted.size = length-append c.front_of-front.result.now r.bytes ∙ r.is.1 in
    let whole = subst (λ (n : ℕ). g.H.Handler.holds c.feed_body.new.body c.in-Wanted.route c.of-target.result.now n (c.front_of-front.result.now ++ r.bytes)) (sym size)
    (r.is.0 c.in-Wanted.route c.of-target.result.now c.in-Wanted.size [] c.in-Ok.ensures.begun (omega (arith, size)) (c.judge_head.ensures.few _ _ c.in-Wanted.is)) in
    record {
      more = r.bytes;
      few = omega (arith, r.few, c.judge_head.ensures.few _ _ c.in-Wanted.is);
      read = read_for _ _ _ _ _ _ _ _ _ (awaits_body c.args.bytes.now c.args.fields.now c.args.read.spans c.requires.whole c.in-Wanted.route c.in-Wanted.size c.front_of-front.result.now judged front) r.read;
      is = means_step g.H.Handler.step g.H.Handler.same g.H.Handler.takes_memory c.args.bytes.now r.bytes c.args.fields.now c.args.read.spans c.requires.whole c.in-Wanted.route c.in-Wanted.size c.args.handler.now c.handle.new.self c.of-target.result.now (c.front_of-front.result.now ++ r.bytes) (answer_of (Told c.in-Ok-handle.status c.in-Ok-handle.kind) c.handle.new.answer.items)
          judged
          (subst (λ (xs : List ℕ). length xs + length r.bytes ≡ c.in-Wanted.size) front r.is.1)
          c.of-target.ensures
          (ap (λ xs. xs ++ r.bytes) front)
          refl
          (c.in-Ok-handle.ensures.step (c.front_of-front.result.now ++ r.bytes) whole);
    }

pub returns-in-Ok-feed_body-clause-does : goal.returns-in-Ok-feed_body-clause-does
returns-in-Ok-feed_body-clause-does g c =
    let r = c.in-Ok-feed_body.ensures.feeds in
    let judged = sym c.in-Wanted.is ∙ c.judge_head.ensures.value in
    let front = c.front_of-front.ensures.value ∙ ap (take c.in-Wanted.size) (take_rest c.args.bytes.now c.args.read.spans.len) in
    let size : length (c.front_of-front.result.now ++ r.bytes) ≡ c.in-Wanted.size = length-append c.front_of-front.result.now r.bytes ∙ r.is.1 in
    let whole = subst (λ (n : ℕ). g.H.Handler.holds c.feed_body.new.body c.in-Wanted.route c.of-target.result.now n (c.front_of-front.result.now ++ r.bytes)) (sym size)
    (r.is.0 c.in-Wanted.route c.of-target.result.now c.in-Wanted.size [] c.in-Ok.ensures.begun (omega (arith, size)) (c.judge_head.ensures.few _ _ c.in-Wanted.is)) in
    let takes = subst (λ (n : ℕ). g.H.Handler.takes_memory c.in-Wanted.route c.of-target.result.now n (c.front_of-front.result.now ++ r.bytes) []) size
    (c.in-Err.ensures.only (c.front_of-front.result.now ++ r.bytes) whole) in
    let all = whole_came c.in-Wanted.size (drop c.args.read.spans.len c.args.bytes.now) c.front_of-front.result.now r.bytes front (omega (arith, r.few)) in
    record {
      more = r.bytes;
      few = omega (arith, r.few, c.judge_head.ensures.few _ _ c.in-Wanted.is);
      read = read_for _ _ _ _ _ _ _ _ _ (awaits_body c.args.bytes.now c.args.fields.now c.args.read.spans c.requires.whole c.in-Wanted.route c.in-Wanted.size c.front_of-front.result.now judged front) r.read;
      is = means_unavailable g.H.Handler.step g.H.Handler.same g.H.Handler.takes_memory c.args.bytes.now r.bytes c.args.fields.now c.args.read.spans c.requires.whole c.in-Wanted.route c.in-Wanted.size c.args.handler.now c.handle.new.self c.of-target.result.now
          judged c.of-target.ensures (c.front_of-front.result.now ++ r.bytes, [], [], all, takes) (inr c.in-Err.ensures.same);
    }

pub returns-in-Err-Unavailable-clause-does : goal.returns-in-Err-Unavailable-clause-does
returns-in-Err-Unavailable-clause-does g c =
    let r = rw c.in-Err-Unavailable.field-0-is at c.in-Err-Unavailable.ensures.feeds in
    let judged = sym c.in-Wanted.is ∙ c.judge_head.ensures.value in
    let front = c.front_of-front.ensures.value ∙ ap (take c.in-Wanted.size) (take_rest c.args.bytes.now c.args.read.spans.len) in
    let takes = r.is c.in-Wanted.route c.of-target.result.now c.in-Wanted.size [] c.in-Ok.ensures.begun
    (omega (arith, r.few, length-append c.front_of-front.result.now r.bytes)) (c.judge_head.ensures.few _ _ c.in-Wanted.is) in
    let all = piece_came c.in-Wanted.size (drop c.args.read.spans.len c.args.bytes.now) c.front_of-front.result.now r.bytes takes.0 takes.1 front (omega (arith, r.few)) takes.2 in
    record {
      more = r.bytes;
      few = omega (arith, r.few, c.judge_head.ensures.few _ _ c.in-Wanted.is);
      read = read_for _ _ _ _ _ _ _ _ _ (awaits_body c.args.bytes.now c.args.fields.now c.args.read.spans c.requires.whole c.in-Wanted.route c.in-Wanted.size c.front_of-front.result.now judged front) r.read;
      is = means_unavailable g.H.Handler.step g.H.Handler.same g.H.Handler.takes_memory c.args.bytes.now r.bytes c.args.fields.now c.args.read.spans c.requires.whole c.in-Wanted.route c.in-Wanted.size c.args.handler.now c.args.handler.now c.of-target.result.now
          judged c.of-target.ensures (takes.0, takes.1, [], all, takes.3) (inl refl);
    }

pub returns-in-Err-Closed-clause-does : goal.returns-in-Err-Closed-clause-does
returns-in-Err-Closed-clause-does g c =
    let r = rw c.in-Err-Closed.field-0-is at c.in-Err-Closed.ensures.feeds in
    let judged = sym c.in-Wanted.is ∙ c.judge_head.ensures.value in
    let front = c.front_of-front.ensures.value ∙ ap (take c.in-Wanted.size) (take_rest c.args.bytes.now c.args.read.spans.len) in
    record {
      more = r.bytes;
      few = omega (arith, r.few, c.judge_head.ensures.few _ _ c.in-Wanted.is);
      read = read_for _ _ _ _ _ _ _ _ _ (awaits_body c.args.bytes.now c.args.fields.now c.args.read.spans c.requires.whole c.in-Wanted.route c.in-Wanted.size c.front_of-front.result.now judged front) r.read;
      is = (refl, r.is.0, unfinished_body c.args.bytes.now c.args.fields.now c.args.read.spans c.requires.whole c.in-Wanted.route c.in-Wanted.size c.front_of-front.result.now judged front r.bytes r.is.1);
    }

pub returns-clause-does : goal.returns-clause-does
returns-clause-does g c =
    let r = rw c.in-Err-Read.field-0-is at c.in-Err-Read.ensures.feeds in
    let judged = sym c.in-Wanted.is ∙ c.judge_head.ensures.value in
    let front = c.front_of-front.ensures.value ∙ ap (take c.in-Wanted.size) (take_rest c.args.bytes.now c.args.read.spans.len) in
    record {
      more = r.bytes;
      few = omega (arith, r.few, c.judge_head.ensures.few _ _ c.in-Wanted.is);
      read = read_for _ _ _ _ _ _ _ _ _ (awaits_body c.args.bytes.now c.args.fields.now c.args.read.spans c.requires.whole c.in-Wanted.route c.in-Wanted.size c.front_of-front.result.now judged front) r.read;
      is = refl;
    }

pub returns-in-Refused-clause-counted : goal.returns-in-Refused-clause-counted
returns-in-Refused-clause-counted g c = no_error refl

pub returns-in_default-clause-counted : goal.returns-in_default-clause-counted
returns-in_default-clause-counted g c = no_error refl

pub returns-in-Ok-handle-clause-counted : goal.returns-in-Ok-handle-clause-counted
returns-in-Ok-handle-clause-counted g c = no_error (c.in-Ok-feed_body.ensures.counted.1 ok_apart)

pub returns-in-Ok-feed_body-clause-counted : goal.returns-in-Ok-feed_body-clause-counted
returns-in-Ok-feed_body-clause-counted g c = no_error (c.in-Ok-feed_body.ensures.counted.1 ok_apart)

pub returns-in-Err-Unavailable-clause-counted : goal.returns-in-Err-Unavailable-clause-counted
returns-in-Err-Unavailable-clause-counted g c = no_error ((rw c.in-Err-Unavailable.field-0-is at c.in-Err-Unavailable.ensures.counted).1 (errors_apart unavailable_apart))

pub returns-in-Err-Closed-clause-counted : goal.returns-in-Err-Closed-clause-counted
returns-in-Err-Closed-clause-counted g c = other_error closed_not_read ((rw c.in-Err-Closed.field-0-is at c.in-Err-Closed.ensures.counted).1 (errors_apart closed_apart))

pub returns-clause-counted : goal.returns-clause-counted
returns-clause-counted g c = that_error ((rw c.in-Err-Read.field-0-is at c.in-Err-Read.ensures.counted).0 refl)
