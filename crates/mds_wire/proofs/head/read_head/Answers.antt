use Rattle.std.proofs.Common.{◌≡◌, ◌+◌, ◌<◌, ◌≤◌, refl, sym, ◌∙◌, ap, arith, take}
use Rattle.std.proofs.lemmas.List.{length-take-le}
use Rattle.mds_wire.specs.declared.head.HeadFault.TheVariants.{Read, Closed, Bad, TooLarge}
use Rattle.mds_wire.proofs.CallSteps.{read_none, consumes_keeps}
use Rattle.mds_wire.proofs.Exits.{no_error, none_more, other_error, that_error}
use Rattle.mds_wire.proofs.HeadLemmas.{nothing_open}
use Rattle.mds_wire.proofs.HeadReads.{nothing_behind, head_next, head_last}
use Rattle.mds_wire.proofs.head.read_head.Goals as goal

-- the faults are apart
closed_not_read : Closed ≡ Read → ⊥
closed_not_read is = absurd (cc)

bad_not_read : Bad ≡ Read → ⊥
bad_not_read is = absurd (cc)

large_not_read : TooLarge ≡ Read → ⊥
large_not_read is = absurd (cc)

pub loop-filled-init : goal.loop-filled-init
loop-filled-init g c = record {
  size = c.requires.buffer;
  room = c.requires.fields;
  within = omega arith;
  read = read_none _ _ _ _;
  is_open = nothing_open;
  failures = refl;
}

pub returns-in-Ok-eq0-clause-read : goal.returns-in-Ok-eq0-clause-read
returns-in-Ok-eq0-clause-read g c =
    let i = c.loop-filled.invariant in
    let room : c.loop-filled.filled < 16384 = omega (arith, i.size, c.loop-filled-test.true) in
    let held = length-take-le c.loop-filled.filled c.loop-filled.buffer (omega (arith, c.loop-filled-test.true)) in
    let none = nothing_behind _ _ _ _ _ _ c.read_more.new.buffer _ c.in-Ok-eq0.field-0-test c.in-Ok-eq0.ensures.read in
    record {
      bytes = take c.loop-filled.filled c.loop-filled.buffer;
      few = omega (arith, held, room);
      kept = none.0;
      read = head_last _ _ _ _ _ _ _ c.loop-filled.buffer c.loop-filled.filled i.size room i.read i.is_open none.1 none.2;
      is = (c.in-Ok-eq0.ensures.ended c.in-Ok-eq0.field-0-test, i.is_open, omega (arith, held, room));
    }

pub returns-in-Err-clause-read : goal.returns-in-Err-clause-read
returns-in-Err-clause-read g c =
    let i = c.loop-filled.invariant in
    let room : c.loop-filled.filled < 16384 = omega (arith, i.size, c.loop-filled-test.true) in
    let held = length-take-le c.loop-filled.filled c.loop-filled.buffer (omega (arith, c.loop-filled-test.true)) in
    let none = c.in-Err.ensures.nothing in
    record {
      bytes = take c.loop-filled.filled c.loop-filled.buffer;
      few = omega (arith, held, room);
      kept = ap (λ n. take n c.read_more.new.buffer) held ∙ none.0;
      read = head_last _ _ _ _ _ _ _ c.loop-filled.buffer c.loop-filled.filled i.size room i.read i.is_open none.2 (consumes_keeps _ _ none.1);
      is = tt;
    }

pub returns-in-Ok-Some-clause-read : goal.returns-in-Ok-Some-clause-read
returns-in-Ok-Some-clause-read g c =
    let i = c.loop-filled.invariant in
    let room : c.loop-filled.filled < 16384 = omega (arith, i.size, c.loop-filled-test.true) in
    let within : c.loop-filled.filled + c.in-Ok.count ≤ 16384 = omega (arith, c.in-Ok.ensures.within, c.read_more.auto.buffer, i.size) in
    let held = length-take-le (c.loop-filled.filled + c.in-Ok.count) c.read_more.new.buffer c.in-Ok.ensures.within in
    let read = head_next _ _ _ _ _ _ _ c.loop-filled.buffer c.loop-filled.filled i.size room i.read i.is_open _ _ c.in-Ok.count-test.1 within c.in-Ok.ensures.read in
    record {
      bytes = take (c.loop-filled.filled + c.in-Ok.count) c.read_more.new.buffer;
      few = omega (arith, held, within);
      kept = ap (λ n. take n c.read_more.new.buffer) held;
      read = read;
      is = (sym held, rw c.in-Ok-Some.field-0-is at c.in-Ok-Some.ensures.ok);
    }

pub returns-in-Err-parse-clause-read : goal.returns-in-Err-parse-clause-read
returns-in-Err-parse-clause-read g c =
    let i = c.loop-filled.invariant in
    let room : c.loop-filled.filled < 16384 = omega (arith, i.size, c.loop-filled-test.true) in
    let within : c.loop-filled.filled + c.in-Ok.count ≤ 16384 = omega (arith, c.in-Ok.ensures.within, c.read_more.auto.buffer, i.size) in
    let held = length-take-le (c.loop-filled.filled + c.in-Ok.count) c.read_more.new.buffer c.in-Ok.ensures.within in
    let read = head_next _ _ _ _ _ _ _ c.loop-filled.buffer c.loop-filled.filled i.size room i.read i.is_open _ _ c.in-Ok.count-test.1 within c.in-Ok.ensures.read in
    record {
      bytes = take (c.loop-filled.filled + c.in-Ok.count) c.read_more.new.buffer;
      few = omega (arith, held, within);
      kept = ap (λ n. take n c.read_more.new.buffer) held;
      read = read;
      is = c.in-Err-parse.ensures.bad;
    }

pub loop-filled-preserved : goal.loop-filled-preserved
loop-filled-preserved g c =
    let i = c.loop-filled.invariant in
    let room : c.loop-filled.filled < 16384 = omega (arith, i.size, c.loop-filled-test.true) in
    let within : c.loop-filled.filled + c.in-Ok.count ≤ 16384 = omega (arith, c.in-Ok.ensures.within, c.read_more.auto.buffer, i.size) in
    let held = length-take-le (c.loop-filled.filled + c.in-Ok.count) c.read_more.new.buffer c.in-Ok.ensures.within in
    let read = head_next _ _ _ _ _ _ _ c.loop-filled.buffer c.loop-filled.filled i.size room i.read i.is_open _ _ c.in-Ok.count-test.1 within c.in-Ok.ensures.read in
    record {
      size = c.read_more.auto.buffer ∙ i.size;
      room = c.parse.auto.fields ∙ i.room;
      within = within;
      read = read;
      is_open = rw c.in-Ok-None.field-0-is at c.in-Ok-None.ensures.ok;
      failures = omega (arith, c.in-Ok.ensures.counted, i.failures);
    }

pub returns-in-Ok-eq0-clause-counted : goal.returns-in-Ok-eq0-clause-counted
returns-in-Ok-eq0-clause-counted g c = other_error closed_not_read (none_more c.in-Ok-eq0.ensures.counted ∙ c.loop-filled.invariant.failures)

pub returns-in-Err-clause-counted : goal.returns-in-Err-clause-counted
returns-in-Err-clause-counted g c = that_error (c.in-Err.ensures.counted ∙ ap (λ n. n + 1) c.loop-filled.invariant.failures)

pub returns-in-Ok-Some-clause-counted : goal.returns-in-Ok-Some-clause-counted
returns-in-Ok-Some-clause-counted g c = no_error (none_more c.in-Ok.ensures.counted ∙ c.loop-filled.invariant.failures)

pub returns-in-Err-parse-clause-counted : goal.returns-in-Err-parse-clause-counted
returns-in-Err-parse-clause-counted g c = other_error bad_not_read (none_more c.in-Ok.ensures.counted ∙ c.loop-filled.invariant.failures)

pub returns-clause-counted : goal.returns-clause-counted
returns-clause-counted g c = other_error large_not_read c.loop-filled.invariant.failures

pub returns-clause-read : goal.returns-clause-read
returns-clause-read g c =
    let i = c.loop-filled.invariant in
    let held = length-take-le c.loop-filled.filled c.loop-filled.buffer (omega (arith, i.within, i.size)) in
    record {
      bytes = take c.loop-filled.filled c.loop-filled.buffer;
      few = omega (arith, held, i.within);
      kept = ap (λ n. take n c.loop-filled.buffer) held;
      read = i.read;
      is = (omega (arith, held, i.within, i.size, c.loop-filled-test.false), i.is_open);
    }
