use Rattle.std.proofs.Common.{◌≡◌, ◌-◌, ◌<◌, ◌++◌, List, ℕ, take, length, ap, ◌∙◌, subst, arith, refl, length-append}
use Rattle.mds_wire.specs.HeadSteps.{WantsHead}
use Rattle.mds_wire.specs.Heads.{longest_head}
use Rattle.mds_wire.specs.Meaning.{Awaits, in_head, no_head, overlong}
use Rattle.mds_wire.specs.ServeSteps.{Performs}
use Rattle.mds_wire.specs.declared.head.HeadFault.TheVariants as fault
use Rattle.mds_wire.specs.declared.serve.Unread.TheVariants.{Read, Closed}
use Rattle.mds_wire.proofs.CallSteps.{read_for, read_both}
use Rattle.mds_wire.proofs.Exits.{counted_on, errors_apart, no_error, ok_apart, other_error, that_error}
use Rattle.mds_wire.proofs.serve.understand.Goals as goal

-- the faults are apart
closed_not_read : Closed ≡ Read → ⊥
closed_not_read is = absurd (cc)

closed_apart : fault.Closed ≡ fault.Read → ⊥
closed_apart is = absurd (cc)

bad_apart : fault.Bad ≡ fault.Read → ⊥
bad_apart is = absurd (cc)

large_apart : fault.TooLarge ≡ fault.Read → ⊥
large_apart is = absurd (cc)

-- what is wanted of a head is awaited
awaits_head : (bytes : List ℕ) (count : ℕ) → 0 < count → WantsHead bytes count → Awaits bytes count
awaits_head bytes count some h = in_head h.0 h.1

pub returns-in-Ok-clause-understands : goal.returns-in-Ok-clause-understands
returns-in-Ok-clause-understands g c =
    let r = c.in-Ok.ensures.read in
    let came = ap (λ n. take n c.read_head.new.buffer) r.is.0 ∙ r.kept in
    let p = subst (λ (xs : List ℕ). Performs g.H.Handler.step g.H.Handler.same g.H.Handler.takes_memory xs g.R.Source.gives c.read_head.new.source c.perform.new.reader
    (g.R.Source.remaining c.read_head.new.source) (g.R.Source.remaining c.perform.new.reader) c.args.handler.now c.perform.new.handler c.perform.new.answer.items c.perform.result)
    came c.perform.ensures.does in
    record {
      bytes = r.bytes ++ p.more;
      few = omega (arith, r.few, p.few, length-append r.bytes p.more);
      read = read_both _ _ _ _ _ _ _ _ _ _ _ (read_for _ _ _ _ _ _ _ _ _ awaits_head r.read) p.read;
      is = p.is;
    }

pub returns-in-Err-Bad-clause-understands : goal.returns-in-Err-Bad-clause-understands
returns-in-Err-Bad-clause-understands g c =
    let r = rw c.in-Err-Bad.field-0-is at c.in-Err-Bad.ensures.read in
    record {
      bytes = r.bytes;
      few = omega (arith, r.few);
      read = read_for _ _ _ _ _ _ _ _ _ awaits_head r.read;
      is = record { beginning = no_head; begins = r.is; answers = (refl, refl) };
    }

pub returns-in-Err-TooLarge-clause-understands : goal.returns-in-Err-TooLarge-clause-understands
returns-in-Err-TooLarge-clause-understands g c =
    let r = rw c.in-Err-TooLarge.field-0-is at c.in-Err-TooLarge.ensures.read in
    record {
      bytes = r.bytes;
      few = omega (arith, r.few);
      read = read_for _ _ _ _ _ _ _ _ _ awaits_head r.read;
      is = record { beginning = overlong; begins = r.is; answers = (refl, refl) };
    }

pub returns-in-Err-Closed-clause-understands : goal.returns-in-Err-Closed-clause-understands
returns-in-Err-Closed-clause-understands g c =
    let r = rw c.in-Err-Closed.field-0-is at c.in-Err-Closed.ensures.read in
    record {
      bytes = r.bytes;
      few = omega (arith, r.few);
      read = read_for _ _ _ _ _ _ _ _ _ awaits_head r.read;
      is = (refl, r.is.0, (longest_head - length r.bytes, omega (arith, r.is.2), in_head r.is.1 (omega (arith, r.is.2))));
    }

pub returns-in-Err-Read-clause-understands : goal.returns-in-Err-Read-clause-understands
returns-in-Err-Read-clause-understands g c =
    let r = rw c.in-Err-Read.field-0-is at c.in-Err-Read.ensures.read in
    record {
      bytes = r.bytes;
      few = omega (arith, r.few);
      read = read_for _ _ _ _ _ _ _ _ _ awaits_head r.read;
      is = refl;
    }

pub returns-in-Ok-clause-counted : goal.returns-in-Ok-clause-counted
returns-in-Ok-clause-counted g c = counted_on (c.in-Ok.ensures.counted.1 ok_apart) c.perform.ensures.counted

pub returns-in-Err-Bad-clause-counted : goal.returns-in-Err-Bad-clause-counted
returns-in-Err-Bad-clause-counted g c = no_error ((rw c.in-Err-Bad.field-0-is at c.in-Err-Bad.ensures.counted).1 (errors_apart bad_apart))

pub returns-in-Err-TooLarge-clause-counted : goal.returns-in-Err-TooLarge-clause-counted
returns-in-Err-TooLarge-clause-counted g c = no_error ((rw c.in-Err-TooLarge.field-0-is at c.in-Err-TooLarge.ensures.counted).1 (errors_apart large_apart))

pub returns-in-Err-Closed-clause-counted : goal.returns-in-Err-Closed-clause-counted
returns-in-Err-Closed-clause-counted g c = other_error closed_not_read ((rw c.in-Err-Closed.field-0-is at c.in-Err-Closed.ensures.counted).1 (errors_apart closed_apart))

pub returns-in-Err-Read-clause-counted : goal.returns-in-Err-Read-clause-counted
returns-in-Err-Read-clause-counted g c = that_error ((rw c.in-Err-Read.field-0-is at c.in-Err-Read.ensures.counted).0 refl)
