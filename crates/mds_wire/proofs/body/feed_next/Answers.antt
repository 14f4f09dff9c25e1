use Rattle.std.proofs.Common.{◌≡◌, ◌≢◌, ℕ, Result, Err, take, ap, sym, [], refl, arith}
use Rattle.std.proofs.lemmas.Result.{err_from_is_err_and}
use Rattle.std.specs.Result.{IsErrAnd}
use Rattle.mds_wire.specs.declared.body.BodyFault.{BodyFault}
use Rattle.mds_wire.specs.declared.body.BodyFault.TheVariants.{Read, Closed, Unavailable}
use Rattle.mds_wire.proofs.CallSteps.{consumes_keeps}
use Rattle.mds_wire.proofs.Exits.{no_error, none_more, other_error, that_error}
use Rattle.mds_wire.proofs.body.feed_next.Goals as goal

-- the faults are apart
closed_not_read : Closed ≡ Read → ⊥
closed_not_read is = absurd (cc)

unavailable_not_read : Unavailable ≡ Read → ⊥
unavailable_not_read is = absurd (cc)

unread : {P Q : Type 0} (result : Result ℕ BodyFault) → IsErrAnd result (λ fault. fault ≡ Unavailable) → Q
    → (result ≡ Err Read → P) × (result ≢ Err Read → Q)
unread result h q = let p = err_from_is_err_and result h in rw (p.1, p.2) (other_error unavailable_not_read q)

pub returns-in_err-feed-in-Ok-clause-feeds : goal.returns-in_err-feed-in-Ok-clause-feeds
returns-in_err-feed-in-Ok-clause-feeds g c =
    let p = err_from_is_err_and c.from_residual.result c.from_residual.ensures.1 in
    rw (p.1, p.2) (record {
      bytes = take c.in-Ok.count c.read.new.buffer;
      few = omega (arith, c.in-Ok.ensures.bound.0, c.in-Ok.ensures.bound.1, c.read.auto.buffer);
      gave = c.in-Ok.ensures.gives;
      consumed = c.in-Ok.ensures.bytes.0;
      is = (omega (arith, c.in-Ok.ensures.bound.1, c.in-Ok.count-test), c.in_err-feed-in-Ok.ensures.only);
    })

pub returns-in_err-feed-in-Ok-clause-counted : goal.returns-in_err-feed-in-Ok-clause-counted
returns-in_err-feed-in-Ok-clause-counted g c = unread _ c.from_residual.ensures.1 (none_more c.in-Ok.ensures.counted)

pub returns-in-Ok-eq0-clause-feeds : goal.returns-in-Ok-eq0-clause-feeds
returns-in-Ok-eq0-clause-feeds g c = record {
  bytes = take c.in-Ok-eq0.field-0 c.read.new.buffer;
  few = omega (arith, c.in-Ok-eq0.ensures.bound.1, c.in-Ok-eq0.field-0-test);
  gave = c.in-Ok-eq0.ensures.gives;
  consumed = c.in-Ok-eq0.ensures.bytes.0;
  is = (
    ap (λ n. take n c.read.new.buffer) c.in-Ok-eq0.field-0-test,
    c.in-Ok-eq0.ensures.bytes.1 c.in-Ok-eq0.field-0-test (omega (arith, c.read.auto.buffer, c.requires.room)),
  );
}

pub returns-in-Ok-eq0-clause-counted : goal.returns-in-Ok-eq0-clause-counted
returns-in-Ok-eq0-clause-counted g c = other_error closed_not_read (none_more c.in-Ok-eq0.ensures.counted)

pub returns-in_ok-feed-in-Ok-clause-feeds : goal.returns-in_ok-feed-in-Ok-clause-feeds
returns-in_ok-feed-in-Ok-clause-feeds g c = record {
  bytes = take c.in-Ok.count c.read.new.buffer;
  few = omega (arith, c.in-Ok.ensures.bound.0, c.in-Ok.ensures.bound.1, c.read.auto.buffer);
  gave = c.in-Ok.ensures.gives;
  consumed = c.in-Ok.ensures.bytes.0;
  is = (sym c.in-Ok.ensures.bound.1, omega (arith, c.in-Ok.count-test), c.in_ok-feed-in-Ok.ensures.fed);
}

pub returns-in_ok-feed-in-Ok-clause-counted : goal.returns-in_ok-feed-in-Ok-clause-counted
returns-in_ok-feed-in-Ok-clause-counted g c = no_error (none_more c.in-Ok.ensures.counted)

pub returns-in-Err-clause-feeds : goal.returns-in-Err-clause-feeds
returns-in-Err-clause-feeds g c = record {
  bytes = [];
  few = omega arith;
  gave = c.in-Err.ensures.gives;
  consumed = consumes_keeps _ _ c.in-Err.ensures.bytes;
  is = refl;
}

pub returns-in-Err-clause-counted : goal.returns-in-Err-clause-counted
returns-in-Err-clause-counted g c = that_error c.in-Err.ensures.counted
