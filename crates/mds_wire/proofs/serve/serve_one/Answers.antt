use Rattle.std.proofs.Common.{◌≡◌, ◌≢◌, ◌<◌, Option, List, [], ℕ, Result, Err, take, length, ap, sym, subst, refl, arith}
use Rattle.std.proofs.lemmas.Result.{err_from_is_err_and}
use Rattle.std.specs.Io.KnownBytes.{Appends}
use Rattle.std.specs.Result.{IsErrAnd}
use Rattle.mds_wire.specs.declared.answer.Status.{Status}
use Rattle.mds_wire.specs.declared.serve.WireFault.{WireFault}
use Rattle.mds_wire.specs.Meaning.{StepOf, TakesOf}
use Rattle.mds_wire.specs.Serving.{Serves, text_of}
use Rattle.mds_wire.specs.ServeSteps.{answer_of}
use Rattle.mds_wire.specs.declared.serve.WireFault.TheVariants.{Read, Closed, Write, Memory}
use Rattle.mds_wire.specs.declared.serve.Unread.TheVariants as declared
use Rattle.mds_wire.proofs.CallSteps.{read_none}
use Rattle.mds_wire.proofs.Exits.{errors_apart, keeps_same, no_error, none_more, ok_apart, other_error, that_error}
use Rattle.mds_wire.proofs.serve.serve_one.Goals as goal

-- the faults are apart
memory_not_read : Memory ≡ Read → ⊥
memory_not_read is = absurd (cc)

memory_not_write : Memory ≡ Write → ⊥
memory_not_write is = absurd (cc)

read_not_write : Read ≡ Write → ⊥
read_not_write is = absurd (cc)

write_not_read : Write ≡ Read → ⊥
write_not_read is = absurd (cc)

closed_not_read : Closed ≡ Read → ⊥
closed_not_read is = absurd (cc)

closed_not_write : Closed ≡ Write → ⊥
closed_not_write is = absurd (cc)

unread_apart : declared.Closed ≡ declared.Read → ⊥
unread_apart is = absurd (cc)

-- without memory nothing happens
unserved : {S R : Type 0} (Step : StepOf S) (Same : S → S → Type 0) (Takes : TakesOf) (gives : R → List ℕ → R → Type 0) (reader : R) (left held : Option (List ℕ)) (it : S)
    (result : Result Status WireFault) → IsErrAnd result (λ fault. fault ≡ Memory)
    → Serves Step Same Takes gives reader reader left left held held it it result
unserved Step Same Takes gives reader left held it result h =
    let p = err_from_is_err_and result h in
    rw (p.1, p.2) (record { bytes = []; few = omega arith; read = read_none _ _ _ _; is = (refl, keeps_same held, refl) })

unread : {P Q : Type 0} (result : Result Status WireFault) → IsErrAnd result (λ fault. fault ≡ Memory) → Q
    → (result ≡ Err Read → P) × (result ≢ Err Read → Q)
unread result h q = let p = err_from_is_err_and result h in rw (p.1, p.2) (other_error memory_not_read q)

unwritten : {P Q : Type 0} (result : Result Status WireFault) → IsErrAnd result (λ fault. fault ≡ Memory) → Q
    → (result ≡ Err Write → P) × (result ≢ Err Write → Q)
unwritten result h q = let p = err_from_is_err_and result h in rw (p.1, p.2) (other_error memory_not_write q)

pub returns-in-Ok-write_answer-clause-serves : goal.returns-in-Ok-write_answer-clause-serves
returns-in-Ok-write_answer-clause-serves g c =
    let u = c.in-Ok.ensures.understands in
    let told = ap (λ xs. text_of (answer_of c.in-Ok.reply xs)) c.deref.ensures.value in
    record {
      bytes = u.bytes;
      few = u.few;
      read = u.read;
      is = (
        answer_of c.in-Ok.reply c.understand.new.answer.items,
        sym c.status.ensures,
        u.is,
        subst (λ (t : List ℕ). Appends (g.W.Sink.contents c.args.writer.now) (g.W.Sink.contents c.write_answer.new.writer) t) told c.in-Ok-write_answer.ensures.done,
      );
    }

pub returns-clause-serves : goal.returns-clause-serves
returns-clause-serves g c =
    let u = c.in-Ok.ensures.understands in
    let told = ap (λ xs. text_of (answer_of c.in-Ok.reply xs)) c.deref.ensures.value in
    let part = subst (λ (t : List ℕ). (n : ℕ) × (n < length t) × Appends (g.W.Sink.contents c.args.writer.now) (g.W.Sink.contents c.write_answer.new.writer) (take n t)) told c.in-Err.ensures.part in
    record {
      bytes = u.bytes;
      few = u.few;
      read = u.read;
      is = (answer_of c.in-Ok.reply c.understand.new.answer.items, u.is, part.0, part.1, part.2);
    }

pub returns-in-Err-Read-clause-serves : goal.returns-in-Err-Read-clause-serves
returns-in-Err-Read-clause-serves g c =
    let u = rw c.in-Err-Read.field-0-is at c.in-Err-Read.ensures.understands in
    record { bytes = u.bytes; few = u.few; read = u.read; is = (u.is, keeps_same _) }

pub returns-in-Err-Closed-clause-serves : goal.returns-in-Err-Closed-clause-serves
returns-in-Err-Closed-clause-serves g c =
    let u = rw c.in-Err-Closed.field-0-is at c.in-Err-Closed.ensures.understands in
    record { bytes = u.bytes; few = u.few; read = u.read; is = (u.is.0, keeps_same _, u.is.1, u.is.2) }

pub returns-in_err-buffer-clause-serves : goal.returns-in_err-buffer-clause-serves
returns-in_err-buffer-clause-serves g c = unserved _ _ _ _ _ _ _ _ _ c.from_residual.ensures.1

pub returns-in_err-buffer-clause-reader : goal.returns-in_err-buffer-clause-reader
returns-in_err-buffer-clause-reader g c = unread _ c.from_residual.ensures.1 refl

pub returns-in_err-buffer-clause-writer : goal.returns-in_err-buffer-clause-writer
returns-in_err-buffer-clause-writer g c = unwritten _ c.from_residual.ensures.1 refl

pub returns-in_err-text-clause-serves : goal.returns-in_err-text-clause-serves
returns-in_err-text-clause-serves g c = unserved _ _ _ _ _ _ _ _ _ c.from_residual-in_err-text.ensures.1

pub returns-in_err-text-clause-reader : goal.returns-in_err-text-clause-reader
returns-in_err-text-clause-reader g c = unread _ c.from_residual-in_err-text.ensures.1 refl

pub returns-in_err-text-clause-writer : goal.returns-in_err-text-clause-writer
returns-in_err-text-clause-writer g c = unwritten _ c.from_residual-in_err-text.ensures.1 refl

pub returns-in_err-answer-clause-serves : goal.returns-in_err-answer-clause-serves
returns-in_err-answer-clause-serves g c = unserved _ _ _ _ _ _ _ _ _ c.from_residual-in_err-answer.ensures.1

pub returns-in_err-answer-clause-reader : goal.returns-in_err-answer-clause-reader
returns-in_err-answer-clause-reader g c = unread _ c.from_residual-in_err-answer.ensures.1 refl

pub returns-in_err-answer-clause-writer : goal.returns-in_err-answer-clause-writer
returns-in_err-answer-clause-writer g c = unwritten _ c.from_residual-in_err-answer.ensures.1 refl

pub returns-in-Err-Read-clause-reader : goal.returns-in-Err-Read-clause-reader
returns-in-Err-Read-clause-reader g c = that_error ((rw c.in-Err-Read.field-0-is at c.in-Err-Read.ensures.counted).0 refl)

pub returns-in-Err-Read-clause-writer : goal.returns-in-Err-Read-clause-writer
returns-in-Err-Read-clause-writer g c = other_error read_not_write refl

pub returns-in-Err-Closed-clause-reader : goal.returns-in-Err-Closed-clause-reader
returns-in-Err-Closed-clause-reader g c =
    other_error closed_not_read ((rw c.in-Err-Closed.field-0-is at c.in-Err-Closed.ensures.counted).1 (errors_apart unread_apart))

pub returns-in-Err-Closed-clause-writer : goal.returns-in-Err-Closed-clause-writer
returns-in-Err-Closed-clause-writer g c = other_error closed_not_write refl

pub returns-in-Ok-write_answer-clause-reader : goal.returns-in-Ok-write_answer-clause-reader
returns-in-Ok-write_answer-clause-reader g c = no_error (c.in-Ok.ensures.counted.1 ok_apart)

pub returns-in-Ok-write_answer-clause-writer : goal.returns-in-Ok-write_answer-clause-writer
returns-in-Ok-write_answer-clause-writer g c = no_error (none_more c.in-Ok-write_answer.ensures.writer)

pub returns-clause-reader : goal.returns-clause-reader
returns-clause-reader g c = other_error write_not_read (c.in-Ok.ensures.counted.1 ok_apart)

pub returns-clause-writer : goal.returns-clause-writer
returns-clause-writer g c = that_error c.in-Err.ensures.writer
