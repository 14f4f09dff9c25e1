use Rattle.std.proofs.Common.{◌≡◌, ◌<◌, Option, None, Some, IfSome, Result, if◌then◌else◌, false, ℕ, ◌+◌, ◌≤◌, List, [], ◌∷◌, ◌++◌, length, take, Ok, Err, refl, sym, ap, ◌∙◌, subst, arith}
use Rattle.std.proofs.lemmas.List.{append-nil, length-take-le}
use Rattle.std.specs.Io.KnownBytes.{Consumes, IsAtEnd}
use Rattle.mds_lines.proofs.StreamSteps.{consumes_both}
use Rattle.mds_records.specs.declared.file.FileFault.{FileFault}
use Rattle.mds_walk.specs.Answers.{IsRefusal, is_read_fault}
use Rattle.mds_walk.specs.FileSteps.{read_fault_of}
use Rattle.mds_walk.specs.declared.fault.TakeFault.{TakeFault}
use Rattle.mds_walk.specs.declared.fault.TakeFault.TheVariants.{File, Memory}
use Rattle.mds_walk.specs.Faults.{fault_of, lines_of}
use Rattle.mds_walk.specs.Given.{IsOfGiven, MayLackGiven}
use Rattle.mds_walk.specs.declared.fault.ReadFault.{ReadFault}
use Rattle.mds_walk.specs.declared.fault.ReadFault.TheVariants as read
use Rattle.mds_walk.proofs.Sources.{IsEndOf, brought, brought_all, end_refused, of_front, of_whole, piece_short, reading_more, reading_none, reading_stops}
use Rattle.mds_walk.proofs.Steps.{nothing_none}
use Rattle.mds_walk.proofs.files.read_file.Goals as goal

-- at the end all was fed
at_end : (first mid last : Option (List ℕ)) (fed piece : List ℕ) (P : List ℕ → Type 0) → Consumes first mid fed → Consumes mid last piece
    → piece ≡ [] → IsAtEnd last → P fed → IfSome first P
at_end first mid last fed piece P h k none ended p = at first last (consumes_both first mid last fed piece h k) ended
  where
    at : (first last : Option (List ℕ)) → Consumes first last (fed ++ piece) → IsAtEnd last → IfSome first P
    at None last h ended = tt
    at (Some xs) None h ended = absurd h
    at (Some xs) (Some ys) h ended =
        let all : xs ≡ fed = h ∙ ap (λ t. (fed ++ piece) ++ t) ended ∙ append-nil (fed ++ piece) ∙ ap (λ t. fed ++ t) none ∙ append-nil fed in
        subst P (sym all) p

-- a refusal of a file is the file's fault
refused : (found : Option FileFault) (answer : TakeFault) (reason : ReadFault) (fault : FileFault) → reason ≡ read_fault_of answer
    → IsRefusal found answer → reason ≡ read.File fault → found ≡ Some fault
refused found (File it) reason fault is h e = let same : it ≡ fault = cc in h ∙ ap Some same
refused found Memory reason fault is h e = absurd (cc)

-- and no failure of the source
not_read : (U : Type 0) (answer : TakeFault) (reason : ReadFault) (new old : ℕ) → reason ≡ read_fault_of answer → new ≡ old + 0
    → new ≡ old + (if is_read_fault {T = U} (Err reason) then 1 else 0)
not_read U answer reason new old is same =
    let never : is_read_fault {T = U} (Err reason) ≡ false = ap (λ r. is_read_fault {T = U} (Err r)) is ∙ by answer in
    rw never same
  where
    by : (answer : TakeFault) → is_read_fault {T = U} (Err (read_fault_of answer)) ≡ false
    by (File it) = refl
    by Memory = refl

no_fault : {U : Type 0} {P : Type 0} {out : U} {reason : ReadFault} → ◌≡◌ {A = Result U ReadFault} (Ok out) (Err reason) → P
no_fault is = absurd (cc)

same_error : {U : Type 0} {a b : ReadFault} → ◌≡◌ {A = Result U ReadFault} (Err a) (Err b) → a ≡ b
same_error is = cc

read_apart : {P : Type 0} {fault : FileFault} → read.Read ≡ read.File fault → P
read_apart is = absurd (cc)

pub loop-feeder-init : goal.loop-feeder-init
loop-feeder-init g c = record {
  reading = reading_none _ (nothing_none g.T.RecordSink.judge) c.new-feeder.ensures.fed c.new-feeder.ensures.fresh;
  failures = refl;
  size = refl;
}

pub returns-in-Err-feed-clause-fault : goal.returns-in-Err-feed-clause-fault
returns-in-Err-feed-clause-fault g c = λ fault e.
    let same : c.read_fault-in-Err-feed.result ≡ read.File fault = same_error e in
    reading_stops _ _ _ fault c.loop-feeder.invariant.reading c.in-Ok.ensures.bytes.0
    c.in-Err-feed.ensures.answer (sym c.read_fault-in-Err-feed.ensures ∙ same)

pub loop-feeder-preserved : goal.loop-feeder-preserved
loop-feeder-preserved g c =
    let i = c.loop-feeder.invariant in
    let within : c.in-Ok.size ≤ length c.read.new.buffer = omega (arith, c.in-Ok.ensures.bound) in
    record {
      reading = reading_more i.reading (sym (length-take-le c.in-Ok.size c.read.new.buffer within)) (omega (arith, c.in-Ok.size-test))
          c.in-Ok.ensures.bytes.0 c.in-Ok.ensures.gives c.feed.ensures.fed c.in_default.ensures.answer c.in_default.ensures.stays;
      failures = omega (arith, c.in-Ok.ensures.counted, i.failures);
      size = c.read.auto.buffer ∙ i.size;
    }

pub loop-feeder-smaller : goal.loop-feeder-smaller
loop-feeder-smaller g c =
    let next = loop-feeder-preserved g c in
    let few : c.loop-feeder.count + c.in-Ok.size ≤ 16_385_016_384 = next.reading.few in
    omega (arith, few, c.in-Ok.size-test)

pub returns-in-Ok-finish-clause-given : goal.returns-in-Ok-finish-clause-given
returns-in-Ok-finish-clause-given g c =
    let i = c.loop-feeder.invariant in
    let judge = g.T.RecordSink.judge in
    let may_lack = g.T.RecordSink.may_lack in
    let Makes : g.row.T-Output.Denot → List ℕ → Type 0 = λ out text. g.T.RecordSink.made out (lines_of text) in
    let none : c.in-Ok-eq0.field-0 ≡ 0 = omega (arith, c.in-Ok-eq0.field-0-test) in
    let gave : g.R.Source.gives c.loop-feeder.source [] c.read.new.self =
    subst (λ (n : ℕ). g.R.Source.gives c.loop-feeder.source (take n c.read.new.buffer) c.read.new.self) none c.in-Ok-eq0.ensures.gives in
    brought [] (λ given. IsOfGiven Makes (fault_of judge) (MayLackGiven may_lack judge) given (Ok c.in-Ok-finish.out)) i.reading gave (omega arith)
    (λ before all. of_whole Makes judge may_lack before i.reading.fed (Ok c.in-Ok-finish.out) (brought_all before [] i.reading.fed all ∙ append-nil i.reading.fed)
    (c.in-Ok-finish.ensures.ended i.reading.fed i.reading.was))

pub returns-in-Err-finish-clause-given : goal.returns-in-Err-finish-clause-given
returns-in-Err-finish-clause-given g c =
    let i = c.loop-feeder.invariant in
    let judge = g.T.RecordSink.judge in
    let may_lack = g.T.RecordSink.may_lack in
    let Makes : g.row.T-Output.Denot → List ℕ → Type 0 = λ out text. g.T.RecordSink.made out (lines_of text) in
    let none : c.in-Ok-eq0.field-0 ≡ 0 = omega (arith, c.in-Ok-eq0.field-0-test) in
    let gave : g.R.Source.gives c.loop-feeder.source [] c.read.new.self =
    subst (λ (n : ℕ). g.R.Source.gives c.loop-feeder.source (take n c.read.new.buffer) c.read.new.self) none c.in-Ok-eq0.ensures.gives in
    let ends : IsEndOf Makes judge may_lack i.reading.fed (Err c.read_fault.result) =
    subst (λ (reason : ReadFault). IsEndOf Makes judge may_lack i.reading.fed (Err reason)) (sym c.read_fault.ensures)
    (end_refused Makes judge may_lack i.reading.fed c.in-Err-finish.fault (c.in-Err-finish.ensures.ended i.reading.fed i.reading.was)
    (λ is. c.in-Err-finish.ensures.memory i.reading.fed i.reading.was i.reading.unrefused (ap Err is))) in
    brought [] (λ given. IsOfGiven Makes (fault_of judge) (MayLackGiven may_lack judge) given (Err c.read_fault.result)) i.reading gave (omega arith)
    (λ before all. of_whole Makes judge may_lack before i.reading.fed (Err c.read_fault.result) (brought_all before [] i.reading.fed all ∙ append-nil i.reading.fed) ends)

pub returns-in-Err-feed-clause-given : goal.returns-in-Err-feed-clause-given
returns-in-Err-feed-clause-given g c =
    let i = c.loop-feeder.invariant in
    let judge = g.T.RecordSink.judge in
    let may_lack = g.T.RecordSink.may_lack in
    let Makes : g.row.T-Output.Denot → List ℕ → Type 0 = λ out text. g.T.RecordSink.made out (lines_of text) in
    let piece = take c.in-Ok.size c.read.new.buffer in
    let short = piece_short c.in-Ok.size c.read.new.buffer (omega (arith, c.in-Ok.ensures.bound)) (c.read.auto.buffer ∙ i.size) in
    brought piece (λ given. IsOfGiven Makes (fault_of judge) (MayLackGiven may_lack judge) given (Err c.read_fault-in-Err-feed.result)) i.reading c.in-Ok.ensures.gives short
    (λ before all. subst (λ (reason : ReadFault). IsOfGiven Makes (fault_of judge) (MayLackGiven may_lack judge) (before ++ piece ∷ []) (Err reason)) (sym c.read_fault-in-Err-feed.ensures)
    (of_front Makes judge may_lack before i.reading.fed piece c.in-Err-feed.fault all (c.in-Err-feed.ensures.answer i.reading.fed i.reading.was)
    (λ is. c.in-Err-feed.ensures.memory i.reading.fed i.reading.was i.reading.unrefused (ap Err is))))

pub returns-in-Err-clause-given : goal.returns-in-Err-clause-given
returns-in-Err-clause-given g c = brought [] (λ given. Unit {0}) c.loop-feeder.invariant.reading c.in-Err.ensures.gives (omega arith) (λ before all. tt)

pub returns-in-Ok-finish-clause-done : goal.returns-in-Ok-finish-clause-done
returns-in-Ok-finish-clause-done g c =
    let i = c.loop-feeder.invariant in
    let none = c.in-Ok-eq0.field-0-test in
    let room : 0 < length c.read.new.buffer = omega (arith, c.read.auto.buffer, i.size) in
    at_end _ _ _ i.reading.fed (take c.in-Ok-eq0.field-0 c.read.new.buffer) _ i.reading.consumed c.in-Ok-eq0.ensures.bytes.0
    (ap (λ n. take n c.read.new.buffer) none) (c.in-Ok-eq0.ensures.bytes.1 none room) (c.in-Ok-finish.ensures.ended i.reading.fed i.reading.was)

pub returns-in-Ok-finish-clause-fault : goal.returns-in-Ok-finish-clause-fault
returns-in-Ok-finish-clause-fault g c = λ fault is. no_fault is

pub returns-in-Ok-finish-clause-counted : goal.returns-in-Ok-finish-clause-counted
returns-in-Ok-finish-clause-counted g c = c.in-Ok-eq0.ensures.counted ∙ ap (λ n. n + 0) c.loop-feeder.invariant.failures

pub returns-in-Err-finish-clause-fault : goal.returns-in-Err-finish-clause-fault
returns-in-Err-finish-clause-fault g c = λ fault is.
    let i = c.loop-feeder.invariant in
    let none = c.in-Ok-eq0.field-0-test in
    let room : 0 < length c.read.new.buffer = omega (arith, c.read.auto.buffer, i.size) in
    at_end _ _ _ i.reading.fed (take c.in-Ok-eq0.field-0 c.read.new.buffer) _ i.reading.consumed c.in-Ok-eq0.ensures.bytes.0
    (ap (λ n. take n c.read.new.buffer) none) (c.in-Ok-eq0.ensures.bytes.1 none room)
    (refused _ c.in-Err-finish.fault _ fault c.read_fault.ensures (c.in-Err-finish.ensures.ended i.reading.fed i.reading.was) (same_error is))

pub returns-in-Err-finish-clause-counted : goal.returns-in-Err-finish-clause-counted
returns-in-Err-finish-clause-counted g c =
    not_read g.row.T-Output.Denot _ _ _ _ c.read_fault.ensures (c.in-Ok-eq0.ensures.counted ∙ ap (λ n. n + 0) c.loop-feeder.invariant.failures)

pub returns-in-Err-feed-clause-counted : goal.returns-in-Err-feed-clause-counted
returns-in-Err-feed-clause-counted g c =
    not_read g.row.T-Output.Denot _ _ _ _ c.read_fault-in-Err-feed.ensures (c.in-Ok.ensures.counted ∙ ap (λ n. n + 0) c.loop-feeder.invariant.failures)

pub returns-in-Err-clause-fault : goal.returns-in-Err-clause-fault
returns-in-Err-clause-fault g c = λ fault is. read_apart (same_error is)

pub returns-in-Err-clause-counted : goal.returns-in-Err-clause-counted
returns-in-Err-clause-counted g c = c.in-Err.ensures.counted ∙ ap (λ n. n + 1) c.loop-feeder.invariant.failures
