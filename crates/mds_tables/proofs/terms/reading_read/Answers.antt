use Rattle.std.proofs.Common.{◌≡◌, IsTrue, SomeIff, subst, sym, ◌∙◌}
use Rattle.mds_marks.specs.Reading.{ReadingValue, is_lawful}
use Rattle.mds_marks.specs.Reason.{is_reason}
use Rattle.mds_tables.proofs.WrittenLemmas.{lawful_reason, lawful_value, made_only, shown_back}
use Rattle.mds_tables.proofs.terms.reading_read.Goals as goal

pub returns-in_default-read-clause-none : goal.returns-in_default-read-clause-none
returns-in_default-read-clause-none c = λ key reading it.
    let read = c.in-Some.it in
    let found : ReadingValue = record {
      mark = record { quality = read.quality; reason = record { code = read.code; text = read.note.now } };
      value = read.value;
    } in
    let same : reading ≡ found = sym (shown_back c.args.row.now key reading it) ∙ c.in-Some.ensures.some in
    let known : IsTrue (is_lawful found) = subst (λ r. IsTrue (is_lawful r)) same it.lawful in
    subst (λ reason. SomeIff reason (IsTrue (is_reason read.code read.note.now)) (record { code = read.code; text = read.note.now }))
    c.in_default-read.is c.in_ok-read.ensures.value
    (lawful_reason found known)

pub returns-clause-none : goal.returns-clause-none
returns-clause-none c =
    let read = c.in-Some.it in
    let found : ReadingValue = record {
      mark = record { quality = read.quality; reason = record { code = read.code; text = read.note.now } };
      value = read.value;
    } in
    made_only c.new-2.result _ _ c.new-2.ensures (λ no key reading it.
    let same : reading ≡ found = sym (shown_back c.args.row.now key reading it) ∙ c.in-Some.ensures.some in
    no (lawful_value found (subst (λ r. IsTrue (is_lawful r)) same it.lawful)))
