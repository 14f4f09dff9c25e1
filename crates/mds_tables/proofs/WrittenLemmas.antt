-- A row that the store writes says what it was written from.
use Rattle.std.proofs.Common.{◌≡◌, ◌&&◌, ◌<◌, ◌≤◌, ◌^◌, ℕ, ℤ, pos, Option, Some, None, IsTrue, ap, arith, sym, unsigned_abs, unwrap_or, ◌∙◌}
use Rattle.std.proofs.lemmas.Bool.Decides.{nat_tests}
use Rattle.std.specs.Prelude.{IfNone, IfSome, SomeIff}
use Rattle.std.specs.Str.{chars, is_utf8}
use Rattle.sqlite.specs.declared.types.Value.TheVariants.{Int, Null}
use Rattle.sqlite_rules.specs.Edit.{id_in}
use Rattle.sqlite_value.specs.Order.{Row, column}
use Rattle.mds_quantity.specs.Quantity.{limit}
use Rattle.mds_marks.proofs.Qualities.{quality_reads_back}
use Rattle.mds_marks.specs.Mark.{is_mark}
use Rattle.mds_marks.specs.Quality.{is_quality}
use Rattle.mds_marks.specs.Reading.{ReadingValue, is_lawful, is_reading, is_value}
use Rattle.mds_marks.specs.Reason.{are_reason_chars, is_code, is_reason, is_reason_text}
use Rattle.mds_world.specs.Facts.Fact.{VersionIs}
use Rattle.mds_world.proofs.Sets.{split_and}
use Rattle.mds_world.specs.declared.facts.Key.{Key}
use Rattle.mds_tables.proofs.FactLemmas.{version_back}
use Rattle.mds_tables.specs.Cells.{version_cells}
use Rattle.mds_tables.specs.RowFacts.{lengthless}
use Rattle.mds_tables.specs.Shown.{shown_key, shown_reading}
use Rattle.mds_tables.specs.Written.{IsRowOfVersion}

pub shown_back : (row : Row) (key : Key) (reading : ReadingValue) → IsRowOfVersion row key reading
    → shown_reading row ≡ reading
shown_back row key reading it =
    let cells = version_cells key reading in
    let same : VersionIs (shown_key 0 cells) (shown_reading cells) ≡ VersionIs (lengthless key) reading =
    version_back Null key reading quality_reads_back it.lawful in
    let back : shown_reading cells ≡ reading = cc in
    ap shown_reading it.cells ∙ back

-- what isn't made would have broken what it takes to make it
pub made_only : {A : Type 0} (r : Option A) (P : Type 0) (x : A) {Q : Type 0} → SomeIff r P x → (¬ P → Q) → IfNone r Q
made_only (Some y) P x is f = tt
made_only None P x none f = f none

-- what a lawful reading's parts are
pub lawful_quality : (r : ReadingValue) → IsTrue (is_lawful r)
    → IsTrue (is_quality r.mark.quality.flag r.mark.quality.method)
lawful_quality r known =
    let q = r.mark.quality in
    let whole = split_and (is_mark r.mark && is_value r.value) (is_reading q.flag r.value) known in
    let parts = split_and (is_mark r.mark) (is_value r.value) whole.0 in
    (split_and (is_quality q.flag q.method) (is_reason r.mark.reason.code r.mark.reason.text) parts.0).0

pub lawful_reason : (r : ReadingValue) → IsTrue (is_lawful r) → IsTrue (is_reason r.mark.reason.code r.mark.reason.text)
lawful_reason r known =
    let q = r.mark.quality in
    let whole = split_and (is_mark r.mark && is_value r.value) (is_reading q.flag r.value) known in
    let parts = split_and (is_mark r.mark) (is_value r.value) whole.0 in
    (split_and (is_quality q.flag q.method) (is_reason r.mark.reason.code r.mark.reason.text) parts.0).1

pub lawful_value : (r : ReadingValue) → IsTrue (is_lawful r) → IsTrue (is_reading r.mark.quality.flag r.value)
lawful_value r known =
    (split_and (is_mark r.mark && is_value r.value) (is_reading r.mark.quality.flag r.value) known).1

-- its note is UTF-8
pub lawful_utf8 : (r : ReadingValue) → IsTrue (is_lawful r) → IsTrue (is_utf8 r.mark.reason.text)
lawful_utf8 r known =
    let text = r.mark.reason.text in
    let parts = split_and (is_code r.mark.reason.code) (is_reason_text text) (lawful_reason r known) in
    (split_and (is_utf8 text) (are_reason_chars (chars text)) parts.1).0

-- a code has at most three digits
small_code : (code : Option ℕ) → IsTrue (is_code code) → IfSome code (λ n. n < 2 ^ 16)
small_code None known = tt
small_code (Some n) known = grind (arith, nat_tests)

-- so it is far below the greatest that two bytes hold
pub code_below : (r : ReadingValue) → IsTrue (is_lawful r) → IfSome r.mark.reason.code (λ n. n < 2 ^ 16)
code_below r known =
    let code = r.mark.reason.code in
    small_code code (split_and (is_code code) (is_reason_text r.mark.reason.text) (lawful_reason r known)).0

-- a value that a quantity has, or 0 where there is none
small_amount : (value : Option ℤ) → IsTrue (is_value value) → unsigned_abs (unwrap_or value (pos 0)) < limit
small_amount None known = omega arith
small_amount (Some z) known = grind (arith, nat_tests)

-- the amount of a row that the store writes is below the limit
pub amount_below : (row : Row) (key : Key) (r : ReadingValue) → IsRowOfVersion row key r → (amount : ℤ)
    → column row 8 ≡ Int amount → ¬ (limit ≤ unsigned_abs amount)
amount_below row key r it amount shown above =
    let same : unwrap_or r.value (pos 0) ≡ amount = ap id_in (sym (ap (λ r. column r 8) it.cells) ∙ shown) in
    let whole = split_and (is_mark r.mark && is_value r.value) (is_reading r.mark.quality.flag r.value) it.lawful in
    let small = small_amount r.value (split_and (is_mark r.mark) (is_value r.value) whole.0).1 in
    let below : unsigned_abs amount < limit = rw same at small in
    omega (arith, below, above)
