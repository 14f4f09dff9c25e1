-- The fact that a row of these columns says is the one that it was made from.
use Rattle.std.proofs.Common.{◌≡◌, ℕ, ℤ, pos, Bool, true, false, cond, not, ◌&&◌, ◌==◌, ◌∷◌, Option, Some, None, IsTrue, is_none, is_some, unwrap_or, refl, ap, ◌∙◌}
use Rattle.sqlite.specs.declared.types.Value.{Value}
use Rattle.sqlite_rules.specs.Edit.{id_in}
use Rattle.mds_quantity.specs.Unit.{unit_of, unit_text}
use Rattle.mds_quantity.specs.declared.unit.Unit.TheVariants.{MWh}
use Rattle.mds_marks.specs.Quality.{QualityValue, is_quality, null, quality_of, quality_text, variable}
use Rattle.mds_marks.specs.Mark.{is_mark}
use Rattle.mds_marks.specs.Reason.{is_reason}
use Rattle.mds_marks.specs.Reading.{ReadingValue, is_lawful, is_reading, is_value}
use Rattle.mds_terms.specs.Event.{EventValue}
use Rattle.mds_world.specs.declared.facts.Detail.{Detail}
use Rattle.mds_world.specs.declared.facts.Head.{Head}
use Rattle.mds_world.specs.declared.facts.Key.{Key}
use Rattle.mds_world.specs.Facts.{head_at}
use Rattle.mds_world.specs.Facts.Fact.{DetailIs, EventIs, HeadIs, VersionIs}
use Rattle.mds_world.proofs.Sets.{split_and}
pub use Rattle.mds_tables.specs.HeadTabling.{unit_back}
use Rattle.mds_tables.specs.Cells.{detail_cells, event_cells, head_cells, letter_text, optional_cell, unit_cells, version_cells}
use Rattle.mds_tables.specs.RowFacts.{detail_fact, event_fact, head_fact, lengthless, letter_in, optional, quality_named, unit_named, version_fact}

pub optional_back : (o : Option ℕ) → optional (id_in (optional_cell o)) ≡ o
optional_back None = refl
optional_back (Some n) = refl

pub letter_back : (o : Option ℕ) → letter_in (letter_text o) ≡ o
letter_back None = refl
letter_back (Some letter) = refl

-- a row of schemas 1 to 3 says all of a head but its update
pub head_back : (id : Value) (h : Head) → unit_of (unit_text h.unit) ≡ Some h.unit
    → head_fact (id ∷ head_cells h) ≡ HeadIs (head_at h.stream h.day 0 h.length h.unit)
head_back id h reads =
    let unit : unit_named (unit_text h.unit) ≡ h.unit = ap (λ o. unwrap_or o MWh) reads in
    λ i. HeadIs (head_at h.stream h.day 0 h.length (unit i))

pub detail_back : (id : Value) (d : Detail) → detail_fact (id ∷ detail_cells d) ≡ DetailIs d
detail_back id d =
    let next = optional_back d.details.next in
    λ i. DetailIs (record d { details = record d.details { next = next i } })

pub event_back : (id : Value) (e : EventValue) → event_fact (id ∷ event_cells e) ≡ EventIs e
event_back id e =
    let trans = letter_back e.trans in
    let moment = optional_back e.moment in
    λ i. EventIs (record e { trans = trans i; moment = moment i })

-- the quality of a lawful reading is lawful
lawful_quality : (r : ReadingValue) → IsTrue (is_lawful r)
    → IsTrue (is_quality r.mark.quality.flag r.mark.quality.method)
lawful_quality r known =
    let q = r.mark.quality in
    let whole = split_and (is_mark r.mark && is_value r.value) (is_reading q.flag r.value) known in
    let mark = split_and (is_mark r.mark) (is_value r.value) whole.0 in
    (split_and (is_quality q.flag q.method) (is_reason r.mark.reason.code r.mark.reason.text) mark.0).0

-- a value is absent exactly where the flag is N
value_back : (b : Bool) (value : Option ℤ) → cond b (is_none value) (is_some value) ≡ true
    → cond b None (Some (unwrap_or value (pos 0))) ≡ value
value_back true None h = refl
value_back true (Some z) h = cc
value_back false None h = cc
value_back false (Some z) h = refl

lawful_value : (r : ReadingValue) → IsTrue (is_lawful r)
    → cond (r.mark.quality.flag == null) (is_none r.value) (is_some r.value) ≡ true
lawful_value r known =
    let flag = r.mark.quality.flag in
    let parts = split_and (is_mark r.mark && is_value r.value) (is_reading flag r.value) known in
    (split_and (not (flag == variable)) (cond (flag == null) (is_none r.value) (is_some r.value)) parts.1).1

pub version_back : (id : Value) (k : Key) (r : ReadingValue)
    → ((q : QualityValue) → IsTrue (is_quality q.flag q.method) → quality_of (quality_text q) ≡ Some q)
    → IsTrue (is_lawful r) → version_fact (id ∷ version_cells k r) ≡ VersionIs (lengthless k) r
version_back id k r reads known =
    let quality : quality_named (quality_text r.mark.quality) ≡ r.mark.quality =
    ap (λ o. unwrap_or o (record { flag = null; method = 0 })) (reads r.mark.quality (lawful_quality r known)) in
    let code = optional_back r.mark.reason.code in
    let value = value_back (r.mark.quality.flag == null) r.value (lawful_value r known) in
    ap (λ (q : QualityValue). VersionIs (lengthless k) (record {
      mark = record {
        quality = q;
        reason = record { code = optional (id_in (optional_cell r.mark.reason.code)); text = r.mark.reason.text };
      };
      value = cond (q.flag == null) None (Some (unwrap_or r.value (pos 0)));
    })) quality
    ∙ (λ i. VersionIs (lengthless k) (record {
      mark = record { quality = r.mark.quality; reason = record { code = code i; text = r.mark.reason.text } };
      value = value i;
    }))
