use Rattle.std.proofs.Common.{◌≡◌, ◌<◌, ◌∙◌, ℕ, ℤ, List, Option, Some, length, get_or, slice_get, refl, ap, sym, true≢false}
use Rattle.std.proofs.lemmas.Option.{slice_get_read}
use Rattle.mds_marks.specs.Reading.{ReadingValue}
use Rattle.mds_marks.specs.declared.mark.Mark.{Mark}
use Rattle.mds_runs.proofs.KeptLemmas.{get-at}
use Rattle.mds_runs.proofs.day_readings.DayReadings.is_at.Goals as goal

reading : Mark → Option ℤ → ReadingValue
reading mark value = record { mark = mark; value = value }

-- a reading with the mark and the value that are there is there
is_there : (v : List ReadingValue) (at : ℕ) (r : ReadingValue) → at < length v → (get_or v at r).mark ≡ r.mark → (get_or v at r).value ≡ r.value → slice_get v at ≡ Some r
unfolding reading
is_there v at r lt same has =
    let is : get_or v at r ≡ r = ap (λ m. reading m (get_or v at r).value) same ∙ ap (λ x. reading r.mark x) has in
    slice_get_read v (length v) at r refl lt (sym is)

pub returns-then-is_same : goal.returns-then-is_same
returns-then-is_same c =
    let v : List ReadingValue = c.args.self.now in
    let r : ReadingValue = c.args.reading.now in (
      λ same. is_there v c.args.at r c.requires (sym (c.mark.ensures r) ∙ c.is_same.ensures.0 c.if-is_same.true ∙ c.mark-2.ensures.value) (sym (c.value.ensures r) ∙ c.are_same.ensures.0 same ∙ c.value-then-is_same.ensures.value),
      λ there. c.are_same.ensures.1 (c.value.ensures r ∙ ap (λ (x : ReadingValue). x.value) (sym (get-at v c.args.at r r there)) ∙ sym c.value-then-is_same.ensures.value),
    )

pub returns-else-is_same : goal.returns-else-is_same
returns-else-is_same c =
    let v : List ReadingValue = c.args.self.now in
    let r : ReadingValue = c.args.reading.now in (
      λ same. absurd (true≢false (sym same ∙ c.if-is_same.false)),
      λ there. c.is_same.ensures.1 (c.mark.ensures r ∙ ap (λ (x : ReadingValue). x.mark) (sym (get-at v c.args.at r r there)) ∙ sym c.mark-2.ensures.value),
    )
