-- What is left of a line while its fields are taken.
use Rattle.std.proofs.Common.{◌≡◌, ℕ, ◌+◌, ◌<◌, Bool, true, false, not, ◌&&◌, ◌||◌, ltb, List, [], ◌∷◌, length, take, drop, get_or, Option, Some, None, is_some, option_copied, add-zero, ◌-◌, length-drop, refl, sym, ◌∙◌, ap, arith, rules}
use Rattle.std.specs.List.{position_or_len, list_any}
use Rattle.std.proofs.lemmas.List.Sums.{fails_before_first}
use Rattle.std.proofs.lemmas.List.Splits.{slice_split_none, slice_split_first, length-slice_split}
use Rattle.mds_lines.specs.Lines.{is_comma, fields_of}
use Rattle.std.proofs.lemmas.Bool.{lt-ltb}
use Rattle.std.proofs.lemmas.Bool.Decides.{nat_tests}
use Rattle.std.proofs.lemmas.List.{get_or-drop, drop-drop}
use denote.Ref.{Bor}
use Rattle.mds_lines.specs.Rest.{fields_left, first_of, are_blank}
use Rattle.mds_records.specs.declared.accumulation_data.MeterFields.{MeterFields}
use Rattle.mds_records.specs.declared.register_read.ReadFields.{ReadFields}
use Rattle.mds_records.specs.RecordSteps.{HasMeterFields, HasReadFields}

-- where there is no comma, the text is its one field
pub one_field : (text : List ℕ) (n : ℕ) → n ≡ position_or_len is_comma text → n ≡ length text → fields_of text ≡ text ∷ []
one_field text n e l = slice_split_none is_comma text (λ k d lt. fails_before_first is_comma text k d (omega arith))

-- at a comma, the first field stands before it and the others after it
pub more_fields : (text : List ℕ) (n : ℕ) → n ≡ position_or_len is_comma text → n < length text → fields_of text ≡ take n text ∷ fields_of (drop (n + 1) text)
more_fields text n e lt = let h : position_or_len is_comma text < length text = omega arith in rw e (slice_split_first is_comma text 0 h)

one_more : (xs : List (List ℕ)) (k : ℕ) → drop 1 (drop k xs) ≡ drop (k + 1) xs
one_more xs k = drop-drop 1 k xs

not_both : (a b : Bool) → (not a && not b) ≡ not (a || b)
not_both true b = refl
not_both false b = refl

-- Something is left exactly if a field is.
pub some_left : (r : Option (Bor (List ℕ))) → is_some r ≡ ltb 0 (length (fields_left (option_copied r)))
some_left None = refl
some_left (Some text) = sym (lt-ltb 0 (length (fields_of text.now)) (omega (arith, length-slice_split is_comma text.now)))

-- where k fields were taken, the next is the field at k, and one fewer is left after it
pub taken_at : (fields left : List (List ℕ)) (k : ℕ) → left ≡ drop k fields → first_of left ≡ get_or fields k []
taken_at fields left k e = ap first_of e ∙ get_or-drop k fields 0 [] ∙ ap (λ i. get_or fields i []) (add-zero k)

pub left_at : (fields left rest : List (List ℕ)) (k : ℕ) → left ≡ drop k fields → rest ≡ drop 1 left → rest ≡ drop (k + 1) fields
left_at fields left rest k e h = h ∙ ap (drop 1) e ∙ one_more fields k

pub left_after : (fields left rest : List (List ℕ)) (k n : ℕ) → left ≡ drop k fields → rest ≡ drop n left → rest ≡ drop (k + n) fields
left_after fields left rest k n e h = h ∙ ap (drop n) e ∙ drop-drop n k fields

-- fields of what is left are fields of the line
pub field_at : (fields left : List (List ℕ)) (k i : ℕ) → left ≡ drop k fields → get_or left i [] ≡ get_or fields (k + i) []
field_at fields left k i e = ap (λ xs. get_or xs i []) e ∙ get_or-drop k fields i []

pub read_at : (fields left : List (List ℕ)) (k : ℕ) (f : ReadFields) → left ≡ drop k fields → HasReadFields left 0 f → HasReadFields fields k f
read_at fields left k f e h = record {
  reading = h.reading ∙ taken_at fields left k e;
  moment = h.moment ∙ field_at fields left k 1 e;
  quality = h.quality ∙ field_at fields left k 2 e;
  reason_code = h.reason_code ∙ field_at fields left k 3 e;
  reason_text = h.reason_text ∙ field_at fields left k 4 e;
}

pub meter_at : (fields left : List (List ℕ)) (k : ℕ) (f : MeterFields) → left ≡ drop k fields → HasMeterFields left 0 f → HasMeterFields fields k f
meter_at fields left k f e h = record {
  nmi = h.nmi ∙ taken_at fields left k e;
  configuration = h.configuration ∙ field_at fields left k 1 e;
  register = h.register ∙ field_at fields left k 2 e;
  suffix = h.suffix ∙ field_at fields left k 3 e;
  datastream = h.datastream ∙ field_at fields left k 4 e;
  meter = h.meter ∙ field_at fields left k 5 e;
  direction = h.direction ∙ field_at fields left k 6 e;
}

above : (n k : ℕ) → ltb 0 (n - k) ≡ not (ltb n (k + 1))
above n k = search (rules, nat_tests)

-- after one fewer than the least number of fields something is left exactly if there are so many
pub enough : (r : Option (Bor (List ℕ))) (fields : List (List ℕ)) (k : ℕ) → fields_left (option_copied r) ≡ drop k fields → is_some r ≡ not (ltb (length fields) (k + 1))
enough r fields k e = some_left r ∙ ap (λ xs. ltb 0 (length xs)) e ∙ ap (ltb 0) (length-drop k fields) ∙ above (length fields) k

-- there are the least fields and none past the last exactly if the count isn't wrong
pub right_count : (has : Bool) (left fields : List (List ℕ)) (least last : ℕ) → has ≡ not (ltb (length fields) least) → left ≡ drop last fields
    → (has && are_blank left) ≡ not (ltb (length fields) least || list_any (λ text. ltb 0 (length text)) (drop last fields))
right_count has left fields least last h e = rw (h, e) (not_both (ltb (length fields) least) (list_any (λ text. ltb 0 (length text)) (drop last fields)))
