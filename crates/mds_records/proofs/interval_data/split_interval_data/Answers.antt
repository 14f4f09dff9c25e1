use Rattle.std.proofs.Common.{◌≡◌, ℕ, ◌+◌, ◌-◌, List, length, take, drop, map, Option, option_copied, refl, sym, ◌∙◌, ap, arith, length-drop, add_comm, inr}
use Rattle.std.proofs.lemmas.List.{drop-drop}
use denote.Ref.{Bor}
use Rattle.mds_lines.specs.Lines.{fields_of}
use Rattle.mds_records.specs.Records.{quantity_in, sum_of}
use Rattle.mds_lines.specs.Rest.{fields_left, are_blank}
use Rattle.mds_records.specs.RecordSteps.{first_false, is_empty_or_quantity, is_there}
use Rattle.mds_records.proofs.Days.{field_by}
use Rattle.mds_records.proofs.Rests.{left_at}
use Rattle.mds_records.proofs.Tallies.{sum_fits}
use Rattle.mds_records.proofs.interval_data.split_interval_data.Goals as goal

-- fields were taken one after the other
record FiveLeft (fs l1 l2 l3 l4 l5 : List (List ℕ)) (m : ℕ) : Type 0 where
  one : l1 ≡ drop (m + 1) fs
  two : l2 ≡ drop (m + 1 + 1) fs
  three : l3 ≡ drop (m + 1 + 1 + 1) fs
  four : l4 ≡ drop (m + 1 + 1 + 1 + 1) fs
  five : l5 ≡ drop (m + 5) fs

five_left : (fs l0 l1 l2 l3 l4 l5 : List (List ℕ)) (m : ℕ) → l0 ≡ drop m fs → l1 ≡ drop 1 l0 → l2 ≡ drop 1 l1 → l3 ≡ drop 1 l2 → l4 ≡ drop 1 l3 → l5 ≡ drop 1 l4 → FiveLeft fs l1 l2 l3 l4 l5 m
five_left fs l0 l1 l2 l3 l4 l5 m e0 e1 e2 e3 e4 e5 =
    let one = left_at fs l0 l1 m e0 e1 in
    let two = left_at fs l1 l2 (m + 1) one e2 in
    let three = left_at fs l2 l3 (m + 1 + 1) two e3 in
    let four = left_at fs l3 l4 (m + 1 + 1 + 1) three e4 in
    let five = left_at fs l4 l5 (m + 1 + 1 + 1 + 1) four e5 ∙ ap (λ k. drop k fs) (omega arith) in
    record { one = one; two = two; three = three; four = four; five = five }

-- the fields after the date, and those after the values
after_date : (fs l1 l2 : List (List ℕ)) → l1 ≡ drop 1 fs → l2 ≡ drop 1 l1 → l2 ≡ drop 2 fs
after_date fs l1 l2 e1 e2 = left_at fs l1 l2 1 (left_at fs fs l1 0 refl e1) e2

after_values : (fs l2 rest : List (List ℕ)) (n : ℕ) → l2 ≡ drop 2 fs → rest ≡ drop n l2 → rest ≡ drop (n + 2) fs
after_values fs l2 rest n e2 e = e ∙ ap (drop n) e2 ∙ drop-drop n 2 fs ∙ ap (λ m. drop m fs) (add_comm 2 n)

seven : (n : ℕ) → n + 2 + 5 ≡ n + 7
seven n = omega arith

pub returns-then-not-is_blank_from-clause-none : goal.returns-then-not-is_blank_from-clause-none
returns-then-not-is_blank_from-clause-none c =
    let n = c.args.count in
    let fs = fields_of c.args.text.now in
    let v = c.in_ok-day.ensures.some in
    let values = ap (λ (r : Option (Bor (List ℕ))). fields_left (option_copied r)) c.in_ok-rest.was in
    let two = sym values ∙ after_date fs _ _ c.next_field.ensures.left c.next_field-2.ensures.left in
    let after = five_left fs _ _ _ _ _ _ (n + 2) (after_values fs _ _ n two v.rest) c.next_field-3.ensures.left c.next_field-4.ensures.left c.next_field-5.ensures.left c.next_field-6.ensures.left c.next_field-7.ensures.left in
    inr (ap are_blank (sym (after.five ∙ ap (λ m. drop m fs) (seven n))) ∙ sym c.if-not-is_blank_from.ensures)

pub returns-clause-some : goal.returns-clause-some
returns-clause-some c =
    let n = c.args.count in
    let line = c.args.text.now in
    let fs = fields_of line in
    let v = c.in_ok-day.ensures.some in
    let values = ap (λ (r : Option (Bor (List ℕ))). fields_left (option_copied r)) c.in_ok-rest.was in
    let two = sym values ∙ after_date fs _ _ c.next_field.ensures.left c.next_field-2.ensures.left in
    let rest = after_values fs _ _ n two v.rest in
    let after = five_left fs _ _ _ _ _ _ (n + 2) rest c.next_field-3.ensures.left c.next_field-4.ensures.left c.next_field-5.ensures.left c.next_field-6.ensures.left c.next_field-7.ensures.left in
    let counted : length (fields_of c.in_ok-rest.field-0.now) ≡ length fs - 2 = ap length two ∙ length-drop 2 fs in
    let same = sum_fits c.in_ok-day.day.sum n c.requires.1 v.small in
    record {
      least = omega (arith, v.more);
      blank = ap are_blank (sym (after.five ∙ ap (λ m. drop m fs) (seven n))) ∙ sym c.if-not-is_blank_from.ensures;
      date = c.next_field-2.ensures.taken ∙ field_by line _ 1 2 (left_at fs _ _ 0 refl c.next_field.ensures.left) refl;
      small = rw same v.small;
      sum = same ∙ v.sum ∙ ap (λ vs. sum_of (take n vs)) two;
      quality = c.next_field-3.ensures.taken ∙ field_by line _ (n + 2) (n + 3) rest (omega arith);
      reason_code = c.next_field-4.ensures.taken ∙ field_by line _ (n + 2 + 1) (n + 4) after.one (omega arith);
      reason_text = c.next_field-5.ensures.taken ∙ field_by line _ (n + 2 + 1 + 1) (n + 5) after.two (omega arith);
      update = c.next_field-6.ensures.taken ∙ field_by line _ (n + 2 + 1 + 1 + 1) (n + 6) after.three (omega arith);
      load = c.next_field-7.ensures.taken ∙ field_by line _ (n + 2 + 1 + 1 + 1 + 1) (n + 7) after.four (omega arith);
      bad = v.bad ∙ ap (λ vs. first_false 3 (map is_empty_or_quantity (take n vs))) two;
      empty = v.empty ∙ ap (λ vs. first_false 3 (map is_there (take n vs))) two;
    }

pub returns-clause-held : goal.returns-clause-held
returns-clause-held c =
    let n = c.args.count in
    let fs = fields_of c.args.text.now in
    let values = ap (λ (r : Option (Bor (List ℕ))). fields_left (option_copied r)) c.in_ok-rest.was in
    let two = sym values ∙ after_date fs _ _ c.next_field.ensures.left c.next_field-2.ensures.left in
    c.in_ok-day.ensures.held ∙ ap (λ vs. map quantity_in (take n vs)) two
