-- Lines without a fault, one more.
use Rattle.std.proofs.Common.{◌≡◌, ◌<◌, ◌≤◌, ◌+◌, ◌-◌, ℕ, zero, suc, Bool, true, false, not, ◌&&◌, cond, eqb, nat_le, List, [], ◌∷◌, ◌++◌, length, map, take, drop, Option, Some, None, is_none, Ok, refl, sym, ap, subst, ◌∙◌, arith}
use Rattle.std.specs.List.{list_any}
use Rattle.std.specs.Option.{option_map}
use Rattle.std.proofs.lemmas.Bool.Decides.{nat_tests}
use Rattle.std.proofs.lemmas.List.{length_push, map_push}
use Rattle.mds_lines.specs.Kinds.{kind_of}
use Rattle.mds_lines.specs.Lines.{carriage_return, line_text, longest_line, most_lines}
use Rattle.mds_lines.specs.declared.line.Kind.{Kind}
use Rattle.mds_lines.specs.declared.line.Kind.TheVariants as a
use Rattle.mds_marks.specs.Quality.{null}
use Rattle.mds_marks.specs.Reading.{ReadingValue}
use Rattle.mds_runs.specs.Runs.{is_in_range, last_end}
use Rattle.mds_runs.specs.declared.cover.Run.{Run}
use Rattle.mds_records.specs.FieldFaults.{field_fault}
use Rattle.mds_records.specs.declared.fault.FieldFault.{FieldFault}
use Rattle.mds_records.specs.declared.file.FaultCode.{FaultCode}
use Rattle.mds_records.specs.declared.file.FaultCode.TheVariants as code
use Rattle.mds_records.specs.declared.file.FileFault.{FileFault}
use Rattle.mds_records.specs.declared.header_name.HeaderName.TheVariants.{Nem12}
use Rattle.mds_days.specs.RunFaults.{first_of, run_fault, when}
use Rattle.mds_walk.specs.Faults.{kind_fault, line_fault, text_fault as of_text}
use Rattle.mds_walk.proofs.Faultless.{Faultless, fault_within, faultless_push}
use Rattle.mds_nem12.specs.Faults.{at_field, at_line, fault_of_run, nem12, text_fault}
use Rattle.mds_nem12.specs.Governing.{Governors, governors, has_gap}
use Rattle.mds_nem12.specs.Place.{is_in_place, is_kind}
use Rattle.mds_nem12.specs.Said.{count_in}
use Rattle.mds_export.proofs.Restored.{written_values}
use Rattle.mds_export.proofs.TextLines.{piece_of, piece_text, pieces_of, pieces_text}

-- none of the lines has a fault
abbrev pub AreFree : List (List ℕ) → Type 0
AreFree lines = Faultless nem12 (pieces_of lines)

pub free_push : (lines : List (List ℕ)) (x : List ℕ) → AreFree lines → text_fault lines x ≡ None → length x < longest_line
    → length lines + 1 ≤ most_lines → AreFree (lines ++ x ∷ [])
free_push lines x free none short few =
    let piece = piece_of x in
    let size = length_push x carriage_return in
    let fault : line_fault nem12 (map line_text (pieces_of lines)) piece ≡ None =
    ap (λ t. line_fault nem12 t piece) (pieces_text lines) ∙ fault_within nem12 lines piece (omega (arith, size, short)) few
    ∙ ap (of_text nem12 lines) (piece_text x) ∙ none in
    subst (Faultless nem12) (sym (map_push piece_of lines x)) (faultless_push nem12 (pieces_of lines) piece free fault)

-- a kind may stand next
abbrev pub Allows : Governors → Kind → Type 0
Allows g kind = is_in_place g.previous kind ≡ true

none_of_four : (place gap : Bool) (number : ℕ) (o : Option FieldFault) (p : Option FaultCode) → place ≡ true → gap ≡ false → o ≡ None → p ≡ None
    → first_of (option_map (at_line number) (when (not place) code.OutOfPlace) ∷ option_map (at_line number) (when gap code.RunGap)
    ∷ option_map (at_field number) o ∷ option_map (at_line number) p ∷ []) ≡ None
none_of_four false gap number o p e f g h = absurd (cc)
none_of_four true true number o p e f g h = absurd (cc)
none_of_four true false number (Some x) p e f g h = absurd (cc)
none_of_four true false number None (Some x) e f g h = absurd (cc)
none_of_four true false number None None e f g h = refl

cond_none : (b : Bool) (o : Option FileFault) → o ≡ None → cond b None o ≡ None
cond_none true o e = refl
cond_none false o e = e

-- a record without a fault
pub record_sound : (lines : List (List ℕ)) (x : List ℕ) (kind : Kind) → kind_of x ≡ Ok kind → Allows (governors lines) kind
    → (not (is_kind kind a.IntervalEvent) && has_gap (governors lines)) ≡ false
    → field_fault Nem12 kind (count_in (governors lines).details) x ≡ None → fault_of_run (governors lines) x kind ≡ None
    → text_fault lines x ≡ None
record_sound lines x kind is place gap fields runs =
    let g = governors lines in
    cond_none (eqb (length x) 0) (kind_fault nem12 lines x (kind_of x)) (ap (kind_fault nem12 lines x) is
    ∙ none_of_four (is_in_place g.previous kind) (not (is_kind kind a.IntervalEvent) && has_gap g) (length lines + 1)
    (field_fault Nem12 kind (count_in g.details) x) (fault_of_run g x kind) place gap fields runs)

-- each written value is there
taken_none : (n : ℕ) (readings : List ReadingValue) → list_any (λ value. is_none value) (take n (written_values readings)) ≡ false
taken_none zero [] = refl
taken_none zero (reading ∷ readings) = refl
taken_none (suc n) [] = refl
taken_none (suc n) (reading ∷ readings) = taken_none n readings

none_empty : (n m : ℕ) (readings : List ReadingValue)
    → list_any (λ value. is_none value) (take n (drop m (written_values readings))) ≡ false
none_empty n zero [] = taken_none n []
none_empty n zero (reading ∷ readings) = taken_none n (reading ∷ readings)
none_empty n (suc m) [] = taken_none n []
none_empty n (suc m) (reading ∷ readings) = none_empty n m readings

three_none : (x y z : Bool) → x ≡ true → y ≡ false → z ≡ false
    → first_of (when (not x) code.RunRange ∷ when y code.RunOrder ∷ when z code.NoValue ∷ []) ≡ None
three_none false y z e f g = absurd (cc)
three_none true true z e f g = absurd (cc)
three_none true false true e f g = absurd (cc)
three_none true false false e f g = refl

and_none : (b c : Bool) → c ≡ false → (b && c) ≡ false
and_none true c e = e
and_none false c e = refl

-- so that a run has no fault that begins after those before it, and ends within the day
pub run_sound : (n end : ℕ) (before : List Run) (readings : List ReadingValue) (run : Run) → end ≡ last_end before → end < run.first
    → run.first ≤ run.last → run.last ≤ n → run_fault n before (written_values readings) run ≡ None
run_sound n end before readings run e up goes within =
    three_none (is_in_range n run.first run.last) (nat_le run.first (last_end before)) _
    (let low : 1 ≤ run.first = omega arith in grind (arith, nat_tests))
    (let far : last_end before < run.first = omega arith in grind (arith, nat_tests))
    (and_none (not (eqb run.mark.quality.flag null)) _ (none_empty (run.last + 1 - run.first) (run.first - 1) readings))
