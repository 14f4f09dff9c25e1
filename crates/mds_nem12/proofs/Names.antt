-- A fault of a record of a NEM12 file names the record's line.
use Rattle.std.proofs.Common.{◌≡◌, ℕ, ◌+◌, List, [], ◌∷◌, length, Option, Some, None, option_map, refl, sym, ◌∙◌, ap}
use Rattle.mds_lines.specs.declared.line.Kind.{Kind}
use Rattle.mds_records.specs.declared.fault.FieldFault.{FieldFault}
use Rattle.mds_records.specs.declared.fault.FieldFault.TheVariants.{WrongFile, Count, Bad}
use Rattle.mds_records.specs.declared.file.FaultCode.{FaultCode}
use Rattle.mds_records.specs.declared.file.FileFault.{FileFault}
use Rattle.std.specs.Prelude.{not, ◌&&◌}
use Rattle.mds_lines.specs.declared.line.Kind.TheVariants.{IntervalEvent}
use Rattle.mds_records.specs.FieldFaults.{field_fault}
use Rattle.mds_records.specs.declared.file.FaultCode.TheVariants as code
use Rattle.mds_records.specs.declared.header_name.HeaderName.TheVariants.{Nem12}
use Rattle.mds_days.specs.RunFaults.{first_of, when}
use Rattle.mds_nem12.specs.Governing.{governors, has_gap}
use Rattle.mds_nem12.specs.Place.{is_in_place, is_kind}
use Rattle.mds_nem12.specs.Said.{count_in}
use Rattle.mds_nem12.specs.Faults.{at_field, at_line, fault_of_run, nem12}

-- a fault, where there is one, names this line
abbrev IsOf : ℕ → Option FileFault → Type 0
IsOf n o = (fault : FileFault) → o ≡ Some fault → fault.line ≡ n

none_of : (n : ℕ) → IsOf n None
none_of n fault e = absurd (cc)

some_of : (n : ℕ) (found : FileFault) → found.line ≡ n → IsOf n (Some found)
some_of n found h fault e = let same : found ≡ fault = cc in ap (λ (f : FileFault). f.line) (sym same) ∙ h

of_line : (n : ℕ) (o : Option FaultCode) → IsOf n (option_map (at_line n) o)
of_line n None = none_of n
of_line n (Some code) = some_of n (at_line n code) refl

of_field : (n : ℕ) (o : Option FieldFault) → IsOf n (option_map (at_field n) o)
of_field n None = none_of n
of_field n (Some WrongFile) = some_of n (at_field n WrongFile) refl
of_field n (Some Count) = some_of n (at_field n Count) refl
of_field n (Some (Bad field)) = some_of n (at_field n (Bad field)) refl

of_first : (n : ℕ) (o : Option FileFault) (rest : List (Option FileFault)) → IsOf n o → IsOf n (first_of rest) → IsOf n (first_of (o ∷ rest))
of_first n None rest h k = k
of_first n (Some found) rest h k = h

of_four : (n : ℕ) (a b : Option FaultCode) (c : Option FieldFault) (d : Option FaultCode)
    → IsOf n (first_of (option_map (at_line n) a ∷ option_map (at_line n) b ∷ option_map (at_field n) c ∷ option_map (at_line n) d ∷ []))
of_four n a b c d =
    let last : List (Option FileFault) = option_map (at_line n) d ∷ [] in
    let third : List (Option FileFault) = option_map (at_field n) c ∷ last in
    let second : List (Option FileFault) = option_map (at_line n) b ∷ third in
    of_first n (option_map (at_line n) a) second (of_line n a) (of_first n (option_map (at_line n) b) third (of_line n b)
    (of_first n (option_map (at_field n) c) last (of_field n c) (of_first n (option_map (at_line n) d) [] (of_line n d) (none_of n))))

pub names_lines : (before : List (List ℕ)) (line : List ℕ) (kind : Kind) (fault : FileFault) → nem12.of_record before line kind ≡ Some fault → fault.line ≡ length before + 1
names_lines before line kind =
    let g = governors before in
    of_four (length before + 1) (when (not (is_in_place g.previous kind)) code.OutOfPlace) (when (not (is_kind kind IntervalEvent) && has_gap g) code.RunGap)
    (field_fault Nem12 kind (count_in g.details) line) (fault_of_run g line kind)
