-- Where the fault of a text stands in a whole line, it is that of the text so far.
use Rattle.std.proofs.Common.{◌≡◌, ℕ, ◌+◌, ◌<◌, ◌≤◌, Bool, true, false, ◌||◌, ltb, eqb, cond, List, [], ◌∷◌, ◌++◌, length, map, Option, Some, None, option_map, Result, Ok, Err, refl, sym, ◌∙◌, ap, arith, append_assoc}
use Rattle.std.proofs.lemmas.List.{append-nil, length-map, length_push}
use Rattle.mds_lines.specs.Kinds.{kind_of}
use Rattle.mds_lines.specs.Lines.{line_feed, line_pieces, line_text, longest_line, most_lines}
use Rattle.mds_lines.specs.declared.line.Kind.{Kind}
use Rattle.mds_lines.specs.declared.line.KindFault.{KindFault}
use Rattle.mds_lines.specs.declared.line.KindFault.TheVariants.{NotText, Unknown}
use Rattle.mds_records.specs.declared.file.FaultCode.{FaultCode}
use Rattle.mds_records.specs.declared.file.FaultCode.TheVariants as code
use Rattle.mds_records.specs.declared.file.FileFault.{FileFault}
use Rattle.mds_walk.specs.Faults.{Judge, at_line, fault_of, kind_fault, line_fault, text_fault}
use Rattle.mds_walk.proofs.Faultless.{Faultless, fault_ends, fault_stops, faultless_push}
use Rattle.mds_walk.specs.SoFar.{fault_so_far, open_piece, whole_pieces}
use Rattle.mds_walk.proofs.Parts.{ended, pieces_open, pieces_whole}
use Rattle.mds_walk.proofs.Stops.{fault_of_all, none_found}

-- a fault of a record names the record's line
abbrev pub NamesLines : Judge → Type 0
NamesLines judge = (before : List (List ℕ)) (line : List ℕ) (kind : Kind) (fault : FileFault) → judge.of_record before line kind ≡ Some fault → fault.line ≡ length before + 1

line_of : (n : ℕ) (c : FaultCode) (fault : FileFault) → Some (at_line n c) ≡ Some fault → fault.line ≡ n
line_of n c fault e = let same : at_line n c ≡ fault = cc in ap (λ (f : FileFault). f.line) (sym same)

kind_line : (judge : Judge) → NamesLines judge → (before : List (List ℕ)) (line : List ℕ) (r : Result Kind KindFault) (fault : FileFault) → kind_fault judge before line r ≡ Some fault
    → fault.line ≡ length before + 1
kind_line judge names before line (Err NotText) fault e = line_of (length before + 1) code.NotText fault e
kind_line judge names before line (Err Unknown) fault e = line_of (length before + 1) code.UnknownRecord fault e
kind_line judge names before line (Ok kind) fault e = names before line kind fault e

text_line : (judge : Judge) → NamesLines judge → (before : List (List ℕ)) (line : List ℕ) (b : Bool) (fault : FileFault)
    → cond b None (kind_fault judge before line (kind_of line)) ≡ Some fault → fault.line ≡ length before + 1
text_line judge names before line true fault e = absurd (cc)
text_line judge names before line false fault e = kind_line judge names before line (kind_of line) fault e

piece_line : (judge : Judge) → NamesLines judge → (before : List (List ℕ)) (piece : List ℕ) (b c : Bool) (fault : FileFault)
    → cond (b || c) (Some (at_line (length before + 1) code.TooLarge)) (text_fault judge before (line_text piece)) ≡ Some fault → fault.line ≡ length before + 1
piece_line judge names before piece true c fault e = line_of (length before + 1) code.TooLarge fault e
piece_line judge names before piece false true fault e = line_of (length before + 1) code.TooLarge fault e
piece_line judge names before piece false false fault e = text_line judge names before (line_text piece) (eqb (length (line_text piece)) 0) fault e

end_line : (n : ℕ) (o : Option FaultCode) (fault : FileFault) → option_map (at_line n) o ≡ Some fault → fault.line ≡ n
end_line n None fault e = absurd (cc)
end_line n (Some code) fault e = line_of n code fault e

-- where no whole line has a fault, the fault of the text stands behind them
behind : (judge : Judge) → NamesLines judge → (text : List ℕ) (fault : FileFault) → Faultless judge (whole_pieces text) → fault_of judge text ≡ Some fault
    → length (whole_pieces text) < fault.line
behind judge names text fault none e = at (open_piece text) refl where
  last : (o : Option FileFault) → line_fault judge (map line_text (whole_pieces text)) (open_piece text) ≡ o
      → line_pieces text ≡ whole_pieces text ++ open_piece text ∷ [] → length (whole_pieces text) < fault.line
  last (Some found) h all =
      let same = sym e ∙ fault_stops judge text (whole_pieces text) (open_piece text) [] found all none h in
      let before = map line_text (whole_pieces text) in
      let line = piece_line judge names before (open_piece text) (ltb longest_line (length (open_piece text))) (ltb most_lines (length before + 1)) fault (h ∙ sym same) in
      omega (arith, line, length-map (whole_pieces text) line_text)
  last None h all =
      let pieces = whole_pieces text ++ open_piece text ∷ [] in
      let line = end_line (length (map line_text pieces) + 1) _ fault
      (sym (fault_ends judge text pieces all (faultless_push judge (whole_pieces text) (open_piece text) none h)) ∙ e) in
      omega (arith, line, length-map pieces line_text, length_push (whole_pieces text) (open_piece text))

  at : (rest : List ℕ) → open_piece text ≡ rest → length (whole_pieces text) < fault.line
  at [] is =
      let line = end_line (length (map line_text (whole_pieces text)) + 1) _ fault
      (sym (fault_ends judge text (whole_pieces text) (pieces_whole text is) none) ∙ e) in
      omega (arith, line, length-map (whole_pieces text) line_text)
  at (x ∷ xs) is =
      let size = ap length is in
      last _ refl (pieces_open text (omega arith))

pub fault_is_fed : (judge : Judge) → NamesLines judge → (text : List ℕ) (fault : FileFault) → fault_of judge text ≡ Some fault → fault.line ≤ length (whole_pieces text)
    → fault_so_far judge text ≡ Some fault
fault_is_fed judge names text fault e within = at (fault_so_far judge text) refl where
  at : (o : Option FileFault) → fault_so_far judge text ≡ o → fault_so_far judge text ≡ Some fault
  at (Some found) h = h ∙ sym (fault_of_all judge text [] found h) ∙ ap (fault_of judge) (append-nil text) ∙ e
  at None h =
      let far = behind judge names text fault (none_found judge text h).faultless e in
      absurd (omega arith)

-- a fault found in whole lines is that of every text that goes on after them
pub fault_longer : (judge : Judge) → NamesLines judge → (text more : List ℕ) (fault : FileFault) → fault_of judge (text ++ line_feed ∷ []) ≡ Some fault
    → fault.line ≤ length (line_pieces (text ++ line_feed ∷ [])) → fault_of judge (text ++ line_feed ∷ more) ≡ Some fault
fault_longer judge names text more fault e within =
    let whole = text ++ line_feed ∷ [] in
    let size = ap length (pieces_whole whole (ended text).open_is) in
    ap (fault_of judge) (sym (append_assoc text (line_feed ∷ []) more))
    ∙ fault_of_all judge whole more fault (fault_is_fed judge names whole fault e (omega arith))
