-- What a reader of lines has taken from its source, one call more.
use Rattle.std.proofs.Common.{◌≡◌, ◌≢◌, ℕ, ◌+◌, ◌*◌, ◌≤◌, ◌⊎◌, inl, inr, Bool, true, false, List, [], ◌∷◌, ◌++◌, length, refl, sym, ◌∙◌, ap, subst, arith, append_assoc, Option, None, Some, Result, Ok, Err, IfOk, IfErr, MatchBool, MatchOption}
use Rattle.std.specs.List.{concat}
use Rattle.std.proofs.lemmas.List.{length-append}
use Rattle.mds_lines.specs.declared.line.Line.{Line}
use Rattle.mds_lines.specs.declared.reader.LineFault.{LineFault}
use Rattle.mds_lines.specs.declared.reader.LineReader.{LineReader}
use Rattle.mds_lines.specs.Buffered.{Buffered, nothing_read, Takes, HasTaken}
use Rattle.mds_lines.specs.Lines.{line_feed, longest_line, most_lines}
use Rattle.mds_lines.specs.Readers.{reader_source, reader_lines, GoesOn}
use Rattle.mds_lines.specs.Reads.{Reads, block}

reads_append : {S : Type 0} (gives : S → List ℕ → S → Type 0) (a b c : S) (xs ys : List (List ℕ)) → Reads gives a xs b → Reads gives b ys c → Reads gives a (xs ++ ys) c
reads_append {S = S} gives a b c [] ys r h = subst (λ (s : S). Reads gives s ys c) r h
reads_append gives a b c (x ∷ xs) ys r h = (r.0, r.1, reads_append gives r.0 b c xs ys r.2 h)

concat_append : (xs ys : List (List ℕ)) → concat (xs ++ ys) ≡ concat xs ++ concat ys
concat_append [] ys = refl
concat_append (x ∷ xs) ys = ap (λ t. x ++ t) (concat_append xs ys) ∙ sym (append_assoc x (concat xs) (concat ys))

-- the bytes that a line takes, and its line feed
taken_few : (is_line : Bool) (taken piece : List ℕ) → MatchBool is_line ((taken ≡ piece) ⊎ (taken ≡ piece ++ line_feed ∷ [])) (taken ≡ []) → length piece ≤ longest_line
    → length taken ≤ longest_line + 1
taken_few true taken piece (inl e) few = omega (arith, ap length e)
taken_few true taken piece (inr e) few = let size = simp length-append at (ap length e) in omega arith
taken_few false taken piece e few = omega (arith, ap length e)

-- before the first call
pub taken_none : {S : Type 0} (gives : S → List ℕ → S → Type 0) (source : S) → HasTaken gives source source nothing_read
taken_none gives source = record { given = []; reads = refl; few = omega arith; lines = omega arith; held = omega arith }

-- a call that found a line
taken_line : {S : Type 0} (gives : S → List ℕ → S → Type 0) (begin s0 s1 : S) (old new : Buffered) → HasTaken gives begin s0 old → Takes gives s0 s1 old new true
    → length new.piece ≤ longest_line → new.number ≡ old.number + 1 → new.number ≤ most_lines → HasTaken gives begin s1 new
taken_line gives begin s0 s1 old new h t short number few =
    let before : length (concat h.given) ≤ old.number * 16_385 + length old.pending = h.few in
    let size = ap length (concat_append h.given t.given) ∙ length-append (concat h.given) (concat t.given) in
    let all = sym (length-append old.pending (concat t.given)) ∙ ap length t.all ∙ length-append t.taken new.pending in
    let line = taken_few true t.taken new.piece t.line short in
    record {
      given = h.given ++ t.given;
      reads = reads_append gives begin s0 s1 h.given t.given h.reads t.reads;
      few = omega arith;
      lines = few;
      held = t.held;
    }

-- a call that found none
taken_no_line : {S : Type 0} (gives : S → List ℕ → S → Type 0) (begin s0 s1 : S) (old new : Buffered) → HasTaken gives begin s0 old → Takes gives s0 s1 old new false
    → new.number ≡ old.number → HasTaken gives begin s1 new
taken_no_line gives begin s0 s1 old new h t number =
    let before : length (concat h.given) ≤ old.number * 16_385 + length old.pending = h.few in
    let size = ap length (concat_append h.given t.given) ∙ length-append (concat h.given) (concat t.given) in
    let all = sym (length-append old.pending (concat t.given)) ∙ ap length t.all ∙ length-append t.taken new.pending in
    let none : length t.taken ≡ 0 = ap length t.line in
    let lines = h.lines in
    record {
      given = h.given ++ t.given;
      reads = reads_append gives begin s0 s1 h.given t.given h.reads t.reads;
      few = omega arith;
      lines = omega arith;
      held = t.held;
    }

-- a call of `next`
pub taken_next : {R : Type 0} (remaining : R → Option (List ℕ)) (failures : R → ℕ) (gives : R → List ℕ → R → Type 0) (begin : R) (old new : LineReader R) (result : Result (Option Line) LineFault)
    → HasTaken gives begin (reader_source old) (reader_lines old) → GoesOn remaining failures gives old new result → HasTaken gives begin (reader_source new) (reader_lines new)
taken_next remaining failures gives begin old new (Ok (Some line)) h n =
    taken_line gives begin (reader_source old) (reader_source new) (reader_lines old) (reader_lines new) h n.takes n.next.0.short n.next.0.number n.next.0.few
taken_next remaining failures gives begin old new (Ok None) h n =
    taken_no_line gives begin (reader_source old) (reader_source new) (reader_lines old) (reader_lines new) h n.takes n.next.number
taken_next remaining failures gives begin old new (Err fault) h n =
    taken_no_line gives begin (reader_source old) (reader_source new) (reader_lines old) (reader_lines new) h n.takes n.kept.1

-- all that it takes
pub taken_bound : {S : Type 0} (gives : S → List ℕ → S → Type 0) (begin now : S) (buffered : Buffered) → (h : HasTaken gives begin now buffered)
    → length (concat h.given) ≤ most_lines * (longest_line + 1) + block
taken_bound gives begin now buffered h =
    let few : length (concat h.given) ≤ buffered.number * 16_385 + length buffered.pending = h.few in
    let lines = h.lines in
    let held = h.held in
    omega arith

-- What an answer of `next` says, by the answer, for callers.
pub at_line : (Q : Type 0) (P : Line → Type 0) (r : Result (Option Line) LineFault) (found : Option Line) (line : Line) → r ≡ Ok found → found ≡ Some line
    → IfOk r (λ o. MatchOption o Q P) → P line
at_line Q P r found line e f h = subst (λ (o : Option Line). MatchOption o Q P) f (subst (λ (a : Result (Option Line) LineFault). IfOk a (λ o. MatchOption o Q P)) e h)

pub at_end : (Q : Type 0) (P : Line → Type 0) (r : Result (Option Line) LineFault) (found : Option Line) → r ≡ Ok found → found ≡ None → IfOk r (λ o. MatchOption o Q P) → Q
at_end Q P r found e f h = subst (λ (o : Option Line). MatchOption o Q P) f (subst (λ (a : Result (Option Line) LineFault). IfOk a (λ o. MatchOption o Q P)) e h)

-- an answer is no fault
pub no_fault : (r : Result (Option Line) LineFault) (found : Option Line) (fault : LineFault) → r ≡ Ok found → r ≢ Err fault
no_fault r found fault e f = subst (λ (a : Result (Option Line) LineFault). IfErr a (λ _. ⊥)) (sym e ∙ f) tt
