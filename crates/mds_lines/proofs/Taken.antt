-- What a call takes from a source.
use Rattle.std.proofs.Common.{◌≡◌, ℕ, ◌+◌, ◌<◌, ◌≤◌, ◌⊎◌, inl, inr, Bool, true, false, ltb, List, [], ◌∷◌, ◌++◌, length, take, drop, get_or, refl, sym, ◌∙◌, ap, arith, append_assoc, Result, Ok, Err, IfOk, IfErr}
use Rattle.std.proofs.lemmas.Bool.{false≢true}
use Rattle.std.proofs.lemmas.Bool.Decides.{nat_tests}
use Rattle.std.proofs.lemmas.List.{append-nil, take_all, drop_all, length-drop}
use Rattle.mds_lines.specs.declared.reader.LineFault.{LineFault}
use Rattle.mds_lines.specs.Buffered.{Buffered, Takes}
use Rattle.mds_lines.specs.BufferedSteps.{is_found, Reaches, TakesPiece, Gathers}
use Rattle.mds_lines.specs.Lines.{line_feed}
use Rattle.mds_lines.proofs.Lefts.{around}

-- What was gathered is all in hand.
pub takes_none : {S : Type 0} (gives : S → List ℕ → S → Type 0) (s0 s1 : S) (old mid new : Buffered) → Gathers gives s0 s1 old mid → new.pending ≡ mid.pending
    → Takes gives s0 s1 old new false
takes_none gives s0 s1 old mid new g same = record {
  given = g.given;
  reads = g.reads;
  needed = g.needed;
  taken = [];
  all = sym g.more ∙ sym same;
  line = refl;
  held = omega (arith, g.held, ap length same);
}

-- the first n pending bytes, with the line feed after them
record HasLine (pending : List ℕ) (n : ℕ) : Type 0 where
  taken : List ℕ
  all : pending ≡ taken ++ drop (n + 1) pending
  line : (taken ≡ take n pending) ⊎ (taken ≡ take n pending ++ line_feed ∷ [])

has_line : (pending : List ℕ) (n : ℕ) → (n < length pending → get_or pending n 0 ≡ line_feed) → HasLine pending n
has_line pending n stops = at (ltb n (length pending)) refl where
  at : (t : Bool) → ltb n (length pending) ≡ t → HasLine pending n
  at true t =
      let lt : n < length pending = grind (arith, nat_tests) in
      record {
        taken = take n pending ++ line_feed ∷ [];
        all = around pending n lt (stops lt) ∙ sym (append_assoc (take n pending) (line_feed ∷ []) (drop (n + 1) pending));
        line = inr refl;
      }
  at false t =
      let ge : length pending ≤ n = grind (arith, nat_tests) in
      let all = take_all n pending ge in
      let none = drop_all (n + 1) pending (omega arith) in
      record {
        taken = take n pending;
        all = sym all ∙ sym (append-nil (take n pending)) ∙ ap (λ t. take n pending ++ t) (sym none);
        line = inl refl;
      }

-- A line was taken off what was gathered.
takes_line : {S : Type 0} (gives : S → List ℕ → S → Type 0) (s0 s1 : S) (old mid new : Buffered) (n : ℕ) → Gathers gives s0 s1 old mid → Reaches mid n → TakesPiece mid new n
    → Takes gives s0 s1 old new true
takes_line gives s0 s1 old mid new n g reach take =
    let line = has_line mid.pending n reach.stops in
    let same = take.piece in
    record {
      given = g.given;
      reads = g.reads;
      needed = g.needed;
      taken = line.taken;
      all = sym g.more ∙ line.all ∙ ap (λ t. line.taken ++ t) (sym take.pending);
      line = elim line.line [ inl e ↦ inl (e ∙ sym same) | inr e ↦ inr (e ∙ ap (λ t. t ++ line_feed ∷ []) (sym same)) ];
      held = omega (arith, g.held, ap length take.pending, length-drop (n + 1) mid.pending);
    }

-- A line was taken, or none.
pub takes_either : {S : Type 0} (gives : S → List ℕ → S → Type 0) (s0 s1 : S) (old mid new : Buffered) (n : ℕ) (r : Result Bool LineFault) → Gathers gives s0 s1 old mid → Reaches mid n
    → IfOk r (λ found. (found ≡ true) × TakesPiece mid new n) → IfErr r (λ _. new ≡ mid) → Takes gives s0 s1 old new (is_found r)
takes_either gives s0 s1 old mid new n (Ok true) g reach ok err = takes_line gives s0 s1 old mid new n g reach ok.1
takes_either gives s0 s1 old mid new n (Ok false) g reach ok err = absurd (false≢true ok.0)
takes_either gives s0 s1 old mid new n (Err fault) g reach ok err = takes_none gives s0 s1 old mid new g (ap (λ b. b.pending) err)
