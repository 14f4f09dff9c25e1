-- What was read from a source, one read more.
use Rattle.std.proofs.Common.{◌≡◌, ℕ, ◌≤◌, Bool, true, eqb, List, [], ◌∷◌, ◌++◌, length, refl, sym, ◌∙◌, ap, subst, append_assoc}
use Rattle.std.specs.List.{concat}
use Rattle.std.proofs.lemmas.List.{append-nil}
use Rattle.mds_lines.specs.Buffered.{Buffered}
use Rattle.mds_lines.specs.BufferedSteps.{Fills, Gathers}
use Rattle.mds_lines.specs.Reads.{Reads, IsNeeded, AreNeeded, block}

-- whether the source has ended after these reads
abbrev pub ended_after : Bool → List (List ℕ) → Bool
ended_after is_ended [] = is_ended
ended_after is_ended (bytes ∷ more) = ended_after (eqb (length bytes) 0) more

-- the reads that all succeeded
pub record Gathered {S : Type 0} (gives : S → List ℕ → S → Type 0) (source_old source_new : S) (old new : Buffered) : Type 0 where
  pub given : List (List ℕ)
  pub reads : Reads gives source_old given source_new
  pub needed : AreNeeded old.pending old.is_ended given
  pub more : new.pending ≡ old.pending ++ concat given
  pub ended : new.is_ended ≡ ended_after old.is_ended given

reads_push : {S : Type 0} (gives : S → List ℕ → S → Type 0) (a b c : S) (given : List (List ℕ)) (x : List ℕ) → Reads gives a given b → gives b x c → Reads gives a (given ++ x ∷ []) c
reads_push {S = S} gives a b c [] x r h = (c, subst (λ (s : S). gives s x c) r h, refl)
reads_push gives a b c (y ∷ more) x r h = (r.0, r.1, reads_push gives r.0 b c more x r.2 h)

needed_push : (in_hand : List ℕ) (is_ended : Bool) (given : List (List ℕ)) (x : List ℕ) → AreNeeded in_hand is_ended given
    → IsNeeded (in_hand ++ concat given) (ended_after is_ended given) → AreNeeded in_hand is_ended (given ++ x ∷ [])
needed_push in_hand is_ended [] x h n = (subst (λ (t : List ℕ). IsNeeded t is_ended) (append-nil in_hand) n, tt)
needed_push in_hand is_ended (y ∷ more) x h n =
    let last = ended_after (eqb (length y) 0) more in
    (h.0, needed_push (in_hand ++ y) (eqb (length y) 0) more x h.1 (subst (λ (t : List ℕ). IsNeeded t last) (sym (append_assoc in_hand y (concat more))) n))

ended_push : (is_ended : Bool) (given : List (List ℕ)) (x : List ℕ) → ended_after is_ended (given ++ x ∷ []) ≡ eqb (length x) 0
ended_push is_ended [] x = refl
ended_push is_ended (y ∷ more) x = ended_push (eqb (length y) 0) more x

concat_push : (given : List (List ℕ)) (x : List ℕ) → concat (given ++ x ∷ []) ≡ concat given ++ x
concat_push [] x = append-nil x
concat_push (y ∷ more) x = ap (λ t. y ++ t) (concat_push more x) ∙ sym (append_assoc y (concat more) x)

more_push : (old mid new : List ℕ) (given : List (List ℕ)) (x : List ℕ) → mid ≡ old ++ concat given → new ≡ mid ++ x → new ≡ old ++ concat (given ++ x ∷ [])
more_push old mid new given x e f = f ∙ ap (λ t. t ++ x) e ∙ append_assoc old (concat given) x ∙ ap (λ t. old ++ t) (sym (concat_push given x))

-- what was in hand, in the words of the reads
needed_now : (old mid : List ℕ) (e0 e1 : Bool) (given : List (List ℕ)) (x : List ℕ) → AreNeeded old e0 given → mid ≡ old ++ concat given → e1 ≡ ended_after e0 given
    → IsNeeded mid e1 → AreNeeded old e0 (given ++ x ∷ [])
needed_now old mid e0 e1 given x h is ended n =
    let in_words = subst (λ (t : List ℕ). IsNeeded t e1) is n in
    needed_push old e0 given x h (subst (λ (b : Bool). IsNeeded (old ++ concat given) b) ended in_words)

-- nothing was read yet
pub gathered_none : {S : Type 0} (gives : S → List ℕ → S → Type 0) (source : S) (old : Buffered) → Gathered gives source source old old
gathered_none gives source old = record { given = []; reads = refl; needed = tt; more = sym (append-nil old.pending); ended = refl }

-- one read more, which succeeded
pub gathered_more : {S : Type 0} (gives : S → List ℕ → S → Type 0) (s0 s1 s2 : S) (old mid new : Buffered) → Gathered gives s0 s1 old mid → Fills gives s1 s2 mid new true
    → IsNeeded mid.pending mid.is_ended → Gathered gives s0 s2 old new
gathered_more gives s0 s1 s2 old mid new g f n = record {
  given = g.given ++ f.bytes ∷ [];
  reads = reads_push gives s0 s1 s2 g.given f.bytes g.reads f.gave;
  needed = needed_now old.pending mid.pending old.is_ended mid.is_ended g.given f.bytes g.needed g.more g.ended n;
  more = more_push old.pending mid.pending new.pending g.given f.bytes g.more f.more;
  ended = f.ended refl ∙ sym (ended_push old.is_ended g.given f.bytes);
}

-- one read more, which may have failed
pub gathers_more : {S : Type 0} (gives : S → List ℕ → S → Type 0) (s0 s1 s2 : S) (old mid new : Buffered) (is_read : Bool) → Gathered gives s0 s1 old mid → Fills gives s1 s2 mid new is_read
    → IsNeeded mid.pending mid.is_ended → length new.pending ≤ block → Gathers gives s0 s2 old new
gathers_more gives s0 s1 s2 old mid new is_read g f n held = record {
  given = g.given ++ f.bytes ∷ [];
  reads = reads_push gives s0 s1 s2 g.given f.bytes g.reads f.gave;
  needed = needed_now old.pending mid.pending old.is_ended mid.is_ended g.given f.bytes g.needed g.more g.ended n;
  more = more_push old.pending mid.pending new.pending g.given f.bytes g.more f.more;
  held = held;
}

-- no read more
pub gathers_done : {S : Type 0} (gives : S → List ℕ → S → Type 0) (s0 s1 : S) (old new : Buffered) → Gathered gives s0 s1 old new → length new.pending ≤ block → Gathers gives s0 s1 old new
gathers_done gives s0 s1 old new g held = record { given = g.given; reads = g.reads; needed = g.needed; more = g.more; held = held }
