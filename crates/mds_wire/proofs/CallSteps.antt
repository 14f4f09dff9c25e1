-- What calls brought, one call more, and calls after calls.
use Rattle.std.proofs.Common.{◌≡◌, ℕ, ◌<◌, ◌≤◌, Bool, true, false, eqb, List, [], ◌∷◌, ◌++◌, length, Option, Some, None, refl, sym, ◌∙◌, ap, subst, append_assoc, arith}
use Rattle.std.specs.List.{concat}
use Rattle.std.specs.Io.KnownBytes.{Consumes, Keeps}
use Rattle.std.proofs.lemmas.List.{append-nil}
use Rattle.mds_lines.specs.Reads.{Reads}
use Rattle.mds_lines.proofs.StreamSteps.{consumes_both}
use Rattle.mds_wire.specs.Calls.{IsWanted, AreWanted, ended_after, HasRead}

consumes_none : (a : Option (List ℕ)) → Consumes a a []
consumes_none None = tt
consumes_none (Some xs) = refl

-- a call that took nothing
pub consumes_keeps : (a b : Option (List ℕ)) → Keeps a b → Consumes a b []
consumes_keeps None b h = tt
consumes_keeps (Some xs) None h = absurd h
consumes_keeps (Some xs) (Some ys) h = sym h

concat_both : (xs ys : List (List ℕ)) → concat (xs ++ ys) ≡ concat xs ++ concat ys
concat_both [] ys = refl
concat_both (x ∷ xs) ys = ap (λ t. x ++ t) (concat_both xs ys) ∙ sym (append_assoc x (concat xs) (concat ys))

ended_both : (is_ended : Bool) (xs ys : List (List ℕ)) → ended_after is_ended (xs ++ ys) ≡ ended_after (ended_after is_ended xs) ys
ended_both is_ended [] ys = refl
ended_both is_ended (x ∷ xs) ys = ended_both (eqb (length x) 0) xs ys

module _ {S : Type 0} (gives : S → List ℕ → S → Type 0) where
  reads_both : (a b c : S) (xs ys : List (List ℕ)) → Reads gives a xs b → Reads gives b ys c → Reads gives a (xs ++ ys) c
  reads_both a b c [] ys r s = subst (λ (t : S). Reads gives t ys c) r s
  reads_both a b c (x ∷ xs) ys r s = (r.0, r.1, reads_both r.0 b c xs ys r.2 s)

module _ (Wants : List ℕ → ℕ → Type 0) where
  wanted_both : (before : List ℕ) (is_ended : Bool) (xs ys : List (List ℕ)) → AreWanted Wants before is_ended xs
      → AreWanted Wants (before ++ concat xs) (ended_after is_ended xs) ys → AreWanted Wants before is_ended (xs ++ ys)
  wanted_both before is_ended [] ys h k = subst (λ (t : List ℕ). AreWanted Wants t is_ended ys) (append-nil before) k
  wanted_both before is_ended (x ∷ xs) ys h k =
      let last = ended_after (eqb (length x) 0) xs in
      (h.0, wanted_both (before ++ x) (eqb (length x) 0) xs ys h.1 (subst (λ (t : List ℕ). AreWanted Wants t last ys) (sym (append_assoc before x (concat xs))) k))

-- calls that were wanted for one reason were for another, of which the first bytes were there before
wanted_for : (Wants Needs : List ℕ → ℕ → Type 0) (front : List ℕ) → ((bytes : List ℕ) (count : ℕ) → 0 < count → Wants bytes count → Needs (front ++ bytes) count)
    → (before : List ℕ) (is_ended : Bool) (calls : List (List ℕ)) → AreWanted Wants before is_ended calls → AreWanted Needs (front ++ before) is_ended calls
wanted_for Wants Needs front why before is_ended [] h = tt
wanted_for Wants Needs front why before is_ended (x ∷ calls) h =
    let later = wanted_for Wants Needs front why (before ++ x) (eqb (length x) 0) calls h.1 in (
      record { count = h.0.count; wants = why before h.0.count h.0.some h.0.wants; some = h.0.some; few = h.0.few; goes_on = h.0.goes_on },
      subst (λ (t : List ℕ). AreWanted Needs t (eqb (length x) 0) calls) (sym (append_assoc front before x)) later,
    )

pub read_for : {S : Type 0} (Wants Needs : List ℕ → ℕ → Type 0) (gives : S → List ℕ → S → Type 0) (a b : S) (left next : Option (List ℕ)) (bytes : List ℕ) (is_ended : Bool)
    → ((xs : List ℕ) (count : ℕ) → 0 < count → Wants xs count → Needs xs count) → HasRead Wants gives a b left next bytes is_ended → HasRead Needs gives a b left next bytes is_ended
read_for Wants Needs gives a b left next bytes is_ended why r = record {
  calls = r.calls;
  made = r.made;
  wanted = wanted_for Wants Needs [] why [] false r.calls r.wanted;
  brought = r.brought;
  consumed = r.consumed;
  ended = r.ended;
}

module _ {S : Type 0} (Wants : List ℕ → ℕ → Type 0) (gives : S → List ℕ → S → Type 0) where
  -- no call yet
  pub read_none : (a : S) (left : Option (List ℕ)) → HasRead Wants gives a a left left [] false
  read_none a left = record { calls = []; made = refl; wanted = tt; brought = refl; consumed = consumes_none left; ended = refl }

  -- calls after calls that all brought bytes
  pub read_both : (a b c : S) (left next later : Option (List ℕ)) (xs ys : List ℕ) (is_ended : Bool) → HasRead Wants gives a b left next xs false
      → HasRead (λ bytes. Wants (xs ++ bytes)) gives b c next later ys is_ended → HasRead Wants gives a c left later (xs ++ ys) is_ended
  read_both a b c left next later xs ys is_ended r s =
      let wanted = wanted_for (λ bytes. Wants (xs ++ bytes)) Wants xs (λ bytes count some h. h) [] false s.calls s.wanted in
      let here = subst (λ (t : List ℕ). AreWanted Wants t false s.calls) (append-nil xs ∙ sym r.brought) wanted in
      record {
        calls = r.calls ++ s.calls;
        made = reads_both gives a b c r.calls s.calls r.made s.made;
        wanted = wanted_both Wants [] false r.calls s.calls r.wanted (subst (λ (e : Bool). AreWanted Wants (concat r.calls) e s.calls) (sym r.ended) here);
        brought = concat_both r.calls s.calls ∙ ap (λ t. t ++ concat s.calls) r.brought ∙ ap (λ t. xs ++ t) s.brought;
        consumed = consumes_both left next later xs ys r.consumed s.consumed;
        ended = ended_both false r.calls s.calls ∙ ap (λ e. ended_after e s.calls) r.ended ∙ s.ended;
      }

  -- one call more
  pub read_next : (a b c : S) (left next later : Option (List ℕ)) (xs ys : List ℕ) (count : ℕ) → HasRead Wants gives a b left next xs false
      → Wants xs count → 0 < count → length ys ≤ count → gives b ys c → Consumes next later ys
      → HasRead Wants gives a c left later (xs ++ ys) (eqb (length ys) 0)
  read_next a b c left next later xs ys count r wants some few gave consumed =
      let wanted : IsWanted (λ bytes. Wants (xs ++ bytes)) [] false ys =
      record { count = count; wants = subst (λ (t : List ℕ). Wants t count) (sym (append-nil xs)) wants; some = some; few = few; goes_on = refl } in
      read_both a b c left next later xs ys (eqb (length ys) 0) r
      (record { calls = ys ∷ []; made = (c, gave, refl); wanted = (wanted, tt); brought = append-nil ys; consumed = consumed; ended = refl })

  -- one that brought nothing
  pub read_last : (a b c : S) (left next later : Option (List ℕ)) (xs : List ℕ) (count : ℕ) → HasRead Wants gives a b left next xs false
      → Wants xs count → 0 < count → gives b [] c → Consumes next later []
      → HasRead Wants gives a c left later xs true
  read_last a b c left next later xs count r wants some gave consumed =
      subst (λ (t : List ℕ). HasRead Wants gives a c left later t true) (append-nil xs) (read_next a b c left next later xs [] count r wants some (omega arith) gave consumed)
