-- A head's bytes in the buffer that they are read into.
use Rattle.std.proofs.Common.{◌≡◌, ℕ, ◌+◌, ◌-◌, ◌<◌, ◌≤◌, Bool, false, true, eqb, List, [], ◌++◌, length, take, Option, refl, sym, ◌∙◌, ap, subst, arith, ◌∷◌}
use Rattle.std.specs.Io.KnownBytes.{Consumes}
use Rattle.std.proofs.lemmas.List.{length-take-le, append-nil}
use Rattle.std.proofs.lemmas.Bool.Decides.{nat_tests}
use Rattle.mds_lines.specs.Streams.{ReadsBehind}
use Rattle.mds_wire.specs.Calls.{HasRead}
use Rattle.mds_wire.specs.Heads.{longest_head, IsOpenHead}
use Rattle.mds_wire.specs.HeadSteps.{WantsHead}
use Rattle.mds_wire.proofs.CallSteps.{read_next, read_last}

none : (xs : List ℕ) → length xs ≡ 0 → xs ≡ []
none [] e = refl
none (x ∷ xs) e = absurd (omega (arith, e))

pub not_none : (n : ℕ) → ¬ (n ≡ 0) → eqb n 0 ≡ false
not_none n some = grind (arith, nat_tests)

-- a call that brought nothing leaves what is held
pub nothing_behind : {S : Type 0} (gives : S → List ℕ → S → Type 0) (b c : S) (next later : Option (List ℕ)) (held buffer : List ℕ) (count : ℕ) → count ≡ 0
    → ReadsBehind gives b c next later held buffer count → (take (length held) buffer ≡ held) × gives b [] c × Consumes next later []
nothing_behind gives b c next later held buffer count e r =
    let empty = none r.bytes (omega (arith, r.many, e)) in
    let end : length held + count ≡ length held = omega (arith, e) in (
      ap (λ n. take n buffer) (sym end) ∙ r.placed ∙ ap (λ t. held ++ t) empty ∙ append-nil held,
      subst (λ (t : List ℕ). gives b t c) empty r.gave,
      subst (λ (t : List ℕ). Consumes next later t) empty r.consumed,
    )

module _ {S : Type 0} (gives : S → List ℕ → S → Type 0) (a b c : S) (left next later : Option (List ℕ)) (buffer : List ℕ) (filled : ℕ)
    (size : length buffer ≡ longest_head) (room : filled < longest_head)
    (r : HasRead WantsHead gives a b left next (take filled buffer) false) (is_open : IsOpenHead (take filled buffer)) where
  -- a call that brought bytes
  pub head_next : (read_to : List ℕ) (count : ℕ) → ¬ (count ≡ 0) → filled + count ≤ longest_head → ReadsBehind gives b c next later (take filled buffer) read_to count
      → HasRead WantsHead gives a c left later (take (filled + count) read_to) false
  head_next read_to count some within more =
      let held = length-take-le filled buffer (omega (arith, size, room)) in
      let came = read_next WantsHead gives a b c left next later (take filled buffer) more.bytes (longest_head - filled) r
      (is_open, omega (arith, held, room)) (omega (arith, room)) (omega (arith, more.many, within)) more.gave more.consumed in
      let text = sym more.placed ∙ ap (λ n. take (n + count) read_to) held in
      let brought : eqb (length more.bytes) 0 ≡ false = ap (λ n. eqb n 0) more.many ∙ not_none count some in
      subst (λ (e : Bool). HasRead WantsHead gives a c left later (take (filled + count) read_to) e) brought
      (subst (λ (t : List ℕ). HasRead WantsHead gives a c left later t (eqb (length more.bytes) 0)) text came)

  -- a call that brought none
  pub head_last : gives b [] c → Consumes next later [] → HasRead WantsHead gives a c left later (take filled buffer) true
  head_last gave consumed =
      let held = length-take-le filled buffer (omega (arith, size, room)) in
      read_last WantsHead gives a b c left next later (take filled buffer) (longest_head - filled) r
      (is_open, omega (arith, held, room)) (omega (arith, room)) gave consumed
