-- The rest of a request that was refused, read call by call.
use Rattle.std.proofs.Common.{◌≡◌, ℕ, ◌+◌, ◌*◌, ◌<◌, ◌≤◌, Bool, eqb, true, false, List, [], ◌∷◌, ◌++◌, length, Option, refl, sym, ap, ◌∙◌, subst, arith, append_assoc, length-append}
use Rattle.std.specs.Io.KnownBytes.{Consumes}
use Rattle.std.specs.List.{concat}
use Rattle.std.proofs.lemmas.Bool.Decides.{nat_tests}
use Rattle.std.proofs.lemmas.List.{append-nil}
use Rattle.mds_lines.specs.Reads.{Reads}
use Rattle.mds_lines.proofs.StreamSteps.{consumes_both}
use Rattle.mds_wire.specs.Calls.{AreWanted, HasRead, ended_after}
use Rattle.mds_wire.proofs.CallSteps.{read_last, read_none}
use Rattle.mds_http.specs.Serving.{HasReadRest, WantsRest}

-- one call more
module _ (ys : List ℕ) where
  wanted_more : (before : List ℕ) (is_ended : Bool) (calls : List (List ℕ)) → AreWanted WantsRest before is_ended calls
      → ended_after is_ended calls ≡ false → length ys ≤ 16384 → AreWanted WantsRest before is_ended (calls ++ ys ∷ [])
  wanted_more before is_ended [] wanted on few =
      (record { count = 16384; wants = refl; some = omega arith; few = few; goes_on = on }, tt)
  wanted_more before is_ended (x ∷ calls) wanted on few =
      (wanted.0, wanted_more (before ++ x) (eqb (length x) 0) calls wanted.1 on few)

  ended_more : (is_ended : Bool) (calls : List (List ℕ)) → ended_after is_ended (calls ++ ys ∷ []) ≡ eqb (length ys) 0
  ended_more is_ended [] = refl
  ended_more is_ended (x ∷ calls) = ended_more (eqb (length x) 0) calls

  concat_more : (calls : List (List ℕ)) → concat (calls ++ ys ∷ []) ≡ concat calls ++ ys
  concat_more [] = append-nil ys
  concat_more (x ∷ calls) = ap (λ t. x ++ t) (concat_more calls) ∙ sym (append_assoc x (concat calls) ys)

-- so many calls were made, and each of them brought some bytes
pub record HasBrought {E : Type 0} (gives : E → List ℕ → E → Type 0) (old new : E) (old_left new_left : Option (List ℕ)) (count : ℕ) : Type 0 where
  pub bytes : List ℕ
  pub few : length bytes ≤ count * 16384
  pub read : HasRead WantsRest gives old new old_left new_left bytes false
  pub many : length read.calls ≡ count

module _ {E : Type 0} (gives : E → List ℕ → E → Type 0) where
  reads_more : (a b c : E) (calls : List (List ℕ)) (ys : List ℕ) → Reads gives a calls b → gives b ys c → Reads gives a (calls ++ ys ∷ []) c
  reads_more a b c [] ys made gave = (c, subst (λ (s : E). gives s ys c) made gave, refl)
  reads_more a b c (x ∷ calls) ys made gave = (made.0, made.1, reads_more made.0 b c calls ys made.2 gave)

  pub brought_none : (a : E) (left : Option (List ℕ)) → HasBrought gives a a left left 0
  brought_none a left = record {
    bytes = [];
    few = omega arith;
    read = record { calls = []; made = refl; wanted = tt; brought = refl; consumed = (read_none WantsRest gives a left).consumed; ended = refl };
    many = refl;
  }

  pub brought_more : (a b c : E) (left next later : Option (List ℕ)) (count : ℕ) (ys : List ℕ) → HasBrought gives a b left next count
      → 0 < length ys → length ys ≤ 16384 → gives b ys c → Consumes next later ys → HasBrought gives a c left later (count + 1)
  brought_more a b c left next later count ys so some few gave consumed =
      let whole : eqb (length ys) 0 ≡ false = grind (arith, nat_tests) in
      let both = length-append so.bytes ys in
      let bound = so.few in
      let calls = length-append so.read.calls (ys ∷ []) in
      let many = so.many in
      record {
        bytes = so.bytes ++ ys;
        few = omega (arith, both, bound, few);
        read = record {
          calls = so.read.calls ++ ys ∷ [];
          made = reads_more a b c so.read.calls ys so.read.made gave;
          wanted = wanted_more ys [] false so.read.calls so.read.wanted so.read.ended few;
          brought = concat_more ys so.read.calls ∙ ap (λ t. t ++ ys) so.read.brought;
          consumed = consumes_both left next later so.bytes ys so.read.consumed consumed;
          ended = ended_more ys false so.read.calls ∙ whole;
        };
        many = omega (arith, calls, many);
      }

  -- a call that brought none
  pub rest_ends : (a b c : E) (left next later : Option (List ℕ)) (count : ℕ) → HasBrought gives a b left next count → count ≤ 1024
      → gives b [] c → Consumes next later [] → HasReadRest gives a c left later
  rest_ends a b c left next later count so most gave consumed =
      let bound = so.few in
      record {
        bytes = so.bytes;
        is_ended = true;
        few = omega (arith, bound, most);
        read = read_last WantsRest gives a b c left next later so.bytes 16384 so.read refl (omega arith) gave consumed;
        most = λ e. cc;
      }

  -- as many calls as are made
  pub rest_cut : (a b : E) (left next : Option (List ℕ)) (count : ℕ) → HasBrought gives a b left next count → count ≡ 1024
      → HasReadRest gives a b left next
  rest_cut a b left next count so most =
      let bound = so.few in
      record { bytes = so.bytes; is_ended = false; few = omega (arith, bound, most); read = so.read; most = λ e. so.many ∙ most }
