-- What bytes mean to a store, and what a call does that serves one request, in the words of `mds_wire`.
use Rattle.std.specs.Prelude.{◌≡◌, ◌≤◌, ℕ, Bool, false, List, length, Option, Result, Ok, Err}
use Rattle.mds_keeper.specs.Kept.{Kept}
use Rattle.mds_wire.specs.Calls.{HasRead}
use Rattle.mds_wire.specs.Meaning.{Answer, Means}
use Rattle.mds_wire.specs.Serving.{Serves}
use Rattle.mds_wire.specs.declared.answer.Status.{Status}
use Rattle.mds_wire.specs.declared.answer.Status.TheVariants.{Success}
use Rattle.mds_wire.specs.declared.serve.WireFault.{WireFault}
use Rattle.mds_http.specs.declared.handling.StoreHandler.{StoreHandler}
use Rattle.mds_http.specs.Bodies.{TakesMemoryAt}
use Rattle.mds_http.specs.Handling.{Handles}

-- nothing changed
abbrev pub IsSame : {S : Type 0} → S → S → Type 0
IsSame old new = new ≡ old

module _ {K : Type 0} (kept : K → Kept) where
  -- bytes mean this answer, and a step of the store
  abbrev pub MeansOver : List ℕ → StoreHandler K → Answer → StoreHandler K → Type 0
  MeansOver bytes old answer new = Means (Handles kept) IsSame TakesMemoryAt bytes old answer new

  -- bytes were read, and what they mean was done and answered
  abbrev pub ServesOver : {R : Type 0} → (R → List ℕ → R → Type 0) → (reader_old reader_new : R)
      → (old_left new_left held holds : Option (List ℕ)) → (old new : StoreHandler K) → Result Status WireFault → Type 0
  ServesOver gives reader_old reader_new old_left new_left held holds old new result =
      Serves (Handles kept) IsSame TakesMemoryAt gives reader_old reader_new old_left new_left held holds old new
      result

-- each call reads up to a count of bytes of a rest
abbrev pub WantsRest : List ℕ → ℕ → Type 0
WantsRest bytes count = count ≡ 16384

-- A rest was read: to its end, until a call failed, or by 1,024 calls, which is at most 16 MB.
pub record HasReadRest {E : Type 0} (gives : E → List ℕ → E → Type 0) (old new : E)
    (old_left new_left : Option (List ℕ)) : Type 0 where
  pub bytes : List ℕ
  pub is_ended : Bool
  pub few : length bytes ≤ 16777216
  pub read : HasRead WantsRest gives old new old_left new_left bytes is_ended
  pub most : is_ended ≡ false → length read.calls ≡ 1024

-- The rest is read after a refusal that was answered. Otherwise nothing of it is read.
abbrev pub ReadsRest : {E : Type 0} → (E → List ℕ → E → Type 0) → (old new : E)
    → (old_left new_left : Option (List ℕ)) → Result Status WireFault → Type 0
ReadsRest gives old new old_left new_left (Ok Success) = new ≡ old
ReadsRest gives old new old_left new_left (Ok refusal) = HasReadRest gives old new old_left new_left
ReadsRest gives old new old_left new_left (Err fault) = new ≡ old
