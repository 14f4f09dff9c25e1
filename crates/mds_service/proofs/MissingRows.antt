-- The rows of the streams that may miss readings, one stream after the other.
use Rattle.std.specs.Prelude.{◌≡◌, ◌↔◌, ◌+◌, ◌<◌, ◌≤◌, ℕ, List, [], ◌∷◌, ◌++◌, Option, Some, None, IfSome, IsSomeAnd, length, take, get_or}
use Rattle.std.proofs.Common.{sym, ap, ◌∙◌, subst}
use Rattle.std.proofs.Math.Nat.{le_antisymm}
use Rattle.std.proofs.lemmas.List.{take_all, take_more}
use Rattle.mds_names.specs.declared.stream.Stream.{Stream}
use Rattle.mds_world.specs.World.{World}
use Rattle.mds_keeper.specs.Queries.{IsLastDayOf}
use Rattle.mds_export.specs.Exports.{AreInTurn}
use Rattle.mds_export.proofs.InTurn.{turn_push}
use Rattle.mds_service.specs.RangeAnswers.{IsAsked, IsMissingOf}

-- one stream more
pub missing_more : (w : World) (since : Option ℕ) (first last : ℕ) (streams : List Stream) (i : ℕ) (stream : Stream) (text one : List ℕ)
    → i < length streams → stream ≡ get_or streams i stream → AreInTurn (IsMissingOf w since first last) (take i streams) text
    → IsMissingOf w since first last stream one → AreInTurn (IsMissingOf w since first last) (take (i + 1) streams) (text ++ one)
missing_more w since first last streams i stream text one within here are is =
    let taken : take (i + 1) streams ≡ take i streams ++ stream ∷ [] =
    take_more streams i stream within ∙ ap (λ (s : Stream). take i streams ++ s ∷ []) (sym here) in
    subst (λ (s : List Stream). AreInTurn (IsMissingOf w since first last) s (text ++ one)) (sym taken)
    (turn_push (IsMissingOf w since first last) (take i streams) stream text one are is)

-- whether a stream is asked for is decided by its last known day
pub asked_by : (w : World) (since last : Option ℕ) (stream : Stream) → IsLastDayOf w stream last
    → IsSomeAnd last (λ last. IfSome since (λ since. since ≤ last)) ↔ IsAsked w since stream
asked_by w since (Some day) stream is = (
  (λ upto. (day, is, upto)),
  (λ asks.
      let same : asks.0 ≡ day = le_antisymm (is.last asks.0 asks.1.known) (asks.1.last day is.known) in
      subst (λ d. IfSome since (λ since. since ≤ d)) same asks.2),
)
asked_by w since None stream none = (
  (λ upto. absurd upto),
  (λ asks. absurd (none asks.0 asks.1.known)),
)

-- all streams
pub all_missing : (w : World) (since : Option ℕ) (first last : ℕ) (streams : List Stream) (i : ℕ) (text : List ℕ)
    → length streams ≤ i → AreInTurn (IsMissingOf w since first last) (take i streams) text
    → AreInTurn (IsMissingOf w since first last) streams text
all_missing w since first last streams i text over are =
    subst (λ (s : List Stream). AreInTurn (IsMissingOf w since first last) s text) (take_all i streams over) are
