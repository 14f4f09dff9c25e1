-- What copies state, made one after another.
use Rattle.std.proofs.Common.{◌≡◌, ◌+◌, ◌<◌, ℕ, List, [], ◌∷◌, ◌++◌, get_or, length, take, sym, ◌∙◌, ap, subst}
use Rattle.std.specs.List.{flat_map}
use Rattle.std.proofs.lemmas.Grind.{flat_map-append}
use Rattle.std.proofs.lemmas.List.{take_more}
use Rattle.mds_statements.specs.Delivered.{block_statements}
use Rattle.mds_statements.specs.Orderly.{AreOrderly}
use Rattle.mds_statements.specs.declared.blocks.Block.{Block}
use Rattle.mds_statements.proofs.DaysDelivered.{AreOrderlyDays, blocks_days, days_from_orderly, days_of_statements, orderly_from_days}
use Rattle.mds_statements.specs.Statements.{days_of}

-- one copy more
pub copied_more : {A B : Type 0} (states : A → List B) (things copies more : List A) (i : ℕ) (thing copy : A) → i < length things
    → thing ≡ get_or things i thing → states copy ≡ states thing → more ≡ copies ++ copy ∷ []
    → flat_map states copies ≡ flat_map states (take i things)
    → flat_map states more ≡ flat_map states (take (i + 1) things)
copied_more states things copies more i thing copy low at same is so_far =
    ap (flat_map states) is ∙ flat_map-append states copies (copy ∷ [])
    ∙ ap (λ s. flat_map states copies ++ (s ++ [])) same
    ∙ ap (λ s. s ++ flat_map states (thing ∷ [])) so_far
    ∙ sym (flat_map-append states (take i things) (thing ∷ []))
    ∙ ap (λ t. flat_map states (take i things ++ t ∷ [])) at
    ∙ sym (ap (flat_map states) (take_more things i thing low))

-- blocks that state the same as orderly ones are orderly
pub orderly_copies : (blocks copies : List Block)
    → ((moment : ℕ) → flat_map (block_statements moment) copies ≡ flat_map (block_statements moment) blocks)
    → AreOrderly blocks → AreOrderly copies
orderly_copies blocks copies same orderly =
    let days : blocks_days copies ≡ blocks_days blocks =
    sym (days_of_statements 0 copies) ∙ ap days_of (same 0) ∙ days_of_statements 0 blocks in
    orderly_from_days copies (subst AreOrderlyDays (sym days) (days_from_orderly blocks orderly))
