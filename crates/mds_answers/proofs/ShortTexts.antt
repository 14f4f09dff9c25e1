-- The texts of answers without a list, piece by piece.
use Rattle.std.proofs.Common.{◌≡◌, ℕ, ◌==◌, Bool, true, false, cond, List, [], ◌++◌, codes, decimal, refl, ap, ◌∙◌, append_assoc}
use Rattle.serde_json.specs.Data.{Members, boolean, member, no_members, string}
use Rattle.serde_json.specs.Written.{compact_text, members_text}
use Rattle.serde_json.proofs.OnLiterals.{serde_json_on_literals}
use Rattle.mds_keeper.specs.Refusals.{place_text}
use Rattle.mds_answers.specs.Json.{counts, filled, place, refused, whole}
use Rattle.mds_answers.specs.JsonSteps.{IsPlain}

pub counts_text : (added known : ℕ)
    → compact_text (counts added known) ≡ codes "{\"added\":" ++ decimal added ++ codes ",\"known\":" ++ decimal known ++ codes "}"
unfolding serde_json_on_literals
counts_text added known = simp append_assoc

pub filled_text : (count : ℕ) (known : Bool)
    → compact_text (filled count known) ≡ codes "{\"count\":" ++ decimal count ++ codes ",\"known\":" ++ compact_text (boolean known) ++ codes "}"
unfolding serde_json_on_literals
filled_text count known = simp append_assoc

-- behind another member, a place is its text
place_members : (name : List ℕ) (n : ℕ) (rest : Members)
    → members_text true (place name n rest) ≡ place_text (codes "," ++ compact_text (string name) ++ codes ":") n ++ members_text true rest
place_members name n rest = at (n == 0)
  where
    at : (z : Bool) → members_text true (cond z rest (member name (whole n) rest))
        ≡ cond z [] ((codes "," ++ compact_text (string name) ++ codes ":") ++ decimal n) ++ members_text true rest
    at true = refl
    at false = simp append_assoc

-- the places of a refusal, as they are written behind its code
abbrev places_text : ℕ → ℕ → ℕ → List ℕ
places_text field interval line =
    place_text (codes ",\"field\":") field ++ (place_text (codes ",\"interval\":") interval ++ (place_text (codes ",\"line\":") line ++ codes "}"))

places_members : (field interval line : ℕ)
    → members_text true (place (codes "field") field (place (codes "interval") interval (place (codes "line") line no_members)))
    ≡ places_text field interval line
unfolding serde_json_on_literals
places_members field interval line =
    place_members (codes "field") field _
    ∙ ap (λ rest. place_text (codes ",\"field\":") field ++ rest)
    (place_members (codes "interval") interval _
    ∙ ap (λ rest. place_text (codes ",\"interval\":") interval ++ rest) (place_members (codes "line") line no_members))

pub refused_text : (code : List ℕ) (field interval line : ℕ) → IsPlain code
    → compact_text (refused code field interval line)
    ≡ codes "{\"error\":\"" ++ code ++ codes "\"" ++ place_text (codes ",\"field\":") field
    ++ place_text (codes ",\"interval\":") interval ++ place_text (codes ",\"line\":") line ++ codes "}"
unfolding serde_json_on_literals
refused_text code field interval line plain =
    ap (λ rest. codes "{\"error\":" ++ (compact_text (string code) ++ rest)) (places_members field interval line)
    ∙ ap (λ quoted. codes "{\"error\":" ++ (quoted ++ places_text field interval line)) plain.1
    ∙ simp append_assoc
