-- Texts that grow piece by piece, and lines of fields.
use Rattle.std.proofs.Common.{◌≡◌, ℕ, List, [], ◌++◌, append_assoc, sym, ap, ◌∙◌}
use Rattle.std.proofs.lemmas.List.{append-nil}
use Rattle.mds_export.specs.Begun.{Begins}

-- what was kept is begun
pub begun_kept : (old new : List ℕ) → new ≡ old → Begins old new
begun_kept old new e = ([], e ∙ sym (append-nil old))

-- and so is what goes on after a piece
pub begun_after : (old mid new piece : List ℕ) → mid ≡ old ++ piece → Begins mid new → Begins old new
begun_after old mid new piece e b = (piece ++ b.0, b.1 ∙ ap (λ t. t ++ b.0) e ∙ append_assoc old piece b.0)
