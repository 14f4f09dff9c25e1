-- What the steps of writing an answer do. No public contract cites it.
use Rattle.std.specs.Prelude.{◌≡◌, ◌⊎◌, ℕ, List, true}
use Rattle.mds_messages.specs.declared.answer.Answer.{Answer}
use Rattle.mds_messages.specs.declared.answer.Answer.TheVariants as told
use Rattle.mds_messages.specs.Answers.{has_list}
use Rattle.mds_wire.specs.declared.answer.Kind.{Kind}
use Rattle.mds_wire.specs.declared.answer.Status.{Status}
use Rattle.mds_http.specs.Handling.{Tells, status_of}

-- the answer is written
abbrev pub TellsWhole : Answer → Status → Kind → List ℕ → Type 0
TellsWhole answer status kind text = (status ≡ status_of answer) × Tells answer kind text

-- or that it is unavailable, if it has a list
abbrev pub TellsOrNot : Answer → Status → Kind → List ℕ → Type 0
TellsOrNot answer status kind text =
    TellsWhole answer status kind text ⊎ ((has_list answer ≡ true) × TellsWhole told.Unavailable status kind text)
