-- What a call that serves one request does: what it reads, what it writes, and what it changes.
use Rattle.std.specs.Prelude.{◌≡◌, ℕ, ◌+◌, ◌<◌, ◌≤◌, Bool, true, false, List, [], ◌++◌, length, take, Option, Result, Ok, Err, if◌then◌else◌}
use Rattle.std.specs.Io.KnownBytes.{IsAtEnd, Appends, Keeps}
use Rattle.mds_wire.specs.Answers.{head_text}
use Rattle.mds_wire.specs.declared.answer.Status.{Status}
use Rattle.mds_wire.specs.declared.route.Route.{Route}
use Rattle.mds_wire.specs.declared.serve.WireFault.{WireFault}
use Rattle.mds_wire.specs.declared.serve.WireFault.TheVariants.{Read, Closed, Write, Memory}
use Rattle.mds_wire.specs.Calls.{HasRead}
use Rattle.mds_wire.specs.Heads.{longest_head}
use Rattle.mds_wire.specs.Judging.{longest_body}
use Rattle.mds_wire.specs.Meaning.{Answer, StepOf, TakesOf, Means, Awaits}

-- the room reserved for the body of a short answer
abbrev pub short_answer : ℕ
short_answer = 768

-- the bytes of an answer
abbrev pub text_of : Answer → List ℕ
text_of answer =
    if answer.is_head then head_text answer.status answer.kind (length answer.body)
    else head_text answer.status answer.kind (length answer.body) ++ answer.body

-- whether the last call to read brought no bytes
abbrev pub is_cut : Result Status WireFault → Bool
is_cut (Ok status) = false
is_cut (Err Read) = true
is_cut (Err Closed) = true
is_cut (Err Write) = false
is_cut (Err Memory) = false

-- the bytes end where more are awaited
abbrev pub IsUnfinished : List ℕ → Type 0
IsUnfinished bytes = (count : ℕ) × (0 < count) × Awaits bytes count

module _ {S : Type 0} (Step : StepOf S) (Same : S → S → Type 0) (Takes : TakesOf) where
  -- What became of the bytes that were read. Their answer was written, or a part of it. Or nothing was written, and
  -- nothing changed.
  abbrev pub ServesAnswer : Option (List ℕ) → Option (List ℕ) → Option (List ℕ) → List ℕ → S → S
      → Result Status WireFault → Type 0
  ServesAnswer left held holds bytes old new (Ok status) =
      (answer : Answer) × (answer.status ≡ status) × Means Step Same Takes bytes old answer new
      × Appends held holds (text_of answer)
  ServesAnswer left held holds bytes old new (Err Write) =
      (answer : Answer) × Means Step Same Takes bytes old answer new
      × (n : ℕ) × (n < length (text_of answer)) × Appends held holds (take n (text_of answer))
  ServesAnswer left held holds bytes old new (Err Read) = (new ≡ old) × Keeps held holds
  ServesAnswer left held holds bytes old new (Err Closed) =
      (new ≡ old) × Keeps held holds × IsAtEnd left × IsUnfinished bytes
  ServesAnswer left held holds bytes old new (Err Memory) = (new ≡ old) × Keeps held holds × (bytes ≡ [])

  -- These bytes were read, by calls that were all awaited, and the answer is the one for them.
  pub record Serves {R : Type 0} (gives : R → List ℕ → R → Type 0) (reader_old reader_new : R)
      (old_left new_left held holds : Option (List ℕ)) (old new : S) (result : Result Status WireFault) : Type 0 where
    pub bytes : List ℕ
    pub few : length bytes ≤ longest_head + longest_body
    pub read : HasRead Awaits gives reader_old reader_new old_left new_left bytes (is_cut result)
    pub is : ServesAnswer new_left held holds bytes old new result
