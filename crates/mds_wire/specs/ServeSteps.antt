-- What the steps of a call that serves one request do.
use Rattle.std.specs.Prelude.{◌≡◌, ℕ, ◌+◌, ◌≤◌, Bool, true, false, List, ◌++◌, length, Option, Result, Ok, Err}
use Rattle.std.specs.Io.KnownBytes.{IsAtEnd}
use Rattle.mds_wire.specs.Answers.{refusal_body}
use Rattle.mds_wire.specs.declared.answer.Status.{Status}
use Rattle.mds_wire.specs.declared.answer.Kind.{Kind}
use Rattle.mds_wire.specs.declared.answer.Kind.TheVariants.{Json}
use Rattle.mds_wire.specs.declared.route.Route.{Route}
use Rattle.mds_wire.specs.declared.serve.Reply.{Reply}
use Rattle.mds_wire.specs.declared.serve.Reply.TheVariants.{Refused, Told}
use Rattle.mds_wire.specs.declared.serve.Unread.{Unread}
use Rattle.mds_wire.specs.declared.serve.Unread.TheVariants.{Read, Closed}
use Rattle.mds_wire.specs.Calls.{HasRead}
use Rattle.mds_wire.specs.Heads.{longest_head}
use Rattle.mds_wire.specs.Judging.{longest_body}
use Rattle.mds_wire.specs.Meaning.{Answer, StepOf, TakesOf, Means, Awaits}
use Rattle.mds_wire.specs.Serving.{IsUnfinished}

-- the status of a reply
abbrev pub status_of : Reply → Status
status_of (Refused status is_head) = status
status_of (Told status kind) = status

-- the type of its body
abbrev pub kind_of : Reply → Kind
kind_of (Refused status is_head) = Json
kind_of (Told status kind) = kind

-- its body, if the handler wrote this
abbrev pub body_of : Reply → List ℕ → List ℕ
body_of (Refused status is_head) told = refusal_body status
body_of (Told status kind) told = told

-- whether it is only a head
abbrev pub ends_early : Reply → Bool
ends_early (Refused status is_head) = is_head
ends_early (Told status kind) = false

-- a reply, if the handler wrote this
abbrev pub answer_of : Reply → List ℕ → Answer
answer_of reply told = record {
  status = status_of reply;
  kind = kind_of reply;
  body = body_of reply told;
  is_head = ends_early reply;
}

-- whether the last call to read brought no bytes
abbrev pub is_unread : Result Reply Unread → Bool
is_unread (Ok reply) = false
is_unread (Err fault) = true

module _ {S : Type 0} (Step : StepOf S) (Same : S → S → Type 0) (Takes : TakesOf) where
  abbrev pub UnderstandsAnswer : Option (List ℕ) → List ℕ → S → S → List ℕ → Result Reply Unread → Type 0
  UnderstandsAnswer left bytes old new told (Ok reply) = Means Step Same Takes bytes old (answer_of reply told) new
  UnderstandsAnswer left bytes old new told (Err Read) = new ≡ old
  UnderstandsAnswer left bytes old new told (Err Closed) = (new ≡ old) × IsAtEnd left × IsUnfinished bytes

  -- these bytes were read, and their meaning was done
  pub record Understands {R : Type 0} (gives : R → List ℕ → R → Type 0) (reader_old reader_new : R)
      (old_left new_left : Option (List ℕ)) (old new : S) (told : List ℕ) (result : Result Reply Unread) : Type 0 where
    pub bytes : List ℕ
    pub few : length bytes ≤ longest_head + longest_body
    pub read : HasRead Awaits gives reader_old reader_new old_left new_left bytes (is_unread result)
    pub is : UnderstandsAnswer new_left bytes old new told result

  -- the same of bytes that came with a whole head, and of those read after them
  pub record Performs {R : Type 0} (came : List ℕ) (gives : R → List ℕ → R → Type 0) (reader_old reader_new : R)
      (old_left new_left : Option (List ℕ)) (old new : S) (told : List ℕ) (result : Result Reply Unread) : Type 0 where
    pub more : List ℕ
    pub few : length more ≤ longest_body
    pub read : HasRead (λ bytes. Awaits (came ++ bytes)) gives reader_old reader_new old_left new_left more
        (is_unread result)
    pub is : UnderstandsAnswer new_left (came ++ more) old new told result
