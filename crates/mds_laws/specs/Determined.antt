-- The machine has no choice (profile). A request, and the World before it, decide its answer and what it leaves. But any request
-- may be answered Unavailable.
use Rattle.std.specs.Prelude.{◌≡◌, ℕ, List, [], ◌∷◌, Option, Some}
use Rattle.std.specs.declared.alloc.Global.{Global}
use Rattle.std.specs.declared.vec.Vec.{Vec}
use Rattle.mds_records.specs.declared.file.FileKind.{FileKind}
use Rattle.mds_statements.specs.declared.blocks.Header.{Header}
use Rattle.mds_world.specs.World.{IsLawful, World}
use Rattle.mds_messages.specs.declared.request.Request.{Request}
use Rattle.mds_messages.specs.declared.request.Request.TheVariants as asked
use Rattle.mds_messages.specs.declared.answer.Answer.{Answer}
use Rattle.mds_messages.specs.declared.answer.Answer.TheVariants as told
use Rattle.mds_messages.specs.Answers.{TextKind, text_of}
use Rattle.mds_messages.specs.declared.answer.DayAnswer.{DayAnswer}
use Rattle.mds_messages.specs.declared.answer.PeriodAnswer.{PeriodAnswer}
use Rattle.mds_messages.specs.declared.answer.VersionsAnswer.{VersionsAnswer}
use Rattle.mds_service.specs.Machine.{Run, Step}
use Rattle.mds_laws.specs.Answered.{IsGiven, answered, given}

-- Two requests that ask the same: one and the same, or two whose vectors have the same items.
pub data AskTheSame : Request → Request → Type 0 where
  Itself : (request : Request) → AskTheSame request request
  OneFile : (kind : FileKind) (a b : Vec ℕ Global) → a.items ≡ b.items
      → AskTheSame (asked.Import kind a) (asked.Import kind b)
  OneList : (a b : Vec ℕ Global) → a.items ≡ b.items → AskTheSame (asked.Holidays a) (asked.Holidays b)
  OneExport : (nmi : List ℕ) (a b : Vec (List ℕ) Global) (first last : ℕ) (header : Header) → a.items ≡ b.items
      → AskTheSame (asked.Export nmi a first last header) (asked.Export nmi b first last header)

-- Two days, two lists of versions or two lists of accumulations that say the same. What a vector says is its items.
pub record IsSameDayTold (a b : DayAnswer) : Type 0 where
  pub stream : a.stream ≡ b.stream
  pub day : a.day ≡ b.day
  pub length : a.length ≡ b.length
  pub unit : a.unit ≡ b.unit
  pub update : a.update ≡ b.update
  pub readings : a.readings.items ≡ b.readings.items
  pub events : a.events.items ≡ b.events.items

pub record AreSameVersions (a b : VersionsAnswer) : Type 0 where
  pub stream : a.stream ≡ b.stream
  pub day : a.day ≡ b.day
  pub interval : a.interval ≡ b.interval
  pub versions : a.versions.items ≡ b.versions.items

pub record AreSamePeriods (a b : PeriodAnswer) : Type 0 where
  pub stream : a.stream ≡ b.stream
  pub periods : a.periods.items ≡ b.periods.items

-- one text twice
abbrev pub AreSameTexts : Option (TextKind × List ℕ) → Option (TextKind × List ℕ) → Type 0
AreSameTexts (Some text) (Some other) = text ≡ other
AreSameTexts a b = ⊥

-- Two answers that say the same.
abbrev pub AreSame : Answer → Answer → Type 0
AreSame (told.Imported added known) (told.Imported other_added other_known) =
    (added ≡ other_added) × (known ≡ other_known)
AreSame (told.Substituted count) (told.Substituted other) = count ≡ other
AreSame (told.Known count) (told.Known other) = count ≡ other
AreSame (told.HolidaysAdded added known) (told.HolidaysAdded other_added other_known) =
    (added ≡ other_added) × (known ≡ other_known)
AreSame (told.Day a) (told.Day b) = IsSameDayTold a b
AreSame (told.Versions a) (told.Versions b) = AreSameVersions a b
AreSame (told.Period a) (told.Period b) = AreSamePeriods a b
AreSame (told.Streams a) (told.Streams b) = a.items ≡ b.items
AreSame (told.File fault) (told.File other) = fault ≡ other
AreSame (told.Refused refusal) (told.Refused other) = refusal ≡ other
AreSame told.Unavailable told.Unavailable = Unit {0}
AreSame a b = AreSameTexts (text_of a) (text_of b)

-- Over one lawful World, two answers to the same question say the same, and leave the same World.
abbrev pub AnswersAreDetermined : Type 0
AnswersAreDetermined =
    (w v u : World) (request other : Request) (a b : Answer) → IsLawful w → AskTheSame request other
    → Step w request a v → Step w other b u → IsGiven a → IsGiven b → AreSame a b × (v ≡ u)

-- two lists fit, one by one
abbrev pub OneByOne : {T : Type 0} → (T → T → Type 0) → List T → List T → Type 0
OneByOne R [] [] = Unit {0}
OneByOne R (x ∷ xs) (y ∷ ys) = R x y × OneByOne R xs ys
OneByOne R xs ys = ⊥

-- Take two runs from one lawful World, in which the requests that were answered ask the same, one by one. Their answers say the
-- same, one by one, and they end in the same World.
abbrev pub RunsAreDetermined : Type 0
RunsAreDetermined =
    (old new other_new : World) (requests others : List Request) (answers other_answers : List Answer) → IsLawful old
    → Run old requests answers new → Run old others other_answers other_new
    → OneByOne AskTheSame (answered requests answers) (answered others other_answers)
    → OneByOne AreSame (given answers) (given other_answers) × (new ≡ other_new)
