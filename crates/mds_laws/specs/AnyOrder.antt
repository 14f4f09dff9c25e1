-- Files that agree end in one state in every order, and so do the parts that a file is split into (profile).
use Rattle.std.specs.Prelude.{◌≡◌, ◌⊎◌, None, List, [], ◌∷◌, map}
use Rattle.std.specs.FinSet as set
use Rattle.std.specs.List.{All, sum_by}
use Rattle.mds_marks.specs.Reading.{ReadingValue}
use Rattle.mds_statements.specs.Statements.{Statement}
use Rattle.mds_statements.specs.Statements.Statement.{HeaderOf, StreamOf, DetailsOf, DayOf, EventOf, PeriodOf}
use Rattle.mds_statements.specs.declared.periods.PeriodKey.{PeriodKey}
use Rattle.mds_world.specs.declared.facts.Head.{Head}
use Rattle.mds_world.specs.declared.facts.Key.{Key}
use Rattle.mds_world.specs.Facts.{PeriodContent}
use Rattle.mds_world.specs.Facts.Fact.{HeadIs, VersionIs, PeriodIs}
use Rattle.mds_world.specs.Lists.{Member}
use Rattle.mds_world.specs.Sets.{◌∈◌}
use Rattle.mds_world.specs.Stated.{facts_of, stated}
use Rattle.mds_world.specs.World.{Agrees, World, union}
use Rattle.mds_messages.specs.declared.request.Request.{Request}
use Rattle.mds_messages.specs.declared.request.Request.TheVariants as asked
use Rattle.mds_messages.specs.declared.answer.Answer.{Answer}
use Rattle.mds_messages.specs.declared.answer.Answer.TheVariants as told
use Rattle.mds_service.specs.Machine.{Run, Step, fault_in, stated_in}
use Rattle.mds_laws.specs.Answered.{IsGiven, answered, given}
use Rattle.mds_laws.specs.Kept.{came_in}

-- the request imports a well formed file
abbrev pub IsWellFormed : Request → Type 0
IsWellFormed (asked.Import kind bytes) = fault_in kind bytes.items ≡ None
IsWellFormed request = ⊥

-- the facts that a file states, which have no line numbers
abbrev pub facts_in : Request → World
facts_in (asked.Import kind bytes) = stated (stated_in kind bytes.items)
facts_in request = set.empty

-- what several state, together
abbrev pub together : List World → World
together [] = set.empty
together (facts ∷ rest) = union facts (together rest)

-- all of them agree with one another, each with itself and with the World
abbrev pub AllAgree : World → List Request → Type 0
AllAgree w files =
    (a b : World) → Member a (w ∷ map facts_in files) → Member b (w ∷ map facts_in files) → Agrees (union a b)

-- the answer of a file that was imported
abbrev pub IsImported : Answer → Type 0
IsImported (told.Imported added known) = Unit {0}
IsImported answer = ⊥

-- Take files of which those that were answered are well formed and all agree. Each of these is imported, in any order. The World
-- in the end is the old one with what they state. What had no answer may be any request.
abbrev pub EachIsTakenIn : Type 0
EachIsTakenIn =
    (old new : World) (files : List Request) (answers : List Answer) → Run old files answers new
    → All IsWellFormed (answered files answers) → AllAgree old (answered files answers)
    → All IsImported (given answers) × (new ≡ union old (together (map facts_in (answered files answers))))

-- Take two lists of files. What was answered of the first all agrees, and together states what was answered of the second. Both
-- end in one World, and each file that was answered is imported. Both add the same number of versions and accumulations.
abbrev pub SameFactsEndAlike : Type 0
SameFactsEndAlike =
    (old new other_new : World) (files others : List Request) (answers other_answers : List Answer)
    → Run old files answers new → Run old others other_answers other_new
    → All IsWellFormed (answered files answers) → All IsWellFormed (answered others other_answers)
    → together (map facts_in (answered files answers)) ≡ together (map facts_in (answered others other_answers))
    → AllAgree old (answered files answers)
    → All IsImported (given answers) × All IsImported (given other_answers) × (new ≡ other_new)
    × (sum_by came_in answers ≡ sum_by came_in other_answers)

-- a statement without its line
abbrev pub unplaced : Statement → Statement
unplaced (HeaderOf header) = HeaderOf header
unplaced (StreamOf of_stream) = StreamOf (record of_stream { line = 0 })
unplaced (DetailsOf of_day) = DetailsOf of_day
unplaced (DayOf day) = DayOf (record day { line = 0 })
unplaced (EventOf event) = EventOf event
unplaced (PeriodOf period) = PeriodOf (record period { line = 0 })

-- it is among the statements, on whatever line
abbrev pub IsAmong : List Statement → Statement → Type 0
IsAmong statements it = Member (unplaced it) (map unplaced statements)

-- The parts of a file. The file states what they state, with whole days and under the same header and details. Each of its
-- statements that states a fact is in one of them: all but the header and the 200s.
pub record AreParts (whole : List Statement) (parts : List (List Statement)) : Type 0 where
  pub just : (part : List Statement) (it : Statement) → Member part parts → Member it part → IsAmong whole it
  pub all : (it : Statement) → Member it whole
      → (facts_of it ≡ []) ⊎ ((part : List Statement) × Member part parts × IsAmong part it)

-- The parts of a file together state what it does.
abbrev pub PartsStateTheWhole : Type 0
PartsStateTheWhole =
    (whole : List Statement) (parts : List (List Statement)) → AreParts whole parts
    → together (map stated parts) ≡ stated whole

-- what a file states, in the order of its lines
abbrev pub statements_in : Request → List Statement
statements_in (asked.Import kind bytes) = stated_in kind bytes.items
statements_in request = []

-- Take a file that agrees with the World and was answered, and files of which those that were answered are its parts. The whole
-- is imported, and so is each part. In any order the parts end in what the whole ends in. They add the same number of versions
-- and accumulations.
abbrev pub PartsEndAsTheWhole : Type 0
PartsEndAsTheWhole =
    (old new other_new : World) (whole : Request) (parts : List Request) (answer : Answer) (answers : List Answer)
    → Step old whole answer new → Run old parts answers other_new → IsGiven answer
    → IsWellFormed whole → All IsWellFormed (answered parts answers)
    → AreParts (statements_in whole) (map statements_in (answered parts answers))
    → Agrees (union old (facts_in whole))
    → IsImported answer × All IsImported (given answers) × (new ≡ other_new)
    × (came_in answer ≡ sum_by came_in answers)

-- What agreeing meant when a day had one length: one length and one unit for each stream and day, whatever the update. The rules
-- on readings and accumulations are those of today.
pub record AgreeByDay (w : World) : Type 0 where
  pub one_length : (a b : Head) → HeadIs a ∈ w → HeadIs b ∈ w → a.stream ≡ b.stream → a.day ≡ b.day → a.length ≡ b.length
  pub one_unit : (a b : Head) → HeadIs a ∈ w → HeadIs b ∈ w → a.stream ≡ b.stream → a.day ≡ b.day → a.unit ≡ b.unit
  pub one_reading : (key : Key) (a b : ReadingValue) → VersionIs key a ∈ w → VersionIs key b ∈ w → a ≡ b
  pub one_content : (key : PeriodKey) (a b : PeriodContent) → PeriodIs key a ∈ w → PeriodIs key b ∈ w → a ≡ b
