-- An export comes back (profile). An empty store imports it, and so does the one that it came from. What was exported is as it
-- was.
use Rattle.std.specs.Prelude.{◌≡◌, ◌↔◌, ℕ, ◌+◌, ◌≤◌, List, length}
use Rattle.std.specs.FinSet as set
use Rattle.std.specs.List.{sum_by}
use Rattle.std.specs.declared.alloc.Global.{Global}
use Rattle.std.specs.declared.vec.Vec.{Vec}
use Rattle.mds_quantity.specs.declared.unit.Unit.{Unit as MeasureUnit}
use Rattle.mds_names.specs.declared.stream.Stream.{Stream}
use Rattle.mds_marks.specs.Reading.{ReadingValue}
use Rattle.mds_records.specs.declared.file.FileKind.TheVariants.{Nem12}
use Rattle.mds_statements.specs.Statements.{Statement, days_of}
use Rattle.mds_statements.specs.declared.blocks.Header.{Header}
use Rattle.mds_world.specs.Current.{HasSameDetails, IsDayReading, IsFormOf}
use Rattle.mds_world.specs.Lists.{Member}
use Rattle.mds_world.specs.World.{IsKnownDay, IsLawful, World}
use Rattle.mds_messages.specs.declared.request.Request.TheVariants as asked
use Rattle.mds_messages.specs.declared.answer.Answer.{Answer}
use Rattle.mds_messages.specs.declared.answer.Answer.TheVariants as told
use Rattle.mds_service.specs.Machine.{Step, stated_in}
use Rattle.mds_laws.specs.Answered.{IsGiven}
use Rattle.mds_laws.specs.AnyOrder.{IsImported}

-- a known day of the range, of a stream that was asked for
abbrev pub IsAskedFor : World → List ℕ → List (List ℕ) → ℕ → ℕ → Stream → ℕ → Type 0
IsAskedFor w nmi suffixes first last stream day =
    (stream.nmi ≡ nmi) × Member stream.suffix suffixes × (first ≤ day) × (day ≤ last) × IsKnownDay w stream day

-- A day has the same current length and unit in both, and each of its intervals the same current reading.
pub record IsSameDay (a b : World) (stream : Stream) (day : ℕ) : Type 0 where
  pub form : (length : ℕ) (unit : MeasureUnit) → IsFormOf a stream day length unit ↔ IsFormOf b stream day length unit
  pub readings : (interval : ℕ) (reading : ReadingValue)
      → IsDayReading a stream day interval reading ↔ IsDayReading b stream day interval reading

-- the number of intervals of the days that are stated
abbrev pub intervals_in : List Statement → ℕ
intervals_in statements = sum_by (λ day. length day.readings) (days_of statements)

-- An empty store that answers imports an export of a lawful World. It then knows just the days that were asked for. Each has the
-- same current length and unit, the same current details and the same current readings.
abbrev pub ReturnsToAnEmptyStore : Type 0
ReturnsToAnEmptyStore =
    (w same filled : World) (nmi : List ℕ) (suffixes : Vec (List ℕ) Global) (first last : ℕ) (header : Header)
    (text : Vec ℕ Global) (answer : Answer)
    → IsLawful w → Step w (asked.Export nmi suffixes first last header) (told.Exported text) same
    → Step set.empty (asked.Import Nem12 text) answer filled → IsGiven answer
    → IsImported answer
    × ((stream : Stream) (day : ℕ)
    → IsKnownDay filled stream day ↔ IsAskedFor w nmi suffixes.items first last stream day)
    × ((stream : Stream) (day : ℕ) → IsAskedFor w nmi suffixes.items first last stream day
    → IsSameDay w filled stream day × HasSameDetails w filled stream day)

-- The store that it came from imports it, if it answers. Then each day has the current length and unit, the current details and
-- the current readings that it had. The added and the known readings together are as many as the export has intervals.
abbrev pub ReturnsToItsStore : Type 0
ReturnsToItsStore =
    (w same returned : World) (nmi : List ℕ) (suffixes : Vec (List ℕ) Global) (first last : ℕ) (header : Header)
    (text : Vec ℕ Global) (answer : Answer)
    → IsLawful w → Step w (asked.Export nmi suffixes first last header) (told.Exported text) same
    → Step same (asked.Import Nem12 text) answer returned → IsGiven answer
    → (added known : ℕ) × (answer ≡ told.Imported added known)
    × (added + known ≡ intervals_in (stated_in Nem12 text.items))
    × ((stream : Stream) (day : ℕ) → IsSameDay w returned stream day × HasSameDetails w returned stream day)
