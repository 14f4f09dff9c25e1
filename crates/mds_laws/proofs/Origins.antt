-- The file that an accumulation came in by.
use Rattle.std.specs.Prelude.{◌≡◌, List, refl}
use Rattle.std.proofs.Common.{subst, inl, inr}
use Rattle.mds_records.specs.declared.file.FileKind.TheVariants.{Nem12, Nem13}
use Rattle.mds_statements.specs.Statements.{PeriodStatement, Statement}
use Rattle.mds_statements.specs.Statements.Statement.{HeaderOf, StreamOf, DetailsOf, DayOf, EventOf, PeriodOf}
use Rattle.mds_statements.specs.declared.periods.PeriodKey.{PeriodKey}
use Rattle.mds_world.specs.Facts.{PeriodContent}
use Rattle.mds_world.specs.Facts.Fact.{PeriodIs}
use Rattle.mds_world.specs.Lists.{Member}
use Rattle.mds_world.specs.Sets.{◌∈◌}
use Rattle.mds_world.specs.Stated.{facts_of}
use Rattle.mds_world.specs.World.{World}
use Rattle.mds_keeper.proofs.Taken.{from_versions}
use Rattle.mds_service.proofs.FileKinds.{no_periods}
use Rattle.mds_service.specs.Machine.{Run, stated_in}
use Rattle.mds_messages.specs.declared.request.Request.{Request}
use Rattle.mds_messages.specs.declared.request.Request.TheVariants as asked
use Rattle.mds_messages.specs.declared.answer.Answer.{Answer}
use Rattle.mds_messages.specs.declared.answer.Answer.TheVariants as told
use Rattle.mds_laws.specs.Kept.{CameByFile, ComesBy, IsStepOf}
use Rattle.mds_laws.proofs.Kept.{each_came_by_one}
use Rattle.mds_laws.proofs.Members.{in_stated}

-- an accumulation is stated by a 250 alone
of_period : (s : Statement) (key : PeriodKey) (content : PeriodContent) → Member (PeriodIs key content) (facts_of s)
    → (period : PeriodStatement) × (s ≡ PeriodOf period)
of_period (HeaderOf header) key content m = absurd m
of_period (StreamOf stream) key content m = absurd m
of_period (DetailsOf details) key content (inl e) = cc
of_period (DetailsOf details) key content (inr m) = absurd m
of_period (DayOf day) key content (inl e) = cc
of_period (DayOf day) key content (inr m) =
    let v = from_versions day.stream day.date day.length day.update 1 day.readings _ m in let e = v.3 in cc
of_period (EventOf event) key content (inl e) = cc
of_period (EventOf event) key content (inr m) = absurd m
of_period (PeriodOf period) key content m = (period, refl)

module _ (old new : World) (requests : List Request) (answers : List Answer) (before after : World) (key : PeriodKey)
    (content : PeriodContent) (absent : PeriodIs key content ∈ before → ⊥) where
  by_file : (request : Request) (answer : Answer) → IsStepOf old new requests answers before request answer after
      → ComesBy before request answer (PeriodIs key content) → CameByFile old new requests answers key content
  by_file (asked.Import Nem13 bytes) (told.Imported added known) step by = record {
    before = before;
    after = after;
    bytes = bytes;
    added = added;
    known = known;
    step = step;
    absent = absent;
    among = by;
  }
  by_file (asked.Import Nem12 bytes) (told.Imported added known) step by =
      let s = in_stated (stated_in Nem12 bytes.items) (PeriodIs key content) by in
      let p = of_period s.0 key content s.2 in
      absurd (no_periods bytes.items p.0 (subst (λ t. Member t (stated_in Nem12 bytes.items)) p.1 s.1))
  by_file (asked.Import kind bytes) (told.Substituted count) step by = absurd by
  by_file (asked.Import kind bytes) (told.Known count) step by = absurd by
  by_file (asked.Import kind bytes) (told.HolidaysAdded added known) step by = absurd by
  by_file (asked.Import kind bytes) (told.Day answer) step by = absurd by
  by_file (asked.Import kind bytes) (told.Versions answer) step by = absurd by
  by_file (asked.Import kind bytes) (told.Period answer) step by = absurd by
  by_file (asked.Import kind bytes) (told.Streams answers) step by = absurd by
  by_file (asked.Import kind bytes) (told.Gaps text) step by = absurd by
  by_file (asked.Import kind bytes) (told.Finals text) step by = absurd by
  by_file (asked.Import kind bytes) (told.Missing text) step by = absurd by
  by_file (asked.Import kind bytes) (told.Readings text) step by = absurd by
  by_file (asked.Import kind bytes) (told.Exported text) step by = absurd by
  by_file (asked.Import kind bytes) (told.File fault) step by = absurd by
  by_file (asked.Import kind bytes) (told.Refused refusal) step by = absurd by
  by_file (asked.Import kind bytes) told.Unavailable step by = absurd by
  by_file (asked.Substitute job) (told.Imported added known) step by = absurd by
  by_file (asked.Substitute job) (told.Substituted count) step by = absurd by
  by_file (asked.Substitute job) (told.Known count) step by = absurd by
  by_file (asked.Substitute job) (told.HolidaysAdded added known) step by = absurd by
  by_file (asked.Substitute job) (told.Day answer) step by = absurd by
  by_file (asked.Substitute job) (told.Versions answer) step by = absurd by
  by_file (asked.Substitute job) (told.Period answer) step by = absurd by
  by_file (asked.Substitute job) (told.Streams answers) step by = absurd by
  by_file (asked.Substitute job) (told.Gaps text) step by = absurd by
  by_file (asked.Substitute job) (told.Finals text) step by = absurd by
  by_file (asked.Substitute job) (told.Missing text) step by = absurd by
  by_file (asked.Substitute job) (told.Readings text) step by = absurd by
  by_file (asked.Substitute job) (told.Exported text) step by = absurd by
  by_file (asked.Substitute job) (told.File fault) step by = absurd by
  by_file (asked.Substitute job) (told.Refused refusal) step by = absurd by
  by_file (asked.Substitute job) told.Unavailable step by = absurd by
  by_file (asked.Holidays days) answer step by = absurd by
  by_file (asked.Day stream day) answer step by = absurd by
  by_file (asked.Versions stream day interval) answer step by = absurd by
  by_file (asked.Period stream) answer step by = absurd by
  by_file asked.Streams answer step by = absurd by
  by_file (asked.Gaps stream first last) answer step by = absurd by
  by_file (asked.Finals stream first last) answer step by = absurd by
  by_file (asked.Missing first last since) answer step by = absurd by
  by_file (asked.Readings stream first last) answer step by = absurd by
  by_file (asked.Export nmi suffixes first last header) answer step by = absurd by

pub each_period_came_by_file : (old new : World) (requests : List Request) (answers : List Answer) (key : PeriodKey)
    (content : PeriodContent) → Run old requests answers new → PeriodIs key content ∈ new → (PeriodIs key content ∈ old → ⊥)
    → CameByFile old new requests answers key content
each_period_came_by_file old new requests answers key content run here absent =
    let came = each_came_by_one old new requests answers (PeriodIs key content) refl run here absent in
    by_file old new requests answers came.before came.after key content came.absent came.request came.answer came.step came.by
