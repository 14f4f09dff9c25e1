-- An export comes back, by steps of the machine.
use Rattle.std.proofs.Common.{◌≡◌, ◌↔◌, ◌+◌, ℕ, refl, sym, ap, ◌∙◌, subst}
use Rattle.std.specs.FinSet as set
use Rattle.std.specs.declared.alloc.Global.{Global}
use Rattle.std.specs.declared.vec.Vec.{Vec}
use Rattle.mds_records.specs.declared.file.FileKind.TheVariants.{Nem12}
use Rattle.mds_statements.specs.Delivered.{header_value}
use Rattle.mds_world.specs.Counts.{added_by, known_by}
use Rattle.mds_world.specs.Current.{HasSameDetails}
use Rattle.mds_world.specs.FactOrder.{exact, total}
use Rattle.mds_world.proofs.Sets.{union_comm, union_empty}
use Rattle.mds_world.specs.Stated.{stated}
use Rattle.mds_world.specs.World.{Agrees, IsKnownDay, World, union}
use Rattle.mds_export.specs.Shows.{selection_stated}
use Rattle.mds_messages.specs.declared.request.Request.TheVariants as asked
use Rattle.mds_messages.specs.declared.answer.Answer.{Answer}
use Rattle.mds_messages.specs.declared.answer.Answer.TheVariants as told
use Rattle.mds_service.specs.Machine.{ImportStep, Step, stated_in}
use Rattle.mds_laws.specs.AnyOrder.{IsImported}
use Rattle.mds_laws.specs.Returns.{IsAskedFor, IsSameDay, ReturnsToAnEmptyStore, ReturnsToItsStore}
use Rattle.mds_laws.proofs.AnyOrder.{file_taken}
use Rattle.mds_laws.proofs.ReturnedDays.{comes_back_alone, comes_back_home}
use Rattle.mds_laws.proofs.ReturnedFacts.{states_the_selection}

-- what stands in a file that was taken in
abbrev Counted : World → Vec ℕ Global → Answer → Type 0
Counted old text answer =
    (added known : ℕ) × (answer ≡ told.Imported added known) × (added ≡ added_by old (stated (stated_in Nem12 text.items)))
    × (known ≡ known_by old (stated (stated_in Nem12 text.items)))

counted_of : (old : World) (text : Vec ℕ Global) (answer : Answer) (new : World)
    → ImportStep old Nem12 text.items answer new → IsImported answer → Counted old text answer
counted_of old text (told.Imported added known) new step is = (added, known, refl, step.3, step.4)
counted_of old text (told.File fault) new step is = absurd is
counted_of old text (told.Refused refusal) new step is = absurd is
counted_of old text told.Unavailable new step is = absurd is
counted_of old text (told.Substituted count) new step is = absurd is
counted_of old text (told.Known count) new step is = absurd is
counted_of old text (told.HolidaysAdded added known) new step is = absurd is
counted_of old text (told.Day answer) new step is = absurd is
counted_of old text (told.Versions answer) new step is = absurd is
counted_of old text (told.Period answer) new step is = absurd is
counted_of old text (told.Streams answers) new step is = absurd is
counted_of old text (told.Gaps rows) new step is = absurd is
counted_of old text (told.Finals rows) new step is = absurd is
counted_of old text (told.Missing other) new step is = absurd is
counted_of old text (told.Readings other) new step is = absurd is
counted_of old text (told.Exported other) new step is = absurd is

-- a World that has nothing, together with facts
nothing_before : (facts : World) → union set.empty facts ≡ facts
nothing_before facts = union_comm total exact set.empty facts ∙ union_empty total exact facts

pub returns_to_an_empty_store : ReturnsToAnEmptyStore
returns_to_an_empty_store w same filled nmi suffixes first last header text answer lawful exported taken given =
    let streams = exported.0.1 in
    let shows = exported.0.3 in
    let facts : World = stated (selection_stated (header_value header) streams) in
    let back = comes_back_alone w nmi suffixes.items first last (header_value header) streams lawful exported.0.2 in
    let read : stated (stated_in Nem12 text.items) ≡ facts =
    (states_the_selection (header_value header) streams text.items shows).0 in
    let whole : union set.empty (stated (stated_in Nem12 text.items)) ≡ facts = nothing_before _ ∙ read in
    let in_it = file_taken set.empty Nem12 text answer filled shows.faultless (subst Agrees (sym whole) back.0) taken given in
    let is : filled ≡ facts = in_it.1 ∙ whole in (
      in_it.0,
      (λ stream day. subst (λ v. IsKnownDay v stream day ↔ IsAskedFor w nmi suffixes.items first last stream day) (sym is)
          (back.1 stream day)),
      (λ stream day asked. subst (λ v. IsSameDay w v stream day × HasSameDetails w v stream day) (sym is)
          (back.2 stream day asked)),
    )

pub returns_to_its_store : ReturnsToItsStore
returns_to_its_store w same returned nmi suffixes first last header text answer lawful exported taken given =
    let streams = exported.0.1 in
    let shows = exported.0.3 in
    let facts : World = stated (selection_stated (header_value header) streams) in
    let back = comes_back_home w nmi suffixes.items first last (header_value header) streams lawful exported.0.2 in
    let states = states_the_selection (header_value header) streams text.items shows in
    let read : stated (stated_in Nem12 text.items) ≡ facts = states.0 in
    let step = subst (λ v. Step v (asked.Import Nem12 text) answer returned) exported.1 taken in
    let in_it = file_taken w Nem12 text answer returned shows.faultless
    (subst (λ f. Agrees (union w f)) (sym read) back.0) step given in
    let is : returned ≡ union w facts = in_it.1 ∙ ap (union w) read in
    let counts = counted_of w text answer returned step in_it.0 in (
      counts.0,
      counts.1,
      counts.2,
      (λ i. counts.3 i + counts.4 i) ∙ (λ i. added_by w (read i) + known_by w (read i)) ∙ back.2 ∙ sym states.1,
      (λ stream day. subst (λ v. IsSameDay w v stream day × HasSameDetails w v stream day) (sym is) (back.1 stream day)),
    )
