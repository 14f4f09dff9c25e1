-- Files that agree, in a run.
use Rattle.std.specs.Prelude.{◌≡◌, ℕ, ◌+◌, Some, None, List, [], ◌∷◌, map}
use Rattle.std.proofs.Common.{sym, ap, ◌∙◌, subst, inl, inr, arith, refl}
use Rattle.std.specs.List.{All}
use Rattle.std.proofs.lemmas.List.Elements.{All-cons, All-head, All-nil, All-tail}
use Rattle.std.specs.declared.alloc.Global.{Global}
use Rattle.std.specs.declared.vec.Vec.{Vec}
use Rattle.mds_records.specs.declared.file.FileKind.{FileKind}
use Rattle.mds_world.specs.Counts.{counted}
use Rattle.mds_world.specs.FactOrder.{exact, total}
use Rattle.mds_world.specs.Facts.{Fact}
use Rattle.mds_world.specs.Lists.{Member}
use Rattle.mds_world.proofs.Lawful.{agrees_within, pairs_agree}
use Rattle.mds_world.proofs.Members.{in_union, union_left, union_right}
use Rattle.mds_world.proofs.Sets.{union_assoc}
use Rattle.mds_world.specs.Sets.{◌∈◌}
use Rattle.mds_world.specs.Stated.{stated}
use Rattle.mds_world.specs.World.{Agrees, World, union}
use Rattle.mds_keeper.specs.Merge.{IsRefusal, upto}
use Rattle.mds_keeper.specs.declared.refusal.Refusal.{Refusal}
use Rattle.mds_messages.specs.declared.request.Request.{Request}
use Rattle.mds_messages.specs.declared.request.Request.TheVariants as asked
use Rattle.mds_messages.specs.declared.answer.Answer.{Answer}
use Rattle.mds_messages.specs.declared.answer.Answer.TheVariants as told
use Rattle.mds_service.specs.Machine.{ImportStep, Run, Step, fault_in, stated_in}
use Rattle.mds_laws.specs.Answered.{IsGiven, answered, given}
use Rattle.mds_laws.specs.AnyOrder.{AgreeByDay, AllAgree, EachIsTakenIn, IsImported, IsWellFormed, PartsEndAsTheWhole, SameFactsEndAlike, facts_in, statements_in, together}
use Rattle.mds_laws.proofs.Answered.{all_given, unanswered_stand_aside}
use Rattle.mds_laws.proofs.Conflicts.{breaks_none, union_within, upto_within}
use Rattle.mds_laws.proofs.Kept.{counts_of_run, step_counts}
use Rattle.mds_laws.proofs.Members.{none_in}
use Rattle.mds_laws.proofs.Parts.{in_together, parts_state_the_whole}

-- what agreed when a day had one length agrees
pub agrees_as_before : (w : World) → AgreeByDay w → Agrees w
agrees_as_before w by = record {
  one_length = λ a b h k s d u. by.one_length a b h k s d;
  one_unit = by.one_unit;
  one_reading = by.one_reading;
  one_content = by.one_content;
}

-- files of which every two agree, and with the World, agree as a whole
module _ (w : World) (files : List Request) (agree : AllAgree w files) where
  whose : (f : Fact) → f ∈ union w (together (map facts_in files))
      → (x : World) × Member x (w ∷ map facts_in files) × (f ∈ x)
  whose f h = elim (in_union w (together (map facts_in files)) f h) [
    | inl a ↦ (w, inl refl, a)
    | inr b ↦ let r = in_together (map facts_in files) f b in (r.0, inr r.1, r.2)
  ]

  as_a_whole : Agrees (union w (together (map facts_in files)))
  as_a_whole = pairs_agree (union w (together (map facts_in files))) (λ f g h k.
      let x = whose f h in
      let y = whose g k in
      (union x.0 y.0, agree x.0 y.0 x.1 y.1, union_left x.0 y.0 f x.2, union_right x.0 y.0 g y.2))

pub no_fault : {A : Type 0} (fault : A) (found : _) → found ≡ Some fault → found ≡ None → ⊥
no_fault fault found e n = cc

pub no_refusal : (w : World) (kind : FileKind) (text : List ℕ) (refusal : Refusal)
    → Agrees (union w (stated (stated_in kind text))) → IsRefusal w (λ line. upto line (stated_in kind text)) refusal → ⊥
no_refusal w kind text refusal agrees is =
    let xs = stated_in kind text in
    let part : Agrees (union w (upto refusal.line xs)) =
    agrees_within (union w (stated xs)) (union w (upto refusal.line xs))
    (union_within w (upto refusal.line xs) (stated xs) (upto_within refusal.line xs)) agrees in
    breaks_none (union w (upto refusal.line xs)) refusal.code refusal.interval part is.breaks

-- a file that agrees is taken in
pub file_taken : (old : World) (kind : FileKind) (bytes : Vec ℕ Global) (answer : Answer) (new : World)
    → fault_in kind bytes.items ≡ None → Agrees (union old (stated (stated_in kind bytes.items)))
    → ImportStep old kind bytes.items answer new → IsGiven answer
    → IsImported answer × (new ≡ union old (stated (stated_in kind bytes.items)))
file_taken old kind bytes (told.Imported added known) new well agrees step given = (tt, step.2)
file_taken old kind bytes (told.File fault) new well agrees step given =
    absurd (no_fault fault (fault_in kind bytes.items) step.0 well)
file_taken old kind bytes (told.Refused refusal) new well agrees step given =
    absurd (no_refusal old kind bytes.items refusal agrees step.1)
file_taken old kind bytes told.Unavailable new well agrees step given = absurd (given refl)
file_taken old kind bytes (told.Substituted count) new well agrees step given = absurd step
file_taken old kind bytes (told.Known count) new well agrees step given = absurd step
file_taken old kind bytes (told.HolidaysAdded added known) new well agrees step given = absurd step
file_taken old kind bytes (told.Day answer) new well agrees step given = absurd step
file_taken old kind bytes (told.Versions answer) new well agrees step given = absurd step
file_taken old kind bytes (told.Period answer) new well agrees step given = absurd step
file_taken old kind bytes (told.Streams answers) new well agrees step given = absurd step
file_taken old kind bytes (told.Gaps text) new well agrees step given = absurd step
file_taken old kind bytes (told.Finals text) new well agrees step given = absurd step
file_taken old kind bytes (told.Missing text) new well agrees step given = absurd step
file_taken old kind bytes (told.Readings text) new well agrees step given = absurd step
file_taken old kind bytes (told.Exported text) new well agrees step given = absurd step

taken : (old : World) (request : Request) (answer : Answer) (new : World) → IsWellFormed request
    → Agrees (union old (facts_in request)) → Step old request answer new → IsGiven answer
    → IsImported answer × (new ≡ union old (facts_in request))
taken old (asked.Import kind bytes) answer new well agrees step given =
    file_taken old kind bytes answer new well agrees step given
taken old (asked.Substitute job) answer new well agrees step given = absurd well
taken old (asked.Holidays days) answer new well agrees step given = absurd well
taken old (asked.Day stream day) answer new well agrees step given = absurd well
taken old (asked.Versions stream day interval) answer new well agrees step given = absurd well
taken old (asked.Period stream) answer new well agrees step given = absurd well
taken old asked.Streams answer new well agrees step given = absurd well
taken old (asked.Gaps stream first last) answer new well agrees step given = absurd well
taken old (asked.Finals stream first last) answer new well agrees step given = absurd well
taken old (asked.Missing first last since) answer new well agrees step given = absurd well
taken old (asked.Readings stream first last) answer new well agrees step given = absurd well
taken old (asked.Export nmi suffixes first last header) answer new well agrees step given = absurd well

all_taken : (old new : World) (files : List Request) (answers : List Answer) → All IsWellFormed files
    → Agrees (union old (together (map facts_in files))) → Run old files answers new → All IsGiven answers
    → All IsImported answers × (new ≡ union old (together (map facts_in files)))
all_taken old new [] [] well agrees steps given = (All-nil IsImported, steps ∙ sym (none_in old))
all_taken old new [] (answer ∷ answers) well agrees steps given = absurd steps
all_taken old new (file ∷ files) [] well agrees steps given = absurd steps
all_taken old new (file ∷ files) (answer ∷ answers) well agrees steps given =
    let facts = facts_in file in
    let rest = together (map facts_in files) in
    let here : Agrees (union old facts) = agrees_within (union old (union facts rest)) (union old facts)
    (union_within old facts (union facts rest) (union_left facts rest)) agrees in
    let one = taken old file answer steps.0 (All-head IsWellFormed file files well) here steps.1
    (All-head IsGiven answer answers given) in
    let grouped : union steps.0 rest ≡ union old (union facts rest) =
    ap (λ w. union w rest) one.1 ∙ union_assoc total exact old facts rest in
    let others = all_taken steps.0 new files answers (All-tail IsWellFormed file files well)
    (subst Agrees (sym grouped) agrees) steps.2 (All-tail IsGiven answer answers given) in
    (All-cons IsImported answer answers one.0 others.0, others.1 ∙ grouped)

pub each_is_taken_in : EachIsTakenIn
each_is_taken_in old new files answers steps well agree =
    all_taken old new (answered files answers) (given answers) well (as_a_whole old (answered files answers) agree)
    (unanswered_stand_aside old new files answers steps) (all_given answers)

same_sum : (a b w x y : ℕ) → a ≡ w + x → b ≡ w + y → a ≡ b → x ≡ y
same_sum a b w x y p q e = omega (arith, p, q, e)

pub same_facts_end_alike : SameFactsEndAlike
same_facts_end_alike old new other_new files others answers other_answers steps other_steps well other_well same agree =
    let agrees = as_a_whole old (answered files answers) agree in
    let one = all_taken old new (answered files answers) (given answers) well agrees
    (unanswered_stand_aside old new files answers steps) (all_given answers) in
    let two = all_taken old other_new (answered others other_answers) (given other_answers) other_well
    (subst (λ u. Agrees (union old u)) same agrees)
    (unanswered_stand_aside old other_new others other_answers other_steps) (all_given other_answers) in
    let alike : new ≡ other_new = one.1 ∙ ap (union old) same ∙ sym two.1 in (
      one.0,
      two.0,
      alike,
      same_sum _ _ _ _ _ (counts_of_run old new files answers steps)
          (counts_of_run old other_new others other_answers other_steps) (ap counted alike),
    )

-- ---- a file and its parts

facts_of_request : (request : Request) → facts_in request ≡ stated (statements_in request)
facts_of_request (asked.Import kind bytes) = refl
facts_of_request (asked.Substitute job) = refl
facts_of_request (asked.Holidays days) = refl
facts_of_request (asked.Day stream day) = refl
facts_of_request (asked.Versions stream day interval) = refl
facts_of_request (asked.Period stream) = refl
facts_of_request asked.Streams = refl
facts_of_request (asked.Gaps stream first last) = refl
facts_of_request (asked.Finals stream first last) = refl
facts_of_request (asked.Missing first last since) = refl
facts_of_request (asked.Readings stream first last) = refl
facts_of_request (asked.Export nmi suffixes first last header) = refl

facts_of_requests : (requests : List Request) → map facts_in requests ≡ map stated (map statements_in requests)
facts_of_requests [] = refl
facts_of_requests (request ∷ requests) = λ i. facts_of_request request i ∷ facts_of_requests requests i

pub parts_end_as_the_whole : PartsEndAsTheWhole
parts_end_as_the_whole old new other_new whole parts answer answers step steps is_given well part_well are agrees =
    let those = answered parts answers in
    let same : together (map facts_in those) ≡ facts_in whole =
    ap together (facts_of_requests those) ∙ parts_state_the_whole (statements_in whole) (map statements_in those) are
    ∙ sym (facts_of_request whole) in
    let one = taken old whole answer new well agrees step is_given in
    let more = all_taken old other_new those (given answers) part_well (subst (λ u. Agrees (union old u)) (sym same) agrees)
    (unanswered_stand_aside old other_new parts answers steps) (all_given answers) in
    let alike : new ≡ other_new = one.1 ∙ ap (union old) (sym same) ∙ sym more.1 in (
      one.0,
      more.0,
      alike,
      same_sum _ _ _ _ _ (step_counts old whole answer new step) (counts_of_run old other_new parts answers steps) (ap counted alike),
    )
