-- What a head and what came behind it mean.
use Rattle.std.proofs.Common.{◌≡◌, ◌≢◌, ℕ, ◌+◌, ◌-◌, ◌<◌, ◌≤◌, ◌⊎◌, inl, inr, Bool, true, false, ltb, not, nat_lt, ◌==◌, ◌&&◌, if◌then◌else◌, Option, Some, None, List, [], ◌∷◌, ◌++◌, length, take, drop, refl, sym, ◌∙◌, ap, subst, arith, length-append, bytes_eq, codes, slice_index_or}
use Rattle.std.specs.Char.{is_ascii_digit}
use Rattle.std.specs.List.{list_all}
use Rattle.std.specs.Str.Parse.{digits_value}
use Rattle.std.proofs.lemmas.List.{append-nil, take_all, take-append-le, length-take-le}
use Rattle.std.proofs.lemmas.Bool.Decides.{nat_tests}
use Rattle.httparse.specs.Grammar.{RequestHead, ReadsRequest, HasNoRequest}
use Rattle.httparse.specs.Spans.{IsRequestAt, span_bytes}
use Rattle.httparse.specs.declared.spans.HeaderSpan.{HeaderSpan}
use Rattle.httparse.specs.declared.spans.RequestSpans.{RequestSpans}
use Rattle.httparse.proofs.GrammarLemmas.{ReadsRequest-append, request_unique}
use Rattle.mds_wire.specs.Heads.{IsWhole, IsOpenHead, IsNoHead, most_fields, longest_head}
use Rattle.mds_wire.specs.Judging.{Parts, is_host_fault, judge, judge_body, judge_length, judge_route, longest_body, parts_of, parts_at, path_of, values_in}
use Rattle.mds_wire.specs.Laws.{HaveNoOrder, OnlySteps, TakeMemory}
use Rattle.mds_wire.specs.Routes.{method_of, route_of, slash}
use Rattle.mds_wire.specs.declared.judge.Judged.{Judged}
use Rattle.mds_wire.specs.declared.judge.Judged.TheVariants.{Refused, Wanted}
use Rattle.mds_wire.specs.declared.route.Route.{Route}
use Rattle.mds_wire.specs.declared.answer.Status.{Status}
use Rattle.mds_wire.specs.declared.answer.Status.TheVariants.{Success, Unavailable, BadRequest, FieldsTooLarge, ContentTooLarge}
use Rattle.mds_wire.specs.Meaning.{Answer, Beginning, no_head, overlong, whole, BeginsSo, AnswersBeginning, StepOf, TakesOf, MayLack, AnswersJudged, Means, Awaits, in_body, refused}
use Rattle.mds_wire.specs.Serving.{IsUnfinished}

-- the parts that spans show are those of the head
pub parts_same : (bytes : List ℕ) (fields : List HeaderSpan) (r : RequestSpans) (h : RequestHead) → IsRequestAt bytes fields r h → parts_at bytes fields r ≡ parts_of h
parts_same bytes fields r h at = λ i. record {
  method = at.method i;
  target = at.path i;
  minor = at.version i;
  fields = at.fields i;
}

none : (xs : List ℕ) → length xs ≡ 0 → xs ≡ []
none [] e = refl
none (x ∷ xs) e = absurd (omega (arith, e))

-- the body, of which a part came with the head
pub body_is : (rest more : List ℕ) (size : ℕ) → length (take size rest) + length more ≡ size → (take size (rest ++ more) ≡ take size rest ++ more) × (size ≤ length (rest ++ more))
body_is rest more size e = at (ltb (length rest) size) refl where
  at : (t : Bool) → ltb (length rest) size ≡ t → (take size (rest ++ more) ≡ take size rest ++ more) × (size ≤ length (rest ++ more))
  at true t =
      let all : take size rest ≡ rest = take_all size rest (grind (arith, nat_tests)) in
      let sizes : length rest + length more ≡ size = ap (λ xs. length xs + length more) (sym all) ∙ e in
      let sum = length-append rest more in
      (take_all size (rest ++ more) (omega arith) ∙ ap (λ xs. xs ++ more) (sym all), omega arith)
  at false t =
      let le : size ≤ length rest = grind (arith, nat_tests) in
      let full = length-take-le size rest le in
      let sum = length-append rest more in
      (take-append-le size rest more le ∙ sym (append-nil (take size rest)) ∙ ap (λ xs. take size rest ++ xs) (sym (none more (omega arith))), omega arith)

-- the same of what came of it, which isn't all
pub part_is : (rest more : List ℕ) (size : ℕ) → length (take size rest) + length more ≤ size → take size (rest ++ more) ≡ take size rest ++ more
part_is rest more size e = at (ltb (length rest) size) refl where
  at : (t : Bool) → ltb (length rest) size ≡ t → take size (rest ++ more) ≡ take size rest ++ more
  at true t =
      let all : take size rest ≡ rest = take_all size rest (grind (arith, nat_tests)) in
      let sizes : length rest + length more ≤ size = subst (λ (xs : List ℕ). length xs + length more ≤ size) all e in
      let sum = length-append rest more in
      take_all size (rest ++ more) (omega arith) ∙ ap (λ xs. xs ++ more) (sym all)
  at false t =
      let le : size ≤ length rest = grind (arith, nat_tests) in
      let full = length-take-le size rest le in
      take-append-le size rest more le ∙ sym (append-nil (take size rest)) ∙ ap (λ xs. take size rest ++ xs) (sym (none more (omega arith)))

-- what is lacking of a body, of which a part came with the head
lacking_is : (rest more : List ℕ) (size count : ℕ) → 0 < count → length (take size rest) + length more + count ≡ size → length (rest ++ more) + count ≡ size
lacking_is rest more size count some e = at (ltb (length rest) size) refl where
  at : (t : Bool) → ltb (length rest) size ≡ t → length (rest ++ more) + count ≡ size
  at true t =
      let all : length (take size rest) ≡ length rest = ap length (take_all size rest (grind (arith, nat_tests))) in
      omega (arith, length-append rest more)
  at false t =
      let le : size ≤ length rest = grind (arith, nat_tests) in
      absurd (omega (arith, length-take-le size rest le))

-- what the head of these spans asks for, and what came behind it
begins_whole : (bytes more : List ℕ) (fields : List HeaderSpan) (r : RequestSpans) (w : IsWhole bytes fields r)
    → BeginsSo (bytes ++ more) (whole w.head (drop r.len bytes ++ more))
begins_whole bytes more fields r w = (ReadsRequest-append bytes w.head (drop r.len bytes) more w.at.reads, w.few)

-- more of its body is awaited
pub awaits_body : (bytes : List ℕ) (fields : List HeaderSpan) (r : RequestSpans) (w : IsWhole bytes fields r) (route : Route) (size : ℕ) (front : List ℕ)
    → Wanted route size ≡ judge (parts_at bytes fields r) → front ≡ take size (drop r.len bytes) → (more : List ℕ) (count : ℕ) → 0 < count
    → length front + length more + count ≡ size → Awaits (bytes ++ more) count
awaits_body bytes fields r w route size front is front_is more count some e =
    in_body w.head (drop r.len bytes ++ more) route size (begins_whole bytes more fields r w)
    (sym (is ∙ ap judge (parts_same bytes fields r w.head w.at)))
    (lacking_is (drop r.len bytes) more size count some (subst (λ (t : List ℕ). length t + length more + count ≡ size) front_is e))

pub unfinished_body : (bytes : List ℕ) (fields : List HeaderSpan) (r : RequestSpans) (w : IsWhole bytes fields r) (route : Route) (size : ℕ) (front : List ℕ)
    → Wanted route size ≡ judge (parts_at bytes fields r) → front ≡ take size (drop r.len bytes) → (more : List ℕ)
    → length front + length more < size → IsUnfinished (bytes ++ more)
unfinished_body bytes fields r w route size front is front_is more lt =
    let count = size - (length front + length more) in
    (count, omega arith, awaits_body bytes fields r w route size front is front_is more count (omega arith) (omega arith))

-- a head isn't refused by 200
abbrev NoSuccess : Judged → Type 0
NoSuccess (Refused status) = status ≢ Success
NoSuccess (Wanted route size) = Unit {0}

either : (b : Bool) (x y : Judged) → NoSuccess x → NoSuccess y → NoSuccess (if b then x else y)
either true x y p q = p
either false x y p q = q

length_refuses : (route : Route) (lengths : List (List ℕ)) → NoSuccess (judge_length route lengths)
length_refuses route [] = λ e. cc
length_refuses route (value ∷ []) =
    either (not (nat_lt 0 (length value) && list_all is_ascii_digit value)) _ _ (λ e. cc)
    (either (nat_lt longest_body (digits_value 10 value)) (Refused ContentTooLarge) _ (λ e. cc) tt)
length_refuses route (value ∷ other ∷ values) = λ e. cc

body_refuses : (route : Route) (lengths : List (List ℕ)) → NoSuccess (judge_body route lengths)
body_refuses route lengths =
    either (bytes_eq (method_of route) (codes "GET")) (Wanted route 0) _ tt (length_refuses route lengths)

route_refuses : (parts : Parts) (route : Option Route) → NoSuccess (judge_route parts route)
route_refuses parts None = λ e. cc
route_refuses parts (Some route) =
    either (not (bytes_eq parts.method (method_of route))) _ _ (λ e. cc)
    (body_refuses route (values_in (codes "content-length") parts.fields))

judge_refuses : (parts : Parts) → NoSuccess (judge parts)
judge_refuses parts =
    either (is_host_fault parts.minor (values_in (codes "host") parts.fields)) _ _ (λ e. cc)
    (either (nat_lt 0 (length (values_in (codes "transfer-encoding") parts.fields))) _ _ (λ e. cc)
    (either (not (slice_index_or parts.target 0 0 == slash)) _ _ (λ e. cc)
    (route_refuses parts (route_of (path_of parts.target)))))

-- a head asks for one route and one size of a body
pub one_order : (head : RequestHead) (route other : Route) (size more : ℕ) → judge (parts_of head) ≡ Wanted route size
    → judge (parts_of head) ≡ Wanted other more → (route ≡ other) × (size ≡ more)
one_order head route other size more one two =
    let same : Wanted route size ≡ Wanted other more = sym one ∙ two in
    (cc, cc)

-- bytes that begin with a head that is refused begin with none in order
refused_has_no_order : (bytes rest : List ℕ) (head : RequestHead) (status : Status) → ReadsRequest bytes head rest
    → judge (parts_of head) ≡ Refused status → HaveNoOrder bytes
refused_has_no_order bytes rest head status reads is other more route size other_reads few order =
    let same = request_unique bytes other head more rest other_reads reads in
    let wanted : judge (parts_of head) ≡ Wanted route size =
    subst (λ (h : RequestHead). judge (parts_of h) ≡ Wanted route size) same.0 order in
    let both : Refused status ≡ Wanted route size = sym is ∙ wanted in
    cc

module _ {S : Type 0} (Step : StepOf S) (Same : S → S → Type 0) (Takes : TakesOf) where
  means_judged : (bytes more : List ℕ) (fields : List HeaderSpan) (r : RequestSpans) (w : IsWhole bytes fields r) (judged : Judged) (old new : S) (answer : Answer)
      → judged ≡ judge (parts_at bytes fields r)
      → AnswersJudged Step Same Takes judged w.head (drop r.len bytes ++ more) old answer new → Means Step Same Takes (bytes ++ more) old answer new
  means_judged bytes more fields r w judged old new answer is h = record {
    beginning = whole w.head (drop r.len bytes ++ more);
    begins = begins_whole bytes more fields r w;
    answers = subst (λ (j : Judged). AnswersJudged Step Same Takes j w.head (drop r.len bytes ++ more) old answer new) (is ∙ ap judge (parts_same bytes fields r w.head w.at)) h;
  }

  pub means_refused : (bytes : List ℕ) (fields : List HeaderSpan) (r : RequestSpans) (w : IsWhole bytes fields r) (status : Status) (head : Bool) (s : S)
      → Refused status ≡ judge (parts_at bytes fields r) → head ≡ bytes_eq (span_bytes bytes r.method) (codes "HEAD")
      → Means Step Same Takes (bytes ++ []) s (refused status head) s
  means_refused bytes fields r w status head s is head_is =
      means_judged bytes [] fields r w (Refused status) s s (refused status head) is
      (ap (refused status) (head_is ∙ ap (λ m. bytes_eq m (codes "HEAD")) w.at.method), refl)

  pub means_unavailable : (bytes more : List ℕ) (fields : List HeaderSpan) (r : RequestSpans) (w : IsWhole bytes fields r) (route : Route) (size : ℕ) (old new : S) (target : List ℕ)
      → Wanted route size ≡ judge (parts_at bytes fields r) → target ≡ span_bytes bytes r.path → MayLack Takes route target size (take size (drop r.len bytes ++ more))
      → (new ≡ old) ⊎ Same old new → Means Step Same Takes (bytes ++ more) old (refused Unavailable false) new
  means_unavailable bytes more fields r w route size old new target is target_is lacks same =
      let moved = subst (λ (t : List ℕ). MayLack Takes route t size (take size (drop r.len bytes ++ more))) (target_is ∙ w.at.path) lacks in
      means_judged bytes more fields r w (Wanted route size) old new (refused Unavailable false) is (inr (refl, moved, same))

  pub means_step : (bytes more : List ℕ) (fields : List HeaderSpan) (r : RequestSpans) (w : IsWhole bytes fields r) (route : Route) (size : ℕ) (old new : S) (target body : List ℕ) (answer : Answer)
      → Wanted route size ≡ judge (parts_at bytes fields r) → length (take size (drop r.len bytes)) + length more ≡ size
      → target ≡ span_bytes bytes r.path → body ≡ take size (drop r.len bytes) ++ more → answer.is_head ≡ false
      → Step old route target body answer.status answer.kind answer.body new → Means Step Same Takes (bytes ++ more) old answer new
  means_step bytes more fields r w route size old new target body answer is sizes target_is body_is' not_head step =
      let b = body_is (drop r.len bytes) more size sizes in
      let moved = subst (λ (t : List ℕ). Step old route t body answer.status answer.kind answer.body new) (target_is ∙ w.at.path) step in
      means_judged bytes more fields r w (Wanted route size) old new answer is
      (inl (b.1, not_head, subst (λ (t : List ℕ). Step old route w.head.target t answer.status answer.kind answer.body new) (body_is' ∙ sym b.0) moved))

  -- Bytes that begin with a head of at most 64 fields mean what it says, and nothing else.
  whole_means : (bytes rest : List ℕ) (head : RequestHead) (b : Beginning) (old new : S) (answer : Answer) → ReadsRequest bytes head rest → length head.fields ≤ most_fields
      → BeginsSo bytes b → AnswersBeginning Step Same Takes b old answer new → AnswersJudged Step Same Takes (judge (parts_of head)) head rest old answer new
  whole_means bytes rest head no_head old new answer reads few never a =
      absurd (omega (arith, few, never.none [] head rest (subst (λ (xs : List ℕ). ReadsRequest xs head rest) (sym (append-nil bytes)) reads)))
  whole_means bytes rest head overlong old new answer reads few never a = absurd (never.1.none head rest reads)
  whole_means bytes rest head (whole other more) old new answer reads few is a =
      let same = request_unique bytes other head more rest is.0 reads in
      subst (λ (h : RequestHead). AnswersJudged Step Same Takes (judge (parts_of h)) h rest old answer new) same.0
      (subst (λ (xs : List ℕ). AnswersJudged Step Same Takes (judge (parts_of other)) other xs old answer new) same.1 a)

  pub head_means : (bytes rest : List ℕ) (head : RequestHead) (old new : S) (answer : Answer) → ReadsRequest bytes head rest → length head.fields ≤ most_fields
      → Means Step Same Takes bytes old answer new → AnswersJudged Step Same Takes (judge (parts_of head)) head rest old answer new
  head_means bytes rest head old new answer reads few m = whole_means bytes rest head m.beginning old new answer reads few m.begins m.answers

  -- Bytes that hold no head are answered 400 or 431.
  headless : (bytes : List ℕ) (b : Beginning) (old new : S) (answer : Answer) → HasNoRequest bytes → BeginsSo bytes b → AnswersBeginning Step Same Takes b old answer new
      → (((answer ≡ refused BadRequest false) × IsNoHead bytes) ⊎ ((answer ≡ refused FieldsTooLarge false) × (length bytes ≡ longest_head) × IsOpenHead bytes)) × (new ≡ old)
  headless bytes no_head old new answer none is a = (inl (a.0, is), a.1)
  headless bytes overlong old new answer none is a = (inr (a.0, is.0, is.1), a.1)
  headless bytes (whole head rest) old new answer none is a = absurd (none head rest is.0)

  pub headless_means : (bytes : List ℕ) (old new : S) (answer : Answer) → HasNoRequest bytes → Means Step Same Takes bytes old answer new
      → (((answer ≡ refused BadRequest false) × IsNoHead bytes) ⊎ ((answer ≡ refused FieldsTooLarge false) × (length bytes ≡ longest_head) × IsOpenHead bytes)) × (new ≡ old)
  headless_means bytes old new answer none m = headless bytes m.beginning old new answer none m.begins m.answers

  -- Nothing is changed but by a step of a whole request.
  abbrev IsStepOrNone : List ℕ → S → Answer → S → Type 0
  IsStepOrNone bytes old answer new =
      ((head : RequestHead) × (rest : List ℕ) × (route : Route) × (size : ℕ) × ReadsRequest bytes head rest
      × (length head.fields ≤ most_fields) × (judge (parts_of head) ≡ Wanted route size) × (size ≤ length rest)
      × (answer.is_head ≡ false)
      × Step old route head.target (take size rest) answer.status answer.kind answer.body new)
      ⊎ ((HaveNoOrder bytes ⊎ ((answer.status ≡ Unavailable) × TakeMemory Takes bytes)) × (answer.status ≢ Success)
      × ((new ≡ old) ⊎ Same old new))

  -- what is refused isn't told 200
  no_success : (answer : Answer) (status : Status) (is_head : Bool) → answer ≡ refused status is_head → status ≢ Success
      → answer.status ≢ Success
  no_success answer status is_head is other e = other (sym (ap (λ (a : Answer). a.status) is) ∙ e)

  step_or_none : (bytes rest : List ℕ) (head : RequestHead) (judged : Judged) (old new : S) (answer : Answer)
      → ReadsRequest bytes head rest → length head.fields ≤ most_fields → judge (parts_of head) ≡ judged → NoSuccess judged
      → AnswersJudged Step Same Takes judged head rest old answer new → IsStepOrNone bytes old answer new
  step_or_none bytes rest head (Refused status) old new answer reads few is other a =
      inr (
        inl (refused_has_no_order bytes rest head status reads is),
        no_success answer status (bytes_eq head.method (codes "HEAD")) a.0 other,
        inl a.1,
      )
  step_or_none bytes rest head (Wanted route size) old new answer reads few is other (inl step) =
      inl (head, rest, route, size, reads, few, is, step.0, step.1, step.2)
  step_or_none bytes rest head (Wanted route size) old new answer reads few is other (inr none) =
      inr (
        inr (ap (λ (a : Answer). a.status) none.0, (head, rest, route, size, reads, few, is, none.1)),
        no_success answer Unavailable false none.0 (λ e. cc),
        none.2,
      )

  begun : (bytes : List ℕ) (b : Beginning) (old new : S) (answer : Answer) → BeginsSo bytes b
      → AnswersBeginning Step Same Takes b old answer new → IsStepOrNone bytes old answer new
  begun bytes no_head old new answer is a =
      inr (
        inl (λ head rest route size reads few order. absurd (omega (
          arith,
          few,
          is.none [] head rest
              (subst (λ (xs : List ℕ). ReadsRequest xs head rest) (sym (append-nil bytes)) reads),
        ))),
        no_success answer BadRequest false a.0 (λ e. cc),
        inl a.1,
      )
  begun bytes overlong old new answer is a =
      inr (
        inl (λ head rest route size reads few order. is.1.none head rest reads),
        no_success answer FieldsTooLarge false a.0 (λ e. cc),
        inl a.1,
      )
  begun bytes (whole head rest) old new answer is a =
      step_or_none bytes rest head (judge (parts_of head)) old new answer is.0 is.1 refl (judge_refuses (parts_of head)) a

  pub only_steps : OnlySteps Step Same Takes
  only_steps bytes old new answer m = begun bytes m.beginning old new answer m.begins m.answers
