use Rattle.std.proofs.Common.{◌≡◌, ◌≤◌, ◌∙◌, ◌==◌, true, false, not, ℕ, List, Some, length, take, nat_lt, slice_index_or, bytes_eq, codes, sym, ap, subst, arith}
use Rattle.std.specs.Str.{IsUtf8}
use Rattle.httparse.specs.Spans.{IsHeaderWithin, IsRequestWithin, span_bytes}
use Rattle.httparse.specs.declared.spans.HeaderSpan.{HeaderSpan}
use Rattle.httparse.specs.declared.spans.RequestSpans.{RequestSpans}
use Rattle.std.specs.List.{All}
use Rattle.mds_wire.specs.Judging.{Parts, judge, judge_route, is_host_fault, longest_body, judge_length, parts_at, path_of, values_in}
use Rattle.mds_wire.specs.Routes.{method_of, route_of, slash}
use Rattle.mds_wire.specs.declared.answer.Status.{Status}
use Rattle.mds_wire.specs.declared.answer.Status.TheVariants.{BadRequest, MethodNotAllowed, NotImplemented}
use Rattle.mds_wire.specs.declared.judge.Judged.TheVariants.{Refused, Wanted}
use Rattle.mds_wire.specs.declared.route.Route.{Route}
use Rattle.mds_wire.proofs.judge.judge_head.Given.{Over}
use Rattle.mds_wire.proofs.judge.judge_head.Goals as goal
use Rattle.mds_wire.proofs.judge.judge_head.Goals.{After-ne, After-route_of}

module _ (parts : Parts) where
  -- the checks, one after the other
  bad_host : is_host_fault parts.minor (values_in (codes "host") parts.fields) ≡ true → Refused BadRequest ≡ judge parts
  bad_host fault = rw fault

  bad_coding : is_host_fault parts.minor (values_in (codes "host") parts.fields) ≡ false
      → nat_lt 0 (length (values_in (codes "transfer-encoding") parts.fields)) ≡ true → Refused NotImplemented ≡ judge parts
  bad_coding host coding = rw (host, coding)

  bad_target : is_host_fault parts.minor (values_in (codes "host") parts.fields) ≡ false
      → nat_lt 0 (length (values_in (codes "transfer-encoding") parts.fields)) ≡ false → (slice_index_or parts.target 0 0 == slash) ≡ false
      → Refused BadRequest ≡ judge parts
  bad_target host coding target = rw (host, coding, target)

  judged : is_host_fault parts.minor (values_in (codes "host") parts.fields) ≡ false
      → nat_lt 0 (length (values_in (codes "transfer-encoding") parts.fields)) ≡ false → (slice_index_or parts.target 0 0 == slash) ≡ true
      → judge parts ≡ judge_route parts (route_of (path_of parts.target))
  judged host coding target = rw (host, coding, target)

  wrong_method : (route : Route) → not (bytes_eq parts.method (method_of route)) ≡ true → judge_route parts (Some route) ≡ Refused (MethodNotAllowed route)
  wrong_method route wrong = rw wrong

  no_body : (route : Route) → not (bytes_eq parts.method (method_of route)) ≡ false → bytes_eq (method_of route) (codes "GET") ≡ true
      → judge_route parts (Some route) ≡ Wanted route 0
  no_body route right gets = rw (right, gets)

  with_body : (route : Route) → not (bytes_eq parts.method (method_of route)) ≡ false → bytes_eq (method_of route) (codes "GET") ≡ false
      → judge_route parts (Some route) ≡ judge_length route (values_in (codes "content-length") parts.fields)
  with_body route right gets = rw (right, gets)

-- the fields of a head lie within it
fields_within : (bytes : List ℕ) (fields : List HeaderSpan) (spans : RequestSpans) → IsRequestWithin bytes fields spans
    → All (IsHeaderWithin (length bytes)) (take spans.headers fields)
fields_within bytes fields spans within k d few =
    let it = within.section.headers_fit k d few in
    ((it.0.0, omega (arith, it.0.1, within.section.len_fits)), (it.1.0, omega (arith, it.1.1, within.section.len_fits)))

-- a refusal wants no body
refused_few : (status : Status) (route : Route) (size : ℕ) → Refused status ≡ Wanted route size → size ≤ longest_body
refused_few status route size is = absurd (cc)

-- nor does a GET have one
none_few : (it route : Route) (size : ℕ) → Wanted it 0 ≡ Wanted route size → size ≤ longest_body
none_few it route size is = let none : 0 ≡ size = cc in omega (arith, none)

-- the checks before the route pass
at_route : (g : Over) (c : After-route_of g) → judge (parts_at c.args.bytes.now c.args.fields.now c.args.spans.now)
    ≡ judge_route (parts_at c.args.bytes.now c.args.fields.now c.args.spans.now) c.route_of.result
at_route g c =
    let parts = parts_at c.args.bytes.now c.args.fields.now c.args.spans.now in
    judged parts (sym (c.is_host_fault.ensures _ c.values_of.ensures) ∙ c.if-is_host_fault.false)
    (sym (c.is_some.ensures _ c.values_of-2.ensures) ∙ c.if-is_some.false)
    (ap (λ t. slice_index_or t 0 0 == slash) (sym c.of-target.ensures) ∙ sym c.begins_with_slash.ensures ∙ c.if-not-begins_with_slash.false)
    ∙ ap (judge_route parts) (ap (λ t. route_of (path_of t)) (sym c.of-target.ensures) ∙ sym c.route_of.ensures)

-- whether the method is another one
method_told : (g : Over) (c : After-ne g) → not (bytes_eq (parts_at c.args.bytes.now c.args.fields.now c.args.spans.now).method (method_of c.in-Some.route)) ≡ c.ne.result
method_told g c =
    let written = c.as_bytes.ensures.value ∙ c.as_str.ensures.value ∙ c.method-method.ensures.value in
    sym (c.ne.ensures ∙ ap not (ap (λ m. bytes_eq m c.as_bytes.result.now) c.of.ensures ∙ ap (bytes_eq (span_bytes c.args.bytes.now c.args.spans.now.method)) written))

pub returns-then-is_host_fault-clause-value : goal.returns-then-is_host_fault-clause-value
returns-then-is_host_fault-clause-value g c = bad_host (parts_at c.args.bytes.now c.args.fields.now c.args.spans.now) (sym (c.is_host_fault.ensures _ c.values_of.ensures) ∙ c.if-is_host_fault.true)

pub returns-then-is_some-clause-value : goal.returns-then-is_some-clause-value
returns-then-is_some-clause-value g c = bad_coding (parts_at c.args.bytes.now c.args.fields.now c.args.spans.now) (sym (c.is_host_fault.ensures _ c.values_of.ensures) ∙ c.if-is_host_fault.false)
    (sym (c.is_some.ensures _ c.values_of-2.ensures) ∙ c.if-is_some.true)

pub returns-then-not-begins_with_slash-clause-value : goal.returns-then-not-begins_with_slash-clause-value
returns-then-not-begins_with_slash-clause-value g c = bad_target (parts_at c.args.bytes.now c.args.fields.now c.args.spans.now) (sym (c.is_host_fault.ensures _ c.values_of.ensures) ∙ c.if-is_host_fault.false)
    (sym (c.is_some.ensures _ c.values_of-2.ensures) ∙ c.if-is_some.false)
    (ap (λ t. slice_index_or t 0 0 == slash) (sym c.of-target.ensures) ∙ sym c.begins_with_slash.ensures ∙ c.if-not-begins_with_slash.true)

pub returns-in_default-clause-value : goal.returns-in_default-clause-value
returns-in_default-clause-value g c =
    let parts = parts_at c.args.bytes.now c.args.fields.now c.args.spans.now in
    sym (at_route g (goal.at.returns-in_default-clause-value g c).After-route_of ∙ ap (judge_route parts) c.in_default.is)

pub returns-then-ne-clause-value : goal.returns-then-ne-clause-value
returns-then-ne-clause-value g c =
    let parts = parts_at c.args.bytes.now c.args.fields.now c.args.spans.now in
    sym (at_route g (goal.at.returns-then-ne-clause-value g c).After-route_of ∙ ap (judge_route parts) c.in-Some.is ∙ wrong_method parts c.in-Some.route (method_told g (goal.at.returns-then-ne-clause-value g c).After-ne ∙ c.if-ne.true))

pub returns-then-eq-clause-value : goal.returns-then-eq-clause-value
returns-then-eq-clause-value g c =
    let parts = parts_at c.args.bytes.now c.args.fields.now c.args.spans.now in
    sym (at_route g (goal.at.returns-then-eq-clause-value g c).After-route_of ∙ ap (judge_route parts) c.in-Some.is ∙ no_body parts c.in-Some.route (method_told g (goal.at.returns-then-eq-clause-value g c).After-ne ∙ c.if-ne.false)
    (ap (λ m. bytes_eq m (codes "GET")) (sym c.method-method.ensures.value) ∙ sym c.eq.ensures ∙ c.if-eq.true))

pub returns-clause-value : goal.returns-clause-value
returns-clause-value g c =
    let parts = parts_at c.args.bytes.now c.args.fields.now c.args.spans.now in
    c.judge_length.ensures.value _ c.values_of-3.ensures
    ∙ sym (at_route g (goal.at.returns-clause-value g c).After-route_of ∙ ap (judge_route parts) c.in-Some.is ∙ with_body parts c.in-Some.route (method_told g (goal.at.returns-clause-value g c).After-ne ∙ c.if-ne.false)
    (ap (λ m. bytes_eq m (codes "GET")) (sym c.method-method.ensures.value) ∙ sym c.eq.ensures ∙ c.if-eq.false))

pub returns-then-eq-clause-few : goal.returns-then-eq-clause-few
returns-then-eq-clause-few g c = none_few _

pub returns-clause-few : goal.returns-clause-few
returns-clause-few g c = c.judge_length.ensures.few

pub returns-then-is_host_fault-clause-few : goal.returns-then-is_host_fault-clause-few
returns-then-is_host_fault-clause-few g c = refused_few _

pub returns-then-is_some-clause-few : goal.returns-then-is_some-clause-few
returns-then-is_some-clause-few g c = refused_few _

pub returns-then-not-begins_with_slash-clause-few : goal.returns-then-not-begins_with_slash-clause-few
returns-then-not-begins_with_slash-clause-few g c = refused_few _

pub returns-in_default-clause-few : goal.returns-in_default-clause-few
returns-in_default-clause-few g c = refused_few _

pub returns-then-ne-clause-few : goal.returns-then-ne-clause-few
returns-then-ne-clause-few g c = refused_few _

pub values_of-requires : goal.values_of-requires
values_of-requires g c = fields_within c.args.bytes.now c.args.fields.now c.args.spans.now c.requires.within

pub values_of-requires-2 : goal.values_of-requires-2
values_of-requires-2 g c = fields_within c.args.bytes.now c.args.fields.now c.args.spans.now c.requires.within

pub values_of-requires-3 : goal.values_of-requires-3
values_of-requires-3 g c = fields_within c.args.bytes.now c.args.fields.now c.args.spans.now c.requires.within

pub route_of-requires : goal.route_of-requires
route_of-requires g c = subst IsUtf8 (sym c.of-target.ensures) c.requires.text
