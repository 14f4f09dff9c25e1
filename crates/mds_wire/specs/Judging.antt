-- What a head means: the answer of the first check that fails, or the route and the length of the body. RFC 9112,
-- sections 3.2, 6.1 and 6.3, and RFC 9110, sections 8.6 and 15.5. `httparse` takes only targets in UTF-8: any other
-- begins no head.
use Rattle.std.specs.Prelude.{ℕ, Bool, true, false, ◌==◌, ◌&&◌, not, nat_lt, List, [], ◌∷◌, length, map, take, drop, ◌+◌, Option, Some, None, if◌then◌else◌, codes, bytes_eq, slice_index_or}
use Rattle.std.specs.List.{list_all, position_or_len}
use Rattle.std.specs.Char.{is_ascii_digit}
use Rattle.std.specs.Str.{str_eq_ignore_ascii_case}
use Rattle.std.specs.Str.Parse.{digits_value}
use Rattle.httparse.specs.Grammar.{RequestHead}
use Rattle.httparse.specs.Spans.{span_bytes, header_bytes, name_and_value}
use Rattle.httparse.specs.declared.spans.HeaderSpan.{HeaderSpan}
use Rattle.httparse.specs.declared.spans.RequestSpans.{RequestSpans}
use Rattle.mds_wire.specs.declared.answer.Status.TheVariants.{BadRequest, NotFound, MethodNotAllowed, LengthRequired, ContentTooLarge, NotImplemented}
use Rattle.mds_wire.specs.declared.judge.Judged.{Judged}
use Rattle.mds_wire.specs.declared.judge.Judged.TheVariants.{Refused, Wanted}
use Rattle.mds_wire.specs.declared.route.Route.{Route}
use Rattle.mds_wire.specs.Routes.{slash, route_of, method_of}

-- the most bytes of a body
abbrev pub longest_body : ℕ
longest_body = 8388608

-- the parts of a head that are looked at; each field is its name and its value, without the white space around it
pub record Parts : Type 0 where
  pub method : List ℕ
  pub target : List ℕ
  pub minor : ℕ
  pub fields : List (List ℕ × List ℕ)

-- those of a head
abbrev pub parts_of : RequestHead → Parts
parts_of head = record {
  method = head.method;
  target = head.target;
  minor = head.minor;
  fields = map name_and_value head.fields;
}

-- those that the spans show
abbrev pub parts_at : List ℕ → List HeaderSpan → RequestSpans → Parts
parts_at bytes fields spans = record {
  method = span_bytes bytes spans.method;
  target = span_bytes bytes spans.path;
  minor = spans.version;
  fields = map (header_bytes bytes) (take spans.headers fields);
}

-- the values of the fields with a name, whatever the case of its letters
abbrev pub values_in : List ℕ → List (List ℕ × List ℕ) → List (List ℕ)
values_in name [] = []
values_in name (f ∷ fields) =
    if str_eq_ignore_ascii_case f.0 name then f.1 ∷ values_in name fields else values_in name fields

-- HTTP/1.1 without a Host field, or any version with more than one
abbrev pub is_host_fault : ℕ → List (List ℕ) → Bool
is_host_fault minor [] = minor == 1
is_host_fault minor (value ∷ []) = false
is_host_fault minor (value ∷ other ∷ values) = true

-- the place of the first question mark, or the length
abbrev pub mark_place : List ℕ → ℕ
mark_place target = position_or_len (λ byte. byte == 63) target

-- the path ends before it
abbrev pub path_of : List ℕ → List ℕ
path_of target = take (mark_place target) target

-- and the query is what follows it
abbrev pub query_of : List ℕ → List ℕ
query_of target = drop (mark_place target + 1) target

-- one Content-Length field, with only digits
abbrev pub judge_length : Route → List (List ℕ) → Judged
judge_length route [] = Refused LengthRequired
judge_length route (value ∷ other ∷ values) = Refused BadRequest
judge_length route (value ∷ []) =
    if not (nat_lt 0 (length value) && list_all is_ascii_digit value) then Refused BadRequest
    else if nat_lt longest_body (digits_value 10 value) then Refused ContentTooLarge
    else Wanted route (digits_value 10 value)

-- the body of a GET isn't read
abbrev pub judge_body : Route → List (List ℕ) → Judged
judge_body route lengths =
    if bytes_eq (method_of route) (codes "GET") then Wanted route 0 else judge_length route lengths

-- the route and its method
abbrev pub judge_route : Parts → Option Route → Judged
judge_route parts None = Refused NotFound
judge_route parts (Some route) =
    if not (bytes_eq parts.method (method_of route)) then Refused (MethodNotAllowed route)
    else judge_body route (values_in (codes "content-length") parts.fields)

-- the checks: the first that fails
abbrev pub judge : Parts → Judged
judge parts =
    if is_host_fault parts.minor (values_in (codes "host") parts.fields) then Refused BadRequest
    else if nat_lt 0 (length (values_in (codes "transfer-encoding") parts.fields)) then Refused NotImplemented
    else if not (slice_index_or parts.target 0 0 == slash) then Refused BadRequest
    else judge_route parts (route_of (path_of parts.target))
