-- The bytes of an answer (RFC 9112, sections 4 to 6; the fields and the bodies are the profile's). The digits and
-- the phrase of a status are those of `http`.
use Rattle.std.specs.Prelude.{ℕ, List, [], ◌++◌, codes, decimal, unwrap_or}
use Rattle.http.specs.StatusCode.{code_digits, reason_phrase}
use Rattle.mds_wire.specs.declared.answer.Status.{Status}
use Rattle.mds_wire.specs.declared.answer.Status.TheVariants.{Success, BadRequest, NotFound, MethodNotAllowed, Conflict, LengthRequired, ContentTooLarge, Unprocessable, FieldsTooLarge, NotImplemented, Unavailable}
use Rattle.mds_wire.specs.declared.answer.Kind.{Kind}
use Rattle.mds_wire.specs.declared.answer.Kind.TheVariants.{Json, Csv}
use Rattle.mds_wire.specs.Routes.{method_of}

-- the number of a status (RFC 9110, section 15)
abbrev pub number_of : Status → ℕ
number_of Success = 200
number_of BadRequest = 400
number_of NotFound = 404
number_of (MethodNotAllowed route) = 405
number_of Conflict = 409
number_of LengthRequired = 411
number_of ContentTooLarge = 413
number_of Unprocessable = 422
number_of FieldsTooLarge = 431
number_of NotImplemented = 501
number_of Unavailable = 503

-- its phrase
abbrev pub phrase_of : Status → List ℕ
phrase_of status = unwrap_or (reason_phrase (number_of status)) []

-- the type of a body
abbrev pub kind_text : Kind → List ℕ
kind_text Json = codes "application/json"
kind_text Csv = codes "text/csv"

-- for 405, the method that is allowed (RFC 9110, section 15.5.6)
abbrev pub allow_line : Status → List ℕ
allow_line (MethodNotAllowed route) = codes "Allow: " ++ method_of route ++ codes "\r\n"
allow_line status = []

-- the bytes before the body
abbrev pub head_text : Status → Kind → ℕ → List ℕ
head_text status kind size =
    codes "HTTP/1.1 " ++ code_digits (number_of status) ++ codes " " ++ phrase_of status
    ++ codes "\r\nContent-Type: " ++ kind_text kind ++ codes "\r\nContent-Length: " ++ decimal size
    ++ codes "\r\nConnection: close\r\n" ++ allow_line status ++ codes "\r\n"

-- room for all of them
abbrev pub longest_answer_head : ℕ
longest_answer_head = 256

-- what a refusal names: that the store or memory was unavailable, else the status
abbrev pub error_of : Status → List ℕ
error_of Unavailable = codes "U1"
error_of status = code_digits (number_of status)

-- the body of an answer that only says why nothing was done
abbrev pub refusal_body : Status → List ℕ
refusal_body status = codes "{\"error\":\"" ++ error_of status ++ codes "\"}"
