-- What is printed of statements, one statement more.
use Rattle.std.proofs.Common.{◌≡◌, ℕ, List, [], ◌∷◌, ◌++◌, Some, refl, sym, ◌∙◌, ap, subst, append_assoc}
use Rattle.std.proofs.lemmas.List.{append-nil}
use Rattle.mds_calendar.specs.Calendar.{day_of, moment_of}
use Rattle.mds_names.specs.declared.stream.Stream.{Stream}
use Rattle.mds_statements.specs.Statements.{DayStatement, DetailsStatement, PeriodStatement, Statement}
use Rattle.mds_statements.specs.Statements.Statement.{HeaderOf, StreamOf, DetailsOf, DayOf, EventOf, PeriodOf}
use Rattle.mds_nem13.specs.Said.{with_notes}
use Rattle.mds_check.specs.Report.{day_line, kept_field, period_line, IsReport}

-- the lines of statements and of further ones
report_append : (done more : List Statement) (a b : List ℕ) → IsReport done a → IsReport more b → IsReport (done ++ more) (a ++ b)
report_append [] more a b h k = subst (λ (t : List ℕ). IsReport more (t ++ b)) (sym h) k
report_append (HeaderOf header ∷ done) more a b h k = report_append done more a b h k
report_append (StreamOf stream ∷ done) more a b h k = report_append done more a b h k
report_append (DetailsOf details ∷ done) more a b h k = report_append done more a b h k
report_append (DayOf day ∷ done) more a b h k = (
  h.0,
  h.1 ++ b,
  h.2,
  ap (λ t. t ++ b) h.3 ∙ append_assoc (day_line day h.0) h.1 b,
  report_append done more h.1 b h.4 k,
)
report_append (EventOf event ∷ done) more a b h k = report_append done more a b h k
report_append (PeriodOf p ∷ done) more a b h k = (
  h.0,
  h.1,
  h.2 ++ b,
  h.3,
  h.4,
  ap (λ t. t ++ b) h.5
      ∙ append_assoc (period_line p.key.stream h.0 h.1 (kept_field 19 p.content) (kept_field 20 p.content)) h.2 b,
  report_append done more h.2 b h.6 k,
)

-- a day has its line, and its details have none
pub report_push : (done : List Statement) (details : DetailsStatement) (day : DayStatement) (date text : List ℕ) → IsReport done text
    → day_of date ≡ Some day.date → IsReport (done ++ DetailsOf details ∷ DayOf day ∷ []) (text ++ day_line day date)
report_push done details day date text h is =
    report_append done (DetailsOf details ∷ DayOf day ∷ []) text (day_line day date) h
    (date, [], is, sym (append-nil (day_line day date)), refl)

-- an accumulation has its line
pub report_push_period : (done : List Statement) (p : PeriodStatement) (start finish quantity unit text new : List ℕ) (stream : Stream)
    → IsReport done text → stream ≡ p.key.stream → moment_of start ≡ Some p.key.start → moment_of finish ≡ Some p.key.finish
    → quantity ≡ kept_field 19 p.content → unit ≡ kept_field 20 p.content
    → new ≡ text ++ period_line stream start finish quantity unit → IsReport (done ++ PeriodOf p ∷ []) new
report_push_period done p start finish quantity unit text new stream h same starts finishes amount measure is =
    let line : List ℕ = period_line p.key.stream start finish (kept_field 19 p.content) (kept_field 20 p.content) in
    let one : period_line stream start finish quantity unit ≡ line = λ i. period_line (same i) start finish (amount i) (measure i) in
    subst (IsReport (done ++ PeriodOf p ∷ [])) (sym (is ∙ ap (λ t. text ++ t) one))
    (report_append done (PeriodOf p ∷ []) text line h (start, finish, [], starts, finishes, sym (append-nil line), refl))

-- what is printed of an accumulation doesn't turn on its notes
pub report_noted : (done : List Statement) (p : PeriodStatement) (notes : List (List (List ℕ))) (text : List ℕ)
    → IsReport (done ++ PeriodOf p ∷ []) text → IsReport (done ++ PeriodOf (with_notes p notes) ∷ []) text
report_noted [] p notes text h = h
report_noted (HeaderOf header ∷ done) p notes text h = report_noted done p notes text h
report_noted (StreamOf stream ∷ done) p notes text h = report_noted done p notes text h
report_noted (DetailsOf details ∷ done) p notes text h = report_noted done p notes text h
report_noted (DayOf day ∷ done) p notes text h = (h.0, h.1, h.2, h.3, report_noted done p notes h.1 h.4)
report_noted (EventOf event ∷ done) p notes text h = report_noted done p notes text h
report_noted (PeriodOf other ∷ done) p notes text h = (h.0, h.1, h.2, h.3, h.4, h.5, report_noted done p notes h.2 h.6)

-- a statement of which nothing is printed leaves the text as it is
pub report_kept : (done : List Statement) (statement : Statement) (text : List ℕ) → IsReport (statement ∷ []) [] → IsReport done text
    → IsReport (done ++ statement ∷ []) text
report_kept done statement text none h =
    subst (IsReport (done ++ statement ∷ [])) (append-nil text) (report_append done (statement ∷ []) text [] h none)
