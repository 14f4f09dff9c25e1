-- What lines state, one line more.
use Rattle.std.proofs.Common.{◌≡◌, ℕ, ◌+◌, true, cond, List, [], ◌∷◌, ◌++◌, length, Option, Some, None, refl, sym, ◌∙◌, ap, subst, arith, append_assoc}
use Rattle.std.specs.Option.{is_some}
use Rattle.std.proofs.lemmas.List.{append-nil, length_push}
use Rattle.mds_lines.specs.declared.line.Kind.{Kind}
use Rattle.mds_lines.specs.declared.line.Kind.TheVariants as a
use Rattle.mds_statements.specs.Statements.{PeriodStatement, Statement}
use Rattle.mds_statements.specs.Statements.Statement.{HeaderOf, StreamOf, DetailsOf, DayOf, EventOf, PeriodOf}
use Rattle.mds_walk.specs.Governing.{is_this, last_kind_of, record_kind}
use Rattle.mds_walk.specs.Said.{header_in, is_headed}
use Rattle.mds_walk.proofs.Numbered.{last_kind_push, no_kind}
use Rattle.mds_nem13.specs.FileReaderSteps.{IsBlank, IsClosed, IsOpen, Knows, KnowsStated, last_kind, last_moment}
use Rattle.mds_nem13.specs.Place.{is_in_place}
use Rattle.mds_nem13.specs.Said.{note_in, period_in, with_notes}
use Rattle.mds_nem13.specs.Statements.{moment_of_header, notes_after, notes_from, stated_by, stated_from, statements}
use Rattle.mds_nem13.specs.declared.file_reader.LastRecord.{LastRecord}
use Rattle.mds_nem13.specs.declared.file_reader.LastRecord.TheVariants as state

-- a line is taken over from those that follow
over : (before : List (List ℕ)) (x : List ℕ) (more : List (List ℕ)) → (before ++ x ∷ []) ++ more ≡ before ++ x ∷ more
over before x more = append_assoc before (x ∷ []) more

-- what it states, and what those after it state
next : (moment : ℕ) (before : List (List ℕ)) (x : List ℕ) (kind : Option Kind) (more : List (List ℕ)) → record_kind x ≡ kind
    → stated_from moment (length before + 1) (x ∷ more)
    ≡ stated_by moment (length before + 1) kind x more ++ stated_from moment (length (before ++ x ∷ []) + 1) more
next moment before x kind more is =
    let size : length before + 1 + 1 ≡ length (before ++ x ∷ []) + 1 = omega (arith, length_push before x) in
    ap (λ k. stated_by moment (length before + 1) k x more ++ stated_from moment (length before + 1 + 1) more) is
    ∙ ap (λ n. stated_by moment (length before + 1) kind x more ++ stated_from moment n more) size

moment_at : (x : List ℕ) (kind : Option Kind) (more : List (List ℕ)) → record_kind x ≡ kind
    → moment_of_header (x ∷ more) ≡ cond (is_this a.Header kind) (header_in x).moment (moment_of_header more)
moment_at x kind more is = ap (λ k. cond (is_this a.Header k) (header_in x).moment (moment_of_header more)) is

notes_at : (x : List ℕ) (kind : Option Kind) (more : List (List ℕ)) → record_kind x ≡ kind
    → notes_after (x ∷ more) ≡ notes_from kind x (notes_after more)
notes_at x kind more is = ap (λ k. notes_from k x (notes_after more)) is

previous_at : (before : List (List ℕ)) (x : List ℕ) (kind : Option Kind) → record_kind x ≡ kind
    → last_kind_of (before ++ x ∷ []) ≡ cond (is_some kind) kind (last_kind_of before)
previous_at before x kind is = last_kind_push before x ∙ ap (λ k. cond (is_some k) k (last_kind_of before)) is

-- before the first line
pub knows_none : Knows [] state.Nothing []
knows_none = record {
  previous = no_kind;
  stated = record { none = refl; moment = λ more. refl; stated = λ moment more. refl };
}

-- a line that is no record changes nothing
blank_more : (before : List (List ℕ)) (x : List ℕ) (done : List Statement) → record_kind x ≡ None → IsBlank before done
    → IsBlank (before ++ x ∷ []) done
blank_more before x done is k = record {
  none = k.none;
  moment = λ more. ap moment_of_header (over before x more) ∙ k.moment (x ∷ more) ∙ moment_at x None more is;
  stated = λ moment more. ap (stated_from moment 1) (over before x more) ∙ k.stated moment (x ∷ more) ∙ next moment before x None more is;
}

closed_more : (before : List (List ℕ)) (x : List ℕ) (moment : ℕ) (done : List Statement) → record_kind x ≡ None → IsClosed before moment done
    → IsClosed (before ++ x ∷ []) moment done
closed_more before x moment done is k = record {
  headed = k.headed;
  moment_is = λ more. ap moment_of_header (over before x more) ∙ k.moment_is (x ∷ more);
  stated = λ more. ap (stated_from moment 1) (over before x more) ∙ k.stated (x ∷ more) ∙ ap (λ t. done ++ t) (next moment before x None more is);
}

open_more : (before : List (List ℕ)) (x : List ℕ) (moment : ℕ) (done : List Statement) → record_kind x ≡ None → IsOpen before moment done
    → IsOpen (before ++ x ∷ []) moment done
open_more before x moment done is k = record {
  front = k.front;
  period = k.period;
  done_is = k.done_is;
  headed = k.headed;
  moment_is = λ more. ap moment_of_header (over before x more) ∙ k.moment_is (x ∷ more);
  stated = λ more.
      let told = λ (notes : List (List (List ℕ))). k.front ++ PeriodOf (with_notes k.period notes) ∷ [] in
      ap (stated_from moment 1) (over before x more) ∙ k.stated (x ∷ more)
      ∙ ap (λ notes. told notes ++ stated_from moment (length before + 1) (x ∷ more)) (notes_at x None more is)
      ∙ ap (λ t. told (notes_after more) ++ t) (next moment before x None more is);
}

stated_blank : (last : LastRecord) (before : List (List ℕ)) (x : List ℕ) (done : List Statement) → record_kind x ≡ None
    → KnowsStated last before done → KnowsStated last (before ++ x ∷ []) done
stated_blank state.Nothing before x done is k = blank_more before x done is k
stated_blank (state.Header moment) before x done is k = closed_more before x moment done is k
stated_blank (state.Period moment) before x done is k = open_more before x moment done is k
stated_blank (state.Note moment) before x done is k = open_more before x moment done is k
stated_blank state.End before x done is k = (k.0, closed_more before x k.0 done is k.1)

pub knows_blank : (last : LastRecord) (before : List (List ℕ)) (x : List ℕ) (done : List Statement) → record_kind x ≡ None
    → Knows before last done → Knows (before ++ x ∷ []) last done
knows_blank last before x done is k = record {
  previous = previous_at before x None is ∙ k.previous;
  stated = stated_blank last before x done is k.stated;
}

-- Before a record that ends the notes the lines state what was told.
record IsReady (before : List (List ℕ)) (x : List ℕ) (moment : ℕ) (done : List Statement) : Type 0 where
  headed : is_headed done ≡ true
  moment_is : (more : List (List ℕ)) → moment_of_header (before ++ more) ≡ moment
  stated : (more : List (List ℕ)) → stated_from moment 1 (before ++ x ∷ more) ≡ done ++ stated_from moment (length before + 1) (x ∷ more)

closed_ready : (before : List (List ℕ)) (x : List ℕ) (moment : ℕ) (done : List Statement) → IsClosed before moment done
    → IsReady before x moment done
closed_ready before x moment done k = record { headed = k.headed; moment_is = k.moment_is; stated = λ more. k.stated (x ∷ more) }

headed_more : (front more : List Statement) → is_headed front ≡ true → is_headed (front ++ more) ≡ true
headed_more [] more e = absurd (cc)
headed_more (HeaderOf header ∷ rest) more e = refl
headed_more (StreamOf stream ∷ rest) more e = absurd (cc)
headed_more (DetailsOf details ∷ rest) more e = absurd (cc)
headed_more (DayOf day ∷ rest) more e = absurd (cc)
headed_more (EventOf event ∷ rest) more e = absurd (cc)
headed_more (PeriodOf period ∷ rest) more e = absurd (cc)

with_none : (period : PeriodStatement) → with_notes period [] ≡ period
with_none period =
    ap (λ notes. record period { content = record { fields = period.content.fields; notes = notes } }) (append-nil period.content.notes)

open_ready : (before : List (List ℕ)) (x : List ℕ) (kind : Option Kind) (moment : ℕ) (done : List Statement) → record_kind x ≡ kind
    → ((further : List (List (List ℕ))) → notes_from kind x further ≡ []) → IsOpen before moment done → IsReady before x moment done
open_ready before x kind moment done is ends k = record {
  headed = ap is_headed k.done_is ∙ headed_more k.front (PeriodOf k.period ∷ []) k.headed;
  moment_is = k.moment_is;
  stated = λ more.
      let told = λ (notes : List (List (List ℕ))). k.front ++ PeriodOf (with_notes k.period notes) ∷ [] in
      let rest = stated_from moment (length before + 1) (x ∷ more) in
      k.stated (x ∷ more)
      ∙ ap (λ notes. told notes ++ rest) (notes_at x kind more is ∙ ends (notes_after more))
      ∙ ap (λ (period : PeriodStatement). (k.front ++ PeriodOf period ∷ []) ++ rest) (with_none k.period)
      ∙ ap (λ t. t ++ rest) (sym k.done_is);
}

ready : (last : LastRecord) (before : List (List ℕ)) (x : List ℕ) (kind : Option Kind) (moment : ℕ) (done : List Statement) → record_kind x ≡ kind
    → ((further : List (List (List ℕ))) → notes_from kind x further ≡ []) → last_moment last ≡ Some moment → KnowsStated last before done
    → IsReady before x moment done
ready state.Nothing before x kind moment done is ends e k = absurd (cc)
ready (state.Header m) before x kind moment done is ends e k =
    let same : m ≡ moment = cc in closed_ready before x moment done (subst (λ (n : ℕ). IsClosed before n done) same k)
ready (state.Period m) before x kind moment done is ends e k =
    let same : m ≡ moment = cc in open_ready before x kind moment done is ends (subst (λ (n : ℕ). IsOpen before n done) same k)
ready (state.Note m) before x kind moment done is ends e k =
    let same : m ≡ moment = cc in open_ready before x kind moment done is ends (subst (λ (n : ℕ). IsOpen before n done) same k)
ready state.End before x kind moment done is ends e k = absurd (cc)

-- where a 250 may follow, the header was told
pub headed_at : (last : LastRecord) (before : List (List ℕ)) (x : List ℕ) (moment : ℕ) (done : List Statement)
    → record_kind x ≡ Some a.AccumulationData → last_moment last ≡ Some moment → Knows before last done → is_headed done ≡ true
headed_at last before x moment done is e k =
    (ready last before x (Some a.AccumulationData) moment done is (λ further. refl) e k.stated).headed

-- a 250
pub knows_period : (last : LastRecord) (before : List (List ℕ)) (x : List ℕ) (moment : ℕ) (done : List Statement)
    → record_kind x ≡ Some a.AccumulationData → last_moment last ≡ Some moment → Knows before last done
    → Knows (before ++ x ∷ []) (state.Period moment) (done ++ PeriodOf (period_in moment (length before + 1) x []) ∷ [])
knows_period last before x moment done is e k =
    let r = ready last before x (Some a.AccumulationData) moment done is (λ further. refl) e k.stated in
    let period = period_in moment (length before + 1) x [] in
    record {
      previous = previous_at before x (Some a.AccumulationData) is;
      stated = record {
        front = done;
        period = period;
        done_is = refl;
        headed = r.headed;
        moment_is = λ more. ap moment_of_header (over before x more) ∙ r.moment_is (x ∷ more);
        stated = λ more.
            let rest = stated_from moment (length (before ++ x ∷ []) + 1) more in
            ap (stated_from moment 1) (over before x more) ∙ r.stated more
            ∙ ap (λ t. done ++ t) (next moment before x (Some a.AccumulationData) more is)
            ∙ sym (append_assoc done (PeriodOf (with_notes period (notes_after more)) ∷ []) rest);
      };
    }

-- a 900
pub knows_end : (last : LastRecord) (before : List (List ℕ)) (x : List ℕ) (moment : ℕ) (done : List Statement)
    → record_kind x ≡ Some a.EndOfData → last_moment last ≡ Some moment → Knows before last done
    → Knows (before ++ x ∷ []) state.End done
knows_end last before x moment done is e k =
    let r = ready last before x (Some a.EndOfData) moment done is (λ further. refl) e k.stated in
    record {
      previous = previous_at before x (Some a.EndOfData) is;
      stated = (
        moment,
        record {
          headed = r.headed;
          moment_is = λ more. ap moment_of_header (over before x more) ∙ r.moment_is (x ∷ more);
          stated = λ more.
              ap (stated_from moment 1) (over before x more) ∙ r.stated more
              ∙ ap (λ t. done ++ t) (next moment before x (Some a.EndOfData) more is);
        },
      );
    }

-- a 550
note_open : (before : List (List ℕ)) (x : List ℕ) (moment : ℕ) (done : List Statement) (k : IsOpen before moment done)
    → record_kind x ≡ Some a.AccumulationB2bDetails
    → IsOpen (before ++ x ∷ []) moment (k.front ++ PeriodOf (with_notes k.period (note_in x ∷ [])) ∷ [])
note_open before x moment done k is = record {
  front = k.front;
  period = with_notes k.period (note_in x ∷ []);
  done_is = refl;
  headed = k.headed;
  moment_is = λ more. ap moment_of_header (over before x more) ∙ k.moment_is (x ∷ more);
  stated = λ more.
      let told = λ (notes : List (List (List ℕ))). k.front ++ PeriodOf (with_notes k.period notes) ∷ [] in
      let with = λ (notes : List (List (List ℕ))).
      k.front ++ PeriodOf (record k.period { content = record { fields = k.period.content.fields; notes = notes } }) ∷ [] in
      let rest = stated_from moment (length (before ++ x ∷ []) + 1) more in
      ap (stated_from moment 1) (over before x more) ∙ k.stated (x ∷ more)
      ∙ ap (λ notes. told notes ++ stated_from moment (length before + 1) (x ∷ more)) (notes_at x (Some a.AccumulationB2bDetails) more is)
      ∙ ap (λ t. told (note_in x ∷ notes_after more) ++ t) (next moment before x (Some a.AccumulationB2bDetails) more is)
      ∙ ap (λ notes. with notes ++ rest) (sym (append_assoc k.period.content.notes (note_in x ∷ []) (notes_after more)));
}

-- what was told before a 550
pub record IsAtPeriod (before : List (List ℕ)) (moment : ℕ) (x : List ℕ) (done : List Statement) : Type 0 where
  pub front : List Statement
  pub period : PeriodStatement
  pub done_is : done ≡ front ++ PeriodOf period ∷ []
  pub headed : is_headed front ≡ true
  pub next : Knows (before ++ x ∷ []) (state.Note moment) (front ++ PeriodOf (with_notes period (note_in x ∷ [])) ∷ [])

at_open : (before : List (List ℕ)) (x : List ℕ) (moment : ℕ) (done : List Statement) → record_kind x ≡ Some a.AccumulationB2bDetails
    → IsOpen before moment done → IsAtPeriod before moment x done
at_open before x moment done is k = record {
  front = k.front;
  period = k.period;
  done_is = k.done_is;
  headed = k.headed;
  next = record { previous = previous_at before x (Some a.AccumulationB2bDetails) is; stated = note_open before x moment done k is };
}

pub at_period : (last : LastRecord) (before : List (List ℕ)) (x : List ℕ) (moment : ℕ) (done : List Statement)
    → record_kind x ≡ Some a.AccumulationB2bDetails → is_in_place (last_kind last) a.AccumulationB2bDetails ≡ true
    → last_moment last ≡ Some moment → Knows before last done → IsAtPeriod before moment x done
at_period state.Nothing before x moment done is place e k = absurd (cc)
at_period (state.Header m) before x moment done is place e k = absurd (cc)
at_period (state.Period m) before x moment done is place e k =
    let same : m ≡ moment = cc in at_open before x moment done is (subst (λ (n : ℕ). IsOpen before n done) same k.stated)
at_period (state.Note m) before x moment done is place e k =
    let same : m ≡ moment = cc in at_open before x moment done is (subst (λ (n : ℕ). IsOpen before n done) same k.stated)
at_period state.End before x moment done is place e k = absurd (cc)

-- a 100
pub nothing_told : (last : LastRecord) (before : List (List ℕ)) (done : List Statement) → is_in_place (last_kind last) a.Header ≡ true
    → Knows before last done → IsBlank before done
nothing_told state.Nothing before done place k = k.stated
nothing_told (state.Header m) before done place k = absurd (cc)
nothing_told (state.Period m) before done place k = absurd (cc)
nothing_told (state.Note m) before done place k = absurd (cc)
nothing_told state.End before done place k = absurd (cc)

pub knows_header : (before : List (List ℕ)) (x : List ℕ) (moment : ℕ) (done : List Statement) → record_kind x ≡ Some a.Header
    → (header_in x).moment ≡ moment → IsBlank before done
    → Knows (before ++ x ∷ []) (state.Header moment) (HeaderOf (header_in x) ∷ [])
knows_header before x moment done is e b = record {
  previous = previous_at before x (Some a.Header) is;
  stated = record {
    headed = refl;
    moment_is = λ more. ap moment_of_header (over before x more) ∙ b.moment (x ∷ more) ∙ moment_at x (Some a.Header) more is ∙ e;
    stated = λ more. ap (stated_from moment 1) (over before x more) ∙ b.stated moment (x ∷ more) ∙ next moment before x (Some a.Header) more is;
  };
}

-- all that a file states was told
pub told_all : (before : List (List ℕ)) (done : List Statement) → Knows before state.End done
    → (statements before ≡ done) × (is_headed done ≡ true)
unfolding statements
told_all before done k =
    let moment = k.stated.0 in
    let closed = k.stated.1 in
    let all = append-nil before in (
      ap (λ m. stated_from m 1 before) (ap moment_of_header (sym all) ∙ closed.moment_is [])
          ∙ ap (stated_from moment 1) (sym all) ∙ closed.stated [] ∙ append-nil done,
      closed.headed,
    )
