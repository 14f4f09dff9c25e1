-- Answers that tell the same, and what each query tells is determined.
use Rattle.std.specs.Prelude.{◌≡◌, ◌⊎◌, ℕ, ◌+◌, ◌<◌, List, [], ◌∷◌, map}
use Rattle.std.proofs.Common.{sym, ap, ◌∙◌, subst, inl, inr, arith, refl}
use Rattle.std.proofs.Math.Nat.{le_antisymm}
use Rattle.std.specs.Cmp.{IsTotalOrder, nat_cmp_total, on_total, then_total}
use Rattle.std.specs.Cmp.Lexicographic.{nat_list_cmp_total}
use Rattle.std.specs.List.{All}
use Rattle.std.specs.declared.alloc.Global.{Global}
use Rattle.std.specs.declared.cmp.Ordering.TheVariants.{Less}
use Rattle.std.specs.declared.vec.Vec.{Vec}
use Rattle.std.proofs.lemmas.List.Elements.{All-head, All-tail}
use Rattle.mds_calendar.specs.Length.{count_of}
use Rattle.mds_names.specs.declared.stream.Stream.{Stream}
use Rattle.mds_terms.specs.Details.{DetailsValue}
use Rattle.mds_terms.specs.Event.{event_cmp}
use Rattle.mds_terms.specs.TermOrder.{event_total}
use Rattle.mds_statements.specs.declared.periods.Period.{Period}
use Rattle.mds_statements.specs.declared.periods.PeriodKey.{PeriodKey}
use Rattle.mds_world.proofs.Details.{one_details}
use Rattle.mds_world.proofs.Forms.{form_known, one_day_reading, one_size}
use Rattle.mds_world.specs.Current.{IsCurrentDetails, IsLastDay, IsLatest, IsStreamDetails}
use Rattle.mds_world.specs.World.{Agrees, IsKnownDay, World}
use Rattle.mds_keeper.specs.Queries.{AreKnownStreams, period_cmp, stream_cmp}
use Rattle.mds_keeper.specs.declared.day_book.Version.{Version}
use Rattle.mds_keeper.specs.declared.refusal.Refusal.{Refusal}
use Rattle.mds_keeper.specs.declared.refusal.RefusalCode.TheVariants.{UnknownDay}
use Rattle.mds_messages.specs.declared.answer.Answer.{Answer}
use Rattle.mds_messages.specs.declared.answer.Answer.TheVariants as told
use Rattle.mds_messages.specs.declared.answer.DayAnswer.{DayAnswer}
use Rattle.mds_messages.specs.declared.answer.PeriodAnswer.{PeriodAnswer}
use Rattle.mds_messages.specs.declared.answer.StreamAnswer.{StreamAnswer}
use Rattle.mds_messages.specs.declared.answer.VersionsAnswer.{VersionsAnswer}
use Rattle.mds_service.specs.Machine.{AreStreamAnswers, HasInterval, IsDayAnswer, IsPeriodAnswer, IsVersionsAnswer, TellsDay, TellsPeriods, TellsStreams, TellsVersions}
use Rattle.mds_service.specs.RangeAnswers.{IsPlaceless}
use Rattle.mds_laws.specs.Answered.{IsGiven}
use Rattle.mds_laws.specs.Determined.{AreSame, AreSamePeriods, AreSameVersions, IsSameDayTold}
use Rattle.mds_laws.proofs.OneList.{not_both_less, one_ascending, one_by_places, same_first}
use Rattle.mds_laws.proofs.OneRefusal.{one_refusal}
use Rattle.mds_laws.proofs.OneSelection.{stream_total}
use Rattle.mds_laws.proofs.ReturnedReadings.{one_latest}

-- answers that are such tell the same
pub told_same : (a b x y : Answer) → a ≡ x → b ≡ y → AreSame x y → AreSame a b
told_same a b x y e f same = subst (λ p. AreSame p b) (sym e) (subst (AreSame x) (sym f) same)

-- refusals without a number
one_unknown : (r s : Refusal) → IsPlaceless UnknownDay r → IsPlaceless UnknownDay s → r ≡ s
one_unknown r s a b = one_refusal r s (a.0 ∙ sym b.0) (a.1 ∙ sym b.1) (a.2 ∙ sym b.2) (a.3 ∙ sym b.3)

-- ---- a day

module _ (w : World) (agrees : Agrees w) (s : Stream) (d : ℕ) where
  -- a day has one list of events, and one answer with them
  one_events : (a b : DayAnswer) → IsDayAnswer w s d a → IsDayAnswer w s d b → a.events.items ≡ b.events.items
  one_events a b x y =
      one_ascending (λ p q. event_cmp p q ≡ Less) (not_both_less event_cmp event_total) a.events.items b.events.items
      x.ascending y.ascending
      (λ e m. (y.events.each e).1 ((x.events.each e).0 m))
      (λ e m. (x.events.each e).1 ((y.events.each e).0 m))

  one_day : (a b : DayAnswer) → IsDayAnswer w s d a → IsDayAnswer w s d b → IsSameDayTold a b
  one_day a b x y =
      let form = one_size w s d a.length b.length a.unit b.unit agrees x.form y.form in record {
        stream = x.stream ∙ sym y.stream;
        day = x.day ∙ sym y.day;
        length = form.0;
        unit = form.1;
        update = one_latest w s d b.length a.update b.update (subst (λ m. IsLatest w s d m a.update) form.0 x.update) y.update;
        readings = one_by_places a.readings.items b.readings.items (x.count ∙ ap count_of form.0 ∙ sym y.count)
            (λ k p q e f. one_day_reading w s d (k + 1) p q agrees (x.readings k p e) (y.readings k q f));
        events = one_events a b x y;
      }

  is_known : (a : DayAnswer) → IsDayAnswer w s d a → IsKnownDay w s d
  is_known a x = form_known w s d a.length a.unit x.form

  abbrev DayTold : Answer → Type 0
  DayTold answer =
      ((it : DayAnswer) × (answer ≡ told.Day it) × IsDayAnswer w s d it)
      ⊎ ((refusal : Refusal) × (answer ≡ told.Refused refusal) × (IsKnownDay w s d → ⊥) × IsPlaceless UnknownDay refusal)

  day_told : (answer : Answer) → TellsDay w s d answer → IsGiven answer → DayTold answer
  day_told (told.Imported added known) tells is_given = absurd tells
  day_told (told.Substituted count) tells is_given = absurd tells
  day_told (told.Known count) tells is_given = absurd tells
  day_told (told.HolidaysAdded added known) tells is_given = absurd tells
  day_told (told.Day it) tells is_given = inl (it, refl, tells)
  day_told (told.Versions it) tells is_given = absurd tells
  day_told (told.Period it) tells is_given = absurd tells
  day_told (told.Streams answers) tells is_given = absurd tells
  day_told (told.Gaps text) tells is_given = absurd tells
  day_told (told.Finals text) tells is_given = absurd tells
  day_told (told.Missing text) tells is_given = absurd tells
  day_told (told.Readings text) tells is_given = absurd tells
  day_told (told.Exported text) tells is_given = absurd tells
  day_told (told.File fault) tells is_given = absurd tells
  day_told (told.Refused refusal) tells is_given = inr (refusal, refl, tells.0, tells.1)
  day_told told.Unavailable tells is_given = absurd (is_given refl)

  pub same_day : (a b : Answer) → TellsDay w s d a → TellsDay w s d b → IsGiven a → IsGiven b → AreSame a b
  same_day a b x y is_given other_given = by (day_told a x is_given) (day_told b y other_given)
    where
      by : DayTold a → DayTold b → AreSame a b
      by (inl (it, e, p)) (inl (other, f, q)) = told_same a b _ _ e f (one_day it other p q)
      by (inl (it, e, p)) (inr (r, f, unknown, q)) = absurd (unknown (is_known it p))
      by (inr (r, e, unknown, p)) (inl (it, f, q)) = absurd (unknown (is_known it q))
      by (inr (r, e, unknown, p)) (inr (t, f, none, q)) = told_same a b _ _ e f (one_unknown r t p q)

-- ---- the versions of an interval

update_before : (a b : Version) → a.update < b.update → b.update < a.update → ⊥
update_before a b less more = omega (arith, less, more)

module _ (w : World) (s : Stream) (d i : ℕ) where
  one_versions : (a b : VersionsAnswer) → IsVersionsAnswer w s d i a → IsVersionsAnswer w s d i b → AreSameVersions a b
  one_versions a b x y = record {
    stream = x.stream ∙ sym y.stream;
    day = x.day ∙ sym y.day;
    interval = x.interval ∙ sym y.interval;
    versions = one_ascending (λ p q. p.update < q.update) update_before a.versions.items b.versions.items
        x.ascending y.ascending
        (λ v m. (y.each v).1 ((x.each v).0 m))
        (λ v m. (x.each v).1 ((y.each v).0 m));
  }

  abbrev VersionsTold : Answer → Type 0
  VersionsTold answer =
      ((it : VersionsAnswer) × (answer ≡ told.Versions it) × IsVersionsAnswer w s d i it)
      ⊎ ((refusal : Refusal) × (answer ≡ told.Refused refusal) × (HasInterval w s d i → ⊥) × IsPlaceless UnknownDay refusal)

  versions_told : (answer : Answer) → TellsVersions w s d i answer → IsGiven answer → VersionsTold answer
  versions_told (told.Imported added known) tells is_given = absurd tells
  versions_told (told.Substituted count) tells is_given = absurd tells
  versions_told (told.Known count) tells is_given = absurd tells
  versions_told (told.HolidaysAdded added known) tells is_given = absurd tells
  versions_told (told.Day it) tells is_given = absurd tells
  versions_told (told.Versions it) tells is_given = inl (it, refl, tells)
  versions_told (told.Period it) tells is_given = absurd tells
  versions_told (told.Streams answers) tells is_given = absurd tells
  versions_told (told.Gaps text) tells is_given = absurd tells
  versions_told (told.Finals text) tells is_given = absurd tells
  versions_told (told.Missing text) tells is_given = absurd tells
  versions_told (told.Readings text) tells is_given = absurd tells
  versions_told (told.Exported text) tells is_given = absurd tells
  versions_told (told.File fault) tells is_given = absurd tells
  versions_told (told.Refused refusal) tells is_given = inr (refusal, refl, tells.0, tells.1)
  versions_told told.Unavailable tells is_given = absurd (is_given refl)

  pub same_versions : (a b : Answer) → TellsVersions w s d i a → TellsVersions w s d i b → IsGiven a → IsGiven b
      → AreSame a b
  same_versions a b x y is_given other_given = by (versions_told a x is_given) (versions_told b y other_given)
    where
      by : VersionsTold a → VersionsTold b → AreSame a b
      by (inl (it, e, p)) (inl (other, f, q)) = told_same a b _ _ e f (one_versions it other p q)
      by (inl (it, e, p)) (inr (r, f, unknown, q)) = absurd (unknown p.has)
      by (inr (r, e, unknown, p)) (inl (it, f, q)) = absurd (unknown q.has)
      by (inr (r, e, unknown, p)) (inr (t, f, none, q)) = told_same a b _ _ e f (one_unknown r t p q)

-- ---- the accumulations of a stream

period_total : IsTotalOrder period_cmp
period_total =
    then_total (on_total (λ (k : PeriodKey). k.register) nat_list_cmp_total)
    (then_total (on_total (λ (k : PeriodKey). k.start) nat_cmp_total)
    (then_total (on_total (λ (k : PeriodKey). k.finish) nat_cmp_total) (on_total (λ (k : PeriodKey). k.update) nat_cmp_total)))

module _ (w : World) (s : Stream) where
  one_periods : (a b : PeriodAnswer) → IsPeriodAnswer w s a → IsPeriodAnswer w s b → AreSamePeriods a b
  one_periods a b x y = record {
    stream = x.stream ∙ sym y.stream;
    periods = one_ascending (λ (p q : Period). period_cmp p.key q.key ≡ Less)
        (λ p q. not_both_less period_cmp period_total p.key q.key) a.periods.items b.periods.items
        x.periods.ascending y.periods.ascending
        (λ p m. (y.periods.each p).1 ((x.periods.each p).0 m))
        (λ p m. (x.periods.each p).1 ((y.periods.each p).0 m));
  }

  period_told : (answer : Answer) → TellsPeriods w s answer → IsGiven answer
      → (it : PeriodAnswer) × (answer ≡ told.Period it) × IsPeriodAnswer w s it
  period_told (told.Imported added known) tells is_given = absurd tells
  period_told (told.Substituted count) tells is_given = absurd tells
  period_told (told.Known count) tells is_given = absurd tells
  period_told (told.HolidaysAdded added known) tells is_given = absurd tells
  period_told (told.Day it) tells is_given = absurd tells
  period_told (told.Versions it) tells is_given = absurd tells
  period_told (told.Period it) tells is_given = (it, refl, tells)
  period_told (told.Streams answers) tells is_given = absurd tells
  period_told (told.Gaps text) tells is_given = absurd tells
  period_told (told.Finals text) tells is_given = absurd tells
  period_told (told.Missing text) tells is_given = absurd tells
  period_told (told.Readings text) tells is_given = absurd tells
  period_told (told.Exported text) tells is_given = absurd tells
  period_told (told.File fault) tells is_given = absurd tells
  period_told (told.Refused refusal) tells is_given = absurd tells
  period_told told.Unavailable tells is_given = absurd (is_given refl)

  pub same_periods : (a b : Answer) → TellsPeriods w s a → TellsPeriods w s b → IsGiven a → IsGiven b → AreSame a b
  same_periods a b x y is_given other_given =
      let p = period_told a x is_given in
      let q = period_told b y other_given in
      told_same a b _ _ p.1 q.1 (one_periods p.0 q.0 p.2 q.2)

-- ---- the streams

-- a stream has one last known day
one_last_day : (w : World) (stream : Stream) (a b : ℕ) → IsLastDay w stream a → IsLastDay w stream b → a ≡ b
one_last_day w stream a b x y = le_antisymm (y.last a x.known) (x.last b y.known)

-- and one current details of that day
one_stream_details : (w : World) (stream : Stream) (d e : DetailsValue) → IsStreamDetails w stream d
    → IsStreamDetails w stream e → d ≡ e
one_stream_details w stream d e (inl (a, last, x)) (inl (b, other, y)) =
    one_details w stream b d e (subst (λ day. IsCurrentDetails w stream day d) (one_last_day w stream a b last other) x) y
one_stream_details w stream d e (inl (a, last, x)) (inr (none, y)) = absurd (none a last.known)
one_stream_details w stream d e (inr (none, x)) (inl (b, last, y)) = absurd (none b last.known)
one_stream_details w stream d e (inr (none, x)) (inr (never, y)) = x ∙ sym y

module _ (w : World) where
  abbrev stream_of : StreamAnswer → Stream
  stream_of answer = answer.stream

  abbrev HasDetails : StreamAnswer → Type 0
  HasDetails answer = IsStreamDetails w answer.stream answer.details

  with_details : (xs ys : List StreamAnswer) → map stream_of xs ≡ map stream_of ys → All HasDetails xs → All HasDetails ys
      → xs ≡ ys
  with_details [] [] e a b = refl
  with_details [] (y ∷ ys) e a b = cc
  with_details (x ∷ xs) [] e a b = cc
  with_details (x ∷ xs) (y ∷ ys) e a b =
      let same = same_first x.stream y.stream (map stream_of xs) (map stream_of ys) e in
      let details : x.details ≡ y.details = one_stream_details w y.stream x.details y.details
      (subst (λ s. IsStreamDetails w s x.details) same.0 (All-head HasDetails x xs a)) (All-head HasDetails y ys b) in
      let rest = with_details xs ys same.1 (All-tail HasDetails x xs a) (All-tail HasDetails y ys b) in
      λ i. record { stream = same.0 i; details = details i } ∷ rest i

  pub one_known : (xs ys : List Stream) → AreKnownStreams w xs → AreKnownStreams w ys → xs ≡ ys
  one_known xs ys a b =
      one_ascending (λ p q. stream_cmp p q ≡ Less) (not_both_less stream_cmp stream_total) xs ys a.ascending b.ascending
      (λ s m. (b.each s).1 ((a.each s).0 m))
      (λ s m. (a.each s).1 ((b.each s).0 m))

  one_streams : (xs ys : List StreamAnswer) → AreStreamAnswers w xs → AreStreamAnswers w ys → xs ≡ ys
  one_streams xs ys a b =
      with_details xs ys (one_known (map stream_of xs) (map stream_of ys) a.streams b.streams) a.details b.details

  streams_told : (answer : Answer) → TellsStreams w answer → IsGiven answer
      → (it : Vec StreamAnswer Global) × (answer ≡ told.Streams it) × AreStreamAnswers w it.items
  streams_told (told.Imported added known) tells is_given = absurd tells
  streams_told (told.Substituted count) tells is_given = absurd tells
  streams_told (told.Known count) tells is_given = absurd tells
  streams_told (told.HolidaysAdded added known) tells is_given = absurd tells
  streams_told (told.Day it) tells is_given = absurd tells
  streams_told (told.Versions it) tells is_given = absurd tells
  streams_told (told.Period it) tells is_given = absurd tells
  streams_told (told.Streams answers) tells is_given = (answers, refl, tells)
  streams_told (told.Gaps text) tells is_given = absurd tells
  streams_told (told.Finals text) tells is_given = absurd tells
  streams_told (told.Missing text) tells is_given = absurd tells
  streams_told (told.Readings text) tells is_given = absurd tells
  streams_told (told.Exported text) tells is_given = absurd tells
  streams_told (told.File fault) tells is_given = absurd tells
  streams_told (told.Refused refusal) tells is_given = absurd tells
  streams_told told.Unavailable tells is_given = absurd (is_given refl)

  pub same_streams : (a b : Answer) → TellsStreams w a → TellsStreams w b → IsGiven a → IsGiven b → AreSame a b
  same_streams a b x y is_given other_given =
      let p = streams_told a x is_given in
      let q = streams_told b y other_given in
      told_same a b _ _ p.1 q.1 (one_streams p.0.items q.0.items p.2 q.2)
