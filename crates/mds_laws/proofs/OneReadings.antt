-- The register of readings is determined.
use Rattle.std.specs.Prelude.{◌≡◌, ℕ, ◌<◌, List}
use Rattle.std.proofs.Common.{ap, subst, inl, inr, arith, refl}
use Rattle.mds_names.specs.declared.stream.Stream.{Stream}
use Rattle.mds_world.specs.World.{Agrees, World}
use Rattle.mds_registers.specs.Readings.{IsReadingsText}
use Rattle.mds_registers.proofs.ReadingLaws.{one_readings_text}
use Rattle.mds_ranges.specs.Ranges.{IsTooWide}
use Rattle.mds_messages.specs.Answers.TextKind.{ReadingsText}
use Rattle.mds_messages.specs.declared.answer.Answer.{Answer}
use Rattle.mds_messages.specs.declared.answer.Answer.TheVariants as told
use Rattle.mds_service.specs.RangeAnswers.{AreDaysIn, TellsReadings}
use Rattle.mds_laws.specs.Answered.{IsGiven}
use Rattle.mds_laws.specs.Determined.{AreSame}
use Rattle.mds_laws.proofs.OneList.{one_ascending}
use Rattle.mds_laws.proofs.OneRange.{TextTold, same_told}

module _ (w : World) (agrees : Agrees w) (s : Stream) (first last : ℕ) where
  less_never : (a b : ℕ) → a < b → b < a → ⊥
  less_never a b p q = omega (arith, p, q)

  pub one_days : (xs ys : List ℕ) → AreDaysIn w s first last xs → AreDaysIn w s first last ys → xs ≡ ys
  one_days xs ys a b =
      one_ascending (λ p q. p < q) less_never xs ys a.ascending b.ascending
      (λ day m. (b.each day).1 ((a.each day).0 m))
      (λ day m. (a.each day).1 ((b.each day).0 m))

  abbrev IsReadingsOf : List ℕ → Type 0
  IsReadingsOf text = (days : List ℕ) × AreDaysIn w s first last days × IsReadingsText w s days text

  one_readings : (a b : List ℕ) → IsReadingsOf a → IsReadingsOf b → a ≡ b
  one_readings a b (days, x, p) (others, y, q) =
      let same = one_days days others x y in
      one_readings_text w s others a b agrees (subst (λ (ds : List ℕ). IsReadingsText w s ds a) same p) q

  readings_told : (answer : Answer) → TellsReadings w s first last answer → IsGiven answer
      → TextTold told.Readings (λ a b e. ap (λ (t : List ℕ). (ReadingsText, t)) e) IsReadingsOf one_readings (IsTooWide first last) answer
  readings_told (told.Imported added known) tells is_given = absurd tells
  readings_told (told.Substituted count) tells is_given = absurd tells
  readings_told (told.Known count) tells is_given = absurd tells
  readings_told (told.HolidaysAdded added known) tells is_given = absurd tells
  readings_told (told.Day it) tells is_given = absurd tells
  readings_told (told.Versions it) tells is_given = absurd tells
  readings_told (told.Period it) tells is_given = absurd tells
  readings_told (told.Streams answers) tells is_given = absurd tells
  readings_told (told.Gaps text) tells is_given = absurd tells
  readings_told (told.Finals text) tells is_given = absurd tells
  readings_told (told.Missing text) tells is_given = absurd tells
  readings_told (told.Readings text) tells is_given = inl (text, refl, tells.0, (tells.1, tells.2, tells.3))
  readings_told (told.Exported text) tells is_given = absurd tells
  readings_told (told.File fault) tells is_given = absurd tells
  readings_told (told.Refused refusal) tells is_given = inr (refusal, refl, tells.0, tells.1)
  readings_told told.Unavailable tells is_given = absurd (is_given refl)

  pub same_readings : (a b : Answer) → TellsReadings w s first last a → TellsReadings w s first last b → IsGiven a
      → IsGiven b → AreSame a b
  same_readings a b x y is_given other_given =
      same_told told.Readings (λ a b e. ap (λ (t : List ℕ). (ReadingsText, t)) e) IsReadingsOf one_readings (IsTooWide first last) a b
      (readings_told a x is_given) (readings_told b y other_given)
