-- What a range of days is answered with is determined.
use Rattle.std.specs.Prelude.{◌≡◌, ◌⊎◌, ℕ, ◌<◌, List, [], ◌∷◌, ◌++◌, Option}
use Rattle.std.proofs.Common.{sym, ap, ◌∙◌, subst, inl, inr, arith, refl}
use Rattle.std.specs.declared.alloc.Global.{Global}
use Rattle.std.specs.declared.vec.Vec.{Vec}
use Rattle.mds_calendar.proofs.Days.{one_day_text}
use Rattle.mds_names.specs.declared.stream.Stream.{Stream}
use Rattle.mds_statements.specs.Statements.{HeaderValue}
use Rattle.mds_world.specs.World.{Agrees, World}
use Rattle.mds_keeper.specs.Queries.{AreKnownStreams}
use Rattle.mds_keeper.specs.declared.refusal.Refusal.{Refusal}
use Rattle.mds_keeper.specs.declared.refusal.RefusalCode.TheVariants.{RangeTooWide}
use Rattle.mds_registers.specs.Registers.{AreRows as AreTextRows, AreGapRowsText, IsFinalsText, IsGapsText, final_fields, gap_fields, gaps_head_text}
use Rattle.mds_registers.specs.declared.writing.FinalRow.{FinalRow}
use Rattle.mds_registers.specs.declared.writing.GapRow.{GapRow}
use Rattle.mds_statements.specs.declared.selected.SelectedStream.{SelectedStream}
use Rattle.mds_export.specs.Shows.{Shows}
use Rattle.mds_ranges.specs.Selections.{IsSelection}
use Rattle.mds_ranges.specs.Ranges.{AreFinalRows, AreGapRows, AreRows, IsTooWide}
use Rattle.mds_messages.specs.Answers.TextKind.{ExportText, FinalsText, GapsText, MissingText}
use Rattle.mds_messages.specs.declared.answer.Answer.{Answer}
use Rattle.mds_messages.specs.declared.answer.Answer.TheVariants as told
use Rattle.mds_export.specs.Exports.{AreInTurn}
use Rattle.mds_service.specs.RangeAnswers.{AsksTooMuch, IsMissingOf, IsPlaceless, TellsExport, TellsFinals, TellsGaps, TellsMissing}
use Rattle.mds_laws.specs.Answered.{IsGiven}
use Rattle.mds_laws.specs.Determined.{AreSame}
use Rattle.mds_laws.proofs.OneList.{one_ascending}
use Rattle.mds_laws.proofs.OneQuery.{one_known, told_same}
use Rattle.mds_laws.proofs.OneRefusal.{one_refusal}
use Rattle.mds_laws.proofs.OneSelection.{one_export}

one_too_wide : (r s : Refusal) → IsPlaceless RangeTooWide r → IsPlaceless RangeTooWide s → r ≡ s
one_too_wide r s a b = one_refusal r s (a.0 ∙ sym b.0) (a.1 ∙ sym b.1) (a.2 ∙ sym b.2) (a.3 ∙ sym b.3)

-- ---- registers

module _ {Row : Type 0} (day_in first_in : Row → ℕ) where
  abbrev IsBefore : Row → Row → Type 0
  IsBefore a b = (day_in a < day_in b) ⊎ ((day_in a ≡ day_in b) × (first_in a < first_in b))

  never : (a b : Row) → IsBefore a b → IsBefore b a → ⊥
  never a b (inl x) (inl y) = omega (arith, x, y)
  never a b (inl x) (inr (y, z)) = omega (arith, x, y)
  never a b (inr (x, z)) (inl y) = omega (arith, x, y)
  never a b (inr (x, z)) (inr (y, u)) = omega (arith, z, u)

  pub one_rows : (IsSuch : Row → Type 0) (first last : ℕ) (xs ys : List Row) → AreRows day_in first_in IsSuch first last xs
      → AreRows day_in first_in IsSuch first last ys → xs ≡ ys
  one_rows IsSuch first last xs ys a b =
      one_ascending IsBefore never xs ys a.ascending b.ascending
      (λ row m. (b.each row).1 ((a.each row).0 m))
      (λ row m. (a.each row).1 ((b.each row).0 m))

  pub one_text : (fields : Row → List ℕ → List (List ℕ)) (rows : List Row) (a b : List ℕ) → AreTextRows day_in fields rows a
      → AreTextRows day_in fields rows b → a ≡ b
  one_text fields [] a b x y = x ∙ sym y
  one_text fields (row ∷ rows) a b (date, rest, is, e, more) (other, left, are, f, others) =
      let day = one_day_text date other (day_in row) is are in
      let later = one_text fields rows rest left more others in
      cc (e, f, day, later)

one_gaps_text : (stream : Stream) (rows : List GapRow) (a b : List ℕ) → IsGapsText stream rows a → IsGapsText stream rows b
    → a ≡ b
one_gaps_text stream rows a b (rest, e, x) (left, f, y) =
    let same = one_text (λ row. row.day) (λ row. row.gap.first) (gap_fields stream) rows rest left x y in
    cc (e, f, same)

one_finals_text : (stream : Stream) (rows : List FinalRow) (a b : List ℕ) → IsFinalsText stream rows a
    → IsFinalsText stream rows b → a ≡ b
one_finals_text stream rows a b (rest, e, x) (left, f, y) =
    let same = one_text (λ row. row.day) (λ row. row.stretch.first) (final_fields stream) rows rest left x y in
    cc (e, f, same)

-- a text of one kind, or that the range is too wide
module _ (make : Vec ℕ Global → Answer) (same_text : (a b : Vec ℕ Global) → a.items ≡ b.items → AreSame (make a) (make b))
    (IsText : List ℕ → Type 0) (one : (a b : List ℕ) → IsText a → IsText b → a ≡ b) (TooMuch : Type 0) where
  abbrev pub TextTold : Answer → Type 0
  TextTold answer =
      ((text : Vec ℕ Global) × (answer ≡ make text) × (TooMuch → ⊥) × IsText text.items)
      ⊎ ((refusal : Refusal) × (answer ≡ told.Refused refusal) × TooMuch × IsPlaceless RangeTooWide refusal)

  pub same_told : (a b : Answer) → TextTold a → TextTold b → AreSame a b
  same_told a b (inl (text, e, few, x)) (inl (other, f, less, y)) =
      told_same a b _ _ e f (same_text text other (one text.items other.items x y))
  same_told a b (inl (text, e, few, x)) (inr (r, f, much, y)) = absurd (few much)
  same_told a b (inr (r, e, much, x)) (inl (text, f, few, y)) = absurd (few much)
  same_told a b (inr (r, e, much, x)) (inr (s, f, more, y)) = told_same a b _ _ e f (one_too_wide r s x y)

module _ (w : World) (stream : Stream) (first last : ℕ) where
  abbrev IsGapsOf : List ℕ → Type 0
  IsGapsOf text = (rows : List GapRow) × AreGapRows w stream first last rows × IsGapsText stream rows text

  one_gaps : (a b : List ℕ) → IsGapsOf a → IsGapsOf b → a ≡ b
  one_gaps a b (rows, x, p) (others, y, q) =
      let same = one_rows (λ row. row.day) (λ row. row.gap.first) _ first last rows others x y in
      one_gaps_text stream others a b (subst (λ r. IsGapsText stream r a) same p) q

  gaps_told : (answer : Answer) → TellsGaps w stream first last answer → IsGiven answer
      → TextTold told.Gaps (λ a b e. ap (λ (t : List ℕ). (GapsText, t)) e) IsGapsOf one_gaps (IsTooWide first last) answer
  gaps_told (told.Imported added known) tells is_given = absurd tells
  gaps_told (told.Substituted count) tells is_given = absurd tells
  gaps_told (told.Known count) tells is_given = absurd tells
  gaps_told (told.HolidaysAdded added known) tells is_given = absurd tells
  gaps_told (told.Day it) tells is_given = absurd tells
  gaps_told (told.Versions it) tells is_given = absurd tells
  gaps_told (told.Period it) tells is_given = absurd tells
  gaps_told (told.Streams answers) tells is_given = absurd tells
  gaps_told (told.Gaps text) tells is_given = inl (text, refl, tells.0, (tells.1, tells.2, tells.3))
  gaps_told (told.Finals text) tells is_given = absurd tells
  gaps_told (told.Missing text) tells is_given = absurd tells
  gaps_told (told.Readings text) tells is_given = absurd tells
  gaps_told (told.Exported text) tells is_given = absurd tells
  gaps_told (told.File fault) tells is_given = absurd tells
  gaps_told (told.Refused refusal) tells is_given = inr (refusal, refl, tells.0, tells.1)
  gaps_told told.Unavailable tells is_given = absurd (is_given refl)

  pub same_gaps : (a b : Answer) → TellsGaps w stream first last a → TellsGaps w stream first last b → IsGiven a → IsGiven b
      → AreSame a b
  same_gaps a b x y is_given other_given =
      same_told told.Gaps (λ a b e. ap (λ (t : List ℕ). (GapsText, t)) e) IsGapsOf one_gaps (IsTooWide first last) a b (gaps_told a x is_given)
      (gaps_told b y other_given)

  abbrev IsFinalsOf : List ℕ → Type 0
  IsFinalsOf text = (rows : List FinalRow) × AreFinalRows w stream first last rows × IsFinalsText stream rows text

  one_finals : (a b : List ℕ) → IsFinalsOf a → IsFinalsOf b → a ≡ b
  one_finals a b (rows, x, p) (others, y, q) =
      let same = one_rows (λ row. row.day) (λ row. row.stretch.first) _ first last rows others x y in
      one_finals_text stream others a b (subst (λ r. IsFinalsText stream r a) same p) q

  finals_told : (answer : Answer) → TellsFinals w stream first last answer → IsGiven answer
      → TextTold told.Finals (λ a b e. ap (λ (t : List ℕ). (FinalsText, t)) e) IsFinalsOf one_finals (IsTooWide first last) answer
  finals_told (told.Imported added known) tells is_given = absurd tells
  finals_told (told.Substituted count) tells is_given = absurd tells
  finals_told (told.Known count) tells is_given = absurd tells
  finals_told (told.HolidaysAdded added known) tells is_given = absurd tells
  finals_told (told.Day it) tells is_given = absurd tells
  finals_told (told.Versions it) tells is_given = absurd tells
  finals_told (told.Period it) tells is_given = absurd tells
  finals_told (told.Streams answers) tells is_given = absurd tells
  finals_told (told.Gaps text) tells is_given = absurd tells
  finals_told (told.Finals text) tells is_given = inl (text, refl, tells.0, (tells.1, tells.2, tells.3))
  finals_told (told.Missing text) tells is_given = absurd tells
  finals_told (told.Readings text) tells is_given = absurd tells
  finals_told (told.Exported text) tells is_given = absurd tells
  finals_told (told.File fault) tells is_given = absurd tells
  finals_told (told.Refused refusal) tells is_given = inr (refusal, refl, tells.0, tells.1)
  finals_told told.Unavailable tells is_given = absurd (is_given refl)

  pub same_finals : (a b : Answer) → TellsFinals w stream first last a → TellsFinals w stream first last b → IsGiven a
      → IsGiven b → AreSame a b
  same_finals a b x y is_given other_given =
      same_told told.Finals (λ a b e. ap (λ (t : List ℕ). (FinalsText, t)) e) IsFinalsOf one_finals (IsTooWide first last) a b (finals_told a x is_given)
      (finals_told b y other_given)

-- ---- the gaps of all streams

module _ (w : World) (first last : ℕ) (since : Option ℕ) where
  one_missing_of : (stream : Stream) (a b : List ℕ) → IsMissingOf w since first last stream a
      → IsMissingOf w since first last stream b → a ≡ b
  one_missing_of stream a b (inl (asks, rows, x, p)) (inl (also, others, y, q)) =
      let same = one_rows (λ row. row.day) (λ row. row.gap.first) _ first last rows others x y in
      one_text (λ row. row.day) (λ row. row.gap.first) (gap_fields stream) others a b
      (subst (λ r. AreGapRowsText stream r a) same p) q
  one_missing_of stream a b (inl (asks, rows, x, p)) (inr (idle, e)) = absurd (idle asks)
  one_missing_of stream a b (inr (idle, e)) (inl (asks, rows, x, p)) = absurd (idle asks)
  one_missing_of stream a b (inr (idle, e)) (inr (other, f)) = e ∙ sym f

  all_missing_of : (streams : List Stream) (a b : List ℕ) → AreInTurn (IsMissingOf w since first last) streams a
      → AreInTurn (IsMissingOf w since first last) streams b → a ≡ b
  all_missing_of [] a b e f = e ∙ sym f
  all_missing_of (stream ∷ streams) a b (one, rest, e, is, are) (other, left, f, has, have) =
      let same = one_missing_of stream one other is has in
      let more = all_missing_of streams rest left are have in
      cc (e, f, same, more)

  abbrev IsMissing : List ℕ → Type 0
  IsMissing text =
      (streams : List Stream) × AreKnownStreams w streams
      × (rest : List ℕ) × (text ≡ gaps_head_text ++ rest) × AreInTurn (IsMissingOf w since first last) streams rest

  one_missing : (a b : List ℕ) → IsMissing a → IsMissing b → a ≡ b
  one_missing a b (streams, x, rest, e, p) (others, y, left, f, q) =
      let same = one_known w streams others x y in
      let more = all_missing_of others rest left (subst (λ s. AreInTurn (IsMissingOf w since first last) s rest) same p) q in
      cc (e, f, more)

  missing_told : (answer : Answer) → TellsMissing w first last since answer → IsGiven answer
      → TextTold told.Missing (λ a b e. ap (λ (t : List ℕ). (MissingText, t)) e) IsMissing one_missing (IsTooWide first last) answer
  missing_told (told.Imported added known) tells is_given = absurd tells
  missing_told (told.Substituted count) tells is_given = absurd tells
  missing_told (told.Known count) tells is_given = absurd tells
  missing_told (told.HolidaysAdded added known) tells is_given = absurd tells
  missing_told (told.Day it) tells is_given = absurd tells
  missing_told (told.Versions it) tells is_given = absurd tells
  missing_told (told.Period it) tells is_given = absurd tells
  missing_told (told.Streams answers) tells is_given = absurd tells
  missing_told (told.Gaps text) tells is_given = absurd tells
  missing_told (told.Finals text) tells is_given = absurd tells
  missing_told (told.Missing text) tells is_given =
      inl (text, refl, tells.0, (tells.1, tells.2, tells.3, tells.4, tells.5))
  missing_told (told.Readings text) tells is_given = absurd tells
  missing_told (told.Exported text) tells is_given = absurd tells
  missing_told (told.File fault) tells is_given = absurd tells
  missing_told (told.Refused refusal) tells is_given = inr (refusal, refl, tells.0, tells.1)
  missing_told told.Unavailable tells is_given = absurd (is_given refl)

  pub same_missing : (a b : Answer) → TellsMissing w first last since a → TellsMissing w first last since b → IsGiven a
      → IsGiven b → AreSame a b
  same_missing a b x y is_given other_given =
      same_told told.Missing (λ a b e. ap (λ (t : List ℕ). (MissingText, t)) e) IsMissing one_missing (IsTooWide first last) a b
      (missing_told a x is_given) (missing_told b y other_given)

-- ---- an export

module _ (w : World) (agrees : Agrees w) (nmi : List ℕ) (suffixes : List (List ℕ)) (first last : ℕ) (header : HeaderValue) where
  abbrev IsExportOf : List ℕ → Type 0
  IsExportOf text =
      (streams : List SelectedStream) × IsSelection w nmi suffixes first last streams × Shows header streams text

  one_shown : (a b : List ℕ) → IsExportOf a → IsExportOf b → a ≡ b
  one_shown a b (streams, x, p) (others, y, q) =
      one_export w agrees nmi suffixes first last header streams others a b x y p.form q.form

  export_told : (answer : Answer) → TellsExport w nmi suffixes first last header answer → IsGiven answer
      → TextTold told.Exported (λ a b e. ap (λ (t : List ℕ). (ExportText, t)) e) IsExportOf one_shown (AsksTooMuch suffixes first last) answer
  export_told (told.Imported added known) tells is_given = absurd tells
  export_told (told.Substituted count) tells is_given = absurd tells
  export_told (told.Known count) tells is_given = absurd tells
  export_told (told.HolidaysAdded added known) tells is_given = absurd tells
  export_told (told.Day it) tells is_given = absurd tells
  export_told (told.Versions it) tells is_given = absurd tells
  export_told (told.Period it) tells is_given = absurd tells
  export_told (told.Streams answers) tells is_given = absurd tells
  export_told (told.Gaps text) tells is_given = absurd tells
  export_told (told.Finals text) tells is_given = absurd tells
  export_told (told.Missing text) tells is_given = absurd tells
  export_told (told.Readings text) tells is_given = absurd tells
  export_told (told.Exported text) tells is_given = inl (text, refl, tells.0, (tells.1, tells.2, tells.3))
  export_told (told.File fault) tells is_given = absurd tells
  export_told (told.Refused refusal) tells is_given = inr (refusal, refl, tells.0, tells.1)
  export_told told.Unavailable tells is_given = absurd (is_given refl)

  pub same_export : (a b : Answer) → TellsExport w nmi suffixes first last header a
      → TellsExport w nmi suffixes first last header b → IsGiven a → IsGiven b → AreSame a b
  same_export a b x y is_given other_given =
      same_told told.Exported (λ a b e. ap (λ (t : List ℕ). (ExportText, t)) e) IsExportOf one_shown (AsksTooMuch suffixes first last) a b
      (export_told a x is_given) (export_told b y other_given)
