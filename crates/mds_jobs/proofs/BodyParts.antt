-- What the parts of a job's body say is the job.
use Rattle.std.proofs.Common.{◌≡◌, ℕ, ◌<◌, ◌^◌, ◌⊎◌, inl, inr, Bool, true, false, List, [], ◌∷◌, get_or, length, if◌then◌else◌, refl, sym, ap, subst, ◌∙◌, arith, decimal, Option, Some, None}
use Rattle.std.proofs.lemmas.Bool.Decides.{nat_tests}
use Rattle.std.proofs.lemmas.Fmt.{decimal_is_IsNumeral}
use Rattle.std.specs.Borrow.{Bor}
use Rattle.std.specs.Char.{is_ascii_uppercase}
use Rattle.std.specs.Fmt.{digits}
use Rattle.std.specs.List.{slice_index_or}
use Rattle.std.specs.Option.{option_and_then, option_map}
use Rattle.mds_quantity.specs.Unit.{unit_of, unit_text}
use Rattle.mds_quantity.specs.declared.unit.Unit.{Unit as MeasureUnit}
use Rattle.mds_quantity.specs.declared.unit.Unit.TheVariants.{MWh, KWh, Wh, MVArh, KVArh, VArh, MVAr, KVAr, VAr, MW, KW, W, MVAh, KVAh, VAh, MVA, KVA, VA, KV, V, KA, A, Pf}
use Rattle.mds_calendar.specs.Length.{is_length, length_of}
use Rattle.mds_names.specs.Names.{is_name, nmi_of, suffix_of}
use Rattle.mds_marks.specs.Mark.{mark_of}
use Rattle.mds_marks.specs.Quality.{QualityValue, quality_of, quality_text}
use Rattle.mds_marks.specs.Reason.{ReasonValue, code_of, code_text, is_reason, is_reason_text, reason_of}
use Rattle.mds_marks.specs.declared.mark.Mark.{Mark}
use Rattle.mds_marks.proofs.Splits.{mark_reads}
use Rattle.mds_world.specs.Facts.{JobContent}
use Rattle.mds_jobs.specs.Bodies.{AreJobParts, IsJobBody, IsLawfulJob, Writes, flag_of, flag_text, job_in, part_at, parts_of}
use Rattle.mds_jobs.specs.BodySteps.{SaysManner, SaysPlace, texts_of}
use Rattle.mds_jobs.specs.declared.job.JobManner.{JobManner}
use Rattle.mds_jobs.specs.declared.job.JobPlace.{JobPlace}
use Rattle.mds_jobs.proofs.BodySplits.{part_is}
use Rattle.mds_jobs.proofs.BodyTexts.{body_parts, is_marked, marked}

-- a job's parts, as they are read
abbrev pub place_of : JobContent → JobPlace
place_of job = record { stream = job.stream; day = job.day; first = job.first; last = job.last }

abbrev pub manner_of : JobContent → JobManner
manner_of job = record { length = job.length; unit = job.unit; method = job.method; flag = job.flag; update = job.update }

abbrev pub reason_in : JobContent → ReasonValue
reason_in job = record { code = job.code; text = job.text }

-- each text reads back
nmi_reads : (text : List ℕ) → is_name 10 text ≡ true → nmi_of text ≡ Some text
nmi_reads text h = rw h

suffix_reads : (text : List ℕ) → is_name 2 text ≡ true → suffix_of text ≡ Some text
suffix_reads text h = rw h

decimal_writes : (bits n : ℕ) → n < 2 ^ bits → n < 2 ^ 64 → Writes bits (decimal n) n
decimal_writes bits n h k =
    let d = decimal_is_IsNumeral n k in
    record { numeral = d.0; value = d.1; small = h }

five_reads : length_of (decimal 5) ≡ Some 5
unfolding digits
five_reads = refl

fifteen_reads : length_of (decimal 15) ≡ Some 15
unfolding digits
fifteen_reads = refl

thirty_reads : length_of (decimal 30) ≡ Some 30
unfolding digits
thirty_reads = refl

length_reads : (n : ℕ) → is_length n ≡ true → length_of (decimal n) ≡ Some n
length_reads n h = elim (which n h) [
  | inl five ↦ rw five five_reads
  | inr more ↦ elim more [ inl fifteen ↦ rw fifteen fifteen_reads | inr thirty ↦ rw thirty thirty_reads ]
]
  where
    which : (n : ℕ) → is_length n ≡ true → (n ≡ 5) ⊎ ((n ≡ 15) ⊎ (n ≡ 30))
    which n h = grind (arith, nat_tests)

unit_reads : (unit : MeasureUnit) → unit_of (unit_text unit) ≡ Some unit
unfolding unit_of
unit_reads MWh = refl
unit_reads KWh = refl
unit_reads Wh = refl
unit_reads MVArh = refl
unit_reads KVArh = refl
unit_reads VArh = refl
unit_reads MVAr = refl
unit_reads KVAr = refl
unit_reads VAr = refl
unit_reads MW = refl
unit_reads KW = refl
unit_reads W = refl
unit_reads MVAh = refl
unit_reads KVAh = refl
unit_reads VAh = refl
unit_reads MVA = refl
unit_reads KVA = refl
unit_reads VA = refl
unit_reads KV = refl
unit_reads V = refl
unit_reads KA = refl
unit_reads A = refl
unit_reads Pf = refl

letter_reads : (flag : ℕ) → is_ascii_uppercase flag ≡ true → flag_of (flag_text flag) ≡ Some flag
letter_reads flag h = let e : flag_text flag ≡ flag ∷ [] = rw h in ap flag_of e ∙ alone flag h
  where
    alone : (flag : ℕ) → is_ascii_uppercase flag ≡ true → flag_of (flag ∷ []) ≡ Some flag
    alone flag h = rw h

within_mark : (quality : Option QualityValue) (reason : Option ReasonValue) (m : Mark) → option_and_then (λ q. option_map (λ r. record { quality = q; reason = r }) reason) quality ≡ Some m → reason ≡ Some m.reason
within_mark (Some q) (Some r) m e = let same : record { quality = q; reason = r } ≡ m = cc in ap (λ (n : Mark). Some n.reason) same
within_mark (Some q) None m e = absurd (cc)
within_mark None reason m e = absurd (cc)

reason_reads : (code : Option ℕ) (text : List ℕ) → is_reason code text ≡ true → reason_of (code_text code) text ≡ Some (record { code = code; text = text })
unfolding mark_of
reason_reads code text h =
    let m = marked code text in
    within_mark (quality_of (quality_text m.quality)) (reason_of (code_text code) text) m (mark_reads m (is_marked code text h))

-- the parts of a lawful job's body are read as the job
pub body_read : (job : JobContent) (body : List ℕ) → IsLawfulJob job → IsJobBody job body → AreJobParts (parts_of body) job
body_read job body l b = subst (λ parts. AreJobParts parts job) (sym (body_parts job body l b)) (record {
  twelve = refl;
  nmi = nmi_reads job.stream.nmi l.nmi;
  suffix = suffix_reads job.stream.suffix l.suffix;
  day = b.day;
  first = decimal_writes 16 job.first l.first (omega (arith, l.first));
  last = decimal_writes 16 job.last l.last (omega (arith, l.last));
  length = length_reads job.length l.length;
  unit = unit_reads job.unit;
  method = decimal_writes 8 job.method l.method (omega (arith, l.method));
  flag = letter_reads job.flag l.flag;
  reason = reason_reads job.code job.text l.reason;
  update = b.moment;
})

-- what is read of them step by step
pub place_read : (parts : List (List ℕ)) (job : JobContent) → AreJobParts parts job → SaysPlace parts (place_of job)
place_read parts job r = record { nmi = r.nmi; suffix = r.suffix; day = r.day; first = r.first; last = r.last }

pub manner_read : (parts : List (List ℕ)) (job : JobContent) → AreJobParts parts job → SaysManner parts (manner_of job)
manner_read parts job r = record { length = r.length; unit = r.unit; method = r.method; flag = r.flag; update = r.update }

pub parts_read : (parts : List (List ℕ)) (job : JobContent) → length parts ≡ 12 → SaysPlace parts (place_of job) → SaysManner parts (manner_of job) → reason_of (part_at parts 9) (part_at parts 10) ≡ Some (reason_in job) → AreJobParts parts job
parts_read parts job twelve p m reason = record {
  twelve = twelve;
  nmi = p.nmi;
  suffix = p.suffix;
  day = p.day;
  first = p.first;
  last = p.last;
  length = m.length;
  unit = m.unit;
  method = m.method;
  flag = m.flag;
  reason = reason;
  update = m.update;
}

-- the reason that two of the parts are
pub reason_at : (texts : List (Bor (List ℕ))) (parts : List (List ℕ)) (reason : Option ReasonValue) → texts_of texts ≡ parts → reason ≡ reason_of (get_or texts 9 (record { ref_ptr = (0, 0); now = [] })).now (get_or texts 10 (record { ref_ptr = (0, 0); now = [] })).now → reason ≡ reason_of (part_at parts 9) (part_at parts 10)
reason_at texts parts reason e r =
    let code = part_is texts 9 in
    let text = part_is texts 10 in
    r ∙ (ap (λ t. reason_of t (get_or texts 10 (record { ref_ptr = (0, 0); now = [] })).now) (sym code) ∙ (ap (λ t. reason_of (part_at (texts_of texts) 9) t) (sym text) ∙ ap (λ t. reason_of (part_at t 9) (part_at t 10)) e))

-- a reason that two texts are
reason_by : (b : Bool) (code : Option (Option ℕ)) (text : List ℕ) (reason : ReasonValue) → (if b then option_map (λ n. record { code = n; text = text }) code else None) ≡ Some reason → (code ≡ Some reason.code) × (text ≡ reason.text)
reason_by true (Some n) text reason e = let same : record { code = n; text = text } ≡ reason = cc in (ap (λ (r : ReasonValue). Some r.code) same, ap (λ (r : ReasonValue). r.text) same)
reason_by true None text reason e = absurd (cc)
reason_by false code text reason e = absurd (cc)

reason_parts : (code text : List ℕ) (reason : ReasonValue) → reason_of code text ≡ Some reason → (code_of code ≡ Some reason.code) × (text ≡ reason.text)
unfolding reason_of
reason_parts code text reason e = reason_by (is_reason_text text) (code_of code) text reason e

-- a name or a flag that a text is
named_by : (b : Bool) (text name : List ℕ) → (if b then Some text else None) ≡ Some name → text ≡ name
named_by true text name e = cc
named_by false text name e = absurd (cc)

flag_by : (b : Bool) (letter flag : ℕ) → (if b then Some letter else None) ≡ Some flag → letter ≡ flag
flag_by true letter flag e = cc
flag_by false letter flag e = absurd (cc)

-- parts that are read as a job say it
pub job_said : (parts : List (List ℕ)) (job : JobContent) → AreJobParts parts job → job ≡ job_in parts
job_said parts job r =
    let nmi : part_at parts 0 ≡ job.stream.nmi = named_by (is_name 10 (part_at parts 0)) (part_at parts 0) job.stream.nmi r.nmi in
    let suffix : part_at parts 1 ≡ job.stream.suffix = named_by (is_name 2 (part_at parts 1)) (part_at parts 1) job.stream.suffix r.suffix in
    let flag : slice_index_or (part_at parts 8) 0 0 ≡ job.flag = flag_by _ (slice_index_or (part_at parts 8) 0 0) job.flag r.flag in
    let reason = reason_parts (part_at parts 9) (part_at parts 10) (reason_in job) r.reason in
    rw (nmi, suffix, r.day, r.first.value, r.last.value, r.length, r.unit, r.method.value, flag, reason.0, reason.1, r.update)

-- a lawful job's body says the job
pub job_back : (job : JobContent) (body : List ℕ) → IsLawfulJob job → IsJobBody job body → job_in (parts_of body) ≡ job
job_back job body l b = sym (job_said (parts_of body) job (body_read job body l b))
