-- The texts of a job's body have no commas, so the body splits into them.
use Rattle.std.proofs.Common.{◌≡◌, ℕ, ◌<◌, ◌^◌, Bool, true, false, ◌&&◌, not, if◌then◌else◌, List, [], ◌∷◌, refl, sym, ap, ◌∙◌, arith, decimal, Option}
use Rattle.std.proofs.lemmas.Bool.Decides.{nat_tests}
use Rattle.std.proofs.lemmas.Fmt.{decimal_is_IsNumeral}
use Rattle.std.proofs.lemmas.List.Splits.{slice_split-cons_yes, slice_split-cons_no}
use Rattle.std.specs.Char.{digit_value, is_ascii_digit, is_ascii_uppercase}
use Rattle.std.specs.List.{list_all, onto_first, slice_split}
use Rattle.std.specs.Str.Parse.{AllDigits}
use Rattle.mds_quantity.specs.Unit.{unit_text}
use Rattle.mds_quantity.specs.declared.unit.Unit.{Unit as MeasureUnit}
use Rattle.mds_quantity.specs.declared.unit.Unit.TheVariants.{MWh, KWh, Wh, MVArh, KVArh, VArh, MVAr, KVAr, VAr, MW, KW, W, MVAh, KVAh, VAh, MVA, KVA, VA, KV, V, KA, A, Pf}
use Rattle.mds_calendar.specs.Length.{is_length}
use Rattle.mds_names.specs.Names.{is_comma, is_name, is_name_char}
use Rattle.mds_marks.specs.Mark.{is_mark, mark_text}
use Rattle.mds_marks.specs.Quality.{quality_text}
use Rattle.mds_marks.specs.Reason.{code_text, is_reason}
use Rattle.mds_marks.specs.declared.mark.Mark.{Mark}
use Rattle.mds_marks.proofs.Splits.{mark_parts}
use Rattle.mds_terms.specs.Parts.{joined}
use Rattle.mds_terms.proofs.Joined.{lacks_comma, joined_splits}
use Rattle.mds_terms.proofs.Texts.{both, day_is_digits, moment_is_digits}
use Rattle.mds_world.specs.Facts.{JobContent}
use Rattle.mds_jobs.specs.Bodies.{IsJobBody, IsLawfulJob, flag_text, parts_of}

-- a text of characters of a kind that has no comma lacks commas
lacks_from : (p : ℕ → Bool) → ((c : ℕ) → p c ≡ true → not (is_comma c) ≡ true) → (text : List ℕ) → list_all p text ≡ true → lacks_comma text ≡ true
lacks_from p w [] h = refl
lacks_from p w (c ∷ text) h =
    let b = both (p c) (list_all p text) h in
    rw (w c b.0, lacks_from p w text b.1)

digits_lack : (text : List ℕ) → list_all is_ascii_digit text ≡ true → lacks_comma text ≡ true
digits_lack text h = lacks_from is_ascii_digit (λ c d. grind (arith, nat_tests)) text h

name_lacks : (n : ℕ) (text : List ℕ) → is_name n text ≡ true → lacks_comma text ≡ true
name_lacks n text h = lacks_from is_name_char (λ c d. grind (arith, nat_tests)) text (both _ (list_all is_name_char text) h).1

letter_lacks : (flag : ℕ) → is_ascii_uppercase flag ≡ true → lacks_comma (flag ∷ []) ≡ true
letter_lacks flag h = lacks_from is_ascii_uppercase (λ c d. grind (arith, nat_tests)) (flag ∷ []) (rw h)

flag_lacks : (flag : ℕ) → lacks_comma (flag_text flag) ≡ true
flag_lacks flag = by_letter flag (is_ascii_uppercase flag) refl
  where
    by_letter : (flag : ℕ) (b : Bool) → is_ascii_uppercase flag ≡ b → lacks_comma (if b then flag ∷ [] else []) ≡ true
    by_letter flag true e = letter_lacks flag e
    by_letter flag false e = refl

-- a number's digits
all_digits_lack : (ds : List ℕ) → AllDigits 10 ds → lacks_comma ds ≡ true
all_digits_lack [] h = refl
all_digits_lack (d ∷ ds) h = rw (digit_lacks d h.0, all_digits_lack ds h.1) refl
  where
    digit_lacks : (d : ℕ) → digit_value d < 10 → is_comma d ≡ false
    digit_lacks d h = grind (arith, nat_tests)

decimal_lacks : (n : ℕ) → n < 2 ^ 64 → lacks_comma (decimal n) ≡ true
decimal_lacks n h = all_digits_lack (decimal n) (decimal_is_IsNumeral n h).0.1

pub length_below : (n : ℕ) → is_length n ≡ true → n < 2 ^ 64
length_below n h = grind (arith, nat_tests)

-- a unit's text
unit_lacks : (unit : MeasureUnit) → lacks_comma (unit_text unit) ≡ true
unit_lacks MWh = refl
unit_lacks KWh = refl
unit_lacks Wh = refl
unit_lacks MVArh = refl
unit_lacks KVArh = refl
unit_lacks VArh = refl
unit_lacks MVAr = refl
unit_lacks KVAr = refl
unit_lacks VAr = refl
unit_lacks MW = refl
unit_lacks KW = refl
unit_lacks W = refl
unit_lacks MVAh = refl
unit_lacks KVAh = refl
unit_lacks VAh = refl
unit_lacks MVA = refl
unit_lacks KVA = refl
unit_lacks VA = refl
unit_lacks KV = refl
unit_lacks V = refl
unit_lacks KA = refl
unit_lacks A = refl
unit_lacks Pf = refl

-- the parts of a text between its commas
onto_lacks : (c : ℕ) (parts : List (List ℕ)) → is_comma c ≡ false → list_all lacks_comma parts ≡ true → list_all lacks_comma (onto_first c parts) ≡ true
onto_lacks c [] e h = rw e refl
onto_lacks c (part ∷ parts) e h = rw e h

parts_lack : (text : List ℕ) → list_all lacks_comma (slice_split is_comma text) ≡ true
parts_lack [] = refl
parts_lack (c ∷ text) = by_first c text (is_comma c) refl (parts_lack text)
  where
    by_first : (c : ℕ) (text : List ℕ) (b : Bool) → is_comma c ≡ b → list_all lacks_comma (slice_split is_comma text) ≡ true → list_all lacks_comma (slice_split is_comma (c ∷ text)) ≡ true
    by_first c text true e h = ap (list_all lacks_comma) (slice_split-cons_yes is_comma c text e) ∙ h
    by_first c text false e h = ap (list_all lacks_comma) (slice_split-cons_no is_comma c text e) ∙ onto_lacks c (slice_split is_comma text) e h

-- a mark that has a reason
abbrev pub marked : Option ℕ → List ℕ → Mark
marked code text = record { quality = record { flag = 65; method = 0 }; reason = record { code = code; text = text } }

pub is_marked : (code : Option ℕ) (text : List ℕ) → is_reason code text ≡ true → is_mark (marked code text) ≡ true
is_marked code text h = rw h

three : (a b c : Bool) → (a && (b && (c && true))) ≡ true → (b ≡ true) × (c ≡ true)
three a b c h =
    let p = both a (b && (c && true)) h in
    let q = both b (c && true) p.1 in
    (q.0, (both c true q.1).0)

reason_lacks : (code : Option ℕ) (text : List ℕ) → is_reason code text ≡ true → (lacks_comma (code_text code) ≡ true) × (lacks_comma text ≡ true)
reason_lacks code text h =
    let m = marked code text in
    let parts = mark_parts m (is_marked code text h) in
    three (lacks_comma (quality_text m.quality)) (lacks_comma (code_text code)) (lacks_comma text) (ap (list_all lacks_comma) (sym parts) ∙ parts_lack (mark_text m))

-- the parts of a job's body
abbrev pub texts_of_job : JobContent → List ℕ → List ℕ → List (List ℕ)
texts_of_job job date update =
    job.stream.nmi ∷ job.stream.suffix ∷ date ∷ decimal job.first ∷ decimal job.last ∷ decimal job.length
    ∷ unit_text job.unit ∷ decimal job.method ∷ flag_text job.flag ∷ code_text job.code ∷ job.text ∷ update ∷ []

pub body_parts : (job : JobContent) (body : List ℕ) → IsLawfulJob job → (b : IsJobBody job body) → parts_of body ≡ texts_of_job job b.date b.update
body_parts job body l b =
    let r = reason_lacks job.code job.text l.reason in
    let first : job.first < 2 ^ 64 = omega (arith, l.first) in
    let last : job.last < 2 ^ 64 = omega (arith, l.last) in
    let method : job.method < 2 ^ 64 = omega (arith, l.method) in
    let lacks : list_all lacks_comma (texts_of_job job b.date b.update) ≡ true =
    rw (name_lacks 10 job.stream.nmi l.nmi, name_lacks 2 job.stream.suffix l.suffix, digits_lack b.date (day_is_digits b.date job.day b.day), decimal_lacks job.first first, decimal_lacks job.last last, decimal_lacks job.length (length_below job.length l.length), unit_lacks job.unit, decimal_lacks job.method method, flag_lacks job.flag, r.0, r.1, digits_lack b.update (moment_is_digits b.update job.update b.moment)) in
    ap (slice_split is_comma) b.texts ∙ joined_splits job.stream.nmi (job.stream.suffix ∷ b.date ∷ decimal job.first ∷ decimal job.last ∷ decimal job.length
    ∷ unit_text job.unit ∷ decimal job.method ∷ flag_text job.flag ∷ code_text job.code ∷ job.text ∷ b.update ∷ []) lacks

-- the text of one flag
pub flag_written : (flag : ℕ) → (if list_all is_ascii_uppercase (flag ∷ []) then flag ∷ [] else []) ≡ flag_text flag
flag_written flag = by_letter (is_ascii_uppercase flag) (flag ∷ [])
  where
    by_letter : (b : Bool) (text : List ℕ) → (if b && true then text else []) ≡ (if b then text else [])
    by_letter true text = refl
    by_letter false text = refl

-- a job has one body where a day and a moment have one text
pub one_body : (job : JobContent) (a b : List ℕ) → (x : IsJobBody job a) → (y : IsJobBody job b) → x.date ≡ y.date → x.update ≡ y.update → a ≡ b
one_body job a b x y date update =
    x.texts ∙ (ap (λ d. joined (texts_of_job job d x.update)) date
    ∙ (ap (λ u. joined (texts_of_job job y.date u)) update ∙ sym y.texts))
