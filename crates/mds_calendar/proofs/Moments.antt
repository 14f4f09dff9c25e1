-- Moments and their texts.
use Rattle.std.proofs.Common.{◌≡◌, ℕ, ◌+◌, ◌*◌, ◌/◌, ◌%◌, ◌<◌, Bool, true, false, ◌&&◌, ◌==◌, cond, codes, List, [], ◌++◌, length, take, drop, refl, sym, ap, ◌∙◌, arith, Option, Some, None, option_and_then}
use Rattle.std.proofs.lemmas.Bool.{false_from_ne_true}
use Rattle.std.proofs.lemmas.Bool.Decides.{nat_tests}
use Rattle.std.proofs.lemmas.List.{take-append-drop, take_all, length-take, length-drop, length-append, drop-drop}
use Rattle.std.proofs.Math.Seq.{take-append_seam, drop-append_seam}
use Rattle.std.proofs.lemmas.List.Folds.{list_all-append}
use Rattle.std.specs.Char.{is_ascii_digit}
use Rattle.std.specs.List.{list_all}
use Rattle.mds_calendar.specs.Calendar.{day_of, moment_of, date_time_of, is_time, are_digits, number_at, day_seconds}
use Rattle.mds_calendar.proofs.Days.{number_of, day_of_parts, one_day_text, two_digits}
use Rattle.mds_calendar.proofs.Digits.{both, same_digits, digit_char}

-- a text of fourteen digits is its day, hour, minute and second
pub fourteen_cuts : (text : List ℕ) → length text ≡ 14 → text ≡ take 8 text ++ (take 2 (drop 8 text) ++ (take 2 (drop 10 text) ++ take 2 (drop 12 text)))
fourteen_cuts text e =
    let front = take-append-drop 8 text in
    let hour = take-append-drop 2 (drop 8 text) in
    let minute = take-append-drop 2 (drop 10 text) in
    let cut = drop-drop 2 8 text in
    let next = drop-drop 2 10 text in
    let last = take_all 2 (drop 12 text) (omega (arith, length-drop 12 text)) in
    cc

-- and is of digits if they are
digits_cut : (text : List ℕ) → length text ≡ 14 → are_digits 14 text ≡ (list_all is_ascii_digit (take 8 text) && (list_all is_ascii_digit (take 2 (drop 8 text)) && (list_all is_ascii_digit (take 2 (drop 10 text)) && list_all is_ascii_digit (take 2 (drop 12 text)))))
digits_cut text len =
    let cuts = fourteen_cuts text len in
    let a = list_all-append is_ascii_digit (take 8 text) (take 2 (drop 8 text) ++ (take 2 (drop 10 text) ++ take 2 (drop 12 text))) in
    let b = list_all-append is_ascii_digit (take 2 (drop 8 text)) (take 2 (drop 10 text) ++ take 2 (drop 12 text)) in
    let c = list_all-append is_ascii_digit (take 2 (drop 10 text)) (take 2 (drop 12 text)) in
    rw len (ap (list_all is_ascii_digit) cuts ∙ (a ∙ ap (λ x. list_all is_ascii_digit (take 8 text) && x) (b ∙ ap (λ x. list_all is_ascii_digit (take 2 (drop 8 text)) && x) c)))

-- nothing follows from anything
and_then_none : (o : Option ℕ) → option_and_then {T = ℕ} {U = ℕ} (λ d. None) o ≡ None
and_then_none None = refl
and_then_none (Some x) = refl

-- a text of another length is no moment
pub moment_of_other : (text : List ℕ) → (length text ≡ 14 → ⊥) → moment_of text ≡ None
unfolding moment_of
moment_of_other text h =
    let e : (length text == 14) ≡ false = grind (arith, nat_tests) in
    rw e (and_then_none (day_of (take 8 text)))

-- the moment of a day, an hour, a minute and a second
abbrev pub moment_from : Option ℕ → Option ℕ → Option ℕ → Option ℕ → Option ℕ
moment_from (Some day) (Some h) (Some m) (Some s) = cond (is_time h m s) (Some (day * day_seconds + h * 3_600 + m * 60 + s)) None
moment_from (Some day) (Some h) (Some m) None = None
moment_from (Some day) (Some h) None s = None
moment_from (Some day) None m s = None
moment_from None h m s = None

-- the tests of the parts, one at a time or at once
joined : (o : Option ℕ) (p q r t : Bool) (h m s : ℕ) → ((d : ℕ) → o ≡ Some d → p ≡ true) → option_and_then (λ day. cond ((p && (q && (r && t))) && is_time h m s) (Some (day * day_seconds + h * 3_600 + m * 60 + s)) None) o ≡ moment_from o (cond q (Some h) None) (cond r (Some m) None) (cond t (Some s) None)
joined None p q r t h m s known = refl
joined (Some d) p true true true h m s known = rw (known d refl)
joined (Some d) p true true false h m s known = rw (known d refl)
joined (Some d) p true false t h m s known = rw (known d refl)
joined (Some d) p false r t h m s known = rw (known d refl)

-- fourteen bytes are the moment of their parts
pub moment_of_parts_is : (text : List ℕ) → length text ≡ 14 → moment_of text ≡ moment_from (day_of (take 8 text)) (number_of (take 2 (drop 8 text))) (number_of (take 2 (drop 10 text))) (number_of (take 2 (drop 12 text)))
unfolding moment_of
moment_of_parts_is text len =
    let e = joined (day_of (take 8 text)) (list_all is_ascii_digit (take 8 text)) (list_all is_ascii_digit (take 2 (drop 8 text))) (list_all is_ascii_digit (take 2 (drop 10 text))) (list_all is_ascii_digit (take 2 (drop 12 text))) (number_at 8 2 text) (number_at 10 2 text) (number_at 12 2 text)
    (λ d k. (both (length (take 8 text) == 8) (list_all is_ascii_digit (take 8 text)) (day_of_parts (take 8 text) d k).0).1) in
    ap (λ b. option_and_then (λ day. cond (b && is_time (number_at 8 2 text) (number_at 10 2 text) (number_at 12 2 text)) (Some (day * day_seconds + number_at 8 2 text * 3_600 + number_at 10 2 text * 60 + number_at 12 2 text)) None) (day_of (take 8 text))) (digits_cut text len) ∙ e

-- so it is none where a part is none
pub no_day_of : (text : List ℕ) → length text ≡ 14 → None ≡ day_of (take 8 text) → None ≡ moment_of text
no_day_of text len e = rw (moment_of_parts_is text len, sym e)

pub no_hour : (text : List ℕ) (d : ℕ) → length text ≡ 14 → Some d ≡ day_of (take 8 text) → None ≡ number_of (take 2 (drop 8 text)) → None ≡ moment_of text
no_hour text d len e n = rw (moment_of_parts_is text len, sym e, sym n)

pub no_minute : (text : List ℕ) (d h : ℕ) → length text ≡ 14 → Some d ≡ day_of (take 8 text) → Some h ≡ number_of (take 2 (drop 8 text)) → None ≡ number_of (take 2 (drop 10 text)) → None ≡ moment_of text
no_minute text d h len e k n = rw (moment_of_parts_is text len, sym e, sym k, sym n)

pub no_second : (text : List ℕ) (d h m : ℕ) → length text ≡ 14 → Some d ≡ day_of (take 8 text) → Some h ≡ number_of (take 2 (drop 8 text)) → Some m ≡ number_of (take 2 (drop 10 text)) → None ≡ number_of (take 2 (drop 12 text)) → None ≡ moment_of text
no_second text d h m len e k l n = rw (moment_of_parts_is text len, sym e, sym k, sym l, sym n)

-- and else the moment of the parts' numbers
pub moment_is : (text : List ℕ) (d h m s : ℕ) → length text ≡ 14 → Some d ≡ day_of (take 8 text) → Some h ≡ number_of (take 2 (drop 8 text)) → Some m ≡ number_of (take 2 (drop 10 text)) → Some s ≡ number_of (take 2 (drop 12 text)) → moment_of text ≡ cond (is_time h m s) (Some (d * day_seconds + h * 3_600 + m * 60 + s)) None
moment_is text d h m s len e k l n = rw (moment_of_parts_is text len, sym e, sym k, sym l, sym n)

-- the time of a day
pub time_holds : (h m s : ℕ) → h < 24 → m < 60 → s < 60 → is_time h m s ≡ true
time_holds h m s a b c = grind (arith, nat_tests)

pub time_parts : (h m s : ℕ) → is_time h m s ≡ true → (h < 24) × (m < 60) × (s < 60)
time_parts h m s e = (grind (arith, nat_tests), grind (arith, nat_tests), grind (arith, nat_tests))

pub time_not : (h m s : ℕ) → (h < 24 → m < 60 → s < 60 → ⊥) → is_time h m s ≡ false
time_not h m s a = false_from_ne_true (is_time h m s) (λ e. let p = time_parts h m s e in a p.0 p.1 p.2)

-- what is known where a day and a choice made a value
some_moment : (o : Option ℕ) (b : Bool) (h m s n : ℕ) → option_and_then (λ day. cond b (Some (day * day_seconds + h * 3_600 + m * 60 + s)) None) o ≡ Some n → (d : ℕ) × ((o ≡ Some d) × (b ≡ true) × (d * day_seconds + h * 3_600 + m * 60 + s ≡ n))
some_moment None b h m s n e = absurd (cc)
some_moment (Some d) true h m s n e = (d, (refl, refl, cc))
some_moment (Some d) false h m s n e = absurd (cc)

-- what is known of a text that is a moment
pub moment_parts : (text : List ℕ) (n : ℕ) → moment_of text ≡ Some n → (d : ℕ) × ((day_of (take 8 text) ≡ Some d) × (are_digits 14 text ≡ true) × (is_time (number_at 8 2 text) (number_at 10 2 text) (number_at 12 2 text) ≡ true) × (d * day_seconds + number_at 8 2 text * 3_600 + number_at 10 2 text * 60 + number_at 12 2 text ≡ n))
unfolding moment_of
moment_parts text n e =
    let p = some_moment (day_of (take 8 text)) (are_digits 14 text && is_time (number_at 8 2 text) (number_at 10 2 text) (number_at 12 2 text)) (number_at 8 2 text) (number_at 10 2 text) (number_at 12 2 text) n e in
    let b = both (are_digits 14 text) (is_time (number_at 8 2 text) (number_at 10 2 text) (number_at 12 2 text)) p.1.1 in
    (p.0, (p.1.0, b.0, b.1, p.1.2))

-- the digits of the parts of a moment
time_digits : (text : List ℕ) → are_digits 14 text ≡ true → (length text ≡ 14) × (list_all is_ascii_digit (take 2 (drop 8 text)) ≡ true) × (list_all is_ascii_digit (take 2 (drop 10 text)) ≡ true) × (list_all is_ascii_digit (take 2 (drop 12 text)) ≡ true)
time_digits text h =
    let b = (both (length text == 14) (list_all is_ascii_digit text) h).0 in
    let len : length text ≡ 14 = grind (arith, nat_tests) in
    let split = sym (digits_cut text len) ∙ h in
    let p = both (list_all is_ascii_digit (take 8 text)) (list_all is_ascii_digit (take 2 (drop 8 text)) && (list_all is_ascii_digit (take 2 (drop 10 text)) && list_all is_ascii_digit (take 2 (drop 12 text)))) split in
    let q = both (list_all is_ascii_digit (take 2 (drop 8 text))) (list_all is_ascii_digit (take 2 (drop 10 text)) && list_all is_ascii_digit (take 2 (drop 12 text))) p.1 in
    let r = both (list_all is_ascii_digit (take 2 (drop 10 text))) (list_all is_ascii_digit (take 2 (drop 12 text))) q.1 in
    (len, q.0, r.0, r.1)

-- seconds are of one day and one time of it
same_time : (d h m s e k l t : ℕ) → (h < 24) × (m < 60) × (s < 60) → (k < 24) × (l < 60) × (t < 60) → d * day_seconds + h * 3_600 + m * 60 + s ≡ e * day_seconds + k * 3_600 + l * 60 + t → (d ≡ e) × (h ≡ k) × (m ≡ l) × (s ≡ t)
same_time d h m s e k l t a b same = (omega arith, omega arith, omega arith, omega arith)

-- a moment has one text
pub one_moment_text : (a b : List ℕ) (n : ℕ) → moment_of a ≡ Some n → moment_of b ≡ Some n → a ≡ b
one_moment_text a b n ea eb =
    let p = moment_parts a n ea in
    let q = moment_parts b n eb in
    let s = time_digits a p.1.1 in
    let t = time_digits b q.1.1 in
    let same = same_time p.0 (number_at 8 2 a) (number_at 10 2 a) (number_at 12 2 a) q.0 (number_at 8 2 b) (number_at 10 2 b) (number_at 12 2 b) (time_parts _ _ _ p.1.2) (time_parts _ _ _ q.1.2) (p.1.3 ∙ sym q.1.3) in
    let day = one_day_text (take 8 a) (take 8 b) p.0 p.1.0 (q.1.0 ∙ ap Some (sym same.0)) in
    let hour = same_digits (take 2 (drop 8 a)) (take 2 (drop 8 b)) (simp (length-take, length-drop) (omega (arith, s.0, t.0))) s.1 t.1 same.1 in
    let minute = same_digits (take 2 (drop 10 a)) (take 2 (drop 10 b)) (simp (length-take, length-drop) (omega (arith, s.0, t.0))) s.2 t.2 same.2 in
    let second = same_digits (take 2 (drop 12 a)) (take 2 (drop 12 b)) (simp (length-take, length-drop) (omega (arith, s.0, t.0))) s.3 t.3 same.3 in
    let front = fourteen_cuts a s.0 in
    let back = fourteen_cuts b t.0 in
    cc

-- two digits say their number
pair_number : (n : ℕ) → n < 100 → Some n ≡ number_of (two_digits n [])
pair_number n h =
    let a = digit_char (n / 10) (omega arith) in
    let b = digit_char (n % 10) (omega arith) in
    rw (a.0, b.0, a.1, b.1) (ap Some (omega arith))

-- the digits of a day, before those of a time of it, read as their moment
pub moment_of_text : (day : List ℕ) (d h m s : ℕ) → length day ≡ 8 → day_of day ≡ Some d → h < 24 → m < 60 → s < 60 → moment_of (day ++ two_digits h (two_digits m (two_digits s []))) ≡ Some (d * day_seconds + h * 3_600 + m * 60 + s)
moment_of_text day d h m s len e hh hm hs =
    let time = two_digits h (two_digits m (two_digits s [])) in
    let text = day ++ time in
    let front : take 8 text ≡ day = ap (λ k. take k text) (sym len) ∙ take-append_seam day time in
    let back : drop 8 text ≡ time = ap (λ k. drop k text) (sym len) ∙ drop-append_seam day time in
    let minutes : drop 10 text ≡ two_digits m (two_digits s []) = sym (drop-drop 2 8 text) ∙ ap (drop 2) back in
    let seconds : drop 12 text ≡ two_digits s [] = sym (drop-drop 4 8 text) ∙ ap (drop 4) back in
    let i = moment_is text d h m s (length-append day time ∙ ap (λ k. k + 6) len) (sym (ap day_of front ∙ e)) (pair_number h (omega arith) ∙ ap (λ l. number_of (take 2 l)) (sym back)) (pair_number m (omega arith) ∙ ap (λ l. number_of (take 2 l)) (sym minutes)) (pair_number s (omega arith) ∙ ap (λ l. number_of (take 2 l)) (sym seconds)) in
    i ∙ rw (time_holds h m s hh hm hs)

-- the DateTime of a 100 record
pub date_time_other : (text : List ℕ) → (length text ≡ 12 → ⊥) → date_time_of text ≡ moment_of text
unfolding date_time_of
date_time_other text h =
    let e : (length text == 12) ≡ false = grind (arith, nat_tests) in
    rw e

pub date_time_short : (text : List ℕ) → length text ≡ 12 → date_time_of text ≡ moment_of (text ++ codes "00")
unfolding date_time_of
date_time_short text h = rw h
