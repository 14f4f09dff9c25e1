-- Written texts read back, and are the only ones.
use Rattle.std.proofs.Common.{◌≡◌, ℕ, Bool, true, false, ◌&&◌, ◌==◌, not, List, [], ◌∷◌, length, refl, sym, ap, ◌∙◌, arith, Option, Some, None}
use Rattle.std.proofs.lemmas.Bool.Decides.{nat_tests}
use Rattle.std.specs.Char.{is_ascii_digit, is_ascii_uppercase}
use Rattle.std.specs.List.{list_all, slice_split}
use Rattle.std.specs.Option.{option_map}
use Rattle.mds_calendar.specs.Calendar.{day_of, moment_of}
use Rattle.mds_names.specs.Names.{is_comma, is_name, is_name_char}
use Rattle.mds_terms.specs.Details.{DetailsValue, is_details, details_of}
use Rattle.mds_terms.specs.Event.{EventValue, is_event, is_trans, event_of, letter_of, trans_text}
use Rattle.mds_terms.specs.Parts.{joined, optional}
use Rattle.mds_terms.specs.Printable.{is_printable, is_printable_char}
use Rattle.mds_terms.proofs.Joined.{lacks_comma, joined_splits}
use Rattle.mds_terms.proofs.Texts.{both, day_is_digits, moment_is_digits}

-- a text of characters of a kind that has no comma lacks commas
lacks_from : (p : ℕ → Bool) → ((c : ℕ) → p c ≡ true → not (is_comma c) ≡ true) → (text : List ℕ) → list_all p text ≡ true → lacks_comma text ≡ true
lacks_from p w [] h = refl
lacks_from p w (c ∷ text) h =
    let b = both (p c) (list_all p text) h in
    rw (w c b.0, lacks_from p w text b.1)

digits_lack : (text : List ℕ) → list_all is_ascii_digit text ≡ true → lacks_comma text ≡ true
digits_lack text h = lacks_from is_ascii_digit (λ c d. grind (arith, nat_tests)) text h

printable_lacks : (text : List ℕ) → is_printable text ≡ true → lacks_comma text ≡ true
printable_lacks text h = lacks_from is_printable_char (λ c d. grind (arith, nat_tests)) text (both _ (list_all is_printable_char text) h).1

name_lacks : (n : ℕ) (text : List ℕ) → is_name n text ≡ true → lacks_comma text ≡ true
name_lacks n text h = lacks_from is_name_char (λ c d. grind (arith, nat_tests)) text (both (length text == n) (list_all is_name_char text) h).1

trans_lacks : (trans : Option ℕ) → is_trans trans ≡ true → lacks_comma (trans_text trans) ≡ true
trans_lacks None h = refl
trans_lacks (Some c) h = lacks_from is_ascii_uppercase (λ c d. grind (arith, nat_tests)) (c ∷ []) (rw h)

-- a text that isn't empty is read
optional_more : (read : List ℕ → Option ℕ) (c : ℕ) (text : List ℕ) → optional read (c ∷ text) ≡ option_map Some (read (c ∷ text))
optional_more read c text =
    let e : (length (c ∷ text) == 0) ≡ false = grind (arith, nat_tests) in
    rw e

mapped : (o : Option ℕ) (x : Option ℕ) → option_map Some o ≡ Some x → (n : ℕ) × (o ≡ Some n) × (x ≡ Some n)
mapped (Some n) x e = (n, refl, cc)
mapped None x e = absurd (cc)

optional_lacks : (read : List ℕ → Option ℕ) → ((text : List ℕ) (n : ℕ) → read text ≡ Some n → list_all is_ascii_digit text ≡ true) → (text : List ℕ) (x : Option ℕ) → optional read text ≡ Some x → lacks_comma text ≡ true
optional_lacks read digits [] x e = refl
optional_lacks read digits (c ∷ text) x e =
    let m = mapped (read (c ∷ text)) x (sym (optional_more read c text) ∙ e) in
    digits_lack (c ∷ text) (digits (c ∷ text) m.0 m.1)

-- a part that may be absent has one text if one that isn't has
pub one_optional : (read : List ℕ → Option ℕ) → ((a b : List ℕ) (n : ℕ) → read a ≡ Some n → read b ≡ Some n → a ≡ b) → (a b : List ℕ) (x : Option ℕ) → optional read a ≡ Some x → optional read b ≡ Some x → a ≡ b
one_optional read one [] [] x e k = refl
one_optional read one [] (d ∷ b) x e k =
    let m = mapped (read (d ∷ b)) x (sym (optional_more read d b) ∙ k) in
    absurd (cc)
one_optional read one (c ∷ a) [] x e k =
    let m = mapped (read (c ∷ a)) x (sym (optional_more read c a) ∙ e) in
    absurd (cc)
one_optional read one (c ∷ a) (d ∷ b) x e k =
    let m = mapped (read (c ∷ a)) x (sym (optional_more read c a) ∙ e) in
    let n = mapped (read (d ∷ b)) x (sym (optional_more read d b) ∙ k) in
    let same : m.0 ≡ n.0 = cc in
    one (c ∷ a) (d ∷ b) n.0 (m.1 ∙ ap Some same) n.1

-- the four texts of details
four : (a b c d : Bool) → (a && (b && (c && (d && true)))) ≡ true → (a ≡ true) × (b ≡ true) × (c ≡ true) × (d ≡ true)
four a b c d h =
    let p = both a (b && (c && (d && true))) h in
    let q = both b (c && (d && true)) p.1 in
    let r = both c (d && true) q.1 in
    (p.0, q.0, r.0, (both d true r.1).0)

pub details_read : (details : DetailsValue) (next : List ℕ) → is_details details ≡ true → optional day_of next ≡ Some details.next → details_of details.configuration details.register details.datastream details.meter next ≡ Some details
unfolding details_of
details_read details next h e = rw (h, e)

pub details_split : (details : DetailsValue) (next : List ℕ) → is_details details ≡ true → optional day_of next ≡ Some details.next → slice_split is_comma (joined (details.configuration ∷ details.register ∷ details.datastream ∷ details.meter ∷ next ∷ [])) ≡ details.configuration ∷ details.register ∷ details.datastream ∷ details.meter ∷ next ∷ []
details_split details next h e =
    let p = four (is_printable details.configuration) (is_printable details.register) (is_printable details.datastream) (is_printable details.meter) h in
    let lacks : list_all lacks_comma (details.configuration ∷ details.register ∷ details.datastream ∷ details.meter ∷ next ∷ []) ≡ true =
    rw (printable_lacks details.configuration p.0, printable_lacks details.register p.1, printable_lacks details.datastream p.2, printable_lacks details.meter p.3, optional_lacks day_of day_is_digits next details.next e) in
    joined_splits details.configuration (details.register ∷ details.datastream ∷ details.meter ∷ next ∷ []) lacks

-- the letter of a transaction code reads back
letter_reads : (trans : Option ℕ) → is_trans trans ≡ true → optional letter_of (trans_text trans) ≡ Some trans
letter_reads None h = refl
letter_reads (Some c) h = rw h

-- the parts of an event
event_parts : (event : EventValue) → is_event event ≡ true → (is_name 10 event.nmi ≡ true) × (is_name 2 event.suffix ≡ true) × (is_trans event.trans ≡ true) × (is_printable event.ticket ≡ true) × (is_printable event.reading ≡ true)
event_parts event h =
    let names = is_name 10 event.nmi && is_name 2 event.suffix in
    let p = both (names && is_trans event.trans) (list_all is_printable (event.ticket ∷ event.reading ∷ [])) h in
    let q = both names (is_trans event.trans) p.0 in
    let r = both (is_name 10 event.nmi) (is_name 2 event.suffix) q.0 in
    let s = both (is_printable event.ticket) (is_printable event.reading && true) p.1 in
    (r.0, r.1, q.1, s.0, (both (is_printable event.reading) true s.1).0)

pub event_reads : (event : EventValue) (day moment : List ℕ) → is_event event ≡ true → day_of day ≡ Some event.day → optional moment_of moment ≡ Some event.moment → event_of event.nmi event.suffix day (trans_text event.trans) event.ticket moment event.reading ≡ Some event
unfolding event_of
event_reads event day moment h d m =
    let p = event_parts event h in
    rw (p.0, p.1, d, letter_reads event.trans p.2, m, p.3, p.4)

pub event_splits : (event : EventValue) (day moment : List ℕ) → is_event event ≡ true → day_of day ≡ Some event.day → optional moment_of moment ≡ Some event.moment → slice_split is_comma (joined (event.nmi ∷ event.suffix ∷ day ∷ trans_text event.trans ∷ event.ticket ∷ moment ∷ event.reading ∷ [])) ≡ event.nmi ∷ event.suffix ∷ day ∷ trans_text event.trans ∷ event.ticket ∷ moment ∷ event.reading ∷ []
event_splits event day moment h d m =
    let p = event_parts event h in
    let lacks : list_all lacks_comma (event.nmi ∷ event.suffix ∷ day ∷ trans_text event.trans ∷ event.ticket ∷ moment ∷ event.reading ∷ []) ≡ true =
    rw (name_lacks 10 event.nmi p.0, name_lacks 2 event.suffix p.1, digits_lack day (day_is_digits day event.day d), trans_lacks event.trans p.2, printable_lacks event.ticket p.3, optional_lacks moment_of moment_is_digits moment event.moment m, printable_lacks event.reading p.4) in
    joined_splits event.nmi (event.suffix ∷ day ∷ trans_text event.trans ∷ event.ticket ∷ moment ∷ event.reading ∷ []) lacks
