-- Names and streams as text.
use Rattle.std.proofs.Common.{◌≡◌, ℕ, ◌+◌, ◌<◌, ◌≤◌, Bool, true, false, ◌&&◌, ◌==◌, if◌then◌else◌, is_ok, OnErr, List, [], ◌∷◌, ◌++◌, length, length-append, take, codes, refl, sym, ap, ◌∙◌, arith, MatchResult, IsOk, Ok, Err, Result, append_assoc}
use Rattle.std.proofs.lemmas.Bool.Decides.{nat_tests}
use Rattle.std.proofs.lemmas.List.Splits.{slice_split_at, slice_split_none}
use Rattle.std.proofs.lemmas.List.Elements.{All-weaker}
use Rattle.std.proofs.lemmas.List.Sums.{AllPass-from_list_all}
use Rattle.std.proofs.lemmas.Str.{IsUtf8-from_ascii}
use Rattle.std.proofs.lemmas.Str.Ascii.{IsAscii-from_all}
use Rattle.std.proofs.Math.Seq.{take-append_seam}
use Rattle.std.specs.List.{All, list_all, slice_split}
use Rattle.std.specs.Str.{IsUtf8}
use Rattle.mds_names.specs.Names.{is_name_char, is_name, stream_text, is_comma, comma}

-- both of two tests hold where their conjunction does
pub both : (a b : Bool) → (a && b) ≡ true → (a ≡ true) × (b ≡ true)
both true true e = (refl, refl)
both true false e = (refl, e)
both false b e = absurd (cc)

-- an outcome that is no error is a success
pub ok_from : {T E : Type 0} (r : Result T E) (P : T → Type 0) (Q : E → Type 0) → MatchResult r P Q → ((e : E) → Q e → ⊥) → IsOk r
ok_from (Ok x) P Q h none = refl
ok_from (Err e) P Q h none = absurd (none e h)

-- what holds where the bytes were kept holds after an error
pub on_err_kept : {T E P : Type 0} (r : Result T E) (new done kept : List ℕ) → new ≡ (if is_ok r then done else kept) → (new ≡ kept → P) → OnErr r P
on_err_kept (Ok x) new done kept e h = tt
on_err_kept (Err x) new done kept e h = h e

-- bytes that are all of a kind below 128 are text
utf8_from : (p : ℕ → Bool) → ((c : ℕ) → p c ≡ true → c < 128) → (bs : List ℕ) → list_all p bs ≡ true → IsUtf8 bs
utf8_from p low bs h = IsUtf8-from_ascii bs (IsAscii-from_all bs (All-weaker (λ c. p c ≡ true) (λ c. c < 128) low bs (AllPass-from_list_all p bs h)))

pub name_utf8 : (n : ℕ) (bs : List ℕ) → is_name n bs ≡ true → IsUtf8 bs
name_utf8 n bs h = utf8_from is_name_char (λ c d. grind (arith, nat_tests)) bs (both (length bs == n) (list_all is_name_char bs) h).1

-- a name has no comma
name_no_comma : (n : ℕ) (bs : List ℕ) → is_name n bs ≡ true → All (λ c. is_comma c ≡ false) bs
name_no_comma n bs h = All-weaker (λ c. is_name_char c ≡ true) (λ c. is_comma c ≡ false) (λ c d. grind (arith, nat_tests)) bs (AllPass-from_list_all is_name_char bs (both (length bs == n) (list_all is_name_char bs) h).1)

-- a stream's text splits at its comma into its NMI and its suffix
pub stream_splits : (nmi suffix : List ℕ) → is_name 10 nmi ≡ true → is_name 2 suffix ≡ true → slice_split is_comma (stream_text nmi suffix) ≡ nmi ∷ suffix ∷ []
stream_splits nmi suffix h k =
    ap (slice_split is_comma) (append_assoc nmi (codes ",") suffix) ∙ (slice_split_at is_comma nmi comma suffix (name_no_comma 10 nmi h) refl ∙ ap (λ t. nmi ∷ t) (slice_split_none is_comma suffix (name_no_comma 2 suffix k)))

-- what stands after the first write, and after the second
pub part_nmi : (old new nmi suffix : List ℕ) → new ≡ old ++ nmi → (n : ℕ) × (new ≡ old ++ take n (stream_text nmi suffix))
part_nmi old new nmi suffix e = (length nmi, e ∙ ap (λ t. old ++ t) (sym (ap (take (length nmi)) (append_assoc nmi (codes ",") suffix) ∙ take-append_seam nmi (codes "," ++ suffix))))

pub part_comma : (old new nmi suffix : List ℕ) → new ≡ (old ++ nmi) ++ codes "," → (n : ℕ) × (new ≡ old ++ take n (stream_text nmi suffix))
part_comma old new nmi suffix e =
    (length (nmi ++ codes ","), e ∙ (append_assoc old nmi (codes ",") ∙ ap (λ t. old ++ t) (sym (take-append_seam (nmi ++ codes ",") suffix))))

-- room that one of the three writes lacks, the text of the stream lacks
stream_length : (nmi suffix : List ℕ) → length (stream_text nmi suffix) ≡ length nmi + 1 + length suffix
stream_length nmi suffix = length-append (nmi ++ codes ",") suffix ∙ ap (λ n. n + length suffix) (length-append nmi (codes ","))

pub full_front : (nmi suffix : List ℕ) (room held n : ℕ) → n ≤ length nmi + 1 → room < held + n → room < held + length (stream_text nmi suffix)
full_front nmi suffix room held n within h = omega (arith, within, h, stream_length nmi suffix)

pub full_suffix : {T E : Type 0} (r : Result T E) (nmi suffix : List ℕ) (room held room2 held2 : ℕ) → room ≤ room2 → held2 ≡ held + (length nmi + 1)
    → OnErr r (room2 < held2 + length suffix) → OnErr r (room < held + length (stream_text nmi suffix))
full_suffix (Ok x) nmi suffix room held room2 held2 grows len h = tt
full_suffix (Err e) nmi suffix room held room2 held2 grows len h = omega (arith, grows, len, h, stream_length nmi suffix)
