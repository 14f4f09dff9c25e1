-- What the refusals of the parser say of the bytes.
use Rattle.std.proofs.Common.{◌≡◌, ◌≢◌, ℕ, ◌+◌, ◌<◌, ◌≤◌, ◌⊎◌, inl, inr, List, [], ◌∷◌, ◌++◌, length, filter, refl, sym, ◌∙◌, ap, subst, arith, ◌==◌, codes, true}
use Rattle.std.specs.List.{flat_map}
use Rattle.std.proofs.lemmas.List.Elements.{filter-append, All-cons, All-nil}
use Rattle.std.proofs.lemmas.List.Concat.{flat_map-cons}
use Rattle.std.proofs.lemmas.List.{length-append, append-nil}
use Rattle.std.proofs.lemmas.Str.{IsUtf8-from_ascii}
use Rattle.std.proofs.lemmas.Str.Ascii.{IsAscii-cons, IsAscii-nil}
use Rattle.httparse.specs.declared.Error.{Error}
use Rattle.httparse.specs.declared.Error.TheVariants as error
use Rattle.httparse.specs.Ascii.{colon}
use Rattle.httparse.specs.Grammar.{is_token_byte, is_uri_byte, LineEnd, crlf, lf, print_end, print_blank, print_version, Field, print_field, print_section, RequestHead, IsRequestHead, print_request, HasNoRequest, NeverHasRequest}
use Rattle.httparse.specs.Spans.{RequestExceeds, RequestOverflows}
use Rattle.httparse.proofs.GrammarLemmas.{print_request-append}
use Rattle.httparse.proofs.OpenLemmas.{letter_is_token}
use Rattle.mds_wire.specs.Heads.{line_feeds, most_fields, IsNoHead, IsOpenHead}

line_feeds-append : (xs ys : List ℕ) → line_feeds (xs ++ ys) ≡ line_feeds xs + line_feeds ys
line_feeds-append xs ys = ap length (filter-append (λ byte. byte == 10) xs ys) ∙ length-append (filter (λ byte. byte == 10) xs) (filter (λ byte. byte == 10) ys)

line_feeds-end : (end : LineEnd) → line_feeds (print_end end) ≡ 1
line_feeds-end crlf = refl
line_feeds-end lf = refl

-- the lines of a part are lines of the whole
line_feeds-behind : (xs ys : List ℕ) → line_feeds ys ≤ line_feeds (xs ++ ys)
line_feeds-behind xs ys = omega (arith, line_feeds-append xs ys)

-- each field has a line
line_feeds-field : (f : Field) → 1 ≤ line_feeds (print_field f)
line_feeds-field f =
    let behind : line_feeds (print_end f.end) ≤ line_feeds (print_field f) = line_feeds-behind (f.name ++ colon ∷ f.raw) (print_end f.end) in
    omega (arith, line_feeds-end f.end)

line_feeds-fields : (fields : List Field) → length fields ≤ line_feeds (flat_map print_field fields)
line_feeds-fields [] = omega arith
line_feeds-fields (f ∷ fields) =
    let e = ap line_feeds (flat_map-cons print_field f fields) ∙ line_feeds-append (print_field f) (flat_map print_field fields) in
    omega (arith, line_feeds-field f, line_feeds-fields fields, e)

line_feeds-section : (fields : List Field) (last : LineEnd) → length fields + 1 ≤ line_feeds (print_section fields last)
line_feeds-section fields last =
    omega (arith, line_feeds-fields fields, line_feeds-end last, line_feeds-append (flat_map print_field fields) (print_end last))

-- a head has a line for itself, one for each field and an empty one
pub line_feeds-head : (h : RequestHead) → length h.fields + 2 ≤ line_feeds (print_request h)
line_feeds-head h =
    let section = print_section h.fields h.last ++ [] in
    let line = print_end h.line_end ++ section in
    let version = print_version h.minor ++ line in
    let target = h.target ++ 32 ∷ version in
    let method = h.method ++ 32 ∷ target in
    let a : length h.fields + 1 ≤ line_feeds (print_section h.fields h.last) = line_feeds-section h.fields h.last in
    let a' : line_feeds section ≡ line_feeds (print_section h.fields h.last) = ap line_feeds (append-nil (print_section h.fields h.last)) in
    let b : line_feeds line ≡ line_feeds (print_end h.line_end) + line_feeds section = line_feeds-append (print_end h.line_end) section in
    let c : line_feeds (print_end h.line_end) ≡ 1 = line_feeds-end h.line_end in
    let d : line_feeds line ≤ line_feeds version = line_feeds-behind (print_version h.minor) line in
    let e : line_feeds version ≤ line_feeds target = line_feeds-behind h.target (32 ∷ version) in
    let f : line_feeds target ≤ line_feeds method = line_feeds-behind h.method (32 ∷ target) in
    let g : line_feeds method ≤ line_feeds (print_blank h.blank ++ method) = line_feeds-behind (print_blank h.blank) method in
    let whole : line_feeds (print_request h) ≡ line_feeds (print_blank h.blank ++ method) = ap line_feeds (sym (append-nil (print_request h)) ∙ print_request-append h []) in
    omega arith

-- a head with too many fields
pub too_many : (bytes : List ℕ) → RequestExceeds most_fields bytes → most_fields < line_feeds bytes
too_many bytes (front, rest, is, h, reads, many) =
    let whole : line_feeds (front ++ print_end lf) ≡ line_feeds (print_request h) = ap line_feeds (reads.1 ∙ append-nil (print_request h)) in
    let one : line_feeds (front ++ print_end lf) ≡ line_feeds front + 1 = line_feeds-append front (print_end lf) in
    let all : line_feeds bytes ≡ line_feeds front + line_feeds rest = ap line_feeds is ∙ line_feeds-append front rest in
    omega (arith, line_feeds-head h, many)

-- every error says that the bytes begin no head
why_none : (bytes : List ℕ) (e : Error) → (e ≢ error.TooManyHeaders → NeverHasRequest bytes)
    → (e ≡ error.TooManyHeaders → RequestExceeds most_fields bytes) → NeverHasRequest bytes ⊎ (most_fields < line_feeds bytes)
why_none bytes error.HeaderName h k = inl (h (λ p. absurd (cc)))
why_none bytes error.HeaderValue h k = inl (h (λ p. absurd (cc)))
why_none bytes error.NewLine h k = inl (h (λ p. absurd (cc)))
why_none bytes error.Status h k = inl (h (λ p. absurd (cc)))
why_none bytes error.Token h k = inl (h (λ p. absurd (cc)))
why_none bytes error.Version h k = inl (h (λ p. absurd (cc)))
why_none bytes error.TooManyHeaders h k = inr (too_many bytes (k refl))

pub no_head : (bytes : List ℕ) (room : ℕ) (e : Error) → room ≡ most_fields → (e ≢ error.TooManyHeaders → NeverHasRequest bytes)
    → (e ≡ error.TooManyHeaders → RequestExceeds room bytes) → RequestOverflows room bytes → IsNoHead bytes
no_head bytes room e same h k none = record {
  none = subst (λ (n : ℕ). RequestOverflows n bytes) same none;
  why = why_none bytes e h (λ is. subst (λ (n : ℕ). RequestExceeds n bytes) same (k is));
}

-- nothing is no head
pub nothing_read : HasNoRequest []
nothing_read h rest reads =
    let tail = h.target ++ 32 ∷ (print_version h.minor ++ (print_end h.line_end ++ (print_section h.fields h.last ++ rest))) in
    let a : 0 ≡ length (print_blank h.blank ++ (h.method ++ 32 ∷ tail)) = ap length (reads.1 ∙ print_request-append h rest) in
    let b : length (print_blank h.blank ++ (h.method ++ 32 ∷ tail)) ≡ length (print_blank h.blank) + length (h.method ++ 32 ∷ tail) = length-append (print_blank h.blank) (h.method ++ 32 ∷ tail) in
    let c : length (h.method ++ 32 ∷ tail) ≡ length h.method + length (32 ∷ tail) = length-append h.method (32 ∷ tail) in
    absurd (omega (arith, reads.0.method.0))

-- nothing is the beginning of a head, as of this one
abbrev shortest : RequestHead
shortest = record { blank = []; method = codes "A"; target = codes "/"; minor = 0; line_end = lf; fields = []; last = lf }

shortest_is : IsRequestHead shortest
shortest_is = record {
  method = (omega arith, All-cons (λ b. is_token_byte b ≡ true) 65 [] letter_is_token (All-nil _));
  target = (omega arith, All-cons (λ b. is_uri_byte b ≡ true) 47 [] refl (All-nil _));
  target_text = IsUtf8-from_ascii (codes "/") (IsAscii-cons 47 [] (omega arith) IsAscii-nil);
  minor = omega arith;
  fields = All-nil _;
}

pub nothing_open : IsOpenHead []
nothing_open = record {
  none = nothing_read;
  may = inl (print_request shortest, shortest, (shortest_is, sym (append-nil (print_request shortest))));
}
