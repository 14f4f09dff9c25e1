-- The content that a text with a first line of its own says.
use Rattle.std.proofs.Common.{◌≡◌, ◌≢◌, ◌<◌, ◌≤◌, ◌+◌, ◌-◌, inl, inr, ℕ, true, false, ◌==◌, cond, List, [], ◌∷◌, ◌++◌, drop, get_or, length, map, take, Some, refl, sym, ap, ◌∙◌, arith, Ok, Err, OnOk, Result, append_assoc, is_ok, length-append, length-drop, length-take}
use Rattle.std.specs.Char.{is_ascii_digit}
use Rattle.std.specs.List.{All, onto_first, slice_split}
use Rattle.std.proofs.lemmas.Bool.Decides.{nat_tests}
use Rattle.std.proofs.lemmas.List.{append-nil, drop_more, get_or-drop, get_or-take, get_or_default, take-append-drop}
use Rattle.std.proofs.Math.Seq.{take-append_seam}
use Rattle.std.proofs.lemmas.List.Elements.{All-append, All-cons, All-take, All-weaker}
use Rattle.std.proofs.lemmas.List.Splits.{length-slice_split, slice_split-cons_yes, slice_split_at, slice_split_none}
use Rattle.std.proofs.lemmas.List.Sums.{AllPass-from_list_all}
use Rattle.mds_calendar.specs.Calendar.{moment_of}
use Rattle.mds_names.specs.Names.{is_comma}
use Rattle.mds_terms.proofs.Texts.{moment_is_digits}
use Rattle.mds_statements.specs.Bodies.{IsPeriodBody, content_of_body, with_field, without_last}
use Rattle.mds_statements.specs.declared.periods.Period.{Period}
use Rattle.mds_statements.specs.BodySteps.{IsFirstLine}
use Rattle.mds_statements.specs.Contents.{PeriodContent, content_in, content_of, is_line_feed, texts_of}
use Rattle.mds_statements.proofs.OneText.{one_text}

abbrev NoFeed : List ℕ → Type 0
NoFeed text = All (λ c. is_line_feed c ≡ false) text

abbrev NoComma : List ℕ → Type 0
NoComma text = All (λ c. is_comma c ≡ false) text

-- ---- a line with a text behind its last comma

onto_front : (x : ℕ) (parts more : List (List ℕ)) → 0 < length parts → onto_first x (parts ++ more) ≡ onto_first x parts ++ more
onto_front x [] more some = absurd (omega arith)
onto_front x (part ∷ parts) more some = refl

-- a line is split on both sides of a comma
texts_both : (xs ys : List ℕ) → texts_of (xs ++ 44 ∷ ys) ≡ texts_of xs ++ texts_of ys
texts_both [] ys = slice_split-cons_yes is_comma 44 ys refl
texts_both (x ∷ xs) ys =
    elim (is_comma x) as (λ b. cond b ([] ∷ texts_of (xs ++ 44 ∷ ys)) (onto_first x (texts_of (xs ++ 44 ∷ ys)))
    ≡ cond b ([] ∷ texts_of xs) (onto_first x (texts_of xs)) ++ texts_of ys) [
      | true ↦ ap (λ t. [] ∷ t) (texts_both xs ys)
      | false ↦
          ap (onto_first x) (texts_both xs ys)
          ∙ onto_front x (texts_of xs) (texts_of ys) (omega (arith, length-slice_split is_comma xs))
    ]

pub texts_push : (line text : List ℕ) → NoComma text → texts_of (line ++ 44 ∷ text) ≡ texts_of line ++ text ∷ []
texts_push line text none =
    texts_both line text ∙ ap (λ t. texts_of line ++ t) (slice_split_none is_comma text none)

-- ---- another first line before the same notes

line_alone : (line : List ℕ) → NoFeed line → content_of line ≡ record { fields = texts_of line; notes = [] }
line_alone line none = ap content_in (slice_split_none is_line_feed line none)

line_before : (line more : List ℕ) → NoFeed line
    → content_of (line ++ 10 ∷ more) ≡ record { fields = texts_of line; notes = map texts_of (slice_split is_line_feed more) }
line_before line more none = ap content_in (slice_split_at is_line_feed line 10 more none refl)

notes_kept : (content : PeriodContent) (fields : List (List ℕ)) (notes : List (List (List ℕ)))
    → content ≡ record { fields = fields; notes = notes } → notes ≡ content.notes
notes_kept content fields notes e = sym (ap (λ (c : PeriodContent). c.notes) e)

pub line_said : (text line rest : List ℕ) → IsFirstLine text line rest → (other : List ℕ) → NoFeed other
    → content_of (other ++ rest) ≡ record { fields = texts_of other; notes = (content_of text).notes }
line_said text line rest first other none =
    elim first.ends [
      | inl e ↦
          let said : content_of text ≡ record { fields = texts_of line; notes = [] } =
          ap content_of (first.whole ∙ ap (λ r. line ++ r) e ∙ append-nil line) ∙ line_alone line first.plain in
          ap content_of (ap (λ r. other ++ r) e ∙ append-nil other) ∙ line_alone other none
          ∙ ap (λ notes. record { fields = texts_of other; notes = notes }) (notes_kept (content_of text) _ _ said)
      | inr more ↦
          let said : content_of text ≡ record { fields = texts_of line; notes = map texts_of (slice_split is_line_feed more.0) } =
          ap content_of (first.whole ∙ ap (λ r. line ++ r) more.1) ∙ line_before line more.0 first.plain in
          ap content_of (ap (λ r. other ++ r) more.1) ∙ line_before other more.0 none
          ∙ ap (λ notes. record { fields = texts_of other; notes = notes }) (notes_kept (content_of text) _ _ said)
    ]

fields_said : (text line rest : List ℕ) → IsFirstLine text line rest → (content_of text).fields ≡ texts_of line
fields_said text line rest first =
    ap (λ t. (content_of t).fields) first.whole ∙ ap (λ (c : PeriodContent). c.fields) (line_said text line rest first line first.plain)

-- ---- the body of a content

digits_no_comma : (text : List ℕ) (n : ℕ) → moment_of text ≡ Some n → NoComma text
digits_no_comma text n is =
    All-weaker (λ c. is_ascii_digit c ≡ true) (λ c. is_comma c ≡ false) (λ c d. grind (arith, nat_tests)) text
    (AllPass-from_list_all is_ascii_digit text (moment_is_digits text n is))

digits_no_feed : (text : List ℕ) (n : ℕ) → moment_of text ≡ Some n → NoFeed text
digits_no_feed text n is =
    All-weaker (λ c. is_ascii_digit c ≡ true) (λ c. is_line_feed c ≡ false) (λ c d. grind (arith, nat_tests)) text
    (AllPass-from_list_all is_ascii_digit text (moment_is_digits text n is))

-- a text with an update behind its first line says the update behind its fields
pub body_said : (text line rest : List ℕ) → IsFirstLine text line rest → (content : PeriodContent) → content_of text ≡ content
    → (update : List ℕ) (n : ℕ) → moment_of update ≡ Some n
    → content_of ((line ++ 44 ∷ update) ++ rest) ≡ with_field content update
body_said text line rest first content says update n is =
    line_said text line rest first (line ++ 44 ∷ update)
    (All-append (λ c. is_line_feed c ≡ false) line (44 ∷ update) first.plain
    (All-cons (λ c. is_line_feed c ≡ false) 44 update refl (digits_no_feed update n is)))
    ∙ (λ i. record {
      fields = (texts_push line update (digits_no_comma update n is) ∙ ap (λ fs. fs ++ update ∷ []) (sym (fields_said text line rest first))) i;
      notes = (content_of text).notes;
    })
    ∙ ap (λ (c : PeriodContent). with_field c update) says

-- a text without what stands behind the last comma of its first line says its content without the last field
pub without_said : (body line rest : List ℕ) → IsFirstLine body line rest → (front last : List ℕ) → line ≡ front ++ 44 ∷ last
    → NoComma last → NoFeed front → content_of (front ++ rest) ≡ content_of_body body
without_said body line rest first front last ends none plain =
    let said : (content_of body).fields ≡ texts_of front ++ last ∷ [] =
    fields_said body line rest first ∙ ap texts_of ends ∙ texts_push front last none in
    let count : length (texts_of front ++ last ∷ []) - 1 ≡ length (texts_of front) = omega (arith, length-append (texts_of front) (last ∷ [])) in
    let kept : take (length (content_of body).fields - 1) (content_of body).fields ≡ texts_of front =
    ap (λ fields. take (length fields - 1) fields) said ∙ ap (λ n. take n (texts_of front ++ last ∷ [])) count
    ∙ take-append_seam (texts_of front) (last ∷ []) in
    line_said body line rest first front plain
    ∙ (λ i. record { fields = sym kept i; notes = (content_of body).notes })

-- what stands behind the fields may be left out again
last_off : (content : PeriodContent) (text : List ℕ) → without_last (with_field content text) ≡ content
last_off content text =
    let count : length (content.fields ++ text ∷ []) - 1 ≡ length content.fields = omega (arith, length-append content.fields (text ∷ [])) in
    let kept : take (length (content.fields ++ text ∷ []) - 1) (content.fields ++ text ∷ []) ≡ content.fields =
    ap (λ n. take n (content.fields ++ text ∷ [])) count ∙ take-append_seam content.fields (text ∷ []) in
    λ i. record { fields = kept i; notes = content.notes }

-- the body of an accumulation says its content
pub body_back : (period : Period) (body : List ℕ) → IsPeriodBody period body → content_of_body body ≡ period.content
body_back period body is = ap (λ (c : PeriodContent). without_last c) is.2 ∙ last_off period.content is.0

-- without a comma there is one field
pub one_field : (body line rest : List ℕ) → IsFirstLine body line rest → NoComma line → length (content_of body).fields ≤ 1
one_field body line rest first none =
    let said : length (content_of body).fields ≡ 1 =
    ap length (fields_said body line rest first ∙ slice_split_none is_comma line none) in
    omega arith

-- ---- what is found in a text

differs : (x c : ℕ) → x ≢ c → (x == c) ≡ false
differs x c not = grind (arith, nat_tests)

none_in : (c : ℕ) (text : List ℕ) → ((i : ℕ) → i < length text → get_or text i 0 ≢ c) → All (λ b. (b == c) ≡ false) text
none_in c text none = λ i d within. differs (get_or text i d) c (λ e. none i within (sym (get_or_default text i d 0 within) ∙ e))

-- up to the first line feed stands the first line
pub first_found : (text : List ℕ) (at : ℕ) → at < length text → get_or text at 0 ≡ 10
    → ((i : ℕ) → i < at → get_or text i 0 ≢ 10) → IsFirstLine text (take at text) (drop at text)
first_found text at inside is none = record {
  whole = sym (take-append-drop at text);
  plain = none_in 10 (take at text) (λ i within e.
      let early : i < at = omega (arith, length-take at text) in
      none i early (sym (get_or-take at text i 0 early) ∙ e));
  ends = inr (drop (at + 1) text, drop_more text at 0 inside ∙ ap (λ c. c ∷ drop (at + 1) text) is);
}

-- and without one it is the only line
pub only_found : (text : List ℕ) → ((i : ℕ) → i < length text → get_or text i 0 ≢ 10) → IsFirstLine text text []
only_found text none = record { whole = sym (append-nil text); plain = none_in 10 text none; ends = inl refl }

-- a comma splits a line
split_there : (line : List ℕ) (at : ℕ) → at < length line → get_or line at 0 ≡ 44 → line ≡ take at line ++ 44 ∷ drop (at + 1) line
split_there line at inside is =
    sym (take-append-drop at line) ∙ ap (λ t. take at line ++ t) (drop_more line at 0 inside ∙ ap (λ c. c ∷ drop (at + 1) line) is)

-- what stands up to the last comma of the first line, and behind the line
pub last_found : (body line rest : List ℕ) → IsFirstLine body line rest → (at : ℕ) → at < length line → get_or line at 0 ≡ 44
    → ((i : ℕ) → at < i → i < length line → get_or line i 0 ≢ 44) → content_of (take at line ++ rest) ≡ content_of_body body
last_found body line rest first at inside is none =
    without_said body line rest first (take at line) (drop (at + 1) line) (split_there line at inside is)
    (none_in 44 (drop (at + 1) line) (λ i within e.
    let place : at + 1 + i < length line = omega (arith, length-drop (at + 1) line) in
    none (at + 1 + i) (omega arith) place (sym (get_or-drop (at + 1) line i 0) ∙ e)))
    (All-take (λ c. is_line_feed c ≡ false) at line first.plain)

-- with a comma there is more than one field
pub some_found : (body line rest : List ℕ) → IsFirstLine body line rest → (at : ℕ) → at < length line → get_or line at 0 ≡ 44
    → 1 < length (content_of body).fields
some_found body line rest first at inside is =
    let front = texts_of (take at line) in
    let last = texts_of (drop (at + 1) line) in
    let said : length (content_of body).fields ≡ length (front ++ last) =
    ap length (fields_said body line rest first ∙ ap texts_of (split_there line at inside is) ∙ texts_both (take at line) (drop (at + 1) line)) in
    omega (arith, said, length-append front last, length-slice_split is_comma (take at line), length-slice_split is_comma (drop (at + 1) line))

-- and without one there is one alone
pub one_found : (body line rest : List ℕ) → IsFirstLine body line rest → ((i : ℕ) → i < length line → get_or line i 0 ≢ 44)
    → length (content_of body).fields ≤ 1
one_found body line rest first none = one_field body line rest first (none_in 44 line none)

-- ---- a text that is made of two

-- where there is memory for both, and more is wanted, one isn't empty
pub some_wanted : (front rest text body : List ℕ) → content_of (front ++ rest) ≡ content_of_body body
    → 0 < length front + length rest → content_of text ≡ content_of_body body → 0 < length text
some_wanted front rest text body says wanted is =
    let same : text ≡ front ++ rest = one_text text (front ++ rest) (is ∙ sym says) in
    let long : length text ≡ length (front ++ rest) = ap length same in
    omega (arith, length-append front rest)

-- what was appended last, where that succeeded
pub pushed_last : {T E : Type 0} (old front rest : List ℕ) (mid now : List ℕ) (r : Result T E) → mid ≡ old ++ front
    → now ≡ cond (is_ok r) (mid ++ rest) mid → (P : Type 0) → (now ≡ old ++ (front ++ rest) → P) → OnOk r P
pushed_last old front rest mid now (Ok x) before e P given =
    given (e ∙ ap (λ t. t ++ rest) before ∙ append_assoc old front rest)
pushed_last old front rest mid now (Err x) before e P given = tt
