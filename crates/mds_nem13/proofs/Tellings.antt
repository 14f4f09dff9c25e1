-- What accumulations in the making state when one statement more is told.
use Rattle.std.proofs.Common.{◌≡◌, ℕ, ◌-◌, ◌<◌, true, false, ◌==◌, List, [], ◌∷◌, ◌++◌, length, refl, sym, ap, ◌∙◌, arith, append_assoc, slice_set, slice_index_or, string_bytes}
use Rattle.std.specs.List.{All}
use Rattle.std.proofs.lemmas.Bool.Decides.{nat_tests}
use Rattle.std.proofs.lemmas.List.{get_or_at, length-append, map_push, set_at}
use Rattle.std.proofs.lemmas.List.Elements.{All-append, All-cons, All-head, All-tail, All-weaker}
use Rattle.std.proofs.lemmas.List.Splits.{length-slice_split, slice_split_at, slice_split_none}
use Rattle.mds_lines.specs.Lines.{comma, field, line_feed, split}
use Rattle.mds_statements.specs.Statements.{PeriodContent, PeriodStatement, Statement}
use Rattle.mds_statements.specs.Statements.Statement.{HeaderOf, StreamOf, DetailsOf, DayOf, EventOf, PeriodOf}
use Rattle.mds_terms.specs.Parts.{joined}
use Rattle.mds_walk.specs.Said.{is_headed}
use Rattle.mds_walk.proofs.Longer.{split_both}
use Rattle.mds_nem13.specs.Accumulations.{period_of, periods_of}
use Rattle.mds_nem13.specs.BuilderSteps.{AreTold, GainsLine, IsApart, LastBecomes, is_separator}
use Rattle.mds_statements.specs.Contents.{content_in, content_of}
use Rattle.mds_nem13.specs.Said.{key_in, kept_fields, period_in, with_notes}
use Rattle.mds_nem13.specs.declared.accumulation.Accumulation.{Accumulation}

-- Texts without separators, joined by commas, are a line, which splits into these texts.

no_comma : (text : List ℕ) → IsApart text → All (λ c. (c == comma) ≡ false) text
no_comma text h = All-weaker (λ c. is_separator c ≡ false) (λ c. (c == comma) ≡ false) (λ c d. grind (arith, nat_tests)) text h

no_feed : (text : List ℕ) → IsApart text → All (λ c. (c == line_feed) ≡ false) text
no_feed text h = All-weaker (λ c. is_separator c ≡ false) (λ c. (c == line_feed) ≡ false) (λ c d. grind (arith, nat_tests)) text h

line_splits : (x : List ℕ) (xs : List (List ℕ)) → All IsApart (x ∷ xs) → split comma (joined (x ∷ xs)) ≡ x ∷ xs
line_splits x [] h = slice_split_none (λ c. c == comma) x (no_comma x (All-head IsApart x [] h))
line_splits x (y ∷ ys) h =
    slice_split_at (λ c. c == comma) x comma (joined (y ∷ ys)) (no_comma x (All-head IsApart x (y ∷ ys) h)) refl
    ∙ ap (λ t. x ∷ t) (line_splits y ys (All-tail IsApart x (y ∷ ys) h))

line_no_feed : (x : List ℕ) (xs : List (List ℕ)) → All IsApart (x ∷ xs) → All (λ c. (c == line_feed) ≡ false) (joined (x ∷ xs))
line_no_feed x [] h = no_feed x (All-head IsApart x [] h)
line_no_feed x (y ∷ ys) h =
    All-append (λ c. (c == line_feed) ≡ false) x (comma ∷ joined (y ∷ ys)) (no_feed x (All-head IsApart x (y ∷ ys) h))
    (All-cons (λ c. (c == line_feed) ≡ false) comma (joined (y ∷ ys)) refl (line_no_feed y ys (All-tail IsApart x (y ∷ ys) h)))

one_line : (x : List ℕ) (xs : List (List ℕ)) → All IsApart (x ∷ xs) → split line_feed (joined (x ∷ xs)) ≡ joined (x ∷ xs) ∷ []
one_line x xs h = slice_split_none (λ c. c == line_feed) (joined (x ∷ xs)) (line_no_feed x xs h)

-- a line alone is the fields
pub content_of_line : (text x : List ℕ) (xs : List (List ℕ)) → text ≡ joined (x ∷ xs) → All IsApart (x ∷ xs)
    → content_of text ≡ record { fields = x ∷ xs; notes = [] }
content_of_line text x xs e h =
    ap content_of e ∙ ap content_in (one_line x xs h)
    ∙ ap (λ fields. record { fields = fields; notes = [] }) (line_splits x xs h)

-- a further line is a note
content_push : (lines : List (List ℕ)) (line : List ℕ) → 0 < length lines
    → content_in (lines ++ line ∷ [])
    ≡ record { fields = (content_in lines).fields; notes = (content_in lines).notes ++ split comma line ∷ [] }
content_push [] line some = absurd (omega arith)
content_push (fields ∷ notes) line some =
    ap (λ more. record { fields = split comma fields; notes = more }) (map_push (split comma) notes line)

content_more : (old new x : List ℕ) (xs : List (List ℕ)) → new ≡ (old ++ line_feed ∷ []) ++ joined (x ∷ xs) → All IsApart (x ∷ xs)
    → content_of new ≡ record { fields = (content_of old).fields; notes = (content_of old).notes ++ (x ∷ xs) ∷ [] }
content_more old new x xs e h =
    let line = joined (x ∷ xs) in
    let some : 0 < length (split line_feed old) = omega (arith, length-slice_split (λ c. c == line_feed) old) in
    ap content_of (e ∙ append_assoc old (line_feed ∷ []) line)
    ∙ ap content_in (split_both line_feed old line ∙ ap (λ t. split line_feed old ++ t) (one_line x xs h))
    ∙ content_push (split line_feed old) line some
    ∙ ap (λ (note : List (List ℕ)). record { fields = (content_of old).fields; notes = (content_of old).notes ++ note ∷ [] }) (line_splits x xs h)

-- an accumulation with what a 250 says
pub same_period : (moment line : ℕ) (text : List ℕ) (a : Accumulation) → a.line ≡ line → a.key.stream.nmi ≡ field text 2
    → a.key.stream.suffix ≡ field text 5 → a.key.register ≡ (key_in moment text).register
    → a.key.start ≡ (key_in moment text).start → a.key.finish ≡ (key_in moment text).finish
    → a.key.update ≡ (key_in moment text).update → content_of (string_bytes a.content) ≡ record { fields = kept_fields text; notes = [] }
    → period_of a ≡ period_in moment line text []
same_period moment line text a number nmi suffix register start finish update content = λ i. record {
  line = number i;
  key = record {
    stream = record { nmi = nmi i; suffix = suffix i };
    register = register i;
    start = start i;
    finish = finish i;
    update = update i;
  };
  content = content i;
}

-- one accumulation more
pub told_period : (accumulations : List Accumulation) (done : List Statement) (a : Accumulation) (period : PeriodStatement)
    → AreTold accumulations done → is_headed done ≡ true → period_of a ≡ period
    → AreTold (accumulations ++ a ∷ []) (done ++ PeriodOf period ∷ [])
told_period accumulations [] a period told headed e = absurd (cc)
told_period accumulations (HeaderOf header ∷ more) a period told headed e =
    map_push (λ b. PeriodOf (period_of b)) accumulations a
    ∙ ap (λ t. t ++ PeriodOf (period_of a) ∷ []) told ∙ ap (λ p. more ++ PeriodOf p ∷ []) e
told_period accumulations (StreamOf x ∷ more) a period told headed e = absurd (cc)
told_period accumulations (DetailsOf x ∷ more) a period told headed e = absurd (cc)
told_period accumulations (DayOf x ∷ more) a period told headed e = absurd (cc)
told_period accumulations (EventOf x ∷ more) a period told headed e = absurd (cc)
told_period accumulations (PeriodOf x ∷ more) a period told headed e = absurd (cc)

-- what holds of the empty list, and of each list with a last, holds of every list
by_last : {T : Type 0} (P : List T → Type 0) → P [] → ((front : List T) (last : T) → P (front ++ last ∷ [])) → (xs : List T) → P xs
by_last P empty more [] = empty
by_last P empty more (x ∷ xs) = by_last (λ ys. P (x ∷ ys)) (more [] x) (λ front last. more (x ∷ front) last) xs

-- lists with a last are equal by their parts
no_last : {T : Type 0} (xs : List T) (x : T) → [] ≡ xs ++ x ∷ [] → ⊥
no_last [] x e = absurd (cc)
no_last (y ∷ ys) x e = absurd (cc)

same_last : {T : Type 0} (xs ys : List T) (x y : T) → xs ++ x ∷ [] ≡ ys ++ y ∷ [] → (xs ≡ ys) × (x ≡ y)
same_last [] [] x y e = (refl, cc)
same_last [] (b ∷ ys) x y e = let rest : [] ≡ ys ++ y ∷ [] = cc in absurd (no_last ys y rest)
same_last (a ∷ xs) [] x y e = let rest : xs ++ x ∷ [] ≡ [] = cc in absurd (no_last xs x (sym rest))
same_last (a ∷ xs) (b ∷ ys) x y e =
    let rest : xs ++ x ∷ [] ≡ ys ++ y ∷ [] = cc in
    let first : a ≡ b = cc in
    let parts = same_last xs ys x y rest in
    let whole : a ∷ xs ≡ b ∷ ys = cc (first, parts.0) in
    (whole, parts.1)

-- an accumulation with a line more has a note more
noted : (old new : Accumulation) (x : List ℕ) (xs : List (List ℕ)) → GainsLine (x ∷ xs) old new
    → period_of new ≡ with_notes (period_of old) ((x ∷ xs) ∷ [])
noted old new x xs gains =
    ap period_of gains.0
    ∙ ap (λ (c : PeriodContent). record (period_of old) { content = c })
    (content_more (string_bytes old.content) (string_bytes new.content) x xs gains.1.bytes gains.1.apart)

pub told_note : (accumulations new : List Accumulation) (done : List Statement) (period : PeriodStatement) (x : List ℕ) (xs : List (List ℕ))
    → AreTold accumulations (done ++ PeriodOf period ∷ []) → is_headed done ≡ true → LastBecomes (GainsLine (x ∷ xs)) accumulations new
    → AreTold new (done ++ PeriodOf (with_notes period ((x ∷ xs) ∷ [])) ∷ [])
told_note accumulations new [] period x xs told headed becomes = absurd (cc)
told_note accumulations new (HeaderOf header ∷ more) period x xs told headed becomes =
    by_last P (λ told becomes. absurd (no_last more (PeriodOf period) told)) each accumulations told becomes where
      P : List Accumulation → Type 0
      P gathered = periods_of gathered ≡ more ++ PeriodOf period ∷ [] → LastBecomes (GainsLine (x ∷ xs)) gathered new
          → periods_of new ≡ more ++ PeriodOf (with_notes period ((x ∷ xs) ∷ [])) ∷ []

      each : (front : List Accumulation) (last : Accumulation) → P (front ++ last ∷ [])
      each front last told becomes =
          let b = becomes front last refl in
          let parts = same_last (periods_of front) more (PeriodOf (period_of last)) (PeriodOf period)
          (sym (map_push (λ c. PeriodOf (period_of c)) front last) ∙ told) in
          let same : period_of last ≡ period = let e = parts.1 in cc in
          ap periods_of b.1 ∙ map_push (λ c. PeriodOf (period_of c)) front b.0
          ∙ ap (λ t. t ++ PeriodOf (period_of b.0) ∷ []) parts.0
          ∙ ap (λ p. more ++ PeriodOf p ∷ []) (noted last b.0 x xs b.2 ∙ ap (λ p. with_notes p ((x ∷ xs) ∷ [])) same)
told_note accumulations new (StreamOf s ∷ more) period x xs told headed becomes = absurd (cc)
told_note accumulations new (DetailsOf s ∷ more) period x xs told headed becomes = absurd (cc)
told_note accumulations new (DayOf s ∷ more) period x xs told headed becomes = absurd (cc)
told_note accumulations new (EventOf s ∷ more) period x xs told headed becomes = absurd (cc)
told_note accumulations new (PeriodOf s ∷ more) period x xs told headed becomes = absurd (cc)

-- the last of a list, by its place
last_place : {T : Type 0} (xs front : List T) (last : T) (n : ℕ) → n ≡ length xs → xs ≡ front ++ last ∷ [] → length front ≡ n - 1
last_place xs front last n h e = omega (arith, length-append front (last ∷ []), ap length e)

pub last_set : {T : Type 0} (xs front : List T) (last next : T) (n : ℕ) → n ≡ length xs → xs ≡ front ++ last ∷ []
    → slice_set xs (n - 1) next ≡ front ++ next ∷ []
last_set xs front last next n h e = rw e (set_at front last [] next (n - 1) (last_place xs front last n h e))

pub last_is : {T : Type 0} (xs front : List T) (last other : T) (n : ℕ) → n ≡ length xs → xs ≡ front ++ last ∷ []
    → slice_index_or xs (n - 1) other ≡ last
last_is xs front last other n h e = rw e (get_or_at front last [] other (n - 1) (last_place xs front last n h e))
