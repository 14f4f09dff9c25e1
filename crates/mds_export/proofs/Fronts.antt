-- What an error leaves of a line.
use Rattle.std.proofs.Common.{Bor, ◌≡◌, ℕ, ◌-◌, ◌<◌, ◌≤◌, List, [], ◌∷◌, ◌++◌, length, take, drop, get_or, map, refl, sym, ap, subst, ◌∙◌, append_assoc, arith}
use Rattle.std.proofs.lemmas.List.{take_all}
use Rattle.mds_lines.specs.Lines.{carriage_return, comma, line_feed}
use Rattle.mds_quantity.specs.Append.{AppendsPart}
use Rattle.mds_marks.proofs.Pieces.{part_after, part_front, part_wider}
use Rattle.mds_terms.specs.Parts.{joined}
use Rattle.mds_export.specs.Rows.{line_of}
use Rattle.mds_export.specs.RowSteps.{closed}

-- a text alone, and the first of several
pub one_text : (texts : List (Bor (List ℕ))) (default : Bor (List ℕ)) → 1 ≤ length texts → length texts < 2
    → map (λ text. text.now) texts ≡ (get_or texts 0 default).now ∷ []
one_text [] default some few = absurd (omega arith)
one_text (x ∷ []) default some few = refl
one_text (x ∷ y ∷ texts) default some few = absurd (omega arith)

pub first_text : (texts : List (Bor (List ℕ))) (default : Bor (List ℕ)) → 1 ≤ length texts
    → map (λ text. text.now) texts ≡ (get_or texts 0 default).now ∷ map (λ text. text.now) (take (length texts - 1) (drop 1 texts))
first_text [] default some = absurd (omega arith)
first_text (x ∷ texts) default some = ap (λ t. x.now ∷ map (λ text. text.now) t) (sym (take_all _ texts (omega arith)))

pub some_behind : (texts : List (Bor (List ℕ))) → 2 ≤ length texts → 0 < length (map (λ text. text.now) (take (length texts - 1) (drop 1 texts)))
some_behind [] some = absurd (omega arith)
some_behind (x ∷ []) some = absurd (omega arith)
some_behind (x ∷ y ∷ texts) some =
    let all = ap (λ (t : List (Bor (List ℕ))). length (map (λ text. text.now) t)) (take_all (length (x ∷ y ∷ texts) - 1) (y ∷ texts) (omega arith)) in
    omega (arith, all)

-- a front of a line of one field: that field
pub front_last : (old new last : List ℕ) (all : List (List ℕ)) → all ≡ last ∷ [] → new ≡ old ++ last → AppendsPart old new (line_of all)
front_last old new last all is e =
    subst (λ (t : List (List ℕ)). AppendsPart old new (line_of t)) (sym is) (part_front old new last (carriage_return ∷ line_feed ∷ []) e)

-- the line of a field and of those behind it
line_more : (first : List ℕ) (rest : List (List ℕ)) → 0 < length rest → closed first ++ line_of rest ≡ line_of (first ∷ rest)
line_more first [] some = absurd (omega arith)
line_more first (next ∷ rest) some =
    let ends = carriage_return ∷ line_feed ∷ [] in
    append_assoc first (comma ∷ []) (joined (next ∷ rest) ++ ends) ∙ sym (append_assoc first (comma ∷ joined (next ∷ rest)) ends)

-- a front of the first field
pub front_first : (old new first : List ℕ) (rest all : List (List ℕ)) → all ≡ first ∷ rest → 0 < length rest → AppendsPart old new (closed first)
    → AppendsPart old new (line_of all)
front_first old new first rest all is some part =
    subst (λ (t : List (List ℕ)). AppendsPart old new (line_of t)) (sym is)
    (subst (AppendsPart old new) (line_more first rest some) (part_wider old new (closed first) (line_of rest) part))

-- that field, and a front of those behind it
pub front_rest : (old mid new first : List ℕ) (rest all : List (List ℕ)) → all ≡ first ∷ rest → 0 < length rest → mid ≡ old ++ closed first
    → AppendsPart mid new (line_of rest) → AppendsPart old new (line_of all)
front_rest old mid new first rest all is some e part =
    subst (λ (t : List (List ℕ)). AppendsPart old new (line_of t)) (sym is)
    (subst (AppendsPart old new) (line_more first rest some) (part_after old mid new (closed first) (line_of rest) e part))
