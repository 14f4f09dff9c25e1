-- The parts of a body, taken one after the other.
use Rattle.std.proofs.Common.{◌≡◌, ℕ, ◌+◌, ◌<◌, ◌≤◌, List, [], ◌∷◌, ◌++◌, length, take, drop, set, get_or, sym, ap, ◌∙◌, append_assoc, arith, length-append}
use Rattle.std.proofs.Math.ListN.{get_or-map}
use Rattle.std.proofs.Math.Seq.{take-length}
use Rattle.std.proofs.lemmas.List.{append-nil, length-map, length-set, length-take-le, map-append, take_more_set}
use Rattle.std.proofs.lemmas.List.Splits.{length-slice_split, slice_split_first, slice_split_none}
use Rattle.std.proofs.lemmas.List.Sums.{fails_before_first}
use Rattle.std.specs.Borrow.{Bor}
use Rattle.std.specs.List.{position_or_len}
use Rattle.mds_names.specs.Names.{is_comma}
use Rattle.mds_jobs.specs.Bodies.{part_at, parts_of}
use Rattle.mds_jobs.specs.BodySteps.{texts_of}

-- where there is no comma, the text is its one part
pub one_part : (text : List ℕ) (n : ℕ) → n ≡ position_or_len is_comma text → n ≡ length text → parts_of text ≡ text ∷ []
one_part text n e l = slice_split_none is_comma text (λ k d lt. fails_before_first is_comma text k d (omega arith))

-- at a comma, the first part stands before it and the others after it
pub more_parts : (text : List ℕ) (n : ℕ) → n ≡ position_or_len is_comma text → n < length text → parts_of text ≡ take n text ∷ parts_of (drop (n + 1) text)
more_parts text n e lt =
    let h : position_or_len is_comma text < length text = omega arith in
    rw e (slice_split_first is_comma text 0 h)

-- one part more
pub push : (parts : List (Bor (List ℕ))) (at : ℕ) (x : Bor (List ℕ)) (all rest : List (List ℕ)) → at < length parts → all ≡ texts_of (take at parts) ++ (x.now ∷ rest) → all ≡ texts_of (take (at + 1) (set parts at x)) ++ rest
push parts at x all rest h e =
    let more : texts_of (take (at + 1) (set parts at x)) ≡ texts_of (take at parts) ++ (x.now ∷ []) = ap texts_of (take_more_set parts at x h) ∙ map-append (λ (text : Bor (List ℕ)). text.now) (take at parts) (x ∷ []) in
    e ∙ (sym (append_assoc (texts_of (take at parts)) (x.now ∷ []) rest) ∙ ap (λ t. t ++ rest) (sym more))

-- the last part
pub last : (parts : List (Bor (List ℕ))) (at : ℕ) (x : Bor (List ℕ)) (all : List (List ℕ)) → length parts ≡ 12 → at ≡ 11 → all ≡ texts_of (take at parts) ++ (x.now ∷ []) → texts_of (set parts 11 x) ≡ all
last parts at x all long h e =
    let whole = set parts at x in
    let size : length whole ≡ at + 1 = omega (arith, length-set parts at x) in
    let front : take (at + 1) whole ≡ whole = ap (λ n. take n whole) (sym size) ∙ take-length whole in
    let p : all ≡ texts_of (take (at + 1) whole) ++ [] = push parts at x all [] (omega arith) e in
    sym (p ∙ (append-nil (texts_of (take (at + 1) whole)) ∙ (ap texts_of front ∙ ap (λ n. texts_of (set parts n x)) h)))

-- there are twelve then
pub last_size : (parts : List (Bor (List ℕ))) (at : ℕ) (x : Bor (List ℕ)) (all : List (List ℕ)) → length parts ≡ 12 → at ≡ 11 → all ≡ texts_of (take at parts) ++ (x.now ∷ []) → length all ≡ 12
last_size parts at x all long h e =
    ap length (sym (last parts at x all long h e)) ∙ (length-map (set parts 11 x) (λ (text : Bor (List ℕ)). text.now) ∙ (length-set parts 11 x ∙ long))

-- how many there are
front_length : (parts : List (Bor (List ℕ))) (at : ℕ) → at ≤ length parts → length (texts_of (take at parts)) ≡ at
front_length parts at h = length-map (take at parts) (λ (text : Bor (List ℕ)). text.now) ∙ length-take-le at parts h

pub too_few : (parts : List (Bor (List ℕ))) (at : ℕ) (x : List ℕ) (all : List (List ℕ)) → length parts ≡ 12 → at < 11 → all ≡ texts_of (take at parts) ++ (x ∷ []) → length all ≡ 12 → ⊥
too_few parts at x all long h e k =
    let n : length all ≡ at + 1 = ap length e ∙ (length-append (texts_of (take at parts)) (x ∷ []) ∙ ap (λ m. m + 1) (front_length parts at (omega arith))) in
    omega arith

pub too_many : (parts : List (Bor (List ℕ))) (at : ℕ) (x rest : List ℕ) (all : List (List ℕ)) → length parts ≡ 12 → at ≡ 11 → all ≡ texts_of (take at parts) ++ (x ∷ parts_of rest) → length all ≡ 12 → ⊥
too_many parts at x rest all long h e k =
    let n : length all ≡ at + length (x ∷ parts_of rest) = ap length e ∙ (length-append (texts_of (take at parts)) (x ∷ parts_of rest) ∙ ap (λ m. m + length (x ∷ parts_of rest)) (front_length parts at (omega arith))) in
    omega (arith, length-slice_split is_comma rest)

-- a part by its number
pub part_is : (texts : List (Bor (List ℕ))) (at : ℕ) → part_at (texts_of texts) at ≡ (get_or texts at (record { ref_ptr = (0, 0); now = [] })).now
part_is texts at = get_or-map (λ (text : Bor (List ℕ)). text.now) texts at (record { ref_ptr = (0, 0); now = [] })
