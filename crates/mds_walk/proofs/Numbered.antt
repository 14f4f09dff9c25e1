-- Lines by their numbers, one line more.
use Rattle.std.proofs.Common.{◌≡◌, ℕ, suc, zero, ◌+◌, ◌-◌, ◌<◌, ◌≤◌, Bool, true, false, not, cond, List, [], ◌∷◌, ◌++◌, length, take, Option, Some, None, Err, ok_or, unwrap_or, refl, sym, ◌∙◌, ap, arith, append_assoc, add-one}
use Rattle.std.specs.List.{filter, flat_map, last_or, range_with_len}
use Rattle.std.specs.Option.{is_some}
use Rattle.std.specs.Result.{result_ok}
use Rattle.std.proofs.lemmas.List.{append-nil, length_push, get_or_append_left, get_or_at, take_at}
use Rattle.std.specs.Str.{is_utf8}
use Rattle.mds_lines.specs.Kinds.{kind_named, kind_of}
use Rattle.mds_lines.specs.Lines.{field}
use Rattle.mds_lines.specs.declared.line.KindFault.TheVariants.{NotText, Unknown}
use Rattle.mds_walk.specs.Governing.{greatest, last_kind_of, line_at, record_kind}

-- functions that agree over a range
flat_map_same : {A : Type 0} (f g : ℕ → List A) (a n : ℕ) → ((k : ℕ) → a ≤ k → k < a + n → f k ≡ g k) → flat_map f (range_with_len a n) ≡ flat_map g (range_with_len a n)
flat_map_same f g a zero same = refl
flat_map_same f g a (suc n) same =
    ap (λ t. t ++ flat_map f (range_with_len (a + 1) n)) (same a (omega arith) (omega arith))
    ∙ ap (λ t. g a ++ t) (flat_map_same f g (a + 1) n (λ k h l. same k (omega arith) (omega arith)))

-- a range with one number more
flat_map_push : {A : Type 0} (f : ℕ → List A) (a n j : ℕ) → j ≡ a + n → flat_map f (range_with_len a (suc n)) ≡ flat_map f (range_with_len a n) ++ f j
flat_map_push f a zero j e = let here : a ≡ j = omega arith in append-nil (f a) ∙ ap f here
flat_map_push f a (suc n) j e =
    ap (λ t. f a ++ t) (flat_map_push f (a + 1) n j (omega arith)) ∙ sym (append_assoc (f a) (flat_map f (range_with_len (a + 1) n)) (f j))

filter_same : (f g : ℕ → Bool) (a n : ℕ) → ((k : ℕ) → a ≤ k → k < a + n → f k ≡ g k) → filter f (range_with_len a n) ≡ filter g (range_with_len a n)
filter_same f g a zero same = refl
filter_same f g a (suc n) same =
    ap (λ t. cond t (a ∷ filter f (range_with_len (a + 1) n)) (filter f (range_with_len (a + 1) n))) (same a (omega arith) (omega arith))
    ∙ ap (λ t. cond (g a) (a ∷ t) t) (filter_same f g (a + 1) n (λ k h l. same k (omega arith) (omega arith)))

last_push : (test : ℕ → Bool) (o : Option ℕ) (a n j : ℕ) (b : Bool) → j ≡ a + n → test j ≡ b
    → last_or o (filter test (range_with_len a (suc n))) ≡ cond b (Some j) (last_or o (filter test (range_with_len a n)))
last_push test o a zero j b e h =
    let here : a ≡ j = omega arith in
    ap (λ t. last_or o (cond t (a ∷ []) [])) (ap test here ∙ h) ∙ at b here where
      at : (b : Bool) → a ≡ j → last_or o (cond b (a ∷ []) []) ≡ cond b (Some j) o
      at true here = ap Some here
      at false here = refl
last_push test o a (suc n) j b e h =
    elim (test a) as (λ t. last_or o (cond t (a ∷ filter test (range_with_len (a + 1) (suc n))) (filter test (range_with_len (a + 1) (suc n))))
    ≡ cond b (Some j) (last_or o (cond t (a ∷ filter test (range_with_len (a + 1) n)) (filter test (range_with_len (a + 1) n))))) [
      | true ↦ last_push test (Some a) (a + 1) n j b (omega arith) h
      | false ↦ last_push test o (a + 1) n j b (omega arith) h
    ]

last_within : (test : ℕ → Bool) (o : Option ℕ) (a n m : ℕ) → unwrap_or o 0 ≤ m → a + n ≤ m + 1 → unwrap_or (last_or o (filter test (range_with_len a n))) 0 ≤ m
last_within test o a zero m h e = h
last_within test o a (suc n) m h e =
    elim (test a) as (λ t. unwrap_or (last_or o (cond t (a ∷ filter test (range_with_len (a + 1) n)) (filter test (range_with_len (a + 1) n)))) 0 ≤ m) [
      | true ↦ last_within test (Some a) (a + 1) n m (omega arith) (omega arith)
      | false ↦ last_within test o (a + 1) n m h (omega arith)
    ]

-- lines in front keep their numbers
pub line_front : (lines more : List (List ℕ)) (k : ℕ) → k ≤ length lines → line_at (lines ++ more) k ≡ line_at lines k
line_front lines more zero h = refl
line_front lines more (suc k) h = get_or_append_left lines more [] k (omega arith)

pub line_here : (lines : List (List ℕ)) (x : List ℕ) (more : List (List ℕ)) → line_at (lines ++ x ∷ more) (suc (length lines)) ≡ x
line_here lines x more = get_or_at lines x more [] (length lines) refl

pub size_push : (lines : List (List ℕ)) (x : List ℕ) → length (lines ++ x ∷ []) ≡ suc (length lines)
size_push lines x = length_push lines x ∙ add-one (length lines)

-- what is gathered line by line
pub each_same : {A : Type 0} (f g : ℕ → List A) (n : ℕ) → ((k : ℕ) → 1 ≤ k → k ≤ n → f k ≡ g k) → flat_map f (range_with_len 1 n) ≡ flat_map g (range_with_len 1 n)
each_same f g n same = flat_map_same f g 1 n (λ k h l. same k h (omega arith))

pub each_push : {A : Type 0} (f : ℕ → List A) (n : ℕ) → flat_map f (range_with_len 1 (suc n)) ≡ flat_map f (range_with_len 1 n) ++ f (suc n)
each_push f n = flat_map_push f 1 n (suc n) (omega arith)

-- one line more, where what is gathered from the lines in front stays
pub each_more : {A : Type 0} (f g : ℕ → List A) (n : ℕ) (last : List A) → ((k : ℕ) → 1 ≤ k → k ≤ n → f k ≡ g k) → f (suc n) ≡ last
    → flat_map f (range_with_len 1 (suc n)) ≡ flat_map g (range_with_len 1 n) ++ last
each_more f g n last same here = each_push f n ∙ ap (λ t. t ++ f (suc n)) (each_same f g n same) ∙ ap (λ t. flat_map g (range_with_len 1 n) ++ t) here

pub each_none : {A : Type 0} (f : ℕ → List A) (a n : ℕ) → ((k : ℕ) → a ≤ k → k < a + n → f k ≡ []) → flat_map f (range_with_len a n) ≡ []
each_none f a zero none = refl
each_none f a (suc n) none =
    ap (λ t. t ++ flat_map f (range_with_len (a + 1) n)) (none a (omega arith) (omega arith)) ∙ each_none f (a + 1) n (λ k h l. none k (omega arith) (omega arith))

-- the greatest number
pub greatest_push : (test : List ℕ → Bool) (lines : List (List ℕ)) (x : List ℕ) → greatest test (lines ++ x ∷ []) ≡ cond (test x) (suc (length lines)) (greatest test lines)
greatest_push test lines x =
    let n = length lines in
    let all = lines ++ x ∷ [] in
    ap (λ m. unwrap_or (last_or None (filter (λ k. test (line_at all k)) (range_with_len 1 m))) 0) (size_push lines x)
    ∙ ap (λ o. unwrap_or o 0) (last_push (λ k. test (line_at all k)) None 1 n (suc n) (test x) (omega arith) (ap test (line_here lines x [])))
    ∙ ap (λ xs. unwrap_or (cond (test x) (Some (suc n)) (last_or None xs)) 0)
    (filter_same (λ k. test (line_at all k)) (λ k. test (line_at lines k)) 1 n (λ k h l. ap test (line_front lines (x ∷ []) k (omega arith))))
    ∙ at (test x) where
      at : (b : Bool) → unwrap_or (cond b (Some (suc (length lines))) (last_or None (filter (λ k. test (line_at lines k)) (range_with_len 1 (length lines))))) 0
          ≡ cond b (suc (length lines)) (greatest test lines)
      at true = refl
      at false = refl

pub greatest_within : (test : List ℕ → Bool) (lines : List (List ℕ)) → greatest test lines ≤ length lines
greatest_within test lines = last_within (λ k. test (line_at lines k)) None 1 (length lines) (length lines) (omega arith) (omega arith)

-- what stands there
pub at_greatest_push : {T : Type 0} (f : List ℕ → T) (test : List ℕ → Bool) (lines : List (List ℕ)) (x : List ℕ)
    → f (line_at (lines ++ x ∷ []) (greatest test (lines ++ x ∷ []))) ≡ cond (test x) (f x) (f (line_at lines (greatest test lines)))
at_greatest_push {T = T} f test lines x =
    ap (λ k. f (line_at (lines ++ x ∷ []) k)) (greatest_push test lines x) ∙ at (test x) where
      at : (b : Bool) → f (line_at (lines ++ x ∷ []) (cond b (suc (length lines)) (greatest test lines))) ≡ cond b (f x) (f (line_at lines (greatest test lines)))
      at true = ap f (line_here lines x [])
      at false = ap f (line_front lines (x ∷ []) (greatest test lines) (greatest_within test lines))

pub take_here : (lines more : List (List ℕ)) → take (suc (length lines) - 1) (lines ++ more) ≡ lines
take_here lines more = take_at lines more (suc (length lines) - 1) (omega arith)

-- an empty line is no record, whether it is text or not
kind_none : (b : Bool) → result_ok (cond b (Err NotText) (ok_or (kind_named (field [] 1)) Unknown)) ≡ None
kind_none true = refl
kind_none false = refl

pub no_kind : record_kind [] ≡ None
unfolding kind_of
no_kind = kind_none (not (is_utf8 []))

-- the last record
pub last_kind_push : (lines : List (List ℕ)) (x : List ℕ)
    → last_kind_of (lines ++ x ∷ []) ≡ cond (is_some (record_kind x)) (record_kind x) (last_kind_of lines)
last_kind_push lines x = at_greatest_push record_kind (λ line. is_some (record_kind line)) lines x
