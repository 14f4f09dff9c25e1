-- Where the values of a job come from.
use Rattle.std.proofs.Common.{◌≡◌, ◌+◌, ◌-◌, ◌<◌, ◌≤◌, ℕ, ℤ, Option, Some, None, inl, inr, refl, sym, subst, arith}
use Rattle.std.specs.Prelude.{List, [], ◌∷◌, IsSomeAnd, MatchOption, get_or, length, slice_get, zero, suc}
use Rattle.std.proofs.lemmas.Bool.{cases_lt}
use Rattle.mds_calendar.specs.Calendar.{last_day}
use Rattle.mds_calendar.specs.Length.{count_of}
use Rattle.mds_calendar.proofs.Days.{weekday_later}
use Rattle.mds_world.specs.Facts.{JobContent}
use Rattle.mds_world.specs.Facts.Fact.{HolidayIs}
use Rattle.mds_world.specs.Sets.{◌∈◌}
use Rattle.mds_world.specs.World.{World}
use Rattle.mds_keeper.specs.Books.{BookValue}
use Rattle.mds_fill.specs.Candidates.{IsCandidate, IsSunday}
use Rattle.mds_fill.specs.Fills.{Finds, IsLike, IsLikeBook, IsLikeValue, HasAll, IsFilled, IsNearestLike, IsTally, IsTarget, IsUsable, IsValueAfter, IsValueBefore, count_some}
use Rattle.mds_fill.specs.FillSteps.{HasNoLikeValue}
use Rattle.mds_fill.proofs.LikeDays.{each_slot}
use Rattle.mds_fill.proofs.TargetLemmas.{finds_as}

-- two Sundays less than a week apart are one
one_sunday : (a b : ℕ) → IsSunday a → IsSunday b → a ≤ b → b < a + 7 → a ≡ b
one_sunday a b is_a is_b le within =
    let whole : b ≡ a + (b - a) = omega arith in
    let later = weekday_later a b (b - a) whole in
    omega (arith, later, is_a, is_b, within)

-- a place has one candidate
pub one_candidate : (IsHoliday : ℕ → Type 0) (day place a b : ℕ) → IsCandidate IsHoliday day place a
    → IsCandidate IsHoliday day place b → a ≡ b
one_candidate IsHoliday day place a b (few, inl x) (too, inl y) =
    let under_a = x.2 in let over_a = x.3 in let under_b = y.2 in let over_b = y.3 in elim (cases_lt a b) [
      | inl h ↦ one_sunday a b x.1 y.1 (omega arith) (omega arith)
      | inr h ↦ sym (one_sunday b a y.1 x.1 (omega arith) (omega arith))
    ]
one_candidate IsHoliday day place a b (few, inl x) (too, inr y) = absurd (y.0 x.0)
one_candidate IsHoliday day place a b (few, inr x) (too, inl y) = absurd (x.0 y.0)
one_candidate IsHoliday day place a b (few, inr x) (too, inr y) =
    let at_a = x.2 in let at_b = y.2 in omega arith

same_like : (w : World) (job : JobContent) (place a b : ℕ) → IsLike w job place a → IsLike w job place b → a ≡ b
same_like w job place a b here there = one_candidate (λ holiday. HolidayIs holiday ∈ w) job.day place a b here there

-- the usable value of the candidate at a place
pub like_value : (w : World) (job : JobContent) (place i : ℕ) (found : Option ℤ) (day : ℕ)
    → IsLike w job place day → Finds (IsUsable w job day i) found → Finds (IsLikeValue w job place i) found
like_value w job place i found day like h =
    finds_as (IsUsable w job day i) (IsLikeValue w job place i) found h (λ v u. (day, like, u))
    (λ v u. subst (λ d. IsUsable w job d i v) (same_like w job place u.0 day u.1 like) u.2)

-- the value before the first target is on its own day, or on the day before
pub before_here : (w : World) (job : JobContent) (found : Option ℤ) → 1 < job.first
    → Finds (IsUsable w job job.day (job.first - 1)) found → Finds (IsValueBefore w job) found
before_here w job found here h =
    finds_as (IsUsable w job job.day (job.first - 1)) (IsValueBefore w job) found h (λ v u. inl (here, u))
    (λ v u. elim u [ inl a ↦ a.1 | inr b ↦ let e = b.0 in absurd (omega arith) ])

pub before_there : (w : World) (job : JobContent) (found : Option ℤ) (day : ℕ) → job.first ≡ 1 → day + 1 ≡ job.day
    → Finds (IsUsable w job day (count_of job.length)) found → Finds (IsValueBefore w job) found
before_there w job found day first at h =
    finds_as (IsUsable w job day (count_of job.length)) (IsValueBefore w job) found h (λ v u. inr (first, (day, at, u)))
    (λ v u. elim u [
      | inl a ↦ let e = a.0 in absurd (omega arith)
      | inr b ↦
          let same : b.1.0 ≡ day = let e = b.1.1 in omega arith in
          subst (λ d. IsUsable w job d (count_of job.length) v) same b.1.2
    ])

-- and that after the last likewise
pub after_here : (w : World) (job : JobContent) (found : Option ℤ) → job.last < count_of job.length
    → Finds (IsUsable w job job.day (job.last + 1)) found → Finds (IsValueAfter w job) found
after_here w job found here h =
    finds_as (IsUsable w job job.day (job.last + 1)) (IsValueAfter w job) found h (λ v u. inl (here, u))
    (λ v u. elim u [ inl a ↦ a.1 | inr b ↦ let e = b.0 in absurd (omega arith) ])

pub after_there : (w : World) (job : JobContent) (found : Option ℤ) → job.last ≡ count_of job.length
    → job.day < last_day → Finds (IsUsable w job (job.day + 1) 1) found → Finds (IsValueAfter w job) found
after_there w job found last more h =
    finds_as (IsUsable w job (job.day + 1) 1) (IsValueAfter w job) found h (λ v u. inr (last, more, u))
    (λ v u. elim u [ inl a ↦ let e = a.0 in absurd (omega arith) | inr b ↦ b.2 ])

-- a candidate that hasn't all isn't a like day
pub not_like : (w : World) (job : JobContent) (place here : ℕ) → IsLike w job place here → (HasAll w job here → ⊥)
    → (day : ℕ) → IsLike w job place day → HasAll w job day → ⊥
not_like w job place here like none day other all =
    none (subst (HasAll w job) (same_like w job place day here other like) all)

-- nor is one at a place further on, or before
pub likes_more : (w : World) (job : JobContent) (n : ℕ) → ((day : ℕ) → IsLike w job n day → HasAll w job day → ⊥)
    → ((place day : ℕ) → place < n → IsLike w job place day → HasAll w job day → ⊥)
    → (place day : ℕ) → place < n + 1 → IsLike w job place day → HasAll w job day → ⊥
likes_more w job n here below place day within like all = elim (cases_lt place n) [
  | inl a ↦ below place day a like all
  | inr b ↦ let e : place ≡ n = omega arith in here day (subst (λ k. IsLike w job k day) e like) all
]

-- the values of four candidates are a tally
pub four_tally : (w : World) (job : JobContent) (i : ℕ) (a b c d : Option ℤ) → Finds (IsLikeValue w job 0 i) a
    → Finds (IsLikeValue w job 1 i) b → Finds (IsLikeValue w job 2 i) c → Finds (IsLikeValue w job 3 i) d
    → IsTally w job i (a ∷ b ∷ c ∷ d ∷ [])
four_tally w job i a b c d pa pb pc pd = record {
  four = refl;
  each = each_slot (λ place slot. Finds (IsLikeValue w job place i) slot) a b c d pa pb pc pd;
}

-- where it has none no candidate has one
none_there : (values : List (Option ℤ)) (place : ℕ) → place < length values → count_some values ≡ 0
    → slice_get values place ≡ Some None
none_there [] place within e = absurd (omega arith)
none_there (Some v ∷ rest) place within e = absurd (omega arith)
none_there (None ∷ rest) zero within e = refl
none_there (None ∷ rest) (suc place) within e = none_there rest place (omega arith) e

pub no_tally : (w : World) (job : JobContent) (i : ℕ) (tally : List (Option ℤ)) → IsTally w job i tally
    → count_some tally ≡ 0 → HasNoLikeValue w job i
no_tally w job i tally is e place v like =
    let few = like.1.0 in
    let four = is.four in
    is.each place None (none_there tally place (omega arith) e) v like

-- the value of the nearest like day
pub copied : (w : World) (job : JobContent) (i day : ℕ) (found : Option ℤ) (P : Type 0) → job.method ≡ 14
    → IsNearestLike w job day → IsTarget job i → Finds (IsUsable w job day i) found → MatchOption found P (IsFilled w job i)
copied w job i day (Some v) P method nearest target u = inl (method, (day, nearest, u))
copied w job i day None P method nearest target none =
    let u = nearest.all i target in absurd (none u.0 u.1)

-- the slot that a list has at a place
pub slot_at : {T : Type 0} (P : T → Type 0) (xs : List T) (place : ℕ) (other : T) → IsSomeAnd (slice_get xs place) P
    → P (get_or xs place other)
slot_at P [] place other h = absurd h
slot_at P (x ∷ xs) zero other h = h
slot_at P (x ∷ xs) (suc place) other h = slot_at P xs place other h

-- the values found in four slots are a tally
pub tally_of : (w : World) (job : JobContent) (i : ℕ) (books : List (Option BookValue)) (k l m n : Option BookValue)
    (a b c d : Option ℤ)
    → ((place : ℕ) → place < 4 → IsSomeAnd (slice_get books place) (IsLikeBook w job place))
    → (IsLikeBook w job 0 (get_or books 0 k) → Finds (IsLikeValue w job 0 i) a)
    → (IsLikeBook w job 1 (get_or books 1 l) → Finds (IsLikeValue w job 1 i) b)
    → (IsLikeBook w job 2 (get_or books 2 m) → Finds (IsLikeValue w job 2 i) c)
    → (IsLikeBook w job 3 (get_or books 3 n) → Finds (IsLikeValue w job 3 i) d)
    → IsTally w job i (a ∷ b ∷ c ∷ d ∷ [])
tally_of w job i books k l m n a b c d are f g h j =
    four_tally w job i a b c d (f (slot_at (IsLikeBook w job 0) books 0 k (are 0 (omega arith))))
    (g (slot_at (IsLikeBook w job 1) books 1 l (are 1 (omega arith))))
    (h (slot_at (IsLikeBook w job 2) books 2 m (are 2 (omega arith))))
    (j (slot_at (IsLikeBook w job 3) books 3 n (are 3 (omega arith))))
