-- What a job fills in is determined.
use Rattle.std.specs.Prelude.{◌≡◌, ℕ, ℤ, ◌+◌, ◌-◌, ◌*◌, ◌<◌, ◌≤◌, List, Option, Some, None}
use Rattle.std.proofs.Common.{sym, ap, ◌∙◌, subst, inl, inr, arith, refl}
use Rattle.std.proofs.lemmas.Bool.{cases_lt}
use Rattle.std.proofs.Math.Nat.{le_antisymm}
use Rattle.mds_calendar.specs.Length.{count_of}
use Rattle.mds_calendar.proofs.Days.{weekday_later}
use Rattle.mds_quantity.specs.Rounding.{IsRounded, line_times_steps}
use Rattle.mds_quantity.proofs.Nearest.{only_one}
use Rattle.mds_marks.specs.Reading.{ReadingValue}
use Rattle.mds_world.proofs.Forms.{one_day_reading}
use Rattle.mds_world.specs.Facts.{JobContent}
use Rattle.mds_world.specs.Facts.Fact.{HolidayIs}
use Rattle.mds_world.specs.Sets.{◌∈◌}
use Rattle.mds_world.specs.World.{Agrees, World}
use Rattle.mds_fill.specs.Candidates.{IsCandidate, IsSunday}
use Rattle.mds_fill.specs.Fills.{AreSubstitutes, Finds, IsCopied, IsFilled, IsLike, IsLikeValue, IsMean, IsNearestLike, IsOnLine, IsSubstitute, IsUsable, IsValueAfter, IsValueBefore, count_some, target_count, total}
use Rattle.mds_laws.proofs.OneList.{one_by_places}

-- a week has one Sunday
sunday_upto : (day place a b : ℕ) → a ≤ b → IsSunday a → IsSunday b → b + 7 * place < day → day ≤ a + 7 * place + 7 → a ≡ b
sunday_upto day place a b le sunday other below within =
    let later = weekday_later a b (b - a) (omega (arith, le)) in omega (arith, later, sunday, other, le, below, within)

one_sunday : (day place a b : ℕ) → IsSunday a → IsSunday b → a + 7 * place < day → b + 7 * place < day
    → day ≤ a + 7 * place + 7 → day ≤ b + 7 * place + 7 → a ≡ b
one_sunday day place a b sunday other below other_below within other_within = elim (cases_lt a b) [
  | inl less ↦ sunday_upto day place a b (omega (arith, less)) sunday other other_below within
  | inr more ↦ sym (sunday_upto day place b a more other sunday below other_within)
]

-- a place has one candidate
one_candidate : (IsHoliday : ℕ → Type 0) (day place a b : ℕ) → IsCandidate IsHoliday day place a
    → IsCandidate IsHoliday day place b → a ≡ b
one_candidate IsHoliday day place a b (lt, inl (h, sunday, below, within)) (le, inl (g, other, under, inside)) =
    one_sunday day place a b sunday other below under within inside
one_candidate IsHoliday day place a b (lt, inl x) (le, inr y) = absurd (y.0 x.0)
one_candidate IsHoliday day place a b (lt, inr x) (le, inl y) = absurd (x.0 y.0)
one_candidate IsHoliday day place a b (lt, inr (none, free, e)) (le, inr (never, other, f)) = omega (arith, e, f)

-- what is found is one
one_found : (P : ℤ → Type 0) → ((v u : ℤ) → P v → P u → v ≡ u) → (x y : Option ℤ) → Finds P x → Finds P y → x ≡ y
one_found P one (Some v) (Some u) a b = ap Some (one v u a b)
one_found P one (Some v) None a b = absurd (b v a)
one_found P one None (Some u) a b = absurd (a u b)
one_found P one None None a b = refl

module _ (w : World) (agrees : Agrees w) (job : JobContent) where
  one_like : (place a b : ℕ) → IsLike w job place a → IsLike w job place b → a ≡ b
  one_like place a b x y = one_candidate (λ holiday. HolidayIs holiday ∈ w) job.day place a b x y

  -- an interval has one value that may stand in
  one_usable : (day i : ℕ) (v u : ℤ) → IsUsable w job day i v → IsUsable w job day i u → v ≡ u
  one_usable day i v u a b =
      let same = one_day_reading w job.stream day i a.reading b.reading agrees a.shown b.shown in
      let e : Some v ≡ Some u = sym a.same ∙ ap (λ (x : ReadingValue). x.value) same ∙ b.same in cc

  one_like_value : (place i : ℕ) (v u : ℤ) → IsLikeValue w job place i v → IsLikeValue w job place i u → v ≡ u
  one_like_value place i v u (day, like, x) (other, is, y) =
      one_usable day i v u x (subst (λ d. IsUsable w job d i u) (one_like place other day is like) y)

  -- one like day is nearest
  one_nearest : (a b : ℕ) → IsNearestLike w job a → IsNearestLike w job b → a ≡ b
  one_nearest a b x y =
      let same : x.place ≡ y.place = elim (cases_lt x.place y.place) [
        | inl less ↦ absurd (y.nearest x.place a less x.like x.all)
        | inr more ↦ elim (cases_lt y.place x.place) [
          | inl less ↦ absurd (x.nearest y.place b less y.like y.all)
          | inr upto ↦ le_antisymm upto more
        ]
      ] in
      one_like y.place a b (subst (λ place. IsLike w job place a) same x.like) y.like

  -- each method gives one value
  one_copied : (i : ℕ) (v u : ℤ) → IsCopied w job i v → IsCopied w job i u → v ≡ u
  one_copied i v u (day, nearest, x) (other, is, y) =
      one_usable day i v u x (subst (λ d. IsUsable w job d i u) (one_nearest other day is nearest) y)

  one_mean : (i : ℕ) (v u : ℤ) → IsMean w job i v → IsMean w job i u → v ≡ u
  one_mean i v u (tally, t, some, r) (other, s, more, q) =
      let same : tally ≡ other = one_by_places tally other (t.four ∙ sym s.four) (λ k x y e f.
      one_found (IsLikeValue w job k i) (one_like_value k i) x y (t.each k x e) (s.each k y f)) in
      only_one (total tally) (count_some tally) v u (omega (arith, some)) r
      (subst (λ slots. IsRounded (total slots) (count_some slots) u) (sym same) q)

  -- the values beside the targets are one each
  one_before : (v u : ℤ) → IsValueBefore w job v → IsValueBefore w job u → v ≡ u
  one_before v u (inl (lt, x)) (inl (le, y)) = one_usable job.day _ v u x y
  one_before v u (inl (lt, x)) (inr (e, y)) = absurd (omega (arith, lt, e))
  one_before v u (inr (e, x)) (inl (lt, y)) = absurd (omega (arith, lt, e))
  one_before v u (inr (e, (day, next, x))) (inr (f, (other, follows, y))) =
      let same : other ≡ day = omega (arith, next, follows) in
      one_usable day _ v u x (subst (λ d. IsUsable w job d (count_of job.length) u) same y)

  one_after : (v u : ℤ) → IsValueAfter w job v → IsValueAfter w job u → v ≡ u
  one_after v u (inl (lt, x)) (inl (le, y)) = one_usable job.day _ v u x y
  one_after v u (inl (lt, x)) (inr y) = absurd (omega (arith, lt, y.0))
  one_after v u (inr x) (inl (lt, y)) = absurd (omega (arith, lt, x.0))
  one_after v u (inr (e, lt, x)) (inr (f, le, y)) = one_usable (job.day + 1) 1 v u x y

  one_on_line : (i : ℕ) (v u : ℤ) → IsOnLine w job i v → IsOnLine w job i u → v ≡ u
  one_on_line i v u (before, after, x, y, r) (first, last, p, q, s) =
      let from : first ≡ before = one_before first before p x in
      let to : last ≡ after = one_after last after q y in
      only_one (line_times_steps before after (i + 1 - job.first) (target_count job)) (target_count job + 1) v u
      (omega arith) r
      (subst (λ z. IsRounded (line_times_steps z after (i + 1 - job.first) (target_count job)) (target_count job + 1) u)
      from
      (subst (λ z. IsRounded (line_times_steps first z (i + 1 - job.first) (target_count job)) (target_count job + 1) u)
      to s))

  -- so that a target is filled with one
  one_filled : (i : ℕ) (v u : ℤ) → IsFilled w job i v → IsFilled w job i u → v ≡ u
  one_filled i v u (inl (m, x)) (inl (n, y)) = one_copied i v u x y
  one_filled i v u (inl (m, x)) (inr (inl (n, y))) = absurd (omega (arith, m, n))
  one_filled i v u (inl (m, x)) (inr (inr (inl (n, y)))) = absurd (omega (arith, m, n))
  one_filled i v u (inl (m, x)) (inr (inr (inr (n, y)))) = absurd (omega (arith, m, n))
  one_filled i v u (inr (inl (m, x))) (inl (n, y)) = absurd (omega (arith, m, n))
  one_filled i v u (inr (inl (m, x))) (inr (inl (n, y))) = one_mean i v u x y
  one_filled i v u (inr (inl (m, x))) (inr (inr (inl (n, y)))) = absurd (omega (arith, m, n))
  one_filled i v u (inr (inl (m, x))) (inr (inr (inr (n, y)))) = absurd (omega (arith, m, n))
  one_filled i v u (inr (inr (inl (m, x)))) (inl (n, y)) = absurd (omega (arith, m, n))
  one_filled i v u (inr (inr (inl (m, x)))) (inr (inl (n, y))) = absurd (omega (arith, m, n))
  one_filled i v u (inr (inr (inl (m, x)))) (inr (inr (inl (n, y)))) = one_on_line i v u x y
  one_filled i v u (inr (inr (inl (m, x)))) (inr (inr (inr (n, y)))) = absurd (omega (arith, m, n))
  one_filled i v u (inr (inr (inr (m, x)))) (inl (n, y)) = absurd (omega (arith, m, n))
  one_filled i v u (inr (inr (inr (m, x)))) (inr (inl (n, y))) = absurd (omega (arith, m, n))
  one_filled i v u (inr (inr (inr (m, x)))) (inr (inr (inl (n, y)))) = absurd (omega (arith, m, n))
  one_filled i v u (inr (inr (inr (m, x)))) (inr (inr (inr (n, y)))) = x ∙ sym y

  one_substitute : (i : ℕ) (x y : ReadingValue) → IsSubstitute w job i x → IsSubstitute w job i y → x ≡ y
  one_substitute i x y a b =
      let mark : x.mark ≡ y.mark = a.mark ∙ sym b.mark in
      let value : x.value ≡ y.value =
      a.same ∙ ap Some (one_filled i a.value b.value a.filled b.filled) ∙ sym b.same in
      λ j. record { mark = mark j; value = value j }

  -- and a job puts one list of readings
  pub one_substitutes : (xs ys : List ReadingValue) → AreSubstitutes w job xs → AreSubstitutes w job ys → xs ≡ ys
  one_substitutes xs ys a b = one_by_places xs ys (a.count ∙ sym b.count) (λ k x y e f.
      one_substitute (job.first + k) x y (a.each k x e) (b.each k y f))
