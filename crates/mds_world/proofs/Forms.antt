-- The current form of a day, and the current readings under it: there are some, and no others.
use Rattle.std.specs.Prelude.{◌≡◌, ◌⊎◌, ℕ, ◌<◌, ◌≤◌, true, refl}
use Rattle.std.proofs.Common.{sym, ap, ◌∙◌, subst, inl, inr, arith}
use Rattle.std.proofs.Math.Nat.{le_antisymm}
use Rattle.std.proofs.lemmas.Bool.Decides.{nat_tests}
use Rattle.std.specs.Cmp.{IsTotalOrder, nat_cmp_total, on_total}
use Rattle.std.specs.Ordering.{is_le, nat_cmp, on}
use Rattle.std.specs.declared.cmp.Ordering.{Ordering}
use Rattle.std.specs.declared.cmp.Ordering.TheVariants.{Less, Equal, Greater}
use Rattle.mds_quantity.specs.declared.unit.Unit.{Unit as MeasureUnit}
use Rattle.mds_names.specs.declared.stream.Stream.{Stream}
use Rattle.mds_marks.specs.Reading.{ReadingValue}
use Rattle.mds_world.specs.declared.facts.Head.{Head}
use Rattle.mds_world.specs.declared.facts.Key.{Key}
use Rattle.mds_world.specs.Current.{IsDayReading, IsForm, IsFormOf, IsLatest, IsReading, no_reading}
use Rattle.mds_world.specs.FactCodes.{coded_key, coded_stream}
use Rattle.mds_world.specs.FactOrder.{exact, total}
use Rattle.mds_world.specs.Facts.{Fact, key_at}
use Rattle.mds_world.specs.Facts.Fact.{HeadIs, VersionIs, DetailIs, EventIs, PeriodIs, HolidayIs, JobIs}
use Rattle.mds_world.specs.Order.{coded_exact, coded_total}
use Rattle.mds_world.specs.Sets.{◌∈◌}
use Rattle.mds_world.specs.World.{Agrees, IsKnownDay, IsLawful, World, head_over}
use Rattle.mds_world.proofs.Greatest.{greatest_or_none}
use Rattle.mds_world.proofs.Orders.{le_or_lt, one_or_not}
use Rattle.mds_world.proofs.Worlds.{one_reading}

-- what isn't greater is no more
at_most : (m n : ℕ) → is_le (nat_cmp m n) ≡ true → m ≤ n
at_most m n h = elim (le_or_lt m n) [
  | inl le ↦ le
  | inr lt ↦ absurd (no (nat_cmp m n) (greater m n lt) h)
]
  where
    greater : (m n : ℕ) → n < m → nat_cmp m n ≡ Greater
    greater m n l = grind (arith, nat_tests)

    no : (o : Ordering) → o ≡ Greater → is_le o ≡ true → ⊥
    no Less e h = cc
    no Equal e h = cc
    no Greater e h = cc

-- ---- the form

pub same_head : (a b : Head) → HeadIs a ≡ HeadIs b → a ≡ b
same_head a b e = cc

-- the fact is this head, of the day
abbrev IsThisHead : Stream → ℕ → Fact → Head → Type 0
IsThisHead stream day f head = (f ≡ HeadIs head) × (head.stream ≡ stream) × (head.day ≡ day)

pub same_day : (a b : ℕ) → (a ≡ b) ⊎ (a ≡ b → ⊥)
same_day a b = elim (le_or_lt a b) [
  | inl up ↦ elim (le_or_lt b a) [
    | inl down ↦ inl (le_antisymm up down)
    | inr less ↦ inr (λ e. absurd (omega (arith, less, e)))
  ]
  | inr less ↦ inr (λ e. absurd (omega (arith, less, e)))
]

head_sorts : (stream : Stream) (day : ℕ) (f : Fact)
    → ((h : Head) × IsThisHead stream day f h) ⊎ ((h : Head) → IsThisHead stream day f h → ⊥)
head_sorts stream day (HeadIs x) = elim (one_or_not (coded_total coded_stream) (coded_exact coded_stream) x.stream stream) [
  | inl same ↦ elim (same_day x.day day) [
    | inl on ↦ inl (x, (refl, same, on))
    | inr off ↦ inr (λ h e. off (ap (λ (y : Head). y.day) (same_head x h e.0) ∙ e.2))
  ]
  | inr other ↦ inr (λ h e. other (ap (λ (y : Head). y.stream) (same_head x h e.0) ∙ e.1))
]
head_sorts stream day (DetailIs x) = inr (λ h e. let z = e.0 in cc)
head_sorts stream day (VersionIs x y) = inr (λ h e. let z = e.0 in cc)
head_sorts stream day (EventIs x) = inr (λ h e. let z = e.0 in cc)
head_sorts stream day (PeriodIs x y) = inr (λ h e. let z = e.0 in cc)
head_sorts stream day (HolidayIs x) = inr (λ h e. let z = e.0 in cc)
head_sorts stream day (JobIs x y z) = inr (λ h e. let z = e.0 in cc)

one_this : (stream : Stream) (day : ℕ) (f : Fact) (a b : Head) → IsThisHead stream day f a → IsThisHead stream day f b → b ≡ a
one_this stream day f a b p q = same_head b a (sym q.0 ∙ p.0)

abbrev update_cmp : Head → Head → Ordering
update_cmp = on (λ (h : Head). h.update) nat_cmp

update_total : IsTotalOrder update_cmp
update_total = on_total (λ (h : Head). h.update) nat_cmp_total

-- a day has a current form, or isn't known
pub form_or_none : (w : World) (stream : Stream) (day : ℕ)
    → ((head : Head) × IsForm w stream day head) ⊎ (IsKnownDay w stream day → ⊥)
form_or_none w stream day =
    elim (greatest_or_none update_total (IsThisHead stream day) (head_sorts stream day) (one_this stream day) total exact w) [
      | inl t ↦ inl (
        t.0,
        record {
          held = (subst (λ g. g ∈ w) t.1.2.0 t.1.1, t.1.2.1, t.1.2.2);
          greatest = λ other h. at_most other.update t.0.update (t.2 (HeadIs other) other h.0 (refl, h.1, h.2));
        },
      )
      | inr none ↦ inr (λ k. none (HeadIs k.0) k.0 k.1 (refl, k.2, k.3))
    ]

-- an update of a day has one head
pub one_under : (w : World) (a b : Head) → Agrees w → HeadIs a ∈ w → HeadIs b ∈ w → a.stream ≡ b.stream → a.day ≡ b.day
    → a.update ≡ b.update → a ≡ b
one_under w a b agrees p q streams days updates =
    let lengths = agrees.one_length a b p q streams days updates in
    let units = agrees.one_unit a b p q streams days in
    λ i. record { stream = streams i; day = days i; update = updates i; length = lengths i; unit = units i }

-- a day has one form
pub one_form : (w : World) (stream : Stream) (day : ℕ) (a b : Head) → Agrees w → IsForm w stream day a
    → IsForm w stream day b → a ≡ b
one_form w stream day a b agrees p q =
    one_under w a b agrees p.held.0 q.held.0 (p.held.1 ∙ sym q.held.1) (p.held.2 ∙ sym q.held.2)
    (le_antisymm (q.greatest a p.held) (p.greatest b q.held))

-- ---- readings of a length

pub same_version : (a b : Key) (x y : ReadingValue) → VersionIs a x ≡ VersionIs b y → (a ≡ b) × (x ≡ y)
same_version a b x y e = (cc, cc)

-- an interval of a length has one reading
pub one_value : (w : World) (stream : Stream) (day length interval : ℕ) (r q : ReadingValue) → Agrees w
    → IsReading w stream day length interval r → IsReading w stream day length interval q → r ≡ q
one_value w stream day length interval r q agrees (inl (u, a)) (inl (v, b)) =
    (one_reading w stream day length interval u v r q agrees a b).1
one_value w stream day length interval r q agrees (inl (u, a)) (inr (none, e)) = absurd (none u r a.held)
one_value w stream day length interval r q agrees (inr (none, e)) (inl (v, b)) = absurd (none v q b.held)
one_value w stream day length interval r q agrees (inr (none, e)) (inr (never, f)) = e ∙ sym f

-- an update with a reading
abbrev Pair : Type 0
Pair = ℕ × ReadingValue

abbrev IsThisVersion : Stream → ℕ → ℕ → ℕ → Fact → Pair → Type 0
IsThisVersion stream day length interval f p = f ≡ VersionIs (key_at stream day length interval p.0) p.1

version_sorts : (stream : Stream) (day length interval : ℕ) (f : Fact)
    → ((p : Pair) × IsThisVersion stream day length interval f p)
    ⊎ ((p : Pair) → IsThisVersion stream day length interval f p → ⊥)
version_sorts stream day length interval (VersionIs key r) =
    elim (one_or_not (coded_total coded_key) (coded_exact coded_key) key (key_at stream day length interval key.update)) [
      | inl same ↦ inl ((key.update, r), ap (λ k. VersionIs k r) same)
      | inr other ↦ inr (λ p e.
          let k = (same_version _ _ _ _ e).0 in
          other (k ∙ ap (key_at stream day length interval) (sym (ap (λ (x : Key). x.update) k))))
    ]
version_sorts stream day length interval (HeadIs x) = inr (λ p e. cc)
version_sorts stream day length interval (DetailIs x) = inr (λ p e. cc)
version_sorts stream day length interval (EventIs x) = inr (λ p e. cc)
version_sorts stream day length interval (PeriodIs x y) = inr (λ p e. cc)
version_sorts stream day length interval (HolidayIs x) = inr (λ p e. cc)
version_sorts stream day length interval (JobIs x y z) = inr (λ p e. cc)

one_pair : (stream : Stream) (day length interval : ℕ) (f : Fact) (p q : Pair)
    → IsThisVersion stream day length interval f p → IsThisVersion stream day length interval f q → q ≡ p
one_pair stream day length interval f p q a b =
    let e = same_version _ _ _ _ (sym b ∙ a) in
    let updates : q.0 ≡ p.0 = ap (λ (k : Key). k.update) e.0 in
    λ i. (updates i, e.1 i)

abbrev pair_cmp : Pair → Pair → Ordering
pair_cmp = on (λ (p : Pair). p.0) nat_cmp

pair_total : IsTotalOrder pair_cmp
pair_total = on_total (λ (p : Pair). p.0) nat_cmp_total

-- it has some
pub some_value : (w : World) (stream : Stream) (day length interval : ℕ)
    → (r : ReadingValue) × IsReading w stream day length interval r
some_value w stream day length interval =
    elim (greatest_or_none pair_total (IsThisVersion stream day length interval) (version_sorts stream day length interval)
    (one_pair stream day length interval) total exact w) [
      | inl t ↦ (
        t.0.1,
        inl (
          t.0.0,
          record {
            held = subst (λ g. g ∈ w) t.1.2 t.1.1;
            greatest = λ other r h. at_most other t.0.0 (t.2 _ (other, r) h refl);
          },
        ),
      )
      | inr none ↦ (no_reading, inr ((λ u r h. none _ (u, r) h refl), refl))
    ]

-- ---- readings of a day

-- a day has one form: one length, and one unit
pub one_size : (w : World) (stream : Stream) (day length other : ℕ) (unit another : MeasureUnit) → Agrees w
    → IsFormOf w stream day length unit → IsFormOf w stream day other another → (length ≡ other) × (unit ≡ another)
one_size w stream day length other unit another agrees f g =
    let same = one_form w stream day f.0 g.0 agrees f.1 g.1 in (
      sym f.2 ∙ ap (λ (h : Head). h.length) same ∙ g.2,
      sym f.3 ∙ ap (λ (h : Head). h.unit) same ∙ g.3,
    )

-- a day with a form is known
pub form_known : (w : World) (stream : Stream) (day length : ℕ) (unit : MeasureUnit) → IsFormOf w stream day length unit
    → IsKnownDay w stream day
form_known w stream day length unit f = (f.0, f.1.held.0, f.1.held.1, f.1.held.2)

pub one_day_reading : (w : World) (stream : Stream) (day interval : ℕ) (r q : ReadingValue) → Agrees w
    → IsDayReading w stream day interval r → IsDayReading w stream day interval q → r ≡ q
one_day_reading w stream day interval r q agrees (inl (m, u, f, a)) (inl (n, v, g, b)) =
    let same = (one_size w stream day m n u v agrees f g).0 in
    one_value w stream day n interval r q agrees (subst (λ k. IsReading w stream day k interval r) same a) b
one_day_reading w stream day interval r q agrees (inl (m, u, f, a)) (inr (none, e)) =
    absurd (none (form_known w stream day m u f))
one_day_reading w stream day interval r q agrees (inr (none, e)) (inl (n, v, g, b)) =
    absurd (none (form_known w stream day n v g))
one_day_reading w stream day interval r q agrees (inr (none, e)) (inr (never, f)) = e ∙ sym f

pub some_day_reading : (w : World) (stream : Stream) (day interval : ℕ)
    → (r : ReadingValue) × IsDayReading w stream day interval r
some_day_reading w stream day interval = elim (form_or_none w stream day) [
  | inl f ↦ let v = some_value w stream day f.0.length interval in
      (v.0, inl (f.0.length, f.0.unit, (f.0, f.1, refl, refl), v.1))
  | inr none ↦ (no_reading, inr (none, refl))
]

-- ---- the latest update

-- a version is no later than the form of its day
pub within_form : (w : World) (stream : Stream) (day length interval update : ℕ) (reading : ReadingValue) (head : Head)
    → IsLawful w → IsForm w stream day head → VersionIs (key_at stream day length interval update) reading ∈ w
    → update ≤ head.update
within_form w stream day length interval update reading head lawful form h =
    let x = lawful.closed.headed _ reading h in
    form.greatest (head_over (key_at stream day length interval update) x.0) (x.1, refl, refl)

-- The greatest update among the current readings is that of the day's form.
pub form_is_latest : (w : World) (stream : Stream) (day : ℕ) (head : Head) → IsLawful w → IsForm w stream day head
    → IsLatest w stream day head.length head.update
form_is_latest w stream day head lawful form = record {
  held =
      let v = lawful.closed.versioned head form.held.0 in
      let here : VersionIs (key_at stream day head.length v.0 head.update) v.1 ∈ w =
      subst (λ d. VersionIs (key_at stream d head.length v.0 head.update) v.1 ∈ w) form.held.2
      (subst (λ s. VersionIs (key_at s head.day head.length v.0 head.update) v.1 ∈ w) form.held.1 v.2) in (
        v.0,
        v.1,
        record {
          held = here;
          greatest = λ other r h. within_form w stream day head.length v.0 other r head lawful form h;
        },
      );
  greatest = λ interval other r c. within_form w stream day head.length interval other r head lawful form c.held;
}
