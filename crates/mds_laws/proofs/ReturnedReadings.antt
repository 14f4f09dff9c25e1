-- Heads and readings that come back to their World.
use Rattle.std.specs.Prelude.{◌≡◌, ◌↔◌, ℕ, ◌≤◌, refl}
use Rattle.std.proofs.Common.{sym, ◌∙◌, subst, inl, inr}
use Rattle.std.proofs.Math.Nat.{le_antisymm}
use Rattle.mds_calendar.specs.Length.{count_of}
use Rattle.mds_quantity.specs.declared.unit.Unit.{Unit as MeasureUnit}
use Rattle.mds_names.specs.declared.stream.Stream.{Stream}
use Rattle.mds_marks.specs.Reading.{ReadingValue}
use Rattle.mds_statements.specs.Statements.{PeriodContent}
use Rattle.mds_statements.specs.declared.periods.PeriodKey.{PeriodKey}
use Rattle.mds_world.specs.declared.facts.Head.{Head}
use Rattle.mds_world.specs.declared.facts.Key.{Key}
use Rattle.mds_world.specs.Current.{DetailsComeFrom, IsDayReading, IsForm, IsFormOf, IsHeadOf, IsLatest, IsReading}
use Rattle.mds_world.specs.Facts.{head_at, key_at}
use Rattle.mds_world.specs.Facts.Fact.{HeadIs, VersionIs, PeriodIs}
use Rattle.mds_world.proofs.Forms.{form_is_latest, form_known, one_size, one_value, some_day_reading, within_form}
use Rattle.mds_world.proofs.Members.{in_union, union_left}
use Rattle.mds_world.specs.Sets.{◌∈◌}
use Rattle.mds_world.specs.World.{Agrees, HasHead, IsCurrent, IsLawful, World, head_over, key_under, union}
use Rattle.mds_laws.specs.Returns.{IsSameDay}

-- Facts that come back to a World. Each head is the one that decides the form of its day, and each of its intervals has a
-- version. Readings and details are current. What the World has under older updates needn't come back.
pub record ComesFrom (w back : World) : Type 0 where
  pub forms : (head : Head) → HeadIs head ∈ back → IsForm w head.stream head.day head
  pub readings : (key : Key) (reading : ReadingValue) → VersionIs key reading ∈ back
      → IsReading w key.stream key.day key.length key.interval reading
  pub headed : (key : Key) (reading : ReadingValue) → VersionIs key reading ∈ back → HasHead back key
  pub whole : (head : Head) (interval : ℕ) → HeadIs head ∈ back → 1 ≤ interval → interval ≤ count_of head.length
      → (reading : ReadingValue) × (VersionIs (key_under head interval) reading ∈ back)
  pub details : DetailsComeFrom w back
  pub periods : (key : PeriodKey) (content : PeriodContent) → PeriodIs key content ∈ back → ⊥

-- a length has one latest update
pub one_latest : (w : World) (stream : Stream) (day minutes u v : ℕ) → IsLatest w stream day minutes u
    → IsLatest w stream day minutes v → u ≡ v
one_latest w stream day minutes u v a b =
    le_antisymm (b.greatest a.held.0 u a.held.1 a.held.2) (a.greatest b.held.0 v b.held.1 b.held.2)

-- a head of a day's current length and unit, under the latest update of that length, decides the form of the day
pub form_by_latest : (w : World) (stream : Stream) (day update length : ℕ) (unit : MeasureUnit) → IsLawful w
    → IsFormOf w stream day length unit → IsLatest w stream day length update
    → IsForm w stream day (head_at stream day update length unit)
form_by_latest w stream day update length unit lawful (head, form, size, measured) latest =
    let updates : head.update ≡ update = one_latest w stream day length head.update update
    (subst (λ n. IsLatest w stream day n head.update) size (form_is_latest w stream day head lawful form)) latest in
    let same : head ≡ head_at stream day update length unit = λ i. record {
      stream = form.held.1 i;
      day = form.held.2 i;
      update = updates i;
      length = size i;
      unit = measured i;
    } in
    subst (IsForm w stream day) same form

-- what a day shows is the reading of its form's length
pub shown_by_form : (w : World) (stream : Stream) (day minutes interval : ℕ) (unit : MeasureUnit) (r : ReadingValue)
    → Agrees w → IsFormOf w stream day minutes unit → IsDayReading w stream day interval r
    → IsReading w stream day minutes interval r
shown_by_form w stream day minutes interval unit r agrees form (inl (m, u, other, is)) =
    subst (λ n. IsReading w stream day n interval r) (one_size w stream day m minutes u unit agrees other form).0 is
shown_by_form w stream day minutes interval unit r agrees form (inr (unknown, e)) =
    absurd (unknown (form_known w stream day minutes unit form))

-- a day is the same in two Worlds where its form is, and where each interval shows one reading in both
same_day_by : (a b : World) (stream : Stream) (day : ℕ)
    → ((length : ℕ) (unit : MeasureUnit) → IsFormOf a stream day length unit ↔ IsFormOf b stream day length unit)
    → ((interval : ℕ) (x y : ReadingValue) → IsDayReading a stream day interval x → IsDayReading b stream day interval y
    → x ≡ y)
    → IsSameDay a b stream day
same_day_by a b stream day form equal = record {
  form = form;
  readings = λ interval r. (
    (λ h.
        let other = some_day_reading b stream day interval in
        subst (IsDayReading b stream day interval) (sym (equal interval r other.0 h other.1)) other.1),
    (λ h.
        let other = some_day_reading a stream day interval in
        subst (IsDayReading a stream day interval) (equal interval other.0 r other.1 h) other.1),
  );
}

module _ (w back : World) (lawful : IsLawful w) (from : ComesFrom w back) where
  -- ---- what comes back agrees

  -- no head is new
  no_new_head : (head : Head) → HeadIs head ∈ union w back → HeadIs head ∈ w
  no_new_head head h = elim (in_union w back (HeadIs head) h) [ inl a ↦ a | inr b ↦ (from.forms head b).held.0 ]

  -- a version comes back under the head that decides the form of its day
  form_over : (key : Key) (reading : ReadingValue) → VersionIs key reading ∈ back
      → (head : Head) × IsForm w key.stream key.day head × (head.update ≡ key.update)
  form_over key reading h =
      let x = from.headed key reading h in (head_over key x.0, from.forms (head_over key x.0) x.1, refl)

  -- So a version that is there under the same key is current, too. The two have one reading.
  old_and_back : (key : Key) (a b : ReadingValue) → VersionIs key a ∈ w → VersionIs key b ∈ back → a ≡ b
  old_and_back key a b h k =
      let f = form_over key b k in
      let current : IsCurrent w key.stream key.day key.length key.interval key.update a = record {
        held = h;
        greatest = λ other r v. subst (λ n. other ≤ n) f.2
            (within_form w key.stream key.day key.length key.interval other r f.0 lawful f.1 v);
      } in
      one_value w key.stream key.day key.length key.interval a b lawful.agrees (inl (key.update, current))
      (from.readings key b k)

  both_back : (key : Key) (a b : ReadingValue) → VersionIs key a ∈ back → VersionIs key b ∈ back → a ≡ b
  both_back key a b h k =
      one_value w key.stream key.day key.length key.interval a b lawful.agrees (from.readings key a h) (from.readings key b k)

  -- it agrees by itself
  pub agrees_alone : Agrees back
  agrees_alone = record {
    one_length = λ a b h k. lawful.agrees.one_length a b (from.forms a h).held.0 (from.forms b k).held.0;
    one_unit = λ a b h k. lawful.agrees.one_unit a b (from.forms a h).held.0 (from.forms b k).held.0;
    one_reading = both_back;
    one_content = λ key a b h k. absurd (from.periods key a h);
  }

  -- and together with what was there
  pub agrees_home : Agrees (union w back)
  agrees_home = record {
    one_length = λ a b h k. lawful.agrees.one_length a b (no_new_head a h) (no_new_head b k);
    one_unit = λ a b h k. lawful.agrees.one_unit a b (no_new_head a h) (no_new_head b k);
    one_reading = λ key a b h k. elim (in_union w back (VersionIs key a) h) [
      | inl x ↦ elim (in_union w back (VersionIs key b) k) [
        | inl y ↦ lawful.agrees.one_reading key a b x y
        | inr y ↦ old_and_back key a b x y
      ]
      | inr x ↦ elim (in_union w back (VersionIs key b) k) [
        | inl y ↦ sym (old_and_back key b a y x)
        | inr y ↦ both_back key a b x y
      ]
    ];
    one_content = λ key a b h k. lawful.agrees.one_content key a b (period_home key a h) (period_home key b k);
  }
    where
      period_home : (key : PeriodKey) (content : PeriodContent) → PeriodIs key content ∈ union w back
          → PeriodIs key content ∈ w
      period_home key content h = elim (in_union w back (PeriodIs key content) h) [
        | inl a ↦ a
        | inr b ↦ absurd (from.periods key content b)
      ]

  -- ---- beside what was there

  -- a day has the heads that it had
  head_home : (stream : Stream) (day : ℕ) (head : Head) → IsHeadOf w stream day head → IsHeadOf (union w back) stream day head
  head_home stream day head h = (union_left w back (HeadIs head) h.0, h.1, h.2)

  head_old : (stream : Stream) (day : ℕ) (head : Head) → IsHeadOf (union w back) stream day head → IsHeadOf w stream day head
  head_old stream day head h = (no_new_head head h.0, h.1, h.2)

  -- so it has the form that it had
  form_home : (stream : Stream) (day length : ℕ) (unit : MeasureUnit)
      → IsFormOf w stream day length unit ↔ IsFormOf (union w back) stream day length unit
  form_home stream day length unit = (
    (λ f. (
      f.0,
      record {
        held = head_home stream day f.0 f.1.held;
        greatest = λ other h. f.1.greatest other (head_old stream day other h);
      },
      f.2,
      f.3,
    )),
    (λ f. (
      f.0,
      record {
        held = head_old stream day f.0 f.1.held;
        greatest = λ other h. f.1.greatest other (head_home stream day other h);
      },
      f.2,
      f.3,
    )),
  )

  -- an interval keeps its reading, of whatever length
  value_home : (stream : Stream) (day length interval : ℕ) (x y : ReadingValue)
      → IsReading w stream day length interval x → IsReading (union w back) stream day length interval y → x ≡ y
  value_home stream day length interval x y (inl (u, a)) (inl (v, c)) =
      let key : Key = key_at stream day length interval v in
      elim (in_union w back (VersionIs key y) c.held) [
        | inl there ↦
            let same : v ≡ u = le_antisymm (a.greatest v y there)
            (c.greatest u x (union_left w back (VersionIs (key_at stream day length interval u) x) a.held)) in
            lawful.agrees.one_reading (key_at stream day length interval u) x y a.held
            (subst (λ n. VersionIs (key_at stream day length interval n) y ∈ w) same there)
        | inr came ↦
            one_value w stream day length interval x y lawful.agrees (inl (u, a)) (from.readings key y came)
      ]
  value_home stream day length interval x y (inr (none, e)) (inl (v, c)) =
      let key : Key = key_at stream day length interval v in
      elim (in_union w back (VersionIs key y) c.held) [
        | inl there ↦ absurd (none v y there)
        | inr came ↦ one_value w stream day length interval x y lawful.agrees (inr (none, e)) (from.readings key y came)
      ]
  value_home stream day length interval x y (inl (u, a)) (inr (none, f)) =
      absurd (none u x (union_left w back (VersionIs (key_at stream day length interval u) x) a.held))
  value_home stream day length interval x y (inr (none, e)) (inr (never, f)) = e ∙ sym f

  -- so a day shows what it showed
  shown_home : (stream : Stream) (day interval : ℕ) (x y : ReadingValue) → IsDayReading w stream day interval x
      → IsDayReading (union w back) stream day interval y → x ≡ y
  shown_home stream day interval x y (inl (m, u, f, a)) (inl (n, v, g, b)) =
      let same = (one_size w stream day m n u v lawful.agrees f ((form_home stream day n v).1 g)).0 in
      value_home stream day n interval x y (subst (λ k. IsReading w stream day k interval x) same a) b
  shown_home stream day interval x y (inl (m, u, f, a)) (inr (unknown, e)) =
      absurd (unknown (form_known (union w back) stream day m u ((form_home stream day m u).0 f)))
  shown_home stream day interval x y (inr (unknown, e)) (inl (n, v, g, b)) =
      absurd (unknown (form_known w stream day n v ((form_home stream day n v).1 g)))
  shown_home stream day interval x y (inr (unknown, e)) (inr (never, f)) = e ∙ sym f

  -- each day is the same
  pub same_day_home : (stream : Stream) (day : ℕ) → IsSameDay w (union w back) stream day
  same_day_home stream day = same_day_by w (union w back) stream day (form_home stream day) (shown_home stream day)

  -- ---- alone

  module _ (head : Head) (held : HeadIs head ∈ back) where
    -- a head that comes back decides the form there, too
    form_back : IsForm back head.stream head.day head
    form_back = record {
      held = (held, refl, refl);
      greatest = λ other h. (from.forms head held).greatest other ((from.forms other h.0).held.0, h.1, h.2);
    }

    form_alone : (length : ℕ) (unit : MeasureUnit)
        → IsFormOf w head.stream head.day length unit ↔ IsFormOf back head.stream head.day length unit
    form_alone length unit = (
      (λ f.
          let same = one_size w head.stream head.day head.length length head.unit unit lawful.agrees
          (head, from.forms head held, refl, refl) f in
          (head, form_back, same.0, same.1)),
      (λ f.
          let same = one_size back head.stream head.day head.length length head.unit unit agrees_alone
          (head, form_back, refl, refl) f in
          (head, from.forms head held, same.0, same.1)),
    )

    -- an interval has the same reading of its length
    value_alone : (interval : ℕ) (x y : ReadingValue) → IsReading w head.stream head.day head.length interval x
        → IsReading back head.stream head.day head.length interval y → x ≡ y
    value_alone interval x y p (inl (v, c)) =
        one_value w head.stream head.day head.length interval x y lawful.agrees p
        (from.readings (key_at head.stream head.day head.length interval v) y c.held)
    value_alone interval x y (inr (none, e)) (inr (never, f)) = e ∙ sym f
    value_alone interval x y (inl (u, a)) (inr (never, f)) =
        let within = lawful.closed.headed (key_at head.stream head.day head.length interval u) x a.held in
        let there = from.whole head interval held within.2 within.3 in absurd (never head.update there.0 there.1)

    shown_alone : (interval : ℕ) (x y : ReadingValue) → IsDayReading w head.stream head.day interval x
        → IsDayReading back head.stream head.day interval y → x ≡ y
    shown_alone interval x y p q =
        value_alone interval x y
        (shown_by_form w head.stream head.day head.length interval head.unit x lawful.agrees
        (head, from.forms head held, refl, refl) p)
        (shown_by_form back head.stream head.day head.length interval head.unit y agrees_alone
        (head, form_back, refl, refl) q)

    -- its day is the same
    pub same_day_alone : IsSameDay w back head.stream head.day
    same_day_alone = same_day_by w back head.stream head.day form_alone shown_alone
