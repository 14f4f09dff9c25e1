-- What a claim does to a merge.
use Rattle.std.proofs.Common.{◌≡◌, ◌≢◌, ℕ, zero, suc, ◌+◌, ◌<◌, ◌≤◌, List, [], ◌∷◌, length, map, Option, Some, None, refl, sym, ap, ◌∙◌, subst, inl, inr, arith}
use Rattle.std.specs.Prelude.{◌++◌, ◌*◌, ◌⊎◌, IsNone}
use Rattle.std.specs.FinSet as set
use Rattle.std.specs.List.{slice_get, flat_map}
use Rattle.std.proofs.lemmas.List.{map-append}
use Rattle.std.proofs.lemmas.Option.{slice_get_cases}
use Rattle.mds_calendar.specs.Length.{count_of}
use Rattle.mds_quantity.specs.declared.unit.Unit.{Unit as MeasureUnit}
use Rattle.mds_names.specs.declared.stream.Stream.{Stream}
use Rattle.mds_marks.specs.Reading.{ReadingValue}
use Rattle.mds_world.specs.declared.facts.Head.{Head}
use Rattle.mds_world.specs.declared.facts.Key.{Key}
use Rattle.mds_world.specs.FactOrder.{exact, total}
use Rattle.mds_world.specs.Facts.{Fact, PeriodContent, head_at, key_at}
use Rattle.mds_statements.specs.declared.periods.PeriodKey.{PeriodKey}
use Rattle.mds_world.specs.Facts.Fact.{HeadIs, VersionIs, PeriodIs}
use Rattle.mds_world.proofs.Lists.{member_append, append_left, append_right, in_flat, flat_in, in_map, map_in}
use Rattle.mds_world.specs.Lists.{Apart, Member}
use Rattle.mds_world.proofs.Members.{same_by, in_union, union_left, union_right, in_list, list_in}
use Rattle.mds_world.proofs.Sets.{union_assoc, union_absorbs, union_empty}
use Rattle.mds_world.specs.Sets.{◌∈◌}
use Rattle.mds_world.specs.Stated.{versions_from}
use Rattle.mds_world.specs.World.{Agrees, IsLawful, World, union}
use Rattle.mds_keeper.specs.Books.{BookValue, book_world, row_fact, row_head}
use Rattle.mds_keeper.specs.ClaimedUpdates.{ComesBeside}
use Rattle.mds_keeper.specs.Claims.{BreaksHead, Contradicts, Entry, IsFirst, IsLengthUnder, Suits, SuitsHead, SuitsKnown, key_of}
use Rattle.mds_keeper.specs.DayMerges.{DayMergeValue}
use Rattle.mds_keeper.specs.DayMergeSteps.{AreInBook, AreOfLength, IsDayMerge, IsInBook, IsKnownLength, all_claimed, claimed_entries, claimed_entry, claimed_facts, claimed_readings, merge_value}
use Rattle.mds_keeper.specs.Merge.{Breaks, HasTwoLengths, HasTwoUnits, claim_facts, claim_world}
use Rattle.mds_keeper.specs.declared.claim.Claim.{Claim}
use Rattle.mds_keeper.specs.declared.claimed.ClaimedReadings.{ClaimedReadings}
use Rattle.mds_keeper.specs.declared.day_book.Version.{Version}
use Rattle.mds_keeper.specs.declared.refusal.RefusalCode.{RefusalCode}
use Rattle.mds_keeper.specs.declared.refusal.RefusalCode.TheVariants.{LengthConflict, UnitConflict, VersionConflict, JobReused, Protected, StaleUpdate, NoLikeDay, TooLong, NoAnchor, UnknownDay, BadJob, RangeTooWide}
use Rattle.mds_keeper.specs.BookRows.{IsFormOfRows, unit_of}
use Rattle.mds_keeper.proofs.BookFacts.{from_book, head_in_book, head_of_row, member_head}
use Rattle.mds_keeper.proofs.Rows.{same_some}

-- the head of an update that was claimed
abbrev pub head_of : BookValue → MeasureUnit → Entry → Head
head_of b unit entry = head_at b.stream b.day entry.0 entry.1.0 unit

-- what a claim claims under its update
abbrev pub entry_of : Claim → Entry
entry_of c = (c.update, (c.length, c.readings))

pub same_head : (x y : Head) → HeadIs x ≡ HeadIs y → x ≡ y
same_head x y e = cc

same_key : (x y : Key) (r q : ReadingValue) → VersionIs x r ≡ VersionIs y q → (x ≡ y) × (r ≡ q)
same_key x y r q e = (cc, cc)

-- the versions of a day's readings, by their places
pub from_versions : (stream : Stream) (day minutes update i : ℕ) (rs : List ReadingValue) (f : Fact) → Member f (versions_from stream day minutes update i rs)
    → (k : ℕ) × (r : ReadingValue) × (slice_get rs k ≡ Some r)
    × (f ≡ VersionIs (key_at stream day minutes (i + k) update) r)
from_versions stream day minutes update i [] f m = absurd m
from_versions stream day minutes update i (r ∷ rs) f (inl e) =
    let z : i ≡ i + 0 = omega arith in
    (0, r, refl, e ∙ ap (λ n. VersionIs (key_at stream day minutes n update) r) z)
from_versions stream day minutes update i (r ∷ rs) f (inr m) =
    let n = from_versions stream day minutes update (i + 1) rs f m in
    let z : i + 1 + n.0 ≡ i + suc n.0 = omega arith in
    (suc n.0, n.1, n.2, n.3 ∙ ap (λ x. VersionIs (key_at stream day minutes x update) n.1) z)

pub to_versions : (stream : Stream) (day minutes update i : ℕ) (rs : List ReadingValue) (k : ℕ) (r : ReadingValue) → slice_get rs k ≡ Some r
    → Member (VersionIs (key_at stream day minutes (i + k) update) r) (versions_from stream day minutes update i rs)
to_versions stream day minutes update i [] k r e = cc
to_versions stream day minutes update i (x ∷ rs) zero r e =
    let z : i + 0 ≡ i = omega arith in
    let s : r ≡ x = cc in
    inl (λ j. VersionIs (key_at stream day minutes (z j) update) (s j))
to_versions stream day minutes update i (x ∷ rs) (suc k) r e =
    let z : i + 1 + k ≡ i + suc k = omega arith in
    inr (subst (λ n. Member (VersionIs (key_at stream day minutes n update) r) (versions_from stream day minutes update (i + 1) rs)) z
    (to_versions stream day minutes update (i + 1) rs k r e))

-- a fact that is claimed under an update
abbrev pub IsOfClaim : BookValue → MeasureUnit → Entry → Fact → Type 0
IsOfClaim b unit entry f =
    (f ≡ HeadIs (head_of b unit entry))
    ⊎ ((k : ℕ) × (r : ReadingValue) × (slice_get entry.1.1 k ≡ Some r) × (f ≡ VersionIs (key_of b entry.1.0 (k + 1) entry.0) r))

pub of_claim : (b : BookValue) (unit : MeasureUnit) (entry : Entry) (f : Fact) → Member f (claimed_facts b unit entry) → IsOfClaim b unit entry f
of_claim b unit entry f (inl e) = inl e
of_claim b unit entry f (inr m) =
    let n = from_versions b.stream b.day entry.1.0 entry.0 1 entry.1.1 f m in
    let z : 1 + n.0 ≡ n.0 + 1 = omega arith in
    inr (n.0, n.1, n.2, n.3 ∙ ap (λ i. VersionIs (key_of b entry.1.0 i entry.0) n.1) z)

pub claim_of : (b : BookValue) (unit : MeasureUnit) (entry : Entry) (f : Fact) → IsOfClaim b unit entry f → Member f (claimed_facts b unit entry)
claim_of b unit entry f (inl e) = inl e
claim_of b unit entry f (inr n) =
    let z : 1 + n.0 ≡ n.0 + 1 = omega arith in
    inr (subst (λ g. Member g (versions_from b.stream b.day entry.1.0 entry.0 1 entry.1.1))
    (ap (λ i. VersionIs (key_of b entry.1.0 i entry.0) n.1) z ∙ sym n.3)
    (to_versions b.stream b.day entry.1.0 entry.0 1 entry.1.1 n.0 n.1 n.2))

-- a merge's World: of one day with its unit, and with the length that is known under an update
pub record IsBase (b : BookValue) (unit : Option MeasureUnit) (update : ℕ) (known : Option ℕ) (w : World) : Type 0 where
  pub agrees : Agrees w
  pub heads : (h : Head) → HeadIs h ∈ w → (h.stream ≡ b.stream) × (h.day ≡ b.day) × (unit ≡ Some h.unit)
  pub headed : (one : MeasureUnit) → unit ≡ Some one
      → (h : Head) × (HeadIs h ∈ w) × (h.stream ≡ b.stream) × (h.day ≡ b.day) × (h.unit ≡ one)
  pub told : (minutes : ℕ) → known ≡ Some minutes
      → (h : Head) × (HeadIs h ∈ w) × (h.stream ≡ b.stream) × (h.day ≡ b.day) × (h.update ≡ update) × (h.length ≡ minutes)
  pub untold : known ≡ None → (h : Head) → HeadIs h ∈ w → h.update ≢ update
  pub periods : (key : PeriodKey) (content : PeriodContent) → PeriodIs key content ∈ w → ⊥

module _ (b : BookValue) (c : Claim) where
  pub in_claim : (f : Fact) → f ∈ claim_world b.stream b.day c → IsOfClaim b c.unit (entry_of c) f
  in_claim f i = of_claim b c.unit (entry_of c) f (in_list (claim_facts b.stream b.day c) f i)

  pub claim_in : (f : Fact) → IsOfClaim b c.unit (entry_of c) f → f ∈ claim_world b.stream b.day c
  claim_in f i = list_in (claim_facts b.stream b.day c) f (claim_of b c.unit (entry_of c) f i)

  -- its one head
  claimed_head : (h : Head) → HeadIs h ∈ claim_world b.stream b.day c → h ≡ head_of b c.unit (entry_of c)
  claimed_head h i = elim (in_claim _ i) [
    | inl e ↦ same_head h _ e
    | inr n ↦ let k = n.3 in cc
  ]

module _ (b : BookValue) (unit : Option MeasureUnit) (known : Option ℕ) (w : World) (c : Claim) (is : IsBase b unit c.update known w) where
  abbrev both : World
  both = union w (claim_world b.stream b.day c)

  own : HeadIs (head_of b c.unit (entry_of c)) ∈ both
  own = union_right w _ _ (claim_in b c _ (inl refl))

  -- where the known length suits the claim, that of each head under its update does
  pub length_is : SuitsKnown known c.length → (h : Head) → HeadIs h ∈ w → h.update ≡ c.update → h.length ≡ c.length
  length_is suits h i under = go known refl
    where
      go : (o : Option ℕ) → known ≡ o → h.length ≡ c.length
      go None e = absurd (is.untold e h i under)
      go (Some minutes) e =
          let t = is.told minutes e in
          let day = is.heads h i in
          is.agrees.one_length h t.0 i t.1 (day.0 ∙ sym t.2) (day.1 ∙ sym t.3) (under ∙ sym t.4) ∙ t.5 ∙ suits minutes e

  one_length : SuitsKnown known c.length → (x y : Head) → HeadIs x ∈ both → HeadIs y ∈ both → x.stream ≡ y.stream → x.day ≡ y.day
      → x.update ≡ y.update → x.length ≡ y.length
  one_length suits x y i j streams days updates = elim (in_union w _ _ i) [
    | inl a ↦ elim (in_union w _ _ j) [
      | inl d ↦ is.agrees.one_length x y a d streams days updates
      | inr d ↦ let e = claimed_head b c y d in
          length_is suits x a (updates ∙ ap (λ (h : Head). h.update) e) ∙ sym (ap (λ (h : Head). h.length) e)
    ]
    | inr a ↦ let e = claimed_head b c x a in elim (in_union w _ _ j) [
      | inl d ↦ ap (λ (h : Head). h.length) e ∙ sym (length_is suits y d (sym updates ∙ ap (λ (h : Head). h.update) e))
      | inr d ↦ ap (λ (h : Head). h.length) (e ∙ sym (claimed_head b c y d))
    ]
  ]

  -- where the unit suits it, that of each head does
  unit_is : SuitsKnown unit c.unit → (h : Head) → HeadIs h ∈ both → h.unit ≡ c.unit
  unit_is suits h i = elim (in_union w _ _ i) [
    | inl a ↦ suits h.unit (is.heads h a).2
    | inr a ↦ ap (λ (x : Head). x.unit) (claimed_head b c h a)
  ]

  no_lengths : SuitsKnown known c.length → HasTwoLengths both → ⊥
  no_lengths suits q = q.7 (one_length suits q.0 q.1 q.2 q.3 q.4 q.5 q.6)

  no_units : SuitsKnown unit c.unit → HasTwoUnits both → ⊥
  no_units suits q = q.6 (unit_is suits q.0 q.2 ∙ sym (unit_is suits q.1 q.3))

  pub head_refused : (code : RefusalCode) → BreaksHead known unit c.length c.unit code → Breaks both code 0
  head_refused LengthConflict q =
      let t = is.told q.0 q.1 in (
        (
          t.0,
          head_of b c.unit (entry_of c),
          union_left w _ _ t.1,
          own,
          t.2,
          t.3,
          t.4,
          (λ e. q.2 (sym t.5 ∙ e)),
        ),
        refl,
      )
  head_refused UnitConflict q =
      let t = is.headed q.1.0 q.1.1 in (
        no_lengths q.0,
        (t.0, head_of b c.unit (entry_of c), union_left w _ _ t.1, own, t.2, t.3, (λ e. q.1.2 (sym t.4 ∙ e))),
        refl,
      )
  head_refused VersionConflict q = absurd q
  head_refused JobReused q = absurd q
  head_refused Protected q = absurd q
  head_refused StaleUpdate q = absurd q
  head_refused NoLikeDay q = absurd q
  head_refused TooLong q = absurd q
  head_refused NoAnchor q = absurd q
  head_refused UnknownDay q = absurd q
  head_refused BadJob q = absurd q
  head_refused RangeTooWide q = absurd q

  -- two versions with one key have one reading where the claim suits
  one_reading_at : (key : Key) (x y : ReadingValue) → VersionIs key x ∈ both → VersionIs key y ∈ both
      → ((k : ℕ) → key.interval ≡ k + 1 → Suits w b c.length c.update c.readings k) → x ≡ y
  one_reading_at key x y i j suits = elim (in_union w _ _ i) [
    | inl a ↦ elim (in_union w _ _ j) [
      | inl d ↦ is.agrees.one_reading key x y a d
      | inr d ↦ old_and_claim x y a (in_claim b c _ d)
    ]
    | inr a ↦ elim (in_union w _ _ j) [
      | inl d ↦ sym (old_and_claim y x d (in_claim b c _ a))
      | inr d ↦ two_claimed (in_claim b c _ a) (in_claim b c _ d)
    ]
  ]
    where
      old_and_claim : (u v : ReadingValue) → VersionIs key u ∈ w → IsOfClaim b c.unit (entry_of c) (VersionIs key v) → u ≡ v
      old_and_claim u v h (inl e) = cc
      old_and_claim u v h (inr n) =
          let s = same_key key _ v n.1 n.3 in
          suits n.0 (ap (λ q. q.interval) s.0) n.1 u n.2 (subst (λ q. VersionIs q u ∈ w) s.0 h) ∙ sym s.1

      two_claimed : IsOfClaim b c.unit (entry_of c) (VersionIs key x) → IsOfClaim b c.unit (entry_of c) (VersionIs key y) → x ≡ y
      two_claimed (inl e) q = cc
      two_claimed (inr n) (inl e) = cc
      two_claimed (inr n) (inr m) =
          let s = same_key key _ x n.1 n.3 in
          let t = same_key key _ y m.1 m.3 in
          let at : n.0 + 1 ≡ m.0 + 1 = sym (ap (λ q. q.interval) s.0) ∙ ap (λ q. q.interval) t.0 in
          let k : n.0 ≡ m.0 = omega arith in
          s.1 ∙ same_some n.1 m.1 (sym n.2 ∙ ap (slice_get c.readings) k ∙ m.2) ∙ sym t.1

  no_period : (key : PeriodKey) (content : PeriodContent) → PeriodIs key content ∈ both → ⊥
  no_period key content i = elim (in_union w _ _ i) [
    | inl a ↦ is.periods key content a
    | inr a ↦ elim (in_claim b c _ a) [ inl e ↦ cc | inr n ↦ let k = n.3 in cc ]
  ]

  module _ (same : SuitsHead known unit c.length c.unit) where
    pub accepted : ((k : ℕ) → Suits w b c.length c.update c.readings k) → Agrees both
    accepted suits = record {
      one_length = one_length same.0;
      one_unit = λ x y i j s t. unit_is same.1 x i ∙ sym (unit_is same.1 y j);
      one_reading = λ key x y i j. one_reading_at key x y i j (λ k e. suits k);
      one_content = λ key x y i j. absurd (no_period key x i);
    }

    pub reading_refused : (interval : ℕ)
        → IsFirst (Contradicts w b c.length c.update c.readings) (Suits w b c.length c.update c.readings) interval
        → Breaks both VersionConflict interval
    reading_refused interval q =
        let wrong = q.2 in (
          no_lengths same.0,
          no_units same.1,
          inl (
            key_of b c.length (q.0 + 1) c.update,
            wrong.1,
            wrong.0,
            union_left w _ _ wrong.3,
            union_right w _ _ (claim_in b c _ (inr (q.0, wrong.0, wrong.2, refl))),
            sym q.1,
            wrong.4,
          ),
          (λ i below h. elim h [
            | inl v ↦ v.6 (one_reading_at v.0 v.1 v.2 v.3 v.4 (λ k e. q.3 k (omega (arith, v.5, q.1))))
            | inr p ↦ no_period p.0 p.1 p.3
          ]),
        )

-- what was claimed before
pub in_said : (b : BookValue) (unit : Option MeasureUnit) (es : List Entry) (f : Fact) → f ∈ all_claimed b unit es
    → (one : MeasureUnit) × (unit ≡ Some one) × (entry : Entry) × Member entry es × IsOfClaim b one entry f
in_said b None es f i = absurd (in_list [] f i)
in_said b (Some one) es f i =
    let n = in_flat (claimed_facts b one) es f (in_list (flat_map (claimed_facts b one) es) f i) in
    (one, refl, n.0, n.1, of_claim b one n.0 f n.2)

pub said_in : (b : BookValue) (one : MeasureUnit) (es : List Entry) (entry : Entry) → Member entry es
    → (f : Fact) → IsOfClaim b one entry f → f ∈ all_claimed b (Some one) es
said_in b one es entry m f is =
    list_in (flat_map (claimed_facts b one) es) f (flat_in (claimed_facts b one) es f entry m (claim_of b one entry f is))

-- a book's facts
pub in_book : (b : BookValue) (f : Fact) → f ∈ book_world b
    → ((row : ℕ × Version) × (unit : MeasureUnit) × Member row b.rows × (b.unit ≡ Some unit) × (f ≡ row_head b.stream b.day unit row))
    ⊎ ((row : ℕ × Version) × Member row b.rows × (f ≡ row_fact b.stream b.day row))
in_book b f i = elim (from_book b f i) [
  | inl m ↦ let n = member_head b.stream b.day b.unit b.rows f m in inl (n.2, n.0, n.3, n.1, n.4)
  | inr n ↦ inr n
]

module _ (b : BookValue) (unit : Option MeasureUnit) (claimed : List Entry) (d : IsDayMerge b unit claimed) where
  abbrev before : World
  before = union (book_world b) (all_claimed b unit claimed)

  -- what is said of the unit that is known
  pub said_here : (one : MeasureUnit) → unit ≡ Some one → (entry : Entry) → Member entry claimed
      → (f : Fact) → IsOfClaim b one entry f → f ∈ all_claimed b unit claimed
  said_here one e entry m f is = subst (λ o. f ∈ all_claimed b o claimed) (sym e) (said_in b one claimed entry m f is)

  -- where something was claimed the unit is known
  pub claimed_unit : (entry : Entry) → Member entry claimed → (one : MeasureUnit) × (unit ≡ Some one)
  claimed_unit entry m = go unit refl
    where
      go : (o : Option MeasureUnit) → unit ≡ o → (one : MeasureUnit) × (unit ≡ Some one)
      go None e = absurd (subst (λ es. Member entry es) (d.none e) m)
      go (Some one) e = (one, e)

  periods : (key : PeriodKey) (content : PeriodContent) → PeriodIs key content ∈ before → ⊥
  periods key content i = elim (in_union _ _ _ i) [
    | inl a ↦ elim (in_book b _ a) [ inl k ↦ let e = k.4 in cc | inr r ↦ let e = r.2 in cc ]
    | inr a ↦ let n = in_said b unit claimed _ a in elim n.4 [ inl e ↦ cc | inr v ↦ let k = v.3 in cc ]
  ]

  -- a head is that of a row, or was claimed
  head_from : (h : Head) → HeadIs h ∈ before
      → ((row : ℕ × Version) × Member row b.rows × (row.1.update ≡ h.update) × (h.stream ≡ b.stream) × (h.day ≡ b.day) × (unit ≡ Some h.unit))
      ⊎ ((entry : Entry) × Member entry claimed × (entry.0 ≡ h.update) × (h.stream ≡ b.stream) × (h.day ≡ b.day) × (unit ≡ Some h.unit))
  head_from h i = elim (in_union _ _ _ i) [
    | inl a ↦ elim (in_book b _ a) [
      | inl k ↦ let e = same_head h (head_at b.stream b.day k.0.1.update k.0.1.length k.1) k.4 in
          inl (
            k.0,
            k.2,
            ap (λ (x : Head). x.update) (sym e),
            ap (λ (x : Head). x.stream) e,
            ap (λ (x : Head). x.day) e,
            d.known k.1 k.3 ∙ ap (λ (x : Head). Some x.unit) (sym e),
          )
      | inr r ↦ let k = r.2 in cc
    ]
    | inr a ↦ let n = in_said b unit claimed _ a in elim n.4 [
      | inl k ↦ let e = same_head h (head_of b n.0 n.2) k in
          inr (
            n.2,
            n.3,
            ap (λ (x : Head). x.update) (sym e),
            ap (λ (x : Head). x.stream) e,
            ap (λ (x : Head). x.day) e,
            n.1 ∙ ap (λ (x : Head). Some x.unit) (sym e),
          )
      | inr v ↦ let k = v.3 in cc
    ]
  ]

  -- the head of a row, and one that was claimed
  pub row_there : (row : ℕ × Version) → Member row b.rows → (one : MeasureUnit) → b.unit ≡ Some one
      → HeadIs (head_at b.stream b.day row.1.update row.1.length one) ∈ before
  row_there row m one e = union_left _ _ _ (head_in_book b row m one e)

  pub entry_there : (entry : Entry) → Member entry claimed → (one : MeasureUnit) → unit ≡ Some one → HeadIs (head_of b one entry) ∈ before
  entry_there entry m one e = union_right _ _ _ (said_here one e entry m _ (inl refl))

  module _ (lawful : IsLawful (book_world b)) where
    module _ (update : ℕ) (known : Option ℕ) (is_known : IsKnownLength b claimed update known) where
      pub base : IsBase b unit update known before
      base = record {
        agrees = d.agrees;
        heads = λ h i. elim (head_from h i) [ inl r ↦ (r.3, r.4, r.5) | inr n ↦ (n.3, n.4, n.5) ];
        headed = λ one e. elim (d.told one e) [
          | inl r ↦ (head_at b.stream b.day r.0.1.update r.0.1.length one, row_there r.0 r.1 one r.2, refl, refl, refl)
          | inr n ↦ (head_of b one n.0, entry_there n.0 n.1 one e, refl, refl, refl)
        ];
        told = λ minutes e. elim is_known [
          | inl p ↦ let u = claimed_unit p.0 p.1 in
              (head_of b u.0 p.0, entry_there p.0 p.1 u.0 u.1, refl, refl, p.2, same_some p.0.1.0 minutes (sym p.3 ∙ e))
          | inr q ↦
              let r = subst (IsLengthUnder b update) e q.1 in
              let u = head_of_row b lawful r.0 r.1 in
              (head_at b.stream b.day r.0.1.update r.0.1.length u.0, row_there r.0 r.1 u.0 u.1, refl, refl, r.2, r.3)
        ];
        untold = λ e h i under. elim is_known [
          | inl p ↦ let k = p.3 in cc
          | inr q ↦ elim (head_from h i) [
            | inl r ↦ (subst (IsLengthUnder b update) e q.1) r.0 r.1 (r.2 ∙ under)
            | inr n ↦ q.0 n.0 n.1 (n.2 ∙ under)
          ]
        ];
        periods = periods;
      }

    module _ (c : Claim) (known : Option ℕ) (is_known : IsKnownLength b claimed c.update known) (suits : SuitsHead known unit c.length c.unit) where
      -- a head under the claim's update has its length
      of_length : (h : Head) → HeadIs h ∈ before → h.update ≡ c.update → h.length ≡ c.length
      of_length = length_is b unit known before c (base c.update known is_known) suits.0

      -- and so have the book's rows of the update
      pub rows_of_claim : AreOfLength b c.length c.update
      rows_of_claim row m e =
          let u = head_of_row b lawful row m in
          of_length (head_at b.stream b.day row.1.update row.1.length u.0) (row_there row m u.0 u.1) e

      -- the update was claimed before
      module _ (minutes : ℕ) (readings : List ReadingValue) (m : Member (c.update, (minutes, readings)) claimed) where
        pub size_is : minutes ≡ c.length
        size_is = let u = claimed_unit _ m in of_length (head_of b u.0 (c.update, (minutes, readings))) (entry_there _ m u.0 u.1) refl

        pub as_many : length readings ≡ count_of c.length
        as_many = d.whole _ m ∙ ap count_of size_is

        said_version : (k : ℕ) (r : ReadingValue) → slice_get readings k ≡ Some r → VersionIs (key_of b c.length (k + 1) c.update) r ∈ before
        said_version k r e =
            let u = claimed_unit _ m in
            subst (λ n. VersionIs (key_of b n (k + 1) c.update) r ∈ before) size_is
            (union_right _ _ _ (said_here u.0 u.1 _ m _ (inr (k, r, e, refl))))

        pub first_of_claims : (interval : ℕ) → length readings ≡ length c.readings
            → IsFirst (λ k. slice_get readings k ≢ slice_get c.readings k)
            (λ k. slice_get readings k ≡ slice_get c.readings k) interval
            → IsFirst (Contradicts before b c.length c.update c.readings) (Suits before b c.length c.update c.readings) interval
        first_of_claims interval many q = (q.0, q.1, wrong, right)
          where
            wrong : Contradicts before b c.length c.update c.readings q.0
            wrong = elim (slice_get_cases c.readings q.0).1 [
              | inl x ↦ elim (slice_get_cases readings q.0).1 [
                | inl y ↦ (x.0, y.0, x.2, said_version q.0 y.0 y.2, λ e. q.2 (y.2 ∙ ap Some e ∙ sym x.2))
                | inr y ↦ absurd (omega (arith, y.0, x.1, many))
              ]
              | inr x ↦ elim (slice_get_cases readings q.0).1 [
                | inl y ↦ absurd (omega (arith, y.1, x.0, many))
                | inr y ↦ absurd (q.2 (y.1 ∙ sym x.1))
              ]
            ]

            right : (j : ℕ) → j < q.0 → Suits before b c.length c.update c.readings j
            right j below mine other e i = d.agrees.one_reading _ other mine i (said_version j mine (q.3 j below ∙ e))

        pub known_claim : ((k : ℕ) → slice_get readings k ≡ slice_get c.readings k)
            → all_claimed b unit claimed ≡ union (all_claimed b unit claimed) (claim_world b.stream b.day c)
        known_claim same = sym (union_absorbs total exact _ _ (λ f i. said_here u.0 u.1 _ m f (elim (in_claim b c f i) [
          | inl e ↦ inl (e ∙ (λ j. HeadIs (head_at b.stream b.day c.update (sym size_is j) (sym one j))))
          | inr n ↦ inr (n.0, n.1, same n.0 ∙ n.2, n.3 ∙ ap (λ s. VersionIs (key_of b s (n.0 + 1) c.update) n.1) (sym size_is))
        ])))
          where
            u : (one : MeasureUnit) × (unit ≡ Some one)
            u = claimed_unit _ m

            one : u.0 ≡ c.unit
            one = suits.1 u.0 u.1

  -- the update wasn't claimed before
  module _ (c : Claim) (absent : (entry : Entry) → Member entry claimed → entry.0 ≢ c.update) where
    of_book : (interval : ℕ) (r : ReadingValue) → VersionIs (key_of b c.length interval c.update) r ∈ before
        → VersionIs (key_of b c.length interval c.update) r ∈ book_world b
    of_book interval r i = elim (in_union _ _ _ i) [
      | inl a ↦ a
      | inr a ↦ let n = in_said b unit claimed _ a in elim n.4 [
        | inl e ↦ cc
        | inr v ↦ absurd (absent n.2 n.3 (sym (ap (λ k. k.update) (same_key _ _ r v.1 v.3).0)))
      ]
    ]

    pub suits_all : (k : ℕ) → Suits (book_world b) b c.length c.update c.readings k → Suits before b c.length c.update c.readings k
    suits_all k s mine other e i = s mine other e (of_book (k + 1) other i)

    pub first_of_book : (interval : ℕ)
        → IsFirst (Contradicts (book_world b) b c.length c.update c.readings) (Suits (book_world b) b c.length c.update c.readings) interval
        → IsFirst (Contradicts before b c.length c.update c.readings) (Suits before b c.length c.update c.readings) interval
    first_of_book interval q =
        let w = q.2 in
        (q.0, q.1, (w.0, w.1, w.2, union_left _ _ _ w.3, w.4), λ j below. suits_all j (q.3 j below))

-- a claim that comes in
pub record ComesIn (claimed later : List Entry) (entry : Entry) : Type 0 where
  pub from : (x : Entry) → Member x later → (x ≡ entry) ⊎ Member x claimed
  pub new : Member entry later
  pub old : (x : Entry) → Member x claimed → Member x later
  pub once : Apart (map (λ e. e.0) claimed) → Apart (map (λ e. e.0) later)

-- what is claimed under an update, by what is kept of it
pub claimed_entry_in : (b : BookValue) (es : List (ℕ × ClaimedReadings)) (update : ℕ) (kept : ClaimedReadings)
    → Member (update, kept) es → Member (claimed_entry b (update, kept)) (claimed_entries b es)
claimed_entry_in b es update kept m = map_in (claimed_entry b) es (update, kept) m

pub absent_claimed : (b : BookValue) (es : List (ℕ × ClaimedReadings)) (update : ℕ)
    → ((kept : ClaimedReadings) → Member (update, kept) es → ⊥)
    → (entry : Entry) → Member entry (claimed_entries b es) → entry.0 ≢ update
absent_claimed b es update absent entry m e =
    let n = in_map (claimed_entry b) es entry m in
    let same : n.0.0 ≡ update = sym (ap (λ x. x.0) n.2) ∙ e in
    absent n.0.1 (subst (λ u. Member (u, n.0.1) es) same n.1)

-- a list with an entry more
module _ {T : Type 0} (old new : List T) (entry : T) (put : ComesBeside old new entry) where
  pub beside_from : (x : T) → Member x new → (x ≡ entry) ⊎ Member x old
  beside_from x m = elim (member_append x put.0 (entry ∷ put.1) (subst (Member x) put.3 m)) [
    | inl n ↦ inr (subst (Member x) (sym put.2) (append_left x put.0 put.1 n))
    | inr n ↦ elim n [ inl e ↦ inl e | inr k ↦ inr (subst (Member x) (sym put.2) (append_right x put.0 put.1 k)) ]
  ]

  beside_new : Member entry new
  beside_new = subst (Member entry) (sym put.3) (append_right entry put.0 (entry ∷ put.1) (inl refl))

  beside_old : (x : T) → Member x old → Member x new
  beside_old x m = elim (member_append x put.0 put.1 (subst (Member x) put.2 m)) [
    | inl n ↦ subst (Member x) (sym put.3) (append_left x put.0 (entry ∷ put.1) n)
    | inr n ↦ subst (Member x) (sym put.3) (append_right x put.0 (entry ∷ put.1) (inr n))
  ]

apart_beside : {K : Type 0} (x : K) (front back : List K) → (Member x (front ++ back) → ⊥) → Apart (front ++ back) → Apart (front ++ x ∷ back)
apart_beside x [] back absent a = (absent, a)
apart_beside x (k ∷ front) back absent a = (
  (λ m. elim (member_append k front (x ∷ back) m) [
    | inl n ↦ a.0 (append_left k front back n)
    | inr n ↦ elim n [ inl e ↦ absent (inl (sym e)) | inr r ↦ a.0 (append_right k front back r) ]
  ]),
  apart_beside x front back (λ m. absent (inr m)) a.1,
)

module _ (b : BookValue) (es later : List (ℕ × ClaimedReadings)) (update : ℕ) (kept : ClaimedReadings)
    (put : ComesBeside es later (update, kept)) where
  pub comes_in : (readings : List ReadingValue) → claimed_readings b update kept.readings ≡ readings
      → ((entry : Entry) → Member entry (claimed_entries b es) → entry.0 ≢ update)
      → ComesIn (claimed_entries b es) (claimed_entries b later) (update, (kept.length, readings))
  comes_in readings same absent = record {
    from = beside_from (claimed_entries b es) (claimed_entries b later) one beside;
    new = beside_new (claimed_entries b es) (claimed_entries b later) one beside;
    old = beside_old (claimed_entries b es) (claimed_entries b later) one beside;
    once = λ a.
        subst Apart (sym (map-append key front (one ∷ back)) ∙ ap (map key) (sym beside.3))
        (apart_beside update (map key front) (map key back)
        (λ m. let n = in_map key (front ++ back) update (subst (Member update) (sym (map-append key front back)) m) in
        absent n.0 (subst (Member n.0) (sym beside.2) n.1) (sym n.2))
        (subst Apart (ap (map key) beside.2 ∙ map-append key front back) a));
  }
    where
      key : Entry → ℕ
      key entry = entry.0

      one : Entry
      one = (update, (kept.length, readings))

      front : List Entry
      front = claimed_entries b put.0

      back : List Entry
      back = claimed_entries b put.1

      beside : ComesBeside (claimed_entries b es) (claimed_entries b later) one
      beside = (
        front,
        back,
        ap (claimed_entries b) put.2 ∙ map-append (claimed_entry b) put.0 put.1,
        ap (claimed_entries b) put.3 ∙ map-append (claimed_entry b) put.0 ((update, kept) ∷ put.1)
            ∙ ap (λ l. front ++ (update, (kept.length, l)) ∷ back) same,
      )

  -- where nothing is kept of it the book has it all
  pub still_in_book : (IsNone kept.readings → IsInBook b kept.length update) → AreInBook b es → AreInBook b later
  still_in_book one all u k m none = elim (beside_from es later (update, kept) put (u, k) m) [
    | inl e ↦
        subst (λ (x : ℕ × ClaimedReadings). IsInBook b x.1.length x.0) (sym e)
        (one (subst (λ (x : ℕ × ClaimedReadings). IsNone x.1.readings) e none))
    | inr n ↦ all u k n none
  ]

-- the update wasn't claimed before, and comes in
module _ (b : BookValue) (unit : Option MeasureUnit) (claimed later : List Entry) (d : IsDayMerge b unit claimed)
    (lawful : IsLawful (book_world b)) (c : Claim) (known : Option ℕ) (is_known : IsKnownLength b claimed c.update known)
    (suits : SuitsHead known unit c.length c.unit) (absent : (entry : Entry) → Member entry claimed → entry.0 ≢ c.update)
    (comes : ComesIn claimed later (entry_of c)) where
  pub said_more : all_claimed b (Some c.unit) later ≡ union (all_claimed b unit claimed) (claim_world b.stream b.day c)
  said_more = same_by _ _
      (λ f i. let n = in_said b (Some c.unit) later f i in
      let is : IsOfClaim b c.unit n.2 f = subst (λ u. IsOfClaim b u n.2 f) (sym (same_some c.unit n.0 n.1)) n.4 in
      elim (comes.from n.2 n.3) [
        | inl e ↦ union_right _ _ f (claim_in b c f (subst (λ x. IsOfClaim b c.unit x f) e is))
        | inr m ↦ let u = claimed_unit b unit claimed d n.2 m in
            union_left _ _ f (said_here b unit claimed d c.unit (u.1 ∙ ap Some (suits.1 u.0 u.1)) n.2 m f is)
      ])
      (λ f i. elim (in_union _ _ f i) [
        | inl a ↦ let n = in_said b unit claimed f a in
            said_in b c.unit later n.2 (comes.old n.2 n.3) f (subst (λ u. IsOfClaim b u n.2 f) (suits.1 n.0 n.1) n.4)
        | inr a ↦ said_in b c.unit later (entry_of c) comes.new f (in_claim b c f a)
      ])

  module _ (free : (k : ℕ) → Suits (book_world b) b c.length c.update c.readings k) where
    pub agrees_more : Agrees (union (book_world b) (all_claimed b (Some c.unit) later))
    agrees_more =
        subst Agrees (union_assoc total exact (book_world b) _ _ ∙ ap (union (book_world b)) (sym said_more))
        (accepted b unit known _ c (base b unit claimed d lawful c.update known is_known) suits (λ k. suits_all b unit claimed d c absent k (free k)))

    pub merge_more : length c.readings ≡ count_of c.length → 1 ≤ count_of c.length → IsDayMerge b (Some c.unit) later
    merge_more many some = record {
      agrees = agrees_more;
      whole = λ entry m. elim (comes.from entry m) [
        | inl s ↦ subst (λ (x : Entry). length x.1.1 ≡ count_of x.1.0) (sym s) many
        | inr n ↦ d.whole entry n
      ];
      some = λ entry m. elim (comes.from entry m) [
        | inl s ↦ subst (λ (x : Entry). 1 ≤ length x.1.1) (sym s) (omega (arith, many, some))
        | inr n ↦ d.some entry n
      ];
      once = comes.once d.once;
      none = λ e. cc;
      known = λ one e. ap Some (sym (suits.1 one (d.known one e)));
      told = λ one e. inr (entry_of c, comes.new);
    }

-- a day has an interval of each length
pub some_count : (count minutes : ℕ) → count * minutes ≡ 1440 → 1 ≤ count
some_count zero minutes e = absurd (omega (arith, e))
some_count (suc n) minutes e = omega arith

-- a want of memory
pub merge_same : (b : BookValue) (unit : Option MeasureUnit) (claimed later : List Entry)
    → later ≡ claimed → IsDayMerge b unit claimed → IsDayMerge b unit later
merge_same b unit claimed later e d = subst (IsDayMerge b unit) (sym e) d

-- what `take` says, at each of its ends: v is the value before
module _ (b : BookValue) (unit : Option MeasureUnit) (claimed : List Entry) (v : DayMergeValue)
    (is : merge_value b unit claimed ≡ v) (d : IsDayMerge b unit claimed) (lawful : IsLawful (book_world b)) (c : Claim)
    (known : Option ℕ) (is_known : IsKnownLength b claimed c.update known) where
  refuse : (code : RefusalCode) (interval : ℕ)
      → Breaks (union (union (book_world b) (all_claimed b unit claimed)) (claim_world b.stream b.day c)) code interval
      → Breaks (union (book_world v.book) (union v.said (claim_world v.book.stream v.book.day c))) code interval
  refuse code interval q =
      subst (λ x. Breaks (union (book_world x.book) (union x.said (claim_world x.book.stream x.book.day c))) code interval) is
      (subst (λ w. Breaks w code interval) (union_assoc total exact (book_world b) _ _) q)

  pub head_end : (code : RefusalCode) → BreaksHead known unit c.length c.unit code
      → Breaks (union (book_world v.book) (union v.said (claim_world v.book.stream v.book.day c))) code 0
  head_end code q = refuse code 0 (head_refused b unit known _ c (base b unit claimed d lawful c.update known is_known) code q)

  module _ (suits : SuitsHead known unit c.length c.unit) where
    conflict_end : (interval : ℕ)
        → IsFirst (Contradicts (union (book_world b) (all_claimed b unit claimed)) b c.length c.update c.readings)
        (Suits (union (book_world b) (all_claimed b unit claimed)) b c.length c.update c.readings) interval
        → Breaks (union (book_world v.book) (union v.said (claim_world v.book.stream v.book.day c))) VersionConflict interval
    conflict_end interval q =
        refuse VersionConflict interval
        (reading_refused b unit known _ c (base b unit claimed d lawful c.update known is_known) suits interval q)

    pub claim_end : (minutes : ℕ) (readings : List ReadingValue) → Member (c.update, (minutes, readings)) claimed
        → length readings ≡ length c.readings → (interval : ℕ)
        → IsFirst (λ k. slice_get readings k ≢ slice_get c.readings k)
        (λ k. slice_get readings k ≡ slice_get c.readings k) interval
        → Breaks (union (book_world v.book) (union v.said (claim_world v.book.stream v.book.day c))) VersionConflict interval
    claim_end minutes readings m many interval q =
        conflict_end interval (first_of_claims b unit claimed d lawful c known is_known suits minutes readings m interval many q)

    pub known_end : (minutes : ℕ) (readings : List ReadingValue) → Member (c.update, (minutes, readings)) claimed
        → ((k : ℕ) → slice_get readings k ≡ slice_get c.readings k)
        → (v.said ≡ union v.said (claim_world v.book.stream v.book.day c)) × Agrees (union (book_world v.book) v.said)
    known_end minutes readings m same =
        subst (λ x. (x.said ≡ union x.said (claim_world x.book.stream x.book.day c)) × Agrees (union (book_world x.book) x.said)) is
        (known_claim b unit claimed d lawful c known is_known suits minutes readings m same, d.agrees)

    module _ (absent : (entry : Entry) → Member entry claimed → entry.0 ≢ c.update) where
      pub book_end : (interval : ℕ)
          → IsFirst (Contradicts (book_world b) b c.length c.update c.readings) (Suits (book_world b) b c.length c.update c.readings) interval
          → Breaks (union (book_world v.book) (union v.said (claim_world v.book.stream v.book.day c))) VersionConflict interval
      book_end interval q = conflict_end interval (first_of_book b unit claimed d c absent interval q)

      pub lacking_end : ((k : ℕ) → Suits (book_world b) b c.length c.update c.readings k)
          → Agrees (union (book_world v.book) (union v.said (claim_world v.book.stream v.book.day c)))
      lacking_end free =
          subst (λ x. Agrees (union (book_world x.book) (union x.said (claim_world x.book.stream x.book.day c)))) is
          (subst Agrees (union_assoc total exact (book_world b) _ _)
          (accepted b unit known _ c (base b unit claimed d lawful c.update known is_known) suits (λ k. suits_all b unit claimed d c absent k (free k))))

      pub taken_end : (later : List Entry) → ComesIn claimed later (entry_of c)
          → ((k : ℕ) → Suits (book_world b) b c.length c.update c.readings k)
          → (b ≡ v.book)
          × (all_claimed b (Some c.unit) later ≡ union v.said (claim_world v.book.stream v.book.day c))
          × Agrees (union (book_world b) (all_claimed b (Some c.unit) later))
      taken_end later comes free = (
        ap (λ x. x.book) is,
        subst (λ x. all_claimed b (Some c.unit) later ≡ union x.said (claim_world x.book.stream x.book.day c)) is
            (said_more b unit claimed later d lawful c known is_known suits absent comes),
        agrees_more b unit claimed later d lawful c known is_known suits absent comes free,
      )

-- nothing was said under an update that wasn't claimed
pub unsaid_end : (b : BookValue) (unit : Option MeasureUnit) (claimed : List Entry) (v : DayMergeValue) → merge_value b unit claimed ≡ v
    → (update : ℕ) → ((entry : Entry) → Member entry claimed → entry.0 ≢ update)
    → (minutes interval : ℕ) (r : ReadingValue) → VersionIs (key_of v.book minutes interval update) r ∈ v.said → ⊥
unsaid_end b unit claimed v is update absent minutes interval r =
    subst (λ x. VersionIs (key_of x.book minutes interval update) r ∈ x.said → ⊥) is (λ i.
    let n = in_said b unit claimed _ i in elim n.4 [
      | inl e ↦ cc
      | inr q ↦ absent n.2 n.3 (sym (ap (λ k. k.update) (same_key _ _ r q.1 q.3).0))
    ])

-- a merge of which nothing was claimed
none_said : (b : BookValue) (unit : Option MeasureUnit) → all_claimed b unit [] ≡ set.empty
none_said b None = refl
none_said b (Some one) = refl

pub new_said : (b : BookValue) (unit : Option MeasureUnit) (es : List Entry) → es ≡ [] → all_claimed b unit es ≡ set.empty
new_said b unit es e = ap (λ l. all_claimed b unit l) e ∙ none_said b unit

pub none_in_book : (b : BookValue) (es : List (ℕ × ClaimedReadings)) → es ≡ [] → AreInBook b es
none_in_book b es e update kept m none = absurd (subst (λ l. Member (update, kept) l) e m)

pub new_merge : (b : BookValue) (form : Option (ℕ × MeasureUnit)) (unit : Option MeasureUnit) (claimed : List Entry)
    → IsFormOfRows form b.rows → unit_of form ≡ b.unit → unit ≡ b.unit → claimed ≡ [] → IsLawful (book_world b) → IsDayMerge b unit claimed
new_merge b form unit claimed rows of_form of_book e lawful = record {
  agrees = subst Agrees (sym (ap (union (book_world b)) (new_said b unit claimed e) ∙ union_empty total exact (book_world b))) lawful.agrees;
  whole = λ entry m. absurd (subst (λ es. Member entry es) e m);
  some = λ entry m. absurd (subst (λ es. Member entry es) e m);
  once = subst (λ es. Apart (map (λ entry. entry.0) es)) (sym e) tt;
  none = λ k. e;
  known = λ one k. of_book ∙ k;
  told = λ one k. inl (told form rows of_form one (sym of_book ∙ k));
}
  where
    told : (form : Option (ℕ × MeasureUnit)) → IsFormOfRows form b.rows → unit_of form ≡ b.unit → (one : MeasureUnit) → b.unit ≡ Some one
        → (row : ℕ × Version) × Member row b.rows × (b.unit ≡ Some one)
    told None none same one k = let z = same ∙ k in cc
    told (Some known) top same one k = (top.0, top.1, k)
