-- Details that are kept by their days, as a World.
use Rattle.std.proofs.Common.{◌≡◌, ◌<◌, ◌+◌, ℕ, true, false, List, [], ◌∷◌, ◌++◌, length, map, take, drop, slice_index_or, Option, Some, None, refl, sym, ap, ◌∙◌, subst, inl, inr}
use Rattle.std.specs.Prelude.{◌⊎◌, ◌↔◌, Bool, IsSome, cond}
use mathlib.Core.Bool.{true≢false}
use Rattle.std.proofs.lemmas.Grind.{flat_map-append}
use Rattle.std.proofs.lemmas.List.{append-nil, take-append-drop, take_more}
use Rattle.std.specs.BTreeMap.{BTreeMap, IsOrdered, WritesThrough, get, is_at}
use Rattle.std.specs.BTreeSet.{BTreeSet, IsFromIterResult}
use Rattle.std.specs.Cmp.{IsTotalOrder, nat_cmp_total}
use Rattle.std.specs.FinSet as set
use Rattle.std.specs.FinSet.{IsAntisymmetric, nat_cmp-IsAntisymmetric}
use Rattle.std.specs.List.{flat_map}
use Rattle.std.specs.Ordering.{nat_cmp}
use Rattle.mds_terms.proofs.TermOrder.{details_exact}
use Rattle.mds_world.specs.declared.facts.Detail.{Detail}
use Rattle.mds_world.specs.Facts.{Fact}
use Rattle.mds_world.specs.Facts.Fact.{DetailIs}
use Rattle.mds_world.proofs.Lists.{append_left, append_right, flat_in, in_flat, in_map, map_in, member_append}
use Rattle.mds_world.specs.Lists.{Apart, Member}
use Rattle.mds_world.proofs.Members.{in_list, in_union, list_in, same_by, union_left, union_right}
use Rattle.mds_world.specs.Sets.{◌∈◌}
use Rattle.mds_world.specs.World.{union}
use Rattle.mds_keeper.specs.Queries.{stream_cmp}
use Rattle.mds_memory.specs.StoredDetails.{Gains, Loses, all_details, details_world, entry_details, meter_cmp, meter_details, meter_on}
use Rattle.mds_memory.specs.contracts.stored_details.MeterDetailsOrd.TheImpl.Laws as meter_laws
use Rattle.mds_memory.specs.declared.stored_details.MeterDays.{MeterDays}
use Rattle.mds_memory.specs.declared.stored_details.MeterDetails.{MeterDetails}
use Rattle.mds_memory.proofs.Entries as entries
use Rattle.mds_memory.proofs.Keys as keys
use Rattle.mds_memory.proofs.NoteOrder.{tie}
use Rattle.mds_memory.proofs.Places.{stream_exact}

abbrev pub Meters : Type 0
Meters = BTreeMap MeterDetails (BTreeSet ℕ)

pub meter_total : IsTotalOrder meter_cmp
meter_total = meter_laws.total-law

pub meter_exact : IsAntisymmetric meter_cmp
meter_exact x y e =
    let s = tie (stream_cmp x.stream y.stream) _ e in
    let m = tie (nat_cmp x.moment y.moment) _ s.1 in
    λ i. record {
      stream = stream_exact x.stream y.stream s.0 i;
      moment = nat_cmp-IsAntisymmetric x.moment y.moment m.0 i;
      details = details_exact x.details y.details m.1 i;
    }

-- whose details they are
abbrev pub meter_of : Detail → MeterDetails
meter_of detail = record { stream = detail.stream; moment = detail.moment; details = detail.details }

-- a fact of their World is one of them
pub is_detail : (kept : Meters) (f : Fact) → f ∈ details_world kept → (detail : Detail) × (f ≡ DetailIs detail)
is_detail kept f h = let r = in_map DetailIs (flat_map entry_details kept.entries) f (in_list _ f h) in (r.0, r.2)

one_detail : (a b : Detail) → DetailIs a ≡ DetailIs b → a ≡ b
one_detail a b e = cc

pub in_details : (kept : Meters) (detail : Detail) → DetailIs detail ∈ details_world kept
    → (days : BTreeSet ℕ) × Member (meter_of detail, days) kept.entries × Member detail.day days.keys
in_details kept detail h =
    let r = in_map DetailIs (flat_map entry_details kept.entries) (DetailIs detail) (in_list _ (DetailIs detail) h) in
    let same : detail ≡ r.0 = one_detail detail r.0 r.2 in
    let e = in_flat entry_details kept.entries r.0 r.1 in
    let d = in_map (meter_on e.0.0) e.0.1.keys r.0 e.2 in
    let is : detail ≡ meter_on e.0.0 d.0 = same ∙ d.2 in (
      e.0.1,
      subst (λ x. Member (meter_of x, e.0.1) kept.entries) (sym is) e.1,
      subst (λ x. Member x.day e.0.1.keys) (sym is) d.1,
    )

pub details_in : (kept : Meters) (detail : Detail) (days : BTreeSet ℕ) → Member (meter_of detail, days) kept.entries
    → Member detail.day days.keys → DetailIs detail ∈ details_world kept
details_in kept detail days m n =
    list_in _ (DetailIs detail)
    (map_in DetailIs _ detail (flat_in entry_details kept.entries detail (meter_of detail, days) m
    (map_in (meter_on (meter_of detail)) days.keys detail.day n)))

-- ---- the days under a key

abbrev pub days_of : Option (BTreeSet ℕ) → List ℕ
days_of None = []
days_of (Some days) = days.keys

abbrev pub days_at : Meters → MeterDetails → List ℕ
days_at kept key = days_of (get meter_cmp kept key)

pub kept_at : (kept : Meters) → IsOrdered meter_cmp kept → (detail : Detail) → DetailIs detail ∈ details_world kept
    → Member detail.day (days_at kept (meter_of detail))
kept_at kept o detail h =
    let r = in_details kept detail h in
    let e = entries.gets meter_cmp meter_exact meter_total kept.entries o (meter_of detail) r.0 r.1 in
    subst (λ d. Member detail.day (days_of d)) (sym e) r.2

pub at_kept : (kept : Meters) (detail : Detail) → Member detail.day (days_at kept (meter_of detail))
    → DetailIs detail ∈ details_world kept
at_kept kept detail m = by (get meter_cmp kept (meter_of detail)) refl m
  where
    by : (found : Option (BTreeSet ℕ)) → get meter_cmp kept (meter_of detail) ≡ found → Member detail.day (days_of found)
        → DetailIs detail ∈ details_world kept
    by None e n = absurd n
    by (Some days) e n =
        details_in kept detail days
        (entries.found_in meter_cmp meter_exact meter_total kept.entries (meter_of detail) days e) n

-- ---- days are put under a key

module _ (old new : Meters) (key : MeterDetails) (days : BTreeSet ℕ) (o : IsOrdered meter_cmp old) (n : IsOrdered meter_cmp new)
    (put : (q : MeterDetails) → get meter_cmp new q ≡ cond (is_at (meter_cmp key) q) (Some days) (get meter_cmp old q)) where
  here : (q : MeterDetails) → is_at (meter_cmp key) q ≡ true → days_at new q ≡ days.keys
  here q e = ap days_of (put q ∙ ap (λ b. cond b (Some days) (get meter_cmp old q)) e)

  other : (q : MeterDetails) → is_at (meter_cmp key) q ≡ false → days_at new q ≡ days_at old q
  other q e = ap days_of (put q ∙ ap (λ b. cond b (Some days) (get meter_cmp old q)) e)

  same_key : (detail : Detail) → is_at (meter_cmp key) (meter_of detail) ≡ true → key ≡ meter_of detail
  same_key detail e = keys.is_here meter_cmp meter_exact meter_total key (meter_of detail) e

  not_of : (more : List ℕ) (detail : Detail) → is_at (meter_cmp key) (meter_of detail) ≡ false
      → Member detail (map (meter_on key) more) → ⊥
  not_of more detail e m =
      let r = in_map (meter_on key) more detail m in
      let is : key ≡ meter_of detail = ap meter_of (sym r.2) in
      true≢false (sym (keys.here_is meter_cmp meter_exact meter_total key (meter_of detail) is) ∙ e)

  day_of : (more : List ℕ) (detail : Detail) → Member detail (map (meter_on key) more) → Member detail.day more
  day_of more detail m =
      let r = in_map (meter_on key) more detail m in
      subst (λ x. Member x.day more) (sym r.2) r.1

  of_day : (more : List ℕ) (detail : Detail) → key ≡ meter_of detail → Member detail.day more
      → Member detail (map (meter_on key) more)
  of_day more detail same m =
      subst (λ k. Member (meter_on k detail.day) (map (meter_on key) more)) same (map_in (meter_on key) more detail.day m)

  pub gained : (more : List ℕ) → ((day : ℕ) → Member day days.keys ↔ (Member day (days_at old key) ⊎ Member day more))
      → Gains old (map (meter_on key) more) new
  gained more h detail = by (is_at (meter_cmp key) (meter_of detail)) refl
    where
      by : (b : Bool) → is_at (meter_cmp key) (meter_of detail) ≡ b → (DetailIs detail ∈ details_world new)
          ↔ ((DetailIs detail ∈ details_world old) ⊎ Member detail (map (meter_on key) more))
      by true e =
          let same = same_key detail e in (
            (λ x. elim ((h detail.day).0 (subst (Member detail.day) (here (meter_of detail) e) (kept_at new n detail x))) [
              | inl a ↦ inl (at_kept old detail (subst (λ k. Member detail.day (days_at old k)) same a))
              | inr a ↦ inr (of_day more detail same a)
            ]),
            (λ x. at_kept new detail (subst (Member detail.day) (sym (here (meter_of detail) e)) ((h detail.day).1 (elim x [
              | inl a ↦ inl (subst (λ k. Member detail.day (days_at old k)) (sym same) (kept_at old o detail a))
              | inr a ↦ inr (day_of more detail a)
            ])))),
          )
      by false e = (
        (λ x. inl (at_kept old detail (subst (Member detail.day) (other (meter_of detail) e) (kept_at new n detail x)))),
        (λ x. elim x [
          | inl a ↦ at_kept new detail (subst (Member detail.day) (sym (other (meter_of detail) e)) (kept_at old o detail a))
          | inr a ↦ absurd (not_of more detail e a)
        ]),
      )

  pub lost : (some : List ℕ) → ((day : ℕ) → Member day days.keys ↔ (Member day (days_at old key) × (Member day some → ⊥)))
      → Loses old (map (meter_on key) some) new
  lost some h detail = by (is_at (meter_cmp key) (meter_of detail)) refl
    where
      by : (b : Bool) → is_at (meter_cmp key) (meter_of detail) ≡ b → (DetailIs detail ∈ details_world new)
          ↔ ((DetailIs detail ∈ details_world old) × (Member detail (map (meter_on key) some) → ⊥))
      by true e =
          let same = same_key detail e in (
            (λ x.
                let p = (h detail.day).0 (subst (Member detail.day) (here (meter_of detail) e) (kept_at new n detail x)) in (
                  at_kept old detail (subst (λ k. Member detail.day (days_at old k)) same p.0),
                  (λ m. p.1 (day_of some detail m)),
                )),
            (λ x. at_kept new detail (subst (Member detail.day) (sym (here (meter_of detail) e)) ((h detail.day).1 (
              subst (λ k. Member detail.day (days_at old k)) (sym same) (kept_at old o detail x.0),
              (λ m. x.1 (of_day some detail same m)),
            )))),
          )
      by false e = (
        (λ x. (
          at_kept old detail (subst (Member detail.day) (other (meter_of detail) e) (kept_at new n detail x)),
          not_of some detail e,
        )),
        (λ x. at_kept new detail (subst (Member detail.day) (sym (other (meter_of detail) e)) (kept_at old o detail x.0))),
      )

-- more days are written to those under a key
pub written : (old new : Meters) (key : MeterDetails) (was days : BTreeSet ℕ) → Some was ≡ get meter_cmp old key
    → IsOrdered meter_cmp old → WritesThrough meter_cmp (meter_cmp key) old days new → (more : List ℕ)
    → ((day : ℕ) → Member day days.keys ↔ (Member day was.keys ⊎ Member day more)) → Gains old (map (meter_on key) more) new
written old new key was days is o holds more h =
    gained old new key days o holds.4 (holds.3 (subst IsSome is refl)).0 more
    (subst (λ ks. (day : ℕ) → Member day days.keys ↔ (Member day ks ⊎ Member day more)) (ap days_of is) h)

-- and some are taken out
pub unwritten : (old new : Meters) (key : MeterDetails) (was days : BTreeSet ℕ) → Some was ≡ get meter_cmp old key
    → IsOrdered meter_cmp old → WritesThrough meter_cmp (meter_cmp key) old days new → (some : List ℕ)
    → ((day : ℕ) → Member day days.keys ↔ (Member day was.keys × (Member day some → ⊥))) → Loses old (map (meter_on key) some) new
unwritten old new key was days is o holds some h =
    lost old new key days o holds.4 (holds.3 (subst IsSome is refl)).0 some
    (subst (λ ks. (day : ℕ) → Member day days.keys ↔ (Member day ks × (Member day some → ⊥))) (ap days_of is) h)

-- nothing is there to be taken out
pub none_there : (old new : Meters) (key : MeterDetails) → None ≡ get meter_cmp old key → IsOrdered meter_cmp old → new ≡ old
    → (some : List ℕ) → Loses old (map (meter_on key) some) new
none_there old new key none o same some detail = (
  (λ h. (
    subst (λ m. DetailIs detail ∈ details_world m) same h,
    (λ m.
        let r = in_map (meter_on key) some detail m in
        let is : meter_of detail ≡ key = ap meter_of r.2 in
        let k : Member detail.day (days_at old key) =
        subst (λ q. Member detail.day (days_at old q)) is
        (kept_at old o detail (subst (λ m. DetailIs detail ∈ details_world m) same h)) in
        subst (λ d. Member detail.day (days_of d)) (sym none) k),
  )),
  (λ p. subst (λ m. DetailIs detail ∈ details_world m) (sym same) p.0),
)

-- details get their first days
pub first_days : (old mid new : Meters) (more : MeterDays) (key : MeterDetails) (days : BTreeSet ℕ) → mid ≡ old
    → None ≡ get meter_cmp old more.meter → IsOrdered meter_cmp old → IsOrdered meter_cmp new → key ≡ more.meter
    → IsFromIterResult nat_cmp more.days.items days
    → ((q : MeterDetails) → get meter_cmp new q ≡ cond (is_at (meter_cmp key) q) (Some days) (get meter_cmp mid q))
    → Gains old (meter_details more) new
first_days old mid new more key days same none o n is come put =
    let each = keys.collected nat_cmp nat_cmp-IsAntisymmetric nat_cmp_total more.days.items days come in
    gained old new more.meter days o n
    (λ q. put q ∙ (λ i. cond (is_at (meter_cmp (is i)) q) (Some days) (get meter_cmp (same i) q))) more.days.items
    (λ day. (
      (λ m. inr ((each day).0 m)),
      (λ e. elim e [
        | inl m ↦ absurd (subst (λ d. Member day (days_of d)) (sym none) m)
        | inr m ↦ (each day).1 m
      ]),
    ))

-- ---- one after the other

pub gains_both : (old mid new : Meters) (xs ys : List Detail) → Gains old xs mid → Gains mid ys new → Gains old (xs ++ ys) new
gains_both old mid new xs ys p q detail = (
  (λ h. elim ((q detail).0 h) [
    | inl a ↦ elim ((p detail).0 a) [ inl b ↦ inl b | inr b ↦ inr (append_left detail xs ys b) ]
    | inr a ↦ inr (append_right detail xs ys a)
  ]),
  (λ h. (q detail).1 (elim h [
    | inl a ↦ inl ((p detail).1 (inl a))
    | inr a ↦ elim (member_append detail xs ys a) [ inl b ↦ inl ((p detail).1 (inr b)) | inr b ↦ inr b ]
  ])),
)

pub loses_both : (old mid new : Meters) (xs ys : List Detail) → Loses old xs mid → Loses mid ys new → Loses old (xs ++ ys) new
loses_both old mid new xs ys p q detail = (
  (λ h.
      let a = (q detail).0 h in
      let b = (p detail).0 a.0 in
      (b.0, (λ m. elim (member_append detail xs ys m) [ inl c ↦ b.1 c | inr c ↦ a.1 c ]))),
  (λ h. (q detail).1
      ((p detail).1 (h.0, (λ m. h.1 (append_left detail xs ys m))), (λ m. h.1 (append_right detail xs ys m)))),
)

-- the details of one more of a list
all_more : (xs : List MeterDays) (i : ℕ) (x : MeterDays) → i < length xs → x ≡ slice_index_or xs i x
    → all_details (take (i + 1) xs) ≡ all_details (take i xs) ++ meter_details x
all_more xs i x l is =
    ap all_details (take_more xs i x l) ∙ flat_map-append meter_details (take i xs) (slice_index_or xs i x ∷ [])
    ∙ ap (λ ds. all_details (take i xs) ++ ds) (append-nil (meter_details (slice_index_or xs i x)))
    ∙ ap (λ g. all_details (take i xs) ++ meter_details g) (sym is)

pub gains_more : (old mid new : Meters) (xs : List MeterDays) (i : ℕ) (x : MeterDays) → i < length xs
    → x ≡ slice_index_or xs i x → Gains old (all_details (take i xs)) mid → Gains mid (meter_details x) new
    → Gains old (all_details (take (i + 1) xs)) new
gains_more old mid new xs i x l is p q =
    subst (λ ds. Gains old ds new) (sym (all_more xs i x l is)) (gains_both old mid new _ (meter_details x) p q)

pub loses_more : (old mid new : Meters) (xs : List MeterDays) (i : ℕ) (x : MeterDays) → i < length xs
    → x ≡ slice_index_or xs i x → Loses old (all_details (take i xs)) mid → Loses mid (meter_details x) new
    → Loses old (all_details (take (i + 1) xs)) new
loses_more old mid new xs i x l is p q =
    subst (λ ds. Loses old ds new) (sym (all_more xs i x l is)) (loses_both old mid new _ (meter_details x) p q)

-- what is apart has no member twice
not_twice : (xs ys : List Detail) → Apart (xs ++ ys) → (x : Detail) → Member x xs → Member x ys → ⊥
not_twice [] ys a x m n = m
not_twice (k ∷ xs) ys a x (inl e) n = a.0 (append_right k xs ys (subst (λ y. Member y ys) e n))
not_twice (k ∷ xs) ys a x (inr m) n = not_twice xs ys a.1 x m n

apart_front : (xs ys : List Detail) → Apart (xs ++ ys) → Apart xs
apart_front [] ys a = tt
apart_front (x ∷ xs) ys a = ((λ m. a.0 (append_left x xs ys m)), apart_front xs ys a.1)

-- all are the first of them, and the others
in_parts : (i : ℕ) (xs : List MeterDays) → all_details (take i xs) ++ all_details (drop i xs) ≡ all_details xs
in_parts i xs = sym (flat_map-append meter_details (take i xs) (drop i xs)) ∙ ap all_details (take-append-drop i xs)

pub first_of_all : (i : ℕ) (xs : List MeterDays) (detail : Detail) → Member detail (all_details (take i xs))
    → Member detail (all_details xs)
first_of_all i xs detail m = subst (Member detail) (in_parts i xs) (append_left detail _ (all_details (drop i xs)) m)

-- the next ones aren't there yet
pub next_absent : (old mid : Meters) (xs : List MeterDays) (i : ℕ) (x : MeterDays) → i < length xs
    → x ≡ slice_index_or xs i x → Apart (all_details xs)
    → ((detail : Detail) → Member detail (all_details xs) → DetailIs detail ∈ details_world old → ⊥)
    → Gains old (all_details (take i xs)) mid
    → (detail : Detail) → Member detail (meter_details x) → DetailIs detail ∈ details_world mid → ⊥
next_absent old mid xs i x l is apart absent gains detail m h =
    let n : Member detail (all_details (take (i + 1) xs)) =
    subst (Member detail) (sym (all_more xs i x l is)) (append_right detail (all_details (take i xs)) (meter_details x) m) in
    let a : Apart (all_details (take i xs) ++ meter_details x) = subst Apart (all_more xs i x l is)
    (apart_front _ (all_details (drop (i + 1) xs)) (subst Apart (sym (in_parts (i + 1) xs)) apart)) in
    elim ((gains detail).0 h) [
      | inl b ↦ absent detail (first_of_all (i + 1) xs detail n) b
      | inr b ↦ not_twice (all_details (take i xs)) (meter_details x) a detail b m
    ]

-- ---- Worlds

same_details : (a b : Meters) → ((detail : Detail) → DetailIs detail ∈ details_world a → DetailIs detail ∈ details_world b)
    → (f : Fact) → f ∈ details_world a → f ∈ details_world b
same_details a b sub f h =
    let r = is_detail a f h in
    subst (λ g. g ∈ details_world b) (sym r.1) (sub r.0 (subst (λ g. g ∈ details_world a) r.1 h))

pub gained_world : (old new : Meters) (more : List Detail) → Gains old more new
    → details_world new ≡ union (details_world old) (set.from_list (map DetailIs more))
gained_world old new more gains = same_by _ _
    (λ f h.
    let r = is_detail new f h in
    subst (λ g. g ∈ union (details_world old) (set.from_list (map DetailIs more))) (sym r.1)
    (elim ((gains r.0).0 (subst (λ g. g ∈ details_world new) r.1 h)) [
      | inl a ↦ union_left _ _ (DetailIs r.0) a
      | inr a ↦ union_right _ _ (DetailIs r.0) (list_in _ (DetailIs r.0) (map_in DetailIs more r.0 a))
    ]))
    (λ f h. elim (in_union _ _ f h) [
      | inl a ↦ same_details old new (λ detail b. (gains detail).1 (inl b)) f a
      | inr a ↦
          let r = in_map DetailIs more f (in_list _ f a) in
          subst (λ g. g ∈ details_world new) (sym r.2) ((gains r.0).1 (inr r.1))
    ])

-- what was put in is taken out again, once a call that put nothing failed
pub given_back : (old mid failed new : Meters) (more : List Detail) → Gains old more mid → Gains mid [] failed
    → Loses failed more new → ((detail : Detail) → Member detail more → DetailIs detail ∈ details_world old → ⊥)
    → details_world new ≡ details_world old
given_back old mid failed new more gains none loses absent = same_by _ _
    (same_details new old (λ detail h.
    let a = (loses detail).0 h in
    elim ((none detail).0 a.0) [
      | inl b ↦ elim ((gains detail).0 b) [ inl c ↦ c | inr c ↦ absurd (a.1 c) ]
      | inr z ↦ absurd z
    ]))
    (same_details old new (λ detail h.
    (loses detail).1 ((none detail).1 (inl ((gains detail).1 (inl h))), (λ m. absent detail m h))))
