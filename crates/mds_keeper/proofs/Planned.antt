-- What the claims of a day add to its book, or at which line they are refused.
use Rattle.std.proofs.Common.{◌≡◌, ℕ, zero, suc, ◌+◌, ◌<◌, ◌≤◌, List, [], ◌∷◌, ◌++◌, length, map, take, get_or, refl, sym, ap, ◌∙◌, subst, inl, inr, arith}
use Rattle.std.specs.Prelude.{Bool, true, false, cond, nat_le, ◌⊎◌}
use Rattle.std.specs.FinSet as set
use Rattle.std.specs.List.{filter, flat_map}
use Rattle.std.proofs.lemmas.Bool.Decides.{nat_tests}
use Rattle.std.proofs.lemmas.Grind.{flat_map-append}
use Rattle.std.proofs.lemmas.List.{append-nil}
use Rattle.std.proofs.lemmas.Option.{get_or_from_slice_get}
use Rattle.mds_names.specs.declared.stream.Stream.{Stream}
use Rattle.mds_world.specs.Counts.{countable}
use Rattle.mds_world.specs.FactOrder.{exact, fact_cmp, total}
use Rattle.mds_world.specs.Facts.{Fact}
use Rattle.mds_world.specs.Facts.Fact.{HeadIs, DetailIs, EventIs, HolidayIs}
use Rattle.mds_world.proofs.Lists.{flat_in, in_flat}
use Rattle.mds_world.specs.Lists.{Apart, Member}
use Rattle.mds_world.proofs.Members.{same_by, in_union, union_left, union_right, in_list, list_in}
use Rattle.mds_world.proofs.Sets.{decided, difference_in, in_difference, list_append, union_empty}
use Rattle.mds_world.specs.Sets.{◌∈◌}
use Rattle.mds_world.specs.Stated.{day_facts}
use Rattle.mds_world.specs.World.{Agrees, IsKnownDay, IsLawful, World, union}
use Rattle.mds_keeper.specs.Books.{BookValue, book_world}
use Rattle.mds_keeper.specs.Content.{content, content_facts, details_of, heads_of, job_fact, period_fact, version_fact, versions_of}
use Rattle.mds_keeper.specs.DayMerges.{AreAscending, DayMergeValue, IfRefused, IsPlan, Settles}
use Rattle.mds_keeper.specs.Merge.{Breaks, IsRefusal, claim_facts, claim_world, claims_upto, claims_world}
use Rattle.mds_keeper.specs.declared.additions.Additions.{Additions}
use Rattle.mds_keeper.specs.declared.claim.Claim.{Claim}
use Rattle.mds_keeper.specs.declared.day_merge.MergeCounts.{MergeCounts}
use Rattle.mds_keeper.specs.declared.day_merge.Stop.{Stop}
use Rattle.mds_keeper.specs.declared.day_merge.Stop.TheVariants.{Refused, Memory}
use Rattle.mds_keeper.specs.declared.refusal.Refusal.{Refusal}
use Rattle.mds_keeper.proofs.Rows.{member_get}
use Rattle.mds_keeper.proofs.Settled.{counted_versions}

agrees_sub : (a b : World) → ((f : Fact) → f ∈ a → f ∈ b) → Agrees b → Agrees a
agrees_sub a b s g = record {
  one_length = λ x y i j. g.one_length x y (s _ i) (s _ j);
  one_unit = λ x y i j. g.one_unit x y (s _ i) (s _ j);
  one_reading = λ key x y i j. g.one_reading key x y (s _ i) (s _ j);
  one_content = λ key x y i j. g.one_content key x y (s _ i) (s _ j);
}

take_one_more : {X : Type 0} (xs : List X) (i : ℕ) (d : X) → i < length xs → take (suc i) xs ≡ take i xs ++ get_or xs i d ∷ []
take_one_more [] i d h = absurd (omega arith)
take_one_more (x ∷ xs) zero d h = refl
take_one_more (x ∷ xs) (suc i) d h = ap (λ l. x ∷ l) (take_one_more xs i d (omega arith))

take_all : {X : Type 0} (xs : List X) → take (length xs) xs ≡ xs
take_all [] = refl
take_all (x ∷ xs) = ap (λ l. x ∷ l) (take_all xs)

-- each line is below those after it
abbrev Rising : List Claim → Type 0
Rising [] = Unit {0}
Rising (c ∷ cs) = ((x : Claim) → Member x cs → c.line < x.line) × Rising cs

rising : (cs : List Claim) → AreAscending cs → Rising cs
rising [] a = tt
rising (c ∷ cs) a = (
  (λ x m.
      let g = member_get cs x m in
      let h : c.line < (get_or cs g.0 x).line = a 0 (suc g.0) x (omega arith) (omega (arith, g.1)) in
      subst (λ y. c.line < y.line) (get_or_from_slice_get cs g.0 x x g.2) h),
  rising cs (λ i j d l h. a (suc i) (suc j) d (omega arith) (omega arith)),
)

at_member : (cs : List Claim) (i : ℕ) (d : Claim) → i < length cs → Member (get_or cs i d) cs
at_member [] i d h = absurd (omega arith)
at_member (c ∷ cs) zero d h = inl refl
at_member (c ∷ cs) (suc i) d h = inr (at_member cs i d (omega arith))

not_upto : (a b : ℕ) → b < a → nat_le a b ≡ false
not_upto a b h = grind (arith, nat_tests)

is_up : (a b : ℕ) → a ≤ b → nat_le a b ≡ true
is_up a b h = grind (arith, nat_tests)

member_cond : {X : Type 0} (t : Bool) (y x : X) (xs : List X) → Member y (cond t (x ∷ xs) xs) → (y ≡ x) ⊎ Member y xs
member_cond true y x xs m = m
member_cond false y x xs m = inr m

-- on one of the lines up to this one
abbrev is_upto : ℕ → Claim → Bool
is_upto line c = nat_le c.line line

none_upto : (line : ℕ) (cs : List Claim) → ((x : Claim) → Member x cs → line < x.line) → filter (is_upto line) cs ≡ []
none_upto line [] h = refl
none_upto line (c ∷ cs) h =
    ap (λ t. cond t (c ∷ filter (is_upto line) cs) (filter (is_upto line) cs)) (not_upto c.line line (h c (inl refl)))
    ∙ none_upto line cs (λ x m. h x (inr m))

upto_at : (cs : List Claim) (i : ℕ) (d : Claim) → Rising cs → i < length cs
    → filter (is_upto (get_or cs i d).line) cs ≡ take (suc i) cs
upto_at [] i d r h = absurd (omega arith)
upto_at (c ∷ cs) zero d r h =
    ap (λ t. cond t (c ∷ filter (is_upto c.line) cs) (filter (is_upto c.line) cs)) (is_up c.line c.line (omega arith))
    ∙ ap (λ l. c ∷ l) (none_upto c.line cs r.0)
upto_at (c ∷ cs) (suc i) d r h =
    let below : c.line < (get_or cs i d).line = r.0 (get_or cs i d) (at_member cs i d (omega arith)) in
    ap (λ t. cond t (c ∷ filter (is_upto (get_or cs i d).line) cs) (filter (is_upto (get_or cs i d).line) cs))
    (is_up c.line (get_or cs i d).line (omega arith))
    ∙ ap (λ l. c ∷ l) (upto_at cs i d r.1 (omega arith))

upto_below : (cs : List Claim) (i : ℕ) (d : Claim) (line : ℕ) → Rising cs → i < length cs → line < (get_or cs i d).line
    → (x : Claim) → Member x (filter (is_upto line) cs) → Member x (take i cs)
upto_below [] i d line r h l x m = absurd m
upto_below (c ∷ cs) zero d line r h l x m =
    subst (λ k. Member x k) (none_upto line (c ∷ cs) (λ y n. elim n [
      | inl e ↦ subst (λ z. line < z.line) (sym e) l
      | inr k ↦ let b = r.0 y k in omega (arith, l, b)
    ])) m
upto_below (c ∷ cs) (suc i) d line r h l x m = elim (member_cond (nat_le c.line line) x _ _ m) [
  | inl e ↦ inl e
  | inr n ↦ inr (upto_below cs i d line r.1 (omega arith) l x n)
]

module _ (stream : Stream) (day : ℕ) where
  claims_append : (xs ys : List Claim) → claims_world stream day (xs ++ ys) ≡ union (claims_world stream day xs) (claims_world stream day ys)
  claims_append xs ys = ap set.from_list (flat_map-append (claim_facts stream day) xs ys) ∙ list_append total exact _ _

  one_claim : (c : Claim) → claims_world stream day (c ∷ []) ≡ claim_world stream day c
  one_claim c = ap (set.from_list {R = fact_cmp}) (append-nil (claim_facts stream day c))

  -- a claim's copy states what it does
  same_claim : (copy claim : Claim) → (copy.line ≡ claim.line) × (copy.length ≡ claim.length) × (copy.unit ≡ claim.unit)
      × (copy.update ≡ claim.update) × (copy.readings ≡ claim.readings) → claim_world stream day copy ≡ claim_world stream day claim
  same_claim copy claim e = λ i. set.from_list {R = fact_cmp} (day_facts stream day (e.1 i) (e.2 i) (e.3 i) (e.4 i))

-- a book, and the claims so far
pub record IsPlanning (b : BookValue) (claims : List Claim) (i : ℕ) (d : DayMergeValue) : Type 0 where
  pub book : d.book ≡ b
  pub so_far : d.said ≡ claims_world b.stream b.day (take i claims)
  pub agrees : Agrees (union (book_world b) d.said)

pub start_planning : (b : BookValue) (claims : List Claim) (d : DayMergeValue) (copy : BookValue) → d ≡ record { book = copy; said = set.empty } → copy ≡ b
    → IsLawful (book_world b) → IsPlanning b claims 0 d
start_planning b claims d copy e same lawful = record {
  book = ap (λ x. x.book) e ∙ same;
  so_far = ap (λ x. x.said) e;
  agrees = subst Agrees (sym (ap (λ x. union (book_world b) x.said) e ∙ union_empty total exact (book_world b))) lawful.agrees;
}

module _ (b : BookValue) (claims : List Claim) (i : ℕ) (d : DayMergeValue) (is : IsPlanning b claims i d) (item copy : Claim)
    (below : i < length claims) (at : item ≡ get_or claims i item)
    (same : (copy.line ≡ item.line) × (copy.length ≡ item.length) × (copy.unit ≡ item.unit)
    × (copy.update ≡ item.update) × (copy.readings ≡ item.readings)) where
  -- the facts so far with those of the claim
  with_claim : union d.said (claim_world d.book.stream d.book.day copy) ≡ claims_world b.stream b.day (take (suc i) claims)
  with_claim =
      (λ j. union (is.so_far j) (claim_world (is.book j).stream (is.book j).day copy))
      ∙ ap (union (claims_world b.stream b.day (take i claims)))
      (same_claim b.stream b.day copy item same ∙ sym (one_claim b.stream b.day item))
      ∙ sym (claims_append b.stream b.day (take i claims) (item ∷ []))
      ∙ ap (claims_world b.stream b.day) (ap (λ c. take i claims ++ c ∷ []) at ∙ sym (take_one_more claims i item below))

  pub planning_more : (next : DayMergeValue)
      → (next.book ≡ d.book) × (next.said ≡ union d.said (claim_world d.book.stream d.book.day copy))
      × Agrees (union (book_world next.book) next.said) → IsPlanning b claims (i + 1) next
  planning_more next t =
      let one : suc i ≡ i + 1 = omega arith in
      record {
        book = t.0 ∙ is.book;
        so_far = t.1 ∙ with_claim ∙ ap (λ n. claims_world b.stream b.day (take n claims)) one;
        agrees = subst (λ x. Agrees (union (book_world x) next.said)) (t.0 ∙ is.book) t.2;
      }

  pub planning_refused : AreAscending claims → (refusal : Refusal) → (refusal.line ≡ copy.line) × (refusal.field ≡ 0)
      × Breaks (union (book_world d.book) (union d.said (claim_world d.book.stream d.book.day copy))) refusal.code refusal.interval
      → IsRefusal (book_world b) (claims_upto b.stream b.day claims) refusal
  planning_refused up refusal q =
      let line : refusal.line ≡ (get_or claims i item).line = q.0 ∙ same.0 ∙ ap (λ c. c.line) at in
      record {
        breaks = subst (λ w. Breaks w refusal.code refusal.interval)
            ((λ j. union (book_world (is.book j)) (with_claim j))
            ∙ ap (λ l. union (book_world b) (claims_world b.stream b.day l)) (sym (ap (λ n. filter (is_upto n) claims) line
            ∙ upto_at claims i item (rising claims up) below))) q.2;
        before = λ n l. agrees_sub _ _ (λ f m. elim (in_union _ _ f m) [
          | inl a ↦ union_left _ _ f a
          | inr a ↦ union_right _ _ f (subst (λ w. f ∈ w) (sym is.so_far) (earlier n (subst (λ k. n < k) line l) f a))
        ]) is.agrees;
        no_field = q.1;
      }
    where
      earlier : (n : ℕ) → n < (get_or claims i item).line → (f : Fact) → f ∈ claims_upto b.stream b.day claims n
          → f ∈ claims_world b.stream b.day (take i claims)
      earlier n l f a =
          let m = in_flat (claim_facts b.stream b.day) (filter (is_upto n) claims) f
          (in_list (flat_map (claim_facts b.stream b.day) (filter (is_upto n) claims)) f a) in
          list_in (flat_map (claim_facts b.stream b.day) (take i claims)) f
          (flat_in (claim_facts b.stream b.day) (take i claims) f m.0
          (upto_below claims i item n (rising claims up) below l m.0 m.1) m.2)

  pub planning_stop : AreAscending claims → (stop : Stop) → IfRefused stop (λ refusal. (refusal.line ≡ copy.line) × (refusal.field ≡ 0)
      × Breaks (union (book_world d.book) (union d.said (claim_world d.book.stream d.book.day copy))) refusal.code refusal.interval)
      → IfRefused stop (IsRefusal (book_world b) (claims_upto b.stream b.day claims))
  planning_stop up (Refused refusal) q = planning_refused up refusal q
  planning_stop up Memory q = tt

-- what is put behind nothing
nil_left : {X : Type 0} (xs ys : List X) → xs ++ ys ≡ [] → xs ≡ []
nil_left [] ys e = refl
nil_left (x ∷ xs) ys e = cc

nil_right : {X : Type 0} (xs ys : List X) → xs ++ ys ≡ [] → ys ≡ []
nil_right [] ys e = e
nil_right (x ∷ xs) ys e = cc

nil_map : {X Y : Type 0} (f : X → Y) (xs : List X) → map f xs ≡ [] → xs ≡ []
nil_map f [] e = refl
nil_map f (x ∷ xs) e = cc

added_facts : (d : DayMergeValue) (old new : Additions) (counts : MergeCounts) (s : Settles d old new counts) → content_facts old ≡ []
    → (content_facts new ≡ map HeadIs (s.first ++ s.further) ++ map version_fact s.versions) × (versions_of new.days.items ≡ s.versions)
    × (new.new_days.items ≡ s.first) × (new.heads.items ≡ s.further)
added_facts d old new counts s e =
    let H = map HeadIs (heads_of old) in
    let V = map version_fact (versions_of old.days.items) in
    let D = map DetailIs (details_of old.details.items) in
    let E = map EventIs old.events.items in
    let P = map period_fact old.periods.items in
    let L = map HolidayIs old.holidays.items in
    let J = map job_fact old.jobs.items in
    let e6 : ((((H ++ V) ++ D) ++ E) ++ P) ++ L ≡ [] = nil_left (((((H ++ V) ++ D) ++ E) ++ P) ++ L) J e in
    let e5 : (((H ++ V) ++ D) ++ E) ++ P ≡ [] = nil_left ((((H ++ V) ++ D) ++ E) ++ P) L e6 in
    let e4 : ((H ++ V) ++ D) ++ E ≡ [] = nil_left (((H ++ V) ++ D) ++ E) P e5 in
    let e3 : (H ++ V) ++ D ≡ [] = nil_left ((H ++ V) ++ D) E e4 in
    let e2 : H ++ V ≡ [] = nil_left (H ++ V) D e3 in
    let hs : heads_of old ≡ [] = nil_map HeadIs (heads_of old) (nil_left H V e2) in
    let ns : old.new_days.items ≡ [] = nil_left old.new_days.items old.heads.items hs in
    let fs : old.heads.items ≡ [] = nil_right old.new_days.items old.heads.items hs in
    let vs : versions_of old.days.items ≡ [] = nil_map version_fact (versions_of old.days.items) (nil_right H V e2) in
    let ds : details_of old.details.items ≡ [] = nil_map DetailIs (details_of old.details.items) (nil_right (H ++ V) D e3) in
    let es : old.events.items ≡ [] = nil_map EventIs old.events.items (nil_right ((H ++ V) ++ D) E e4) in
    let ps : old.periods.items ≡ [] = nil_map period_fact old.periods.items (nil_right (((H ++ V) ++ D) ++ E) P e5) in
    let ls : old.holidays.items ≡ [] = nil_map HolidayIs old.holidays.items (nil_right ((((H ++ V) ++ D) ++ E) ++ P) L e6) in
    let js : old.jobs.items ≡ [] = nil_map job_fact old.jobs.items (nil_right (((((H ++ V) ++ D) ++ E) ++ P) ++ L) J e) in
    let n : new.new_days.items ≡ s.first = s.grows.more_first ∙ ap (λ l. l ++ s.first) ns in
    let h : new.heads.items ≡ s.further = s.grows.more_heads ∙ ap (λ l. l ++ s.further) fs in
    let v : versions_of new.days.items ≡ s.versions = s.grows.more_versions ∙ ap (λ l. l ++ s.versions) vs in
    let x : details_of new.details.items ≡ [] = ap (λ k. details_of k.items) s.grows.same_details ∙ ds in
    let y : new.events.items ≡ [] = ap (λ k. k.items) s.grows.same_events ∙ es in
    let p : new.periods.items ≡ [] = ap (λ k. k.items) s.grows.same_periods ∙ ps in
    let z : new.holidays.items ≡ [] = ap (λ k. k.items) s.grows.same_holidays ∙ ls in
    let w : new.jobs.items ≡ [] = ap (λ k. k.items) s.grows.same_jobs ∙ js in
    let N = map HeadIs (s.first ++ s.further) ++ map version_fact s.versions in (
      (λ i. map HeadIs (n i ++ h i) ++ map version_fact (v i) ++ map DetailIs (x i) ++ map EventIs (y i) ++ map period_fact (p i)
          ++ map HolidayIs (z i) ++ map job_fact (w i))
          ∙ append-nil ((((N ++ []) ++ []) ++ []) ++ []) ∙ append-nil (((N ++ []) ++ []) ++ []) ∙ append-nil ((N ++ []) ++ []) ∙ append-nil (N ++ []) ∙ append-nil N,
      v,
      n,
      h,
    )

pub planned : (b : BookValue) (claims : List Claim) (i : ℕ) (d : DayMergeValue) → IsPlanning b claims i d → length claims ≤ i → i ≤ length claims
    → (old new : Additions) (settled : MergeCounts) → content_facts old ≡ [] → old.days.items ≡ [] → Settles d old new settled
    → IsPlan b (claims_world b.stream b.day claims) new
planned b claims i d is low high old new settled none no_days s = record {
  agrees = subst (λ w. Agrees (union (book_world b) w)) all is.agrees;
  whole = ap (union (book_world b)) added ∙ rest_in ∙ ap (union (book_world b)) all;
  new = record {
    apart = subst Apart (sym facts.0) s.apart;
    absent = λ f m h. (in_difference total exact d.said (book_world b) f (subst (λ w. f ∈ w) added (list_in (content_facts new) f m))).1 h;
  };
  counted = ap length facts.1 ∙ counted_versions d.said (book_world d.book) (s.first ++ s.further) s.versions s.apart s.just
      ∙ (λ j. set.len (set.difference (countable (all j)) (countable (book_world (is.book j)))));
  one_first = subst (λ l. length l ≤ 1) (sym facts.2) s.one_first;
  known_day = λ known. facts.2 ∙ s.known_day (subst (λ x. IsKnownDay (book_world x) x.stream x.day) (sym is.book) known);
  new_day = λ unknown none.
      facts.3 ∙ s.new_day (λ known. unknown (subst (λ x. IsKnownDay (book_world x) x.stream x.day) is.book known)) (sym facts.2 ∙ none);
  days = λ day m. s.grows.more_days.2 day (subst (Member day) (s.grows.more_days.1 ∙ ap (λ l. l ++ s.grows.more_days.0) no_days) m);
}
  where
    facts : (content_facts new ≡ map HeadIs (s.first ++ s.further) ++ map version_fact s.versions) × (versions_of new.days.items ≡ s.versions)
        × (new.new_days.items ≡ s.first) × (new.heads.items ≡ s.further)
    facts = added_facts d old new settled s none

    all : d.said ≡ claims_world b.stream b.day claims
    all =
        let end : i ≡ length claims = omega (arith, low, high) in
        is.so_far ∙ ap (λ n. claims_world b.stream b.day (take n claims)) end ∙ ap (claims_world b.stream b.day) (take_all claims)

    added : content new ≡ set.difference d.said (book_world b)
    added = ap (set.from_list {R = fact_cmp}) facts.0 ∙ s.just ∙ ap (λ x. set.difference d.said (book_world x)) is.book

    rest_in : union (book_world b) (set.difference d.said (book_world b)) ≡ union (book_world b) d.said
    rest_in = same_by _ _
        (λ f m. elim (in_union _ _ f m) [
          | inl a ↦ union_left _ _ f a
          | inr a ↦ union_right _ _ f (in_difference total exact _ _ f a).0
        ])
        (λ f m. elim (in_union _ _ f m) [
          | inl a ↦ union_left _ _ f a
          | inr a ↦ elim (decided (set.contains (book_world b) f)) [
            | inl h ↦ union_left _ _ f h
            | inr n ↦ union_right _ _ f (difference_in total exact _ _ f a n)
          ]
        ])
