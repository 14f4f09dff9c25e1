-- Days that are kept, as a World.
use Rattle.std.proofs.Common.{◌≡◌, ◌≤◌, ℕ, List, [], ◌∷◌, Option, Some, None, refl, sym, ap, ◌∙◌, subst, inl, inr}
use Rattle.std.specs.Prelude.{◌⊎◌}
use Rattle.std.specs.List.Sorted.{IsStrictlySortedBy}
use Rattle.std.specs.BTreeMap.{BTreeMap, IsOrdered, insert_entry, is_at}
use Rattle.std.specs.FinSet as set
use Rattle.std.specs.Map.{keys_of, lookup}
use Rattle.std.specs.Option.{unwrap_or}
use Rattle.mds_quantity.specs.declared.unit.Unit.{Unit as MeasureUnit}
use Rattle.mds_names.specs.declared.stream.Stream.{Stream}
use Rattle.mds_world.specs.declared.facts.StreamDay.{StreamDay}
use Rattle.mds_world.specs.FactOrder.{exact, total}
use Rattle.mds_world.specs.Facts.{Fact}
use Rattle.mds_world.specs.Facts.Fact.{HeadIs, VersionIs, DetailIs, EventIs, PeriodIs, HolidayIs, JobIs}
use Rattle.mds_world.proofs.Lists.{flat_in, in_flat, in_map, map_in, member_append}
use Rattle.mds_world.specs.Lists.{Member}
use Rattle.mds_world.proofs.Members.{in_list, in_union, list_in, same_by, union_left}
use Rattle.mds_world.proofs.Sets.{not_in_empty}
use Rattle.mds_world.specs.Sets.{◌∈◌}
use Rattle.mds_world.specs.World.{IsOn, World, union}
use Rattle.mds_keeper.specs.Books.{BookValue, IsDay, book_facts, book_world, head_facts, row_fact}
use Rattle.mds_keeper.proofs.BookFacts.{member_head}
use Rattle.mds_memory.specs.Stored.{AreOfTheirDays, HasRoom, IsChange, days_world, last_number, place_cmp}
use Rattle.mds_keeper.specs.declared.day_book.Version.{Version}
use Rattle.mds_memory.proofs.Places.{found_in, insert_here, insert_only, insert_other, not_absent, one_entry}

abbrev pub Kept : Type 0
Kept = BTreeMap StreamDay BookValue

head_on : (stream : Stream) (day : ℕ) (unit : Option MeasureUnit) (rows : List (ℕ × Version)) (f : Fact)
    → Member f (head_facts stream day unit rows) → IsOn stream day f
head_on stream day unit rows f m = let r = member_head stream day unit rows f m in subst (IsOn stream day) (sym r.4) (refl, refl)

-- all that a book says is on its day
pub fact_on : (book : BookValue) (f : Fact) → Member f (book_facts book) → IsOn book.stream book.day f
fact_on book f m = elim (member_append f (head_facts book.stream book.day book.unit book.rows) _ m) [
  | inl a ↦ head_on book.stream book.day book.unit book.rows f a
  | inr b ↦ let r = in_map (row_fact book.stream book.day) book.rows f b in
      subst (IsOn book.stream book.day) (sym r.2) (refl, refl)
]

pub fact_at : (place : StreamDay) (book : BookValue) (f : Fact) → (book.stream ≡ place.stream) × (book.day ≡ place.day)
    → Member f (book_facts book) → IsOn place.stream place.day f
fact_at place book f e m =
    subst (λ s. IsOn s place.day f) e.0 (subst (λ d. IsOn book.stream d f) e.1 (fact_on book f m))

-- a fact is on one day
pub one_day : (a b : StreamDay) (f : Fact) → IsOn a.stream a.day f → IsOn b.stream b.day f → a ≡ b
one_day a b (HeadIs head) x y = λ i. record { stream = (sym x.0 ∙ y.0) i; day = (sym x.1 ∙ y.1) i }
one_day a b (VersionIs key reading) x y = λ i. record { stream = (sym x.0 ∙ y.0) i; day = (sym x.1 ∙ y.1) i }
one_day a b (DetailIs detail) x y = absurd x
one_day a b (EventIs event) x y = absurd x
one_day a b (PeriodIs key content) x y = absurd x
one_day a b (HolidayIs date) x y = absurd x
one_day a b (JobIs id content count) x y = absurd x

pub in_days : (days : Kept) (f : Fact) → f ∈ days_world days
    → (e : StreamDay × BookValue) × Member e days.entries × Member f (book_facts e.1)
in_days days f h = in_flat (λ e. book_facts e.1) days.entries f (in_list _ f h)

pub days_in : (days : Kept) (f : Fact) (e : StreamDay × BookValue) → Member e days.entries → Member f (book_facts e.1)
    → f ∈ days_world days
days_in days f e m n = list_in _ f (flat_in (λ x. book_facts x.1) days.entries f e m n)

-- Some of the changed days are put over the kept ones: which of the changed ones are left, and what is kept now.
pub record ArePut (old changed left now : List (StreamDay × BookValue)) : Type 0 where
  pub only : (e : StreamDay × BookValue) → Member e now → Member e old ⊎ Member e changed
  pub kept : (e : StreamDay × BookValue) → Member e old → Member e now ⊎ ((b : BookValue) × Member (e.0, b) changed)
  pub put : (e : StreamDay × BookValue) → Member e changed
      → Member e left ⊎ ((b : BookValue) × Member (e.0, b) now × Member (e.0, b) changed)
  pub room : (e : StreamDay × BookValue) → Member e changed → (b : BookValue) × Member (e.0, b) now
  pub some : (e : StreamDay × BookValue) → Member e left → Member e changed

pub put_start : (old changed : Kept) (left : List (StreamDay × BookValue)) → HasRoom old changed → left ≡ changed.entries
    → ArePut old.entries changed.entries left old.entries
put_start old changed left room e = rw e (record {
  only = λ _ m. inl m;
  kept = λ _ m. inl m;
  put = λ _ m. inl m;
  room = λ e m. room e.0 e.1 m;
  some = λ _ m. m;
})

pub put_step : (old changed left now rest new : List (StreamDay × BookValue)) (k : StreamDay) (v : BookValue)
    → ArePut old changed left now → left ≡ (k, v) ∷ rest → new ≡ insert_entry place_cmp now k v
    → ArePut old changed rest new
put_step old changed left now rest new k v p l n =
    let m : Member (k, v) changed = p.some (k, v) (subst (λ es. Member (k, v) es) (sym l) (inl refl)) in
    let here : Member (k, v) (insert_entry place_cmp now k v) = insert_here now k v in
    rw n (record {
      only = λ e h. elim (insert_only now k v e h) [
        | inl a ↦ inr (subst (λ x. Member x changed) (sym a) m)
        | inr b ↦ p.only e b
      ];
      kept = λ e h. elim (p.kept e h) [
        | inl a ↦ elim (insert_other now k v e a) [
          | inl b ↦ inl b
          | inr q ↦ inr (v, subst (λ x. Member (x, v) changed) (sym q) m)
        ]
        | inr b ↦ inr b
      ];
      put = λ e h. elim (p.put e h) [
        | inl a ↦ elim (subst (λ es. Member e es) l a) [
          | inl q ↦ inr (v, subst (λ x. Member (x.0, v) (insert_entry place_cmp now k v)) (sym q) here, subst (λ x. Member (x.0, v) changed) (sym q) m)
          | inr r ↦ inl r
        ]
        | inr b ↦ elim (insert_other now k v (e.0, b.0) b.1) [
          | inl c ↦ inr (b.0, c, b.2)
          | inr q ↦ inr (v, subst (λ x. Member (x, v) (insert_entry place_cmp now k v)) (sym q) here, subst (λ x. Member (x, v) changed) (sym q) m)
        ]
      ];
      room = λ e h. let b = p.room e h in elim (insert_other now k v (e.0, b.0) b.1) [
        | inl c ↦ (b.0, c)
        | inr q ↦ (v, subst (λ x. Member (x, v) (insert_entry place_cmp now k v)) (sym q) here)
      ];
      some = λ e h. p.some e (subst (λ es. Member e es) (sym l) (inr h));
    })

-- there is a place for the next one
pub put_room : (old changed left now rest : List (StreamDay × BookValue)) (k : StreamDay) (v : BookValue)
    → ArePut old changed left now → left ≡ (k, v) ∷ rest → lookup (is_at (place_cmp k)) now ≡ None → ⊥
put_room old changed left now rest k v p l n =
    let b = p.room (k, v) (p.some (k, v) (subst (λ es. Member (k, v) es) (sym l) (inl refl))) in
    not_absent now k b.0 b.1 n

pub put_theirs : (old changed now : Kept) (left : List (StreamDay × BookValue))
    → ArePut old.entries changed.entries left now.entries → AreOfTheirDays old → AreOfTheirDays changed
    → IsOrdered place_cmp now → AreOfTheirDays now
put_theirs old changed now left p o t s = record {
  theirs = λ place book m. elim (p.only (place, book) m) [ inl a ↦ o.theirs place book a | inr b ↦ t.theirs place book b ];
  early = λ place book m. elim (p.only (place, book) m) [ inl a ↦ o.early place book a | inr b ↦ t.early place book b ];
  ordered = s;
}

put_holds : (old changed now : Kept) (w : World) → ArePut old.entries changed.entries [] now.entries
    → IsChange (days_world old) w changed → (place : StreamDay) (book : BookValue) → Member (place, book) changed.entries
    → (f : Fact) → IsOn place.stream place.day f → f ∈ union (days_world old) w → f ∈ days_world now
put_holds old changed now w p change place book m f on h = elim (p.put (place, book) m) [
  | inl z ↦ absurd z
  | inr q ↦ days_in now f (place, q.0) q.1 (in_list _ f ((change.each place q.0 q.2 f on).1 h))
]

pub put_world : (old changed now : Kept) (left : List (StreamDay × BookValue)) (w : World) → left ≡ []
    → ArePut old.entries changed.entries left now.entries → AreOfTheirDays old → AreOfTheirDays changed
    → IsChange (days_world old) w changed → days_world now ≡ union (days_world old) w
put_world old changed now left w e put o t change =
    let p : ArePut old.entries changed.entries [] now.entries =
    subst (λ l. ArePut old.entries changed.entries l now.entries) e put in
    same_by _ _
    (λ f h. let r = in_days now f h in elim (p.only r.0 r.1) [
      | inl a ↦ union_left _ _ f (days_in old f r.0 a r.2)
      | inr a ↦
          (change.each r.0.0 r.0.1 a f (fact_at r.0.0 r.0.1 f (t.theirs r.0.0 r.0.1 a) r.2)).0 (list_in _ f r.2)
    ])
    (λ f h. elim (in_union (days_world old) w f h) [
      | inl a ↦ let r = in_days old f a in elim (p.kept r.0 r.1) [
        | inl m ↦ days_in now f r.0 m r.2
        | inr m ↦ put_holds old changed now w p change r.0.0 m.0 m.1 f
            (fact_at r.0.0 r.0.1 f (o.theirs r.0.0 r.0.1 r.1) r.2) h
      ]
      | inr a ↦ let r = change.all f a in put_holds old changed now w p change r.0 r.1 r.2 f r.3 h
    ])

pub says_nothing : (book : BookValue) (f : Fact) → book_world book ≡ set.empty → Member f (book_facts book) → ⊥
says_nothing book f e m = not_in_empty total exact f (subst (λ w. f ∈ w) e (list_in (book_facts book) f m))

-- the book under a place says what is kept of the day
pub day_at : (days : Kept) (place : StreamDay) (book : BookValue) → AreOfTheirDays days → Member (place, book) days.entries
    → IsDay (days_world days) book
day_at days place book t m =
    let at = t.theirs place book m in
    record {
      whole = λ f on h.
          let r = in_days days f h in
          let here : IsOn place.stream place.day f = subst (λ s. IsOn s place.day f) at.0 (subst (λ d. IsOn book.stream d f) at.1 on) in
          let same : r.0.0 ≡ place =
          one_day r.0.0 place f (fact_at r.0.0 r.0.1 f (t.theirs r.0.0 r.0.1 r.1) r.2) here in
          let n : Member (place, r.0.1) days.entries = subst (λ k. Member (k, r.0.1) days.entries) same r.1 in
          list_in _ f (subst (λ b. Member f (book_facts b)) (one_entry days.entries t.ordered place r.0.1 book n m) r.2);
      only = λ f h. days_in days f (place, book) m (in_list _ f h);
    }

-- what is kept of a day
pub day_found : (days : Kept) (place : StreamDay) (book : BookValue) → AreOfTheirDays days
    → lookup (is_at (place_cmp place)) days.entries ≡ Some book → IsDay (days_world days) book
day_found days place book t e = day_at days place book t (found_in days.entries place book e)

pub day_unknown : (days : Kept) (place : StreamDay) (book : BookValue) → AreOfTheirDays days
    → lookup (is_at (place_cmp place)) days.entries ≡ None → (book.stream ≡ place.stream) × (book.day ≡ place.day)
    → book_world book ≡ set.empty → IsDay (days_world days) book
day_unknown days place book t e at none = record {
  whole = λ f on h.
      let r = in_days days f h in
      let here : IsOn place.stream place.day f = subst (λ s. IsOn s place.day f) at.0 (subst (λ d. IsOn book.stream d f) at.1 on) in
      let same : r.0.0 ≡ place =
      one_day r.0.0 place f (fact_at r.0.0 r.0.1 f (t.theirs r.0.0 r.0.1 r.1) r.2) here in
      absurd (not_absent days.entries place r.0.1 (subst (λ k. Member (k, r.0.1) days.entries) same r.1) e);
  only = λ f h. absurd (not_in_empty total exact f (subst (λ w. f ∈ w) none h));
}

-- Room is made for days: what is kept stays, and the places that are looked at are there.
pub record IsRoom (old changed : Kept) (left : List StreamDay) (now : Kept) : Type 0 where
  pub same : days_world now ≡ days_world old
  pub theirs : AreOfTheirDays old → AreOfTheirDays now
  pub room : (place : StreamDay) (book : BookValue) → Member (place, book) changed.entries
      → Member place left ⊎ ((kept : BookValue) × Member (place, kept) now.entries)

key_of : (es : List (StreamDay × BookValue)) (place : StreamDay) (book : BookValue) → Member (place, book) es
    → Member place (keys_of es)
key_of es place book m = map_in (λ e. e.0) es (place, book) m

pub room_start : (old changed : Kept) (left : List StreamDay) → left ≡ keys_of changed.entries → IsRoom old changed left old
room_start old changed left e = record {
  same = refl;
  theirs = λ t. t;
  room = λ place book m. inl (subst (λ ks. Member place ks) (sym e) (key_of changed.entries place book m));
}

room_added : (old changed now new : Kept) (left rest : List StreamDay) (k : StreamDay) (b : BookValue)
    → IsRoom old changed left now → left ≡ k ∷ rest → lookup (is_at (place_cmp k)) now.entries ≡ None
    → new.entries ≡ insert_entry place_cmp now.entries k b → IsOrdered place_cmp new
    → (b.stream ≡ k.stream) × (b.day ≡ k.day) → k.day ≤ last_number → book_world b ≡ set.empty → IsRoom old changed rest new
room_added old changed now new left rest k b r l none es ordered at low empty =
    let keeps : (e : StreamDay × BookValue) → Member e now.entries → Member e new.entries = λ e m.
    elim (insert_other now.entries k b e m) [
      | inl n ↦ subst (λ xs. Member e xs) (sym es) n
      | inr q ↦ absurd (not_absent now.entries k e.1 (subst (λ p. Member (p, e.1) now.entries) q m) none)
    ] in
    let only : (e : StreamDay × BookValue) → Member e new.entries → (e ≡ (k, b)) ⊎ Member e now.entries = λ e m.
    insert_only now.entries k b e (subst (λ xs. Member e xs) es m) in
    record {
      same = same_by _ _
          (λ f h. let d = in_days new f h in elim (only d.0 d.1) [
            | inl q ↦ absurd (says_nothing b f empty (subst (λ e. Member f (book_facts e.1)) q d.2))
            | inr m ↦ days_in now f d.0 m d.2
          ])
          (λ f h. let d = in_days now f h in days_in new f d.0 (keeps d.0 d.1) d.2)
          ∙ r.same;
      theirs = λ t. record {
        theirs = λ place book m. elim (only (place, book) m) [
          | inl q ↦ (ap (λ e. e.1.stream) q ∙ at.0 ∙ sym (ap (λ e. e.0.stream) q), ap (λ e. e.1.day) q ∙ at.1 ∙ sym (ap (λ e. e.0.day) q))
          | inr n ↦ (r.theirs t).theirs place book n
        ];
        early = λ place book m. elim (only (place, book) m) [
          | inl q ↦ subst (λ e. e.0.day ≤ last_number) (sym q) low
          | inr n ↦ (r.theirs t).early place book n
        ];
        ordered = ordered;
      };
      room = λ place book m. elim (r.room place book m) [
        | inl a ↦ elim (subst (λ ks. Member place ks) l a) [
          | inl q ↦ inr (b, subst (λ p. Member (p, b) new.entries) (sym q) (subst (λ xs. Member (k, b) xs) (sym es) (insert_here now.entries k b)))
          | inr n ↦ inl n
        ]
        | inr n ↦ inr (n.0, keeps (place, n.0) n.1)
      ];
    }

-- the day has a place, and is put again as it was
room_kept : (old changed now new : Kept) (left rest : List StreamDay) (k : StreamDay) (v : BookValue)
    → IsRoom old changed left now → left ≡ k ∷ rest → lookup (is_at (place_cmp k)) now.entries ≡ Some v
    → new.entries ≡ insert_entry place_cmp now.entries k v → IsOrdered place_cmp now → IsOrdered place_cmp new
    → IsRoom old changed rest new
room_kept old changed now new left rest k v r l some es was ordered =
    let there : Member (k, v) now.entries = found_in now.entries k v some in
    let keeps : (e : StreamDay × BookValue) → Member e now.entries → Member e new.entries = λ e m.
    elim (insert_other now.entries k v e m) [
      | inl n ↦ subst (λ xs. Member e xs) (sym es) n
      | inr q ↦ let w = one_entry now.entries was k e.1 v (subst (λ p. Member (p, e.1) now.entries) q m) there in
          subst (λ xs. Member e xs) (sym es) (subst (λ x. Member x (insert_entry place_cmp now.entries k v)) (λ i. (sym q i, sym w i))
          (insert_here now.entries k v))
    ] in
    let only : (e : StreamDay × BookValue) → Member e new.entries → Member e now.entries = λ e m.
    elim (insert_only now.entries k v e (subst (λ xs. Member e xs) es m)) [
      | inl q ↦ subst (λ x. Member x now.entries) (sym q) there
      | inr n ↦ n
    ] in
    record {
      same = same_by _ _ (λ f h. let d = in_days new f h in days_in now f d.0 (only d.0 d.1) d.2)
          (λ f h. let d = in_days now f h in days_in new f d.0 (keeps d.0 d.1) d.2) ∙ r.same;
      theirs = λ t. record {
        theirs = λ place book m. (r.theirs t).theirs place book (only (place, book) m);
        early = λ place book m. (r.theirs t).early place book (only (place, book) m);
        ordered = ordered;
      };
      room = λ place book m. elim (r.room place book m) [
        | inl a ↦ elim (subst (λ ks. Member place ks) l a) [
          | inl q ↦ inr (v, subst (λ p. Member (p, v) new.entries) (sym q) (keeps (k, v) there))
          | inr n ↦ inl n
        ]
        | inr n ↦ inr (n.0, keeps (place, n.0) n.1)
      ];
    }

-- the day has a place now
pub room_put : (old changed now new : Kept) (left rest : List StreamDay) (k : StreamDay) (b : BookValue) (o : Option BookValue)
    → IsRoom old changed left now → left ≡ k ∷ rest → lookup (is_at (place_cmp k)) now.entries ≡ o
    → new.entries ≡ insert_entry place_cmp now.entries k (unwrap_or o b) → IsOrdered place_cmp now → IsOrdered place_cmp new
    → (b.stream ≡ k.stream) × (b.day ≡ k.day) → k.day ≤ last_number → book_world b ≡ set.empty → IsRoom old changed rest new
room_put old changed now new left rest k b None r l e es was ordered at low empty =
    room_added old changed now new left rest k b r l e es ordered at low empty
room_put old changed now new left rest k b (Some v) r l e es was ordered at low empty =
    room_kept old changed now new left rest k v r l e es was ordered

pub room_end : (old changed now : Kept) (left : List StreamDay) → IsRoom old changed left now → left ≡ []
    → HasRoom now changed
room_end old changed now left r e = λ place book m. elim (r.room place book m) [
  | inl a ↦ absurd (subst (λ ks. Member place ks) e a)
  | inr n ↦ n
]

pub theirs_same : (old new : Kept) → new.entries ≡ old.entries → AreOfTheirDays old → AreOfTheirDays new
theirs_same old new e t = record {
  theirs = λ place book m. t.theirs place book (subst (λ es. Member (place, book) es) e m);
  early = λ place book m. t.early place book (subst (λ es. Member (place, book) es) e m);
  ordered = subst (λ es. IsStrictlySortedBy place_cmp (keys_of es)) (sym e) t.ordered;
}

pub day_there : (days : Kept) (place : StreamDay) (book : BookValue) → AreOfTheirDays days
    → lookup (is_at (place_cmp place)) days.entries ≡ Some book → (book.stream ≡ place.stream) × (book.day ≡ place.day)
day_there days place book t e = t.theirs place book (found_in days.entries place book e)
