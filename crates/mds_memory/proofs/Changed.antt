-- Days to which heads and versions are added.
use Rattle.std.proofs.Common.{◌≡◌, ◌≤◌, ◌+◌, ℕ, List, [], ◌∷◌, ◌++◌, true, false, Option, Some, None, length, take, drop, refl, sym, ap, ◌∙◌, subst, inl, inr, append_assoc}
use Rattle.std.specs.Prelude.{◌⊎◌, cond, map, IsSome}
use Rattle.std.specs.List.{slice_get}
use Rattle.std.specs.BTreeMap.{BTreeMap, IsOrdered, get, insert_entry, is_at}
use Rattle.std.specs.FinSet as set
use Rattle.std.specs.Cmp.{tied_itself}
use Rattle.std.specs.Map.{lookup}
use Rattle.std.specs.Ordering.{is_eq}
use Rattle.std.specs.declared.cmp.Ordering.TheVariants.{Less, Equal, Greater}
use Rattle.std.proofs.lemmas.Grind.{flat_map-append}
use Rattle.std.proofs.lemmas.List.{append-nil, map-append, take-append-drop, take_all, take_more}
use Rattle.std.proofs.lemmas.Option.{get_or_from_slice_get, slice_get_within}
use Rattle.std.proofs.lemmas.Simd.{map-map}
use Rattle.mds_quantity.specs.declared.unit.Unit.{Unit as MeasureUnit}
use Rattle.mds_names.specs.declared.stream.Stream.{Stream}
use Rattle.mds_marks.specs.Reading.{ReadingValue}
use Rattle.mds_world.specs.declared.facts.Head.{Head}
use Rattle.mds_world.specs.declared.facts.Key.{Key}
use Rattle.mds_world.specs.declared.facts.StreamDay.{StreamDay}
use Rattle.mds_world.specs.Facts.{Fact, head_at, key_at}
use Rattle.mds_world.specs.Facts.Fact.{HeadIs, VersionIs, DetailIs, EventIs, PeriodIs, HolidayIs, JobIs}
use Rattle.mds_world.proofs.Lists.{append_left, append_right, in_map, map_in, member_append}
use Rattle.mds_world.specs.Lists.{Member}
use Rattle.mds_world.proofs.Members.{in_list, in_union, list_in, union_left, union_right}
use Rattle.mds_world.specs.Sets.{◌∈◌}
use Rattle.mds_world.specs.World.{IsLawful, IsOn, World, key_under, union}
use Rattle.mds_keeper.specs.Books.{BookValue, IsDay, book_facts, book_world, head_facts, row_fact, row_head}
use Rattle.mds_keeper.proofs.BookFacts.{from_book, head_in_book, head_of_book, member_head}
use Rattle.mds_keeper.specs.Content.{day_versions, rows_of, version_at, version_fact, versions_of}
use Rattle.mds_memory.specs.Stored.{AreOfTheirDays, IsChange, days_world, last_number, place_cmp}
use Rattle.mds_memory.specs.StoredSteps.{AreBooks, AreChanged, AreLawfulDays, GetsHead, Holds, rows_book}
use Rattle.mds_keeper.specs.declared.additions.DayVersions.{DayVersions}
use Rattle.mds_keeper.specs.declared.day_book.Version.{Version}
use Rattle.mds_memory.specs.declared.stored_days.InHand.{InHand}
use Rattle.mds_memory.specs.declared.stored_days.Rows.{Rows}
use Rattle.mds_memory.proofs.Places.{found_in, insert_here, insert_only, insert_other, not_absent, one_entry, place_exact, place_total}
use Rattle.mds_memory.proofs.StoredDays.{day_found, day_there, day_unknown, one_day}

abbrev pub Pending : Type 0
Pending = BTreeMap StreamDay Rows

there : {X : Type 0} (o : Option X) → IsSome o → (x : X) × (o ≡ Some x)
there None s = cc
there (Some x) s = (x, refl)

none_there : IsSome {T = Rows} None → ⊥
none_there s = cc

is_some_at : {X : Type 0} (o : Option X) (x : X) → o ≡ Some x → IsSome o
is_some_at o x e = subst IsSome (sym e) refl

-- the value at a key, after it is put at one
put_at : (k q : StreamDay) (v : Rows) (o n : Option Rows) (r : Rows) → n ≡ cond (is_eq (place_cmp k q)) (Some v) o
    → n ≡ Some r → ((k ≡ q) × (v ≡ r)) ⊎ ((k ≡ q → ⊥) × (o ≡ Some r))
put_at k q v o n r e f =
    elim (place_cmp k q) as (λ c. place_cmp k q ≡ c → cond (is_eq c) (Some v) o ≡ Some r
    → ((k ≡ q) × (v ≡ r)) ⊎ ((k ≡ q → ⊥) × (o ≡ Some r))) [
      | Less ↦ λ c g. inr ((λ s. let b = sym c ∙ ap (place_cmp k) (sym s) ∙ tied_itself place_total k in cc), g)
      | Equal ↦ λ c g. inl (place_exact k q c, (let h : v ≡ r = cc in h))
      | Greater ↦ λ c g. inr ((λ s. let b = sym c ∙ ap (place_cmp k) (sym s) ∙ tied_itself place_total k in cc), g)
    ] refl (sym e ∙ f)

put_here : (k q : StreamDay) (v : Rows) (o n : Option Rows) → n ≡ cond (is_eq (place_cmp k q)) (Some v) o → k ≡ q → IsSome n
put_here k q v o n e s =
    let t : is_eq (place_cmp k q) ≡ true = ap (λ x. is_eq (place_cmp k x)) (sym s) ∙ ap is_eq (tied_itself place_total k) in
    is_some_at n v (e ∙ ap (λ b. cond b (Some v) o) t)

put_stays : (k q : StreamDay) (v : Rows) (o n : Option Rows) → n ≡ cond (is_eq (place_cmp k q)) (Some v) o → IsSome o → IsSome n
put_stays k q v o n e s =
    subst IsSome (sym e) (elim (is_eq (place_cmp k q)) as (λ b. IsSome (cond b (Some v) o)) [ true ↦ refl | false ↦ s ])

-- the same where one is taken out
out_at : (k q : StreamDay) (o n : Option Rows) (r : Rows) → n ≡ cond (is_eq (place_cmp k q)) None o → n ≡ Some r → o ≡ Some r
out_at k q o n r e f =
    elim (is_eq (place_cmp k q)) as (λ b. cond b None o ≡ Some r → o ≡ Some r) [
      | true ↦ λ g. cc
      | false ↦ λ g. g
    ] (sym e ∙ f)

out_stays : (k q : StreamDay) (o n : Option Rows) → n ≡ cond (is_eq (place_cmp k q)) None o → IsSome o → IsSome n ⊎ (k ≡ q)
out_stays k q o n e s =
    let t : IsSome (cond (is_eq (place_cmp k q)) None o) ⊎ (k ≡ q) =
    elim (place_cmp k q) as (λ c. place_cmp k q ≡ c → IsSome (cond (is_eq c) None o) ⊎ (k ≡ q)) [
      | Less ↦ λ c. inl s
      | Equal ↦ λ c. inr (place_exact k q c)
      | Greater ↦ λ c. inl s
    ] refl in
    elim t [ inl a ↦ inl (subst IsSome (sym e) a) | inr b ↦ inr b ]

pub changed_close : (w : World) (more : List Fact) (old new : Pending) (hand : InHand)
    → ((q : StreamDay) → get place_cmp new q ≡ cond (is_eq (place_cmp hand.place q)) (Some hand.rows) (get place_cmp old q))
    → IsOrdered place_cmp new → AreChanged w more old (Some hand) → AreChanged w more new None
changed_close w more old new hand u ordered a = record {
  each = λ q r e o. elim (put_at hand.place q hand.rows (get place_cmp old q) (get place_cmp new q) r (u q) e) [
    | inl p ↦ subst (λ k. Holds w more k r) p.0 (subst (λ v. Holds w more hand.place v) p.1 a.hand)
    | inr p ↦ a.each q r p.1 p.0
  ];
  hand = tt;
  all = λ f m. let r = a.all f m in (
    r.0,
    r.1,
    elim r.2 [
      | inl s ↦ inl (put_stays hand.place r.0 hand.rows (get place_cmp old r.0) (get place_cmp new r.0) (u r.0) s)
      | inr s ↦ inl (put_here hand.place r.0 hand.rows (get place_cmp old r.0) (get place_cmp new r.0) (u r.0) s)
    ],
  );
  ordered = ordered;
}

changed_taken : (w : World) (more : List Fact) (old new : Pending) (place : StreamDay) (rows : Rows)
    → ((q : StreamDay) → get place_cmp new q ≡ cond (is_eq (place_cmp place q)) None (get place_cmp old q))
    → IsOrdered place_cmp new → Holds w more place rows → AreChanged w more old None
    → AreChanged w more new (Some (record { place = place; rows = rows }))
changed_taken w more old new place rows u ordered h a = record {
  each = λ q r e o. a.each q r (out_at place q (get place_cmp old q) (get place_cmp new q) r (u q) e) tt;
  hand = h;
  all = λ f m. let r = a.all f m in (
    r.0,
    r.1,
    elim r.2 [
      | inl s ↦ out_stays place r.0 (get place_cmp old r.0) (get place_cmp new r.0) (u r.0) s
      | inr z ↦ absurd z
    ],
  );
  ordered = ordered;
}

pub changed_again : (w : World) (more : List Fact) (old new : Pending) (place : StreamDay) (rows : Rows)
    → ((q : StreamDay) → get place_cmp new q ≡ cond (is_eq (place_cmp place q)) None (get place_cmp old q))
    → IsOrdered place_cmp new → get place_cmp old place ≡ Some rows → AreChanged w more old None
    → AreChanged w more new (Some (record { place = place; rows = rows }))
changed_again w more old new place rows u ordered e a =
    changed_taken w more old new place rows u ordered (a.each place rows e tt) a

-- the same of a day, where other facts are of other days
holds_same : (w : World) (old new : List Fact) (place : StreamDay) (rows : Rows) → ((f : Fact) → Member f old → Member f new)
    → ((f : Fact) → IsOn place.stream place.day f → Member f new → Member f old) → Holds w old place rows → Holds w new place rows
holds_same w old new place rows to from h = record {
  heads = λ head on k. h.heads head on (elim k [ inl a ↦ inl a | inr m ↦ inr (from (HeadIs head) on m) ]);
  versions = λ key reading on k.
      h.versions key reading on (elim k [ inl a ↦ inl a | inr m ↦ inr (from (VersionIs key reading) on m) ]);
  only = λ f m. elim (h.only f m) [ inl k ↦ inl k | inr n ↦ inr (to f n) ];
}

pub changed_first : (w : World) (more : List Fact) (old new : Pending) (place : StreamDay) (rows : Rows)
    → ((q : StreamDay) → get place_cmp new q ≡ cond (is_eq (place_cmp place q)) None (get place_cmp old q))
    → IsOrdered place_cmp new → get place_cmp old place ≡ None → Holds w [] place rows → AreChanged w more old None
    → AreChanged w more new (Some (record { place = place; rows = rows }))
changed_first w more old new place rows u ordered e h a =
    changed_taken w more old new place rows u ordered (holds_same w [] more place rows (λ f z. absurd z)
    (λ f on m. let r = a.all f m in elim r.2 [
      | inl s ↦ let same : r.0 ≡ place = one_day r.0 place f r.1 on in
          let t : IsSome {T = Rows} None = subst IsSome e (subst (λ k. IsSome (get place_cmp old k)) same s) in absurd (none_there t)
      | inr z ↦ absurd z
    ]) h) a

-- more facts, of the day in hand
pub changed_push : (w : World) (more facts : List Fact) (closed : Pending) (hand new : InHand)
    → AreChanged w more closed (Some hand) → new.place ≡ hand.place
    → ((f : Fact) → Member f facts → IsOn hand.place.stream hand.place.day f)
    → Holds w (more ++ facts) hand.place new.rows → AreChanged w (more ++ facts) closed (Some new)
changed_push w more facts closed hand new a e on h = record {
  each = λ q r g other. holds_same w more (more ++ facts) q r (λ x n. append_left x more facts n)
      (λ x at m. elim (member_append x more facts m) [
        | inl n ↦ n
        | inr n ↦ absurd (other (e ∙ one_day hand.place q x (on x n) at))
      ])
      (a.each q r g (λ s. other (e ∙ s)));
  hand = subst (λ k. Holds w (more ++ facts) k new.rows) (sym e) h;
  all = λ x m. elim (member_append x more facts m) [
    | inl n ↦ let r = a.all x n in (r.0, r.1, elim r.2 [ inl s ↦ inl s | inr s ↦ inr (e ∙ s) ])
    | inr n ↦ (hand.place, on x n, inr e)
  ];
  ordered = a.ordered;
}

-- the same facts in another order
changed_same : (w : World) (old new : List Fact) (closed : Pending) (hand : InHand) → ((f : Fact) → Member f old → Member f new)
    → ((f : Fact) → Member f new → Member f old) → AreChanged w old closed (Some hand) → AreChanged w new closed (Some hand)
changed_same w old new closed hand to from a = record {
  each = λ place rows g o. holds_same w old new place rows to (λ f on. from f) (a.each place rows g o);
  hand = holds_same w old new hand.place hand.rows to (λ f on. from f) a.hand;
  all = λ f m. a.all f (from f m);
  ordered = a.ordered;
}

swapped : (a b c : List Fact) (f : Fact) → Member f ((a ++ b) ++ c) → Member f ((a ++ c) ++ b)
swapped a b c f m = elim (member_append f (a ++ b) c m) [
  | inl n ↦ elim (member_append f a b n) [
    | inl x ↦ append_left f (a ++ c) b (append_left f a c x)
    | inr x ↦ append_right f (a ++ c) b x
  ]
  | inr n ↦ append_left f (a ++ c) b (append_right f a c n)
]

-- what is known of a day with one more head
known_before : (w : World) (more : List Fact) (head : Head) (f : Fact) → (f ∈ w) ⊎ Member f (more ++ HeadIs head ∷ [])
    → ((f ∈ w) ⊎ Member f more) ⊎ (f ≡ HeadIs head)
known_before w more head f k = elim k [
  | inl a ↦ inl (inl a)
  | inr m ↦ elim (member_append f more (HeadIs head ∷ []) m) [
    | inl n ↦ inl (inr n)
    | inr n ↦ elim n [ inl s ↦ inr s | inr z ↦ absurd z ]
  ]
]

unit_of_head : (a b : Head) → HeadIs a ≡ HeadIs b → a.unit ≡ b.unit
unit_of_head a b e = let same : a ≡ b = cc in ap (λ (h : Head). h.unit) same

not_head : (key : Key) (reading : ReadingValue) (head : Head) → VersionIs key reading ≡ HeadIs head → ⊥
not_head key reading head e = cc

not_row : (stream : Stream) (day : ℕ) (head : Head) (row : ℕ × Version) → HeadIs head ≡ row_fact stream day row → ⊥
not_row stream day head row e = cc

-- What a day holds with one more head, that of the day, which has the unit of what is known.
pub holds_head : (w : World) (more : List Fact) (head : Head) (old new : Rows)
    → ((h : Head) → (HeadIs h ∈ w) ⊎ Member (HeadIs h) more → h.stream ≡ head.stream → h.day ≡ head.day → h.unit ≡ head.unit)
    → new.unit ≡ Some head.unit → new.rows ≡ old.rows
    → Holds w more (record { stream = head.stream; day = head.day }) old
    → Holds w (more ++ HeadIs head ∷ []) (record { stream = head.stream; day = head.day }) new
holds_head w more head old new one e v h =
    let same : rows_of new.rows ≡ rows_of old.rows = ap rows_of v in
    record {
      heads = λ x on k. elim (known_before w more head (HeadIs x) k) [
        | inl known ↦ e ∙ ap Some (sym (one x known on.0 on.1))
        | inr s ↦ e ∙ ap Some (sym (unit_of_head x head s))
      ];
      versions = λ key reading on k. elim (known_before w more head (VersionIs key reading) k) [
        | inl known ↦ subst (λ l. Member (VersionIs key reading) (map (row_fact head.stream head.day) l)) (sym same) (h.versions key reading on known)
        | inr s ↦ absurd (not_head key reading head s)
      ];
      only = λ f m. elim (h.only f (subst (λ l. Member f (map (row_fact head.stream head.day) l)) same m)) [
        | inl k ↦ inl k
        | inr n ↦ inr (append_left f more (HeadIs head ∷ []) n)
      ];
    }

-- the same with more versions of the day
pub holds_versions : (w : World) (more : List Fact) (place : StreamDay) (rows : List (ℕ × Version)) (old new : Rows)
    → new.unit ≡ old.unit → rows_of new.rows ≡ rows_of old.rows ++ rows
    → Holds w more place old → Holds w (more ++ map (row_fact place.stream place.day) rows) place new
holds_versions w more place rows old new e v h =
    let g : ℕ × Version → Fact = row_fact place.stream place.day in
    let parts : map g (rows_of new.rows) ≡ map g (rows_of old.rows) ++ map g rows =
    ap (map g) v ∙ map-append g (rows_of old.rows) rows in
    record {
      heads = λ x on k. e ∙ h.heads x on (elim k [
        | inl a ↦ inl a
        | inr m ↦ elim (member_append (HeadIs x) more (map g rows) m) [
          | inl n ↦ inr n
          | inr n ↦ let r = in_map g rows (HeadIs x) n in absurd (not_row place.stream place.day x r.0 r.2)
        ]
      ]);
      versions = λ key reading on k.
          let f : Fact = VersionIs key reading in
          let old_one : (f ∈ w) ⊎ Member f more → Member f (map g (rows_of old.rows) ++ map g rows) =
          λ known. append_left f (map g (rows_of old.rows)) (map g rows) (h.versions key reading on known) in
          subst (Member f) (sym parts) (elim k [
            | inl a ↦ old_one (inl a)
            | inr m ↦ elim (member_append f more (map g rows) m) [
              | inl n ↦ old_one (inr n)
              | inr n ↦ append_right f (map g (rows_of old.rows)) (map g rows) n
            ]
          ]);
      only = λ f m. elim (member_append f (map g (rows_of old.rows)) (map g rows) (subst (Member f) parts m)) [
        | inl n ↦ elim (h.only f n) [ inl k ↦ inl k | inr x ↦ inr (append_left f more (map g rows) x) ]
        | inr n ↦ inr (append_right f more (map g rows) n)
      ];
    }

get_at : (closed : Pending) (place : StreamDay) (rows : Rows) → IsOrdered place_cmp closed → Member (place, rows) closed.entries
    → (o : Option Rows) → get place_cmp closed place ≡ o → o ≡ Some rows
get_at closed place rows s m None e = absurd (not_absent closed.entries place rows m e)
get_at closed place rows s m (Some r) e =
    ap Some (one_entry closed.entries s place r rows (found_in closed.entries place r e) m)

-- what is in the map holds
closed_holds : (w : World) (more : List Fact) (closed : Pending) → AreChanged w more closed None → (place : StreamDay) (rows : Rows)
    → Member (place, rows) closed.entries → Holds w more place rows
closed_holds w more closed a place rows m = a.each place rows (get_at closed place rows a.ordered m _ refl) tt

-- the row of a version has its update and its length
under_one : (stream : Stream) (day : ℕ) (key : Key) (reading : ReadingValue) (row : ℕ × Version)
    → VersionIs key reading ≡ row_fact stream day row → (row.1.update ≡ key.update) × (row.1.length ≡ key.length)
under_one stream day key reading row e =
    let own : Key = key_at stream day row.1.length row.0 row.1.update in
    let same : own ≡ key = cc in
    (ap (λ (k : Key). k.update) same, ap (λ (k : Key). k.length) same)

-- in a lawful World each head has a version of its update, which is a row, and each row has a head
module _ (w : World) (more : List Fact) (place : StreamDay) (rows : Rows) (lawful : IsLawful (union w (set.from_list more)))
    (h : Holds w more place rows) where
  known_in : (f : Fact) → f ∈ union w (set.from_list more) → (f ∈ w) ⊎ Member f more
  known_in f k = elim (in_union w (set.from_list more) f k) [ inl x ↦ inl x | inr x ↦ inr (in_list more f x) ]

  in_known : (f : Fact) → (f ∈ w) ⊎ Member f more → f ∈ union w (set.from_list more)
  in_known f k = elim k [
    | inl x ↦ union_left w (set.from_list more) f x
    | inr x ↦ union_right w (set.from_list more) f (list_in more f x)
  ]

  day_whole : (f : Fact) → IsOn place.stream place.day f → f ∈ union w (set.from_list more) → f ∈ book_world (rows_book place rows)
  day_whole (HeadIs x) on k =
      let unit = h.heads x on (known_in (HeadIs x) k) in
      let v = lawful.closed.versioned x k in
      let key : Key = key_under x v.0 in
      let r = in_map (row_fact place.stream place.day) (rows_of rows.rows) (VersionIs key v.1)
      (h.versions key v.1 on (known_in (VersionIs key v.1) v.2)) in
      let under = under_one place.stream place.day key v.1 r.0 r.2 in
      subst (λ y. HeadIs y ∈ book_world (rows_book place rows))
      (λ i. head_at (sym on.0 i) (sym on.1 i) (under.0 i) (under.1 i) x.unit)
      (head_in_book (rows_book place rows) r.0 r.1 x.unit unit)
  day_whole (VersionIs key reading) on k =
      list_in (book_facts (rows_book place rows)) (VersionIs key reading)
      (append_right (VersionIs key reading) (head_facts place.stream place.day rows.unit (rows_of rows.rows)) _
      (h.versions key reading on (known_in (VersionIs key reading) k)))
  day_whole (DetailIs detail) on k = absurd on
  day_whole (EventIs event) on k = absurd on
  day_whole (PeriodIs key content) on k = absurd on
  day_whole (HolidayIs date) on k = absurd on
  day_whole (JobIs id content count) on k = absurd on

  -- the head of a row
  row_headed : (unit : MeasureUnit) → rows.unit ≡ Some unit → (row : ℕ × Version) → Member row (rows_of rows.rows)
      → row_head place.stream place.day unit row ∈ union w (set.from_list more)
  row_headed unit e row m =
      let version = in_known _ (h.only _ (map_in (row_fact place.stream place.day) (rows_of rows.rows) row m)) in
      let g = lawful.closed.headed _ _ version in
      let other = h.heads _ (refl, refl) (known_in _ g.1) in
      let same : g.0 ≡ unit = one_unit g.0 unit rows.unit other e in
      subst (λ u. row_head place.stream place.day u row ∈ union w (set.from_list more)) same g.1
    where
      one_unit : (a b : MeasureUnit) (o : Option MeasureUnit) → o ≡ Some a → o ≡ Some b → a ≡ b
      one_unit a b o d e = let s : Some a ≡ Some b = sym d ∙ e in cc

  day_only : (f : Fact) → f ∈ book_world (rows_book place rows) → f ∈ union w (set.from_list more)
  day_only f k = elim (from_book (rows_book place rows) f k) [
    | inl a ↦
        let r = member_head place.stream place.day rows.unit (rows_of rows.rows) f a in
        subst (λ x. x ∈ union w (set.from_list more)) (sym r.4) (row_headed r.0 r.1 r.2 r.3)
    | inr b ↦
        in_known f (h.only f (subst (λ x. Member x (map (row_fact place.stream place.day) (rows_of rows.rows))) (sym b.2)
        (map_in (row_fact place.stream place.day) (rows_of rows.rows) b.0 b.1)))
  ]

changed_day : (w : World) (more : List Fact) (closed : Pending) → IsLawful (union w (set.from_list more)) → AreChanged w more closed None
    → (place : StreamDay) (rows : Rows) → Member (place, rows) closed.entries
    → IsDay (union w (set.from_list more)) (rows_book place rows)
changed_day w more closed lawful a place rows m =
    let h = closed_holds w more closed a place rows m in
    record { whole = day_whole w more place rows lawful h; only = day_only w more place rows lawful h }

pub changed_lawful : (w : World) (more : List Fact) (closed : Pending) → IsLawful (union w (set.from_list more))
    → AreChanged w more closed None → AreLawfulDays closed
changed_lawful w more closed lawful a =
    λ place rows m. (union w (set.from_list more), lawful, changed_day w more closed lawful a place rows m)

pub changed_end : (w : World) (more : List Fact) (closed : Pending) (books : BTreeMap StreamDay BookValue)
    → IsLawful (union w (set.from_list more)) → AreChanged w more closed None → AreBooks closed books
    → IsChange w (set.from_list more) books
changed_end w more closed books lawful a b = record {
  each = λ place book m f on.
      let r = b.each place book m in
      let d = changed_day w more closed lawful a place r.0 r.1 in (
        (λ k. d.only f (subst (λ x. f ∈ x) r.2 k)),
        (λ k. subst (λ x. f ∈ x) (sym r.2) (d.whole f on k)),
      );
  all = λ f k.
      let r = a.all f (in_list more f k) in
      let s : IsSome (get place_cmp closed r.0) = elim r.2 [ inl s ↦ s | inr z ↦ absurd z ] in
      let t = there (get place_cmp closed r.0) s in
      let book = b.all r.0 t.0 (found_in closed.entries r.0 t.0 t.1) in
      (r.0, book.0, book.1, r.1);
}

day_holds : (w : World) (place : StreamDay) (rows : Rows) → IsDay w (rows_book place rows) → Holds w [] place rows
day_holds w place rows d = record {
  heads = λ head on k. elim k [
    | inl a ↦ (head_of_book (rows_book place rows) head (d.whole (HeadIs head) on a)).2
    | inr z ↦ absurd z
  ];
  versions = λ key reading on k. elim k [
    | inl a ↦ elim (from_book (rows_book place rows) (VersionIs key reading) (d.whole (VersionIs key reading) on a)) [
      | inl m ↦
          let r = member_head place.stream place.day rows.unit (rows_of rows.rows) (VersionIs key reading) m in
          absurd (not_head key reading (head_at place.stream place.day r.2.1.update r.2.1.length r.0) r.4)
      | inr m ↦
          subst (λ f. Member f (map (row_fact place.stream place.day) (rows_of rows.rows))) (sym m.2)
          (map_in (row_fact place.stream place.day) (rows_of rows.rows) m.0 m.1)
    ]
    | inr z ↦ absurd z
  ];
  only = λ f m. inl (d.only f (list_in (book_facts (rows_book place rows)) f
      (append_right f (head_facts place.stream place.day rows.unit (rows_of rows.rows)) _ m)));
}

-- what is kept of a day, copied
pub holds_kept : (days : BTreeMap StreamDay BookValue) (place : StreamDay) (book : BookValue) (rows : Rows)
    → AreOfTheirDays days → lookup (is_at (place_cmp place)) days.entries ≡ Some book → rows.unit ≡ book.unit
    → rows_of rows.rows ≡ book.rows → Holds (days_world days) [] place rows
holds_kept days place book rows t e h v =
    let at = day_there days place book t e in
    let same : book ≡ rows_book place rows =
    λ i. record { stream = at.0 i; day = at.1 i; unit = sym h i; rows = sym v i } in
    day_holds (days_world days) place rows (subst (IsDay (days_world days)) same (day_found days place book t e))

pub holds_none : (days : BTreeMap StreamDay BookValue) (place : StreamDay) (rows : Rows) → AreOfTheirDays days
    → lookup (is_at (place_cmp place)) days.entries ≡ None → rows.unit ≡ None → rows_of rows.rows ≡ []
    → Holds (days_world days) [] place rows
holds_none days place rows t e h v =
    let empty : book_world (rows_book place rows) ≡ set.empty =
    λ i. book_world (record { stream = place.stream; day = place.day; unit = h i; rows = v i }) in
    day_holds (days_world days) place rows (day_unknown days place (rows_book place rows) t e (refl, refl) empty)

-- Some of the days have become books: which are left, and the books.
pub record AreMaking (closed : Pending) (left : List (StreamDay × Rows)) (books : BTreeMap StreamDay BookValue) : Type 0 where
  pub each : (place : StreamDay) (book : BookValue) → Member (place, book) books.entries
      → (rows : Rows) × Member (place, rows) closed.entries × (book_world book ≡ book_world (rows_book place rows))
  pub all : (place : StreamDay) (rows : Rows) → Member (place, rows) closed.entries
      → Member (place, rows) left ⊎ ((book : BookValue) × Member (place, book) books.entries)
  pub some : (e : StreamDay × Rows) → Member e left → Member e closed.entries
  pub theirs : AreOfTheirDays books

pub making_start : (closed : Pending) (left : List (StreamDay × Rows)) (books : BTreeMap StreamDay BookValue)
    → left ≡ closed.entries → books.entries ≡ [] → IsOrdered place_cmp books → AreMaking closed left books
making_start closed left books l e o = record {
  each = λ place book m. absurd (subst (λ es. Member (place, book) es) e m);
  all = λ place rows m. inl (subst (λ es. Member (place, rows) es) (sym l) m);
  some = λ x m. subst (λ es. Member x es) l m;
  theirs = record {
    theirs = λ place book m. absurd (subst (λ es. Member (place, book) es) e m);
    early = λ place book m. absurd (subst (λ es. Member (place, book) es) e m);
    ordered = o;
  };
}

pub making_lawful : (closed : Pending) (left rest : List (StreamDay × Rows)) (books : BTreeMap StreamDay BookValue)
    (place : StreamDay) (rows : Rows) → AreLawfulDays closed → AreMaking closed left books → left ≡ (place, rows) ∷ rest
    → ((w : World) → IsLawful w → IsDay w (rows_book place rows) → ⊥) → ⊥
making_lawful closed left rest books place rows lawful a l none =
    let w = lawful place rows (a.some (place, rows) (subst (λ es. Member (place, rows) es) (sym l) (inl refl))) in
    none w.0 w.1 w.2

pub making_step : (closed : Pending) (left rest : List (StreamDay × Rows)) (books new : BTreeMap StreamDay BookValue)
    (place : StreamDay) (rows : Rows) (book : BookValue) → AreMaking closed left books → left ≡ (place, rows) ∷ rest
    → new.entries ≡ insert_entry place_cmp books.entries place book → IsOrdered place_cmp new
    → (book.stream ≡ place.stream) × (book.day ≡ place.day) → place.day ≤ last_number
    → book_world book ≡ book_world (rows_book place rows) → AreMaking closed rest new
making_step closed left rest books new place rows book a l e o at low w =
    let here : Member (place, rows) closed.entries =
    a.some (place, rows) (subst (λ es. Member (place, rows) es) (sym l) (inl refl)) in
    let put : Member (place, book) new.entries =
    subst (λ es. Member (place, book) es) (sym e) (insert_here books.entries place book) in
    let only : (x : StreamDay × BookValue) → Member x new.entries → (x ≡ (place, book)) ⊎ Member x books.entries = λ x m.
    insert_only books.entries place book x (subst (λ es. Member x es) e m) in
    record {
      each = λ p b m. elim (only (p, b) m) [
        | inl q ↦ (
          rows,
          subst (λ k. Member (k, rows) closed.entries) (ap (λ x. x.0) (sym q)) here,
          ap (λ x. book_world x.1) q ∙ w ∙ ap (λ k. book_world (rows_book k rows)) (ap (λ x. x.0) (sym q)),
        )
        | inr n ↦ a.each p b n
      ];
      all = λ p r m. elim (a.all p r m) [
        | inl n ↦ elim (subst (λ es. Member (p, r) es) l n) [
          | inl q ↦ inr (book, subst (λ k. Member (k, book) new.entries) (ap (λ x. x.0) (sym q)) put)
          | inr x ↦ inl x
        ]
        | inr n ↦ elim (insert_other books.entries place book (p, n.0) n.1) [
          | inl x ↦ inr (n.0, subst (λ es. Member (p, n.0) es) (sym e) x)
          | inr q ↦ inr (book, subst (λ k. Member (k, book) new.entries) (sym q) put)
        ]
      ];
      some = λ x m. a.some x (subst (λ es. Member x es) (sym l) (inr m));
      theirs = record {
        theirs = λ p b m. elim (only (p, b) m) [
          | inl q ↦ (ap (λ x. x.1.stream) q ∙ at.0 ∙ ap (λ x. x.0.stream) (sym q), ap (λ x. x.1.day) q ∙ at.1 ∙ ap (λ x. x.0.day) (sym q))
          | inr n ↦ a.theirs.theirs p b n
        ];
        early = λ p b m. elim (only (p, b) m) [
          | inl q ↦ subst (λ x. x.0.day ≤ last_number) (sym q) low
          | inr n ↦ a.theirs.early p b n
        ];
        ordered = o;
      };
    }

pub making_end : (closed : Pending) (left : List (StreamDay × Rows)) (books : BTreeMap StreamDay BookValue)
    → AreMaking closed left books → left ≡ [] → AreOfTheirDays books × AreBooks closed books
making_end closed left books a l = (
  a.theirs,
  record {
    each = a.each;
    all = λ p r m. elim (a.all p r m) [
      | inl n ↦ absurd (subst (λ es. Member (p, r) es) l n)
      | inr n ↦ n
    ];
  },
)

push_on : {A : Type 0} (ys : List A) (x : A) (s : List A) → (ys ++ x ∷ []) ++ s ≡ ys ++ x ∷ s
push_on [] x s = refl
push_on (y ∷ ys) x s = ap (λ l. y ∷ l) (push_on ys x s)

map_push : {A B : Type 0} (f : A → B) (xs : List A) (x : A) → map f (xs ++ x ∷ []) ≡ map f xs ++ f x ∷ []
map_push f [] x = refl
map_push f (y ∷ ys) x = ap (λ l. f y ∷ l) (map_push f ys x)

pub split_step : {A : Type 0} (ys r s xs : List A) (x : A) → ys ++ r ≡ xs → r ≡ x ∷ s → (ys ++ x ∷ []) ++ s ≡ xs
split_step ys r s xs x e f = push_on ys x s ∙ ap (λ l. ys ++ l) (sym f) ∙ e

taken_in : {A : Type 0} (xs : List A) (n : ℕ) (x : A) → Member x (take n xs) → Member x xs
taken_in xs n x m = subst (λ l. Member x l) (take-append-drop n xs) (append_left x (take n xs) (drop n xs) m)

take_next : {A : Type 0} (xs : List A) (n : ℕ) (x : A) → slice_get xs n ≡ Some x → take (n + 1) xs ≡ take n xs ++ x ∷ []
take_next xs n x e =
    take_more xs n x (slice_get_within xs n x e) ∙ ap (λ y. take n xs ++ y ∷ []) (get_or_from_slice_get xs n x x e)

-- what is put so far is among all that is added
among : (heads : List Head) (n : ℕ) (days yielded rest : List DayVersions) → yielded ++ rest ≡ days → (f : Fact)
    → Member f (map HeadIs (take n heads) ++ map version_fact (versions_of yielded))
    → Member f (map HeadIs heads ++ map version_fact (versions_of days))
among heads n days yielded rest split f m = elim (member_append f (map HeadIs (take n heads)) _ m) [
  | inl a ↦ let r = in_map HeadIs (take n heads) f a in
      append_left f (map HeadIs heads) _ (subst (λ x. Member x (map HeadIs heads)) (sym r.2) (map_in HeadIs heads r.0 (taken_in heads n r.0 r.1)))
  | inr b ↦ append_right f (map HeadIs heads) _ (subst (λ l. Member f (map version_fact (versions_of l))) split
      (subst (λ l. Member f l) (sym (ap (map version_fact) (flat_map-append day_versions yielded rest)
      ∙ map-append version_fact (versions_of yielded) (versions_of rest)))
      (append_left f (map version_fact (versions_of yielded)) _ b)))
]

-- the next head is put into the day in hand
pub head_put : (w : World) (heads : List Head) (days yielded rest : List DayVersions) (n : ℕ) (head : Head) (closed : Pending)
    (hand new : InHand) → IsLawful (union w (set.from_list (map HeadIs heads ++ map version_fact (versions_of days))))
    → yielded ++ rest ≡ days → slice_get heads n ≡ Some head → hand.place ≡ record { stream = head.stream; day = head.day }
    → AreChanged w (map HeadIs (take n heads) ++ map version_fact (versions_of yielded)) closed (Some hand) → new.place ≡ hand.place
    → new.rows.unit ≡ Some head.unit → new.rows.rows ≡ hand.rows.rows
    → AreChanged w (map HeadIs (take (n + 1) heads) ++ map version_fact (versions_of yielded)) closed (Some new)
head_put w heads days yielded rest n head closed hand new lawful split is at a p h v =
    let place : StreamDay = record { stream = head.stream; day = head.day } in
    let all : List Fact = map HeadIs heads ++ map version_fact (versions_of days) in
    let front : List Fact = map HeadIs (take n heads) in
    let rows : List Fact = map version_fact (versions_of yielded) in
    let same : map HeadIs (take (n + 1) heads) ≡ front ++ HeadIs head ∷ [] =
    ap (map HeadIs) (take_next heads n head is) ∙ map_push HeadIs (take n heads) head in
    let known : (f : Fact) → (f ∈ w) ⊎ Member f (front ++ rows) → f ∈ union w (set.from_list all) = λ f k. elim k [
      | inl i ↦ union_left w _ f i
      | inr m ↦ union_right w _ f (list_in all f (among heads n days yielded rest split f m))
    ] in
    let here : HeadIs head ∈ union w (set.from_list all) =
    union_right w _ (HeadIs head) (list_in all (HeadIs head) (append_left (HeadIs head) (map HeadIs heads) _
    (map_in HeadIs heads head (taken_in heads (n + 1) head (subst (λ l. Member head l) (sym (take_next heads n head is))
    (append_right head (take n heads) (head ∷ []) (inl refl))))))) in
    let one : (x : Head) → (HeadIs x ∈ w) ⊎ Member (HeadIs x) (front ++ rows) → x.stream ≡ head.stream → x.day ≡ head.day
    → x.unit ≡ head.unit =
    λ x k s d. lawful.agrees.one_unit x head (known (HeadIs x) k) here s d in
    let holds : Holds w ((front ++ rows) ++ HeadIs head ∷ []) place new.rows =
    holds_head w (front ++ rows) head hand.rows new.rows one h v (subst (λ k. Holds w (front ++ rows) k hand.rows) at a.hand) in
    let on : (f : Fact) → Member f (HeadIs head ∷ []) → IsOn hand.place.stream hand.place.day f = λ f m. elim m [
      | inl s ↦ subst (IsOn hand.place.stream hand.place.day) (sym s)
          (subst (λ (k : StreamDay). IsOn k.stream k.day (HeadIs head)) (sym at) (refl, refl))
      | inr z ↦ absurd z
    ] in
    subst (λ l. AreChanged w (l ++ rows) closed (Some new)) (sym same)
    (changed_same w ((front ++ rows) ++ HeadIs head ∷ []) ((front ++ HeadIs head ∷ []) ++ rows) closed new
    (swapped front rows (HeadIs head ∷ [])) (swapped front (HeadIs head ∷ []) rows)
    (changed_push w (front ++ rows) (HeadIs head ∷ []) closed hand new a p on
    (subst (λ k. Holds w ((front ++ rows) ++ HeadIs head ∷ []) k new.rows) (sym at) holds)))

-- the facts of one more day
day_push : (yielded : List DayVersions) (day : DayVersions)
    → map version_fact (versions_of (yielded ++ day ∷ []))
    ≡ map version_fact (versions_of yielded) ++ map (row_fact day.stream day.day) (rows_of day.rows)
day_push yielded day =
    ap (map version_fact) (flat_map-append day_versions yielded (day ∷ []) ∙ ap (λ l. versions_of yielded ++ l) (append-nil (day_versions day)))
    ∙ map-append version_fact (versions_of yielded) (day_versions day)
    ∙ ap (λ l. map version_fact (versions_of yielded) ++ l) (map-map version_fact (version_at day.stream day.day) (rows_of day.rows))

-- versions are put into the day in hand
versions_pushed : (w : World) (front : List Fact) (yielded : List DayVersions) (day : DayVersions) (closed : Pending) (hand new : InHand)
    → hand.place ≡ record { stream = day.stream; day = day.day }
    → AreChanged w (front ++ map version_fact (versions_of yielded)) closed (Some hand) → new.place ≡ hand.place
    → new.rows.unit ≡ hand.rows.unit → rows_of new.rows.rows ≡ rows_of hand.rows.rows ++ rows_of day.rows
    → AreChanged w (front ++ map version_fact (versions_of (yielded ++ day ∷ []))) closed (Some new)
versions_pushed w front yielded day closed hand new at a p h v =
    let more : List Fact = front ++ map version_fact (versions_of yielded) in
    let place : StreamDay = record { stream = day.stream; day = day.day } in
    let facts : List Fact = map (row_fact day.stream day.day) (rows_of day.rows) in
    let holds : Holds w (more ++ facts) place new.rows =
    holds_versions w more place (rows_of day.rows) hand.rows new.rows h v (subst (λ k. Holds w more k hand.rows) at a.hand) in
    let on : (f : Fact) → Member f facts → IsOn hand.place.stream hand.place.day f = λ f m.
    let r = in_map (row_fact day.stream day.day) (rows_of day.rows) f m in
    subst (IsOn hand.place.stream hand.place.day) (sym r.2)
    (subst (λ (k : StreamDay). IsOn k.stream k.day (row_fact day.stream day.day r.0)) (sym at) (refl, refl)) in
    let same : more ++ facts ≡ front ++ map version_fact (versions_of (yielded ++ day ∷ [])) =
    append_assoc front (map version_fact (versions_of yielded)) facts ∙ ap (λ l. front ++ l) (sym (day_push yielded day)) in
    subst (λ l. AreChanged w l closed (Some new)) same
    (changed_push w more facts closed hand new a p on (subst (λ k. Holds w (more ++ facts) k new.rows) (sym at) holds))

-- a day's versions are put into the day in hand, behind the next head where that is the day's
pub day_put : (w : World) (heads : List Head) (days yielded rest : List DayVersions) (n m : ℕ) (day : DayVersions) (closed : Pending)
    (hand : InHand) (headed : Rows) (new : InHand)
    → IsLawful (union w (set.from_list (map HeadIs heads ++ map version_fact (versions_of days))))
    → yielded ++ day ∷ rest ≡ days → hand.place ≡ record { stream = day.stream; day = day.day }
    → AreChanged w (map HeadIs (take n heads) ++ map version_fact (versions_of yielded)) closed (Some hand)
    → GetsHead heads n (record { stream = day.stream; day = day.day }) hand.rows headed m → new.place ≡ hand.place
    → new.rows.unit ≡ headed.unit → rows_of new.rows.rows ≡ rows_of headed.rows ++ rows_of day.rows
    → AreChanged w (map HeadIs (take m heads) ++ map version_fact (versions_of (yielded ++ day ∷ []))) closed (Some new)
day_put w heads days yielded rest n m day closed hand headed new lawful split at a g p h v =
    let mid : InHand = record { place = hand.place; rows = headed } in
    let now : ℕ → InHand → Type 0 = λ k x. AreChanged w (map HeadIs (take k heads) ++ map version_fact (versions_of yielded)) closed (Some x) in
    let b : now m mid = elim g [
      | inl s ↦ subst (λ k. now k mid) (sym s.1) (subst (λ r. now n (record { place = hand.place; rows = r })) (sym s.0) a)
      | inr s ↦ subst (λ k. now k mid) (sym s.5)
          (head_put w heads days yielded (day ∷ rest) n s.0 closed hand mid lawful split s.1 (at ∙ s.2) a refl s.3 s.4)
    ] in
    versions_pushed w (map HeadIs (take m heads)) yielded day closed mid new at b p h v

-- where all heads are put
pub changed_all : (w : World) (heads : List Head) (n : ℕ) (days : List DayVersions) (closed : Pending) (hand now : Option InHand)
    → length heads ≤ n → hand ≡ now
    → AreChanged w (map HeadIs (take n heads) ++ map version_fact (versions_of days)) closed hand
    → AreChanged w (map HeadIs heads ++ map version_fact (versions_of days)) closed now
changed_all w heads n days closed hand now ends at a =
    subst (λ h. AreChanged w (map HeadIs heads ++ map version_fact (versions_of days)) closed h) at
    (subst (λ l. AreChanged w (map HeadIs l ++ map version_fact (versions_of days)) closed hand) (take_all n heads ends) a)
