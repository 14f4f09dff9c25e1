-- The known streams of a keeper in memory, ascending.
use Rattle.std.proofs.Common.{◌≡◌, ◌<◌, ◌≤◌, ◌+◌, ◌-◌, ℕ, zero, suc, List, [], ◌∷◌, ◌++◌, length, refl, sym, ap, ◌∙◌, subst, inl, inr, arith}
use Rattle.std.specs.Prelude.{◌⊎◌, ◌↔◌, Bool, Option, Some, None, true, false, is_some, slice_index_or, take, drop, get_or}
use Rattle.std.specs.BTreeMap.{IsOrdered}
use Rattle.std.specs.BTreeSet.{BTreeSet}
use Rattle.std.specs.List.{AllPairs}
use Rattle.std.specs.Map.{keys_of}
use Rattle.std.specs.Ordering.{is_gt, ordering_reverse}
use Rattle.std.specs.declared.cmp.Ordering.{Ordering}
use Rattle.std.specs.declared.cmp.Ordering.TheVariants.{Less, Equal, Greater}
use Rattle.std.proofs.lemmas.List.{take_all}
use Rattle.mds_quantity.specs.declared.unit.Unit.{Unit as MeasureUnit}
use Rattle.mds_names.specs.declared.stream.Stream.{Stream}
use Rattle.mds_world.specs.declared.facts.Head.{Head}
use Rattle.mds_world.specs.declared.facts.StreamDay.{StreamDay}
use Rattle.mds_world.specs.Facts.{Fact, PeriodContent, head_at}
use Rattle.mds_statements.specs.declared.periods.PeriodKey.{PeriodKey}
use Rattle.mds_world.specs.Facts.Fact.{HeadIs}
use Rattle.mds_world.proofs.Lists.{append_left, append_right, in_map, member_append}
use Rattle.mds_world.specs.Lists.{Member}
use Rattle.mds_keeper.specs.BookRows.{IsFormOfRows, unit_of}
use Rattle.mds_keeper.specs.Books.{BookValue, book_facts, head_facts, row_fact}
use Rattle.mds_keeper.specs.Queries.{AreKnownStreams, stream_cmp}
use Rattle.mds_memory.specs.Stored.{AreHeadStreams, AreOfTheirDays, ArePeriodStreams, days_world, says_head, is_headed, key_cmp, periods_world, place_cmp, stored_world}
use Rattle.mds_memory.specs.StoredNotes.{IsAtEnd, PutsLast}
use Rattle.mds_keeper.specs.declared.day_book.Version.{Version}
use Rattle.mds_memory.specs.declared.stored_notes.Note.{Note}
use Rattle.mds_memory.proofs.Ascending as up
use Rattle.mds_memory.proofs.Ascending.{Ascends}
use Rattle.mds_memory.proofs.LastStreams.{at_last, ends_at, get_member, less_or_tied}
use Rattle.mds_memory.proofs.FirstNotes.{first_not_gt, less_not_gt}
use Rattle.mds_memory.proofs.Kept.{days_in_whole, of_days, of_periods, periods_in_whole}
use Rattle.mds_memory.proofs.Places.{stream_exact, stream_total}
use Rattle.mds_memory.proofs.Runs.{across_push, entries_ascend, nothing_left}
use Rattle.mds_memory.proofs.StoredDays.{Kept, days_in, fact_on, in_days}
use Rattle.mds_memory.proofs.StoredDetails.{Meters}
use Rattle.mds_memory.proofs.StoredJobs.{Jobs}
use Rattle.mds_memory.proofs.StoredPeriods.{Periods, Place, kept_at, periods_in}

-- a stream is put down in its place
pub record IsPut (x : Stream) (old new : List Stream) : Type 0 where
  pub ascends : Ascends stream_cmp new
  pub only : (s : Stream) → Member s new → Member s old ⊎ (s ≡ x)
  pub kept : (s : Stream) → Member s old → Member s new
  pub there : Member x new

put_last : (x : Stream) (old new : List Stream) → Ascends stream_cmp old
    → ((s : Stream) → Member s old → is_gt (stream_cmp s x) ≡ false) → PutsLast x old new → IsPut x old new
put_last x old new a upto (inl p) = record {
  ascends = subst (Ascends stream_cmp) (sym p.1) a;
  only = λ s m. inl (subst (Member s) p.1 m);
  kept = λ s m. subst (Member s) (sym p.1) m;
  there = subst (Member x) (sym p.1) (get_member x old _ p.0);
}
put_last x old new a upto (inr p) = record {
  ascends = subst (Ascends stream_cmp) (sym p.1) (up.push stream_cmp old x a (λ s m. elim (less_or_tied (stream_cmp s x) (upto s m)) [
    | inl l ↦ l
    | inr t ↦
        let same : s ≡ x = stream_exact s x t in
        let r = ends_at x old a (subst (λ y. Member y old) same m) upto in
        absurd (p.0 (subst (IsAtEnd x) (sym r.1) (at_last x r.0)))
  ]));
  only = λ s m. elim (member_append s old (x ∷ []) (subst (Member s) p.1 m)) [
    | inl n ↦ inl n
    | inr n ↦ elim n [ inl e ↦ inr e | inr z ↦ absurd z ]
  ];
  kept = λ s m. subst (Member s) (sym p.1) (append_left s old (x ∷ []) m);
  there = subst (Member x) (sym p.1) (append_right x old (x ∷ []) (inl refl));
}

-- ---- a run through entries that puts down the streams of those that count

module _ {E : Type 0} (stream_of : E → Stream) (counts : E → Bool) where
  -- one of the list counts, and is of the stream
  abbrev pub HasOne : List E → Stream → Type 0
  HasOne seen stream = (e : E) × Member e seen × (stream_of e ≡ stream) × (counts e ≡ true)

  longer : (seen : List E) (x : E) (s : Stream) → HasOne seen s → HasOne (seen ++ x ∷ []) s
  longer seen x s h = (h.0, append_left h.0 seen (x ∷ []) h.1, h.2, h.3)

  shorter : (seen : List E) (x : E) (s : Stream) → HasOne (seen ++ x ∷ []) s
      → HasOne seen s ⊎ ((stream_of x ≡ s) × (counts x ≡ true))
  shorter seen x s h = elim (member_append h.0 seen (x ∷ []) h.1) [
    | inl m ↦ inl (h.0, m, h.2, h.3)
    | inr m ↦ elim m [
      | inl e ↦ inr (ap stream_of (sym e) ∙ h.2, ap counts (sym e) ∙ h.3)
      | inr z ↦ absurd z
    ]
  ]

  pub record IsStreamRun (all : List E) (streams : List Stream) (left : List E) : Type 0 where
    pub seen : List E
    pub run : seen ++ left ≡ all
    pub come : (s : Stream) → Member s streams → HasOne seen s
    pub there : (s : Stream) → HasOne seen s → Member s streams
    pub ascends : Ascends stream_cmp streams

  pub begin : (all left : List E) (streams : List Stream) → streams ≡ [] → left ≡ all → IsStreamRun all streams left
  begin all left streams none whole = record {
    seen = [];
    run = whole;
    come = λ s m. absurd (subst (Member s) none m);
    there = λ s h. absurd h.1;
    ascends = subst (Ascends stream_cmp) (sym none) tt;
  }

  -- the next one doesn't count
  pub pass : (all left rest : List E) (streams : List Stream) (x : E) → IsStreamRun all streams left → left ≡ x ∷ rest
      → false ≡ counts x → IsStreamRun all streams rest
  pass all left rest streams x so next none = record {
    seen = so.seen ++ x ∷ [];
    run = across_push so.seen x rest ∙ ap (λ es. so.seen ++ es) (sym next) ∙ so.run;
    come = λ s m. longer so.seen x s (so.come s m);
    there = λ s h. elim (shorter so.seen x s h) [
      | inl b ↦ so.there s b
      | inr p ↦ let q = p.1 in cc
    ];
    ascends = so.ascends;
  }

  -- the next one counts
  pub put : (order : E → E → Ordering)
      → ((e f : E) → order e f ≡ Less → is_gt (stream_cmp (stream_of e) (stream_of f)) ≡ false)
      → (all left rest : List E) (old new : List Stream) (x : E) → Ascends order all → IsStreamRun all old left
      → left ≡ x ∷ rest → true ≡ counts x → PutsLast (stream_of x) old new → IsStreamRun all new rest
  put order coarse all left rest old new x rise so next some puts =
      let whole : so.seen ++ x ∷ rest ≡ all = ap (λ es. so.seen ++ es) (sym next) ∙ so.run in
      let a : Ascends order (so.seen ++ x ∷ rest) = subst (Ascends order) (sym whole) rise in
      let upto : (s : Stream) → Member s old → is_gt (stream_cmp s (stream_of x)) ≡ false = (λ s m.
      let h = so.come s m in
      subst (λ y. is_gt (stream_cmp y (stream_of x)) ≡ false) h.2
      (coarse h.0 x (up.across order so.seen (x ∷ rest) a h.0 x h.1 (inl refl)))) in
      let put = put_last (stream_of x) old new so.ascends upto puts in
      let here : HasOne (so.seen ++ x ∷ []) (stream_of x) =
      (x, append_right x so.seen (x ∷ []) (inl refl), refl, sym some) in
      record {
        seen = so.seen ++ x ∷ [];
        run = across_push so.seen x rest ∙ whole;
        come = λ s m. elim (put.only s m) [
          | inl n ↦ longer so.seen x s (so.come s n)
          | inr e ↦ subst (HasOne (so.seen ++ x ∷ [])) (sym e) here
        ];
        there = λ s h. elim (shorter so.seen x s h) [
          | inl b ↦ put.kept s (so.there s b)
          | inr p ↦ subst (λ y. Member y new) p.0 put.there
        ];
        ascends = put.ascends;
      }

  -- at the end just the streams of those that count are put down
  pub all_put : (all left : List E) (streams : List Stream) → IsStreamRun all streams left → left ≡ []
      → (s : Stream) → Member s streams ↔ HasOne all s
  all_put all left streams so e =
      let whole : so.seen ≡ all = sym (nothing_left so.seen left e) ∙ so.run in
      λ s. (
        (λ m. subst (λ es. HasOne es s) whole (so.come s m)),
        (λ h. so.there s (subst (λ es. HasOne es s) (sym whole) h)),
      )

-- ---- the streams that have a head

abbrev stream_at : StreamDay × BookValue → Stream
stream_at e = e.0.stream

abbrev is_known : StreamDay × BookValue → Bool
is_known e = is_headed e.1

abbrev pub IsHeadRun : Kept → List Stream → List (StreamDay × BookValue) → Type 0
IsHeadRun days streams left = IsStreamRun stream_at is_known days.entries streams left

pub heads_begin : (days : Kept) (streams : List Stream) (left : List (StreamDay × BookValue)) → streams ≡ []
    → left ≡ days.entries → IsHeadRun days streams left
heads_begin days streams left none all = begin stream_at is_known days.entries left streams none all

pub without_head : (days : Kept) (streams : List Stream) (left rest : List (StreamDay × BookValue)) (place : StreamDay)
    (book : BookValue) → IsHeadRun days streams left → left ≡ (place, book) ∷ rest → false ≡ is_headed book
    → IsHeadRun days streams rest
without_head days streams left rest place book so next none =
    pass stream_at is_known days.entries left rest streams (place, book) so next none

pub with_head : (days : Kept) (old new : List Stream) (left rest : List (StreamDay × BookValue)) (place : StreamDay)
    (book : BookValue) → IsOrdered place_cmp days → IsHeadRun days old left → left ≡ (place, book) ∷ rest
    → true ≡ is_headed book → PutsLast place.stream old new → IsHeadRun days new rest
with_head days old new left rest place book o so next some puts =
    put stream_at is_known (λ e f. place_cmp e.0 f.0)
    (λ e f below. first_not_gt (stream_cmp e.0.stream f.0.stream) _ (less_not_gt _ below))
    days.entries left rest old new (place, book)
    (entries_ascend place_cmp days.entries (up.from_sorted place_cmp (keys_of days.entries) o)) so next some puts

-- a day's form tells whether the book says a head
pub head_told : (book : BookValue) (form : Option (ℕ × MeasureUnit)) → unit_of form ≡ book.unit → IsFormOfRows form book.rows
    → is_some form ≡ is_headed book
head_told book form e is = by book.unit book.rows form e is
  where
    by : (unit : Option MeasureUnit) (rows : List (ℕ × Version)) (form : Option (ℕ × MeasureUnit)) → unit_of form ≡ unit
        → IsFormOfRows form rows → is_some form ≡ says_head unit rows
    by None rows None e is = refl
    by (Some unit) rows None e is = cc
    by unit [] (Some form) e is = absurd is.1
    by None (row ∷ rows) (Some form) e is = cc
    by (Some unit) (row ∷ rows) (Some form) e is = refl

pub head_there : (stream : Stream) (day : ℕ) (unit : Option MeasureUnit) (rows : List (ℕ × Version)) → says_head unit rows ≡ true
    → (h : Head) × Member (HeadIs h) (head_facts stream day unit rows) × (h.stream ≡ stream)
head_there stream day None rows e = cc
head_there stream day (Some unit) [] e = cc
head_there stream day (Some unit) (row ∷ rows) e = (head_at stream day row.1.update row.1.length unit, inl refl, refl)

some_head : (stream : Stream) (day : ℕ) (unit : Option MeasureUnit) (rows : List (ℕ × Version)) (f : Fact)
    → Member f (head_facts stream day unit rows) → says_head unit rows ≡ true
some_head stream day None rows f m = absurd m
some_head stream day (Some unit) [] f m = absurd m
some_head stream day (Some unit) (row ∷ rows) f m = refl

no_row : (stream : Stream) (day : ℕ) (h : Head) (row : ℕ × Version) → HeadIs h ≡ row_fact stream day row → ⊥
no_row stream day h row e = cc

pub has_head : (book : BookValue) (h : Head) → Member (HeadIs h) (book_facts book) → is_headed book ≡ true
has_head book h m = elim (member_append (HeadIs h) (head_facts book.stream book.day book.unit book.rows) _ m) [
  | inl a ↦ some_head book.stream book.day book.unit book.rows (HeadIs h) a
  | inr b ↦
      let r = in_map (row_fact book.stream book.day) book.rows (HeadIs h) b in
      absurd (no_row book.stream book.day h r.0 r.2)
]

pub heads_done : (days : Kept) (streams : List Stream) (left : List (StreamDay × BookValue)) → AreOfTheirDays days
    → IsHeadRun days streams left → left ≡ [] → AreHeadStreams (days_world days) streams
heads_done days streams left t so e =
    let all = all_put stream_at is_known days.entries left streams so e in
    record {
      each = λ s. (
        (λ m.
            let h = (all s).0 m in
            let r = head_there h.0.1.stream h.0.1.day h.0.1.unit h.0.1.rows h.3 in (
              r.0,
              days_in days (HeadIs r.0) h.0 h.1 (append_left (HeadIs r.0) _ _ r.1),
              r.2 ∙ (t.theirs h.0.0 h.0.1 h.1).0 ∙ h.2,
            )),
        (λ h.
            let d = in_days days (HeadIs h.0) h.1 in
            let on = fact_on d.0.1 (HeadIs h.0) d.2 in
            (all s).1 (
              d.0,
              d.1,
              sym (t.theirs d.0.0 d.0.1 d.1).0 ∙ sym on.0 ∙ h.2,
              has_head d.0.1 h.0 d.2,
            )),
      );
      ascending = up.pairs stream_cmp streams so.ascends;
    }

-- ---- the streams that have an accumulation

abbrev stream_of_key : Place → Stream
stream_of_key e = e.0.stream

abbrev is_kept : Place → Bool
is_kept e = is_some e.1

abbrev pub IsPeriodRun : Periods → List Stream → List Place → Type 0
IsPeriodRun periods streams left = IsStreamRun stream_of_key is_kept periods.entries streams left

pub without_content : (periods : Periods) (streams : List Stream) (left rest : List Place) (key : PeriodKey)
    (kept : Option PeriodContent) → IsPeriodRun periods streams left → left ≡ (key, kept) ∷ rest → false ≡ is_some kept
    → IsPeriodRun periods streams rest
without_content periods streams left rest key kept so next none =
    pass stream_of_key is_kept periods.entries left rest streams (key, kept) so next none

pub with_content : (periods : Periods) (old new : List Stream) (left rest : List Place) (key : PeriodKey)
    (kept : Option PeriodContent) → IsOrdered key_cmp periods → IsPeriodRun periods old left → left ≡ (key, kept) ∷ rest
    → true ≡ is_some kept → PutsLast key.stream old new → IsPeriodRun periods new rest
with_content periods old new left rest key kept o so next some puts =
    put stream_of_key is_kept (λ e f. key_cmp e.0 f.0)
    (λ e f below. first_not_gt (stream_cmp e.0.stream f.0.stream) _ (less_not_gt _ below))
    periods.entries left rest old new (key, kept)
    (entries_ascend key_cmp periods.entries (up.from_sorted key_cmp (keys_of periods.entries) o)) so next some puts

kept_there : (kept : Option PeriodContent) → is_some kept ≡ true → (content : PeriodContent) × (kept ≡ Some content)
kept_there None e = cc
kept_there (Some content) e = (content, refl)

pub period_streams_done : (periods : Periods) (streams : List Stream) (left : List Place) → IsPeriodRun periods streams left
    → left ≡ [] → ArePeriodStreams (periods_world periods) streams
period_streams_done periods streams left so e =
    let all = all_put stream_of_key is_kept periods.entries left streams so e in
    record {
      each = λ s. (
        (λ m.
            let h = (all s).0 m in
            let r = kept_there h.0.1 h.3 in
            (h.0.0, r.0, periods_in periods h.0.0 r.0 (subst (λ k. Member (h.0.0, k) periods.entries) r.1 h.1), h.2)),
        (λ h. (all s).1 ((h.0, Some h.1), kept_at periods h.0 h.1 h.2, h.3, refl)),
      );
      ascending = up.pairs stream_cmp streams so.ascends;
    }

-- ---- merging

-- Two ascending lists are merged: what is left of each, and what is put down.
pub record AreMerged (a b left_a left_b out : List Stream) : Type 0 where
  pub told : (s : Stream) → Member s out → Member s a ⊎ Member s b
  pub of_a : (s : Stream) → Member s left_a → Member s a
  pub of_b : (s : Stream) → Member s left_b → Member s b
  pub whole : (s : Stream) → Member s a ⊎ Member s b → Member s out ⊎ (Member s left_a ⊎ Member s left_b)
  pub ascends : Ascends stream_cmp out
  pub a_ascends : Ascends stream_cmp left_a
  pub b_ascends : Ascends stream_cmp left_b
  pub below : (x y : Stream) → Member x out → Member y left_a ⊎ Member y left_b → stream_cmp x y ≡ Less

other_way : {A B : Type 0} → A ⊎ B → B ⊎ A
other_way (inl a) = inr a
other_way (inr b) = inl b

swapped : (a b left_a left_b out : List Stream) → AreMerged a b left_a left_b out → AreMerged b a left_b left_a out
swapped a b left_a left_b out so = record {
  told = λ s m. other_way (so.told s m);
  of_a = so.of_b;
  of_b = so.of_a;
  whole = λ s m. elim (so.whole s (other_way m)) [ inl n ↦ inl n | inr n ↦ inr (other_way n) ];
  ascends = so.ascends;
  a_ascends = so.b_ascends;
  b_ascends = so.a_ascends;
  below = λ x y m n. so.below x y m (other_way n);
}

place_in : (ks : List Stream) (q : Stream) → Member q ks → (i : ℕ) × (i < length ks) × (slice_index_or ks i q ≡ q)
place_in [] q m = absurd m
place_in (k ∷ ks) q (inl e) = (zero, omega arith, sym e)
place_in (k ∷ ks) q (inr m) = let r = place_in ks q m in (suc r.0, omega (arith, r.1), r.2)

from_pairs : (ks : List Stream) → AllPairs (λ x y. stream_cmp x y ≡ Less) ks → Ascends stream_cmp ks
from_pairs [] h = tt
from_pairs (k ∷ ks) h = (
  (λ q m.
      let r = place_in ks q m in
      subst (λ y. stream_cmp k y ≡ Less) r.2 (h zero (suc r.0) q (omega arith) (omega (arith, r.1)))),
  from_pairs ks (λ i j d l m. h (suc i) (suc j) d (omega (arith, l)) (omega (arith, m))),
)

pub merge_start : (a b out : List Stream) → AllPairs (λ x y. stream_cmp x y ≡ Less) a
    → AllPairs (λ x y. stream_cmp x y ≡ Less) b → out ≡ [] → AreMerged a b a b out
merge_start a b out p q none = record {
  told = λ s m. absurd (subst (Member s) none m);
  of_a = λ s m. m;
  of_b = λ s m. m;
  whole = λ s m. inr m;
  ascends = subst (Ascends stream_cmp) (sym none) tt;
  a_ascends = from_pairs a p;
  b_ascends = from_pairs b q;
  below = λ x y m n. absurd (subst (Member x) none m);
}

-- the first of one list is put down, and of the other what isn't after it goes
put_first : (a b left_b rest_b out : List Stream) (x : Stream) (rest_a : List Stream)
    → AreMerged a b (x ∷ rest_a) left_b out → Ascends stream_cmp rest_b
    → ((s : Stream) → Member s rest_b → Member s left_b) → ((s : Stream) → Member s left_b → (s ≡ x) ⊎ Member s rest_b)
    → ((s : Stream) → Member s rest_b → stream_cmp x s ≡ Less) → AreMerged a b rest_a rest_b (out ++ x ∷ [])
put_first a b left_b rest_b out x rest_a so up_b sub rest after = record {
  told = λ s m. elim (member_append s out (x ∷ []) m) [
    | inl n ↦ so.told s n
    | inr n ↦ elim n [ inl e ↦ inl (so.of_a s (inl e)) | inr z ↦ absurd z ]
  ];
  of_a = λ s m. so.of_a s (inr m);
  of_b = λ s m. so.of_b s (sub s m);
  whole = λ s m. elim (so.whole s m) [
    | inl n ↦ inl (append_left s out (x ∷ []) n)
    | inr n ↦ elim n [
      | inl k ↦ elim k [ inl e ↦ inl (append_right s out (x ∷ []) (inl e)) | inr l ↦ inr (inl l) ]
      | inr k ↦ elim (rest s k) [ inl e ↦ inl (append_right s out (x ∷ []) (inl e)) | inr l ↦ inr (inr l) ]
    ]
  ];
  ascends = up.push stream_cmp out x so.ascends (λ q m. so.below q x m (inl (inl refl)));
  a_ascends = so.a_ascends.1;
  b_ascends = up_b;
  below = λ p q m n. elim (member_append p out (x ∷ []) m) [
    | inl k ↦ elim n [ inl l ↦ so.below p q k (inl (inr l)) | inr l ↦ so.below p q k (inr (sub q l)) ]
    | inr k ↦ elim k [
      | inl e ↦ subst (λ y. stream_cmp y q ≡ Less) (sym e) (elim n [ inl l ↦ so.a_ascends.0 q l | inr l ↦ after q l ])
      | inr z ↦ absurd z
    ]
  ];
}

after_first : (x y : Stream) (ys : List Stream) → Ascends stream_cmp (y ∷ ys) → stream_cmp x y ≡ Less → (s : Stream)
    → Member s (y ∷ ys) → stream_cmp x s ≡ Less
after_first x y ys a l s (inl e) = subst (λ z. stream_cmp x z ≡ Less) (sym e) l
after_first x y ys a l s (inr m) = stream_total.trans x y s l (a.0 s m)

pub merge_less : (a b left_a left_b out new : List Stream) (x y : Stream) (rest_a rest_b : List Stream)
    → AreMerged a b left_a left_b out → left_a ≡ x ∷ rest_a → left_b ≡ y ∷ rest_b → stream_cmp x y ≡ Less
    → new ≡ out ++ x ∷ [] → AreMerged a b rest_a left_b new
merge_less a b left_a left_b out new x y rest_a rest_b so ea eb l n =
    let from : AreMerged a b (x ∷ rest_a) left_b out = subst (λ l. AreMerged a b l left_b out) ea so in
    let ys : Ascends stream_cmp (y ∷ rest_b) = subst (Ascends stream_cmp) eb so.b_ascends in
    subst (λ o. AreMerged a b rest_a left_b o) (sym n)
    (put_first a b left_b left_b out x rest_a from so.b_ascends (λ s m. m) (λ s m. inr m)
    (λ s m. after_first x y rest_b ys l s (subst (Member s) eb m)))

turned : (x y : Stream) → stream_cmp x y ≡ Greater → stream_cmp y x ≡ Less
turned x y g = stream_total.antisymm y x ∙ ap ordering_reverse g

pub merge_greater : (a b left_a left_b out new : List Stream) (x y : Stream) (rest_a rest_b : List Stream)
    → AreMerged a b left_a left_b out → left_a ≡ x ∷ rest_a → left_b ≡ y ∷ rest_b → stream_cmp x y ≡ Greater
    → new ≡ out ++ y ∷ [] → AreMerged a b left_a rest_b new
merge_greater a b left_a left_b out new x y rest_a rest_b so ea eb g n =
    swapped b a rest_b left_a new
    (merge_less b a left_b left_a out new y x rest_b rest_a (swapped a b left_a left_b out so) eb ea (turned x y g) n)

pub merge_equal : (a b left_a left_b out new : List Stream) (x y : Stream) (rest_a rest_b : List Stream)
    → AreMerged a b left_a left_b out → left_a ≡ x ∷ rest_a → left_b ≡ y ∷ rest_b → stream_cmp x y ≡ Equal
    → new ≡ out ++ x ∷ [] → AreMerged a b rest_a rest_b new
merge_equal a b left_a left_b out new x y rest_a rest_b so ea eb q n =
    let same : x ≡ y = stream_exact x y q in
    let from : AreMerged a b (x ∷ rest_a) left_b out = subst (λ l. AreMerged a b l left_b out) ea so in
    let ys : Ascends stream_cmp (y ∷ rest_b) = subst (Ascends stream_cmp) eb so.b_ascends in
    subst (λ o. AreMerged a b rest_a rest_b o) (sym n)
    (put_first a b left_b rest_b out x rest_a from ys.1
    (λ s m. subst (Member s) (sym eb) (inr m))
    (λ s m. elim (subst (Member s) eb m) [ inl e ↦ inl (e ∙ sym same) | inr k ↦ inr k ])
    (λ s m. subst (λ z. stream_cmp z s ≡ Less) (sym same) (ys.0 s m)))

-- just the streams of two lists, ascending
pub record AreBoth (a b streams : List Stream) : Type 0 where
  pub each : (s : Stream) → Member s streams ↔ (Member s a ⊎ Member s b)
  pub ascending : AllPairs (λ x y. stream_cmp x y ≡ Less) streams

pub end_of_a : (a b left_a left_b out new : List Stream) → AreMerged a b left_a left_b out → left_a ≡ []
    → new ≡ out ++ left_b → AreBoth a b new
end_of_a a b left_a left_b out new so none n = subst (AreBoth a b) (sym n) (record {
  each = λ s. (
    (λ m. elim (member_append s out left_b m) [ inl k ↦ so.told s k | inr k ↦ inr (so.of_b s k) ]),
    (λ m. elim (so.whole s m) [
      | inl k ↦ append_left s out left_b k
      | inr k ↦ elim k [ inl l ↦ absurd (subst (Member s) none l) | inr l ↦ append_right s out left_b l ]
    ]),
  );
  ascending = up.pairs stream_cmp (out ++ left_b)
      (up.join stream_cmp out left_b so.ascends so.b_ascends (λ x y m k. so.below x y m (inr k)));
})

pub end_of_b : (a b left_a left_b out new : List Stream) → AreMerged a b left_a left_b out → left_b ≡ []
    → new ≡ out ++ left_a → AreBoth a b new
end_of_b a b left_a left_b out new so none n =
    let r = end_of_a b a left_b left_a out new (swapped a b left_a left_b out so) none n in
    record {
      each = λ s. ((λ m. other_way ((r.each s).0 m)), (λ m. (r.each s).1 (other_way m)));
      ascending = r.ascending;
    }

pub known_streams : (days : Kept) (meters : Meters) (notes : BTreeSet Note) (jobs : Jobs) (periods : Periods)
    (of_heads of_keys streams : List Stream) → AreHeadStreams (days_world days) of_heads
    → ArePeriodStreams (periods_world periods) of_keys
    → ((s : Stream) → Member s streams ↔ (Member s of_heads ⊎ Member s of_keys))
    → AllPairs (λ x y. stream_cmp x y ≡ Less) streams
    → AreKnownStreams (stored_world days meters notes jobs periods) streams
known_streams days meters notes jobs periods hs ps streams h p both up = record {
  each = λ s. (
    (λ m. elim ((both s).0 m) [
      | inl n ↦ let r = (h.each s).0 n in inl (r.0, days_in_whole days meters notes jobs periods _ r.1, r.2)
      | inr n ↦ let r = (p.each s).0 n in inr (r.0, r.1, periods_in_whole days meters notes jobs periods _ r.2, r.3)
    ]),
    (λ k. (both s).1 (elim k [
      | inl r ↦ inl ((h.each s).1
          (r.0, of_days days meters notes jobs periods r.0.stream r.0.day (HeadIs r.0) (refl, refl) r.1, r.2))
      | inr r ↦ inr ((p.each s).1 (r.0, r.1, of_periods days meters notes jobs periods r.0 r.1 r.2, r.3))
    ])),
  );
  ascending = up;
}

-- a list by its first and the rest, as a slice pattern has them
pub first_and_rest : (l : List Stream) (x : Stream) → 1 ≤ length l → ((d : Stream) → x ≡ get_or l 0 d)
    → l ≡ x ∷ take (length l - 1) (drop 1 l)
first_and_rest [] x n e = absurd (omega arith)
first_and_rest (y ∷ l) x n e =
    let k : length l ≤ length (y ∷ l) - 1 = omega arith in
    let rest : take (length (y ∷ l) - 1) l ≡ l = take_all (length (y ∷ l) - 1) l k in
    (λ i. sym (e y) i ∷ sym rest i)

one_less : (l : List Stream) (x : Stream) (rest : List Stream) → l ≡ x ∷ rest → length l ≡ suc (length rest)
one_less l x rest e = ap length e

-- less is left
pub less_of_a : (left_a left_b : List Stream) (x : Stream) (rest_a : List Stream) → left_a ≡ x ∷ rest_a
    → length rest_a + length left_b < length left_a + length left_b
less_of_a left_a left_b x rest_a e = let n = one_less left_a x rest_a e in omega arith

pub less_of_b : (left_a left_b : List Stream) (y : Stream) (rest_b : List Stream) → left_b ≡ y ∷ rest_b
    → length left_a + length rest_b < length left_a + length left_b
less_of_b left_a left_b y rest_b e = let n = one_less left_b y rest_b e in omega arith

pub less_of_both : (left_a left_b : List Stream) (x y : Stream) (rest_a rest_b : List Stream) → left_a ≡ x ∷ rest_a
    → left_b ≡ y ∷ rest_b → length rest_a + length rest_b < length left_a + length left_b
less_of_both left_a left_b x y rest_a rest_b e f =
    let n = one_less left_a x rest_a e in
    let m = one_less left_b y rest_b f in
    omega arith

pub empty_below : (l : List Stream) → length l < 1 → l ≡ []
empty_below [] n = refl
empty_below (x ∷ l) n = absurd (omega arith)
