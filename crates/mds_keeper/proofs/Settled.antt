-- What a merge adds to the book, and how much of it is there.
use Rattle.std.proofs.Common.{◌≡◌, ◌≢◌, ℕ, zero, suc, ◌+◌, ◌<◌, ◌≤◌, List, [], ◌∷◌, ◌++◌, length, map, Option, Some, None, refl, sym, ap, ◌∙◌, subst, inl, inr, arith, append_assoc, drop, get_or}
use Rattle.std.specs.Prelude.{Bool, true, false, cond, nat_eq, not, ◌||◌, ◌==◌, IsNone, IsTrue, is_some, IfNone, IfSome}
use Rattle.std.specs.List.{slice_get}
use Rattle.std.proofs.lemmas.Grind.{flat_map-append}
use Rattle.std.proofs.lemmas.List.{append-nil, drop_all, length-append, length-map, map-append, nil_from_length}
use Rattle.std.specs.FinSet as set
use Rattle.mds_quantity.specs.declared.unit.Unit.{Unit as MeasureUnit}
use Rattle.mds_marks.specs.Reading.{ReadingValue}
use Rattle.mds_world.specs.declared.facts.Head.{Head}
use Rattle.mds_world.specs.declared.facts.Key.{Key}
use Rattle.mds_world.specs.Counts.{countable, is_counted}
use Rattle.mds_world.specs.Current.{IsFormOf}
use Rattle.mds_world.specs.FactOrder.{exact, total}
use Rattle.mds_world.specs.Facts.{Fact, head_at}
use Rattle.mds_world.specs.Facts.Fact.{HeadIs, VersionIs}
use Rattle.mds_world.proofs.Forms.{form_known}
use Rattle.mds_world.proofs.Lists.{member_append, append_left, append_right, apart_append, in_map, map_in}
use Rattle.mds_world.specs.Lists.{Apart, Member}
use Rattle.mds_world.proofs.Members.{same_by, in_list, list_in, len_list}
use Rattle.mds_world.proofs.Sets.{difference_in, in_difference, in_intersection, intersection_in, in_retain, not_true, retain_in, true_not}
use Rattle.mds_world.specs.Sets.{◌∈◌}
use Rattle.mds_world.specs.World.{IsKnownDay, IsLawful, World}
use Rattle.mds_keeper.specs.Books.{BookValue, book_world}
use Rattle.mds_keeper.specs.BookRows.{IsFormOfRows}
use Rattle.mds_keeper.specs.ClaimedUpdates.{entries_of}
use Rattle.mds_keeper.specs.Claims.{Entry, IsLengthUnder, fresh_all, fresh_heads, fresh_versions, has_update, held_all, held_count, is_held, key_of}
use Rattle.mds_keeper.specs.Content.{AreMoreDays, AreWellFormed, day_versions, rows_of, version_at, version_fact, versions_of, whole_rows}
use Rattle.mds_keeper.specs.DayMerges.{DayMergeValue, GoesOn, Grows, Settles}
use Rattle.mds_keeper.specs.DayMergeSteps.{AreCounts, Gains, HaveReadings, IsDayMerge, IsInBook, all_claimed, claimed_entries, claimed_entry, claimed_readings, first_of, fresh_head, further_of, merge_value, new_heads, readings_under}
use Rattle.mds_keeper.specs.declared.additions.Additions.{Additions}
use Rattle.mds_keeper.specs.declared.additions.DayVersions.{DayVersions}
use Rattle.mds_keeper.specs.declared.claimed.ClaimedReadings.{ClaimedReadings}
use Rattle.mds_keeper.specs.declared.claimed.ClaimedUpdate.{ClaimedUpdate}
use Rattle.mds_keeper.specs.declared.day_book.Version.{Version}
use Rattle.mds_keeper.specs.declared.day_merge.MergeCounts.{MergeCounts}
use Rattle.mds_keeper.proofs.BookFacts.{head_in_book, head_of_row, row_of_book}
use Rattle.mds_keeper.proofs.Rows.{same_some}
use Rattle.mds_keeper.proofs.RowsMoved.{drop_here}
use Rattle.std.proofs.lemmas.Bool.Decides.{nat_tests}
use Rattle.mds_keeper.proofs.Taken.{claimed_unit, entry_there, head_of, in_book, in_said, row_there, said_here, same_head}

-- of one update: what is put and what is left are all
pub record IsPartPut (b : BookValue) (minutes update : ℕ) (readings : List ReadingValue) (i : ℕ) (now : List (Key × ReadingValue)) : Type 0 where
  pub versions : now ++ fresh_versions b minutes update (i + 1) (drop i readings) ≡ fresh_versions b minutes update 1 readings

pub start_part : (b : BookValue) (minutes update : ℕ) (readings : List ReadingValue) (rows : List (ℕ × Version)) → rows ≡ []
    → IsPartPut b minutes update readings 0 (map (version_at b.stream b.day) rows)
start_part b minutes update readings rows e = record {
  versions = ap (λ l. map (version_at b.stream b.day) l ++ fresh_versions b minutes update 1 readings) e;
}

module _ (b : BookValue) (minutes update : ℕ) (readings : List ReadingValue) (i : ℕ) (now : List (Key × ReadingValue))
    (is : IsPartPut b minutes update readings i now) where
  module _ (within : i < length readings) (r : ReadingValue) (at : (d : ReadingValue) → r ≡ get_or readings i d) where
    -- the version at the index, if the book doesn't have it, and those behind it
    abbrev from_here : Bool → List (Key × ReadingValue)
    from_here t =
        cond t (fresh_versions b minutes update (i + 1 + 1) (drop (i + 1) readings))
        ((key_of b minutes (i + 1) update, r) ∷ fresh_versions b minutes update (i + 1 + 1) (drop (i + 1) readings))

    versions : now ++ from_here (is_held b minutes update (i + 1) r) ≡ fresh_versions b minutes update 1 readings
    versions =
        ap (λ l. now ++ fresh_versions b minutes update (i + 1) l) (sym (drop_here readings i r within at)) ∙ is.versions

    pub part_held : true ≡ is_held b minutes update (i + 1) r → IsPartPut b minutes update readings (i + 1) now
    part_held e = record { versions = ap (λ t. now ++ from_here t) e ∙ versions }

    pub part_fresh : (next : List (Key × ReadingValue)) → false ≡ is_held b minutes update (i + 1) r
        → next ≡ now ++ (key_of b minutes (i + 1) update, r) ∷ [] → IsPartPut b minutes update readings (i + 1) next
    part_fresh next e push = record {
      versions = ap (λ l. l ++ fresh_versions b minutes update (i + 1 + 1) (drop (i + 1) readings)) push
          ∙ append_assoc now ((key_of b minutes (i + 1) update, r) ∷ []) (fresh_versions b minutes update (i + 1 + 1) (drop (i + 1) readings))
          ∙ ap (λ t. now ++ from_here t) e ∙ versions;
    }

  pub all_put : length readings ≤ i → now ≡ fresh_versions b minutes update 1 readings
  all_put h =
      sym (append-nil now) ∙ ap (λ l. now ++ fresh_versions b minutes update (i + 1) l) (sym (drop_all i readings h)) ∙ is.versions

-- one more row
pub pushed : (b : BookValue) (now next : List (ℕ × Version)) (minutes interval update : ℕ) (r : ReadingValue)
    → next ≡ now ++ (interval, record { update = update; length = minutes; reading = r }) ∷ []
    → map (version_at b.stream b.day) next ≡ map (version_at b.stream b.day) now ++ (key_of b minutes interval update, r) ∷ []
pushed b now next minutes interval update r e =
    ap (map (version_at b.stream b.day)) e
    ∙ map-append (version_at b.stream b.day) now ((interval, record { update = update; length = minutes; reading = r }) ∷ [])

-- one more day
pub day_pushed : (b : BookValue) (added : List (Key × ReadingValue)) (old new : List DayVersions) (day : DayVersions)
    → new ≡ old ++ day ∷ [] → day.stream ≡ b.stream → day.day ≡ b.day → map (version_at b.stream b.day) (rows_of day.rows) ≡ added
    → AreWellFormed day.rows → (versions_of new ≡ versions_of old ++ added) × AreMoreDays old new
day_pushed b added old new day push s d rows formed = (
  ap versions_of push ∙ flat_map-append day_versions old (day ∷ []) ∙ ap (λ l. versions_of old ++ l)
      (append-nil (day_versions day) ∙ (λ i. map (version_at (s i) (d i)) (rows_of day.rows)) ∙ rows),
  (day ∷ [], push, (λ x m. elim m [ inl e ↦ subst (λ (y : DayVersions). AreWellFormed y.rows) (sym e) formed | inr n ↦ absurd n ])),
)

-- none more
no_more_days : (old new : List DayVersions) → new ≡ old → AreMoreDays old new
no_more_days old new e = ([], e ∙ sym (append-nil old), (λ day m. absurd m))

pub none_pushed : (b : BookValue) (added : List (Key × ReadingValue)) (old : List DayVersions) (rows : List (ℕ × Version)) → rows ≡ []
    → map (version_at b.stream b.day) rows ≡ added → (versions_of old ≡ versions_of old ++ added) × AreMoreDays old old
none_pushed b added old rows none e =
    (sym (append-nil (versions_of old)) ∙ ap (λ l. versions_of old ++ l) (sym (ap (map (version_at b.stream b.day)) none) ∙ e), no_more_days old old refl)

-- first these, and then others
more_and_more : (old now next : List DayVersions) → AreMoreDays old now → AreMoreDays now next → AreMoreDays old next
more_and_more old now next (xs, p, f) (ys, q, g) = (
  xs ++ ys,
  q ∙ ap (λ l. l ++ ys) p ∙ append_assoc old xs ys,
  (λ day m. elim (member_append day xs ys m) [ inl n ↦ f day n | inr n ↦ g day n ]),
)

-- where the book has none of the readings, it has neither the first nor one of the rest
none_or_more : (t : Bool) (n : ℕ) → cond t 1 0 + n ≡ 0 → (t ≡ false) × (n ≡ 0)
none_or_more true n e = absurd (omega arith)
none_or_more false n e = (refl, omega arith)

-- then all of them are added, as they lie
pub whole_fresh : (b : BookValue) (minutes update interval : ℕ) (readings : List ReadingValue) → held_count b minutes update interval readings ≡ 0
    → map (version_at b.stream b.day) (whole_rows minutes update interval readings) ≡ fresh_versions b minutes update interval readings
whole_fresh b minutes update interval [] e = refl
whole_fresh b minutes update interval (r ∷ rs) e =
    let none = none_or_more (is_held b minutes update interval r) (held_count b minutes update (interval + 1) rs) e in
    ap (λ l. (key_of b minutes interval update, r) ∷ l) (whole_fresh b minutes update (interval + 1) rs none.1)
    ∙ ap (λ t. cond t (fresh_versions b minutes update (interval + 1) rs) ((key_of b minutes interval update, r) ∷ fresh_versions b minutes update (interval + 1) rs))
    (sym none.0)

pub new_update : (b : BookValue) (es : List (ℕ × ClaimedReadings)) (update : ℕ) (kept : ClaimedReadings) (later : List (ℕ × ClaimedReadings))
    → es ≡ (update, kept) ∷ later → held_all b (claimed_entries b es) ≡ 0
    → (held_count b kept.length update 1 (claimed_readings b update kept.readings) ≡ 0) × (held_all b (claimed_entries b later) ≡ 0)
new_update b es update kept later step e =
    let sum : held_count b kept.length update 1 (claimed_readings b update kept.readings) + held_all b (claimed_entries b later) ≡ 0 =
    ap (λ l. held_all b (claimed_entries b l)) (sym step) ∙ e in
    (omega arith, omega arith)

-- of an update's readings those of which it is wanted that the book has them, or that it doesn't
abbrev pub picked : (Bool → Bool) → BookValue → ℕ → ℕ → ℕ → List ReadingValue → List (Key × ReadingValue)
picked want b minutes update interval [] = []
picked want b minutes update interval (r ∷ rs) =
    cond (want (is_held b minutes update interval r)) ((key_of b minutes interval update, r) ∷ picked want b minutes update (interval + 1) rs)
    (picked want b minutes update (interval + 1) rs)

abbrev pub has : Bool → Bool
has t = t

cond_right : {X : Type 0} (t : Bool) (p x : X) (xs : List X) → Member p xs → Member p (cond t (x ∷ xs) xs)
cond_right true p x xs m = inr m
cond_right false p x xs m = m

cond_not : {X : Type 0} (t : Bool) (x y : X) → cond t x y ≡ cond (not t) y x
cond_not true x y = refl
cond_not false x y = refl

fresh_picked : (b : BookValue) (minutes update interval : ℕ) (rs : List ReadingValue) → fresh_versions b minutes update interval rs ≡ picked not b minutes update interval rs
fresh_picked b minutes update interval [] = refl
fresh_picked b minutes update interval (r ∷ rs) =
    ap (λ l. cond (is_held b minutes update interval r) l ((key_of b minutes interval update, r) ∷ l)) (fresh_picked b minutes update (interval + 1) rs)
    ∙ cond_not (is_held b minutes update interval r) _ _

one_more : {X : Type 0} (t : Bool) (x : X) (xs : List X) (n : ℕ) → n ≡ length xs → cond t 1 0 + n ≡ length (cond t (x ∷ xs) xs)
one_more true x xs n e = omega arith
one_more false x xs n e = omega arith

held_picked : (b : BookValue) (minutes update interval : ℕ) (rs : List ReadingValue) → held_count b minutes update interval rs ≡ length (picked has b minutes update interval rs)
held_picked b minutes update interval [] = refl
held_picked b minutes update interval (r ∷ rs) =
    one_more (is_held b minutes update interval r) (key_of b minutes interval update, r) (picked has b minutes update (interval + 1) rs) _ (held_picked b minutes update (interval + 1) rs)

-- what a picked version is
abbrev IsPicked : (Bool → Bool) → BookValue → ℕ → ℕ → ℕ → List ReadingValue → Key × ReadingValue → Type 0
IsPicked want b minutes update interval rs p =
    (k : ℕ) × (slice_get rs k ≡ Some p.1) × (p.0 ≡ key_of b minutes (interval + k) update) × (want (is_held b minutes update (interval + k) p.1) ≡ true)

from_picked : (want : Bool → Bool) (b : BookValue) (minutes update interval : ℕ) (rs : List ReadingValue) (p : Key × ReadingValue)
    → Member p (picked want b minutes update interval rs) → IsPicked want b minutes update interval rs p
from_picked want b minutes update interval [] p m = absurd m
from_picked want b minutes update interval (r ∷ rs) p m = go (want (is_held b minutes update interval r)) refl (from_picked want b minutes update (interval + 1) rs p) m
  where
    later : IsPicked want b minutes update (interval + 1) rs p → IsPicked want b minutes update interval (r ∷ rs) p
    later n =
        let z : interval + 1 + n.0 ≡ interval + suc n.0 = omega arith in
        (suc n.0, n.1, n.2 ∙ ap (λ i. key_of b minutes i update) z, ap (λ i. want (is_held b minutes update i p.1)) (sym z) ∙ n.3)

    go : (t : Bool) → want (is_held b minutes update interval r) ≡ t → (Member p (picked want b minutes update (interval + 1) rs) → IsPicked want b minutes update (interval + 1) rs p)
        → Member p (cond t ((key_of b minutes interval update, r) ∷ picked want b minutes update (interval + 1) rs) (picked want b minutes update (interval + 1) rs))
        → IsPicked want b minutes update interval (r ∷ rs) p
    go true e rec (inl f) =
        let z : interval ≡ interval + 0 = omega arith in (
          0,
          ap (λ q. Some q.1) (sym f),
          ap (λ q. q.0) f ∙ ap (λ i. key_of b minutes i update) z,
          (λ i. want (is_held b minutes update (sym z i) ((f i).1))) ∙ e,
        )
    go true e rec (inr m) = later (rec m)
    go false e rec m = later (rec m)

to_picked : (want : Bool → Bool) (b : BookValue) (minutes update interval : ℕ) (rs : List ReadingValue) (k : ℕ) (r : ReadingValue)
    → slice_get rs k ≡ Some r → want (is_held b minutes update (interval + k) r) ≡ true
    → Member (key_of b minutes (interval + k) update, r) (picked want b minutes update interval rs)
to_picked want b minutes update interval [] k r e w = cc
to_picked want b minutes update interval (x ∷ rs) zero r e w = go (want (is_held b minutes update interval x)) (at ∙ w)
  where
    z : interval ≡ interval + 0
    z = omega arith

    s : x ≡ r
    s = same_some x r e

    at : want (is_held b minutes update interval x) ≡ want (is_held b minutes update (interval + 0) r)
    at = λ i. want (is_held b minutes update (z i) (s i))

    go : (t : Bool) → t ≡ true → Member (key_of b minutes (interval + 0) update, r) (cond t ((key_of b minutes interval update, x) ∷ picked want b minutes update (interval + 1) rs) (picked want b minutes update (interval + 1) rs))
    go true f = inl (λ i. (key_of b minutes (sym z i) update, sym s i))
    go false f = cc
to_picked want b minutes update interval (x ∷ rs) (suc k) r e w =
    let z : interval + 1 + k ≡ interval + suc k = omega arith in
    cond_right (want (is_held b minutes update interval x)) _ _ _
    (subst (λ i. Member (key_of b minutes i update, r) (picked want b minutes update (interval + 1) rs)) z
    (to_picked want b minutes update (interval + 1) rs k r e (ap (λ i. want (is_held b minutes update i r)) z ∙ w)))

version_inj : (p q : Key × ReadingValue) → version_fact p ≡ version_fact q → p ≡ q
version_inj p q e = let k : p.0 ≡ q.0 = cc in let r : p.1 ≡ q.1 = cc in λ i. (k i, r i)

picked_apart : (want : Bool → Bool) (b : BookValue) (minutes update interval : ℕ) (rs : List ReadingValue) → Apart (map version_fact (picked want b minutes update interval rs))
picked_apart want b minutes update interval [] = tt
picked_apart want b minutes update interval (r ∷ rs) = go (want (is_held b minutes update interval r)) (picked_apart want b minutes update (interval + 1) rs)
  where
    absent : Member (version_fact (key_of b minutes interval update, r)) (map version_fact (picked want b minutes update (interval + 1) rs)) → ⊥
    absent m =
        let n = in_map version_fact (picked want b minutes update (interval + 1) rs) _ m in
        let is = from_picked want b minutes update (interval + 1) rs n.0 n.1 in
        let i : interval ≡ interval + 1 + is.0 = ap (λ q. q.0.interval) (version_inj _ n.0 n.2) ∙ ap (λ k. k.interval) is.2 in
        omega arith

    go : (t : Bool) → Apart (map version_fact (picked want b minutes update (interval + 1) rs))
        → Apart (map version_fact (cond t ((key_of b minutes interval update, r) ∷ picked want b minutes update (interval + 1) rs) (picked want b minutes update (interval + 1) rs)))
    go true a = (absent, a)
    go false a = a

-- of all updates
abbrev pub picked_all : (Bool → Bool) → BookValue → List Entry → List (Key × ReadingValue)
picked_all want b [] = []
picked_all want b (e ∷ es) = picked want b e.1.0 e.0 1 e.1.1 ++ picked_all want b es

all_picked : (b : BookValue) (es : List Entry) → fresh_all b es ≡ picked_all not b es
all_picked b [] = refl
all_picked b (e ∷ es) = λ i. fresh_picked b e.1.0 e.0 1 e.1.1 i ++ all_picked b es i

all_held : (b : BookValue) (es : List Entry) → held_all b es ≡ length (picked_all has b es)
all_held b [] = refl
all_held b (e ∷ es) =
    (λ i. held_picked b e.1.0 e.0 1 e.1.1 i + all_held b es i) ∙ sym (length-append (picked has b e.1.0 e.0 1 e.1.1) (picked_all has b es))

abbrev IsOfAll : (Bool → Bool) → BookValue → List Entry → Key × ReadingValue → Type 0
IsOfAll want b es p =
    (entry : Entry) × Member entry es × (k : ℕ) × (slice_get entry.1.1 k ≡ Some p.1)
    × (p.0 ≡ key_of b entry.1.0 (k + 1) entry.0) × (want (is_held b entry.1.0 entry.0 (k + 1) p.1) ≡ true)

from_all : (want : Bool → Bool) (b : BookValue) (es : List Entry) (p : Key × ReadingValue)
    → Member p (picked_all want b es) → IsOfAll want b es p
from_all want b [] p m = absurd m
from_all want b (e ∷ es) p m = elim (member_append p (picked want b e.1.0 e.0 1 e.1.1) (picked_all want b es) m) [
  | inl n ↦ let is = from_picked want b e.1.0 e.0 1 e.1.1 p n in
      let z : 1 + is.0 ≡ is.0 + 1 = omega arith in
      (e, inl refl, is.0, is.1, is.2 ∙ ap (λ i. key_of b e.1.0 i e.0) z, ap (λ i. want (is_held b e.1.0 e.0 i p.1)) (sym z) ∙ is.3)
  | inr n ↦ let is = from_all want b es p n in (is.0, inr is.1, is.2, is.3, is.4, is.5)
]

to_all : (want : Bool → Bool) (b : BookValue) (es : List Entry) (entry : Entry) → Member entry es
    → (k : ℕ) (r : ReadingValue) → slice_get entry.1.1 k ≡ Some r → want (is_held b entry.1.0 entry.0 (k + 1) r) ≡ true
    → Member (key_of b entry.1.0 (k + 1) entry.0, r) (picked_all want b es)
to_all want b [] entry m k r e w = absurd m
to_all want b (x ∷ es) entry (inl f) k r e w =
    append_left _ (picked want b x.1.0 x.0 1 x.1.1) (picked_all want b es)
    (subst (λ y. Member (key_of b entry.1.0 (k + 1) entry.0, r) (picked want b y.1.0 y.0 1 y.1.1)) f
    (subst (λ i. Member (key_of b entry.1.0 i entry.0, r) (picked want b entry.1.0 entry.0 1 entry.1.1)) z
    (to_picked want b entry.1.0 entry.0 1 entry.1.1 k r e (ap (λ i. want (is_held b entry.1.0 entry.0 i r)) z ∙ w))))
  where
    z : 1 + k ≡ k + 1
    z = omega arith
to_all want b (x ∷ es) entry (inr m) k r e w =
    append_right _ (picked want b x.1.0 x.0 1 x.1.1) (picked_all want b es) (to_all want b es entry m k r e w)

all_apart : (want : Bool → Bool) (b : BookValue) (es : List Entry) → Apart (map (λ entry. entry.0) es)
    → Apart (map version_fact (picked_all want b es))
all_apart want b [] a = tt
all_apart want b (e ∷ es) a =
    subst Apart (sym (map-append version_fact (picked want b e.1.0 e.0 1 e.1.1) (picked_all want b es)))
    (apart_append (map version_fact (picked want b e.1.0 e.0 1 e.1.1)) (map version_fact (picked_all want b es))
    (picked_apart want b e.1.0 e.0 1 e.1.1) (all_apart want b es a.1) (λ f m n.
    let p = in_map version_fact (picked want b e.1.0 e.0 1 e.1.1) f m in
    let q = in_map version_fact (picked_all want b es) f n in
    let is = from_picked want b e.1.0 e.0 1 e.1.1 p.0 p.1 in
    let of = from_all want b es q.0 q.1 in
    let same = version_inj p.0 q.0 (sym p.2 ∙ q.2) in
    let key : e.0 ≡ of.0.0 = sym (ap (λ k. k.update) is.2) ∙ ap (λ x. x.0.update) same ∙ ap (λ k. k.update) of.4 in
    a.0 (subst (λ u. Member u (map (λ entry. entry.0) es)) (sym key) (map_in (λ (entry : Entry). entry.0) es of.0 of.1))))

-- none is fresh of readings that the book has
none_of_book : (b : BookValue) (minutes update interval : ℕ) (rs : List ReadingValue)
    → ((k : ℕ) (r : ReadingValue) → slice_get rs k ≡ Some r → is_held b minutes update (interval + k) r ≡ true)
    → fresh_versions b minutes update interval rs ≡ []
none_of_book b minutes update interval [] held = refl
none_of_book b minutes update interval (r ∷ rs) held =
    let z : interval ≡ interval + 0 = omega arith in
    ap (λ t. cond t (fresh_versions b minutes update (interval + 1) rs) ((key_of b minutes interval update, r) ∷ fresh_versions b minutes update (interval + 1) rs))
    (ap (λ i. is_held b minutes update i r) z ∙ held 0 r refl)
    ∙ none_of_book b minutes update (interval + 1) rs (λ k x e.
    ap (λ i. is_held b minutes update i x) (let y : interval + 1 + k ≡ interval + suc k = omega arith in y) ∙ held (suc k) x e)

-- ---- heads

false_by : (t : Bool) → (t ≡ true → ⊥) → t ≡ false
false_by true h = absurd (h refl)
false_by false h = refl

-- a book with a row of an update, and one without
row_under : (update : ℕ) (rows : List (ℕ × Version)) → has_update update rows ≡ true
    → (row : ℕ × Version) × Member row rows × (row.1.update ≡ update)
row_under update [] e = cc
row_under update (row ∷ rest) e = go (nat_eq row.1.update update) refl (row_under update rest) e
  where
    go : (t : Bool) → nat_eq row.1.update update ≡ t
        → (has_update update rest ≡ true → (x : ℕ × Version) × Member x rest × (x.1.update ≡ update))
        → (t || has_update update rest) ≡ true → (x : ℕ × Version) × Member x (row ∷ rest) × (x.1.update ≡ update)
    go true is later f = (row, inl refl, grind (arith, nat_tests))
    go false is later f = let r = later f in (r.0, inr r.1, r.2)

under_row : (update : ℕ) (rows : List (ℕ × Version)) (row : ℕ × Version) → Member row rows → row.1.update ≡ update
    → has_update update rows ≡ true
under_row update [] row m e = absurd m
under_row update (x ∷ rest) row (inl same) e =
    let here : x.1.update ≡ update = sym (ap (λ (r : ℕ × Version). r.1.update) same) ∙ e in
    let is : nat_eq x.1.update update ≡ true = grind (arith, nat_tests) in
    ap (λ t. t || has_update update rest) is
under_row update (x ∷ rest) row (inr m) e = go (nat_eq x.1.update update) (under_row update rest row m e)
  where
    go : (t : Bool) → has_update update rest ≡ true → (t || has_update update rest) ≡ true
    go true there = refl
    go false there = there

-- with a reading there is a row
some_under : (update : ℕ) (rows : List (ℕ × Version)) → 1 ≤ length (readings_under update rows) → has_update update rows ≡ true
some_under update [] h = absurd (omega arith)
some_under update (row ∷ rest) h = go (nat_eq row.1.update update) h (some_under update rest)
  where
    go : (t : Bool) → 1 ≤ length (cond t (row.1.reading ∷ readings_under update rest) (readings_under update rest))
        → (1 ≤ length (readings_under update rest) → has_update update rest ≡ true) → (t || has_update update rest) ≡ true
    go true h later = refl
    go false h later = later h

-- the length under an update tells whether there is a row
pub length_tells : (b : BookValue) (update : ℕ) (found : Option ℕ) → IsLengthUnder b update found → has_update update b.rows ≡ is_some found
length_tells b update None none =
    false_by (has_update update b.rows) (λ e. let r = row_under update b.rows e in none r.0 r.1 r.2)
length_tells b update (Some minutes) r = under_row update b.rows r.0 r.1 r.2

pub no_head : (b : BookValue) (unit : MeasureUnit) (update minutes : ℕ) → has_update update b.rows ≡ true → fresh_head b unit update minutes ≡ []
no_head b unit update minutes e = ap (λ t. cond t [] (head_at b.stream b.day update minutes unit ∷ [])) e

pub one_head : (b : BookValue) (unit : MeasureUnit) (update minutes : ℕ) → has_update update b.rows ≡ false
    → fresh_head b unit update minutes ≡ head_at b.stream b.day update minutes unit ∷ []
one_head b unit update minutes e = ap (λ t. cond t [] (head_at b.stream b.day update minutes unit ∷ [])) e

-- the heads of one more update
heads_more : (b : BookValue) (unit : MeasureUnit) (entry : Entry) (es : List Entry)
    → fresh_head b unit entry.0 entry.1.0 ++ fresh_heads b unit es ≡ fresh_heads b unit (entry ∷ es)
heads_more b unit entry es = go (has_update entry.0 b.rows)
  where
    go : (t : Bool) → cond t [] (head_of b unit entry ∷ []) ++ fresh_heads b unit es
        ≡ cond t (fresh_heads b unit es) (head_of b unit entry ∷ fresh_heads b unit es)
    go true = refl
    go false = refl

-- an update that was claimed of which the book has no row
abbrev IsFresh : BookValue → MeasureUnit → List Entry → Head → Type 0
IsFresh b unit es head =
    (entry : Entry) × Member entry es × (has_update entry.0 b.rows ≡ false) × (head ≡ head_of b unit entry)

from_heads : (b : BookValue) (unit : MeasureUnit) (es : List Entry) (head : Head) → Member head (fresh_heads b unit es) → IsFresh b unit es head
from_heads b unit [] head m = absurd m
from_heads b unit (e ∷ es) head m = go (has_update e.0 b.rows) refl (from_heads b unit es head) m
  where
    later : IsFresh b unit es head → IsFresh b unit (e ∷ es) head
    later is = (is.0, inr is.1, is.2, is.3)

    go : (t : Bool) → has_update e.0 b.rows ≡ t → (Member head (fresh_heads b unit es) → IsFresh b unit es head)
        → Member head (cond t (fresh_heads b unit es) (head_of b unit e ∷ fresh_heads b unit es)) → IsFresh b unit (e ∷ es) head
    go true is rest n = later (rest n)
    go false is rest (inl same) = (e, inl refl, is, same)
    go false is rest (inr n) = later (rest n)

to_heads : (b : BookValue) (unit : MeasureUnit) (es : List Entry) (entry : Entry) → Member entry es → has_update entry.0 b.rows ≡ false
    → Member (head_of b unit entry) (fresh_heads b unit es)
to_heads b unit [] entry m e = absurd m
to_heads b unit (x ∷ es) entry (inl same) e =
    subst (Member (head_of b unit entry)) (sym (ap (λ t. cond t (fresh_heads b unit es) (head_of b unit x ∷ fresh_heads b unit es))
    (ap (λ (y : Entry). has_update y.0 b.rows) (sym same) ∙ e))) (inl (ap (head_of b unit) same))
to_heads b unit (x ∷ es) entry (inr m) e =
    cond_left (has_update x.0 b.rows) (head_of b unit entry) (head_of b unit x) (fresh_heads b unit es) (to_heads b unit es entry m e)
  where
    cond_left : (t : Bool) (p h : Head) (hs : List Head) → Member p hs → Member p (cond t hs (h ∷ hs))
    cond_left true p h hs n = n
    cond_left false p h hs n = inr n

heads_apart : (b : BookValue) (unit : MeasureUnit) (es : List Entry) → Apart (map (λ entry. entry.0) es) → Apart (map HeadIs (fresh_heads b unit es))
heads_apart b unit [] a = tt
heads_apart b unit (e ∷ es) a = go (has_update e.0 b.rows) (heads_apart b unit es a.1)
  where
    absent : Member (HeadIs (head_of b unit e)) (map HeadIs (fresh_heads b unit es)) → ⊥
    absent m =
        let n = in_map HeadIs (fresh_heads b unit es) _ m in
        let is = from_heads b unit es n.0 n.1 in
        let same : head_of b unit e ≡ head_of b unit is.0 = same_head _ _ (n.2 ∙ ap HeadIs is.3) in
        a.0 (subst (λ u. Member u (map (λ entry. entry.0) es)) (sym (ap (λ (h : Head). h.update) same))
        (map_in (λ (entry : Entry). entry.0) es is.0 is.1))

    go : (t : Bool) → Apart (map HeadIs (fresh_heads b unit es))
        → Apart (map HeadIs (cond t (fresh_heads b unit es) (head_of b unit e ∷ fresh_heads b unit es)))
    go true rest = rest
    go false rest = (absent, rest)

-- the first of the heads and the others are all
both_parts : (t : Bool) (heads : List Head) → first_of t heads ++ further_of t heads ≡ heads
both_parts false heads = refl
both_parts true [] = refl
both_parts true (head ∷ rest) = refl

one_first : (t : Bool) (heads : List Head) → length (first_of t heads) ≤ 1
one_first false heads = omega arith
one_first true [] = omega arith
one_first true (head ∷ rest) = omega arith

no_further : (t : Bool) (heads : List Head) → t ≡ true → first_of t heads ≡ [] → further_of t heads ≡ []
no_further false heads is e = cc
no_further true [] is e = refl
no_further true (head ∷ rest) is e = cc

-- more heads come behind, where none of these is the first of its day
first_on : (t : Bool) (heads more : List Head) → (t ≡ true → heads ≢ []) → first_of t heads ≡ first_of t (heads ++ more)
first_on false heads more some = refl
first_on true [] more some = absurd (some refl refl)
first_on true (head ∷ rest) more some = refl

further_on : (t : Bool) (heads more : List Head) → (t ≡ true → heads ≢ []) → further_of t heads ++ more ≡ further_of t (heads ++ more)
further_on false heads more some = refl
further_on true [] more some = absurd (some refl refl)
further_on true (head ∷ rest) more some = refl

-- ---- what is put behind additions

pub none_gained : (a : Additions) (t : Bool) (heads : List Head) (versions : List (Key × ReadingValue)) → heads ≡ [] → versions ≡ []
    → Gains a a t heads versions
none_gained a t heads versions no_heads no_versions =
    subst (λ hs. Gains a a t hs versions) (sym no_heads) (subst (Gains a a t []) (sym no_versions) (nothing t))
  where
    nothing : (t : Bool) → Gains a a t [] []
    nothing true = record {
      more_first = sym (append-nil a.new_days.items);
      more_heads = sym (append-nil a.heads.items);
      more_versions = sym (append-nil (versions_of a.days.items));
      more_days = no_more_days a.days.items a.days.items refl;
      same_details = refl;
      same_events = refl;
      same_periods = refl;
      same_holidays = refl;
      same_jobs = refl;
    }
    nothing false = record {
      more_first = sym (append-nil a.new_days.items);
      more_heads = sym (append-nil a.heads.items);
      more_versions = sym (append-nil (versions_of a.days.items));
      more_days = no_more_days a.days.items a.days.items refl;
      same_details = refl;
      same_events = refl;
      same_periods = refl;
      same_holidays = refl;
      same_jobs = refl;
    }

-- one growth and then another
grows_on : (old now next : Additions) (first more_first further more_further : List Head) (versions more : List (Key × ReadingValue))
    → Grows old now first further versions → Grows now next more_first more_further more
    → Grows old next (first ++ more_first) (further ++ more_further) (versions ++ more)
grows_on old now next first more_first further more_further versions more g k = record {
  more_first = k.more_first ∙ ap (λ l. l ++ more_first) g.more_first ∙ append_assoc old.new_days.items first more_first;
  more_heads = k.more_heads ∙ ap (λ l. l ++ more_further) g.more_heads ∙ append_assoc old.heads.items further more_further;
  more_versions = k.more_versions ∙ ap (λ l. l ++ more) g.more_versions ∙ append_assoc (versions_of old.days.items) versions more;
  more_days = more_and_more old.days.items now.days.items next.days.items g.more_days k.more_days;
  same_details = k.same_details ∙ g.same_details;
  same_events = k.same_events ∙ g.same_events;
  same_periods = k.same_periods ∙ g.same_periods;
  same_holidays = k.same_holidays ∙ g.same_holidays;
  same_jobs = k.same_jobs ∙ g.same_jobs;
}

-- first these, and then others of a day that isn't new any more
pub gained_on : (old now next : Additions) (t : Bool) (heads more : List Head) (versions others : List (Key × ReadingValue))
    → (t ≡ true → heads ≢ []) → Gains old now t heads versions → Gains now next false more others
    → Gains old next t (heads ++ more) (versions ++ others)
gained_on old now next t heads more versions others some g k =
    subst (λ l. Grows old next l (further_of t (heads ++ more)) (versions ++ others)) (append-nil (first_of t heads) ∙ first_on t heads more some)
    (subst (λ l. Grows old next (first_of t heads ++ []) l (versions ++ others)) (further_on t heads more some)
    (grows_on old now next (first_of t heads) [] (further_of t heads) more versions others g k))

-- ---- what stands where memory was wanting

pub gone_on : {old new : Additions} {first further : List Head} {versions : List (Key × ReadingValue)} → Grows old new first further versions
    → GoesOn old new
gone_on {first = first} {further} {versions} g = record { first = first; further = further; versions = versions; grows = g }

pub on_and_on : (old now next : Additions) → GoesOn old now → GoesOn now next → GoesOn old next
on_and_on old now next g k =
    gone_on (grows_on old now next g.first k.first g.further k.further g.versions k.versions g.grows k.grows)

-- the lists are as they were
pub nothing_put : (old next : Additions) → next.new_days.items ≡ old.new_days.items → next.heads.items ≡ old.heads.items
    → next.days.items ≡ old.days.items → next.details ≡ old.details → next.events ≡ old.events → next.periods ≡ old.periods
    → next.holidays ≡ old.holidays → next.jobs ≡ old.jobs → GoesOn old next
nothing_put old next ns hs vs ds es ps ls js = gone_on {first = []} {further = []} {versions = []} (record {
  more_first = ns ∙ sym (append-nil old.new_days.items);
  more_heads = hs ∙ sym (append-nil old.heads.items);
  more_versions = ap versions_of vs ∙ sym (append-nil (versions_of old.days.items));
  more_days = no_more_days old.days.items next.days.items vs;
  same_details = ds;
  same_events = es;
  same_periods = ps;
  same_holidays = ls;
  same_jobs = js;
})

-- a head without versions, and then the readings that are kept of its update
pub readings_gained : (b : BookValue) (t : Bool) (heads : List Head) (update : ℕ) (kept : ClaimedReadings) (readings : List ReadingValue)
    → kept.readings ≡ Some readings → (old now next : Additions) → Gains old now t heads []
    → (versions_of next.days.items ≡ versions_of now.days.items ++ fresh_versions b kept.length update 1 readings)
    × AreMoreDays now.days.items next.days.items
    → next.new_days ≡ now.new_days → next.heads ≡ now.heads → next.details ≡ now.details → next.events ≡ now.events
    → next.periods ≡ now.periods → next.holidays ≡ now.holidays → next.jobs ≡ now.jobs
    → Gains old next t heads (fresh_versions b kept.length update 1 (claimed_readings b update kept.readings))
readings_gained b t heads update kept readings is old now next g more ns hs ds es ps ls js =
    subst (λ o. Gains old next t heads (fresh_versions b kept.length update 1 (claimed_readings b update o))) (sym is) (record {
      more_first = ap (λ l. l.items) ns ∙ g.more_first;
      more_heads = ap (λ l. l.items) hs ∙ g.more_heads;
      more_versions = more.0 ∙ ap (λ l. l ++ fresh_versions b kept.length update 1 readings)
          (g.more_versions ∙ append-nil (versions_of old.days.items));
      more_days = more_and_more old.days.items now.days.items next.days.items g.more_days more.1;
      same_details = ds ∙ g.same_details;
      same_events = es ∙ g.same_events;
      same_periods = ps ∙ g.same_periods;
      same_holidays = ls ∙ g.same_holidays;
      same_jobs = js ∙ g.same_jobs;
    })

-- one head: the first of a new day, or one of another update
module _ (b : BookValue) (unit : MeasureUnit) (update minutes : ℕ) (old next : Additions) (none : false ≡ has_update update b.rows)
    (head : Head) (is : head ≡ head_at b.stream b.day update minutes unit) (t : Bool) where
  alone : head ∷ [] ≡ fresh_head b unit update minutes
  alone = ap (λ h. h ∷ []) is ∙ sym (one_head b unit update minutes (sym none))

  pub first_gained : t ≡ true → next.new_days.items ≡ old.new_days.items ++ head ∷ [] → next.heads ≡ old.heads → next.days ≡ old.days
      → next.details ≡ old.details → next.events ≡ old.events → next.periods ≡ old.periods → next.holidays ≡ old.holidays
      → next.jobs ≡ old.jobs → Gains old next t (fresh_head b unit update minutes) []
  first_gained new push hs vs ds es ps ls js = subst (λ x. Gains old next x (fresh_head b unit update minutes) []) (sym new) (record {
    more_first = push ∙ ap (λ l. old.new_days.items ++ first_of true l) alone;
    more_heads = ap (λ l. l.items) hs ∙ sym (append-nil old.heads.items) ∙ ap (λ l. old.heads.items ++ further_of true l) alone;
    more_versions = ap (λ l. versions_of l.items) vs ∙ sym (append-nil (versions_of old.days.items));
    more_days = no_more_days old.days.items next.days.items (ap (λ l. l.items) vs);
    same_details = ds;
    same_events = es;
    same_periods = ps;
    same_holidays = ls;
    same_jobs = js;
  })

  pub further_gained : t ≡ false → next.heads.items ≡ old.heads.items ++ head ∷ [] → next.new_days ≡ old.new_days → next.days ≡ old.days
      → next.details ≡ old.details → next.events ≡ old.events → next.periods ≡ old.periods → next.holidays ≡ old.holidays
      → next.jobs ≡ old.jobs → Gains old next t (fresh_head b unit update minutes) []
  further_gained known push ns vs ds es ps ls js = subst (λ x. Gains old next x (fresh_head b unit update minutes) []) (sym known) (record {
    more_first = ap (λ l. l.items) ns ∙ sym (append-nil old.new_days.items);
    more_heads = push ∙ ap (λ l. old.heads.items ++ l) alone;
    more_versions = ap (λ l. versions_of l.items) vs ∙ sym (append-nil (versions_of old.days.items));
    more_days = no_more_days old.days.items next.days.items (ap (λ l. l.items) vs);
    same_details = ds;
    same_events = es;
    same_periods = ps;
    same_holidays = ls;
    same_jobs = js;
  })

-- where none are kept of an update the book has them all, and none is added
pub none_settled : (b : BookValue) (unit : MeasureUnit) (t : Bool) (update : ℕ) (kept : ClaimedReadings) (old : Additions) → kept.readings ≡ None
    → 1 ≤ length (claimed_readings b update kept.readings) → (IsNone kept.readings → IsInBook b kept.length update)
    → Gains old old t (fresh_head b unit update kept.length) (fresh_versions b kept.length update 1 (claimed_readings b update kept.readings))
none_settled b unit t update kept old none some held =
    none_gained old t _ _
    (no_head b unit update kept.length (some_under update b.rows (subst (λ o. 1 ≤ length (claimed_readings b update o)) none some)))
    (ap (λ o. fresh_versions b kept.length update 1 (claimed_readings b update o)) none
    ∙ none_of_book b kept.length update 1 (readings_under update b.rows) (λ k r e.
    ap (λ n. is_held b kept.length update n r) (z k) ∙ held (ap is_some none) k r e))
  where
    z : (k : ℕ) → 1 + k ≡ k + 1
    z k = omega arith

-- ---- the updates in turn

-- what is put and what is left are all
pub record IsSettled (b : BookValue) (unit : MeasureUnit) (es : List (ℕ × ClaimedReadings)) (old now : Additions)
    (rest : List (ℕ × ClaimedReadings)) : Type 0 where
  pub heads : List Head
  pub versions : List (Key × ReadingValue)
  pub gained : Gains old now false heads versions
  pub all_heads : heads ++ fresh_heads b unit (claimed_entries b rest) ≡ fresh_heads b unit (claimed_entries b es)
  pub all_versions : versions ++ fresh_all b (claimed_entries b rest) ≡ fresh_all b (claimed_entries b es)
  pub within : (entry : ℕ × ClaimedReadings) → Member entry rest → Member entry es

pub start_settled : (b : BookValue) (unit : MeasureUnit) (es rest : List (ℕ × ClaimedReadings)) (old : Additions) → rest ≡ es
    → IsSettled b unit es old old rest
start_settled b unit es rest old e = record {
  heads = [];
  versions = [];
  gained = none_gained old false [] [] refl refl;
  all_heads = ap (λ l. fresh_heads b unit (claimed_entries b l)) e;
  all_versions = ap (λ l. fresh_all b (claimed_entries b l)) e;
  within = λ entry m. subst (λ l. Member entry l) e m;
}

module _ (b : BookValue) (unit : MeasureUnit) (es : List (ℕ × ClaimedReadings)) (old now : Additions)
    (rest later : List (ℕ × ClaimedReadings)) (update : ℕ) (kept : ClaimedReadings)
    (is : IsSettled b unit es old now rest) (step : rest ≡ (update, kept) ∷ later) where
  pub here_settled : Member (update, kept) es
  here_settled = is.within (update, kept) (subst (λ l. Member (update, kept) l) (sym step) (inl refl))

  later_within : (entry : ℕ × ClaimedReadings) → Member entry later → Member entry es
  later_within entry m = is.within entry (subst (λ l. Member entry l) (sym step) (inr m))

  pub entry_settled : Member (claimed_entry b (update, kept)) (claimed_entries b es)
  entry_settled = map_in (claimed_entry b) es (update, kept) here_settled

  pub one_settled : (next : Additions)
      → Gains now next false (fresh_head b unit update kept.length) (fresh_versions b kept.length update 1 (claimed_readings b update kept.readings))
      → IsSettled b unit es old next later
  one_settled next more = record {
    heads = is.heads ++ fresh_head b unit update kept.length;
    versions = is.versions ++ fresh_versions b kept.length update 1 (claimed_readings b update kept.readings);
    gained = gained_on old now next false is.heads (fresh_head b unit update kept.length) is.versions _ (λ e. cc) is.gained more;
    all_heads = append_assoc is.heads (fresh_head b unit update kept.length) (fresh_heads b unit (claimed_entries b later))
        ∙ ap (λ l. is.heads ++ l) (heads_more b unit (claimed_entry b (update, kept)) (claimed_entries b later)
        ∙ ap (λ l. fresh_heads b unit (claimed_entries b l)) (sym step)) ∙ is.all_heads;
    all_versions = append_assoc is.versions (fresh_versions b kept.length update 1 (claimed_readings b update kept.readings))
        (fresh_all b (claimed_entries b later))
        ∙ ap (λ l. is.versions ++ fresh_all b (claimed_entries b l)) (sym step) ∙ is.all_versions;
    within = later_within;
  }

pub end_settled : (b : BookValue) (unit : MeasureUnit) (es : List (ℕ × ClaimedReadings)) (old now : Additions) (rest : List (ℕ × ClaimedReadings))
    → IsSettled b unit es old now rest → rest ≡ []
    → Gains old now false (fresh_heads b unit (claimed_entries b es)) (fresh_all b (claimed_entries b es))
end_settled b unit es old now rest is none =
    subst (λ hs. Gains old now false hs (fresh_all b (claimed_entries b es))) all_heads (subst (Gains old now false is.heads) all_versions is.gained)
  where
    all_heads : is.heads ≡ fresh_heads b unit (claimed_entries b es)
    all_heads =
        sym (append-nil is.heads) ∙ ap (λ l. is.heads ++ fresh_heads b unit (claimed_entries b l)) (sym none) ∙ is.all_heads

    all_versions : is.versions ≡ fresh_all b (claimed_entries b es)
    all_versions =
        sym (append-nil is.versions) ∙ ap (λ l. is.versions ++ fresh_all b (claimed_entries b l)) (sym none) ∙ is.all_versions

-- the first update, and the others
module _ (b : BookValue) (first : ClaimedUpdate) (o : Option ClaimedUpdate) (one : o ≡ Some first) (others all : List (ℕ × ClaimedReadings))
    (is : entries_of o others ≡ all) where
  first_step : all ≡ (first.update, first.kept) ∷ others
  first_step = sym is ∙ ap (λ x. entries_of x others) one

  pub first_in : Member (first.update, first.kept) all
  first_in = subst (Member (first.update, first.kept)) (sym first_step) (inl refl)

  pub first_entry : Member (claimed_entry b (first.update, first.kept)) (claimed_entries b all)
  first_entry = map_in (claimed_entry b) all (first.update, first.kept) first_in

  pub others_in : (x : ℕ × ClaimedReadings) → Member x others → Member x all
  others_in x m = subst (Member x) (sym first_step) (inr m)

  pub other_entries : (entry : Entry) → Member entry (claimed_entries b others) → Member entry (claimed_entries b all)
  other_entries entry m =
      let n = in_map (claimed_entry b) others entry m in
      subst (λ e. Member e (claimed_entries b all)) (sym n.2) (map_in (claimed_entry b) all n.0 (others_in n.0 n.1))

  pub first_new : held_all b (claimed_entries b all) ≡ 0
      → (held_count b first.kept.length first.update 1 (claimed_readings b first.update first.kept.readings) ≡ 0)
      × (held_all b (claimed_entries b others) ≡ 0)
  first_new e = new_update b all first.update first.kept others first_step e

  -- what is added of both
  pub both_settled : (known : Option MeasureUnit) (unit : MeasureUnit) → known ≡ Some unit → (t : Bool) (old now next : Additions)
      → (t ≡ true → b.rows ≡ [])
      → Gains old now t (fresh_head b unit first.update first.kept.length)
      (fresh_versions b first.kept.length first.update 1 (claimed_readings b first.update first.kept.readings))
      → Gains now next false (fresh_heads b unit (claimed_entries b others)) (fresh_all b (claimed_entries b others))
      → Gains old next t (new_heads b known (claimed_entries b all)) (fresh_all b (claimed_entries b all))
  both_settled known unit is_unit t old now next new_day g k =
      subst (λ u. Gains old next t (new_heads b u (claimed_entries b all)) (fresh_all b (claimed_entries b all))) (sym is_unit)
      (subst (λ l. Gains old next t (fresh_heads b unit (claimed_entries b l)) (fresh_all b (claimed_entries b l))) (sym first_step)
      (subst (λ hs. Gains old next t hs (fresh_all b (claimed_entries b ((first.update, first.kept) ∷ others))))
      (heads_more b unit (claimed_entry b (first.update, first.kept)) (claimed_entries b others))
      (gained_on old now next t (fresh_head b unit first.update first.kept.length) _ _ _ some g k)))
    where
      some : t ≡ true → fresh_head b unit first.update first.kept.length ≢ []
      some is none =
          let e = sym (one_head b unit first.update first.kept.length (ap (has_update first.update) (new_day is))) ∙ none in cc

-- where none is fresh, the book has a row of each update
no_fresh : (b : BookValue) (unit : MeasureUnit) (es : List Entry) → HaveReadings es → fresh_all b es ≡ [] → fresh_heads b unit es ≡ []
no_fresh b unit [] some none = refl
no_fresh b unit (e ∷ es) some none =
    ap (λ t. cond t (fresh_heads b unit es) (head_of b unit e ∷ fresh_heads b unit es)) (has e.1.1 refl)
    ∙ no_fresh b unit es (λ entry m. some entry (inr m)) (nil_behind (fresh_versions b e.1.0 e.0 1 e.1.1) (fresh_all b es) none)
  where
    nil_before : {X : Type 0} (xs ys : List X) → xs ++ ys ≡ [] → xs ≡ []
    nil_before [] ys f = refl
    nil_before (x ∷ xs) ys f = cc

    nil_behind : {X : Type 0} (xs ys : List X) → xs ++ ys ≡ [] → ys ≡ []
    nil_behind [] ys f = f
    nil_behind (x ∷ xs) ys f = cc

    held : (t : Bool) (x : Key × ReadingValue) (xs : List (Key × ReadingValue)) → cond t xs (x ∷ xs) ≡ [] → t ≡ true
    held true x xs f = refl
    held false x xs f = cc

    has : (rs : List ReadingValue) → e.1.1 ≡ rs → has_update e.0 b.rows ≡ true
    has [] f = let h = some e (inl refl) in absurd (omega (arith, h, ap length f))
    has (r ∷ rs) f =
        let fresh : fresh_versions b e.1.0 e.0 1 (r ∷ rs) ≡ [] =
        ap (fresh_versions b e.1.0 e.0 1) (sym f) ∙ nil_before (fresh_versions b e.1.0 e.0 1 e.1.1) (fresh_all b es) none in
        let here = held (is_held b e.1.0 e.0 1 r) (key_of b e.1.0 1 e.0, r) (fresh_versions b e.1.0 e.0 (1 + 1) rs) fresh in
        under_row e.0 b.rows _ (row_of_book b e.1.0 1 e.0 r here) refl

pub none_fresh : (b : BookValue) (unit : Option MeasureUnit) (t : Bool) (es : List Entry) (held fresh : ℕ) (old : Additions) → HaveReadings es
    → AreCounts b es held fresh → fresh ≡ 0 → Gains old old t (new_heads b unit es) (fresh_all b es)
none_fresh b unit t es held fresh old some c e =
    let none = nil_from_length (fresh_all b es) (sym c.fresh_are ∙ e) in
    none_gained old t (new_heads b unit es) (fresh_all b es) (no_heads unit none) none
  where
    no_heads : (o : Option MeasureUnit) → fresh_all b es ≡ [] → new_heads b o es ≡ []
    no_heads None none = refl
    no_heads (Some one) none = no_fresh b one es some none

-- where none is held
pub none_held : (b : BookValue) (es : List Entry) (held fresh : ℕ) → AreCounts b es held fresh → IsTrue (held == 0) → held_all b es ≡ 0
none_held b es held fresh c e = let none : held ≡ 0 = grind (arith, nat_tests) in sym c.held_are ∙ none

-- nothing is put where nothing was claimed
pub none_claimed : (b : BookValue) (unit : Option MeasureUnit) (t : Bool) (es : List Entry) (old : Additions) → es ≡ []
    → Gains old old t (new_heads b unit es) (fresh_all b es)
none_claimed b unit t es old none =
    none_gained old t (new_heads b unit es) (fresh_all b es) (ap (new_heads b unit) none ∙ no_heads unit) (ap (fresh_all b) none)
  where
    no_heads : (o : Option MeasureUnit) → new_heads b o [] ≡ []
    no_heads None = refl
    no_heads (Some one) = refl

-- ---- a day is new or known

module _ (b : BookValue) (form : Option (ℕ × MeasureUnit)) (t : Bool) (is : is_some form ≡ not t) where
  pub new_rows : IsFormOfRows form b.rows → t ≡ true → b.rows ≡ []
  new_rows rows e = go form (is ∙ ap not e) rows
    where
      go : (o : Option (ℕ × MeasureUnit)) → is_some o ≡ false → IsFormOfRows o b.rows → b.rows ≡ []
      go None f none = none
      go (Some known) f top = cc

  module _ (some : IfSome form (λ f. IsFormOf (book_world b) b.stream b.day f.0 f.1))
      (none : IfNone form (IsKnownDay (book_world b) b.stream b.day → ⊥)) where
    pub known_or_new : (IsKnownDay (book_world b) b.stream b.day → t ≡ false) × ((IsKnownDay (book_world b) b.stream b.day → ⊥) → t ≡ true)
    known_or_new = go form t is some none
      where
        go : (o : Option (ℕ × MeasureUnit)) (t : Bool) → is_some o ≡ not t → IfSome o (λ f. IsFormOf (book_world b) b.stream b.day f.0 f.1)
            → IfNone o (IsKnownDay (book_world b) b.stream b.day → ⊥)
            → (IsKnownDay (book_world b) b.stream b.day → t ≡ false) × ((IsKnownDay (book_world b) b.stream b.day → ⊥) → t ≡ true)
        go None true e s n = ((λ known. absurd (n known)), (λ new. refl))
        go None false e s n = cc
        go (Some f) true e s n = cc
        go (Some f) false e s n = ((λ known. refl), (λ new. absurd (new (form_known (book_world b) b.stream b.day f.0 f.1 s))))

-- Of facts that are claimed and aren't in a book so many count as the versions among them.
apart_tail : (xs ys : List Fact) → Apart (xs ++ ys) → Apart ys
apart_tail [] ys a = a
apart_tail (x ∷ xs) ys a = apart_tail xs ys a.1

pub counted_versions : (said book : World) (heads : List Head) (versions : List (Key × ReadingValue))
    → Apart (map HeadIs heads ++ map version_fact versions)
    → set.from_list (map HeadIs heads ++ map version_fact versions) ≡ set.difference said book
    → length versions ≡ set.len (set.difference (countable said) (countable book))
counted_versions said book heads versions apart just =
    sym (length-map versions version_fact)
    ∙ sym (len_list (map version_fact versions) (apart_tail (map HeadIs heads) (map version_fact versions) apart)) ∙ ap set.len counts
  where
    counts : set.from_list (map version_fact versions) ≡ set.difference (countable said) (countable book)
    counts = same_by _ _
        (λ f m.
        let n = in_list (map version_fact versions) f m in
        let p = in_map version_fact versions f n in
        let one : is_counted f ≡ true = ap is_counted p.2 in
        let w = in_difference total exact said book f (subst (λ w. f ∈ w) just
        (list_in (map HeadIs heads ++ map version_fact versions) f (append_right f (map HeadIs heads) (map version_fact versions) n))) in
        difference_in total exact _ _ f (retain_in total exact said is_counted f w.0 one)
        (λ h. w.1 (in_retain total exact book is_counted f h).0))
        (λ f m.
        let w = in_difference total exact _ _ f m in
        let c = in_retain total exact said is_counted f w.0 in
        let out : set.contains book f ≢ true = λ h. w.1 (retain_in total exact book is_counted f h c.1) in
        let n = in_list (map HeadIs heads ++ map version_fact versions) f (subst (λ x. f ∈ x)
        (sym just) (difference_in total exact said book f c.0 out)) in
        list_in (map version_fact versions) f (elim (member_append f (map HeadIs heads) (map version_fact versions) n) [
          | inl k ↦ let p = in_map HeadIs heads f k in let z : is_counted f ≡ false = ap is_counted p.2 in let y = c.1 in cc
          | inr k ↦ k
        ]))

-- the heads and the versions that a merge adds
module _ (b : BookValue) (unit : Option MeasureUnit) (claimed : List Entry) (d : IsDayMerge b unit claimed)
    (lawful : IsLawful (book_world b)) where
  -- a head that is fresh was claimed with the unit
  head_origin : (h : Head) → Member h (new_heads b unit claimed) → (one : MeasureUnit) × (unit ≡ Some one) × IsFresh b one claimed h
  head_origin h m = go unit refl m
    where
      go : (o : Option MeasureUnit) → unit ≡ o → Member h (new_heads b o claimed) → (one : MeasureUnit) × (unit ≡ Some one) × IsFresh b one claimed h
      go None e n = absurd n
      go (Some one) e n = (one, e, from_heads b one claimed h n)

  to_facts : (f : Fact) → f ∈ all_claimed b unit claimed → set.contains (book_world b) f ≢ true
      → Member f (map HeadIs (new_heads b unit claimed) ++ map version_fact (picked_all not b claimed))
  to_facts f i out =
      let n = in_said b unit claimed f i in
      elim n.4 [
        | inl e ↦ append_left f (map HeadIs (new_heads b unit claimed)) (map version_fact (picked_all not b claimed))
            (subst (λ o. Member f (map HeadIs (new_heads b o claimed))) (sym n.1)
            (subst (λ g. Member g (map HeadIs (fresh_heads b n.0 claimed))) (sym e)
            (map_in HeadIs (fresh_heads b n.0 claimed) (head_of b n.0 n.2)
            (to_heads b n.0 claimed n.2 n.3 (no_row n.0 n.1 n.2 n.3 e)))))
        | inr v ↦ append_right f (map HeadIs (new_heads b unit claimed)) (map version_fact (picked_all not b claimed))
            (subst (λ g. Member g (map version_fact (picked_all not b claimed))) (sym v.3)
            (map_in version_fact (picked_all not b claimed) (key_of b n.2.1.0 (v.0 + 1) n.2.0, v.1)
            (to_all not b claimed n.2 n.3 v.0 v.1 v.2
            (true_not (is_held b n.2.1.0 n.2.0 (v.0 + 1) v.1) (λ h. out (ap (set.contains (book_world b)) v.3 ∙ h))))))
      ]
    where
      -- with a row of the update the book has the head, as both agree
      no_row : (one : MeasureUnit) → unit ≡ Some one → (entry : Entry) → Member entry claimed → f ≡ HeadIs (head_of b one entry)
          → has_update entry.0 b.rows ≡ false
      no_row one e entry m is = false_by (has_update entry.0 b.rows) (λ has.
          let r = row_under entry.0 b.rows has in
          let u = head_of_row b lawful r.0 r.1 in
          let of_row : Head = head_at b.stream b.day r.0.1.update r.0.1.length u.0 in
          let units : u.0 ≡ one = same_some u.0 one (sym (d.known u.0 u.1) ∙ e) in
          let lengths : r.0.1.length ≡ entry.1.0 =
          d.agrees.one_length of_row (head_of b one entry) (row_there b unit claimed d r.0 r.1 u.0 u.1) (entry_there b unit claimed d entry m one e)
          refl refl r.2 in
          let same : of_row ≡ head_of b one entry = λ j. head_at b.stream b.day (r.2 j) (lengths j) (units j) in
          out (ap (set.contains (book_world b)) (is ∙ ap HeadIs (sym same)) ∙ head_in_book b r.0 r.1 u.0 u.1))

  from_facts : (f : Fact) → Member f (map HeadIs (new_heads b unit claimed) ++ map version_fact (picked_all not b claimed))
      → (f ∈ all_claimed b unit claimed) × (set.contains (book_world b) f ≢ true)
  from_facts f m = elim (member_append f (map HeadIs (new_heads b unit claimed)) (map version_fact (picked_all not b claimed)) m) [
    | inl n ↦ let p = in_map HeadIs (new_heads b unit claimed) f n in
        let q = head_origin p.0 p.1 in
        let is : f ≡ HeadIs (head_of b q.0 q.2.0) = p.2 ∙ ap HeadIs q.2.3 in (
          said_here b unit claimed d q.0 q.1 q.2.0 q.2.1 f (inl is),
          (λ h. elim (in_book b f h) [
            | inl k ↦
                let same = same_head (head_of b q.0 q.2.0) (head_at b.stream b.day k.0.1.update k.0.1.length k.1) (sym is ∙ k.4) in
                let has = under_row q.2.0.0 b.rows k.0 k.2 (sym (ap (λ (x : Head). x.update) same)) in
                let z = sym has ∙ q.2.2 in cc
            | inr r ↦ let e = sym is ∙ r.2 in cc
          ]),
        )
    | inr n ↦ let p = in_map version_fact (picked_all not b claimed) f n in
        let q = from_all not b claimed p.0 p.1 in
        let is : f ≡ VersionIs (key_of b q.0.1.0 (q.2 + 1) q.0.0) p.0.1 = p.2 ∙ ap (λ k. VersionIs k p.0.1) q.4 in
        let k = claimed_unit b unit claimed d q.0 q.1 in (
          said_here b unit claimed d k.0 k.1 q.0 q.1 f (inr (q.2, p.0.1, q.3, is)),
          (λ h. not_true (is_held b q.0.1.0 q.0.0 (q.2 + 1) p.0.1) q.5 (ap (set.contains (book_world b)) (sym is) ∙ h)),
        )
  ]

  just : set.from_list (map HeadIs (new_heads b unit claimed) ++ map version_fact (picked_all not b claimed))
      ≡ set.difference (all_claimed b unit claimed) (book_world b)
  just = same_by _ _
      (λ f i. let p = from_facts f (in_list (map HeadIs (new_heads b unit claimed) ++ map version_fact (picked_all not b claimed)) f i) in
      difference_in total exact _ _ f p.0 p.1)
      (λ f i. let p = in_difference total exact _ _ f i in
      list_in (map HeadIs (new_heads b unit claimed) ++ map version_fact (picked_all not b claimed)) f (to_facts f p.0 p.1))

  apart : Apart (map HeadIs (new_heads b unit claimed) ++ map version_fact (picked_all not b claimed))
  apart = apart_append (map HeadIs (new_heads b unit claimed)) (map version_fact (picked_all not b claimed))
      (all_heads unit) (all_apart not b claimed d.once) (λ f m n.
      let p = in_map HeadIs (new_heads b unit claimed) f m in
      let q = in_map version_fact (picked_all not b claimed) f n in
      let e = sym p.2 ∙ q.2 in cc)
    where
      all_heads : (o : Option MeasureUnit) → Apart (map HeadIs (new_heads b o claimed))
      all_heads None = tt
      all_heads (Some one) = heads_apart b one claimed d.once

  held_facts : set.from_list (map version_fact (picked_all has b claimed))
      ≡ set.intersection (countable (all_claimed b unit claimed)) (countable (book_world b))
  held_facts = same_by _ _
      (λ f i.
      let p = in_map version_fact (picked_all has b claimed) f (in_list (map version_fact (picked_all has b claimed)) f i) in
      let q = from_all has b claimed p.0 p.1 in
      let is : f ≡ VersionIs (key_of b q.0.1.0 (q.2 + 1) q.0.0) p.0.1 = p.2 ∙ ap (λ k. VersionIs k p.0.1) q.4 in
      let k = claimed_unit b unit claimed d q.0 q.1 in
      let counts : is_counted f ≡ true = ap is_counted is in
      intersection_in total exact _ _ f
      (retain_in total exact _ is_counted f (said_here b unit claimed d k.0 k.1 q.0 q.1 f (inr (q.2, p.0.1, q.3, is))) counts)
      (retain_in total exact _ is_counted f (ap (set.contains (book_world b)) is ∙ q.5) counts))
      (λ f i.
      let p = in_intersection total exact _ _ f i in
      let s = in_retain total exact _ is_counted f p.0 in
      let w = in_retain total exact _ is_counted f p.1 in
      let n = in_said b unit claimed f s.0 in
      list_in (map version_fact (picked_all has b claimed)) f (elim n.4 [
        | inl e ↦ let z : is_counted f ≡ false = ap is_counted e in cc (s.1)
        | inr v ↦ subst (λ g. Member g (map version_fact (picked_all has b claimed))) (sym v.3)
            (map_in version_fact (picked_all has b claimed) (key_of b n.2.1.0 (v.0 + 1) n.2.0, v.1)
            (to_all has b claimed n.2 n.3 v.0 v.1 v.2 (ap (set.contains (book_world b)) (sym v.3) ∙ w.0)))
      ]))

  counts : held_all b claimed ≡ set.len (set.intersection (countable (all_claimed b unit claimed)) (countable (book_world b)))
  counts = all_held b claimed ∙ sym (length-map (picked_all has b claimed) version_fact)
      ∙ sym (len_list (map version_fact (picked_all has b claimed)) (all_apart has b claimed d.once)) ∙ ap set.len held_facts

  -- where a version is fresh, something is new that counts
  pub some_new : (v : DayMergeValue) → merge_value b unit claimed ≡ v → 0 < length (fresh_all b claimed)
      → 0 < set.len (set.difference (countable v.said) (countable (book_world v.book)))
  some_new v is some = subst (λ (x : DayMergeValue). 0 < set.len (set.difference (countable x.said) (countable (book_world x.book)))) is
      (subst (λ n. 0 < n) (ap length (all_picked b claimed)
      ∙ counted_versions (all_claimed b unit claimed) (book_world b) (new_heads b unit claimed) (picked_all not b claimed) apart just) some)

  pub settles : (v : DayMergeValue) → merge_value b unit claimed ≡ v → (old new : Additions) (counted : MergeCounts) (t : Bool)
      → (IsKnownDay (book_world b) b.stream b.day → t ≡ false) × ((IsKnownDay (book_world b) b.stream b.day → ⊥) → t ≡ true)
      → Gains old new t (new_heads b unit claimed) (fresh_all b claimed)
      → AreCounts b claimed counted.known counted.added → Settles v old new counted
  settles v is old new counted t day g c = subst (λ x. Settles x old new counted) is (record {
    first = first_of t (new_heads b unit claimed);
    further = further_of t (new_heads b unit claimed);
    versions = picked_all not b claimed;
    one_first = one_first t (new_heads b unit claimed);
    known_day = λ known. ap (λ k. first_of k (new_heads b unit claimed)) (day.0 known);
    new_day = λ fresh none. no_further t (new_heads b unit claimed) (day.1 fresh) none;
    grows = subst (Grows old new (first_of t (new_heads b unit claimed)) (further_of t (new_heads b unit claimed))) (all_picked b claimed) g;
    apart = subst (λ hs. Apart (map HeadIs hs ++ map version_fact (picked_all not b claimed))) (sym (both_parts t (new_heads b unit claimed))) apart;
    just = ap (λ hs. set.from_list (map HeadIs hs ++ map version_fact (picked_all not b claimed))) (both_parts t (new_heads b unit claimed)) ∙ just;
    added = c.fresh_are ∙ ap length (all_picked b claimed);
    known = c.held_are ∙ counts;
  })
