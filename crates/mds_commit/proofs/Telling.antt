-- Days that are told of rows, one row after the other.
use Rattle.std.proofs.Common.{◌≡◌, ◌≤◌, ◌<◌, ◌+◌, ◌-◌, inl, inr, zero, suc, ℕ, List, [], ◌∷◌, ◌++◌, length, map, take, get_or, slice_get, slice_index_or, Some, option_map, refl, sym, ap, subst, ◌∙◌, arith}
use Rattle.std.proofs.lemmas.List.{get_or-take, length_push, length-take, take_more}
use Rattle.std.proofs.lemmas.List.Quantifiers.{all_pairs_push}
use Rattle.std.specs.List.{AllPairs}
use Rattle.sqlite_value.specs.Order.{Row}
use Rattle.mds_terms.specs.Details.{DetailsValue}
use Rattle.mds_world.proofs.Orders.{le_or_lt}
use Rattle.mds_world.proofs.Lists.{append_left, append_right, in_map, map_in, member_append}
use Rattle.mds_world.specs.Lists.{Member}
use Rattle.mds_tables.proofs.MemberLemmas.{place_of}
use Rattle.mds_commit.specs.Shown.{AreByDay, ComesFirst, EndsOn, IsBelow, IsTold, TellsDays, TellsRow, shown_day, shown_details}
use Rattle.mds_commit.proofs.DayFacts.{below_self}

abbrev Entry : Type 0
Entry = ℕ × DetailsValue

abbrev day_of : Entry → ℕ
day_of entry = entry.0

-- ---- the last of a list

member_at : {X : Type 0} (xs : List X) (k : ℕ) (d : X) → k < length xs → Member (get_or xs k d) xs
member_at [] k d l = absurd (omega arith)
member_at (x ∷ xs) zero d l = inl refl
member_at (x ∷ xs) (suc k) d l = inr (member_at xs k d (omega arith))

get_last : {X : Type 0} (x : X) (front : List X) → slice_get (front ++ x ∷ []) (length front) ≡ Some x
get_last x [] = refl
get_last x (y ∷ front) = get_last x front

at_last : {X : Type 0} (x : X) (front : List X) → slice_get (front ++ x ∷ []) (length (front ++ x ∷ []) - 1) ≡ Some x
at_last x front =
    let n : length (front ++ x ∷ []) - 1 ≡ length front = omega (arith, length_push front x) in
    ap (slice_get (front ++ x ∷ [])) n ∙ get_last x front

-- what has a member has a last one
last_of : {X : Type 0} (xs : List X) (x : X) → Member x xs → (front : List X) × (y : X) × (xs ≡ front ++ y ∷ [])
last_of [] x m = absurd m
last_of (z ∷ []) x m = ([], z, refl)
last_of (z ∷ y ∷ ys) x m = let r = last_of (y ∷ ys) y (inl refl) in (z ∷ r.0, r.1, ap (λ l. z ∷ l) r.2)

-- ---- what stands before the last

pairs_head : {X : Type 0} (R : X → X → Type 0) (x : X) (xs : List X) → AllPairs (λ a b. R a b) (x ∷ xs) → (y : X) → Member y xs → R x y
pairs_head R x xs up y m =
    let at = place_of xs y x m in
    subst (R x) at.2 (up 0 (suc at.0) x (omega arith) (omega (arith, at.1)))

pairs_last : {X : Type 0} (R : X → X → Type 0) (front : List X) (y : X) → AllPairs (λ a b. R a b) (front ++ y ∷ [])
    → (x : X) → Member x front → R x y
pairs_last R [] y up x m = absurd m
pairs_last R (z ∷ zs) y up x (inl e) =
    subst (λ w. R w y) (sym e) (pairs_head R z (zs ++ y ∷ []) up y (append_right y zs (y ∷ []) (inl refl)))
pairs_last R (z ∷ zs) y up x (inr m) =
    pairs_last R zs y (λ i j d low high. up (suc i) (suc j) d (omega (arith, low)) (omega (arith, high))) x m

less_unless : (m n : ℕ) → m ≤ n → (m ≡ n → ⊥) → m < n
less_unless m n to apart = elim (le_or_lt n m) [ inl le ↦ absurd (apart (omega (arith, to, le))) | inr lt ↦ lt ]

-- ---- the day of the last entry

ends_at : (e : Entry) (front : List Entry) → EndsOn e.0 (front ++ e ∷ [])
ends_at e front = ap (option_map day_of) (at_last e front)

ended : (told : List Entry) (day : ℕ) → EndsOn day told → Member day (map day_of told)
ended [] day ends = cc
ended (x ∷ xs) day ends =
    let l = last_of (x ∷ xs) x (inl refl) in
    let same : Some l.1.0 ≡ Some day = sym (ends_at l.1 l.0) ∙ subst (EndsOn day) l.2 ends in
    let is : l.1.0 ≡ day = cc in
    let there : Member l.1 (x ∷ xs) = subst (Member l.1) (sym l.2) (append_right l.1 l.0 (l.1 ∷ []) (inl refl)) in
    subst (λ n. Member n (map day_of (x ∷ xs))) is (map_in day_of (x ∷ xs) l.1 there)

-- ---- one row more

module _ (front : List Row) (row : Row) (old : List Entry) (before : (x : Row) → Member x front → ComesFirst x row)
    (t : TellsDays front old) where
  no_later : (e : Entry) → Member e old → e.0 ≤ shown_day row
  no_later e m =
      let it = t.each e m in
      let to = (before it.0 it.1).0 in
      let is = it.2 in
      omega (arith, to, is)

  -- where the last entry isn't of the row's day, all are of earlier days
  earlier : (EndsOn (shown_day row) old → ⊥) → (e : Entry) → Member e old → e.0 < shown_day row
  earlier none e m =
      let l = last_of old e m in
      let there : Member l.1 old = subst (Member l.1) (sym l.2) (append_right l.1 l.0 (l.1 ∷ []) (inl refl)) in
      let ends : EndsOn l.1.0 old = subst (EndsOn l.1.0) (sym l.2) (ends_at l.1 l.0) in
      let last = less_unless l.1.0 (shown_day row) (no_later l.1 there) (λ same. none (subst (λ n. EndsOn n old) same ends)) in
      elim (member_append e l.0 (l.1 ∷ []) (subst (Member e) l.2 m)) [
        | inl f ↦
            let up = pairs_last (λ (a b : Entry). a.0 < b.0) l.0 l.1 (subst (AllPairs (λ (a b : Entry). a.0 < b.0)) l.2 t.ascending) e f in
            omega (arith, up, last)
        | inr n ↦ elim n [ inl is ↦ subst (λ (x : Entry). x.0 < shown_day row) (sym is) last | inr z ↦ absurd z ]
      ]

  each_old : (e : Entry) → Member e old → IsTold (front ++ row ∷ []) e
  each_old e m =
      let it = t.each e m in (
        it.0,
        append_left it.0 front (row ∷ []) it.1,
        it.2,
        it.3,
        (λ other n is. elim (member_append other front (row ∷ []) n) [
          | inl f ↦ it.4 other f is
          | inr l ↦ elim l [
            | inl same ↦ subst (λ x. IsBelow x it.0) (sym same) ((before it.0 it.1).1 (it.2 ∙ sym is ∙ ap shown_day same))
            | inr z ↦ absurd z
          ]
        ]),
      )

  known : EndsOn (shown_day row) old → TellsDays (front ++ row ∷ []) old
  known ends = record {
    each = each_old;
    all = λ x m. elim (member_append x front (row ∷ []) m) [
      | inl f ↦ t.all x f
      | inr l ↦ elim l [
        | inl same ↦ subst (λ r. Member (shown_day r) (map day_of old)) (sym same) (ended old (shown_day row) ends)
        | inr z ↦ absurd z
      ]
    ];
    ascending = t.ascending;
  }

  abbrev entry : Entry
  entry = (shown_day row, shown_details row)

  added : (EndsOn (shown_day row) old → ⊥) → TellsDays (front ++ row ∷ []) (old ++ entry ∷ [])
  added none = record {
    each = λ e m. elim (member_append e old (entry ∷ []) m) [
      | inl o ↦ each_old e o
      | inr l ↦ elim l [ inl same ↦ subst (IsTold (front ++ row ∷ [])) (sym same) here | inr z ↦ absurd z ]
    ];
    all = λ x m. elim (member_append x front (row ∷ []) m) [
      | inl f ↦
          let e = in_map day_of old (shown_day x) (t.all x f) in
          subst (λ n. Member n (map day_of (old ++ entry ∷ []))) (sym e.2)
          (map_in day_of (old ++ entry ∷ []) e.0 (append_left e.0 old (entry ∷ []) e.1))
      | inr l ↦ elim l [
        | inl same ↦
            subst (λ r. Member (shown_day r) (map day_of (old ++ entry ∷ []))) (sym same)
            (map_in day_of (old ++ entry ∷ []) entry (append_right entry old (entry ∷ []) (inl refl)))
        | inr z ↦ absurd z
      ]
    ];
    ascending = all_pairs_push (λ (a b : Entry). a.0 < b.0) old entry t.ascending
        (λ k d low. earlier none (get_or old k d) (member_at old k d low));
  }
    where
      here : IsTold (front ++ row ∷ []) entry
      here = (
        row,
        append_right row front (row ∷ []) (inl refl),
        refl,
        refl,
        (λ other n is. elim (member_append other front (row ∷ []) n) [
          | inl f ↦
              let e = in_map day_of old (shown_day other) (t.all other f) in
              let less = earlier none e.0 e.1 in
              let day = e.2 in
              absurd (omega (arith, less, day, is))
          | inr l ↦ elim l [ inl same ↦ subst (λ x. IsBelow x row) (sym same) (below_self row) | inr z ↦ absurd z ]
        ]),
      )

  one_told : (new : List Entry) → TellsRow old row new → TellsDays (front ++ row ∷ []) new
  one_told new (inl same) = subst (TellsDays (front ++ row ∷ [])) (sym same.1) (known same.0)
  one_told new (inr more) = subst (TellsDays (front ++ row ∷ [])) (sym more.1) (added more.0)

pub more_told : (rows : List Row) (i : ℕ) (row : Row) (old new : List Entry) → i < length rows → row ≡ slice_index_or rows i row
    → AreByDay rows → TellsDays (take i rows) old → TellsRow old row new → TellsDays (take (i + 1) rows) new
more_told rows i row old new low is up before one =
    subst (λ rs. TellsDays rs new) (sym (take_more rows i row low ∙ ap (λ x. take i rows ++ x ∷ []) (sym is)))
    (one_told (take i rows) row old first before new one)
  where
    first : (x : Row) → Member x (take i rows) → ComesFirst x row
    first x m =
        let at = place_of (take i rows) x row m in
        let within : at.0 < i = omega (arith, at.1, length-take i rows) in
        let there : slice_index_or rows at.0 row ≡ x = sym (get_or-take i rows at.0 row within) ∙ at.2 in
        subst (λ y. ComesFirst x y) (sym is) (subst (λ y. ComesFirst y (slice_index_or rows i row)) there (up at.0 i row within low))
