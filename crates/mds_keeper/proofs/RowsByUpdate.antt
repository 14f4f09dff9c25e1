-- Rows in the order of their updates, and whether those of one update are of one length.
use Rattle.std.specs.Prelude.{◌≡◌, ◌≢◌, ◌+◌, ◌<◌, ◌≤◌, ℕ, Bool, true, false, cond, nat_eq, List, length}
use Rattle.std.specs.Bool.{MatchBool}
use Rattle.std.specs.Cmp.{IsStrictWeakOrder, nat_cmp_total}
use Rattle.std.specs.List.{IsAllAdjacentAnswer}
use Rattle.std.specs.List.Sorted.{IsSortedBy}
use Rattle.std.specs.Ordering.{is_lt, nat_cmp}
use Rattle.std.proofs.Common.{sym, ap, ◌∙◌, subst, inl, inr, arith, zero, suc, get_or}
use Rattle.std.proofs.lemmas.List.Sorted.{ranks_by}
use Rattle.std.proofs.lemmas.Bool.{cases_lt}
use Rattle.std.proofs.lemmas.Bool.Decides.{eqb_tells}
use Rattle.mds_keeper.specs.BookRows.{OneLength, TwoLengths}
use Rattle.mds_keeper.specs.BookOrder.{AscendByUpdate, SameMembers, agrees, is_earlier}
use Rattle.mds_keeper.proofs.BookPlaces.{member_at, no_row, place_of}
use Rattle.mds_keeper.proofs.BookRowsMade.{lt_tells}
use Rattle.mds_keeper.specs.declared.day_book.Version.{Version}

-- ---- the sort

-- the order that it goes by
pub update_ranks : IsStrictWeakOrder is_earlier
update_ranks = ranks_by nat_cmp_total (λ (row : ℕ × Version). row.1.update)

not_less : (m n : ℕ) → is_lt (nat_cmp m n) ≡ false → n ≤ m
not_less m n h = elim (lt_tells m n) [ inl p ↦ absurd (cc p.0) | inr p ↦ p.1 ]

-- what it leaves ascends
pub by_update : (rows : List (ℕ × Version)) → IsSortedBy is_earlier rows → AscendByUpdate rows
by_update rows up i zero d h k = absurd (omega arith)
by_update rows up i (suc j) d h k =
    let next : j + 1 ≡ suc j = omega arith in
    let step : (get_or rows j d).1.update ≤ (get_or rows (suc j) d).1.update =
    subst (λ n. (get_or rows j d).1.update ≤ (get_or rows n d).1.update) next
    (not_less (get_or rows (j + 1) d).1.update (get_or rows j d).1.update (up j d (omega arith) (omega arith))) in
    elim (cases_lt i j) [
      | inl less ↦
          let before : (get_or rows i d).1.update ≤ (get_or rows j d).1.update = by_update rows up i j d less (omega arith) in
          omega arith
      | inr more ↦
          let same : j ≡ i = omega arith in
          subst (λ n. (get_or rows n d).1.update ≤ (get_or rows (suc j) d).1.update) same step
    ]

-- ---- the test

-- what the test of two rows says
alike : (u v m n : ℕ) → u ≡ v → true ≡ cond (nat_eq u v) (nat_eq m n) true → m ≡ n
alike u v m n e h = elim (eqb_tells u v) [
  | inl p ↦ elim (eqb_tells m n) [ inl q ↦ q.1 | inr q ↦ absurd (cc (p.0, q.0)) ]
  | inr p ↦ absurd (p.1 e)
]

differ : (u v m n : ℕ) → false ≡ cond (nat_eq u v) (nat_eq m n) true → (u ≡ v) × (m ≢ n)
differ u v m n h = elim (eqb_tells u v) [
  | inl p ↦ elim (eqb_tells m n) [ inl q ↦ absurd (cc (p.0, q.0)) | inr q ↦ (p.1, q.1) ]
  | inr p ↦ absurd (cc p.0)
]

-- each row agrees with the next
abbrev AgreeWithNext : List (ℕ × Version) → Type 0
AgreeWithNext rows = (k : ℕ) (d : ℕ × Version) → k + 1 < length rows → true ≡ agrees (get_or rows k d) (get_or rows (k + 1) d)

module _ (rows : List (ℕ × Version)) (up : AscendByUpdate rows) where
  -- no later row has an earlier update
  up_to : (i j : ℕ) (d : ℕ × Version) → i ≤ j → j < length rows → (get_or rows i d).1.update ≤ (get_or rows j d).1.update
  up_to i j d h k = elim (cases_lt i j) [
    | inl less ↦ up i j d less k
    | inr more ↦
        let same : i ≡ j = omega arith in
        let at = ap (λ n. (get_or rows n d).1.update) same in
        omega arith
  ]

  module _ (next : AgreeWithNext rows) where
    -- so the rows between two of one update are of that update, and of one length
    between : (i j : ℕ) (d : ℕ × Version) → i ≤ j → j < length rows → (get_or rows i d).1.update ≡ (get_or rows j d).1.update
        → (get_or rows i d).1.length ≡ (get_or rows j d).1.length
    between i zero d h k e =
        let same : i ≡ 0 = omega arith in
        ap (λ n. (get_or rows n d).1.length) same
    between i (suc j) d h k e = elim (cases_lt i (suc j)) [
      | inl less ↦
          let low : (get_or rows i d).1.update ≤ (get_or rows j d).1.update = up_to i j d (omega arith) (omega arith) in
          let high : (get_or rows j d).1.update ≤ (get_or rows (suc j) d).1.update = up j (suc j) d (omega arith) k in
          let first : (get_or rows i d).1.update ≡ (get_or rows j d).1.update = omega arith in
          let last : (get_or rows j d).1.update ≡ (get_or rows (suc j) d).1.update = omega arith in
          let at : j + 1 ≡ suc j = omega arith in
          between i j d (omega arith) (omega arith) first
          ∙ alike (get_or rows j d).1.update (get_or rows (suc j) d).1.update (get_or rows j d).1.length (get_or rows (suc j) d).1.length last
          (subst (λ n. true ≡ agrees (get_or rows j d) (get_or rows n d)) at (next j d (omega arith)))
      | inr more ↦
          let same : i ≡ suc j = omega arith in
          ap (λ n. (get_or rows n d).1.length) same
    ]

    at_places : (a b d : ℕ × Version) (i j : ℕ) → i ≤ j → j < length rows → get_or rows i d ≡ a → get_or rows j d ≡ b
        → a.1.update ≡ b.1.update → a.1.length ≡ b.1.length
    at_places a b d i j h k e f same =
        sym (ap (λ (x : ℕ × Version). x.1.length) e)
        ∙ between i j d h k (ap (λ (x : ℕ × Version). x.1.update) e ∙ same ∙ sym (ap (λ (x : ℕ × Version). x.1.update) f))
        ∙ ap (λ (x : ℕ × Version). x.1.length) f

    one_length : OneLength rows
    one_length a b m n e =
        let p = place_of a rows m in
        let q = place_of b rows n in
        elim (cases_lt q.0 p.0) [
          | inl less ↦ sym (at_places b a a q.0 p.0 (omega arith) p.1 (q.2 a) (p.2 a) (sym e))
          | inr more ↦ at_places a b a p.0 q.0 (omega arith) q.1 (p.2 a) (q.2 a) e
        ]

-- the test of each row and the next tells of all
pub lengths_told : (rows : List (ℕ × Version)) → AscendByUpdate rows → (r : Bool)
    → IsAllAdjacentAnswer (λ x y b. b ≡ agrees x y) rows r → MatchBool r (OneLength rows) (TwoLengths rows)
lengths_told rows up true next = one_length rows up next
lengths_told rows up false (k, h, other) =
    let d : ℕ × Version = no_row in
    let t = differ (get_or rows k d).1.update (get_or rows (k + 1) d).1.update (get_or rows k d).1.length
    (get_or rows (k + 1) d).1.length (other d) in
    (get_or rows k d, get_or rows (k + 1) d, member_at rows k d (omega arith), member_at rows (k + 1) d h, t.0, t.1)

-- ---- rows that lie in another order

pub lengths_kept : (old new : List (ℕ × Version)) → SameMembers old new → OneLength old → OneLength new
lengths_kept old new same one a b m n = one a b (same.only a m) (same.only b n)

pub lengths_before : (old new : List (ℕ × Version)) → SameMembers old new → (r : Bool)
    → MatchBool r (OneLength new) (TwoLengths new) → MatchBool r (OneLength old) (TwoLengths old)
lengths_before old new same true one = λ a b m n. one a b (same.kept a m) (same.kept b n)
lengths_before old new same false (a, b, m, n, e, other) = (a, b, same.only a m, same.only b n, e, other)
