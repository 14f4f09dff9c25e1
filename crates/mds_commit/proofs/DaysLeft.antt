-- Sets of days, by their members.
use Rattle.std.proofs.Common.{◌≡◌, ◌↔◌, ◌<◌, ◌≤◌, ◌+◌, inl, inr, ℕ, List, [], ◌∷◌, ◌++◌, Bool, true, false, cond, All, length, slice_index_or, take, refl, sym, ap, subst, ◌∙◌, arith}
use Rattle.std.proofs.lemmas.List.{take_more}
use Rattle.std.specs.BTreeMap.{is_at}
use Rattle.std.specs.BTreeMap.Range.{IsLeBy}
use Rattle.std.specs.BTreeSet.{BTreeSet, IsFromIterResult, contains}
use Rattle.std.specs.Cmp.{Equal-is, nat_cmp_total, ranks, tied_itself}
use Rattle.std.specs.FinSet.{nat_cmp-IsAntisymmetric}
use Rattle.std.specs.List.{AllPairs, list_any}
use Rattle.std.specs.Ordering.{MatchOrdering, is_gt, is_lt, nat_cmp}
use Rattle.std.specs.declared.cmp.Ordering.{Ordering}
use Rattle.std.specs.declared.cmp.Ordering.TheVariants.{Less, Equal, Greater}
use Rattle.sqlite_value.specs.Order.{Row, column}
use Rattle.mds_world.proofs.Lists.{append_left, append_right, member_append}
use Rattle.mds_world.proofs.Sets.{or_left, or_right, split_or}
use Rattle.mds_world.specs.Lists.{Member}
use Rattle.mds_tables.specs.Cells.{number_cell}
use Rattle.mds_tables.proofs.MemberLemmas.{place_of}
use Rattle.mds_commit.specs.Shown.{AreLeft}

-- ---- a look-up finds just what is there

is_here : (q k : ℕ) → is_at (nat_cmp q) k ≡ true → q ≡ k
is_here q k h = nat_cmp-IsAntisymmetric q k ((Equal-is (nat_cmp q k)).0 h)

here_is : (q k : ℕ) → q ≡ k → is_at (nat_cmp q) k ≡ true
here_is q k e = subst (λ x. is_at (nat_cmp q) x ≡ true) e ((Equal-is (nat_cmp q q)).1 (tied_itself nat_cmp_total q))

found : (q : ℕ) (ks : List ℕ) → list_any (is_at (nat_cmp q)) ks ≡ true → Member q ks
found q [] h = cc
found q (k ∷ ks) h = elim (split_or (is_at (nat_cmp q) k) _ h) [
  | inl a ↦ inl (is_here q k a)
  | inr b ↦ inr (found q ks b)
]

finds : (q : ℕ) (ks : List ℕ) → Member q ks → list_any (is_at (nat_cmp q)) ks ≡ true
finds q [] m = absurd m
finds q (k ∷ ks) (inl e) = or_left (is_at (nat_cmp q) k) _ (here_is q k e)
finds q (k ∷ ks) (inr m) = or_right (is_at (nat_cmp q) k) _ (finds q ks m)

-- a set that was collected of a list
pub collected : (xs : List ℕ) (set : BTreeSet ℕ) → IsFromIterResult nat_cmp xs set → (q : ℕ) → Member q set.keys ↔ Member q xs
collected xs set r q = (
  (λ m. found q xs (sym (r.0 q) ∙ finds q set.keys m)),
  (λ m. found q set.keys (r.0 q ∙ finds q xs m)),
)

-- the days after one is taken out
removed : (old new : BTreeSet ℕ) (key : ℕ)
    → ((q : ℕ) → contains nat_cmp new q ≡ cond (is_at (nat_cmp key) q) false (contains nat_cmp old q))
    → (q : ℕ) → Member q new.keys ↔ (Member q old.keys × (q ≡ key → ⊥))
removed old new key h q = (
  (λ m. by (is_at (nat_cmp key) q) refl (sym (finds q new.keys m) ∙ h q)),
  (λ p. found q new.keys (h q ∙ other (is_at (nat_cmp key) q) refl p.1 ∙ finds q old.keys p.0)),
)
  where
    other : (b : Bool) → is_at (nat_cmp key) q ≡ b → (q ≡ key → ⊥) → cond b false (contains nat_cmp old q) ≡ contains nat_cmp old q
    other true e n = absurd (n (sym (is_here key q e)))
    other false e n = refl

    by : (b : Bool) → is_at (nat_cmp key) q ≡ b → true ≡ cond b false (contains nat_cmp old q)
        → Member q old.keys × (q ≡ key → ⊥)
    by true e t = cc
    by false e t = (found q old.keys (sym t), (λ i. let here = here_is key q (sym i) in cc))

-- ---- the ends of a set

no_greater : (a b : ℕ) (r : Ordering) → MatchOrdering r (a < b) (a ≡ b) (b < a) → is_gt r ≡ false → a ≤ b
no_greater a b Less m h = omega (arith, m)
no_greater a b Equal m h = omega (arith, m)
no_greater a b Greater m h = absurd (cc)

no_less : (a b : ℕ) (r : Ordering) → MatchOrdering r (a < b) (a ≡ b) (b < a) → is_lt r ≡ false → b ≤ a
no_less a b Less m h = absurd (cc)
no_less a b Equal m h = omega (arith, m)
no_less a b Greater m h = omega (arith, m)

pub within : (ks : List ℕ) (a b : ℕ) → All (IsLeBy nat_cmp a) ks → All (λ q. is_lt (nat_cmp b q) ≡ false) ks
    → (q : ℕ) → Member q ks → (a ≤ q) × (q ≤ b)
within ks a b low high q m =
    let at = place_of ks q 0 m in (
      no_greater a q (nat_cmp a q) (ranks a q) (subst (IsLeBy nat_cmp a) at.2 (low at.0 0 at.1)),
      no_less b q (nat_cmp b q) (ranks b q) (subst (λ x. is_lt (nat_cmp b x) ≡ false) at.2 (high at.0 0 at.1)),
    )

below : (a b : ℕ) (r : Ordering) → MatchOrdering r (a < b) (a ≡ b) (b < a) → r ≡ Less → a < b
below a b Less m e = m
below a b Equal m e = absurd (cc)
below a b Greater m e = absurd (cc)

-- ascending in the order of a set is ascending
pub ascending : (ks : List ℕ) → AllPairs (λ a b. nat_cmp a b ≡ Less) ks → AllPairs (λ a b. a < b) ks
ascending ks up i j d low high =
    below (slice_index_or ks i d) (slice_index_or ks j d) _ (ranks (slice_index_or ks i d) (slice_index_or ks j d)) (up i j d low high)

-- ---- the days that are left

-- a row takes out the day that it says
pub one_taken : (old new : BTreeSet ℕ) (row : Row) (day : ℕ) → column row 0 ≡ number_cell day
    → ((q : ℕ) → contains nat_cmp new q ≡ cond (is_at (nat_cmp day) q) false (contains nat_cmp old q))
    → AreLeft old.keys (row ∷ []) new.keys
one_taken old new row day says h q =
    let it = removed old new day h q in (
      (λ m.
          let p = it.0 m in (
            p.0,
            (λ r here is. elim here [
              | inl e ↦
                  let same : number_cell q ≡ number_cell day = sym is ∙ ap (λ x. column x 0) e ∙ says in
                  p.1 (cc)
              | inr z ↦ z
            ]),
          )),
      (λ p. it.1 (p.0, (λ e. p.1 row (inl refl) (says ∙ ap number_cell (sym e))))),
    )

pub none_taken : (ks : List ℕ) → AreLeft ks [] ks
none_taken ks q = ((λ m. (m, (λ r here is. here))), (λ p. p.0))

-- one row more
pub more_taken : (old mid new : List ℕ) (rows : List Row) (i : ℕ) (row : Row) → i < length rows → row ≡ slice_index_or rows i row
    → AreLeft old (take i rows) mid → AreLeft mid (row ∷ []) new → AreLeft old (take (i + 1) rows) new
more_taken old mid new rows i row low is before one =
    subst (λ rs. AreLeft old rs new) (sym (take_more rows i row low ∙ ap (λ x. take i rows ++ x ∷ []) (sym is))) both
  where
    both : AreLeft old (take i rows ++ row ∷ []) new
    both q = (
      (λ m.
          let p = (one q).0 m in
          let b = (before q).0 p.0 in
          (b.0, (λ r here. elim (member_append r (take i rows) (row ∷ []) here) [ inl n ↦ b.1 r n | inr n ↦ p.1 r n ]))),
      (λ p. (one q).1 (
        (before q).1 (p.0, (λ r n. p.1 r (append_left r (take i rows) (row ∷ []) n))),
        (λ r n. p.1 r (append_right r (take i rows) (row ∷ []) n)),
      )),
    )
