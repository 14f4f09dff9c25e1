-- Suffixes in their order, each once.
use Rattle.std.proofs.Common.{◌≡◌, ◌≤◌, ℕ, List, [], ◌∷◌, ◌++◌, Option, None, Some, IfSome, length, refl, sym, ap, ◌∙◌, subst, inl, inr, arith}
use Rattle.std.specs.Cmp.{tied_itself}
use Rattle.std.specs.Cmp.Lexicographic.{nat_list_cmp_total, slice_cmp}
use Rattle.std.specs.FinSet.{nat_cmp-IsAntisymmetric, slice_cmp-IsAntisymmetric}
use Rattle.std.specs.Ordering.{nat_cmp, ordering_reverse}
use Rattle.std.specs.declared.cmp.Ordering.{Ordering}
use Rattle.std.specs.declared.cmp.Ordering.TheVariants.{Less, Equal, Greater}
use Rattle.std.proofs.lemmas.List.{length-append}
use Rattle.mds_world.proofs.Lists.{append_left, append_right, member_append}
use Rattle.mds_world.specs.Lists.{Member}
use Rattle.mds_ranges.specs.Selections.{AreDistinct, Ascend, HasManySuffixes}
use Rattle.mds_ranges.specs.SuffixesSteps.{IsAfter, IsBefore, IsNext}
use Rattle.mds_ranges.proofs.Pairs.{no_more, pairs_append, pairs_apart, pairs_one}

before_before : (a b c : List ℕ) → IsBefore a b → IsBefore b c → IsBefore a c
before_before a b c ab bc = nat_list_cmp_total.trans a b c ab bc

never : (a : List ℕ) → IsBefore a a → ⊥
never a less = let same : slice_cmp nat_cmp a a ≡ Equal = tied_itself nat_list_cmp_total a in cc

-- of two neither of which is before the other one is the other
same_place : (a b : List ℕ) → (IsBefore a b → ⊥) → (IsBefore b a → ⊥) → a ≡ b
same_place a b not_ab not_ba = by (slice_cmp nat_cmp a b) refl
  where
    by : (o : Ordering) → slice_cmp nat_cmp a b ≡ o → a ≡ b
    by Less e = absurd (not_ab e)
    by Equal e = slice_cmp-IsAntisymmetric nat_cmp-IsAntisymmetric a b e
    by Greater e = absurd (not_ba (nat_list_cmp_total.antisymm b a ∙ ap ordering_reverse e))

-- a suffix is after the last one or isn't
after_or : (last : Option (List ℕ)) (suffix : List ℕ) (C : Type 0) → (IsAfter last suffix → C)
    → ((IsAfter last suffix → ⊥) → C) → C
after_or None suffix C is not = is tt
after_or (Some last) suffix C is not = by (slice_cmp nat_cmp last suffix) refl
  where
    by : (o : Ordering) → slice_cmp nat_cmp last suffix ≡ o → C
    by Less e = is e
    by Equal e = not (λ h. let f = sym e ∙ h in cc)
    by Greater e = not (λ h. let f = sym e ∙ h in cc)

-- one more suffix is the next one where it is before that of the others
pub next_is : (last next : Option (List ℕ)) (xs : List (List ℕ)) (suffix : List ℕ) → IsNext last xs next
    → IsAfter last suffix → IfSome next (IsBefore suffix) → IsNext last (xs ++ suffix ∷ []) (Some suffix)
next_is last next xs suffix is after before = (
  append_right suffix xs (suffix ∷ []) (inl refl),
  after,
  λ other m other_after less. elim (member_append other xs (suffix ∷ []) m) [
    | inl a ↦ by next is before other a other_after less
    | inr b ↦ elim b [ inl e ↦ never suffix (subst (λ o. IsBefore o suffix) e less) | inr c ↦ c ]
  ],
)
  where
    by : (next : Option (List ℕ)) → IsNext last xs next → IfSome next (IsBefore suffix) → (other : List ℕ)
        → Member other xs → IsAfter last other → IsBefore other suffix → ⊥
    by None is before other m other_after less = is other m other_after
    by (Some next) is before other m other_after less =
        is.2 other m other_after (before_before other suffix next less before)

-- and else that of the others is
pub next_stays : (last next : Option (List ℕ)) (xs : List (List ℕ)) (suffix : List ℕ) → IsNext last xs next
    → (IsAfter last suffix × IfSome next (IsBefore suffix) → ⊥) → IsNext last (xs ++ suffix ∷ []) next
next_stays last None xs suffix is not = λ other m after. elim (member_append other xs (suffix ∷ []) m) [
  | inl a ↦ is other a after
  | inr b ↦ elim b [ inl e ↦ not (subst (IsAfter last) e after, tt) | inr c ↦ c ]
]
next_stays last (Some next) xs suffix is not = (
  append_left next xs (suffix ∷ []) is.0,
  is.1,
  λ other m after less. elim (member_append other xs (suffix ∷ []) m) [
    | inl a ↦ is.2 other a after less
    | inr b ↦ elim b [
      | inl e ↦ not (subst (IsAfter last) e after, subst (λ o. IsBefore o next) e less)
      | inr c ↦ c
    ]
  ],
)

-- The distinct ones of suffixes up to the last one.
pub record AreUpTo (last : Option (List ℕ)) (suffixes distinct : List (List ℕ)) : Type 0 where
  pub each : (suffix : List ℕ) → Member suffix distinct → Member suffix suffixes
  pub whole : (suffix : List ℕ) → Member suffix suffixes → (IsAfter last suffix → ⊥) → Member suffix distinct
  pub before : (suffix other : List ℕ) → Member suffix distinct → IsAfter last other → IsBefore suffix other
  pub ascending : Ascend distinct

-- up to the next one these are one more
pub up_to_next : (last : Option (List ℕ)) (suffixes distinct : List (List ℕ)) (next : List ℕ)
    → AreUpTo last suffixes distinct → IsNext last suffixes (Some next)
    → AreUpTo (Some next) suffixes (distinct ++ next ∷ [])
up_to_next last suffixes distinct next are is = record {
  each = λ suffix m. elim (member_append suffix distinct (next ∷ []) m) [
    | inl a ↦ are.each suffix a
    | inr b ↦ elim b [ inl e ↦ subst (λ s. Member s suffixes) (sym e) is.0 | inr c ↦ absurd c ]
  ];
  whole = λ suffix m not. after_or last suffix (Member suffix (distinct ++ next ∷ []))
      (λ after. append_right suffix distinct (next ∷ []) (inl (same_place suffix next (is.2 suffix m after) not)))
      (λ none. append_left suffix distinct (next ∷ []) (are.whole suffix m none));
  before = λ suffix other m after. elim (member_append suffix distinct (next ∷ []) m) [
    | inl a ↦ before_before suffix next other (are.before suffix next a is.1) after
    | inr b ↦ elim b [ inl e ↦ subst (λ s. IsBefore s other) (sym e) after | inr c ↦ absurd c ]
  ];
  ascending = pairs_append IsBefore distinct (next ∷ []) are.ascending (pairs_one IsBefore next) (λ a b m n.
      elim n [ inl e ↦ subst (IsBefore a) (sym e) (are.before a next m is.1) | inr c ↦ absurd c ]);
}

-- without a next one these are all
pub up_to_all : (last : Option (List ℕ)) (suffixes distinct : List (List ℕ)) → AreUpTo last suffixes distinct
    → IsNext last suffixes None → AreDistinct suffixes distinct
up_to_all last suffixes distinct are none = record {
  each = λ suffix. (are.each suffix, λ m. are.whole suffix m (none suffix m));
  ascending = are.ascending;
}

-- eight and a next one are many
pub up_to_many : (last : Option (List ℕ)) (suffixes distinct : List (List ℕ)) (next : List ℕ)
    → AreUpTo last suffixes distinct → IsNext last suffixes (Some next) → length distinct ≡ 8 → HasManySuffixes suffixes
up_to_many last suffixes distinct next are is eight =
    let more = up_to_next last suffixes distinct next are is in
    let size = length-append distinct (next ∷ []) in (
      distinct ++ next ∷ [],
      pairs_apart IsBefore never (distinct ++ next ∷ []) more.ascending,
      more.each,
      omega (arith, size, eight),
    )

-- suffixes of which at most eight are distinct aren't many
pub not_many : (suffixes distinct : List (List ℕ)) → AreDistinct suffixes distinct → length distinct ≤ 8
    → HasManySuffixes suffixes → ⊥
not_many suffixes distinct are few many =
    let within = no_more many.0 distinct many.1 (λ suffix m. (are.each suffix).1 (many.2 suffix m)) in
    let more = many.3 in omega (arith, within, more, few)
