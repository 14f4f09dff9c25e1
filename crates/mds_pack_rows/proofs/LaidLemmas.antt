-- The readings of a day that are laid beside others, and the versions that they are.
use Rattle.std.proofs.Common.{◌≡◌, ◌⊎◌, Bool, true, false, ◌||◌, suc, length, is_some, inl, inr, ℕ, ◌+◌, List, [], ◌∷◌, ◌++◌, Option, Some, None, option_map, refl, sym, ap, subst, ◌∙◌}
use Rattle.std.specs.Option.{option_and_then}
use Rattle.mds_names.specs.declared.stream.Stream.{Stream}
use Rattle.mds_marks.specs.Reading.{ReadingValue}
use Rattle.mds_world.specs.Facts.{Fact}
use Rattle.mds_world.specs.Lists.{Member}
use Rattle.mds_world.specs.World.{union}
use Rattle.mds_world.proofs.Members.{in_list, in_union, list_in, same_by, union_left, union_right}
use Rattle.mds_tables.proofs.RowLemmas.{IsMore, of}
use Rattle.mds_packs.proofs.Whole.{any_held}
use Rattle.mds_pack_rows.specs.Laying.{held_of, laid}
use Rattle.mds_pack_rows.specs.PackFacts.{facts_from, minutes_of, readings_facts}

-- both parts of what is laid
pub record Parts (one other : Option ReadingValue) (ones others all : List (Option ReadingValue)) : Type 0 where
  pub held : Option ReadingValue
  pub more : List (Option ReadingValue)
  pub held_is : held_of one other ≡ Some held
  pub more_is : laid ones others ≡ Some more
  pub all_is : all ≡ held ∷ more

pub parts : (one other : Option ReadingValue) (ones others all : List (Option ReadingValue)) → laid (one ∷ ones) (other ∷ others) ≡ Some all
    → Parts one other ones others all
parts one other ones others all e =
    elim (held_of one other) as (λ (h : Option (Option ReadingValue)). held_of one other ≡ h
    → option_and_then (λ held. option_map (λ more. held ∷ more) (laid ones others)) h ≡ Some all
    → Parts one other ones others all) [
      | None ↦ λ is e. absurd cc
      | Some held ↦ λ is e. elim (laid ones others) as (λ (l : Option (List (Option ReadingValue))). laid ones others ≡ l
          → option_map (λ more. held ∷ more) l ≡ Some all → Parts one other ones others all) [
            | None ↦ λ made e. absurd cc
            | Some more ↦ λ made e. record { held = held; more = more; held_is = is; more_is = made; all_is = cc }
          ] refl e
    ] refl e

module _ (s : Stream) (day minutes update : ℕ) (f : Fact) where
  -- it is the version of an interval
  abbrev At : ℕ → Option ReadingValue → Type 0
  At interval reading = Member f (facts_from s day minutes update interval (reading ∷ []))

  here : (interval : ℕ) (reading : Option ReadingValue) (more : List (Option ReadingValue)) → Member f (facts_from s day minutes update interval (reading ∷ more))
      → At interval reading ⊎ Member f (facts_from s day minutes update (interval + 1) more)
  here interval None more m = inr m
  here interval (Some r) more (inl e) = inl (inl e)
  here interval (Some r) more (inr m) = inr m

  first : (interval : ℕ) (reading : Option ReadingValue) (more : List (Option ReadingValue)) → At interval reading → Member f (facts_from s day minutes update interval (reading ∷ more))
  first interval None more m = absurd m
  first interval (Some r) more (inl e) = inl e
  first interval (Some r) more (inr m) = absurd m

  later : (interval : ℕ) (reading : Option ReadingValue) (more : List (Option ReadingValue)) → Member f (facts_from s day minutes update (interval + 1) more)
      → Member f (facts_from s day minutes update interval (reading ∷ more))
  later interval None more m = m
  later interval (Some r) more m = inr m

  held_in : (interval : ℕ) (one other held : Option ReadingValue) → held_of one other ≡ Some held → At interval held → At interval one ⊎ At interval other
  held_in interval None other held e m = inr (subst (At interval) (sym (let it : other ≡ held = cc in it)) m)
  held_in interval (Some r) None held e m = inl (subst (At interval) (sym (let it : Some r ≡ held = cc in it)) m)
  held_in interval (Some r) (Some t) held e m = absurd cc

  in_held : (interval : ℕ) (one other held : Option ReadingValue) → held_of one other ≡ Some held → At interval one ⊎ At interval other → At interval held
  in_held interval None other held e (inl m) = absurd m
  in_held interval None other held e (inr m) = subst (At interval) (let it : other ≡ held = cc in it) m
  in_held interval (Some r) None held e (inl m) = subst (At interval) (let it : Some r ≡ held = cc in it) m
  in_held interval (Some r) None held e (inr m) = absurd m
  in_held interval (Some r) (Some t) held e m = absurd cc

  laid_in : (interval : ℕ) (ones others all : List (Option ReadingValue)) → laid ones others ≡ Some all → Member f (facts_from s day minutes update interval all)
      → Member f (facts_from s day minutes update interval ones) ⊎ Member f (facts_from s day minutes update interval others)
  laid_in interval [] [] all e m = absurd (subst (λ l. Member f (facts_from s day minutes update interval l)) (sym (let it : [] ≡ all = cc in it)) m)
  laid_in interval [] (o ∷ others) all e m = absurd cc
  laid_in interval (o ∷ ones) [] all e m = absurd cc
  laid_in interval (one ∷ ones) (other ∷ others) all e m =
      let p = parts one other ones others all e in
      elim (here interval p.held p.more (subst (λ l. Member f (facts_from s day minutes update interval l)) p.all_is m)) [
        | inl at ↦ elim (held_in interval one other p.held p.held_is at) [
          | inl a ↦ inl (first interval one ones a)
          | inr b ↦ inr (first interval other others b)
        ]
        | inr on ↦ elim (laid_in (interval + 1) ones others p.more p.more_is on) [
          | inl a ↦ inl (later interval one ones a)
          | inr b ↦ inr (later interval other others b)
        ]
      ]

  in_laid : (interval : ℕ) (ones others all : List (Option ReadingValue)) → laid ones others ≡ Some all
      → Member f (facts_from s day minutes update interval ones) ⊎ Member f (facts_from s day minutes update interval others) → Member f (facts_from s day minutes update interval all)
  in_laid interval [] [] all e (inl m) = absurd m
  in_laid interval [] [] all e (inr m) = absurd m
  in_laid interval [] (o ∷ others) all e m = absurd cc
  in_laid interval (o ∷ ones) [] all e m = absurd cc
  in_laid interval (one ∷ ones) (other ∷ others) all e m =
      let p = parts one other ones others all e in
      subst (λ l. Member f (facts_from s day minutes update interval l)) (sym p.all_is)
      (elim m [
        | inl a ↦ elim (here interval one ones a) [
          | inl at ↦ first interval p.held p.more (in_held interval one other p.held p.held_is (inl at))
          | inr on ↦ later interval p.held p.more (in_laid (interval + 1) ones others p.more p.more_is (inl on))
        ]
        | inr b ↦ elim (here interval other others b) [
          | inl at ↦ first interval p.held p.more (in_held interval one other p.held p.held_is (inr at))
          | inr on ↦ later interval p.held p.more (in_laid (interval + 1) ones others p.more p.more_is (inr on))
        ]
      ])

-- What is laid says what both say.
laid_more : (s : Stream) (day minutes update interval : ℕ) (ones others all : List (Option ReadingValue)) → laid ones others ≡ Some all
    → IsMore (facts_from s day minutes update interval all) (facts_from s day minutes update interval ones) (facts_from s day minutes update interval others)
laid_more s day minutes update interval ones others all e =
    let facts = facts_from s day minutes update interval in
    same_by (of (facts all)) (union (of (facts ones)) (of (facts others)))
    (λ f m. elim (laid_in s day minutes update f interval ones others all e (in_list (facts all) f m)) [
      | inl a ↦ union_left (of (facts ones)) (of (facts others)) f (list_in (facts ones) f a)
      | inr b ↦ union_right (of (facts ones)) (of (facts others)) f (list_in (facts others) f b)
    ])
    (λ f m. list_in (facts all) f (in_laid s day minutes update f interval ones others all e
    (elim (in_union (of (facts ones)) (of (facts others)) f m) [
      | inl a ↦ inl (in_list (facts ones) f a)
      | inr b ↦ inr (in_list (facts others) f b)
    ])))

abbrev Held : Type 0
Held = Option ReadingValue

-- what is laid behind what was laid before it
abbrev pub with_front : List Held → Option (List Held) → Option (List Held)
with_front front o = option_map (λ more. front ++ more) o

-- ---- what is laid holds a reading, and has the length of both

laid_front : (ones others all : List Held) → laid ones others ≡ Some all → length all ≡ length ones
laid_front [] [] all e = ap length (sym (let it : [] ≡ all = cc in it))
laid_front [] (o ∷ others) all e = absurd cc
laid_front (o ∷ ones) [] all e = absurd cc
laid_front (one ∷ ones) (other ∷ others) all e =
    let p = parts one other ones others all e in ap length p.all_is ∙ ap suc (laid_front ones others p.more p.more_is)

pub laid_length : (ones others all : List Held) → laid ones others ≡ Some all → length all ≡ length others
laid_length [] [] all e = ap length (sym (let it : [] ≡ all = cc in it))
laid_length [] (o ∷ others) all e = absurd cc
laid_length (o ∷ ones) [] all e = absurd cc
laid_length (one ∷ ones) (other ∷ others) all e =
    let p = parts one other ones others all e in ap length p.all_is ∙ ap suc (laid_length ones others p.more p.more_is)

-- so it is of the length of both, and says what both say
pub laid_said : (s : Stream) (day update : ℕ) (ones others all : List Held) → laid ones others ≡ Some all
    → IsMore (readings_facts s day update all) (readings_facts s day update ones) (readings_facts s day update others)
laid_said s day update ones others all e =
    let one = laid_front ones others all e in
    let other = laid_length ones others all e in
    laid_more s day (minutes_of (length all)) update 1 ones others all e
    ∙ (λ i. union (of (facts_from s day (minutes_of (one i)) update 1 ones)) (of (facts_from s day (minutes_of (other i)) update 1 others)))

held_some : (one other held : Held) → held_of one other ≡ Some held → is_some other ≡ true → is_some held ≡ true
held_some None other held e some = ap is_some (sym (let it : other ≡ held = cc in it)) ∙ some
held_some (Some r) None held e some = absurd cc
held_some (Some r) (Some o) held e some = absurd cc

pub laid_some : (ones others all : List Held) → laid ones others ≡ Some all → any_held others ≡ true → any_held all ≡ true
laid_some [] [] all e some = absurd cc
laid_some [] (o ∷ others) all e some = absurd cc
laid_some (o ∷ ones) [] all e some = absurd cc
laid_some (one ∷ ones) (other ∷ others) all e some =
    let p = parts one other ones others all e in
    ap any_held p.all_is
    ∙ elim (is_some other) as (λ b. is_some other ≡ b → (b || any_held others) ≡ true → (is_some p.held || any_held p.more) ≡ true) [
      | true ↦ λ is _. ap (λ b. b || any_held p.more) (held_some one other p.held p.held_is is)
      | false ↦ λ _ rest. or_true (is_some p.held) _ (laid_some ones others p.more p.more_is rest)
    ] refl some
  where
    or_true : (a b : Bool) → b ≡ true → (a || b) ≡ true
    or_true true b h = refl
    or_true false b h = h
