-- The updates that were claimed of a day, as they lie: the first one, and the others in a map.
use Rattle.std.proofs.Common.{◌≡◌, ◌≢◌, ℕ, List, [], ◌∷◌, Option, Some, None, refl, sym, ap, ◌∙◌, subst, inl, inr, arith, Bor}
use Rattle.std.specs.Prelude.{Bool, true, false, cond, IfNone, IfSome}
use Rattle.std.specs.BTreeMap.{insert_entry}
use Rattle.std.specs.Map.{lookup}
use Rattle.std.specs.Option.{option_copied}
use Rattle.std.specs.Ordering.{is_eq, nat_cmp, match_ordering}
use Rattle.std.specs.declared.cmp.Ordering.{Ordering}
use Rattle.std.specs.declared.cmp.Ordering.TheVariants.{Less, Equal, Greater}
use Rattle.std.proofs.lemmas.Bool.Decides.{nat_tests}
use Rattle.mds_world.specs.Lists.{Member}
use Rattle.mds_keeper.specs.ClaimedUpdates.{ComesBeside, entries_of}
use Rattle.mds_keeper.specs.declared.claimed.ClaimedReadings.{ClaimedReadings}
use Rattle.mds_keeper.specs.declared.claimed.ClaimedUpdate.{ClaimedUpdate}
use Rattle.mds_keeper.proofs.Rows.{same_some}

nat_tied : (a b : ℕ) → is_eq (nat_cmp a b) ≡ true → a ≡ b
nat_tied a b e = grind (arith, nat_tests)

nat_tie : (a : ℕ) → is_eq (nat_cmp a a) ≡ true
nat_tie a = grind (arith, nat_tests)

-- a map's look-up by the order of the keys
found_entry : {V : Type 0} (row : ℕ → Ordering) (key : ℕ) (order : (other : ℕ) → row other ≡ nat_cmp key other)
    (es : List (ℕ × V)) (v : V) → Some v ≡ lookup (λ k. is_eq (row k)) es → Member (key, v) es
found_entry row key order [] v e = cc
found_entry row key order (x ∷ es) v e = go (is_eq (row x.0)) refl (found_entry row key order es v) e
  where
    go : (t : Bool) → is_eq (row x.0) ≡ t → (Some v ≡ lookup (λ k. is_eq (row k)) es → Member (key, v) es) → Some v ≡ cond t (Some x.1) (lookup (λ k. is_eq (row k)) es) → Member (key, v) (x ∷ es)
    go true t rest f =
        let k : key ≡ x.0 = nat_tied key x.0 (sym (ap is_eq (order x.0)) ∙ t) in
        inl (λ i. (k i, same_some v x.1 f i))
    go false t rest f = inr (rest f)

absent_entry : {V : Type 0} (row : ℕ → Ordering) (key : ℕ) (order : (other : ℕ) → row other ≡ nat_cmp key other)
    (es : List (ℕ × V)) → None ≡ lookup (λ k. is_eq (row k)) es
    → (entry : ℕ × V) → Member entry es → entry.0 ≢ key
absent_entry row key order [] e entry m = absurd m
absent_entry row key order (x ∷ es) e entry m =
    go (is_eq (row x.0)) refl (λ f. absent_entry row key order es f entry) e m
  where
    go : (t : Bool) → is_eq (row x.0) ≡ t
        → (None ≡ lookup (λ k. is_eq (row k)) es → Member entry es → entry.0 ≢ key) → None ≡ cond t (Some x.1) (lookup (λ k. is_eq (row k)) es)
        → Member entry (x ∷ es) → entry.0 ≢ key
    go true t rest f n = cc
    go false t rest f (inl k) = λ same.
        let tie : is_eq (row x.0) ≡ true = ap is_eq (order x.0) ∙ ap (λ z. is_eq (nat_cmp key z)) (sym (ap (λ y. y.0) k) ∙ same) ∙ nat_tie key in
        cc
    go false t rest f (inr n) = rest f n

-- a key that isn't there goes in between
module _ {V : Type 0} (cmp : ℕ → ℕ → Ordering) (key : ℕ) (order : (other : ℕ) → cmp key other ≡ nat_cmp key other) (v : V) where
  not_equal : (other : ℕ) → other ≢ key → cmp key other ≢ Equal
  not_equal other apart e = apart (sym (nat_tied key other (ap is_eq (sym (order other) ∙ e))))

  pub put_beside : (es : List (ℕ × V)) → ((e : ℕ × V) → Member e es → e.0 ≢ key) → ComesBeside es (insert_entry cmp es key v) (key, v)
  put_beside [] none = ([], [], refl, refl)
  put_beside (e ∷ es) none = go (cmp key e.0) (not_equal e.0 (none e (inl refl))) (put_beside es (λ y k. none y (inr k)))
    where
      go : (o : Ordering) → o ≢ Equal → ComesBeside es (insert_entry cmp es key v) (key, v)
          → ComesBeside (e ∷ es) (match_ordering o ((key, v) ∷ e ∷ es) ((e.0, v) ∷ es) (e ∷ insert_entry cmp es key v)) (key, v)
      go Less h rest = ([], e ∷ es, refl, refl)
      go Equal h rest = absurd (h refl)
      go Greater h rest = (e ∷ rest.0, rest.1, ap (λ l. e ∷ l) rest.2, ap (λ l. e ∷ l) rest.3)

-- what is among the others is among all
pub among_all : (first : Option ClaimedUpdate) (others : List (ℕ × ClaimedReadings)) (x : ℕ × ClaimedReadings)
    → Member x others → Member x (entries_of first others)
among_all None others x m = m
among_all (Some f) others x m = inr m

module _ (first : Option ClaimedUpdate) (others all : List (ℕ × ClaimedReadings)) (is : entries_of first others ≡ all) (update : ℕ) where
  module _ (row : ℕ → Ordering) (order : (other : ℕ) → row other ≡ nat_cmp update other) where
    pub found : (r : Option (Bor ClaimedReadings)) → option_copied r ≡ lookup (λ k. is_eq (row k)) others
        → IfSome r (λ kept. Member (update, kept.now) all)
    found None got = tt
    found (Some kept) got =
        subst (Member (update, kept.now)) is (among_all first others _ (found_entry row update order others kept.now got))

    pub missed : ((f : ClaimedUpdate) → first ≡ Some f → f.update ≢ update) → (r : Option (Bor ClaimedReadings))
        → option_copied r ≡ lookup (λ k. is_eq (row k)) others
        → IfNone r ((kept : ClaimedReadings) → Member (update, kept) all → ⊥)
    missed apart (Some kept) got = tt
    missed apart None got = λ kept m. go kept first refl (subst (Member (update, kept)) (sym is) m)
      where
        go : (kept : ClaimedReadings) (o : Option ClaimedUpdate) → first ≡ o → Member (update, kept) (entries_of o others) → ⊥
        go kept None e n = absent_entry row update order others got _ n refl
        go kept (Some f) e (inl same) = apart f e (sym (ap (λ x. x.0) same))
        go kept (Some f) e (inr n) = absent_entry row update order others got _ n refl

  pub inserted : (cmp : ℕ → ℕ → Ordering) → ((other : ℕ) → cmp update other ≡ nat_cmp update other) → (v : ClaimedReadings)
      → ((kept : ClaimedReadings) → Member (update, kept) all → ⊥) → (next : List (ℕ × ClaimedReadings))
      → next ≡ insert_entry cmp others update v → ComesBeside all (entries_of first next) (update, v)
  inserted cmp order v absent next put =
      subst (λ l. ComesBeside l (entries_of first next) (update, v)) is
      (subst (λ l. ComesBeside (entries_of first others) (entries_of first l) (update, v)) (sym put)
      (go first (put_beside cmp update order v others (λ e m same.
      absent e.1 (subst (Member (update, e.1)) is (among_all first others _ (subst (λ u. Member (u, e.1) others) same m)))))))
    where
      go : (o : Option ClaimedUpdate) → ComesBeside others (insert_entry cmp others update v) (update, v)
          → ComesBeside (entries_of o others) (entries_of o (insert_entry cmp others update v)) (update, v)
      go None p = p
      go (Some f) p = ((f.update, f.kept) ∷ p.0, p.1, ap (λ l. (f.update, f.kept) ∷ l) p.2, ap (λ l. (f.update, f.kept) ∷ l) p.3)
