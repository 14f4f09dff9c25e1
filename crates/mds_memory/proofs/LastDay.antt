-- The last known day of a stream: that of the last of its entries that has a head.
use Rattle.std.proofs.Common.{◌≡◌, ℕ, true, false, List, [], ◌∷◌, ◌++◌, None, Some, sym, ◌∙◌, subst, inl, inr, refl, arith}
use Rattle.std.proofs.lemmas.List.{append-nil}
use Rattle.mds_names.specs.declared.stream.Stream.{Stream}
use Rattle.mds_world.proofs.Lists.{append_right, member_append}
use Rattle.mds_world.specs.Lists.{Member}
use Rattle.mds_world.specs.World.{IsKnownDay}
use Rattle.mds_keeper.specs.Queries.{IsLastDayOf}
use Rattle.mds_memory.specs.Stored.{AreOfTheirDays, days_world, is_headed, last_number, place_cmp}
use Rattle.mds_memory.proofs.Ascending as up
use Rattle.mds_memory.proofs.Ascending.{Ascends}
use Rattle.mds_memory.proofs.DaysBetween.{Entry, between, between_ascends, between_in, in_between, in_stream, is_known, known_entry, less_means}
use Rattle.mds_memory.proofs.Runs.{across_push}
use Rattle.mds_memory.proofs.StoredDays.{Kept}

module _ (days : Kept) (stream : Stream) where
  -- the entries of the stream
  abbrev pub all : List Entry
  all = between days stream 0 last_number

  -- None of those behind what is left of them has a head.
  pub record IsWalked (left : List Entry) : Type 0 where
    pub behind : List Entry
    pub whole : left ++ behind ≡ all
    pub none : (e : Entry) → Member e behind → is_headed e.1 ≡ true → ⊥

  pub begin : (left : List Entry) → left ≡ all → IsWalked left
  begin left e = record {
    behind = [];
    whole = append-nil left ∙ e;
    none = λ x m. absurd m;
  }

  pub step : (left rest : List Entry) (e : Entry) → IsWalked left → left ≡ rest ++ e ∷ [] → false ≡ is_headed e.1
      → IsWalked rest
  step left rest e so next bare = record {
    behind = e ∷ so.behind;
    whole = sym (across_push rest e so.behind) ∙ subst (λ l. l ++ so.behind ≡ all) next so.whole;
    none = λ x m. elim m [
      | inl i ↦ λ some. let h : is_headed x.1 ≡ is_headed e.1 = λ k. is_headed (i k).1 in cc
      | inr n ↦ so.none x n
    ];
  }

  module _ (theirs : AreOfTheirDays days) where
    -- a known day is that of an entry with a head
    known_in : (day : ℕ) → IsKnownDay (days_world days) stream day
        → (e : Entry) × Member e all × (e.0.stream ≡ stream) × (e.0.day ≡ day) × (is_headed e.1 ≡ true)
    known_in day k =
        let r = known_entry days stream day theirs k in
        (r.0, between_in days stream 0 last_number r.0 r.1 r.2 (omega arith) (theirs.early r.0.0 r.0.1 r.1), r.2, r.3, r.4)

    pub found : (left rest : List Entry) (e : Entry) → IsWalked left → left ≡ rest ++ e ∷ [] → true ≡ is_headed e.1
        → IsLastDayOf (days_world days) stream (Some e.0.day)
    found left rest e so next some =
        let parts : rest ++ e ∷ so.behind ≡ all =
        sym (across_push rest e so.behind) ∙ subst (λ l. l ++ so.behind ≡ all) next so.whole in
        let m : Member e all = subst (Member e) parts (append_right e rest (e ∷ so.behind) (inl refl)) in
        let here = in_between days stream 0 last_number e m in
        record {
          known = is_known days stream e.0.day e theirs here.0 here.1.0 refl (sym some);
          last = λ other k.
              let r = known_in other k in
              elim (member_append r.0 rest (e ∷ so.behind) (subst (Member r.0) (sym parts) r.1)) [
                | inl n ↦
                    let rises : Ascends (λ (x y : Entry). place_cmp x.0 y.0) (rest ++ e ∷ so.behind) =
                    subst (Ascends (λ (x y : Entry). place_cmp x.0 y.0)) (sym parts)
                    (between_ascends days stream 0 last_number theirs.ordered) in
                    let below = less_means r.0.0.day e.0.day
                    (sym (in_stream stream r.0.0 e.0 r.2 here.1.0)
                    ∙ up.across (λ (x y : Entry). place_cmp x.0 y.0) rest (e ∷ so.behind) rises r.0 e n (inl refl)) in
                    omega (arith, below, r.3)
                | inr n ↦ elim n [
                  | inl i ↦ let same : r.0.0.day ≡ e.0.day = λ k. (i k).0.day in omega (arith, same, r.3)
                  | inr b ↦ absurd (so.none r.0 b r.4)
                ]
              ];
        }

    pub missed : (left : List Entry) → IsWalked left → left ≡ [] → IsLastDayOf (days_world days) stream None
    missed left so e day k =
        let r = known_in day k in
        let whole : so.behind ≡ all = subst (λ l. l ++ so.behind ≡ all) e so.whole in
        so.none r.0 (subst (Member r.0) (sym whole) r.1) r.4
