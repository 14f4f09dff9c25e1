-- The stream at the end of an ascending list.
use Rattle.std.specs.Prelude.{◌≡◌, ◌⊎◌, ◌-◌, ℕ, length, slice_get, Some, false, List, [], ◌∷◌, ◌++◌}
use Rattle.std.proofs.Common.{ap, subst, sym, refl, inl, inr, suc, zero, arith, ◌∙◌}
use Rattle.std.proofs.lemmas.List.{length_push}
use Rattle.std.specs.Ordering.{is_gt, ordering_reverse}
use Rattle.std.specs.declared.cmp.Ordering.{Ordering}
use Rattle.std.specs.declared.cmp.Ordering.TheVariants.{Less, Equal, Greater}
use Rattle.mds_names.specs.declared.stream.Stream.{Stream}
use Rattle.mds_world.specs.Lists.{Member}
use Rattle.mds_keeper.specs.Queries.{stream_cmp}
use Rattle.mds_memory.specs.StoredNotes.{IsAtEnd}
use Rattle.mds_memory.proofs.Ascending.{Ascends}
use Rattle.mds_memory.proofs.Places.{stream_total}

pub get_member : (s : Stream) (xs : List Stream) (i : ℕ) → slice_get xs i ≡ Some s → Member s xs
get_member s [] i e = cc
get_member s (x ∷ xs) zero e = inl cc
get_member s (x ∷ xs) (suc i) e = inr (get_member s xs i e)

get_last : (s : Stream) (front : List Stream) → slice_get (front ++ s ∷ []) (length front) ≡ Some s
get_last s [] = refl
get_last s (x ∷ front) = get_last s front

pub at_last : (s : Stream) (front : List Stream) → IsAtEnd s (front ++ s ∷ [])
at_last s front =
    let n : length (front ++ s ∷ []) - 1 ≡ length front = omega (arith, length_push front s) in
    ap (slice_get (front ++ s ∷ [])) n ∙ get_last s front

turned : (y q : Stream) → stream_cmp q y ≡ Less → is_gt (stream_cmp y q) ≡ false → ⊥
turned y q l g = by (stream_cmp q y) (stream_cmp y q) (stream_total.antisymm q y) l g
  where
    by : (a b : Ordering) → a ≡ ordering_reverse b → a ≡ Less → is_gt b ≡ false → ⊥
    by a Less e l g = cc
    by a Equal e l g = cc
    by a Greater e l g = cc

-- one that none is after stands at the end
pub ends_at : (q : Stream) (ks : List Stream) → Ascends stream_cmp ks → Member q ks
    → ((y : Stream) → Member y ks → is_gt (stream_cmp y q) ≡ false) → (front : List Stream) × (ks ≡ front ++ q ∷ [])
ends_at q [] a m none = absurd m
ends_at q (k ∷ []) a (inl e) none = ([], ap (λ x. x ∷ []) (sym e))
ends_at q (k ∷ y ∷ ks) a (inl e) none =
    absurd (turned y q (subst (λ x. stream_cmp x y ≡ Less) (sym e) (a.0 y (inl refl))) (none y (inr (inl refl))))
ends_at q (k ∷ ks) a (inr m) none =
    let r = ends_at q ks a.1 m (λ y n. none y (inr n)) in
    (k ∷ r.0, ap (λ xs. k ∷ xs) r.1)

pub less_or_tied : (r : Ordering) → is_gt r ≡ false → (r ≡ Less) ⊎ (r ≡ Equal)
less_or_tied Less e = inl refl
less_or_tied Equal e = inr refl
less_or_tied Greater e = cc
