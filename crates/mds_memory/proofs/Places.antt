-- Maps of days by their entries.
use Rattle.std.proofs.Common.{◌≡◌, List, true, false, Option, Some, None, refl, sym, subst}
use Rattle.std.specs.Prelude.{◌⊎◌, is_some, IfNone, IfOk, IfSome, Result, Ok, Err}
use Rattle.std.specs.BTreeMap.{insert_entry, is_at}
use Rattle.std.specs.Cmp.{IsTotalOrder}
use Rattle.std.specs.Cmp.Lexicographic.{slice_cmp}
use Rattle.std.specs.List.Sorted.{IsStrictlySortedBy}
use Rattle.std.specs.Map.{keys_of, lookup}
use Rattle.std.specs.Ordering.{nat_cmp}
use Rattle.std.specs.declared.cmp.Ordering.TheVariants.{Equal}
use Rattle.std.proofs.lemmas.Map.Lookups.{exact_bytes, exact_pairs, exact_unsigned}
use Rattle.mds_names.specs.declared.stream.Stream.{Stream}
use Rattle.mds_world.specs.declared.facts.StreamDay.{StreamDay}
use Rattle.mds_world.specs.contracts.facts.StreamDayOrd.TheImpl.Laws as place_laws
use Rattle.mds_names.specs.contracts.stream.StreamOrd.TheImpl.Laws as stream_laws
use Rattle.mds_world.specs.Lists.{Member}
use Rattle.mds_keeper.specs.Queries.{stream_cmp}
use Rattle.mds_memory.specs.Stored.{place_cmp}
use Rattle.mds_memory.proofs.Entries as entries

pub place_total : IsTotalOrder place_cmp
place_total = place_laws.total-law

pub stream_total : IsTotalOrder stream_cmp
stream_total = stream_laws.total-law

pub stream_exact : (a b : Stream) → stream_cmp a b ≡ Equal → a ≡ b
stream_exact a b e =
    let p = exact_pairs (slice_cmp nat_cmp) (slice_cmp nat_cmp) exact_bytes exact_bytes (a.nmi, a.suffix) (b.nmi, b.suffix) e in
    λ i. record { nmi = (p i).0; suffix = (p i).1 }

pub place_exact : (a b : StreamDay) → place_cmp a b ≡ Equal → a ≡ b
place_exact a b e =
    let p = exact_pairs stream_cmp nat_cmp stream_exact exact_unsigned (a.stream, a.day) (b.stream, b.day) e in
    λ i. record { stream = (p i).0; day = (p i).1 }

-- what is true of a value is true of a result that is it
pub if_ok_at : {X E : Type 0} (r : Result X E) (x : X) (P : X → Type 0) → IfOk r (λ y. y ≡ x) → P x → IfOk r P
if_ok_at (Ok y) x P e p = subst P (sym e) p
if_ok_at (Err z) x P e p = tt

pub if_ok_map : {X E : Type 0} (r : Result X E) (P Q : X → Type 0) → ((x : X) → P x → Q x) → IfOk r P → IfOk r Q
if_ok_map (Ok y) P Q f p = f y p
if_ok_map (Err z) P Q f p = tt

pub if_none_at : {X : Type 0} (o : Option X) (P : Type 0) → o ≡ None → IfNone o P → P
if_none_at None P e p = p
if_none_at (Some x) P e p = cc

pub if_some_at : {X : Type 0} (o : Option X) (x : X) (P : X → Type 0) → o ≡ Some x → IfSome o P → P x
if_some_at None x P e p = cc
if_some_at (Some y) x P e p = let same : y ≡ x = cc in subst P same p

pub is_absent : {X : Type 0} (o : Option X) → false ≡ is_some o → o ≡ None
is_absent None e = refl
is_absent (Some x) e = cc

pub is_there : {X : Type 0} (o : Option X) → true ≡ is_some o → (x : X) × (o ≡ Some x)
is_there None e = cc
is_there (Some x) e = (x, refl)

module _ {X : Type 0} where
  pub insert_here : (es : List (StreamDay × X)) (k : StreamDay) (v : X) → Member (k, v) (insert_entry place_cmp es k v)
  insert_here = entries.insert_here place_cmp place_exact place_total

  pub insert_only : (es : List (StreamDay × X)) (k : StreamDay) (v : X) (e : StreamDay × X)
      → Member e (insert_entry place_cmp es k v) → (e ≡ (k, v)) ⊎ Member e es
  insert_only = entries.insert_only place_cmp place_exact place_total

  pub insert_other : (es : List (StreamDay × X)) (k : StreamDay) (v : X) (e : StreamDay × X)
      → Member e es → Member e (insert_entry place_cmp es k v) ⊎ (e.0 ≡ k)
  insert_other = entries.insert_other place_cmp place_exact place_total

  -- what has an entry is found
  pub not_absent : (es : List (StreamDay × X)) (k : StreamDay) (v : X) → Member (k, v) es
      → lookup (is_at (place_cmp k)) es ≡ None → ⊥
  not_absent = entries.not_absent place_cmp place_exact place_total

  pub found_in : (es : List (StreamDay × X)) (k : StreamDay) (v : X)
      → lookup (is_at (place_cmp k)) es ≡ Some v → Member (k, v) es
  found_in = entries.found_in place_cmp place_exact place_total

  -- a day has one entry
  pub one_entry : (es : List (StreamDay × X)) → IsStrictlySortedBy place_cmp (keys_of es) → (k : StreamDay) (v w : X)
      → Member (k, v) es → Member (k, w) es → v ≡ w
  one_entry = entries.one_entry place_cmp place_exact place_total
