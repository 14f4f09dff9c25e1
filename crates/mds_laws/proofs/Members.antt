-- Lists and Worlds by their members.
use Rattle.std.specs.Prelude.{◌≡◌, ℕ, ◌+◌, ◌<◌, List, [], ◌∷◌, length, slice_get, Some}
use Rattle.std.proofs.Common.{sym, ap, subst, inl, inr, arith, refl, zero, suc}
use Rattle.std.specs.FinSet as set
use Rattle.std.specs.List.{All, flat_map}
use Rattle.std.proofs.lemmas.List.Elements.{All-head, All-tail}
use Rattle.mds_marks.specs.Reading.{ReadingValue}
use Rattle.mds_names.specs.declared.stream.Stream.{Stream}
use Rattle.mds_world.specs.declared.facts.Key.{Key}
use Rattle.mds_world.specs.FactOrder.{exact, total}
use Rattle.mds_world.specs.Facts.{Fact}
use Rattle.mds_world.specs.Facts.Fact.{VersionIs}
use Rattle.mds_world.proofs.Lists.{flat_in, in_flat}
use Rattle.mds_world.specs.Lists.{Apart, Member}
use Rattle.mds_world.proofs.Members.{in_list, list_in}
use Rattle.mds_world.proofs.Sets.{union_empty}
use Rattle.mds_world.specs.Sets.{◌∈◌}
use Rattle.mds_world.specs.Stated.{facts_of, stated, versions_from}
use Rattle.mds_world.specs.World.{World, union}
use Rattle.mds_statements.specs.Statements.{Statement}
use Rattle.mds_keeper.proofs.Taken.{from_versions}

-- what holds of all holds of a member
pub all_member : {A : Type 0} (P : A → Type 0) (xs : List A) (x : A) → All P xs → Member x xs → P x
all_member P [] x all m = absurd m
all_member P (y ∷ ys) x all (inl e) = subst P (sym e) (All-head P y ys all)
all_member P (y ∷ ys) x all (inr m) = all_member P ys x (All-tail P y ys all) m

-- a fact that statements state is of one of them
pub in_stated : (xs : List Statement) (f : Fact) → f ∈ stated xs
    → (s : Statement) × Member s xs × Member f (facts_of s)
in_stated xs f h = in_flat facts_of xs f (in_list (flat_map facts_of xs) f h)

pub stated_in : (xs : List Statement) (f : Fact) (s : Statement) → Member s xs → Member f (facts_of s) → f ∈ stated xs
stated_in xs f s m n = list_in (flat_map facts_of xs) f (flat_in facts_of xs f s m n)

pub none_in : (w : World) → union w set.empty ≡ w
none_in w = union_empty total exact w

pub within : {T : Type 0} (xs : List T) (k : ℕ) (x : T) → slice_get xs k ≡ Some x → k < length xs
within [] k x e = cc
within (y ∷ xs) zero x e = omega arith
within (y ∷ xs) (suc k) x e = let n = within xs k x e in omega (arith, n)

pub same_key : (x y : Key) (r q : ReadingValue) → VersionIs x r ≡ VersionIs y q → (x ≡ y) × (r ≡ q)
same_key x y r q e = (cc, cc)

-- the versions of a list of readings: one for each, and no two are one
pub versions_count : (stream : Stream) (day minutes update i : ℕ) (rs : List ReadingValue)
    → length (versions_from stream day minutes update i rs) ≡ length rs
versions_count stream day minutes update i [] = refl
versions_count stream day minutes update i (r ∷ rs) = ap suc (versions_count stream day minutes update (i + 1) rs)

pub versions_apart : (stream : Stream) (day minutes update i : ℕ) (rs : List ReadingValue)
    → Apart (versions_from stream day minutes update i rs)
versions_apart stream day minutes update i [] = tt
versions_apart stream day minutes update i (r ∷ rs) = (
  (λ m.
      let n = from_versions stream day minutes update (i + 1) rs _ m in
      let same = same_key _ _ _ _ n.3 in
      let e : i ≡ i + 1 + n.0 = ap (λ (k : Key). k.interval) same.0 in
      absurd (omega (arith, e))),
  versions_apart stream day minutes update (i + 1) rs,
)
