-- Runs through a list that take down something of some of its elements.
use Rattle.std.proofs.Common.{◌≡◌, ◌<◌, ℕ, zero, suc, List, [], ◌∷◌, ◌++◌, length, refl, sym, ap, ◌∙◌, subst, inl, inr, arith, slice_index_or}
use Rattle.std.proofs.lemmas.Grind.{flat_map-append}
use Rattle.std.proofs.lemmas.List.{append-nil}
use Rattle.std.specs.List.{All, flat_map}
use Rattle.std.specs.Map.{keys_of}
use Rattle.std.specs.declared.cmp.Ordering.{Ordering}
use Rattle.std.specs.declared.cmp.Ordering.TheVariants.{Less}
use Rattle.mds_world.proofs.Lists.{append_right, in_flat, map_in, member_append}
use Rattle.mds_world.specs.Lists.{Member}
use Rattle.mds_memory.proofs.Ascending as up
use Rattle.mds_memory.proofs.Ascending.{Ascends}

pub across_push : {E : Type 0} (seen : List E) (e : E) (rest : List E) → (seen ++ e ∷ []) ++ rest ≡ seen ++ e ∷ rest
across_push [] e rest = refl
across_push (x ∷ seen) e rest = ap (λ es. x ∷ es) (across_push seen e rest)

pub nothing_left : {E : Type 0} (seen left : List E) → left ≡ [] → seen ++ left ≡ seen
nothing_left [] left e = e
nothing_left (x ∷ seen) left e = ap (λ es. x ∷ es) (nothing_left seen left e)

-- what has been seen of a list is of the kind P, and what it gives by `f` is taken down
pub record IsRun {E X : Type 0} (f : E → List X) (P : E → Type 0) (all : List E) (out : List X) (left : List E) : Type 0 where
  pub seen : List E
  pub run : seen ++ left ≡ all
  pub taken : out ≡ flat_map f seen
  pub of_kind : (e : E) → Member e seen → P e

pub begin : {E X : Type 0} (f : E → List X) (P : E → Type 0) (all left : List E) (out : List X) → out ≡ [] → left ≡ all
    → IsRun f P all out left
begin f P all left out none whole = record {
  seen = [];
  run = whole;
  taken = none;
  of_kind = λ e m. absurd m;
}

-- the next one gives `more`
pub step : {E X : Type 0} (f : E → List X) (P : E → Type 0) (all left rest : List E) (old new more : List X) (e : E)
    → IsRun f P all old left → left ≡ e ∷ rest → P e → f e ≡ more → new ≡ old ++ more → IsRun f P all new rest
step f P all left rest old new more e so next of gives is = record {
  seen = so.seen ++ e ∷ [];
  run = across_push so.seen e rest ∙ ap (λ es. so.seen ++ es) (sym next) ∙ so.run;
  taken =
      is ∙ ap (λ xs. xs ++ more) so.taken ∙ ap (λ xs. flat_map f so.seen ++ xs) (sym gives ∙ sym (append-nil (f e)))
      ∙ sym (flat_map-append f so.seen (e ∷ []));
  of_kind = λ x m. elim (member_append x so.seen (e ∷ []) m) [
    | inl n ↦ so.of_kind x n
    | inr n ↦ elim n [ inl i ↦ subst P (sym i) of | inr z ↦ absurd z ]
  ];
}

-- the next one gives nothing
pub pass : {E X : Type 0} (f : E → List X) (P : E → Type 0) (all left rest : List E) (out : List X) (e : E)
    → IsRun f P all out left → left ≡ e ∷ rest → P e → f e ≡ [] → IsRun f P all out rest
pass f P all left rest out e so next of gives =
    step f P all left rest out out [] e so next of gives (sym (append-nil out))

-- a run stops at the end, or at the first that isn't of the kind
abbrev pub HasStopped : {E : Type 0} → (E → Type 0) → List E → Type 0
HasStopped P [] = Unit {0}
HasStopped P (x ∷ rest) = P x → ⊥

pub at_end : {E : Type 0} (P : E → Type 0) (left : List E) → left ≡ [] → HasStopped P left
at_end P left e = subst (HasStopped P) (sym e) tt

pub at_other : {E : Type 0} (P : E → Type 0) (left rest : List E) (x : E) → left ≡ x ∷ rest → (P x → ⊥) → HasStopped P left
at_other P left rest x e n = subst (HasStopped P) (sym e) n

-- so it has gone through all of the kind, where they stand together from the first on
pub all_found : {E : Type 0} (c : E → E → Ordering) (P : E → Type 0) (all seen left : List E) → Ascends c all
    → seen ++ left ≡ all → HasStopped P left → ((x q : E) → Member x all → c x q ≡ Less → P q → P x)
    → (q : E) → Member q all → P q → Member q seen
all_found c P all seen [] a e stop within q m h = elim (member_append q seen [] (subst (Member q) (sym e) m)) [
  | inl n ↦ n
  | inr n ↦ absurd n
]
all_found c P all seen (x ∷ rest) a e stop within q m h =
    elim (member_append q seen (x ∷ rest) (subst (Member q) (sym e) m)) [
      | inl n ↦ n
      | inr n ↦ elim n [
        | inl i ↦ absurd (stop (subst P i h))
        | inr k ↦
            let here : Member x all = subst (Member x) e (append_right x seen (x ∷ rest) (inl refl)) in
            let rises : Ascends c (seen ++ x ∷ rest) = subst (Ascends c) (sym e) a in
            absurd (stop (within x q here ((up.back c seen (x ∷ rest) rises).0 q k) h))
      ]
    ]

-- what is taken down ascends where the elements do
pub taken_ascends : {E X : Type 0} (f : E → List X) (c : E → E → Ordering) (d : X → X → Ordering) (es : List E)
    → Ascends c es → ((e : E) → Ascends d (f e))
    → ((e g : E) → Member e es → Member g es → c e g ≡ Less → (x y : X) → Member x (f e) → Member y (f g) → d x y ≡ Less)
    → Ascends d (flat_map f es)
taken_ascends f c d [] a own rise = tt
taken_ascends f c d (e ∷ es) a own rise =
    up.join d (f e) (flat_map f es) (own e)
    (taken_ascends f c d es a.1 own (λ x y m n. rise x y (inr m) (inr n)))
    (λ x y m n. let r = in_flat f es y n in rise e r.0 (inl refl) (inr r.1) (a.0 r.0 r.1) x y m r.2)

-- the entries of a map in order ascend by their keys
pub entries_ascend : {K X : Type 0} (c : K → K → Ordering) (es : List (K × X)) → Ascends c (keys_of es)
    → Ascends (λ e f. c e.0 f.0) es
entries_ascend c [] a = tt
entries_ascend c (e ∷ es) a = ((λ q m. a.0 q.0 (map_in (λ x. x.0) es q m)), entries_ascend c es a.1)

member_at : {X : Type 0} (xs : List X) (i : ℕ) (d : X) → i < length xs → Member (slice_index_or xs i d) xs
member_at [] i d l = absurd (omega arith)
member_at (x ∷ xs) zero d l = inl refl
member_at (x ∷ xs) (suc i) d l = inr (member_at xs i d (omega arith))

-- what holds of each member holds of all
pub for_all : {X : Type 0} (P : X → Type 0) (xs : List X) → ((x : X) → Member x xs → P x) → All P xs
for_all P xs holds = λ i d l. holds _ (member_at xs i d l)
