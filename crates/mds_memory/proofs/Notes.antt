-- Notes as members of a World.
use Rattle.std.specs.Prelude.{◌≡◌, ◌↔◌, ◌⊎◌, ℕ, length, Bool, true, cond, IsTrue, List, [], ◌∷◌, ◌++◌, map}
use Rattle.std.proofs.Common.{sym, ap, subst, inl, inr, refl, arith, ◌∙◌}
use Rattle.std.proofs.lemmas.List.{append-nil}
use Rattle.std.specs.BTreeMap.{is_at}
use Rattle.std.specs.BTreeSet.{BTreeSet, contains}
use Rattle.std.specs.FinSet as set
use Rattle.std.specs.List.{list_any}
use Rattle.mds_world.specs.Facts.{Fact}
use Rattle.mds_world.proofs.Lists.{in_map, map_in}
use Rattle.mds_world.specs.Lists.{Member}
use Rattle.mds_world.proofs.Members.{in_list, in_union, list_in, same_by, union_left, union_right}
use Rattle.mds_world.specs.Sets.{◌∈◌}
use Rattle.mds_world.specs.World.{union}
use Rattle.mds_memory.specs.Stored.{note_fact, notes_world}
use Rattle.mds_memory.specs.declared.stored_notes.Note.{Note}
use Rattle.mds_memory.specs.declared.stored_notes.Note.TheVariants.{Event, Holiday}
use Rattle.mds_memory.proofs.Keys as keys
use Rattle.mds_memory.proofs.Keys.{AreWithout, found, finds}
use Rattle.mds_memory.proofs.NoteOrder.{exact, note_cmp, total}

one_note : (a b : Note) → note_fact a ≡ note_fact b → a ≡ b
one_note (Event a) (Event b) e = cc
one_note (Event a) (Holiday b) e = cc
one_note (Holiday a) (Event b) e = cc
one_note (Holiday a) (Holiday b) e = cc

-- a fact of the notes' World is that of one of them
pub noted : (notes : BTreeSet Note) (f : Fact) → f ∈ notes_world notes → (n : Note) × Member n notes.keys × (f ≡ note_fact n)
noted notes f h = in_map note_fact notes.keys f (in_list _ f h)

pub in_notes : (notes : BTreeSet Note) (n : Note) → note_fact n ∈ notes_world notes → Member n notes.keys
in_notes notes n h =
    let r = noted notes (note_fact n) h in
    subst (λ k. Member k notes.keys) (sym (one_note n r.0 r.2)) r.1

pub notes_in : (notes : BTreeSet Note) (n : Note) → Member n notes.keys → note_fact n ∈ notes_world notes
notes_in notes n m = list_in _ (note_fact n) (map_in note_fact notes.keys n m)

pub has : (notes : BTreeSet Note) (n : Note) (b : Bool) → b ≡ list_any (is_at (note_cmp n)) notes.keys
    → IsTrue b ↔ (note_fact n ∈ notes_world notes)
has notes n b e = (
  λ t. notes_in notes n (found note_cmp exact total n notes.keys (sym e ∙ t)),
  λ h. e ∙ finds note_cmp exact total n notes.keys (in_notes notes n h),
)

-- the notes after a copy of one more is inserted
pub inserted : (old new : BTreeSet Note) (copy note : Note) → copy ≡ note
    → ((q : Note) → contains note_cmp new q ≡ cond (is_at (note_cmp copy) q) true (contains note_cmp old q))
    → (q : Note) → Member q new.keys ↔ (Member q old.keys ⊎ (q ≡ note))
inserted old new copy note same h =
    subst (λ n. (q : Note) → Member q new.keys ↔ (Member q old.keys ⊎ (q ≡ n))) same
    (keys.inserted note_cmp exact total old new copy h)

-- sets with the same notes are one World
pub same_notes : (a b : BTreeSet Note) → ((q : Note) → Member q a.keys ↔ Member q b.keys)
    → notes_world a ≡ notes_world b
same_notes a b h = same_by _ _ (along a b (λ q. (h q).0)) (along b a (λ q. (h q).1))
  where
    along : (x y : BTreeSet Note) → ((q : Note) → Member q x.keys → Member q y.keys) → (f : Fact)
        → f ∈ notes_world x → f ∈ notes_world y
    along x y g f m =
        let r = noted x f m in
        subst (λ k. k ∈ notes_world y) (sym r.2) (notes_in y r.0 (g r.0 r.1))

-- the World of notes and of more
pub more_notes : (old new : BTreeSet Note) (more : List Note)
    → ((q : Note) → Member q new.keys ↔ (Member q old.keys ⊎ Member q more))
    → notes_world new ≡ union (notes_world old) (set.from_list (map note_fact more))
more_notes old new more h = same_by _ _
    (λ f m. let r = noted new f m in elim ((h r.0).0 r.1) [
      | inl n ↦ union_left _ _ f (subst (λ k. k ∈ notes_world old) (sym r.2) (notes_in old r.0 n))
      | inr n ↦ union_right _ _ f (list_in _ f (subst (λ k. Member k (map note_fact more)) (sym r.2) (map_in note_fact more r.0 n)))
    ])
    (λ f m. elim (in_union _ _ f m) [
      | inl n ↦ let r = noted old f n in subst (λ k. k ∈ notes_world new) (sym r.2) (notes_in new r.0 ((h r.0).1 (inl r.1)))
      | inr n ↦ let r = in_map note_fact more f (in_list _ f n) in
          subst (λ k. k ∈ notes_world new) (sym r.2) (notes_in new r.0 ((h r.0).1 (inr r.1)))
    ])

-- what was put in is taken out again
pub taken_back : (old mid new : BTreeSet Note) (more : List Note)
    → notes_world mid ≡ union (notes_world old) (set.from_list (map note_fact more)) → AreWithout new.keys mid.keys more
    → ((note : Note) → Member note more → note_fact note ∈ notes_world old → ⊥) → notes_world new ≡ notes_world old
taken_back old mid new more put out absent = same_notes new old (λ q. (
  (λ m.
      let p = (out q).0 m in
      elim (in_union _ _ (note_fact q) (subst (λ w. note_fact q ∈ w) put (notes_in mid q p.0))) [
        | inl k ↦ in_notes old q k
        | inr k ↦
            let r = in_map note_fact more (note_fact q) (in_list _ (note_fact q) k) in
            absurd (p.1 (subst (λ n. Member n more) (sym (one_note q r.0 r.2)) r.1))
      ]),
  (λ m. (out q).1 (
    in_notes mid q (subst (λ w. note_fact q ∈ w) (sym put) (union_left _ _ (note_fact q) (notes_in old q m))),
    (λ n. absent q n (notes_in old q m)),
  )),
))

-- the next one moves from what is left to the end of the notes
pub moved : {A : Type 0} (f : A → Fact) (g : A → Note) → ((a : A) → note_fact (g a) ≡ f a) → (old new : List Note)
    (left rest : List A) (x : A) (whole : List Fact) → new ≡ old ++ g x ∷ [] → left ≡ x ∷ rest
    → map note_fact old ++ map f left ≡ whole → map note_fact new ++ map f rest ≡ whole
moved f g same old new left rest x whole is next before =
    ap (λ ns. map note_fact ns ++ map f rest) is ∙ along old
    ∙ ap (λ xs. map note_fact old ++ map f xs) (sym next) ∙ before
  where
    along : (ns : List Note)
        → map note_fact (ns ++ g x ∷ []) ++ map f rest ≡ map note_fact ns ++ map f (x ∷ rest)
    along [] = ap (λ y. y ∷ map f rest) (same x)
    along (n ∷ ns) = ap (λ ys. note_fact n ∷ ys) (along ns)

-- nothing is left
pub ended : {A : Type 0} (f : A → Fact) (ns : List Note) (left : List A) (whole : List Fact) → left ≡ []
    → map note_fact ns ++ map f left ≡ whole → map note_fact ns ≡ whole
ended f ns left whole e before =
    sym (append-nil (map note_fact ns)) ∙ ap (λ xs. map note_fact ns ++ map f xs) (sym e) ∙ before

-- nothing is left of the one, and all of the other
pub begun : {A B : Type 0} (f : A → Fact) (g : B → Fact) (ns : List Note) (left : List A) (all more : List B)
    (whole : List Fact) → left ≡ [] → all ≡ more → map note_fact ns ++ map f left ≡ whole
    → map note_fact ns ++ map g all ≡ whole ++ map g more
begun f g ns left all more whole e is before =
    (λ i. ended f ns left whole e before i ++ map g (is i))

pub none_left : {A : Type 0} (xs : List A) (n : ℕ) → n ≡ length xs → n ≡ 0 → xs ≡ []
none_left [] n e z = refl
none_left (x ∷ xs) n e z = absurd (omega arith)
