-- What mds_pack names once rows came, or one stands in the place of another.
use Rattle.std.proofs.Common.{◌≡◌, ◌≢◌, ◌⊎◌, inl, inr, List, [], ◌∷◌, ◌++◌, drop, map, None, Option, Some, refl, sym, ap, subst, ◌∙◌}
use Rattle.std.proofs.lemmas.List.{append-nil}
use Rattle.std.proofs.lemmas.List.Sorted.{IsPermutation-sym}
use Rattle.std.specs.List.{flat_map}
use Rattle.sqlite.specs.declared.types.Value.TheVariants.{Null}
use Rattle.sqlite_trees.specs.Tree.{Trees}
use Rattle.sqlite_value.specs.Order.{Row}
use Rattle.mds_marks.specs.Reading.{ReadingValue}
use Rattle.mds_world.specs.FactOrder.{exact, total}
use Rattle.mds_world.specs.Facts.{Fact}
use Rattle.mds_world.specs.Lists.{Member}
use Rattle.mds_world.specs.Sets.{◌∈◌}
use Rattle.mds_world.specs.World.{union}
use Rattle.mds_world.proofs.Lists.{append_left, append_right, flat_in, in_map, map_in, member_append}
use Rattle.mds_world.proofs.Members.{in_list, list_in, union_right}
use Rattle.mds_world.proofs.Sets.{list_append, union_assoc, union_empty}
use Rattle.mds_tables.specs.RowFacts.{text_at}
use Rattle.mds_tables.specs.Stores.{Gains}
use Rattle.mds_tables.proofs.RowLemmas.{IsMore, of}
use Rattle.mds_tables.proofs.MemberLemmas.{moved}
use Rattle.mds_pack_rows.specs.PackFacts.{pack_facts, pack_versions, readings_in}
use Rattle.mds_pack_rows.specs.PackTables.{pack_tree}
use Rattle.mds_pack_rows.specs.Putting.{IsAmong, NamesMore}
use Rattle.mds_pack_rows.specs.Swaps.{Swaps}
use Rattle.mds_pack_rows.proofs.SwapLemmas.{gained_all, pack_bare, swapped}

-- what columns say, whatever the rowid
abbrev pub plain : Row → List Fact
plain cells = pack_facts (Null ∷ cells)

-- a row says one of these facts
abbrev SaysOne : List Fact → Row → Type 0
SaysOne facts row = (fact : Fact) × Member fact facts × Member fact (pack_facts row)

first_of : (facts : List Fact) → facts ≢ [] → (fact : Fact) × Member fact facts
first_of [] some = absurd (some refl)
first_of (f ∷ fs) some = (f, inl refl)

body_bare : (row : Row) → text_at row 5 ≡ text_at (Null ∷ drop 1 row) 5
body_bare [] = refl
body_bare (x ∷ xs) = refl

module _ (one other : Row) (same : drop 1 one ≡ drop 1 other) where
  same_said : pack_facts one ≡ pack_facts other
  same_said = pack_bare one ∙ ap plain same ∙ sym (pack_bare other)

  same_body : text_at one 5 ≡ text_at other 5
  same_body = body_bare one ∙ ap (λ cells. text_at (Null ∷ cells) 5) same ∙ sym (body_bare other)

-- ---- rows that came

-- each of which says something
pub came_all : (cells : List Row) (old new : Trees) → ((row : Row) → Member row cells → plain row ≢ []) → Gains pack_tree cells old new
    → NamesMore old new (flat_map plain cells)
came_all cells old new some gains =
    let was : List Row = map (drop 1) (old pack_tree) in
    let now : List Row = map (drop 1) (new pack_tree) in
    record {
      names = gained_all pack_facts pack_bare pack_tree cells old new gains;
      came = λ row m.
          elim (member_append (drop 1 row) was cells (moved (was ++ cells) now gains (drop 1 row) (map_in (drop 1) (new pack_tree) row m))) [
            | inl n ↦ inl n
            | inr n ↦
                let one = first_of (plain (drop 1 row)) (some (drop 1 row) n) in
                inr (one.0, flat_in plain cells one.0 (drop 1 row) n one.1, subst (Member one.0) (sym (pack_bare row)) one.1)
          ];
      stay = λ row m _. moved now (was ++ cells) (IsPermutation-sym (was ++ cells) now gains) (drop 1 row)
          (append_left (drop 1 row) was cells (map_in (drop 1) (old pack_tree) row m));
    }

pub came_one : (cells : Row) (old new : Trees) → plain cells ≢ [] → Gains pack_tree (cells ∷ []) old new → NamesMore old new (plain cells)
came_one cells old new some gains =
    subst (NamesMore old new) (append-nil (plain cells))
    (came_all (cells ∷ []) old new (λ row m. elim m [ inl e ↦ subst (λ r. plain r ≢ []) (sym e) some | inr z ↦ absurd z ]) gains)

-- ---- one in the place of another, whose body reads

pub came_over : (row come : Row) (facts : List Fact) (olds : List (Option ReadingValue)) (old new : Trees) → readings_in (text_at row 5) ≡ Some olds
    → facts ≢ [] → IsMore (plain come) (plain (drop 1 row)) facts → Swaps pack_tree (drop 1 row) come old new → NamesMore old new facts
came_over row come facts olds old new read some says it =
    let gone : Row = drop 1 row in
    let was : List Row = map (drop 1) (old pack_tree) in
    let now : List Row = map (drop 1) (new pack_tree) in
    record {
      names = swapped pack_facts pack_bare pack_tree gone come facts old new it says;
      came = λ other m.
          elim (moved (come ∷ it.rest) now it.is (drop 1 other) (map_in (drop 1) (new pack_tree) other m)) [
            | inl e ↦
                let one = first_of facts some in
                let told : one.0 ∈ of (plain come) =
                subst (λ w. one.0 ∈ w) (sym says) (union_right (of (plain gone)) (of facts) one.0 (list_in facts one.0 one.1)) in
                inr (one.0, one.1, subst (Member one.0) (sym (pack_bare other ∙ ap plain e)) (in_list (plain come) one.0 told))
            | inr n ↦ inl (moved was (gone ∷ it.rest) (IsPermutation-sym (gone ∷ it.rest) was it.was) (drop 1 other) (inr n))
          ];
      stay = λ other m none.
          elim (moved (gone ∷ it.rest) was it.was (drop 1 other) (map_in (drop 1) (old pack_tree) other m)) [
            | inl e ↦ absurd (let clash : None ≡ Some olds = sym none ∙ ap readings_in (same_body other row e) ∙ read in cc)
            | inr n ↦ moved now (come ∷ it.rest) (IsPermutation-sym (come ∷ it.rest) now it.is) (drop 1 other) (inr n)
          ];
    }

-- ---- one after another

pub named_none : (trees : Trees) → NamesMore trees trees []
named_none trees = record {
  names = sym (union_empty total exact (of (pack_versions trees)));
  came = λ row m. inl (map_in (drop 1) (trees pack_tree) row m);
  stay = λ row m _. map_in (drop 1) (trees pack_tree) row m;
}

pub named_then : (a b c : Trees) (xs ys : List Fact) → NamesMore a b xs → NamesMore b c ys → NamesMore a c (xs ++ ys)
named_then a b c xs ys p q =
    let first = of (pack_versions a) in
    record {
      names = q.names ∙ ap (λ w. union w (of ys)) p.names ∙ union_assoc total exact first (of xs) (of ys)
          ∙ ap (union first) (sym (list_append total exact xs ys));
      came = λ row m. elim (q.came row m) [
        | inl n ↦
            let it = in_map (drop 1) (b pack_tree) (drop 1 row) n in
            elim (p.came it.0 it.1) [
              | inl o ↦ inl (subst (λ cells. Member cells (map (drop 1) (a pack_tree))) (sym it.2) o)
              | inr s ↦ inr (s.0, append_left s.0 xs ys s.1, subst (Member s.0) (same_said it.0 row (sym it.2)) s.2)
            ]
        | inr s ↦ inr (s.0, append_right s.0 xs ys s.1, s.2)
      ];
      stay = λ row m none.
          let it = in_map (drop 1) (b pack_tree) (drop 1 row) (p.stay row m none) in
          subst (λ cells. Member cells (map (drop 1) (c pack_tree))) (sym it.2)
          (q.stay it.0 it.1 (ap readings_in (sym (same_body row it.0 it.2)) ∙ none));
    }

-- the same facts in other words
pub named_as : (a b : Trees) (xs ys : List Fact) → of xs ≡ of ys → NamesMore a b xs → NamesMore a b ys
named_as a b xs ys same it = record {
  names = it.names ∙ ap (union (of (pack_versions a))) same;
  came = λ row m. elim (it.came row m) [
    | inl n ↦ inl n
    | inr s ↦ inr (s.0, in_list ys s.0 (subst (λ w. s.0 ∈ w) same (list_in xs s.0 s.1)), s.2)
  ];
  stay = it.stay;
}

-- before and behind what leaves mds_pack as it is
pub named_on : (a b c d : Trees) (facts : List Fact) → b pack_tree ≡ a pack_tree → d pack_tree ≡ c pack_tree → NamesMore b c facts
    → NamesMore a d facts
named_on a b c d facts first last it = record {
  names = ap (λ (rows : List Row). of (flat_map pack_facts rows)) last ∙ it.names
      ∙ ap (λ (rows : List Row). union (of (flat_map pack_facts rows)) (of facts)) first;
  came = λ row m. subst (λ rows. IsAmong row rows ⊎ SaysOne facts row) first (it.came row (subst (Member row) last m));
  stay = λ row m none. subst (IsAmong row) (sym last) (it.stay row (subst (Member row) (sym first) m) none);
}
