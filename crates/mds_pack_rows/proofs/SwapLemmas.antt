-- What a table names once a row was added, or one stands in the place of another.
use Rattle.std.proofs.Common.{◌≡◌, ℕ, List, [], ◌∷◌, ◌++◌, drop, map, refl, sym, ap, ◌∙◌}
use Rattle.std.proofs.lemmas.Grind.{flat_map-append}
use Rattle.std.proofs.lemmas.List.Sorted.{IsPermutation-sym}
use Rattle.std.specs.List.{flat_map}
use Rattle.std.specs.List.Sorted.{IsPermutation}
use Rattle.sqlite.specs.declared.types.Value.TheVariants.{Null}
use Rattle.sqlite_trees.specs.Tree.{Trees}
use Rattle.sqlite_value.specs.Order.{Row}
use Rattle.mds_world.specs.FactOrder.{exact, total}
use Rattle.mds_world.specs.Facts.{Fact}
use Rattle.mds_world.specs.Lists.{Member}
use Rattle.mds_world.specs.World.{union}
use Rattle.mds_world.proofs.Lists.{flat_in, in_flat}
use Rattle.mds_world.proofs.Members.{in_list, list_in, same_by}
use Rattle.mds_world.proofs.Sets.{list_append, union_assoc, union_comm}
use Rattle.mds_tables.specs.Stores.{Gains}
use Rattle.mds_tables.proofs.RowLemmas.{IsMore, of}
use Rattle.mds_tables.proofs.MemberLemmas.{moved}
use Rattle.mds_pack_rows.specs.PackFacts.{pack_facts}
use Rattle.mds_pack_rows.specs.Swaps.{Swaps}

append_of : (xs ys : List Fact) → of (xs ++ ys) ≡ union (of xs) (of ys)
append_of = list_append total exact

-- rows in another order say the same
shuffled : (f : Row → List Fact) (xs ys : List Row) → IsPermutation xs ys → of (flat_map f xs) ≡ of (flat_map f ys)
shuffled f xs ys same =
    let carried : (us bs : List Row) → IsPermutation us bs → (q : Fact) → Member q (flat_map f bs) → Member q (flat_map f us) =
    λ us bs p q m. let it = in_flat f bs q m in flat_in f us q it.0 (moved us bs p it.0 it.1) it.2 in
    same_by (of (flat_map f xs)) (of (flat_map f ys))
    (λ q m. list_in (flat_map f ys) q (carried ys xs (IsPermutation-sym xs ys same) q (in_list (flat_map f xs) q m)))
    (λ q m. list_in (flat_map f xs) q (carried xs ys same q (in_list (flat_map f ys) q m)))

module _ (read : Row → List Fact) (bare : (row : Row) → read row ≡ read (Null ∷ drop 1 row)) where
  abbrev plain : Row → List Fact
  plain cells = read (Null ∷ cells)

  plainly : (rows : List Row) → flat_map read rows ≡ flat_map plain (map (drop 1) rows)
  plainly [] = refl
  plainly (r ∷ rs) = λ i. bare r i ++ plainly rs i

  -- a table with more rows
  pub gained_all : (tree : ℕ) (cells : List Row) (old new : Trees) → Gains tree cells old new
      → IsMore (flat_map read (new tree)) (flat_map read (old tree)) (flat_map plain cells)
  gained_all tree cells old new gains =
      let rows : List Row = map (drop 1) (old tree) in
      ap of (plainly (new tree))
      ∙ sym (shuffled plain (rows ++ cells) (map (drop 1) (new tree)) gains)
      ∙ ap of (flat_map-append plain rows cells)
      ∙ ap (λ facts. of (facts ++ flat_map plain cells)) (sym (plainly (old tree)))
      ∙ append_of (flat_map read (old tree)) (flat_map plain cells)

  -- a table with one row in the place of another, which says more
  pub swapped : (tree : ℕ) (gone come : Row) (facts : List Fact) (old new : Trees) → Swaps tree gone come old new
      → IsMore (plain come) (plain gone) facts
      → IsMore (flat_map read (new tree)) (flat_map read (old tree)) facts
  swapped tree gone come facts old new it says =
      let a = of (plain gone) in
      let b = of facts in
      let c = of (flat_map plain it.rest) in
      ap of (plainly (new tree))
      ∙ sym (shuffled plain (come ∷ it.rest) (map (drop 1) (new tree)) it.is)
      ∙ append_of (plain come) (flat_map plain it.rest)
      ∙ ap (λ w. union w c) says
      ∙ union_assoc total exact a b c ∙ ap (union a) (union_comm total exact b c) ∙ sym (union_assoc total exact a c b)
      ∙ ap (λ w. union w b) (sym (append_of (plain gone) (flat_map plain it.rest))
      ∙ shuffled plain (gone ∷ it.rest) (map (drop 1) (old tree)) it.was ∙ ap of (sym (plainly (old tree))))

pub pack_bare : (row : Row) → pack_facts row ≡ pack_facts (Null ∷ drop 1 row)
pack_bare [] = refl
pack_bare (x ∷ xs) = refl
