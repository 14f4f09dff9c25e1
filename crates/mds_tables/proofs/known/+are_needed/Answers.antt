use Rattle.std.proofs.Common.{◌≡◌, ◌==◌, ◌↔◌, ◌-◌, ◌<◌, ◌≤◌, ◌∙◌, Bool, Bor, IsTrue, List, ℕ, [], ◌∷◌, ap, arith, drop, false, get_or, length, map, refl, sym, take, take_all}
use Rattle.std.proofs.lemmas.Bool.{eqb-true, false≢true}
use Rattle.sqlite_schema.specs.declared.schema.Column.{Column}
use Rattle.sqlite_schema.specs.declared.schema.Kind.{Kind}
use Rattle.mds_tables.specs.Tables.{needed}
use Rattle.mds_tables.proofs.known.+are_needed.Goals as goal

abbrev all : List (Bor (List ℕ) × Kind) → List Column
all = map (λ one. needed one.0.now one.1)

-- no column is wanted
none_wanted : (columns : List Column) (wanted : List (Bor (List ℕ) × Kind)) (empty : Bool) → length wanted < 1
    → empty ≡ (length columns == 0) → IsTrue empty ↔ (columns ≡ all wanted)
none_wanted [] [] empty few is = (λ _. refl, λ _. is)
none_wanted (column ∷ columns) [] empty few is = (
  λ yes.
      let none : length (column ∷ columns) ≡ 0 = eqb-true _ _ (sym is ∙ yes) in
      absurd (omega arith),
  λ e. absurd cc,
)
none_wanted columns (one ∷ wanted) empty few is = absurd (omega arith)

-- no column is left
none_left : (columns : List Column) (wanted : List (Bor (List ℕ) × Kind)) → 1 ≤ length wanted → length columns < 1
    → IsTrue false ↔ (columns ≡ all wanted)
none_left columns [] some few = absurd (omega arith)
none_left [] (one ∷ wanted) some few = (λ no. absurd (false≢true no), λ e. absurd cc)
none_left (column ∷ columns) (one ∷ wanted) some few = absurd (omega arith)

module _ (column : Column) (default : Bor (List ℕ) × Kind) (is : Bool) where
  abbrev IsFirst : List (Bor (List ℕ) × Kind) → Type 0
  IsFirst wanted = column ≡ needed (get_or wanted 0 default).0.now (get_or wanted 0 default).1

  -- the first column is wanted, so that the others decide
  one_more : (columns : List Column) (wanted : List (Bor (List ℕ) × Kind)) (are : Bool) → 1 ≤ length columns → 1 ≤ length wanted
      → column ≡ get_or columns 0 column → (IsTrue is ↔ IsFirst wanted) → IsTrue is
      → (IsTrue are ↔ (take (length columns - 1) (drop 1 columns) ≡ all (take (length wanted - 1) (drop 1 wanted))))
      → IsTrue are ↔ (columns ≡ all wanted)
  one_more [] wanted are some more at first so others = absurd (omega arith)
  one_more (c ∷ cs) [] are some more at first so others = absurd (omega arith)
  one_more (c ∷ cs) (w ∷ ws) are some more at first so others =
      let left : take (length (c ∷ cs) - 1) cs ≡ cs = take_all _ cs (omega arith) in
      let later : take (length (w ∷ ws) - 1) ws ≡ ws = take_all _ ws (omega arith) in
      let head : c ≡ needed w.0.now w.1 = sym at ∙ first.0 so in (
        (λ y. let tail : cs ≡ all ws = sym left ∙ others.0 y ∙ ap all later in λ i. head i ∷ tail i),
        (λ e. let tail : cs ≡ all ws = ap (drop 1) e in others.1 (left ∙ tail ∙ sym (ap all later))),
      )

  -- the first column isn't wanted
  other_first : (columns : List Column) (wanted : List (Bor (List ℕ) × Kind)) → 1 ≤ length columns → 1 ≤ length wanted
      → column ≡ get_or columns 0 column → (IsTrue is ↔ IsFirst wanted) → is ≡ false → IsTrue is ↔ (columns ≡ all wanted)
  other_first [] wanted some more at first isnt = absurd (omega arith)
  other_first (c ∷ cs) [] some more at first isnt = absurd (omega arith)
  other_first (c ∷ cs) (w ∷ ws) some more at first isnt = (
    λ y. absurd (false≢true (sym isnt ∙ y)),
    λ e. first.1 (at ∙ ap (λ xs. get_or xs 0 column) e),
  )

pub returns-in_default : goal.returns-in_default
returns-in_default t c = none_wanted c.args.columns.now c.args.wanted.now c.is_empty.result c.in_default.len_below c.is_empty.ensures

pub returns-in_default-columns : goal.returns-in_default-columns
returns-in_default-columns t c = none_left c.args.columns.now c.args.wanted.now c.in-len1-up.len_at_least c.in_default-columns.len_below

pub returns-then-is_needed : goal.returns-then-is_needed
returns-then-is_needed t c =
    one_more c.column-item.result _ _ c.args.columns.now c.args.wanted.now c.are_needed.result c.in-len1-up-columns.len_at_least
    c.in-len1-up.len_at_least c.column-item.is c.is_needed.ensures c.if-is_needed.true c.are_needed.ensures

pub returns-else-is_needed : goal.returns-else-is_needed
returns-else-is_needed t c =
    other_first c.column-item.result _ _ c.args.columns.now c.args.wanted.now c.in-len1-up-columns.len_at_least
    c.in-len1-up.len_at_least c.column-item.is c.is_needed.ensures c.if-is_needed.false
