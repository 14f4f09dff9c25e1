-- The current details of each day of a range.
use Rattle.std.proofs.Common.{◌≡◌, ◌<◌, ◌≤◌, ◌+◌, ℕ, List, [], ◌∷◌, ◌++◌, map, refl, sym, subst, inl, inr, arith}
use Rattle.std.proofs.lemmas.Bool.{cases_lt}
use Rattle.std.specs.Cmp.{nat_cmp_is}
use Rattle.std.specs.Ordering.{nat_cmp}
use Rattle.std.specs.declared.cmp.Ordering.{Ordering}
use Rattle.std.specs.declared.cmp.Ordering.TheVariants.{Less}
use Rattle.mds_names.specs.declared.stream.Stream.{Stream}
use Rattle.mds_terms.specs.Details.{DetailsValue}
use Rattle.mds_world.specs.Current.{IsCurrentDetails}
use Rattle.mds_world.proofs.Lists.{append_left, append_right, in_map, map_in, member_append}
use Rattle.mds_world.specs.Lists.{Member}
use Rattle.mds_world.specs.World.{World}
use Rattle.mds_keeper.specs.Queries.{AreDetailsBetween}
use Rattle.mds_memory.proofs.Ascending as up
use Rattle.mds_memory.proofs.Ascending.{Ascends}
use Rattle.mds_memory.proofs.DaysBetween.{less_means}

abbrev pub Row : Type 0
Row = ℕ × DetailsValue

abbrev day_of : Row → ℕ
day_of row = row.0

abbrev by_day : Row → Row → Ordering
by_day a b = nat_cmp a.0 b.0

less_is : (a b : ℕ) → a < b → nat_cmp a b ≡ Less
less_is a b l = sym (nat_cmp_is a b Less l)

-- a member of a list with one more at its end
in_push : (rows : List Row) (row : Row) (P : Row → Type 0) → ((x : Row) → Member x rows → P x) → P row → (x : Row)
    → Member x (rows ++ row ∷ []) → P x
in_push rows row P all one x m = elim (member_append x rows (row ∷ []) m) [
  | inl n ↦ all x n
  | inr n ↦ elim n [ inl i ↦ subst P (sym i) one | inr z ↦ absurd z ]
]

module _ (w : World) (stream : Stream) (first last : ℕ) where
  -- a row of each day of the range that is before an end
  pub record AreBefore (end : ℕ) (rows : List Row) : Type 0 where
    pub each : (row : Row) → Member row rows → (first ≤ row.0) × (row.0 ≤ last) × IsCurrentDetails w stream row.0 row.1
    pub before : (row : Row) → Member row rows → row.0 < end
    pub all : (day : ℕ) → first ≤ day → day < end → Member day (map day_of rows)
    pub ascend : Ascends by_day rows

  all_more : (end day : ℕ) (rows : List Row) (row : Row) → ((q : ℕ) → first ≤ q → q < end → Member q (map day_of rows))
      → row.0 ≡ end → first ≤ day → day < end + 1 → Member day (map day_of (rows ++ row ∷ []))
  all_more end day rows row all same f l = elim (cases_lt day end) [
    | inl a ↦
        let r = in_map day_of rows day (all day f a) in
        subst (λ q. Member q (map day_of (rows ++ row ∷ []))) (sym r.2)
        (map_in day_of (rows ++ row ∷ []) r.0 (append_left r.0 rows (row ∷ []) r.1))
    | inr a ↦
        let e : row.0 ≡ day = omega (arith, a, l, same) in
        subst (λ q. Member q (map day_of (rows ++ row ∷ []))) e
        (map_in day_of (rows ++ row ∷ []) row (append_right row rows (row ∷ []) (inl refl)))
  ]

  one_more : (end : ℕ) (rows : List Row) (row : Row) → AreBefore end rows → first ≤ end → end ≤ last → row.0 ≡ end
      → IsCurrentDetails w stream row.0 row.1 → AreBefore (end + 1) (rows ++ row ∷ [])
  one_more end rows row so low high same is = record {
    each = in_push rows row (λ x. (first ≤ x.0) × (x.0 ≤ last) × IsCurrentDetails w stream x.0 x.1) so.each
        (omega (arith, low, same), omega (arith, high, same), is);
    before = in_push rows row (λ x. x.0 < end + 1) (λ x m. let b = so.before x m in omega (arith, b)) (omega (arith, same));
    all = λ day f l. all_more end day rows row so.all same f l;
    ascend = up.push by_day rows row so.ascend
        (λ x m. let b = so.before x m in less_is x.0 row.0 (omega (arith, b, same)));
  }

  -- the next day has its row, too
  pub more : (end : ℕ) (rows new : List Row) (day : ℕ) (details : DetailsValue) → AreBefore end rows → first ≤ end
      → end ≤ last → day ≡ end → IsCurrentDetails w stream day details → new ≡ rows ++ (day, details) ∷ []
      → AreBefore (end + 1) new
  more end rows new day details so low high same is e =
      subst (AreBefore (end + 1)) (sym e) (one_more end rows (day, details) so low high same is)

  pub done : (end : ℕ) (rows : List Row) → AreBefore end rows → last < end → AreDetailsBetween w stream first last rows
  done end rows so l = record {
    each = so.each;
    all = λ detail h s f u. so.all detail.day f (omega (arith, u, l));
    ascending = λ i j d m n. less_means _ _ (up.pairs by_day rows so.ascend i j d m n);
  }
