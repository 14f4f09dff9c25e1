-- The current details of the days of a range: they hold until a later day has its own.
use Rattle.std.proofs.Common.{◌≡◌, ◌-◌, ◌<◌, ◌≤◌, ℕ, List, length, get_or, map, take, sym, ap, ◌∙◌, subst, inl, inr, arith}
use Rattle.std.specs.List.{AllPairs}
use Rattle.std.proofs.lemmas.Bool.{cases_lt}
use Rattle.std.proofs.lemmas.List.{get_or-take, length-take-le}
use Rattle.mds_names.specs.declared.stream.Stream.{Stream}
use Rattle.mds_terms.specs.Details.{DetailsValue}
use Rattle.mds_world.proofs.Lists.{in_map, map_in}
use Rattle.mds_world.specs.declared.facts.Detail.{Detail}
use Rattle.mds_world.specs.Current.{IsCurrentDetails, IsUpto}
use Rattle.mds_world.specs.Lists.{Member}
use Rattle.mds_world.specs.World.{World}
use Rattle.mds_keeper.specs.Queries.{AreDetailsBetween}
use Rattle.mds_keeper.proofs.BookPlaces.{member_at, place_of}

-- current details of a day are those of a later one, where no day behind it and up to that one has some
lasts : (w : World) (s : Stream) (from day : ℕ) (details : DetailsValue) → from ≤ day
    → ((other : Detail) → IsUpto w s day other → from < other.day → ⊥) → IsCurrentDetails w s from details
    → IsCurrentDetails w s day details
lasts w s from day details le none is = by is
  where
    back : (other : Detail) → IsUpto w s day other → IsUpto w s from other
    back other h = (h.0, h.1, elim (cases_lt from other.day) [ inl less ↦ absurd (none other h less) | inr more ↦ more ])

    by : IsCurrentDetails w s from details → IsCurrentDetails w s day details
    by (inl (one, g, e)) =
        let to = g.held.2 in
        inl (
          one,
          record {
            held = (g.held.0, g.held.1, omega (arith, to, le));
            greatest = λ other h. g.greatest other (back other h);
          },
          e,
        )
    by (inr (never, e)) = inr ((λ other h. never other (back other h)), e)

-- rows that ascend do so by their days
pub by_day : (rows : List (ℕ × DetailsValue)) → AllPairs (λ a b. a.0 < b.0) rows → (i j : ℕ) (d : ℕ × DetailsValue) → i ≤ j
    → j < length rows → (get_or rows i d).0 ≤ (get_or rows j d).0
by_day rows up i j d h within = elim (cases_lt i j) [
  | inl less ↦ let before = up i j d less within in omega (arith, before)
  | inr more ↦
      let same : i ≡ j = omega (arith, h, more) in
      let e = ap (λ n. (get_or rows n d).0) same in
      omega (arith, e)
]

module _ (w : World) (s : Stream) (first day : ℕ) where
  -- details of a day of the range are of the day of a row
  row_of : (rows : List (ℕ × DetailsValue)) → AreDetailsBetween w s first day rows → (other : Detail)
      → IsUpto w s day other → first ≤ other.day
      → (k : ℕ) × (k < length rows) × ((d : ℕ × DetailsValue) → (get_or rows k d).0 ≡ other.day)
  row_of rows are other upto from =
      let row = in_map (λ (r : ℕ × DetailsValue). r.0) rows other.day (are.all other upto.0 upto.1 from upto.2) in
      let p = place_of row.0 rows row.1 in
      (p.0, p.1, λ d. ap (λ (r : ℕ × DetailsValue). r.0) (p.2 d) ∙ sym row.2)

  -- the rows up to a day of the range
  pub rows_taken : (last n : ℕ) (rows : List (ℕ × DetailsValue)) → n ≤ length rows
      → ((k : ℕ) (d : ℕ × DetailsValue) → k < n → (get_or rows k d).0 ≤ day)
      → ((k : ℕ) (d : ℕ × DetailsValue) → n ≤ k → k < length rows → day < (get_or rows k d).0) → day ≤ last
      → AreDetailsBetween w s first last rows → AreDetailsBetween w s first day (take n rows)
  rows_taken last n rows within below above to are = record {
    each = λ row m.
        let p = place_of row (take n rows) m in
        let at : p.0 < n = omega (arith, p.1, size) in
        let e : get_or rows p.0 row ≡ row = sym (get_or-take n rows p.0 row at) ∙ p.2 row in
        let it = are.each row (subst (λ r. Member r rows) e (member_at rows p.0 row (omega (arith, at, within)))) in
        (it.0, subst (λ (r : ℕ × DetailsValue). r.0 ≤ day) e (below p.0 row at), it.2);
    all = λ other held of from upto.
        let row = in_map (λ (r : ℕ × DetailsValue). r.0) rows other.day (are.all other held of from (omega (arith, upto, to))) in
        let p = place_of row.0 rows row.1 in
        elim (cases_lt p.0 n) [
          | inl at ↦
              let e : get_or (take n rows) p.0 row.0 ≡ row.0 = get_or-take n rows p.0 row.0 at ∙ p.2 row.0 in
              subst (λ d. Member d (map (λ (r : ℕ × DetailsValue). r.0) (take n rows))) (sym row.2)
              (map_in (λ (r : ℕ × DetailsValue). r.0) (take n rows) row.0
              (subst (λ r. Member r (take n rows)) e (member_at (take n rows) p.0 row.0 (omega (arith, at, size)))))
          | inr behind ↦
              let later = above p.0 row.0 behind p.1 in
              let same = ap (λ (r : ℕ × DetailsValue). r.0) (p.2 row.0) in
              let of_row = row.2 in
              absurd (omega (arith, later, same, of_row, upto))
        ];
    ascending = λ i j d less inside.
        let at : j < n = omega (arith, inside, size) in
        let a = get_or-take n rows i d (omega (arith, less, at)) in
        let b = get_or-take n rows j d at in
        subst (λ (r : ℕ × DetailsValue). r.0 < (get_or (take n rows) j d).0) (sym a)
        (subst (λ (r : ℕ × DetailsValue). (get_or rows i d).0 < r.0) (sym b) (are.ascending i j d less (omega (arith, at, within))));
  }
    where
      size : length (take n rows) ≡ n
      size = length-take-le n rows within

  module _ (rows : List (ℕ × DetailsValue)) (are : AreDetailsBetween w s first day rows) where
    -- where there is none, the day has those of the first
    pub first_lasts : (details : DetailsValue) → length rows ≤ 0 → first ≤ day → IsCurrentDetails w s first details
        → IsCurrentDetails w s day details
    first_lasts details none le is =
        lasts w s first day details le (λ other upto less.
        let p = row_of rows are other upto (omega (arith, less)) in
        let within = p.1 in
        omega (arith, within, none)) is

    -- else it has those of the last of them
    pub last_lasts : (row : ℕ × DetailsValue) → 0 < length rows → row ≡ get_or rows (length rows - 1) row
        → IsCurrentDetails w s day row.1
    last_lasts row some at =
        let here = are.each row
        (subst (λ r. Member r rows) (sym at) (member_at rows (length rows - 1) row (omega (arith, some)))) in
        let from = here.0 in
        lasts w s row.0 day row.1 here.1 (λ other upto less.
        let p = row_of rows are other upto (omega (arith, from, less)) in
        let within = p.1 in
        let of = p.2 row in
        let up = by_day rows are.ascending p.0 (length rows - 1) row (omega (arith, within)) (omega (arith, some)) in
        let last = ap (λ (r : ℕ × DetailsValue). r.0) at in
        omega (arith, up, of, last, less)) here.2
