-- The fewest runs of marks are one list.
use Rattle.std.proofs.Common.{◌≡◌, ◌≢◌, ◌≤◌, ◌+◌, ℕ, Some, List, [], ◌∷◌, length, slice_get, refl, sym, ap, subst, ◌∙◌, inl, inr, arith}
use Rattle.std.proofs.lemmas.Bool.{cases_lt}
use Rattle.std.proofs.lemmas.Option.{slice_get_within}
use Rattle.mds_marks.specs.declared.mark.Mark.{Mark}
use Rattle.mds_runs.specs.Runs.{mark_at}
use Rattle.mds_runs.specs.declared.cover.Run.{Run}
use Rattle.mds_runs.proofs.RunFacts.{AreRunsAfter-from_Meets, Meets-le, full_from_Meets, mark_at-here, mark_at-later}
use Rattle.mds_runs.proofs.Spreads.{spread-from_gets}
use Rattle.mds_runs.proofs.Tilings.{Tile, Tiles, Meets-from_Tiles}
use Rattle.mds_export.specs.Exports.{AreFewest}
use Rattle.mds_export.proofs.Spelled.{AreSpelled, spelled_fewest, spelled_own, spelled_rest}

-- no runs that spell the marks from an interval on are fewer
abbrev AreShortest : List Mark → Mark → ℕ → List Run → Type 0
AreShortest marks default interval runs = (others : List Run) → AreSpelled marks default interval others → length runs ≤ length others

shortest_fewest : (marks : List Mark) (default : Mark) (runs : List Run) → AreFewest marks runs → AreShortest marks default 0 runs
shortest_fewest marks default runs fewest others s =
    fewest.least others default (AreRunsAfter-from_Meets (length marks) 0 others s.meets)
    (λ i lo hi. full_from_Meets (length marks) 0 others s.meets i (omega arith) hi)
    (spread-from_gets (mark_at others default) 1 marks (λ k lt. s.marked k (omega arith) lt) ∙ sym (fewest.spread default))

-- one run more in front
spelled_more : (marks : List Mark) (default : Mark) (interval : ℕ) (run : Run) (runs others : List Run) → AreSpelled marks default interval (run ∷ runs)
    → AreSpelled marks default run.last others → AreSpelled marks default interval (run ∷ others)
spelled_more marks default interval run runs others s o = record {
  meets = (s.meets.0, s.meets.1, o.meets);
  marked = λ k lo lt. elim (cases_lt k run.last) [
    | inl own ↦
        spelled_own marks default interval run runs s k lo own
        ∙ ap Some (sym (mark_at-here (1 + k) run others default (omega (arith, s.meets.0)) (omega arith)))
    | inr later ↦ o.marked k later lt ∙ ap Some (sym (mark_at-later (1 + k) run others default (omega arith)))
  ];
}

shortest_rest : (marks : List Mark) (default : Mark) (interval : ℕ) (run : Run) (runs : List Run) → AreSpelled marks default interval (run ∷ runs)
    → AreShortest marks default interval (run ∷ runs) → AreShortest marks default run.last runs
shortest_rest marks default interval run runs s short others o =
    let less = short (run ∷ others) (spelled_more marks default interval run runs others s o) in omega (arith, less)

-- two runs of one mark as one
abbrev joined : Run → Run → Run
joined run next = record { first = run.first; last = next.last; mark = run.mark }

spelled_joined : (marks : List Mark) (default : Mark) (interval : ℕ) (run next : Run) (runs : List Run)
    → AreSpelled marks default interval (run ∷ next ∷ runs) → run.mark ≡ next.mark → AreSpelled marks default interval (joined run next ∷ runs)
spelled_joined marks default interval run next runs s same =
    let rest = spelled_rest marks default interval run (next ∷ runs) s in
    let last = spelled_rest marks default run.last next runs rest in
    record {
      meets = (s.meets.0, omega (arith, s.meets.1, rest.meets.1), last.meets);
      marked = λ k lo lt. elim (cases_lt k next.last) [
        | inl own ↦
            (elim (cases_lt k run.last) [
              | inl first ↦ spelled_own marks default interval run (next ∷ runs) s k lo first
              | inr second ↦ spelled_own marks default run.last next runs rest k second own ∙ ap Some (sym same)
            ])
            ∙ ap Some (sym (mark_at-here (1 + k) (joined run next) runs default (omega (arith, s.meets.0)) (omega arith)))
        | inr later ↦ last.marked k later lt ∙ ap Some (sym (mark_at-later (1 + k) (joined run next) runs default (omega arith)))
      ];
    }

-- so that each of the fewest runs ends where the mark changes
ends : (marks : List Mark) (default : Mark) (interval : ℕ) (run : Run) (runs : List Run) → AreSpelled marks default interval (run ∷ runs)
    → AreShortest marks default interval (run ∷ runs) → slice_get marks run.last ≢ Some run.mark
ends marks default interval run [] s short e =
    let within = slice_get_within marks run.last run.mark e in
    let all : run.last ≡ length marks = s.meets.2 in absurd (omega arith)
ends marks default interval run (next ∷ runs) s short e =
    let rest = spelled_rest marks default interval run (next ∷ runs) s in
    let here = spelled_own marks default run.last next runs rest run.last (omega arith) rest.meets.1 in
    let both : Some run.mark ≡ Some next.mark = sym e ∙ here in
    let same : run.mark ≡ next.mark = cc in
    let less = short (joined run next ∷ runs) (spelled_joined marks default interval run next runs s same) in
    absurd (omega (arith, less))

tiles_shortest : (marks : List Mark) (default : Mark) (interval : ℕ) (runs : List Run) → AreSpelled marks default interval runs
    → AreShortest marks default interval runs → Tiles marks interval runs (length marks)
tiles_shortest marks default interval [] s short = s.meets
tiles_shortest marks default interval (run ∷ runs) s short = (
  record {
    first = s.meets.0;
    grows = s.meets.1;
    alike = spelled_own marks default interval run runs s;
    differs = ends marks default interval run runs s short;
  },
  tiles_shortest marks default run.last runs (spelled_rest marks default interval run runs s)
      (shortest_rest marks default interval run runs s short),
)

-- and such runs are one list
no_farther : (marks : List Mark) (interval : ℕ) (a b : Run) → Tile marks interval a → Tile marks interval b → b.last ≤ a.last
no_farther marks interval a b s t = elim (cases_lt a.last b.last) [
  | inl far ↦ absurd (s.differs (t.alike a.last (omega (arith, s.grows)) far ∙ sym (t.alike interval (omega arith) t.grows) ∙ s.alike interval (omega arith) s.grows))
  | inr le ↦ le
]

one_tile : (marks : List Mark) (interval : ℕ) (a b : Run) → Tile marks interval a → Tile marks interval b → a ≡ b
one_tile marks interval a b s t =
    let first : a.first ≡ b.first = s.first ∙ sym t.first in
    let last : a.last ≡ b.last = omega (arith, no_farther marks interval a b s t, no_farther marks interval b a t s) in
    let both : Some a.mark ≡ Some b.mark = sym (s.alike interval (omega arith) s.grows) ∙ t.alike interval (omega arith) t.grows in
    let mark : a.mark ≡ b.mark = cc in
    λ i. record { first = first i; last = last i; mark = mark i }

one_tiling : (marks : List Mark) (interval end : ℕ) (a b : List Run) → Tiles marks interval a end → Tiles marks interval b end → a ≡ b
one_tiling marks interval end [] [] s t = refl
one_tiling marks interval end [] (run ∷ b) s t =
    absurd (omega (arith, s, t.0.grows, Meets-le run.last b end (Meets-from_Tiles marks run.last b end t.1)))
one_tiling marks interval end (run ∷ a) [] s t =
    absurd (omega (arith, t, s.0.grows, Meets-le run.last a end (Meets-from_Tiles marks run.last a end s.1)))
one_tiling marks interval end (run ∷ a) (other ∷ b) s t =
    let same = one_tile marks interval run other s.0 t.0 in
    let rest = one_tiling marks run.last end a b s.1
    (subst (λ (e : ℕ). Tiles marks e b end) (ap (λ (r : Run). r.last) (sym same)) t.1) in
    λ i. same i ∷ rest i

pub one_fewest : (marks : List Mark) (default : Mark) (a b : List Run) → AreFewest marks a → AreFewest marks b → a ≡ b
one_fewest marks default a b s t =
    one_tiling marks 0 (length marks) a b
    (tiles_shortest marks default 0 a (spelled_fewest marks default a s) (shortest_fewest marks default a s))
    (tiles_shortest marks default 0 b (spelled_fewest marks default b t) (shortest_fewest marks default b t))
