-- What the parts of a file state.
use Rattle.std.specs.Prelude.{◌≡◌, List, [], ◌∷◌, map}
use Rattle.std.proofs.Common.{sym, ap, ◌∙◌, subst, inl, inr, refl}
use Rattle.mds_statements.specs.Statements.{Statement}
use Rattle.mds_statements.specs.Statements.Statement.{HeaderOf, StreamOf, DetailsOf, DayOf, EventOf, PeriodOf}
use Rattle.mds_world.specs.FactOrder.{exact, total}
use Rattle.mds_world.specs.Facts.{Fact}
use Rattle.mds_world.proofs.Lists.{in_map, map_in}
use Rattle.mds_world.specs.Lists.{Member}
use Rattle.mds_world.proofs.Members.{in_union, same_by, union_left, union_right}
use Rattle.mds_world.proofs.Sets.{not_in_empty}
use Rattle.mds_world.specs.Sets.{◌∈◌}
use Rattle.mds_world.specs.Stated.{facts_of, stated}
use Rattle.mds_world.specs.World.{World}
use Rattle.mds_laws.specs.AnyOrder.{AreParts, IsAmong, together, unplaced}
use Rattle.mds_laws.proofs.Members.{in_stated, stated_in}

-- several Worlds together have just the members of each
pub in_together : (ws : List World) (f : Fact) → f ∈ together ws → (x : World) × Member x ws × (f ∈ x)
in_together [] f h = absurd (not_in_empty total exact f h)
in_together (w ∷ ws) f h = elim (in_union w (together ws) f h) [
  | inl a ↦ (w, inl refl, a)
  | inr b ↦ let r = in_together ws f b in (r.0, inr r.1, r.2)
]

together_in : (ws : List World) (f : Fact) (x : World) → Member x ws → f ∈ x → f ∈ together ws
together_in [] f x m h = absurd m
together_in (w ∷ ws) f x (inl e) h = union_left w (together ws) f (subst (λ v. f ∈ v) e h)
together_in (w ∷ ws) f x (inr m) h = union_right w (together ws) f (together_in ws f x m h)

-- no fact turns on a line
without_line : (s : Statement) → facts_of (unplaced s) ≡ facts_of s
without_line (HeaderOf header) = refl
without_line (StreamOf stream) = refl
without_line (DetailsOf details) = refl
without_line (DayOf day) = refl
without_line (EventOf event) = refl
without_line (PeriodOf period) = refl

among_states : (xs : List Statement) (s : Statement) (f : Fact) → IsAmong xs s → Member f (facts_of s) → f ∈ stated xs
among_states xs s f among m =
    let r = in_map unplaced xs (unplaced s) among in
    let same : facts_of s ≡ facts_of r.0 = sym (without_line s) ∙ ap facts_of r.2 ∙ without_line r.0 in
    stated_in xs f r.0 r.1 (subst (λ facts. Member f facts) same m)

pub parts_state_the_whole : (whole : List Statement) (parts : List (List Statement)) → AreParts whole parts
    → together (map stated parts) ≡ stated whole
parts_state_the_whole whole parts are = same_by _ _
    (λ f h.
    let of = in_together (map stated parts) f h in
    let part = in_map stated parts of.0 of.1 in
    let s = in_stated part.0 f (subst (λ w. f ∈ w) part.2 of.2) in
    among_states whole s.0 f (are.just part.0 s.0 part.1 s.1) s.2)
    (λ f h.
    let s = in_stated whole f h in
    elim (are.all s.0 s.1) [
      | inl none ↦ absurd (subst (λ facts. Member f facts) none s.2)
      | inr part ↦ together_in (map stated parts) f (stated part.0) (map_in stated parts part.0 part.1)
          (among_states part.0 s.0 f part.2 s.2)
    ])
