use Rattle.std.proofs.Common.{◌≡◌, ◌==◌, ◌∙◌, ℕ, List, Bool, true, false, true≢false, ap, sym, rules, arith}
use Rattle.std.proofs.lemmas.Bool.Decides.{nat_tests}
use Rattle.std.proofs.lemmas.Slice.Eq.{slice_eq-Decides}
use Rattle.std.specs.Bool.{Decides}
use Rattle.mds_quantity.specs.declared.unit.Unit.{Unit as MeasureUnit}
use Rattle.mds_jobs.specs.Jobs.{HasPlaceOf}
use Rattle.mds_jobs.specs.declared.job.Job.{Job}
use Rattle.mds_quantity.specs.contracts.unit.Unit.{the_type}
use denote.Enum.Bare.{sameb, same_true}
use Rattle.mds_jobs.proofs.job.Job.is_same.Goals as goal
use Rattle.mds_jobs.proofs.job.Job.is_same.Goals.{After-eq-then-is_same, then-eq, else-eq, then-has_place_of, else-has_place_of, then-eq-2, else-eq-2, then-eq-3, else-eq-3, then-self-other, else-self-other, then-self-other-2, else-self-other-2}

-- one test more, where those before it hold
and_then : {b v r : Bool} {P Q : Type 0} → b ≡ true → v ≡ r → Decides b P → Decides r Q → Decides v (P × Q)
and_then e is p q = (λ t. (p.0 e, q.0 (sym is ∙ t)), λ h. is ∙ q.1 h.1)

-- and where one of them fails
and_not : {b v : Bool} {P Q : Type 0} → b ≡ false → v ≡ b → Decides b P → Decides v (P × Q)
and_not e is p = (λ t. absurd (true≢false (sym t ∙ is ∙ e)), λ h. absurd (true≢false (sym (p.1 h.0) ∙ e)))

num : (a b : ℕ) → Decides (a == b) (a ≡ b)
num a b = (λ t. grind (arith, nat_tests), λ e. grind (arith, nat_tests))

unit : (a b : MeasureUnit) → Decides (sameb the_type a b) (a ≡ b)
unit a b = (λ t. same_true the_type (search rules) a b t, λ e. search (rules, e))

by_result : {P : Type 0} {r s : Bool} → r ≡ s → Decides s P → Decides r P
by_result e p = (λ t. p.0 (sym e ∙ t), λ h. e ∙ p.1 h)

ids : (a b x y : List ℕ) (r : Bool) → x ≡ a → y ≡ b → Decides r (x ≡ y) → Decides r (a ≡ b)
ids a b x y r ea eb d = rw (ea, eb) at d

same_id : (c : After-eq-then-is_same) → Decides c.eq.result (c.args.self.now.id ≡ c.args.other.now.id)
same_id c = ids _ _ _ _ _ c.text.ensures.value c.text-2.ensures.value (slice_eq-Decides num c.text.result.now c.text-2.result.now c.eq.result c.eq.ensures)

same_2 : (c : After-eq-then-is_same) → Decides c.if-eq.value (((c.args.self.now.id ≡ c.args.other.now.id)) × HasPlaceOf c.args.self.now c.args.other.now)
same_2 c = elim c.if-eq.branch [
  | then-eq w ↦ and_then w.if-eq.true w.value-is (same_id c) w.has_place_of.ensures
  | else-eq w ↦ and_not w.if-eq.false w.value-is (same_id c)
]

same_3 : (c : After-eq-then-is_same) → Decides c.if-has_place_of.value (((((c.args.self.now.id ≡ c.args.other.now.id)) × HasPlaceOf c.args.self.now c.args.other.now)) × (c.args.self.now.length ≡ c.args.other.now.length))
same_3 c = elim c.if-has_place_of.branch [
  | then-has_place_of w ↦ and_then w.if-has_place_of.true w.value-is (same_2 c) (by_result w.eq-then-has_place_of.ensures (num _ _))
  | else-has_place_of w ↦ and_not w.if-has_place_of.false w.value-is (same_2 c)
]

same_4 : (c : After-eq-then-is_same) → Decides c.if-eq-2.value (((((((c.args.self.now.id ≡ c.args.other.now.id)) × HasPlaceOf c.args.self.now c.args.other.now)) × (c.args.self.now.length ≡ c.args.other.now.length))) × (c.args.self.now.unit ≡ c.args.other.now.unit))
same_4 c = elim c.if-eq-2.branch [
  | then-eq-2 w ↦ and_then w.if-eq-2.true w.value-is (same_3 c) (by_result w.eq-then-eq-2.ensures (unit _ _))
  | else-eq-2 w ↦ and_not w.if-eq-2.false w.value-is (same_3 c)
]

same_5 : (c : After-eq-then-is_same) → Decides c.if-eq-3.value (((((((((c.args.self.now.id ≡ c.args.other.now.id)) × HasPlaceOf c.args.self.now c.args.other.now)) × (c.args.self.now.length ≡ c.args.other.now.length))) × (c.args.self.now.unit ≡ c.args.other.now.unit))) × (c.args.self.now.method ≡ c.args.other.now.method))
same_5 c = elim c.if-eq-3.branch [
  | then-eq-3 w ↦ and_then w.if-eq-3.true w.value-is (same_4 c) (num _ _)
  | else-eq-3 w ↦ and_not w.if-eq-3.false w.value-is (same_4 c)
]

same_6 : (c : After-eq-then-is_same) → Decides c.if-self-other.value (((((((((((c.args.self.now.id ≡ c.args.other.now.id)) × HasPlaceOf c.args.self.now c.args.other.now)) × (c.args.self.now.length ≡ c.args.other.now.length))) × (c.args.self.now.unit ≡ c.args.other.now.unit))) × (c.args.self.now.method ≡ c.args.other.now.method))) × (c.args.self.now.flag ≡ c.args.other.now.flag))
same_6 c = elim c.if-self-other.branch [
  | then-self-other w ↦ and_then w.if-self-other.true w.value-is (same_5 c) (num _ _)
  | else-self-other w ↦ and_not w.if-self-other.false w.value-is (same_5 c)
]

same_7 : (c : After-eq-then-is_same) → Decides c.if-self-other-2.value (((((((((((((c.args.self.now.id ≡ c.args.other.now.id)) × HasPlaceOf c.args.self.now c.args.other.now)) × (c.args.self.now.length ≡ c.args.other.now.length))) × (c.args.self.now.unit ≡ c.args.other.now.unit))) × (c.args.self.now.method ≡ c.args.other.now.method))) × (c.args.self.now.flag ≡ c.args.other.now.flag))) × (c.args.self.now.reason ≡ c.args.other.now.reason))
same_7 c = elim c.if-self-other-2.branch [
  | then-self-other-2 w ↦ and_then w.if-self-other-2.true w.value-is (same_6 c) w.is_same.ensures
  | else-self-other-2 w ↦ and_not w.if-self-other-2.false w.value-is (same_6 c)
]

all_same : (a b : Job) → (((((((a.id ≡ b.id) × HasPlaceOf a b) × (a.length ≡ b.length)) × (a.unit ≡ b.unit)) × (a.method ≡ b.method)) × (a.flag ≡ b.flag))
    × (a.reason ≡ b.reason)) → a.update ≡ b.update → a ≡ b
all_same a b h update =
    let place = h.0.0.0.0.0.1 in
    λ i. record {
      id = h.0.0.0.0.0.0 i;
      stream = place.stream i;
      day = place.day i;
      first = place.first i;
      last = place.last i;
      length = h.0.0.0.0.1 i;
      unit = h.0.0.0.1 i;
      method = h.0.0.1 i;
      flag = h.0.1 i;
      reason = h.1 i;
      update = update i;
    }

pub returns-then-is_same : goal.returns-then-is_same
returns-then-is_same c =
    let s = same_7 c in (
      λ t. all_same _ _ (s.0 c.if-is_same.true) ((num _ _).0 (sym c.eq-then-is_same.ensures ∙ t)),
      λ e. c.eq-then-is_same.ensures ∙ (num _ _).1 (ap (λ (job : Job). job.update) e),
    )
