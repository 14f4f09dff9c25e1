-- Steps that are taken one after another.
use Rattle.std.proofs.Common.{◌≡◌, ◌⊎◌, inl, inr, IsTrue, length, refl, sym, ap, subst, ◌∙◌, arith}
use Rattle.sqlite.specs.Effect.{Database}
use Rattle.sqlite.specs.State.{HasCleanDisk, KeepsCommit, State, Survives}
use Rattle.sqlite.proofs.StateLemmas.{survives_then}
use Rattle.sqlite_schema.specs.declared.schema.Schema.{Schema}
use Rattle.sqlite_trees.specs.Tree.{Trees}
use Rattle.mds_store.specs.Daily.{IsDailyStore}
use Rattle.mds_store.specs.CurrentStore.{IsCurrentStore}
use Rattle.mds_store.specs.Packed.{IsPackedStore}
use Rattle.mds_migrate.specs.declared.outcome.Migrated.{Migrated}
use Rattle.mds_migrate.specs.declared.outcome.Migrated.TheVariants.{AlreadyCurrent, Done}
use Rattle.mds_migrate.specs.declared.outcome.MigrateFault.{MigrateFault}
use Rattle.mds_migrate.specs.declared.outcome.MigrateFault.TheVariants.{OtherSchema, Unavailable}
use Rattle.mds_migrate.specs.Migrated.{Answered, HasFormed, IsMigrated, IsRefused, IsTaken, LeavesMigrated, LeavesSteps, Step, TakesOne, TakesSteps, TakesTwo, dating, forming, packing}

-- a step begins where the one before it ended
follows : (s t : Step) (a b : State) → IsTaken s a b → t.From b.committed → length s.to.tables ≡ length t.under.tables
follows s t a b p was = ap (λ (x : Schema). length x.tables) (sym p.schema ∙ t.fits b.committed was)

-- two of the steps are the first and the second, or the second and the third
abbrev AreTwo : State → State → State → Type 0
AreTwo a b c = (IsTaken packing a b × IsTaken dating b c) ⊎ (IsTaken dating a b × IsTaken forming b c)

are_two : (a b c : State) → IsMigrated a b → IsMigrated b c → AreTwo a b c
are_two a b c (inl p) (inl q) = absurd (let e = follows packing packing a b p q.was in omega (arith, e))
are_two a b c (inl p) (inr (inl q)) = inl (p, q)
are_two a b c (inl p) (inr (inr q)) = absurd (let e = follows packing forming a b p q.was in omega (arith, e))
are_two a b c (inr (inl p)) (inl q) = absurd (let e = follows dating packing a b p q.was in omega (arith, e))
are_two a b c (inr (inl p)) (inr (inl q)) = absurd (let e = follows dating dating a b p q.was in omega (arith, e))
are_two a b c (inr (inl p)) (inr (inr q)) = inr (p, q)
are_two a b c (inr (inr p)) (inl q) = absurd (let e = follows forming packing a b p q.was in omega (arith, e))
are_two a b c (inr (inr p)) (inr (inl q)) = absurd (let e = follows forming dating a b p q.was in omega (arith, e))
are_two a b c (inr (inr p)) (inr (inr q)) = absurd (let e = follows forming forming a b p q.was in omega (arith, e))

takes_two : (a b c : State) → AreTwo a b c → TakesTwo a.committed c.committed.trees
takes_two a b c (inl both) = inr (both.0.was, (b.committed.trees, both.0.taken, both.1.taken))
takes_two a b c (inr both) = inl (both.0.was, (b.committed.trees, both.0.taken, both.1.taken))

takes_three : (a b c d : State) → AreTwo a b c → (it : Migrated) → Answered c d it → TakesSteps a.committed d.committed.trees
takes_three a b c d (inl both) Done (inl r) = absurd (let e = follows dating packing b c both.1 r.was in omega (arith, e))
takes_three a b c d (inl both) Done (inr (inl r)) = absurd (let e = follows dating dating b c both.1 r.was in omega (arith, e))
takes_three a b c d (inl both) Done (inr (inr r)) =
    inr (inr (both.0.was, (b.committed.trees, both.0.taken, (c.committed.trees, both.1.taken, r.taken))))
takes_three a b c d (inr both) Done (inl r) = absurd (let e = follows forming packing b c both.1 r.was in omega (arith, e))
takes_three a b c d (inr both) Done (inr (inl r)) = absurd (let e = follows forming dating b c both.1 r.was in omega (arith, e))
takes_three a b c d (inr both) Done (inr (inr r)) = absurd (let e = follows forming forming b c both.1 r.was in omega (arith, e))
takes_three a b c d (inl both) AlreadyCurrent is =
    absurd (let e = ap (λ (x : Schema). length x.tables) (sym both.1.schema ∙ is.0.store.schema) in omega (arith, e))
takes_three a b c d (inr both) AlreadyCurrent is =
    let same = is.2.committed is.1.is_open in
    inr (inl (
      both.0.was,
      (b.committed.trees, both.0.taken, subst (λ (db : Database). HasFormed b.committed.trees db.trees) (sym same) both.1.taken),
    ))

pub taken_all : (a b c d : State) → IsMigrated a b → IsMigrated b c → (it : Migrated) → Answered c d it → TakesSteps a.committed d.committed.trees
taken_all a b c d p q it answered = takes_three a b c d (are_two a b c p q) it answered

refused_keeps : (c d : State) (e : MigrateFault) → IsRefused c d e → KeepsCommit c d
refused_keeps c d OtherSchema refused = refused.0
refused_keeps c d Unavailable kept = kept

-- what a connection sees in no transaction
abbrev IsSettled : State → MigrateFault → Type 0
IsSettled s e = e ≡ OtherSchema → IsTrue s.is_open → s.now ≡ s.committed

-- A step leaves a store of the next schema, so no further one is refused as none of any.
stands : (a b c : State) → IsMigrated a b → IsSettled b OtherSchema → IsRefused b c OtherSchema → ⊥
stands a b c (inl p) settled refused =
    refused.2 (subst IsPackedStore (sym (settled refl p.is_open)) (record {
      store = record { schema = p.schema; version = p.taken.version };
      unversioned = p.taken.unversioned;
    }))
stands a b c (inr (inl p)) settled refused =
    refused.3 (subst IsDailyStore (sym (settled refl p.is_open)) (record {
      store = record { schema = p.schema; version = p.taken.version };
      bare = (p.taken.unversioned, p.taken.undated);
    }))
stands a b c (inr (inr p)) settled refused =
    refused.4 (subst IsCurrentStore (sym (settled refl p.is_open)) (record {
      store = record { schema = p.schema; version = p.taken.version };
      bare = (p.taken.unversioned, p.taken.undated);
    }))

only_wanting : (a b c : State) → IsMigrated a b → (e : MigrateFault) → IsSettled b e → IsRefused b c e → e ≡ Unavailable
only_wanting a b c p OtherSchema settled refused = absurd (stands a b c p settled refused)
only_wanting a b c p Unavailable settled kept = refl

takes_one : (a b : State) → IsMigrated a b → TakesOne a.committed b.committed.trees
takes_one a b (inl p) = inr (inr (p.was, p.taken))
takes_one a b (inr (inl p)) = inr (inl (p.was, p.taken))
takes_one a b (inr (inr p)) = inl (p.was, p.taken)

-- what stands where a further step is refused
abbrev Stopped : State → State → MigrateFault → Type 0
Stopped a d e = IsRefused a d e
    ⊎ ((e ≡ Unavailable) × (IsTrue d.is_open → TakesOne a.committed d.committed.trees ⊎ TakesTwo a.committed d.committed.trees))

pub stopped_behind_one : (a b c : State) → IsMigrated a b → (e : MigrateFault) → IsSettled b e → IsRefused b c e → Stopped a c e
stopped_behind_one a b c p e settled refused = inr (
  only_wanting a b c p e settled refused,
  λ is_open. inl
      (subst (λ (db : Database). TakesOne a.committed db.trees) (sym ((refused_keeps b c e refused).committed is_open)) (takes_one a b p)),
)

pub stopped_behind_two : (a b c d : State) → IsMigrated a b → IsMigrated b c → (e : MigrateFault) → IsSettled c e → IsRefused c d e
    → Stopped a d e
stopped_behind_two a b c d p q e settled refused = inr (
  only_wanting b c d q e settled refused,
  λ is_open. inr
      (subst (λ (db : Database). TakesTwo a.committed db.trees) (sym ((refused_keeps c d e refused).committed is_open)) (takes_two a b c (are_two a b c p q))),
)

-- ---- what a crash may leave

was_open : (a b : State) → IsMigrated a b → IsTrue a.is_open
was_open a b (inl p) = p.was_open
was_open a b (inr (inl p)) = p.was_open
was_open a b (inr (inr p)) = p.was_open

one_left : (a : State) (left : Trees) → LeavesMigrated a left → LeavesSteps a left
one_left a left (inl q) = (q.was_open, inl (inr (inr (q.was, q.taken))))
one_left a left (inr (inl q)) = (q.was_open, inl (inr (inl (q.was, q.taken))))
one_left a left (inr (inr q)) = (q.was_open, inl (inl (q.was, q.taken)))

two_left : (a b : State) (left : Trees) → IsMigrated a b → LeavesMigrated b left → TakesTwo a.committed left
two_left a b left (inl p) (inl q) = absurd (let e = follows packing packing a b p q.was in omega (arith, e))
two_left a b left (inl p) (inr (inl q)) = inr (p.was, (b.committed.trees, p.taken, q.taken))
two_left a b left (inl p) (inr (inr q)) = absurd (let e = follows packing forming a b p q.was in omega (arith, e))
two_left a b left (inr (inl p)) (inl q) = absurd (let e = follows dating packing a b p q.was in omega (arith, e))
two_left a b left (inr (inl p)) (inr (inl q)) = absurd (let e = follows dating dating a b p q.was in omega (arith, e))
two_left a b left (inr (inl p)) (inr (inr q)) = inl (p.was, (b.committed.trees, p.taken, q.taken))
two_left a b left (inr (inr p)) (inl q) = absurd (let e = follows forming packing a b p q.was in omega (arith, e))
two_left a b left (inr (inr p)) (inr (inl q)) = absurd (let e = follows forming dating a b p q.was in omega (arith, e))
two_left a b left (inr (inr p)) (inr (inr q)) = absurd (let e = follows forming forming a b p q.was in omega (arith, e))

three_left : (a b c : State) (left : Trees) → AreTwo a b c → LeavesMigrated c left → TakesSteps a.committed left
three_left a b c left (inl both) (inl r) = absurd (let e = follows dating packing b c both.1 r.was in omega (arith, e))
three_left a b c left (inl both) (inr (inl r)) = absurd (let e = follows dating dating b c both.1 r.was in omega (arith, e))
three_left a b c left (inl both) (inr (inr r)) =
    inr (inr (both.0.was, (b.committed.trees, both.0.taken, (c.committed.trees, both.1.taken, r.taken))))
three_left a b c left (inr both) (inl r) = absurd (let e = follows forming packing b c both.1 r.was in omega (arith, e))
three_left a b c left (inr both) (inr (inl r)) = absurd (let e = follows forming dating b c both.1 r.was in omega (arith, e))
three_left a b c left (inr both) (inr (inr r)) = absurd (let e = follows forming forming b c both.1 r.was in omega (arith, e))

pub leaves_two : (a b c : State) → (HasCleanDisk b → IsMigrated a b) → Survives a b (LeavesMigrated a) → Survives b c (LeavesMigrated b)
    → Survives a c (LeavesSteps a)
leaves_two a b c did one two =
    survives_then a b c (LeavesMigrated a) (LeavesMigrated b) (LeavesSteps a) (λ _ left m. one_left a left m)
    (λ clean left m.
    let p = did (omega (arith, clean, two.clean)) in
    (was_open a b p, inr (inl (two_left a b left p m)))) one two

pub leaves_three : (a b c d : State) → (HasCleanDisk b → IsMigrated a b) → (HasCleanDisk c → IsMigrated b c)
    → Survives a b (LeavesMigrated a) → Survives b c (LeavesMigrated b) → Survives c d (LeavesMigrated c) → Survives a d (LeavesSteps a)
leaves_three a b c d did next one two three =
    survives_then a c d (LeavesSteps a) (LeavesMigrated c) (LeavesSteps a) (λ _ left m. m)
    (λ clean left m.
    let p = did (omega (arith, clean, two.clean, three.clean)) in
    let q = next (omega (arith, clean, three.clean)) in
    (was_open a b p, inr (inr (three_left a b c left (are_two a b c p q) m)))) (leaves_two a b c did one two) three

-- ---- where the store is current

taken_formed : (a b : State) → IsTaken forming a b → IsCurrentStore b.committed
taken_formed a b p = record {
  store = record { schema = p.schema; version = p.taken.version };
  bare = (p.taken.unversioned, p.taken.undated);
}

-- one that was current still is
pub still_current : (a b : State) → Answered a b AlreadyCurrent → IsCurrentStore b.committed
still_current a b is = subst IsCurrentStore (sym (is.2.committed is.1.is_open)) is.0

current_third : (a b c d : State) → AreTwo a b c → (it : Migrated) → Answered c d it → IsCurrentStore d.committed
current_third a b c d two AlreadyCurrent is = still_current c d is
current_third a b c d (inl both) Done (inl r) = absurd (let e = follows dating packing b c both.1 r.was in omega (arith, e))
current_third a b c d (inl both) Done (inr (inl r)) = absurd (let e = follows dating dating b c both.1 r.was in omega (arith, e))
current_third a b c d (inl both) Done (inr (inr r)) = taken_formed c d r
current_third a b c d (inr both) Done (inl r) = absurd (let e = follows forming packing b c both.1 r.was in omega (arith, e))
current_third a b c d (inr both) Done (inr (inl r)) = absurd (let e = follows forming dating b c both.1 r.was in omega (arith, e))
current_third a b c d (inr both) Done (inr (inr r)) = absurd (let e = follows forming forming b c both.1 r.was in omega (arith, e))

-- behind two steps it is, whatever the third answer
pub current_all : (a b c d : State) → IsMigrated a b → IsMigrated b c → (it : Migrated) → Answered c d it → IsCurrentStore d.committed
current_all a b c d p q it answered = current_third a b c d (are_two a b c p q) it answered

-- it was one step away, if a step was done and then it is current
pub taken_last : (a b c : State) → IsMigrated a b → Answered b c AlreadyCurrent → TakesSteps a.committed c.committed.trees
taken_last a b c (inl p) is = absurd (let e = ap (λ (x : Schema). length x.tables) (sym p.schema ∙ is.0.store.schema) in omega (arith, e))
taken_last a b c (inr (inl p)) is = absurd (let e = ap (λ (x : Schema). length x.tables) (sym p.schema ∙ is.0.store.schema) in omega (arith, e))
taken_last a b c (inr (inr p)) is =
    let same = is.2.committed is.1.is_open in
    inl (p.was, subst (λ (db : Database). HasFormed a.committed.trees db.trees) (sym same) p.taken)

-- what one step leaves is among what all may leave
pub leaves_one : (a b : State) → Survives a b (LeavesMigrated a) → Survives a b (LeavesSteps a)
leaves_one a b one = record {
  clean = one.clean;
  shield = one.shield;
  counts = one.counts;
  limit = one.limit;
  closes = one.closes;
  crash = λ clean left may. elim (one.crash clean left may) [ inl was ↦ inl was | inr made ↦ inr (one_left a left made) ];
}
