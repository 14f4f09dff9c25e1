use Rattle.std.proofs.Common.{◌≡◌, ◌++◌, ◌∙◌, Err, ap, inl, map, refl, subst, sym}
use Rattle.std.proofs.lemmas.Result.{err_from_is_err_and}
use Rattle.std.specs.FinSet as set
use Rattle.mds_world.specs.Facts.Fact.{HeadIs}
use Rattle.mds_world.specs.World.{Agrees, IsLawful, World, union}
use Rattle.mds_keeper.specs.Kept.{Adds}
use Rattle.mds_keeper.specs.declared.keeper.Unavailable.{Unavailable}
use Rattle.mds_keeper.specs.Content.{content, heads_of, job_fact, period_fact, version_fact, versions_of}
use Rattle.mds_memory.specs.Stored.{IsChange, days_world, stored_world}
use Rattle.mds_memory.specs.StoredDetails.{all_details}
use Rattle.mds_memory.proofs.Kept.{committed, details_absent, details_apart, lawful_days, lawful_jobs, notes_absent, notes_apart, periods_agree}
use Rattle.mds_memory.proofs.Told.{added, keeps}
use Rattle.mds_memory.proofs.memory.MemoryKeeperKeeper.commit.Goals as goal
use Rattle.mds_memory.proofs.memory.MemoryKeeperKeeper.commit.Goals.{After-drop-meters-2}

-- there was no memory, and the World is what it was
not_added : {v w more : World} {e : Unavailable} → v ≡ w → Adds {A = Unit {0}} (keeps w) (keeps v) (Err e) more
not_added is = record {
  outside = λ honest. honest;
  before = λ sound. sound;
  opens = λ honest. tt;
  ok = λ sound. tt;
  err = λ sound. is;
  crash = λ honest left it. inl (it ∙ is);
}

pub returns-in_err-meters : goal.returns-in_err-meters
returns-in_err-meters c = let p = err_from_is_err_and c.from_residual.result c.from_residual.ensures.1 in rw p.1 (not_added refl)

pub returns-in_err-notes : goal.returns-in_err-notes
returns-in_err-notes c = let p = err_from_is_err_and c.from_residual-in_err-notes.result c.from_residual-in_err-notes.ensures.1 in rw p.1 (not_added refl)

pub returns-in_err-all_heads : goal.returns-in_err-all_heads
returns-in_err-all_heads c = let p = err_from_is_err_and c.from_residual-in_err-all_heads.result c.from_residual-in_err-all_heads.ensures.1 in rw p.1 (not_added refl)

pub returns-in_err-changed : goal.returns-in_err-changed
returns-in_err-changed c = let p = err_from_is_err_and c.from_residual-in_err-changed.result c.from_residual-in_err-changed.ensures.1 in rw p.1 (not_added refl)

pub changed_days-requires-clause-lawful : goal.changed_days-requires-clause-lawful
changed_days-requires-clause-lawful c =
    rw c.in_ok-all_heads.ensures
    (lawful_days c.self.inside.days c.self.inside.details c.self.inside.notes c.self.inside.jobs c.self.inside.periods c.args.additions
    (rw c.self.view_is (c.requires.lawful tt (rw c.self.view_is at c.self.invariant.lawful))))

pub insert_both-requires-clause-details : goal.insert_both-requires-clause-details
insert_both-requires-clause-details c =
    let new = c.requires.new tt (rw c.self.view_is at c.self.invariant.lawful) in
    rw c.deref-3.ensures.value (
      details_apart c.args.self.now c.args.additions (all_details c.in_ok-meters.meters.items) new c.in_ok-meters.ensures,
      details_absent c.self.inside.days c.self.inside.details c.self.inside.notes c.self.inside.jobs c.self.inside.periods
          c.args.self.now c.args.additions (all_details c.in_ok-meters.meters.items) c.self.view_is new c.in_ok-meters.ensures,
    )

pub insert_both-requires-clause-notes : goal.insert_both-requires-clause-notes
insert_both-requires-clause-notes c =
    let new = c.requires.new tt (rw c.self.view_is at c.self.invariant.lawful) in
    rw c.deref-4.ensures.value (
      notes_apart c.args.self.now c.args.additions c.in_ok-notes.notes.items new c.in_ok-notes.ensures,
      notes_absent c.self.inside.days c.self.inside.details c.self.inside.notes c.self.inside.jobs c.self.inside.periods
          c.args.self.now c.args.additions c.in_ok-notes.notes.items c.self.view_is new c.in_ok-notes.ensures,
    )

pub put_jobs-requires-clause-lawful : goal.put_jobs-requires-clause-lawful
put_jobs-requires-clause-lawful c =
    subst (λ w. IsLawful (union w (set.from_list (map job_fact c.args.additions.jobs.items)))) (sym c.make_places.ensures.same)
    (lawful_jobs c.self.inside.days c.self.inside.details c.self.inside.notes c.self.inside.jobs c.self.inside.periods c.args.additions
    (rw c.self.view_is (c.requires.lawful tt (rw c.self.view_is at c.self.invariant.lawful))))

pub put_periods-requires-clause-agrees : goal.put_periods-requires-clause-agrees
put_periods-requires-clause-agrees c =
    subst (λ w. Agrees (union w (set.from_list (map period_fact c.args.additions.periods.items)))) (sym c.make_keys.ensures.same)
    (periods_agree c.self.inside.days c.self.inside.details c.self.inside.notes c.self.inside.jobs c.self.inside.periods c.args.additions
    (rw c.self.view_is (c.requires.lawful tt (rw c.self.view_is at c.self.invariant.lawful))))

made : (c : After-drop-meters-2)
    → stored_world c.put_days.new.days c.insert_both.new.details c.insert_both.new.notes c.put_jobs.new.jobs c.put_periods.new.periods
    ≡ union (stored_world c.self.inside.days c.self.inside.details c.self.inside.notes c.self.inside.jobs c.self.inside.periods) (content c.args.additions)
made c =
    let more : World = set.from_list (map HeadIs (heads_of c.args.additions) ++ map version_fact (versions_of c.args.additions.days.items)) in
    let change : IsChange (days_world c.self.inside.days) more c.in_ok-changed.changed =
    rw c.in_ok-all_heads.ensures at c.in_ok-changed.ensures.1 in
    let here : IsChange (days_world c.make_room.new.days) more c.in_ok-changed.changed =
    subst (λ w. IsChange w more c.in_ok-changed.changed) (sym c.make_room.ensures.same) change in
    committed c.self.inside.days c.put_days.new.days c.self.inside.details c.insert_both.new.details c.self.inside.notes c.insert_both.new.notes c.self.inside.jobs c.put_jobs.new.jobs c.self.inside.periods c.put_periods.new.periods c.args.additions
    (all_details c.in_ok-meters.meters.items) c.in_ok-notes.notes.items
    (c.put_days.ensures.put _ here
    ∙ ap (λ w. union w more) c.make_room.ensures.same)
    (rw c.deref-3.ensures.value at c.in_ok-insert_both.ensures.ok_details)
    c.in_ok-meters.ensures
    (rw c.deref-4.ensures.value at c.in_ok-insert_both.ensures.ok_notes)
    c.in_ok-notes.ensures
    (c.put_jobs.ensures.put ∙ ap (λ w. union w (set.from_list (map job_fact c.args.additions.jobs.items))) c.make_places.ensures.same)
    (c.put_periods.ensures.put
    ∙ ap (λ w. union w (set.from_list (map period_fact c.args.additions.periods.items))) c.make_keys.ensures.same)

pub invariant_of-self-2 : goal.invariant_of-self-2
invariant_of-self-2 c = record {
  lawful = subst IsLawful (ap (λ w. union w (content c.args.additions)) (sym c.self.view_is) ∙ sym (made c))
      (c.requires.lawful tt (subst IsLawful c.self.view_is c.self.invariant.lawful));
  theirs = c.put_days.ensures.theirs;
  ids = c.put_jobs.ensures.theirs;
  keys = c.put_periods.ensures.ordered;
}

pub returns : goal.returns
returns c = added (made c ∙ ap (λ w. union w (content c.args.additions)) c.self.view_is)
