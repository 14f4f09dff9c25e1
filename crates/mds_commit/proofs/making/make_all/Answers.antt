use Rattle.std.proofs.Common.{◌≡◌, IfErr, IsTrue, ap, refl, rules}
use Rattle.sqlite.specs.Held.{state}
use Rattle.sqlite.specs.State.{HasCleanDisk, Survives}
use Rattle.mds_tables.specs.Causes.{HasFailed}
use Rattle.mds_tables.specs.Making.{AreEmpty, HasMadeOf, SaysVersionOf}
use Rattle.mds_tables.specs.Tables.{no_schema}
use Rattle.mds_tables.proofs.MadeLemmas.{commit_fails, has_made}
use Rattle.mds_pack_rows.specs.Current.{current_layout, current_schema, current_tables}
use Rattle.mds_commit.proofs.making.make_all.Goals as goal

pub returns-clause-survives : goal.returns-clause-survives
returns-clause-survives g c =
    let start = state g.S.Store c.args.conn.now in
    let left : Survives start (state g.S.Store c.commit.new.self.0) (HasMadeOf current_layout start) =
    has_made current_layout start (state g.S.Store c.transaction-tx.result.conn.now) (state g.S.Store c.make_each.new.tx.conn.now)
    (state g.S.Store c.say_version.new.tx.conn.now) (state g.S.Store c.commit.new.self.0)
    (ap (state g.S.Store) c.transaction-tx.ensures.begun) c.make_each.ensures.survives c.say_version.ensures.survives
    c.commit.ensures.survives c.in_ok-make_each.ensures.ok (c.in_ok-say_version.ensures.ok current_layout refl) in
    search rules

pub returns-clause-cause : goal.returns-clause-cause
returns-clause-cause g c =
    let start = state g.S.Store c.args.conn.now in
    let new = state g.S.Store c.commit.new.self.0 in
    let why : HasCleanDisk new → IsTrue start.is_open → start.now.schema ≡ no_schema → IfErr c.commit.result (HasFailed start new) =
    commit_fails current_layout start (state g.S.Store c.transaction-tx.result.conn.now) (state g.S.Store c.make_each.new.tx.conn.now)
    (state g.S.Store c.say_version.new.tx.conn.now) new
    (ap (state g.S.Store) c.transaction-tx.ensures.begun) c.make_each.ensures.survives c.say_version.ensures.survives
    c.commit.ensures.survives c.in_ok-make_each.ensures.ok (c.in_ok-say_version.ensures.ok current_layout refl) c.commit.result c.commit.ensures.err in
    search rules

pub returns-clause-ok : goal.returns-clause-ok
returns-clause-ok g c =
    let says : SaysVersionOf current_layout (state g.S.Store c.make_each.new.tx.conn.now) (state g.S.Store c.say_version.new.tx.conn.now) =
    c.in_ok-say_version.ensures.ok current_layout refl in
    search rules

pub returns-in_err-say_version-clause-cause : goal.returns-in_err-say_version-clause-cause
returns-in_err-say_version-clause-cause g c =
    let last = state g.S.Store c.make_each.new.tx.conn.now in
    let said = state g.S.Store c.say_version.new.tx.conn.now in
    let why : HasCleanDisk said → IsTrue last.is_open → IsTrue last.in_transaction → last.now.schema ≡ current_schema → AreEmpty current_tables last.now
    → HasFailed last said c.in_err-say_version.field-0.0 =
    λ clean is_open inside. c.in_err-say_version.ensures.cause clean is_open inside current_layout refl in
    search rules
