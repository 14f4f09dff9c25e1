use Rattle.std.proofs.Common.{◌≡◌, ◌≤◌, ◌+◌, ◌∙◌, arith, refl, subst}
use Rattle.std.proofs.lemmas.Result.{err_from_is_err_and}
use Rattle.sqlite.specs.Held.{state}
use Rattle.sqlite.specs.Schema.{Schema}
use Rattle.sqlite.specs.State.{HasCleanDisk, State}
use Rattle.sqlite.proofs.InsideLemmas.{keeps_then}
use Rattle.sqlite_trees.specs.View.{doubt}
use Rattle.mds_tables.specs.Making.{MakesThere}
use Rattle.mds_tables.proofs.CallLemmas.{keeps_same, survives_more, survives_same}
use Rattle.mds_tables.proofs.CauseLemmas.{failed_since}
use Rattle.mds_tables.specs.Tables.{no_schema}
use Rattle.mds_tables.proofs.CreateLemmas.{none_there}
use Rattle.mds_pack_rows.specs.Schemas.{schema_of}
use Rattle.mds_commit.proofs.making.make_each.Goals as goal

-- some tables are made, and then one more
makes_then : (s t u : Schema) (a b c : State) → doubt b.is_clean ≤ doubt c.is_clean → MakesThere s t a b → MakesThere t u b c
    → MakesThere s u a c
makes_then s t u a b c later one two =
    let early : HasCleanDisk c → HasCleanDisk b = λ clean. omega (arith, clean, later) in
    record {
      was_open = λ clean o. one.was_open (early clean) (two.was_open clean o);
      is_open = λ clean o. two.is_open clean (one.is_open (early clean) o);
      schema = λ clean o has. two.schema clean (one.is_open (early clean) o) (one.schema (early clean) o has);
      inside = λ clean o. two.inside clean (one.inside (early clean) o);
      empty = λ clean o has none.
          let first = early clean in
          two.empty clean (one.is_open first o) (one.schema first o has) (one.empty first o has none);
    }

pub loop-n-init : goal.loop-n-init
loop-n-init g c = record {
  same = refl;
  survives = survives_same (state g.S.Store c.args.tx.now.conn.now);
  kept = λ _. keeps_same (state g.S.Store c.args.tx.now.conn.now);
  made = none_there no_schema (state g.S.Store c.args.tx.now.conn.now);
}

pub loop-n-preserved : goal.loop-n-preserved
loop-n-preserved g c =
    let old = state g.S.Store c.args.tx.now.conn.now in
    let mid = state g.S.Store c.loop-n.tx.conn.now in
    let new = state g.S.Store c.make_table.new.tx.conn.now in
    let before = c.loop-n.invariant in
    let more = c.in_ok-make_table.ensures in
    let later = more.survives.clean in
    record {
      same = more.same_reference ∙ before.same;
      survives = survives_more old mid new before.survives more.survives;
      kept = λ clean. keeps_then old mid new (before.kept (omega (arith, clean, later))) (more.kept clean);
      made = makes_then no_schema (schema_of c.loop-n.n) (schema_of (c.loop-n.n + 1)) old mid new later before.made more.ok;
    }

pub returns-in_err-make_table-clause-same_reference : goal.returns-in_err-make_table-clause-same_reference
returns-in_err-make_table-clause-same_reference g c = c.make_table.ensures.same_reference ∙ c.loop-n.invariant.same

pub returns-in_err-make_table-clause-ok : goal.returns-in_err-make_table-clause-ok
returns-in_err-make_table-clause-ok g c = let p = err_from_is_err_and c.from_residual.result c.from_residual.ensures.1 in rw p.1 tt

pub returns-in_err-make_table-clause-cause : goal.returns-in_err-make_table-clause-cause
returns-in_err-make_table-clause-cause g c clean is_open inside has =
    let p = err_from_is_err_and c.from_residual.result c.from_residual.ensures.1 in
    let mid = state g.S.Store c.loop-n.tx.conn.now in
    let before = c.loop-n.invariant in
    let early : HasCleanDisk mid = omega (arith, clean, c.make_table.ensures.survives.clean) in
    rw (p.1, p.2)
    (failed_since (state g.S.Store c.args.tx.now.conn.now) mid (state g.S.Store c.make_table.new.tx.conn.now)
    before.survives.counts (before.made.is_open early is_open) before.survives.limit _
    (c.in_err-make_table.ensures.cause clean (before.made.inside early inside) (before.made.schema early is_open has)))

pub returns-in_err-make_table-clause-kept : goal.returns-in_err-make_table-clause-kept
returns-in_err-make_table-clause-kept g c clean =
    keeps_then (state g.S.Store c.args.tx.now.conn.now) (state g.S.Store c.loop-n.tx.conn.now) (state g.S.Store c.make_table.new.tx.conn.now)
    (c.loop-n.invariant.kept (omega (arith, clean, c.make_table.ensures.survives.clean))) (c.make_table.ensures.kept clean)

pub returns-in_err-make_table-clause-survives : goal.returns-in_err-make_table-clause-survives
returns-in_err-make_table-clause-survives g c =
    survives_more (state g.S.Store c.args.tx.now.conn.now) (state g.S.Store c.loop-n.tx.conn.now) (state g.S.Store c.make_table.new.tx.conn.now)
    c.loop-n.invariant.survives c.make_table.ensures.survives

pub returns-clause-same_reference : goal.returns-clause-same_reference
returns-clause-same_reference g c = c.loop-n.invariant.same

pub returns-clause-ok : goal.returns-clause-ok
returns-clause-ok g c =
    let all : c.loop-n.n ≡ 11 = omega arith in
    subst (λ n. MakesThere no_schema (schema_of n) (state g.S.Store c.args.tx.now.conn.now) (state g.S.Store c.loop-n.tx.conn.now)) all
    c.loop-n.invariant.made

pub returns-clause-cause : goal.returns-clause-cause
returns-clause-cause g c clean is_open inside has = tt

pub returns-clause-kept : goal.returns-clause-kept
returns-clause-kept g c = c.loop-n.invariant.kept

pub returns-clause-survives : goal.returns-clause-survives
returns-clause-survives g c = c.loop-n.invariant.survives
