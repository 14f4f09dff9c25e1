use Rattle.std.proofs.Common.{◌+◌, Ok, arith, drop, refl, rules, subst, take_all}
use Rattle.std.proofs.lemmas.Result.{err_from_is_err_and}
use Rattle.sqlite.specs.Held.{state}
use Rattle.mds_tables.specs.Tables.{schema_with}
use Rattle.mds_tables.specs.Parts.{singly}
use Rattle.mds_tables.specs.Writing.{PutsEach}
use Rattle.mds_tables.proofs.ChangeLemmas.{more_put, more_stopped, none_put}
use Rattle.mds_tables.proofs.Batches.{singly_both, singly_more}
use Rattle.mds_tables.proofs.PutLemmas.{one_more}
use Rattle.mds_tables.specs.Tabling.{part_in}
use Rattle.mds_tables.proofs.rows.put_each.Goals as goal

pub loop-item-init : goal.loop-item-init
loop-item-init g c = record { same = refl; puts = λ rest. none_put (state g.S.Store c.args.tx.now.conn.now) }

pub loop-item-preserved : goal.loop-item-preserved
loop-item-preserved g c =
    let t = g.T.Tabled.tabling c.args.with.now in
    let items = c.args.items.now in
    let at = c.loop-item.item-index in
    let item = c.item-item.result in
    record {
      same = search rules;
      puts = λ rest. more_put (c.loop-item.invariant.puts rest) (one_more items at item (omega arith) c.item-item.is)
          (singly_more (part_in t) items at item (one_more items at item (omega arith) c.item-item.is))
          (rw (c.from_ref.ensures.value, c.one.ensures c.args.with.now) at (c.in_ok-put_some.ensures.puts rest) (g.met.T.Tabled.is c.args.with.now rest).one);
    }

pub returns-in_err-put_some-clause-puts : goal.returns-in_err-put_some-clause-puts
returns-in_err-put_some-clause-puts g c rest =
    let p = err_from_is_err_and c.from_residual.result c.from_residual.ensures.1 in
    let part = part_in (g.T.Tabled.tabling c.args.with.now) in
    let items = c.args.items.now in
    let at = c.loop-item.item-index in
    let item = c.item-item.result in
    rw (p.1, p.2)
    (more_stopped (c.loop-item.invariant.puts rest) (singly part (drop (at + 1) items))
    (singly_both part items at item (one_more items at item (omega arith) c.item-item.is))
    (rw (c.from_ref.ensures.value, c.one.ensures c.args.with.now) at (c.in_err-put_some.ensures.puts rest) (g.met.T.Tabled.is c.args.with.now rest).one))

pub returns-clause-puts : goal.returns-clause-puts
returns-clause-puts g c rest =
    let t = g.T.Tabled.tabling c.args.with.now in
    subst (λ items. PutsEach {X = Unit {0}} (schema_with (t.behind rest)) (part_in t) (singly (part_in t) items) (state g.S.Store c.args.tx.now.conn.now)
    (state g.S.Store c.loop-item.tx.conn.now) (Ok tt) items)
    (take_all c.loop-item.item-index c.args.items.now (omega arith)) (c.loop-item.invariant.puts rest)
