use Rattle.std.proofs.Common.{◌≡◌, ◌+◌, ◌<◌, ◌*◌, ◌/◌, ◌-◌, arith, length, refl, rules}
use Rattle.std.proofs.lemmas.Result.{err_from_is_err_and}
use Rattle.sqlite.specs.Held.{state}
use Rattle.mds_tables.specs.Parts.{together}
use Rattle.mds_tables.specs.Tabling.{part_in}
use Rattle.mds_tables.proofs.ChangeLemmas.{more_put, more_stopped, none_put}
use Rattle.mds_tables.proofs.TurnLemmas.{every_turn, later, next_size, stated_more, taken_more, ends_turn, whole_turn}
use Rattle.mds_tables.proofs.rows.put_all.Goals as goal

pub loop-k-init : goal.loop-k-init
loop-k-init g c = record { same = refl; puts = λ rest. none_put (state g.S.Store c.args.tx.now.conn.now) }

pub loop-k-preserved : goal.loop-k-preserved
loop-k-preserved g c =
    let part = part_in (g.T.Tabled.tabling c.args.with.now) in
    let items = c.args.items.now in
    let k = c.loop-k.k in
    let low : k < length items / together = omega arith in
    let cut : (k + 1) * together - k * together ≡ together = omega arith in
    let size = next_size part items k low in
    record {
      same = search rules;
      puts = λ rest. more_put (c.loop-k.invariant.puts rest) (taken_more part items k) (stated_more part items k)
          (rw (cut, size, c.many.ensures c.args.with.now) at (c.in_ok-put_some.ensures.puts rest) (g.met.T.Tabled.is c.args.with.now rest).many);
    }

pub returns-in_err-put_some-clause-puts : goal.returns-in_err-put_some-clause-puts
returns-in_err-put_some-clause-puts g c rest =
    let p = err_from_is_err_and c.from_residual.result c.from_residual.ensures.1 in
    let part = part_in (g.T.Tabled.tabling c.args.with.now) in
    let items = c.args.items.now in
    let k = c.loop-k.k in
    let low : k < length items / together = omega arith in
    let cut : (k + 1) * together - k * together ≡ together = omega arith in
    let size = next_size part items k low in
    rw (p.1, p.2) (more_stopped (c.loop-k.invariant.puts rest) (later part items k) (every_turn part items k low)
    (rw (cut, size, c.many.ensures c.args.with.now) at (c.in_err-put_some.ensures.puts rest) (g.met.T.Tabled.is c.args.with.now rest).many))

pub returns-clause-puts : goal.returns-clause-puts
returns-clause-puts g c rest =
    let part = part_in (g.T.Tabled.tabling c.args.with.now) in
    let items = c.args.items.now in
    let last : c.loop-k.k ≡ length items / together = omega arith in
    more_put (c.loop-k.invariant.puts rest) (whole_turn part items c.loop-k.k last) (ends_turn part items c.loop-k.k last) (c.put_each.ensures.puts rest)
