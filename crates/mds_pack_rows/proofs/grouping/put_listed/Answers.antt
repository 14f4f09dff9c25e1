use Rattle.std.proofs.Common.{◌≡◌, ◌++◌, [], map, refl, sym, ap, subst, ◌∙◌, append-nil, arith}
use Rattle.std.proofs.lemmas.List.{nil_from_length, take-append-drop}
use Rattle.mds_keeper.specs.Books.{row_fact}
use Rattle.sqlite.specs.Held.{state}
use Rattle.mds_tables.proofs.CallLemmas.{keeps_same, survives_more, survives_same}
use Rattle.mds_pack_rows.specs.Putting.{PutsFacts}
use Rattle.mds_pack_rows.proofs.PutLemmas.{kept_then, next_front, puts_next, puts_none}
use Rattle.mds_pack_rows.proofs.grouping.put_listed.Goals as goal

pub loop-left-init : goal.loop-left-init
loop-left-init g c =
    let s = state g.S.Store c.args.tx.now.conn.now in
    record {
      same = refl;
      survives = survives_same s;
      kept = λ _. keeps_same s;
      puts = ([], refl, puts_none s);
    }

pub loop-left-preserved : goal.loop-left-preserved
loop-left-preserved g c =
    let old = state g.S.Store c.args.tx.now.conn.now in
    let mid = state g.S.Store c.loop-left.tx.conn.now in
    let new = state g.S.Store c.put_run.new.tx.conn.now in
    let before = c.loop-left.invariant in
    let front = before.puts.0 in
    let left = c.loop-left.left.now in
    let run = c.split_at.result.0.now in
    let rest = c.split_at.result.1.now in
    let parts : run ++ rest ≡ left = (λ i. c.split_at.ensures.front i ++ c.split_at.ensures.back i) ∙ take-append-drop c.end_of_run-end.result left in
    let later = c.put_run.ensures.survives.clean in
    record {
      same = c.put_run.ensures.same_reference ∙ before.same;
      survives = survives_more old mid new before.survives c.put_run.ensures.survives;
      kept = kept_then old mid new later _ before.puts.2 before.kept c.put_run.ensures.kept;
      puts = (
        front ++ run,
        next_front front left run rest c.args.rows.now before.puts.1 parts,
        puts_next old mid new later c.args.stream.now c.args.day front run before.puts.2 c.in_ok-put_run.ensures.ok,
      );
    }

pub returns-clause-ok : goal.returns-clause-ok
returns-clause-ok g c =
    let it = c.loop-left.invariant.puts in
    let none : c.loop-left.left.now ≡ [] = nil_from_length c.loop-left.left.now (omega (arith, c.in_default.len_below)) in
    let whole : it.0 ≡ c.args.rows.now = sym (ap (λ xs. it.0 ++ xs) none ∙ append-nil it.0) ∙ it.1 in
    subst (PutsFacts (state g.S.Store c.args.tx.now.conn.now) (state g.S.Store c.loop-left.tx.conn.now))
    (ap (map (row_fact c.args.stream.now c.args.day)) whole) it.2

pub returns-in_err-put_run-clause-kept : goal.returns-in_err-put_run-clause-kept
returns-in_err-put_run-clause-kept g c =
    let before = c.loop-left.invariant in
    kept_then (state g.S.Store c.args.tx.now.conn.now) (state g.S.Store c.loop-left.tx.conn.now) (state g.S.Store c.put_run.new.tx.conn.now)
    c.put_run.ensures.survives.clean _ before.puts.2 before.kept c.put_run.ensures.kept

pub returns-in_err-put_run-clause-survives : goal.returns-in_err-put_run-clause-survives
returns-in_err-put_run-clause-survives g c =
    survives_more (state g.S.Store c.args.tx.now.conn.now) (state g.S.Store c.loop-left.tx.conn.now) (state g.S.Store c.put_run.new.tx.conn.now)
    c.loop-left.invariant.survives c.put_run.ensures.survives
