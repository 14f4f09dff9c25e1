use Rattle.std.proofs.Common.{◌≡◌, ◌++◌, ap, arith, refl, rules, subst, take, take_all, ◌∙◌}
use Rattle.std.proofs.lemmas.Result.{err_from_is_err_and}
use Rattle.sqlite.specs.Held.{state}
use Rattle.mds_tables.proofs.Batches.{chunks_are, flat, flat_more}
use Rattle.mds_commit.specs.FormPutting.{SayUnits}
use Rattle.mds_commit.proofs.UnitAsking.{asked_none, asked_nothing, asked_then, say_both}
use Rattle.mds_commit.proofs.units.have_units.Goals as goal

pub returns-in_err-have_batch-clause-asks : goal.returns-in_err-have_batch-clause-asks
returns-in_err-have_batch-clause-asks g c =
    let p = err_from_is_err_and c.from_residual.result c.from_residual.ensures.1 in
    rw (p.1, p.2) (asked_none _ (asked_then c.loop-batch.invariant.asked (λ _ trees _ says. says) c.in_err-have_batch.ensures.asks))

pub loop-batch-preserved : goal.loop-batch-preserved
loop-batch-preserved g c =
    let batches = c.as_chunks.result.0.now in
    let at = c.loop-batch.batch-index in
    let batch = c.batch-item.result in
    record {
      same = search rules;
      asked = asked_then c.loop-batch.invariant.asked
          (λ _ trees before here. subst (λ hs. SayUnits hs trees) (flat_more batches at batch (omega arith) c.batch-item.is)
          (say_both (flat (take at batches)) batch trees before here)) c.in_ok-have_batch.ensures.asks;
    }

pub returns-clause-asks : goal.returns-clause-asks
returns-clause-asks g c =
    let batches = c.as_chunks.result.0.now in
    let at = c.loop-batch.batch-index in
    let rest = c.as_chunks.result.1.now in
    let whole : flat (take at batches) ++ rest ≡ c.args.heads.now =
    ap (λ xss. flat xss ++ rest) (take_all at batches (omega arith))
    ∙ chunks_are _ c.args.heads.now _ batches rest c.as_chunks.ensures.front c.as_chunks.ensures.back in
    asked_then c.loop-batch.invariant.asked
    (λ _ trees before here. subst (λ hs. SayUnits hs trees) whole (say_both (flat (take at batches)) rest trees before here))
    c.have_each.ensures.asks

pub loop-batch-init : goal.loop-batch-init
loop-batch-init g c = record { same = refl; asked = asked_nothing (state g.S.Store c.args.tx.now.conn.now) }
