use Rattle.std.proofs.Common.{arith}
use Rattle.mds_jobs.specs.Jobs.{content_of}
use Rattle.mds_fill.specs.Fills.{IsLikeBook}
use Rattle.mds_fill.proofs.SourceLemmas.{likes_more, slot_at}
use Rattle.mds_fill.proofs.sources.nearest_like_day.Goals as goal

pub returns-in-Some : goal.returns-in-Some
returns-in-Some c = λ w is. let job = content_of c.args.job.now in
    let n = c.loop-slot.slot-index in
    let found = c.in-Some.ensures w n
    (slot_at (IsLikeBook w job n) c.args.context.now.candidates n _ (is.candidates n c.loop-slot-test.true)) in (
      found.0,
      record {
        place = n;
        like = found.1;
        all = found.2;
        nearest = λ lesser other below. c.loop-slot.invariant w is lesser other below;
      },
      found.3,
    )

pub loop-slot-preserved : goal.loop-slot-preserved
loop-slot-preserved c = λ w is. let job = content_of c.args.job.now in
    let n = c.loop-slot.slot-index in
    likes_more w job n (c.in_default.ensures w n
    (slot_at (IsLikeBook w job n) c.args.context.now.candidates n _ (is.candidates n c.loop-slot-test.true)))
    (c.loop-slot.invariant w is)

pub returns : goal.returns
returns c = λ w is place day like.
    c.loop-slot.invariant w is place day (let few = like.0 in omega (arith, few, c.loop-slot-test.false)) like
