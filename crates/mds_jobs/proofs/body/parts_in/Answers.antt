use Rattle.std.proofs.Common.{◌≡◌, ◌++◌, ◌∙◌, ap, arith, length-set, take}
use Rattle.mds_jobs.specs.BodySteps.{texts_of}
use Rattle.mds_jobs.proofs.BodySplits.{last, last_size, push, too_few, too_many}
use Rattle.mds_jobs.proofs.body.parts_in.Goals as goal

pub loop-at-preserved : goal.loop-at-preserved
loop-at-preserved c =
    let i = c.loop-at.invariant in
    (length-set c.loop-at.texts c.loop-at.at c.in-Some.found.0 ∙ i.0, push c.loop-at.texts c.loop-at.at c.in-Some.found.0 _ _ (omega arith) (i.1 ∙ ap (λ t. texts_of (take c.loop-at.at c.loop-at.texts) ++ t) c.in-Some.ensures))

pub returns-in_default : goal.returns-in_default
returns-in_default c =
    let i = c.loop-at.invariant in
    too_few c.loop-at.texts c.loop-at.at c.loop-at.rest.now _ i.0 c.loop-at-test.true (i.1 ∙ ap (λ t. texts_of (take c.loop-at.at c.loop-at.texts) ++ t) c.in_default.ensures)

pub returns-in-Some-first_part : goal.returns-in-Some-first_part
returns-in-Some-first_part c =
    let i = c.loop-at.invariant in
    too_many c.loop-at.texts c.loop-at.at c.in-Some-first_part.field-0.0.now c.in-Some-first_part.field-0.1.now _ i.0 (omega arith) (i.1 ∙ ap (λ t. texts_of (take c.loop-at.at c.loop-at.texts) ++ t) c.in-Some-first_part.ensures)

pub returns-in-None : goal.returns-in-None
returns-in-None c =
    let i = c.loop-at.invariant in
    let end : c.loop-at.at ≡ 11 = omega arith in
    let all = i.1 ∙ ap (λ t. texts_of (take c.loop-at.at c.loop-at.texts) ++ t) c.in-None.ensures in
    (last c.loop-at.texts c.loop-at.at c.loop-at.rest _ i.0 end all, last_size c.loop-at.texts c.loop-at.at c.loop-at.rest _ i.0 end all)
