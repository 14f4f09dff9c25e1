use Rattle.std.proofs.Common.{◌≡◌, ◌++◌, length, take}
use Rattle.mds_jobs.specs.Bodies.{parts_of}
use Rattle.mds_jobs.specs.BodySteps.{texts_of}
use Rattle.mds_jobs.proofs.body.parts_in.Given as goal

abbrev pub invariant-loop-at : goal.invariant-loop-at
invariant-loop-at l = (length l.texts ≡ 12) × (parts_of l.body ≡ texts_of (take l.at l.texts) ++ parts_of l.rest)
