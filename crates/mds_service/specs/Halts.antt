-- The answer to a request that ends before its answer is made (profile).
use Rattle.std.specs.Prelude.{Result, Ok, Err}
use Rattle.mds_keeper.specs.declared.day_merge.Stop.{Stop}
use Rattle.mds_keeper.specs.declared.day_merge.Stop.TheVariants as stops
use Rattle.mds_messages.specs.declared.answer.Answer.{Answer}
use Rattle.mds_messages.specs.declared.answer.Answer.TheVariants as told
use Rattle.mds_service.specs.declared.halt.Halt.{Halt}
use Rattle.mds_service.specs.declared.halt.Halt.TheVariants as halts
use Rattle.mds_walk.specs.declared.fault.TakeFault.{TakeFault}
use Rattle.mds_walk.specs.declared.fault.TakeFault.TheVariants as faults

-- a stop of a merge or a job
abbrev pub of_stop : Stop → Halt
of_stop (stops.Refused refusal) = halts.Refused refusal
of_stop stops.Memory = halts.Unavailable

-- a fault of a file
abbrev pub of_fault : TakeFault → Halt
of_fault (faults.File fault) = halts.File fault
of_fault faults.Memory = halts.Unavailable

-- how a halt is answered
abbrev pub answer_of_halt : Halt → Answer
answer_of_halt (halts.File fault) = told.File fault
answer_of_halt (halts.Refused refusal) = told.Refused refusal
answer_of_halt halts.Unavailable = told.Unavailable

-- the answer of a request that was done, or why it wasn't
abbrev pub answer_of : Result Answer Halt → Answer
answer_of (Ok answer) = answer
answer_of (Err halt) = answer_of_halt halt
