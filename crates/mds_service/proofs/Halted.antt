-- What a request comes to that ends before its answer is made.
use Rattle.std.specs.Prelude.{List, ℕ, Some, None}
use Rattle.std.proofs.Common.{◌≡◌, refl}
use Rattle.mds_fill.specs.Fills.{IsFillRefusal}
use Rattle.mds_jobs.specs.Jobs.{IsBad, content_of}
use Rattle.mds_jobs.specs.declared.job.Job.{Job}
use Rattle.mds_keeper.specs.DayMerges.{IfRefused}
use Rattle.mds_keeper.specs.Kept.{Kept}
use Rattle.mds_keeper.specs.Merge.{IsRefusal, upto}
use Rattle.mds_keeper.specs.declared.day_merge.Stop.{Stop}
use Rattle.mds_keeper.specs.declared.day_merge.Stop.TheVariants as stops
use Rattle.mds_nem13.specs.Accumulations.{AreStatedBy}
use Rattle.mds_nem13.specs.Faults.{fault_of}
use Rattle.mds_nem13.specs.Statements.{statements_of}
use Rattle.mds_nem13.specs.declared.accumulation.Accumulation.{Accumulation}
use Rattle.mds_records.specs.declared.file.FileFault.{FileFault}
use Rattle.mds_records.specs.declared.file.FileKind.{FileKind}
use Rattle.mds_records.specs.declared.file.FileKind.TheVariants.{Nem13}
use Rattle.mds_service.specs.Accumulating.{IsConflictAmong}
use Rattle.mds_service.specs.Crashes.{GoesBy}
use Rattle.mds_service.specs.Halts.{answer_of_halt, of_fault, of_stop}
use Rattle.mds_service.specs.Machine.{ImportStep, TakesIn, fault_in}
use Rattle.mds_service.specs.Substitution.{IsNewJob, SubstituteStep, SuitsDay}
use Rattle.mds_service.proofs.PeriodsTaken.{refused_by_file}
use Rattle.mds_service.proofs.Steps.{unasked}
use Rattle.mds_service.proofs.Substituted.{refused_as}
use Rattle.mds_statements.specs.Delivered.{delivery_statements}
use Rattle.mds_statements.specs.declared.delivery.Delivery.{Delivery}
use Rattle.mds_walk.specs.Answers.{IsRefusal as IsFaultOf}
use Rattle.mds_walk.specs.declared.fault.TakeFault.{TakeFault}
use Rattle.mds_walk.specs.declared.fault.TakeFault.TheVariants as faults
use Rattle.mds_world.specs.World.{IsLawful, World}

-- a file that isn't read
pub unread : {a : Kept} (kind : FileKind) (text : List ℕ) (fault : TakeFault)
    → ((found : FileFault) → fault ≡ faults.File found → fault_in kind text ≡ Some found)
    → GoesBy a a (λ w. ImportStep w kind text) (answer_of_halt (of_fault fault))
unread kind text (faults.File found) is = unasked (λ w. (is found refl, refl))
unread kind text faults.Memory is = unasked (λ w. refl)

-- a file that was fed, and has a fault in the end
pub unfinished : {a : Kept} (kind : FileKind) (text : List ℕ) (fault : TakeFault) → IsFaultOf (fault_in kind text) fault
    → GoesBy a a (λ w. ImportStep w kind text) (answer_of_halt (of_fault fault))
unfinished kind text (faults.File found) is = unasked (λ w. (is, refl))
unfinished kind text faults.Memory is = unasked (λ w. refl)

-- a delivery that breaks a rule
pub stopped : (w : World) (delivery : Delivery) (stop : Stop)
    → IfRefused stop (IsRefusal w (λ line. upto line (delivery_statements delivery)))
    → TakesIn w (delivery_statements delivery) (answer_of_halt (of_stop stop)) w
stopped w delivery (stops.Refused refusal) is = (is, refl)
stopped w delivery stops.Memory is = refl

-- accumulations that break a rule
pub refused_in : (w : World) (text : List ℕ) (xs : List Accumulation) (stop : Stop) → IsLawful w
    → (fault_of text ≡ None) × AreStatedBy (statements_of text) xs → IfRefused stop (IsConflictAmong w xs)
    → ImportStep w Nem13 text (answer_of_halt (of_stop stop)) w
refused_in w text xs (stops.Refused refusal) lawful done is =
    (done.0, refused_by_file w text xs (stops.Refused refusal) refusal refusal lawful done.1 is refl refl, refl)
refused_in w text xs stops.Memory lawful done is = refl

-- a job that breaks a rule
pub stopped_job : (w : World) (job : Job) → (IsBad (content_of job) → ⊥) → IsNewJob w job → SuitsDay w job → (stop : Stop)
    → IfRefused stop (IsFillRefusal w (content_of job)) → SubstituteStep w job (answer_of_halt (of_stop stop)) w
stopped_job w job good new suits (stops.Refused refusal) is =
    (refused_as w job good new suits (stops.Refused refusal) refusal refusal is refl refl, refl)
stopped_job w job good new suits stops.Memory is = (good, refl)
