-- What is said of statements is said of a file that states them.
use Rattle.std.specs.Prelude.{◌≡◌, ℕ, List, None}
use Rattle.std.proofs.Common.{subst}
use Rattle.mds_records.specs.declared.file.FileKind.{FileKind}
use Rattle.mds_statements.specs.Statements.{Statement}
use Rattle.mds_world.specs.World.{World}
use Rattle.mds_keeper.specs.Kept.{Kept}
use Rattle.mds_messages.specs.declared.answer.Answer.{Answer}
use Rattle.mds_messages.specs.declared.answer.Answer.TheVariants as told
use Rattle.mds_service.specs.Crashes.{GoesBy}
use Rattle.mds_service.specs.Machine.{ImportStep, TakesIn, fault_in, stated_in}
use Rattle.mds_service.proofs.Steps.{goes_as}

module _ (kind : FileKind) (text : List ℕ) (well : fault_in kind text ≡ None) where
  as_step : (w v : World) (answer : Answer) → TakesIn w (stated_in kind text) answer v → ImportStep w kind text answer v
  as_step w v (told.Imported added known) h = (well, h.0, h.1, h.2, h.3)
  as_step w v (told.Substituted count) h = absurd h
  as_step w v (told.Known count) h = absurd h
  as_step w v (told.HolidaysAdded added known) h = absurd h
  as_step w v (told.Day answer) h = absurd h
  as_step w v (told.Versions answer) h = absurd h
  as_step w v (told.Period answer) h = absurd h
  as_step w v (told.Streams answers) h = absurd h
  as_step w v (told.Gaps text) h = absurd h
  as_step w v (told.Finals text) h = absurd h
  as_step w v (told.Missing text) h = absurd h
  as_step w v (told.Readings text) h = absurd h
  as_step w v (told.Exported text) h = absurd h
  as_step w v (told.File fault) h = absurd h
  as_step w v (told.Refused refusal) h = (well, h.0, h.1)
  as_step w v told.Unavailable h = h

  pub as_import : {a b : Kept} {answer : Answer} (statements : List Statement) → statements ≡ stated_in kind text
      → GoesBy a b (λ w. TakesIn w statements) answer → GoesBy a b (λ w. ImportStep w kind text) answer
  as_import {a = a} {b = b} {answer = answer} statements is goes =
      goes_as as_step (subst (λ it. GoesBy a b (λ w. TakesIn w it) answer) is goes)
