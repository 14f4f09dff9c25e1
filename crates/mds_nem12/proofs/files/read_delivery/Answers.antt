use Rattle.std.specs.Prelude.{◌≡◌, ℕ, List, Option, None, Some, Err, IfSome, refl}
use Rattle.std.proofs.Common.{ap}
use Rattle.std.specs.List.{concat}
use Rattle.std.proofs.lemmas.Bool.{false≢true}
use Rattle.mds_records.specs.declared.file.FileFault.{FileFault}
use Rattle.mds_walk.specs.declared.fault.ReadFault.{ReadFault}
use Rattle.mds_walk.specs.declared.fault.ReadFault.TheVariants as read
use Rattle.mds_nem12.specs.Answers.{IsReadOf}
use Rattle.mds_nem12.specs.Faults.{fault_of}
use Rattle.mds_nem12.specs.Statements.{statements_of}
use Rattle.mds_nem12.proofs.Orderly.{days_ascend, days_whole}
use Rattle.mds_nem12.proofs.files.read_delivery.Goals as goal

pub unreachable-requires : goal.unreachable-requires
unreachable-requires g c =
    let text = concat c.in-Ok.ensures.given.0 in
    let made = c.in-Ok.ensures.given.4 in
    absurd (false≢true (c.in-None.ensures.some (statements_of text) made.2.0 made.2.1 (days_ascend text) (days_whole text)))

-- the fault of a text that is known
refused : (known : Option (List ℕ)) (fault : ReadFault)
    → ((found : FileFault) → fault ≡ read.File found → IfSome known (λ text. fault_of text ≡ Some found))
    → IfSome known (λ text. IsReadOf text (Err fault))
refused None fault h = tt
refused (Some text) (read.File found) h = h found refl
refused (Some text) read.Read h = tt
refused (Some text) read.Memory h = tt

pub returns-in-Err-clause-read : goal.returns-in-Err-clause-read
returns-in-Err-clause-read g c =
    refused (g.R.Source.remaining c.args.source.now) c.in-Err.fault (λ found is. c.in-Err.ensures.fault found (ap Err is))
