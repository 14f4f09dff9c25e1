-- A NEM12 file that is fed in pieces (profile).
use Rattle.std.specs.Prelude.{List, ℕ, Option}
use Rattle.mds_walk.specs.Feeding.{WasFed, fault_answered as of_feeder}
use Rattle.mds_walk.specs.declared.feeder.LineFeeder.{LineFeeder}
use Rattle.mds_nem12.specs.BuilderSteps.{IsTold}
use Rattle.mds_nem12.specs.Faults.{nem12}
use Rattle.mds_nem12.specs.FileReaderSteps.{HasTaken}
use Rattle.mds_nem12.specs.declared.delivery.DeliveryBuilder.{DeliveryBuilder}
use Rattle.mds_nem12.specs.declared.file_reader.FileReader.{FileReader}
use Rattle.mds_walk.specs.declared.fault.TakeFault.{TakeFault}

-- the fault that a reader has returned, if any
abbrev pub reader_fault : LineFeeder (FileReader DeliveryBuilder) → Option TakeFault
reader_fault feeder = of_feeder feeder

-- A reader was fed a text, in whatever pieces.
abbrev pub HasRead : List ℕ → LineFeeder (FileReader DeliveryBuilder) → Type 0
HasRead text feeder = WasFed nem12 (λ file before. HasTaken IsTold before file) text feeder
