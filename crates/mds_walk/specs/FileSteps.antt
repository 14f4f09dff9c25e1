-- How reading a file ends: its private steps.
use Rattle.mds_walk.specs.declared.fault.ReadFault.{ReadFault}
use Rattle.mds_walk.specs.declared.fault.ReadFault.TheVariants as read
use Rattle.mds_walk.specs.declared.fault.TakeFault.{TakeFault}
use Rattle.mds_walk.specs.declared.fault.TakeFault.TheVariants.{File, Memory}

-- a file that is refused can't be read, for the same fault
abbrev pub read_fault_of : TakeFault → ReadFault
read_fault_of (File fault) = read.File fault
read_fault_of Memory = read.Memory
