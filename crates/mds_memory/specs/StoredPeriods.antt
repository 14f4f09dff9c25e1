-- Accumulations by their keys.
use Rattle.std.specs.Prelude.{[]}
use Rattle.mds_names.specs.declared.stream.Stream.{Stream}
use Rattle.mds_statements.specs.declared.periods.PeriodKey.{PeriodKey}

-- a key that sorts before all others of a stream
abbrev pub first_key_of : Stream → PeriodKey
first_key_of stream = record { stream = stream; register = []; start = 0; finish = 0; update = 0 }
