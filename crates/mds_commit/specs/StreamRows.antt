-- What rows say of streams, if their shown columns are those that name one.
use Rattle.std.specs.Prelude.{◌≡◌, ◌↔◌, ◌⊎◌, List}
use Rattle.sqlite.specs.declared.types.Value.TheVariants.{Text}
use Rattle.sqlite_value.specs.Order.{Row, column}
use Rattle.mds_names.specs.declared.stream.Stream.{Stream}
use Rattle.mds_world.specs.Lists.{Member}

-- the row begins with the stream
abbrev pub SaysStream : Row → Stream → Type 0
SaysStream row stream = (column row 0 ≡ Text stream.nmi) × (column row 1 ≡ Text stream.suffix)

-- one of the rows does
abbrev pub ShowsStream : List Row → Stream → Type 0
ShowsStream rows stream = (row : Row) × Member row rows × SaysStream row stream

-- the streams of rows of heads and of periods, in any order
abbrev pub AreStreamsIn : List Row → List Row → List Stream → Type 0
AreStreamsIn heads periods streams =
    (stream : Stream) → Member stream streams ↔ (ShowsStream heads stream ⊎ ShowsStream periods stream)
