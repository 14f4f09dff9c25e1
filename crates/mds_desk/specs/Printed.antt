-- The bytes of what is printed.
use Rattle.std.specs.Prelude.{ℕ, List}
use Rattle.mds_desk.specs.declared.performing.Printed.{Printed}
use Rattle.mds_desk.specs.declared.performing.Printed.TheVariants.{Json, Line, Text}

-- those of a line, or of a text
abbrev pub printed_bytes : Printed → List ℕ
printed_bytes (Line line) = line.bytes
printed_bytes (Text text) = text.now
printed_bytes (Json text) = text.items
