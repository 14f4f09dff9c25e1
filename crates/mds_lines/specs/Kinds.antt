-- The kinds of records. MDFF Specification: the RecordIndicator is the first field of each record.
use Rattle.std.specs.Prelude.{ℕ, not, if◌then◌else◌, List, [], ◌∷◌, codes, bytes_eq, find, Option, Result, Err, ok_or}
use Rattle.std.specs.Str.{is_utf8}
use Rattle.mds_lines.specs.declared.line.Kind.{Kind}
use Rattle.mds_lines.specs.declared.line.Kind.TheVariants.{Header, NmiDataDetails, AccumulationData, IntervalData, IntervalEvent, B2bDetails, AccumulationB2bDetails, EndOfData}
use Rattle.mds_lines.specs.declared.line.KindFault.{KindFault}
use Rattle.mds_lines.specs.declared.line.KindFault.TheVariants.{NotText, Unknown}
use Rattle.mds_lines.specs.Lines.{field}

-- the record indicator of a kind
abbrev pub indicator : Kind → List ℕ
indicator Header = codes "100"
indicator NmiDataDetails = codes "200"
indicator AccumulationData = codes "250"
indicator IntervalData = codes "300"
indicator IntervalEvent = codes "400"
indicator B2bDetails = codes "500"
indicator AccumulationB2bDetails = codes "550"
indicator EndOfData = codes "900"

-- all kinds
abbrev pub kinds : List Kind
kinds =
    Header ∷ NmiDataDetails ∷ AccumulationData ∷ IntervalData ∷ IntervalEvent ∷ B2bDetails ∷ AccumulationB2bDetails ∷ EndOfData ∷ []

-- the kind named by a record indicator
abbrev pub kind_named : List ℕ → Option Kind
kind_named text = find (λ kind. bytes_eq text (indicator kind)) kinds

-- the kind of a line, or why it has none: it isn't UTF-8, or its first field isn't a record
-- indicator
unfoldable pub kind_of : List ℕ → Result Kind KindFault
kind_of line = if not (is_utf8 line) then Err NotText else ok_or (kind_named (field line 1)) Unknown
