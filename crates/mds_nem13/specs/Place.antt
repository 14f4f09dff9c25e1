-- Where a record is allowed. MDFF Specification, the blocking of a NEM13 file: a 100, then 250 records, each with its
-- 550 records, then a 900.
use Rattle.std.specs.Prelude.{Bool, List, [], ◌∷◌, Option}
use Rattle.std.specs.List.{list_any}
use Rattle.std.specs.Option.{option_map_or}
use Rattle.mds_lines.specs.declared.line.Kind.{Kind}
use Rattle.mds_lines.specs.declared.line.Kind.TheVariants.{Header, AccumulationData, AccumulationB2bDetails, EndOfData}
use Rattle.mds_walk.specs.Governing.{is_kind}

-- the kinds that may follow a kind; 200, 300, 400 and 500 are records of NEM12
abbrev pub followers : Kind → List Kind
followers Header = AccumulationData ∷ EndOfData ∷ []
followers AccumulationData = AccumulationData ∷ AccumulationB2bDetails ∷ EndOfData ∷ []
followers AccumulationB2bDetails = AccumulationB2bDetails ∷ AccumulationData ∷ EndOfData ∷ []
followers kind = []

-- a kind is allowed after a record of a kind, or first, where only a 100 is
abbrev pub is_in_place : Option Kind → Kind → Bool
is_in_place previous kind = list_any (λ next. is_kind next kind) (option_map_or followers previous (Header ∷ []))
