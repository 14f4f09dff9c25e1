-- The columns of a row of mds_pack (profile), without its rowid.
use Rattle.std.specs.Prelude.{ℕ, List, [], ◌∷◌}
use Rattle.sqlite.specs.declared.types.Value.TheVariants.{Blob, Text}
use Rattle.sqlite_value.specs.Order.{Row}
use Rattle.mds_names.specs.declared.stream.Stream.{Stream}
use Rattle.mds_tables.specs.Cells.{number_cell}

-- those that name a day and an update
abbrev pub key_cells : Stream → ℕ → ℕ → Row
key_cells s day update = Text s.nmi ∷ Text s.suffix ∷ number_cell day ∷ number_cell update ∷ []

-- a key, and a body
abbrev pub pack_cells : Stream → ℕ → ℕ → List ℕ → Row
pack_cells s day update body =
    Text s.nmi ∷ Text s.suffix ∷ number_cell day ∷ number_cell update ∷ Blob body ∷ []
