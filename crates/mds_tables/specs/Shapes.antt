-- Parts of a table's shape, in the form in which they are compared.
use Rattle.std.specs.Prelude.{◌≡◌, ℕ, false, List, [], ◌∷◌, None}
use Rattle.sqlite.specs.Table.{Table}

-- the PRIMARY KEY, and the only key
pub record HasKey (table : Table) (primary key : List ℕ) : Type 0 where
  pub primary_is : table.primary ≡ primary
  pub uniques : table.uniques ≡ key ∷ []
  pub orders : table.orders ≡ (record { digits = 0 }) ∷ []

-- only columns, keys and references
pub record IsBare (table : Table) : Type 0 where
  pub key : table.key ≡ None
  pub checks : table.checks ≡ []
  pub computed : table.computed ≡ []
  pub stamps : table.stamps ≡ record { places = []; terms = []; formats = [] }
  pub uncounted : table.is_counted ≡ false
