-- Why rows aren't put, in the library's words.
use Rattle.std.specs.Prelude.{◌≡◌, ◌⊎◌, ℕ, ◌+◌, ◌++◌, false, List, [], ◌∷◌, length, map, None, Option, Some, Ok, Err}
use Rattle.std.specs.List.{flat_map, range_with_len}
use Rattle.sqlite.specs.Command.{Command}
use Rattle.sqlite.specs.Command.TheVariants.{Insert}
use Rattle.sqlite.specs.Does.{Does, Tally}
use Rattle.sqlite.specs.Effect.{Database}
use Rattle.sqlite.specs.Rows.{Outcome}
use Rattle.sqlite.specs.Source.TheVariants.{Values}
use Rattle.sqlite.specs.State.{State}
use Rattle.sqlite.specs.Term.{Term, col, lit}
use Rattle.sqlite.specs.declared.error.Error.{Error}
use Rattle.sqlite.specs.declared.types.Value.TheVariants.{Null}
use Rattle.sqlite_schema.specs.declared.schema.Keys.TheVariants.{Enforced}
use Rattle.sqlite_value.specs.Order.{Row}
use Rattle.mds_tables.specs.Causes.{StoreFails}

-- the terms of rows without their rowids; their cells are the parameters, counted from this one on
abbrev pub terms_from : ℕ → List Row → List Term
terms_from place [] = []
terms_from place (cells ∷ rows) =
    (lit Null ∷ map (col 0) (range_with_len place (length cells))) ++ terms_from (place + length cells) rows

-- how many terms each of them has; all have the same number
abbrev pub width_of : List Row → ℕ
width_of [] = 0
width_of (cells ∷ rows) = length cells + 1

-- INSERT of rows into the table at this place; the cells are the parameters
abbrev pub insert_of : ℕ → List Row → Command
insert_of place rows = Insert place (Values (terms_from 0 rows) (width_of rows))

-- the cells of several rows
abbrev pub all_cells : List Row → Row
all_cells rows = flat_map (λ cells. cells) rows

-- What a statement that puts rows makes of a database whose foreign keys are enforced, or why it is refused. If there is no error, a
-- row is too big.
abbrev pub Inserts : Option ℕ → ℕ × List Row → Database → Outcome (Tally × Database) → Type 0
Inserts limit put db =
    Does limit (record { keys = Enforced; in_doubt = false; may_wait = false }) (all_cells put.1) db [] None (insert_of put.0 put.1)

-- a database takes these statements, one after another
abbrev pub TakesAll : Option ℕ → List (ℕ × List Row) → Database → Database → Type 0
TakesAll limit [] old new = new ≡ old
TakesAll limit (put ∷ puts) old new =
    (tally : Tally) × (next : Database) × Inserts limit put old (Ok (tally, next)) × TakesAll limit puts next new

-- it takes some of these statements, and refuses the next one
abbrev pub RefusesOne : Option ℕ → List (ℕ × List Row) → Database → Option Error → Type 0
RefusesOne limit [] db stop = ⊥
RefusesOne limit (put ∷ puts) db stop =
    Inserts limit put db (Err stop)
    ⊎ ((tally : Tally) × (next : Database) × Inserts limit put db (Ok (tally, next)) × RefusesOne limit puts next stop)

-- The store failed, and only a row can have been too big. Or the database refuses a row.
abbrev pub FailsToPut : State → State → List (ℕ × List Row) → Database → Error → Type 0
FailsToPut old new puts db e =
    StoreFails old new (RefusesOne old.step_limit puts db None) e ⊎ RefusesOne old.step_limit puts db (Some e)
