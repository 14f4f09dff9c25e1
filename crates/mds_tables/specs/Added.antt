-- What rows add to what was found.
use Rattle.std.specs.Prelude.{◌≡◌, ◌↔◌, ◌⊎◌, List, ◌∷◌}
use Rattle.sqlite.specs.declared.types.Value.TheVariants.{Null}
use Rattle.sqlite_value.specs.Order.{Row}
use Rattle.mds_terms.specs.Event.{EventValue}
use Rattle.mds_world.specs.Facts.Fact.{EventIs}
use Rattle.mds_world.specs.Lists.{Member}
use Rattle.mds_tables.specs.RowFacts.{event_fact}

-- the row says the event
abbrev pub SaysEvent : Row → EventValue → Type 0
SaysEvent row event = event_fact (Null ∷ row) ≡ EventIs event

module _ {K : Type 0} (Says : Row → K → Type 0) where
  -- what one row says is added
  abbrev pub IsAdded : List K → Row → List K → Type 0
  IsAdded old row new = (q : K) → Member q new ↔ (Member q old ⊎ Says row q)

  -- what rows say is added
  abbrev pub AreAdded : List K → List Row → List K → Type 0
  AreAdded old rows new = (q : K) → Member q new ↔ (Member q old ⊎ ((row : Row) × Member row rows × Says row q))
