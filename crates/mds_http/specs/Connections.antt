-- What connections do to a store, one after the other.
use Rattle.std.specs.Prelude.{◌≤◌, ℕ, List, length}
use Rattle.mds_keeper.specs.Kept.{Kept}
use Rattle.mds_wire.specs.Meaning.{Answer}
use Rattle.mds_http.specs.Laws.{AreServed}
use Rattle.mds_http.specs.declared.handling.StoreHandler.{StoreHandler}

module _ {K : Type 0} (kept : K → Kept) where
  -- At most this many connections, one after the other, changed the store. Each changed it as its bytes mean, with the answer
  -- that they mean. A connection that failed before its request was whole isn't among them.
  abbrev pub HasServed : StoreHandler K → ℕ → StoreHandler K → Type 0
  HasServed old count new = (connections : List (List ℕ × Answer)) × (length connections ≤ count)
      × AreServed kept old connections new
