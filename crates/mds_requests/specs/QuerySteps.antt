-- The texts that a query holds. No public contract cites it.
use Rattle.std.specs.Prelude.{ℕ, List, map}
use Rattle.std.specs.declared.borrow.CowStr.{CowStr}
use Rattle.std.specs.Cow.{cow_str_bytes}
use Rattle.mds_requests.specs.declared.query.Query.{Query}

-- the name and the value of each pair
abbrev pub texts_in : {A : Type 0} → List (CowStr A × CowStr A) → List (List ℕ × List ℕ)
texts_in pairs = map (λ pair. (cow_str_bytes pair.0, cow_str_bytes pair.1)) pairs

-- those of a query
abbrev pub texts_of : Query → List (List ℕ × List ℕ)
texts_of query = texts_in query.pairs.items
