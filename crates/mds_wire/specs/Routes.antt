-- The routes, their methods, and the paths that they are for (profile).
use Rattle.std.specs.Prelude.{ℕ, zero, suc, ◌+◌, Bool, ◌==◌, ◌&&◌, nat_lt, List, [], ◌∷◌, drop, take, Option, if◌then◌else◌, codes, find, length, slice_index_or}
use Rattle.std.specs.List.{position_or_len}
use Rattle.mds_wire.specs.declared.route.Route.{Route}
use Rattle.mds_wire.specs.declared.route.Route.TheVariants.{Imports, Substitutions, Holidays, Streams, Days, Versions, Periods, Gaps, Finals, Missing, Readings, Exports}

abbrev pub slash : ℕ
slash = 47

abbrev pub star : ℕ
star = 42

-- how many bytes come before the next slash
abbrev pub part_length : List ℕ → ℕ
part_length path = position_or_len (λ byte. byte == slash) path

-- The part of a path with this number: the bytes between two slashes. The part before the first one is empty, and has
-- the number 0.
unfoldable pub part : ℕ → List ℕ → List ℕ
part zero path = take (part_length path) path
part (suc n) path = part n (drop (part_length path + 1) path)

-- Whether a path fits a pattern. A star matches one or more bytes up to the next slash or the end. Any other byte
-- matches itself.
abbrev pub fits : List ℕ → List ℕ → Bool
fits [] path = length path == 0
fits (p ∷ pattern) path =
    if p == star then nat_lt 0 (part_length path) && fits pattern (drop (part_length path) path)
    else nat_lt 0 (length path) && (slice_index_or path 0 0 == p) && fits pattern (drop 1 path)

-- the paths of each route
abbrev pub pattern_of : Route → List ℕ
pattern_of Imports = codes "/v1/imports"
pattern_of Substitutions = codes "/v1/substitutions"
pattern_of Holidays = codes "/v1/holidays"
pattern_of Streams = codes "/v1/streams"
pattern_of Days = codes "/v1/days/*/*/*"
pattern_of Versions = codes "/v1/versions/*/*/*/*"
pattern_of Periods = codes "/v1/periods/*/*"
pattern_of Gaps = codes "/v1/gaps"
pattern_of Finals = codes "/v1/finals"
pattern_of Missing = codes "/v1/missing"
pattern_of Readings = codes "/v1/readings"
pattern_of Exports = codes "/v1/exports/nem12"

-- the template of each route in the router, where a part of any text has a name in braces
abbrev pub template_of : Route → List ℕ
template_of Imports = codes "/v1/imports"
template_of Substitutions = codes "/v1/substitutions"
template_of Holidays = codes "/v1/holidays"
template_of Streams = codes "/v1/streams"
template_of Days = codes "/v1/days/{nmi}/{suffix}/{date}"
template_of Versions = codes "/v1/versions/{nmi}/{suffix}/{date}/{interval}"
template_of Periods = codes "/v1/periods/{nmi}/{suffix}"
template_of Gaps = codes "/v1/gaps"
template_of Finals = codes "/v1/finals"
template_of Missing = codes "/v1/missing"
template_of Readings = codes "/v1/readings"
template_of Exports = codes "/v1/exports/nem12"

-- all routes, in the order of their paths
abbrev pub routes : List Route
routes = Days ∷ Exports ∷ Finals ∷ Gaps ∷ Holidays ∷ Imports ∷ Missing ∷ Periods ∷ Readings ∷ Streams ∷ Substitutions ∷ Versions ∷ []

-- the route that a path is for
unfoldable pub route_of : List ℕ → Option Route
route_of path = find (λ route. fits (pattern_of route) path) routes

-- the only method of each route
abbrev pub method_of : Route → List ℕ
method_of Imports = codes "POST"
method_of Substitutions = codes "POST"
method_of Holidays = codes "POST"
method_of route = codes "GET"
