-- The router of the routes: it takes each of them, and finds the route of each path.
use Rattle.std.proofs.Common.{◌≡◌, ℕ, zero, suc, ◌+◌, ◌<◌, List, [], ◌∷◌, length, drop, take, get_or, Option, Some, None, Ok, Err, Bool, true, false, cond, ltb, not, ◌&&◌, ◌==◌, refl, ap, ◌∙◌, arith}
use Rattle.std.proofs.lemmas.Bool.Decides.{nat_tests}
use Rattle.std.specs.List.{find, list_all}
use Rattle.std.specs.Option.{option_map}
use Rattle.matchit.specs.Rows.{RowsOf}
use Rattle.matchit.specs.Seek.{first}
use Rattle.matchit.specs.Level.{IsText}
use Rattle.matchit.specs.Order.{placed}
use Rattle.matchit.specs.Router.{RouteOf, InsertsRead, Refused, nearest, route_from}
use Rattle.matchit.specs.Route.{Scan, parse_route, scan}
use Rattle.matchit.specs.declared.error.InsertError.{InsertError}
use Rattle.matchit.specs.declared.error.InsertError.TheVariants.{OutOfMemory, Conflict, InvalidParam, InvalidCatchAll, InvalidParamSegment}
use Rattle.matchit.proofs.OnLiterals.{matchit_on_literals}
use Rattle.mds_wire.specs.declared.route.Route.{Route}
use Rattle.mds_wire.specs.Routes.{routes, fits, pattern_of, route_of, part_length, template_of}
use Rattle.mds_wire.specs.RouteSteps.{routes_in, rows_of, row_of}
use Rattle.mds_wire.specs.declared.route.Route.TheVariants.{Days, Exports, Finals, Gaps, Holidays, Imports, Missing, Periods, Readings, Streams, Substitutions, Versions}
use Rattle.mds_wire.proofs.Walks.{AreGood, found, takes, behind, finds, both}

-- the route at a place: its text is read, it conflicts with none of those before it, and its row comes behind theirs
record IsStep (i : ℕ) : Type 0 where
  scan : Scan
  reads : parse_route (template_of (get_or routes i Imports)) ≡ Ok scan
  alone : nearest scan.pattern (rows_of (take i routes)) ≡ None
  last : placed (scan.pattern, route_from scan (get_or routes i Imports)) (rows_of (take i routes)) ≡ rows_of (take (i + 1) routes)

step_at : (i : ℕ) → i < 12 → IsStep i
unfolding matchit_on_literals
step_at zero lt = record { scan = _; reads = refl; alone = refl; last = refl }
step_at (suc zero) lt = record { scan = _; reads = refl; alone = refl; last = refl }
step_at (suc (suc zero)) lt = record { scan = _; reads = refl; alone = refl; last = refl }
step_at (suc (suc (suc zero))) lt = record { scan = _; reads = refl; alone = refl; last = refl }
step_at (suc (suc (suc (suc zero)))) lt = record { scan = _; reads = refl; alone = refl; last = refl }
step_at (suc (suc (suc (suc (suc zero))))) lt = record { scan = _; reads = refl; alone = refl; last = refl }
step_at (suc (suc (suc (suc (suc (suc zero)))))) lt = record { scan = _; reads = refl; alone = refl; last = refl }
step_at (suc (suc (suc (suc (suc (suc (suc zero))))))) lt = record { scan = _; reads = refl; alone = refl; last = refl }
step_at (suc (suc (suc (suc (suc (suc (suc (suc zero)))))))) lt = record { scan = _; reads = refl; alone = refl; last = refl }
step_at (suc (suc (suc (suc (suc (suc (suc (suc (suc zero))))))))) lt = record { scan = _; reads = refl; alone = refl; last = refl }
step_at (suc (suc (suc (suc (suc (suc (suc (suc (suc (suc zero)))))))))) lt = record { scan = _; reads = refl; alone = refl; last = refl }
step_at (suc (suc (suc (suc (suc (suc (suc (suc (suc (suc (suc zero))))))))))) lt = record { scan = _; reads = refl; alone = refl; last = refl }
step_at (suc (suc (suc (suc (suc (suc (suc (suc (suc (suc (suc (suc i)))))))))))) lt = absurd (omega arith)

-- the router takes it
pub inserted : (i : ℕ) → i < 12 → (new : RowsOf (RouteOf Route))
    → InsertsRead (parse_route (template_of (get_or routes i Imports))) (get_or routes i Imports) (rows_of (take i routes)) new (Ok tt)
    → new ≡ rows_of (take (i + 1) routes)
inserted i lt new h =
    let s = step_at i lt in
    (rw s.reads at h).1 ∙ s.last

memory_alone : (p : List ℕ) (rs : RowsOf (RouteOf Route)) (e : InsertError) → nearest p rs ≡ None → Refused p rs e → e ≡ OutOfMemory
memory_alone p rs OutOfMemory n h = refl
memory_alone p rs (Conflict with) n h = let some = h.1 in cc
memory_alone p rs InvalidParamSegment n h = absurd h
memory_alone p rs InvalidParam n h = absurd h
memory_alone p rs InvalidCatchAll n h = absurd h

-- or memory is wanting, and nothing else
pub only_memory : (i : ℕ) → i < 12 → (new : RowsOf (RouteOf Route)) (e : InsertError)
    → InsertsRead (parse_route (template_of (get_or routes i Imports))) (get_or routes i Imports) (rows_of (take i routes)) new (Err e)
    → e ≡ OutOfMemory
only_memory i lt new e h =
    let s = step_at i lt in
    memory_alone s.scan.pattern (rows_of (take i routes)) e s.alone (rw s.reads at h).1

-- a pattern as tokens: a star is a parameter
abbrev tokens : List ℕ → List ℕ
tokens [] = []
tokens (p ∷ pattern) = cond (p == 42) 256 p ∷ tokens pattern

-- the two ways to say what stands behind a part
part-behind : (path : List ℕ) → drop (part_length path) path ≡ behind path
part-behind [] = refl
part-behind (b ∷ path) = by (b == 47) (part-behind path)
  where
    by : (v : Bool) → drop (part_length path) path ≡ behind path → drop (cond (not v) (1 + part_length path) 0) (b ∷ path) ≡ cond v (b ∷ path) (behind path)
    by true ih = refl
    by false ih =
        let e : 1 + part_length path ≡ suc (part_length path) = omega arith in
        rw e ih

takes-fits : (pattern path : List ℕ) → list_all (λ p. ltb p 256) pattern ≡ true → takes (tokens pattern) path ≡ fits pattern path
takes-fits [] [] h = refl
takes-fits [] (b ∷ path) h = grind (arith, nat_tests)
takes-fits (p ∷ pattern) [] h = elim (p == 42) as (λ v. false ≡ cond v false false) [ true ↦ refl | false ↦ refl ]
takes-fits (p ∷ pattern) (b ∷ path) h =
    let text = both (ltb p 256) (list_all (λ p. ltb p 256) pattern) h in
    by (p == 42) refl (b == 47) text.0 (takes-fits pattern (behind path) text.1) (takes-fits pattern path text.1)
  where
    by : (v : Bool) → (p == 42) ≡ v → (w : Bool) → ltb p 256 ≡ true → takes (tokens pattern) (behind path) ≡ fits pattern (behind path) → takes (tokens pattern) path ≡ fits pattern path
        → cond (cond v 256 p == 256) (not w && takes (tokens pattern) (behind path)) (cond v 256 p == b && takes (tokens pattern) path)
        ≡ cond v (ltb 0 (cond (not w) (1 + part_length path) 0) && fits pattern (drop (cond (not w) (1 + part_length path) 0) (b ∷ path))) ((ltb 0 (suc (length path)) && b == p) && fits pattern path)
    by true e true lt ih jh = refl
    by true e false lt ih jh =
        let n : 1 + part_length path ≡ suc (part_length path) = omega arith in
        let one : ltb 0 (suc (part_length path)) ≡ true = grind (arith, nat_tests) in
        rw (n, one, part-behind path) ih
    by false e w lt ih jh =
        let no : (p == 256) ≡ false = grind (arith, nat_tests) in
        let flip : (p == b) ≡ (b == p) = grind (arith, nat_tests) in
        let one : ltb 0 (suc (length path)) ≡ true = grind (arith, nat_tests) in
        rw (no, flip, one, jh) refl

-- the row of each route has the tokens of its pattern
row_is : (route : Route) → (r : RouteOf Route) × (r.value ≡ route) × (row_of (parse_route (template_of route)) route ≡ (tokens (pattern_of route), r) ∷ []) × (list_all (λ p. ltb p 256) (pattern_of route) ≡ true)
unfolding scan
row_is Days = (_, refl, refl, refl)
row_is Exports = (_, refl, refl, refl)
row_is Finals = (_, refl, refl, refl)
row_is Gaps = (_, refl, refl, refl)
row_is Holidays = (_, refl, refl, refl)
row_is Imports = (_, refl, refl, refl)
row_is Missing = (_, refl, refl, refl)
row_is Periods = (_, refl, refl, refl)
row_is Readings = (_, refl, refl, refl)
row_is Streams = (_, refl, refl, refl)
row_is Substitutions = (_, refl, refl, refl)
row_is Versions = (_, refl, refl, refl)

-- they are rows of these routes, in this order
pub routes_known : routes_in (rows_of routes) ≡ routes
unfolding scan
routes_known = refl

good : AreGood (rows_of routes)
unfolding scan
good = (refl, refl, (refl, refl, (refl, refl, (refl, refl, (refl, refl, (refl, refl, (refl, refl, (refl, refl, (refl, refl, (refl, refl, (refl, refl, (refl, refl, tt))))))))))))

-- the route that was found
abbrev pub value_of : Option (RouteOf Route) → Option Route
value_of o = option_map (λ (r : RouteOf Route). r.value) o

found_is : (ks : List Route) (path : List ℕ) → value_of (found (rows_of ks) path) ≡ find (λ route. fits (pattern_of route) path) ks
found_is [] path = refl
found_is (k ∷ ks) path =
    let r = row_is k in
    rw (r.2, takes-fits (pattern_of k) path r.3) (by (fits (pattern_of k) path) (found_is ks path))
  where
    by : (v : Bool) → value_of (found (rows_of ks) path) ≡ find (λ route. fits (pattern_of route) path) ks
        → value_of (cond v (Some (row_is k).0) (found (rows_of ks) path)) ≡ cond v (Some k) (find (λ route. fits (pattern_of route) path) ks)
    by true ih = ap (λ x. Some x) (row_is k).1
    by false ih = ih

-- The router finds the route of each path.
pub routed : (path : List ℕ) → IsText path → value_of (first (rows_of routes) path) ≡ route_of path
unfolding route_of
routed path text = ap value_of (finds (length path) path (rows_of routes) (omega arith) text good) ∙ found_is routes path
