-- The body of a request while it comes (profile).
use Rattle.std.specs.Prelude.{◌≡◌, ◌≢◌, ◌⊎◌, ◌<◌, ◌≤◌, ℕ, List, [], length, None, IfSome, vec_capacity}
use Rattle.mds_nem12.specs.Answers.{MayLackMemory, fault_so_far}
use Rattle.mds_nem12.specs.Faults.{nem12}
use Rattle.mds_nem12.specs.Reader.{HasRead, reader_fault}
use Rattle.mds_nem12.specs.declared.delivery.DeliveryBuilder.{DeliveryBuilder}
use Rattle.mds_nem12.specs.declared.file_reader.FileReader.{FileReader}
use Rattle.mds_requests.specs.Queries.{pairs_of}
use Rattle.mds_requests.specs.Targets.{ImportsIntervalData, IsFaultAt}
use Rattle.mds_requests.specs.declared.targets.TargetFault.TheVariants as fault
use Rattle.mds_walk.specs.Feeding.{MayLackFor}
use Rattle.mds_walk.specs.declared.fault.TakeFault.TheVariants.{Memory}
use Rattle.mds_walk.specs.declared.feeder.LineFeeder.{LineFeeder}
use Rattle.mds_wire.specs.Judging.{longest_body, query_of}
use Rattle.mds_wire.specs.declared.route.Route.{Route}
use Rattle.mds_http.specs.declared.body.Body.{Body}
use Rattle.mds_http.specs.declared.body.Body.TheVariants.{IntervalData, Whole}

-- a reader hasn't answered that it ran out of memory
abbrev pub HadMemory : LineFeeder (FileReader DeliveryBuilder) → Type 0
HadMemory reader = IfSome (reader_fault reader) (λ found. found ≢ Memory)

-- A body was begun for a route, a target and a size, and was fed these bytes. It is a reader if they ask for an import of
-- interval data. Else, or if there are no bytes, it is the bytes themselves, for which there is room.
abbrev pub HoldsBody : Body → Route → (target : List ℕ) → (size : ℕ) → (bytes : List ℕ) → Type 0
HoldsBody (IntervalData reader) route target size bytes =
    ImportsIntervalData route target × HasRead bytes reader × HadMemory reader × (length bytes ≤ longest_body)
HoldsBody (Whole held) route target size bytes =
    (ImportsIntervalData route target → size ≡ 0) × (held.items ≡ bytes) × (size ≤ vec_capacity held)

-- What takes memory before a step. A query with a pair, and a body with bytes before they come. A piece of interval data for
-- which its reader may lack memory. A whole body whose request takes memory.
abbrev pub TakesMemoryAt : Route → (target : List ℕ) → (size : ℕ) → (came piece : List ℕ) → Type 0
TakesMemoryAt route target size came piece =
    (pairs_of (query_of target) ≢ [])
    ⊎ (((came ≡ []) × (piece ≡ []) × (0 < size))
    ⊎ ((ImportsIntervalData route target × (fault_so_far nem12 came ≡ None) × MayLackFor MayLackMemory nem12 came piece)
    ⊎ ((length came ≡ size) × IsFaultAt route target came fault.Memory)))
