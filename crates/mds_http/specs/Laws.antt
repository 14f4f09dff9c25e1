-- What follows from the meaning of bytes to a store.
use Rattle.std.specs.Prelude.{◌≡◌, ◌≢◌, ◌⊎◌, ◌≤◌, ℕ, false, List, [], ◌∷◌, length, take}
use Rattle.httparse.specs.Grammar.{RequestHead, ReadsRequest}
use Rattle.mds_world.specs.World.{IsLawful, World}
use Rattle.mds_keeper.specs.Kept.{Kept}
use Rattle.mds_service.specs.Crashes.{MayLeave}
use Rattle.mds_service.specs.Machine.{Run}
use Rattle.mds_messages.specs.declared.request.Request.{Request}
use Rattle.mds_messages.specs.declared.answer.Answer.{Answer as Told}
use Rattle.mds_requests.specs.Targets.{AsksAt, IsFaultAt}
use Rattle.mds_requests.specs.declared.targets.TargetFault.{TargetFault}
use Rattle.mds_requests.specs.declared.targets.TargetFault.TheVariants as fault
use Rattle.mds_wire.specs.Heads.{most_fields}
use Rattle.mds_wire.specs.Laws.{Headless, IsHeadOf, IsRefusedHead, TakeMemory}
use Rattle.mds_wire.specs.Meaning.{Answer, is_head_method, refused}
use Rattle.mds_wire.specs.declared.answer.Status.{Status}
use Rattle.mds_wire.specs.declared.answer.Status.TheVariants.{Success, Unavailable}
use Rattle.mds_wire.specs.declared.route.Route.{Route}
use Rattle.mds_http.specs.declared.handling.StoreHandler.{StoreHandler}
use Rattle.mds_http.specs.Bodies.{TakesMemoryAt}
use Rattle.mds_http.specs.Handling.{Handles, Tells, status_of}
use Rattle.mds_http.specs.Serving.{IsSame, MeansOver}

-- the bytes begin with a head that announces a body of this size on a route
abbrev pub Wants : List ℕ → RequestHead → List ℕ → Route → ℕ → Type 0
Wants bytes head rest route size =
    ReadsRequest bytes head rest × (length head.fields ≤ most_fields) × IsHeadOf head route size

-- the bytes are a whole request that asks for this
abbrev pub AskFor : List ℕ → Request → Type 0
AskFor bytes request =
    (head : RequestHead) × (rest : List ℕ) × (route : Route) × (size : ℕ) × Wants bytes head rest route size
    × (size ≤ length rest) × AsksAt route head.target (take size rest) request

-- the answer says this one
abbrev pub IsTold : Told → Answer → Type 0
IsTold told answer =
    (answer.status ≡ status_of told) × Tells told answer.kind answer.body × (answer.is_head ≡ false)

-- the bytes are no whole request, or one whose target and body ask for nothing
abbrev pub AskForNone : List ℕ → Type 0
AskForNone bytes =
    (head : RequestHead) (rest : List ℕ) (route : Route) (size : ℕ) → Wants bytes head rest route size → size ≤ length rest
    → (reason : TargetFault) × (reason ≢ fault.Memory) × IsFaultAt route head.target (take size rest) reason

-- The requests that were done, with their answers. Each connection adds the request that its bytes ask for, and was sent the
-- answer. It adds none if the bytes ask for none. It adds none either if what they ask for takes memory, and it was sent 503.
abbrev pub AreDone : List (List ℕ × Answer) → List Request → List Told → Type 0
AreDone [] requests answers = (requests ≡ []) × (answers ≡ [])
AreDone (connection ∷ connections) requests answers =
    ((AskForNone connection.0 ⊎ ((connection.1.status ≡ Unavailable) × TakeMemory TakesMemoryAt connection.0))
    × AreDone connections requests answers)
    ⊎ ((request : Request) × (later : List Request) × (told : Told) × (more : List Told)
    × (requests ≡ request ∷ later) × (answers ≡ told ∷ more) × AskFor connection.0 request × IsTold told connection.1
    × AreDone connections later more)

module _ {K : Type 0} (kept : K → Kept) where
  -- the bytes of connections, one after the other, and their answers
  abbrev pub AreServed : StoreHandler K → List (List ℕ × Answer) → StoreHandler K → Type 0
  AreServed old [] new = new ≡ old
  AreServed old (connection ∷ connections) new =
      (next : StoreHandler K) × MeansOver kept connection.0 old connection.1 next
      × AreServed next connections new

  -- Connections are a run of the machine. It does the requests that they ask for, each once and in their order, with the answers
  -- that they were sent. A sound store keeps the World of the run. A crash leaves it, or it with one more whole request whose
  -- answer was Unavailable.
  abbrev pub ConnectionsRun : Type 0
  ConnectionsRun = (connections : List (List ℕ × Answer)) (first last : StoreHandler K)
      → AreServed first connections last → (kept last.keeper).honest → (kept first.keeper).sound
      → IsLawful (kept first.keeper).world
      → (requests : List Request) × (answers : List Told) × (w : World) × AreDone connections requests answers
      × IsLawful w × Run (kept first.keeper).world requests answers w
      × ((kept last.keeper).sound → (kept last.keeper).world ≡ w)
      × ((left : World) → (kept last.keeper).may_leave left → MayLeave w requests answers left)

  -- bytes without a head change nothing
  abbrev pub NoHeadNoChange : Type 0
  NoHeadNoChange = Headless (Handles kept) IsSame TakesMemoryAt

  -- nor do those with a refused head
  abbrev pub RefusedNoChange : Type 0
  RefusedNoChange = (bytes rest : List ℕ) (head : RequestHead) (status : Status) (old new : StoreHandler K)
      (answer : Answer) → ReadsRequest bytes head rest → length head.fields ≤ most_fields
      → IsRefusedHead head status → MeansOver kept bytes old answer new
      → (answer ≡ refused status (is_head_method head)) × (new ≡ old)

  -- nor those of a target and a body that ask for no request
  abbrev pub UnaskedNoChange : Type 0
  UnaskedNoChange = (bytes rest : List ℕ) (head : RequestHead) (route : Route) (size : ℕ) (old new : StoreHandler K)
      (answer : Answer) → Wants bytes head rest route size
      → ((request : Request) → AsksAt route head.target (take size rest) request → ⊥)
      → MeansOver kept bytes old answer new → (answer.status ≢ Success) × (new ≡ old)
