-- Connections are a run of the machine.
use Rattle.std.specs.Prelude.{◌≡◌, ◌≢◌, ◌⊎◌, ℕ, List, [], ◌∷◌, ◌++◌, take, refl}
use Rattle.httparse.specs.Grammar.{RequestHead, ReadsRequest}
use Rattle.httparse.proofs.GrammarLemmas.{request_unique}
use Rattle.std.proofs.Common.{inl, inr, sym, ap, subst}
use Rattle.std.proofs.lemmas.List.{append-nil, append_assoc}
use Rattle.mds_world.specs.World.{IsLawful, World}
use Rattle.mds_keeper.specs.Kept.{Kept}
use Rattle.mds_service.specs.Crashes.{Goes, MayLeave}
use Rattle.mds_service.specs.Machine.{Run}
use Rattle.mds_messages.specs.declared.request.Request.{Request}
use Rattle.mds_messages.specs.declared.answer.Answer.{Answer as Told}
use Rattle.mds_service.proofs.Runs.{leaves_more, run_more}
use Rattle.mds_requests.specs.declared.targets.TargetFault.{TargetFault}
use Rattle.mds_requests.specs.declared.targets.TargetFault.TheVariants as fault
use Rattle.mds_requests.specs.Targets.{IsFaultAt}
use Rattle.mds_wire.proofs.Meant.{one_order}
use Rattle.mds_wire.specs.Laws.{HeadDecides, IsHeadOf, OnlySteps, TakeMemory}
use Rattle.mds_wire.specs.Meaning.{Answer, AnswersJudged}
use Rattle.mds_wire.specs.declared.answer.Kind.{Kind}
use Rattle.mds_wire.specs.declared.route.Route.{Route}
use Rattle.mds_wire.specs.declared.answer.Status.{Status}
use Rattle.mds_wire.specs.declared.answer.Status.TheVariants.{Success, Unavailable}
use Rattle.mds_http.specs.declared.handling.StoreHandler.{StoreHandler}
use Rattle.mds_http.specs.Bodies.{TakesMemoryAt}
use Rattle.mds_http.specs.Handling.{Handles, TellsFault}
use Rattle.mds_http.specs.Laws.{AreDone, AreServed, AskFor, AskForNone, ConnectionsRun, IsTold, RefusedNoChange, UnaskedNoChange}
use Rattle.mds_http.specs.Serving.{IsSame, MeansOver}

-- a target that asks for nothing isn't told 200
fault_is_no_success : (f : TargetFault) (status : Status) (kind : Kind) (text : List ℕ) → TellsFault f status kind text
    → status ≡ Success → ⊥
fault_is_no_success fault.Bad status kind text tells e = let is = tells.0 in cc
fault_is_no_success (fault.BadHolidays row) status kind text tells e = let is = tells.0 in cc
fault_is_no_success fault.Memory status kind text tells e = tells

-- nor is it for want of memory that it asks for nothing
tells_no_memory : (f : TargetFault) (status : Status) (kind : Kind) (text : List ℕ) → TellsFault f status kind text
    → f ≢ fault.Memory
tells_no_memory fault.Bad status kind text tells e = cc
tells_no_memory (fault.BadHolidays row) status kind text tells e = cc
tells_no_memory fault.Memory status kind text tells e = tells

-- bytes whose one head has a target that asks for nothing with its body
asks_for_none : (bytes : List ℕ) (head : RequestHead) (rest : List ℕ) (route : Route) (size : ℕ) (reason : TargetFault)
    → ReadsRequest bytes head rest → IsHeadOf head route size → IsFaultAt route head.target (take size rest) reason
    → reason ≢ fault.Memory → AskForNone bytes
asks_for_none bytes head rest route size reason reads is is_fault no_memory other more other_route other_size wants whole =
    let same = request_unique bytes other head more rest wants.0 reads in
    let order = subst (λ (h : RequestHead). IsHeadOf h other_route other_size) same.0 wants.2 in
    let one = one_order head route other_route size other_size is order in (
      reason,
      no_memory,
      subst (λ (t : List ℕ). IsFaultAt other_route other.target t reason) (λ i. take (one.1 i) (sym same.1 i))
          (subst (λ (t : List ℕ). IsFaultAt other_route t (take size rest) reason) (λ i. (sym same.0 i).target)
          (subst (λ (r : Route). IsFaultAt r head.target (take size rest) reason) one.0 is_fault)),
    )

module _ {K : Type 0} (kept : K → Kept) where
  -- how a request went
  abbrev Went : StoreHandler K → StoreHandler K → Request → Told → Type 0
  Went old new request told = Goes (kept old.keeper) (kept new.keeper) request told

  -- by a connection a request was done, and is told; or nothing was, since its bytes ask for nothing or it was told 503
  abbrev Effect : List ℕ → StoreHandler K → Answer → StoreHandler K → Type 0
  Effect bytes old answer new =
      ((request : Request) × (told : Told) × AskFor bytes request × IsTold told answer × Went old new request told)
      ⊎ ((AskForNone bytes ⊎ ((answer.status ≡ Unavailable) × TakeMemory TakesMemoryAt bytes)) × (new ≡ old))

  effect : OnlySteps (Handles kept) IsSame TakesMemoryAt → (bytes : List ℕ) (old new : StoreHandler K) (answer : Answer)
      → MeansOver kept bytes old answer new → Effect bytes old answer new
  effect steps bytes old new answer means = elim (steps bytes old new answer means) [
    | inl it ↦
        elim it.9 [
          | inl asked ↦
              inl (
                asked.0,
                asked.1,
                (it.0, it.1, it.2, it.3, (it.4, it.5, it.6), it.7, asked.2),
                (asked.4, asked.5, it.8),
                asked.3,
              )
          | inr none ↦
              inr (inl (asks_for_none bytes it.0 it.1 it.2 it.3 none.0 it.4 it.6 none.1 (tells_no_memory none.0 _ _ _ none.2)), none.3)
        ]
    | inr idle ↦ inr (
      elim idle.0 [
        | inl none ↦ inl (λ head rest route size wants whole. absurd (none head rest route size wants.0 wants.1 wants.2))
        | inr unavailable ↦ inr unavailable
      ],
      elim idle.2 [ inl same ↦ same | inr same ↦ same ],
    )
  ]

  -- a keeper that is honest in the end was so before
  honest_before : (bytes : List ℕ) (old new : StoreHandler K) (answer : Answer) → Effect bytes old answer new
      → (kept new.keeper).honest → (kept old.keeper).honest
  honest_before bytes old new answer (inl done) = done.4.outside
  honest_before bytes old new answer (inr idle) = subst (λ (s : StoreHandler K). (kept s.keeper).honest) idle.1

  module _ (steps : OnlySteps (Handles kept) IsSame TakesMemoryAt) where
    honest_first : (connections : List (List ℕ × Answer)) (first last : StoreHandler K)
        → AreServed kept first connections last → (kept last.keeper).honest → (kept first.keeper).honest
    honest_first [] first last served h = subst (λ (s : StoreHandler K). (kept s.keeper).honest) served h
    honest_first (connection ∷ connections) first last served h =
        honest_before connection.0 first served.0 connection.1
        (effect steps connection.0 first served.0 connection.1 served.1)
        (honest_first connections served.0 last served.2 h)

    -- what a run so far goes on to by connections
    abbrev GoesOn : World → List Request → List Told → List (List ℕ × Answer) → StoreHandler K → Type 0
    GoesOn a rs ss connections last =
        (requests : List Request) × (answers : List Told) × (w : World) × AreDone connections requests answers × IsLawful w
        × Run a (rs ++ requests) (ss ++ answers) w × ((kept last.keeper).sound → (kept last.keeper).world ≡ w)
        × ((left : World) → (kept last.keeper).may_leave left → MayLeave w (rs ++ requests) (ss ++ answers) left)

    run_on : (connections : List (List ℕ × Answer)) (a : World) (rs : List Request) (ss : List Told) (b : World)
        (first last : StoreHandler K) → AreServed kept first connections last → (kept last.keeper).honest
        → IsLawful b → ((kept first.keeper).sound → (kept first.keeper).world ≡ b) → Run a rs ss b
        → ((left : World) → (kept first.keeper).may_leave left → MayLeave b rs ss left) → GoesOn a rs ss connections last
    run_on [] a rs ss b first last served h lawful shows run may = (
      [],
      [],
      b,
      (refl, refl),
      lawful,
      subst (λ l. Run a l (ss ++ []) b) (sym (append-nil rs)) (subst (λ l. Run a rs l b) (sym (append-nil ss)) run),
      subst (λ (s : StoreHandler K). (kept s.keeper).sound → (kept s.keeper).world ≡ b) (sym served) shows,
      λ left it. subst (λ l. MayLeave b l (ss ++ []) left) (sym (append-nil rs))
          (subst (λ l. MayLeave b rs l left) (sym (append-nil ss))
          (may left (subst (λ (s : StoreHandler K). (kept s.keeper).may_leave left) served it))),
    )
    run_on (connection ∷ connections) a rs ss b first last served h lawful shows run may =
        let next = served.0 in
        elim (effect steps connection.0 first next connection.1 served.1) [
          | inl done ↦
              let request = done.0 in
              let told = done.1 in
              let it = done.4.step (honest_first connections next last served.2 h) b lawful shows in
              let more = run_on connections a (rs ++ request ∷ []) (ss ++ told ∷ []) it.0 next last served.2 h it.1 it.3
              (run_more a rs ss b request told it.0 run it.2)
              (λ left may_be. leaves_more a rs ss b it.0 request told ((kept first.keeper).may_leave left) left run it.2
              (may left) (it.4 left may_be)) in
              let asked = append_assoc rs (request ∷ []) more.0 in
              let answered = append_assoc ss (told ∷ []) more.1 in (
                request ∷ more.0,
                told ∷ more.1,
                more.2,
                inr (request, more.0, told, more.1, refl, refl, done.2, done.3, more.3),
                more.4,
                subst (λ l. Run a l (ss ++ told ∷ more.1) more.2) asked
                    (subst (λ l. Run a ((rs ++ request ∷ []) ++ more.0) l more.2) answered more.5),
                more.6,
                λ left may_be. subst (λ l. MayLeave more.2 l (ss ++ told ∷ more.1) left) asked
                    (subst (λ l. MayLeave more.2 ((rs ++ request ∷ []) ++ more.0) l left) answered (more.7 left may_be)),
              )
          | inr idle ↦
              let same = idle.1 in
              let more = run_on connections a rs ss b next last served.2 h lawful
              (subst (λ (s : StoreHandler K). (kept s.keeper).sound → (kept s.keeper).world ≡ b) (sym same) shows) run
              (λ left it. may left (subst (λ (s : StoreHandler K). (kept s.keeper).may_leave left) same it)) in
              (more.0, more.1, more.2, inl (idle.0, more.3), more.4, more.5, more.6, more.7)
        ]

    pub connections_run : ((k : K) → (kept k).sound → (left : World) → (kept k).may_leave left → left ≡ (kept k).world)
        → ConnectionsRun kept
    connections_run settled connections first last served h sound_first lawful =
        run_on connections (kept first.keeper).world [] [] (kept first.keeper).world first last served h lawful (λ _. refl) refl
        (λ left it. inl (settled first.keeper sound_first left it))

  -- what asks for no request changes nothing
  pub unasked : HeadDecides (Handles kept) IsSame TakesMemoryAt → UnaskedNoChange kept
  unasked decides bytes rest head route size old new answer wants none means =
      elim (subst (λ j. AnswersJudged (Handles kept) IsSame TakesMemoryAt j head rest old answer new) wants.2
      (decides bytes rest head old new answer wants.0 wants.1 means)) [
        | inl step ↦ elim step.2 [
          | inl asked ↦ absurd (none asked.0 asked.2)
          | inr fault ↦ (fault_is_no_success fault.0 _ _ _ fault.2, fault.3)
        ]
        | inr idle ↦ (
          (λ e. let is = ap (λ (a : Answer). a.status) idle.0 in cc),
          elim idle.2 [ inl same ↦ same | inr same ↦ same ],
        )
      ]

  -- a head that is refused changes nothing
  pub refused_none : HeadDecides (Handles kept) IsSame TakesMemoryAt → RefusedNoChange kept
  refused_none decides bytes rest head status old new answer reads few is means =
      subst (λ j. AnswersJudged (Handles kept) IsSame TakesMemoryAt j head rest old answer new) is
      (decides bytes rest head old new answer reads few means)
