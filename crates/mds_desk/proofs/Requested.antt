-- One request of a list of one.
use Rattle.std.specs.Prelude.{◌≡◌, ◌⊎◌, ◌<◌, ◌≤◌, List, [], ◌∷◌, length, Result, Ok, Err, IfErr, IfOk}
use Rattle.std.proofs.Common.{inl, inr, sym, ap, subst, get_or, arith}
use Rattle.mds_world.specs.World.{World}
use Rattle.mds_keeper.specs.Kept.{Kept}
use Rattle.mds_messages.specs.declared.answer.Answer.{Answer}
use Rattle.mds_messages.specs.declared.request.Request.{Request}
use Rattle.mds_service.specs.Crashes.{Goes, GoesOn, IsCut, LeavesBy, MayLeave}
use Rattle.mds_service.specs.Machine.{Step}
use Rattle.mds_service.proofs.Runs.{idle}
use Rattle.mds_service.proofs.Unavailable.{may_be_unavailable}
use Rattle.mds_desk.specs.Performed.{IsToldAs}

-- what a crash leaves of a run of one request it leaves of its step
left_of_one : (request : Request) (before : Type 0) (w v : World) (answer : Answer) (left : World) → Step w request answer v
    → MayLeave v (request ∷ []) (answer ∷ []) left ⊎ ((v ≡ w) × before)
    → LeavesBy before w v (λ u. Step u request) answer left
left_of_one request before w v answer left step (inl (inl is)) = inl is
left_of_one request before w v answer left step (inl (inr (inl (cut, behind)))) =
    let same : v ≡ w = idle w request v (subst (λ a. Step w request a v) cut.0 step) in
    inr (inr (subst (λ x. IsCut x request answer left) same cut))
left_of_one request before w v answer left step (inl (inr (inr none))) = absurd none
left_of_one request before w v answer left step (inr was) = inr (inl was)

module _ {old new : Kept} (request : Request) where
  -- a run of one request is its step
  pub did : (requests : List Request) (answers : List Answer) (answer : Answer) → requests ≡ request ∷ []
      → answers ≡ answer ∷ [] → GoesOn old new requests answers → Goes old new request answer
  did requests answers answer asked told goes =
      let one : GoesOn old new (request ∷ []) (answer ∷ []) =
      subst (λ rs. GoesOn old new rs (answer ∷ [])) asked (subst (GoesOn old new requests) told goes) in
      record {
        outside = one.outside;
        before = one.before;
        step = λ honest w lawful shows.
            let ran = one.run honest w lawful shows in
            let step : Step w request answer ran.0 = subst (λ v. Step w request answer v) (sym ran.2.2) ran.2.1 in (
              ran.0,
              ran.1,
              step,
              ran.3,
              λ left may. left_of_one request (old.may_leave left) w ran.0 answer left step (ran.4 left may),
            );
      }

  -- an answer with a list may be told as Unavailable, as if the store had been that
  pub told_as : (answer other : Answer) → IsToldAs answer other → Goes old new request answer → Goes old new request other
  told_as answer other (inl same) goes = subst (Goes old new request) (sym same) goes
  told_as answer other (inr wanting) goes =
      subst (Goes old new request) (sym wanting.1) (may_be_unavailable request answer wanting.0 goes)

pub if_done : {X E : Type 0} (r : Result X E) (P Q : X → Type 0) → ((x : X) → P x → Q x) → IfOk r P → IfOk r Q
if_done (Ok x) P Q f p = f x p
if_done (Err e) P Q f p = tt

pub if_not_done : {X E : Type 0} (r : Result X E) (P Q : E → Type 0) → ((e : E) → P e → Q e) → IfErr r P → IfErr r Q
if_not_done (Ok x) P Q f p = tt
if_not_done (Err e) P Q f p = f e p

pub if_failed : {X E : Type 0} (r : Result X E) (fault : E) (P : E → Type 0) → r ≡ Err fault → IfErr r P → P fault
if_failed (Ok x) fault P failed p = absurd cc
if_failed (Err e) fault P failed p = let same : e ≡ fault = cc in subst P same p

-- the one answer of a list of one
pub only_answer : (answers : List Answer) (answer : Answer) → 1 ≤ length answers → length answers < 2
    → answer ≡ get_or answers 0 answer → answers ≡ answer ∷ []
only_answer [] answer some few is = absurd (omega (arith, some))
only_answer (one ∷ []) answer some few is = ap (λ a. a ∷ []) (sym is)
only_answer (one ∷ other ∷ more) answer some few is = absurd (omega (arith, few))
