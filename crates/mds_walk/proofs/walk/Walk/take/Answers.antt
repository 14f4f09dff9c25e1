use Rattle.std.proofs.Common.{◌≡◌, Option, None, Some, Result, Err, IfSome, refl, ap}
use Rattle.mds_walk.proofs.walk.Walk.take.Goals as goal

apart : {T P : Type 0} {found : Option T} {x : T} → found ≡ None → found ≡ Some x → P
apart none some = absurd (cc)

-- a fault is told again
told_again : {F : Type 0} (U : Type 0) (found : Option F) (fault : F) → found ≡ Some fault → IfSome found (λ f. (◌≡◌ {A = Result U F} (Err fault) (Err f)) × (found ≡ Some f))
told_again U None fault is = absurd (cc)
told_again U (Some f) fault is = let same : fault ≡ f = cc in (ap Err same, refl)

none_told : {F : Type 0} (P : F → Type 0) (found : Option F) → found ≡ None → IfSome found P
none_told P None is = tt
none_told P (Some f) is = absurd (cc)

pub returns-in-Some-clause-taken : goal.returns-in-Some-clause-taken
returns-in-Some-clause-taken g c = λ before walked number. apart walked.faultless c.in-Some.is

pub returns-in-Some-clause-again : goal.returns-in-Some-clause-again
returns-in-Some-clause-again g c = told_again _ _ _ c.in-Some.is

pub returns-in-Ok-clause-taken : goal.returns-in-Ok-clause-taken
returns-in-Ok-clause-taken g c = λ before walked number.
    let t = c.in-Ok.ensures before walked.taken_is number in
    (t.0, record { faultless = walked.faultless; taken_is = t.1 })

pub returns-in-Ok-clause-again : goal.returns-in-Ok-clause-again
returns-in-Ok-clause-again g c = none_told _ _ c.in-None.is

pub returns-in-Err-clause-taken : goal.returns-in-Err-clause-taken
returns-in-Err-clause-taken g c = λ before walked number. c.in-Err.ensures before walked.taken_is number

pub returns-in-Err-clause-again : goal.returns-in-Err-clause-again
returns-in-Err-clause-again g c = none_told _ _ c.in-None.is
