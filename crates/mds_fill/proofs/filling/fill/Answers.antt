use Rattle.std.proofs.Common.{◌≡◌, Result, Ok, Err, refl}
use Rattle.std.proofs.lemmas.Result.{IfOk-weaker}
use Rattle.std.specs.Result.{IfErr}
use Rattle.mds_keeper.specs.DayMerges.{IfRefused}
use Rattle.mds_keeper.specs.declared.day_merge.Stop.{Stop}
use Rattle.mds_keeper.specs.declared.day_merge.Stop.TheVariants.{Memory, Refused}
use Rattle.mds_keeper.specs.declared.refusal.Refusal.{Refusal}
use Rattle.mds_keeper.specs.declared.refusal.RefusalCode.TheVariants.{NoLikeDay}
use Rattle.mds_jobs.specs.Jobs.{content_of}
use Rattle.mds_fill.proofs.FillLemmas.{has_anchor, lacks_for_mean, refusal_is}
use Rattle.mds_fill.proofs.filling.fill.Goals as goal

-- what a refusal says it still says by another rule
still_refused : {T : Type 0} {P Q : Refusal → Type 0} (result : Result T Stop) → ((refusal : Refusal) → P refusal → Q refusal)
    → IfErr result (λ stop. IfRefused stop P) → IfErr result (λ stop. IfRefused stop Q)
still_refused (Ok x) weaker h = tt
still_refused (Err (Refused refusal)) weaker h = weaker refusal h
still_refused (Err Memory) weaker h = tt

-- a refusal is no want of memory
not_memory : {T P : Type 0} {refusal : Refusal} → ◌≡◌ {A = Result T Stop} (Err (Refused refusal)) (Err Memory) → P
not_memory is = absurd (cc)

pub returns-in-Ok-clause-memory : goal.returns-in-Ok-clause-memory
returns-in-Ok-clause-memory c = λ w is memory.
    let job = content_of c.args.job.now in
    let free = c.in_default.ensures w is.target in
    let source = c.in-Ok.ensures.ok w is in
    (free.0, free.1, has_anchor w job c.in-Ok.source source, lacks_for_mean w job c.in-Ok.source source)

pub returns-in-Some-clause-refused : goal.returns-in-Some-clause-refused
returns-in-Some-clause-refused c = λ w is. c.in-Some.ensures w is.target

pub returns-in-Some-clause-memory : goal.returns-in-Some-clause-memory
returns-in-Some-clause-memory c = λ w is memory. not_memory memory

pub returns-in-Ok-clause-count : goal.returns-in-Ok-clause-count
returns-in-Ok-clause-count c = c.readings.ensures.count

pub returns-in-Ok-clause-refused : goal.returns-in-Ok-clause-refused
returns-in-Ok-clause-refused c = λ w is.
    let job = content_of c.args.job.now in
    let free = c.in_default.ensures w is.target in
    still_refused c.readings.result (λ refusal lacks. refusal_is w job refusal NoLikeDay 0 lacks.0 (free.0, lacks.1, refl))
    (c.readings.ensures.refused w is (c.in-Ok.ensures.ok w is))

pub returns-in-Err-clause-memory : goal.returns-in-Err-clause-memory
returns-in-Err-clause-memory c = λ w is memory. not_memory memory

pub returns-in-Ok-clause-ok : goal.returns-in-Ok-clause-ok
returns-in-Ok-clause-ok c = λ w is.
    let job = content_of c.args.job.now in
    let free = c.in_default.ensures w is.target in
    IfOk-weaker c.readings.result _ _ (λ readings filled. record { free = free.0; short = free.1; count = filled.many; each = filled.each })
    (c.readings.ensures.ok w is (c.in-Ok.ensures.ok w is))
