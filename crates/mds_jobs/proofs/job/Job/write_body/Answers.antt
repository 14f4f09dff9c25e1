use Rattle.std.proofs.Common.{◌≡◌, ◌∷◌, ◌∙◌, ℕ, List, [], Result, Ok, Err, OnErr, rules, decimal, IsTrue, arith, inr}
use Rattle.std.specs.Char.{is_ascii_uppercase}
use Rattle.std.proofs.lemmas.Grind.{common_steps}
use Rattle.std.proofs.lemmas.Result.{on_ok_weaker}
use Rattle.mds_terms.specs.Parts.{joined}
use Rattle.mds_jobs.specs.Bodies.{IsJobBody, IsLawfulJob, flag_text}
use Rattle.mds_world.specs.Lists.{Member}
use Rattle.mds_jobs.specs.Jobs.{content_of, flags}
use Rattle.mds_terms.proofs.Texts.{day_is_digits, moment_is_digits}
use Rattle.mds_jobs.proofs.BodyParts.{job_back}
use Rattle.mds_jobs.proofs.BodyTexts.{flag_written, texts_of_job}
use Rattle.mds_jobs.proofs.job.Job.write_body.Goals as goal
use Rattle.mds_jobs.proofs.job.Job.write_body.Goals.{After-write_joined}

pub digits_text-requires : goal.digits_text-requires
digits_text-requires c = day_is_digits c.digits-date.result _ c.digits-date.ensures

pub digits_text-requires-2 : goal.digits_text-requires-2
digits_text-requires-2 c = moment_is_digits c.digits-update.result _ c.digits-update.ensures

-- a flag that a job may have is a capital letter
letter : (flag : ℕ) → ((Member flag flags → ⊥) → ⊥) → IsTrue (is_ascii_uppercase flag)
letter flag some = grind (arith, common_steps)

-- what is written
abbrev body : After-write_joined → List ℕ
body c = joined (c.text.result.now ∷ c.text-2.result.now ∷ c.digits_text.result.now ∷ c.format-first.result.now ∷ c.format-last.result.now ∷ c.format-minutes.result.now ∷ c.unit_text-unit.result.now ∷ c.format-method.result.now ∷ c.flag_text.result.now ∷ c.code_text-code.result.now ∷ c.text-3.result.now ∷ c.digits_text-2.result.now ∷ [])

-- is a body of the job
is_body : (c : After-write_joined) → IsJobBody (content_of c.args.self.now) (body c)
is_body c =
    let job = content_of c.args.self.now in
    let flag : c.flag_text.result.now ≡ flag_text job.flag = c.flag_text.ensures ∙ flag_written job.flag in
    let minutes : c.format-minutes.result.now ≡ decimal job.length = search rules in
    let same : body c ≡ joined (texts_of_job job c.digits-date.result c.digits-update.result) = cc in
    record { date = c.digits-date.result; update = c.digits-update.result; day = c.digits-date.ensures; moment = c.digits-update.ensures; texts = same }

-- which is lawful if its flag is a capital letter
lawful : (c : After-write_joined) → IsTrue (is_ascii_uppercase c.args.self.now.flag) → IsLawfulJob (content_of c.args.self.now)
lawful c h = record {
  nmi = c.text.ensures.name;
  suffix = c.text-2.ensures.name;
  first = omega arith;
  last = omega arith;
  length = c.minutes.ensures.known;
  method = omega arith;
  flag = h;
  reason = c.code.ensures.known;
}

pub returns-clause-done : goal.returns-clause-done
returns-clause-done c = λ h.
    let job = content_of c.args.self.now in
    let it = (goal.at.returns-clause-done c).After-write_joined in
    let l = lawful it h in
    on_ok_weaker c.write_joined.result (λ a. (body it, is_body it, job_back job (body it) l (is_body it), a)) c.write_joined.ensures.done

pub returns-clause-text : goal.returns-clause-text
returns-clause-text c =
    let it = (goal.at.returns-clause-text c).After-write_joined in
    on_ok_weaker c.write_joined.result (λ a. (body it, is_body it, a)) c.write_joined.ensures.done

pub returns-clause-part : goal.returns-clause-part
returns-clause-part c =
    let it = (goal.at.returns-clause-part c).After-write_joined in
    both c.write_joined.result _ _ _ (λ a full. (body it, is_body it, a, full)) c.write_joined.ensures.part c.write_joined.ensures.full
  where
    both : {T E : Type 0} (r : Result T E) (P Q R : Type 0) → (P → Q → R) → OnErr r P → OnErr r Q → OnErr r R
    both (Ok x) P Q R f p q = tt
    both (Err e) P Q R f p q = f p q

pub returns-clause-lawful : goal.returns-clause-lawful
returns-clause-lawful c = lawful (goal.at.returns-clause-lawful c).After-write_joined

pub returns-clause-letter : goal.returns-clause-letter
returns-clause-letter c = λ good. letter c.args.self.now.flag (λ none. good (inr (inr (inr (inr none)))))
