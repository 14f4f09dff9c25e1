use Rattle.std.proofs.Common.{◌≡◌, ◌<◌, Some, None, sym, subst, refl, length, rules}
use Rattle.mds_marks.specs.Reason.{reason_of}
use Rattle.mds_jobs.specs.Bodies.{AreJobParts, part_at, parts_of}
use Rattle.mds_jobs.specs.BodySteps.{SaysManner, SaysPlace}
use Rattle.mds_world.specs.Facts.{JobContent}
use Rattle.mds_marks.specs.BorrowedMarks.{reason_value}
use Rattle.mds_jobs.specs.Jobs.{content_of, job_of_parts}
use Rattle.mds_jobs.proofs.BodyParts.{job_said, manner_of, manner_read, parts_read, place_of, place_read, reason_at}
use Rattle.mds_jobs.proofs.job.Job.from_body.Goals as goal
use Rattle.mds_jobs.proofs.job.Job.from_body.Goals.{In-Some-read}

pub returns-in_default-clause-none : goal.returns-in_default-clause-none
returns-in_default-clause-none c = λ job r. c.in_default.ensures r.twelve

pub returns-in_default-place_in-clause-none : goal.returns-in_default-place_in-clause-none
returns-in_default-place_in-clause-none c = λ job r.
    let p = place_of job in
    c.in_default-place_in.ensures.none p (subst (λ parts. SaysPlace parts p) (sym c.in-Some.ensures.0) (place_read (parts_of c.args.body.now) job r))

pub returns-in_default-manner_in-clause-none : goal.returns-in_default-manner_in-clause-none
returns-in_default-manner_in-clause-none c = λ job r.
    let m = manner_of job in
    c.in_default-manner_in.ensures.none m (subst (λ parts. SaysManner parts m) (sym c.in-Some.ensures.0) (manner_read (parts_of c.args.body.now) job r))

pub returns-in_default-read-clause-none : goal.returns-in_default-read-clause-none
returns-in_default-read-clause-none c = λ job r.
    let said = r.reason in
    let none : None ≡ reason_of (part_at (parts_of c.args.body.now) 9) (part_at (parts_of c.args.body.now) 10) = reason_at c.in-Some.parts.texts (parts_of c.args.body.now) None c.in-Some.ensures.0 c.in_default-read.ensures.value in
    absurd (cc)

-- the job that was read
abbrev job_of : In-Some-read → JobContent
job_of c = content_of (job_of_parts c.args.id c.in-Some-place_in.place c.in-Some-manner_in.manner (reason_value c.in-Some-read.reason))

are_read : (c : In-Some-read) → AreJobParts (parts_of c.args.body.now) (job_of c)
are_read c =
    let parts = parts_of c.args.body.now in
    let e = c.in-Some.ensures in
    parts_read parts (job_of c) e.1
    (subst (λ texts. SaysPlace texts c.in-Some-place_in.place) e.0 c.in-Some-place_in.ensures.some)
    (subst (λ texts. SaysManner texts c.in-Some-manner_in.manner) e.0 c.in-Some-manner_in.ensures.some)
    (sym (reason_at c.in-Some.parts.texts parts (Some (reason_value c.in-Some-read.reason)) e.0 c.in-Some-read.ensures.value))

pub returns-in_err-reason-clause-full : goal.returns-in_err-reason-clause-full
returns-in_err-reason-clause-full c =
    let it = (goal.at.returns-in_err-reason-clause-full c).In-Some-read in
    let full : (job : JobContent) × AreJobParts (parts_of c.args.body.now) job × (0 < length job.text) = (job_of it, are_read it, c.in_err-reason.ensures.only) in
    search (rules, full)

pub returns-clause-some : goal.returns-clause-some
returns-clause-some c =
    let it = (goal.at.returns-clause-some c).In-Some-read in
    rw (c.new.ensures, c.in_ok-reason.ensures.value) (refl, job_said (parts_of c.args.body.now) (job_of it) (are_read it))

pub returns-clause-parts : goal.returns-clause-parts
returns-clause-parts c = rw (c.new.ensures, c.in_ok-reason.ensures.value) (are_read (goal.at.returns-clause-parts c).In-Some-read)
