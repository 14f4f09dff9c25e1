use Rattle.std.proofs.Common.{◌≡◌, ap, ◌∙◌, ℕ, List, Option, None, Some, sym, subst}
use Rattle.mds_quantity.specs.Unit.{unit_of}
use Rattle.mds_calendar.specs.Calendar.{moment_of}
use Rattle.mds_calendar.specs.Length.{length_of}
use Rattle.mds_jobs.specs.Bodies.{Writes, flag_of}
use Rattle.mds_jobs.proofs.BodySplits.{part_is}
use Rattle.mds_jobs.proofs.body.manner_in.Goals as goal

-- a text that reads as nothing doesn't read as a value
unread : {A : Type 0} (read : List ℕ → Option A) (part text : List ℕ) (result : Option A) (x : A) → part ≡ text → result ≡ read text → result ≡ None → read part ≡ Some x → ⊥
unread read part text result x same is none has = absurd (cc)

read_as : {A : Type 0} (read : List ℕ → Option A) (part text : List ℕ) (result : Option A) (x : A) → part ≡ text → result ≡ read text → result ≡ Some x → read part ≡ Some x
read_as read part text result x same is has = ap read same ∙ sym is ∙ has

pub returns-in_err-method_in-clause-none : goal.returns-in_err-method_in-clause-none
returns-in_err-method_in-clause-none c =
    rw c.from_residual-in_err-method_in.ensures (λ manner s. c.in_err-method_in.ensures.none manner.method (subst (λ t. Writes 8 t manner.method) (part_is c.args.parts.now.texts 7) s.method))

pub returns-in_err-read-clause-some : goal.returns-in_err-read-clause-some
returns-in_err-read-clause-some c = rw c.from_residual.ensures tt

pub returns-in_err-read-clause-none : goal.returns-in_err-read-clause-none
returns-in_err-read-clause-none c =
    rw c.from_residual.ensures (λ manner s. unread length_of _ _ _ _ (part_is c.args.parts.now.texts 5) c.read.ensures c.in_err-read.was s.length)

pub returns-in_err-read-2-clause-some : goal.returns-in_err-read-2-clause-some
returns-in_err-read-2-clause-some c = rw c.from_residual-in_err-read-2.ensures tt

pub returns-in_err-read-2-clause-none : goal.returns-in_err-read-2-clause-none
returns-in_err-read-2-clause-none c =
    rw c.from_residual-in_err-read-2.ensures (λ manner s. unread unit_of _ _ _ _ (part_is c.args.parts.now.texts 6) c.read-2.ensures.value c.in_err-read-2.was s.unit)

pub returns-in_err-method_in-clause-some : goal.returns-in_err-method_in-clause-some
returns-in_err-method_in-clause-some c = rw c.from_residual-in_err-method_in.ensures tt

pub returns-in_err-flag_in-clause-some : goal.returns-in_err-flag_in-clause-some
returns-in_err-flag_in-clause-some c = rw c.from_residual-in_err-flag_in.ensures tt

pub returns-in_err-flag_in-clause-none : goal.returns-in_err-flag_in-clause-none
returns-in_err-flag_in-clause-none c =
    rw c.from_residual-in_err-flag_in.ensures (λ manner s. unread flag_of _ _ _ _ (part_is c.args.parts.now.texts 8) c.flag_in.ensures c.in_err-flag_in.was s.flag)

pub returns-in_err-read-3-clause-some : goal.returns-in_err-read-3-clause-some
returns-in_err-read-3-clause-some c = rw c.from_residual-in_err-read-3.ensures tt

pub returns-in_err-read-3-clause-none : goal.returns-in_err-read-3-clause-none
returns-in_err-read-3-clause-none c =
    rw c.from_residual-in_err-read-3.ensures (λ manner s. unread moment_of _ _ _ _ (part_is c.args.parts.now.texts 11) c.read-3.ensures c.in_err-read-3.was s.update)

pub returns-clause-some : goal.returns-clause-some
returns-clause-some c = record {
  length = read_as length_of _ _ _ _ (part_is c.args.parts.now.texts 5) c.read.ensures c.in_ok-read.was;
  unit = read_as unit_of _ _ _ _ (part_is c.args.parts.now.texts 6) c.read-2.ensures.value c.in_ok-read-2.was;
  method = subst (λ t. Writes 8 t c.in_ok-method_in.field-0) (sym (part_is c.args.parts.now.texts 7)) c.in_ok-method_in.ensures.some;
  flag = read_as flag_of _ _ _ _ (part_is c.args.parts.now.texts 8) c.flag_in.ensures c.in_ok-flag_in.was;
  update = read_as moment_of _ _ _ _ (part_is c.args.parts.now.texts 11) c.read-3.ensures c.in_ok-read-3.was;
}
