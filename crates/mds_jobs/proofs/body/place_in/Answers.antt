use Rattle.std.proofs.Common.{◌≡◌, ◌∙◌, ◌⊎◌, inl, inr, ap, List, Option, None, Some, ℕ, sym, subst}
use Rattle.mds_calendar.specs.Calendar.{day_of}
use Rattle.mds_names.specs.Names.{nmi_of, suffix_of}
use Rattle.mds_jobs.specs.Bodies.{Writes}
use Rattle.mds_jobs.proofs.BodySplits.{part_is}
use Rattle.mds_jobs.proofs.body.place_in.Goals as goal

-- a text that reads as nothing doesn't read as a value
unread : {A : Type 0} (read : List ℕ → Option A) (part text : List ℕ) (result : Option A) (x : A) → part ≡ text → result ≡ read text → result ≡ None → read part ≡ Some x → ⊥
unread read part text result x same is none has = absurd (cc)

no_stream : {A B : Type 0} (first : List ℕ → Option A) (second : List ℕ → Option B) (part text also other : List ℕ) (x : A) (y : B) → part ≡ text → also ≡ other → ((first text ≡ None) ⊎ (second other ≡ None)) → first part ≡ Some x → second also ≡ Some y → ⊥
no_stream first second part text also other x y same like (inl none) a b = absurd (cc)
no_stream first second part text also other x y same like (inr none) a b = absurd (cc)

pub returns-in_err-read-clause-none : goal.returns-in_err-read-clause-none
returns-in_err-read-clause-none c =
    rw c.from_residual.ensures (λ place s. no_stream nmi_of suffix_of _ _ _ _ _ _ (part_is c.args.parts.now.texts 0) (part_is c.args.parts.now.texts 1) c.in_err-read.ensures.none s.nmi s.suffix)

pub returns-in_err-read-2-clause-none : goal.returns-in_err-read-2-clause-none
returns-in_err-read-2-clause-none c =
    rw c.from_residual-in_err-read-2.ensures (λ place s. unread day_of _ _ _ _ (part_is c.args.parts.now.texts 2) c.read-2.ensures c.in_err-read-2.was s.day)

pub returns-in_err-number_in-clause-none : goal.returns-in_err-number_in-clause-none
returns-in_err-number_in-clause-none c =
    rw c.from_residual-in_err-number_in.ensures (λ place s. c.in_err-number_in.ensures.none place.first (subst (λ t. Writes 16 t place.first) (part_is c.args.parts.now.texts 3) s.first))

pub returns-in_err-number_in-2-clause-none : goal.returns-in_err-number_in-2-clause-none
returns-in_err-number_in-2-clause-none c =
    rw c.from_residual-in_err-number_in-2.ensures (λ place s. c.in_err-number_in-2.ensures.none place.last (subst (λ t. Writes 16 t place.last) (part_is c.args.parts.now.texts 4) s.last))

pub returns-in_err-read-clause-some : goal.returns-in_err-read-clause-some
returns-in_err-read-clause-some c = rw c.from_residual.ensures tt

pub returns-in_err-read-2-clause-some : goal.returns-in_err-read-2-clause-some
returns-in_err-read-2-clause-some c = rw c.from_residual-in_err-read-2.ensures tt

pub returns-in_err-number_in-clause-some : goal.returns-in_err-number_in-clause-some
returns-in_err-number_in-clause-some c = rw c.from_residual-in_err-number_in.ensures tt

pub returns-in_err-number_in-2-clause-some : goal.returns-in_err-number_in-2-clause-some
returns-in_err-number_in-2-clause-some c = rw c.from_residual-in_err-number_in-2.ensures tt

pub returns-clause-some : goal.returns-clause-some
returns-clause-some c = record {
  nmi = ap nmi_of (part_is c.args.parts.now.texts 0) ∙ c.in_ok-read.ensures.some.0;
  suffix = ap suffix_of (part_is c.args.parts.now.texts 1) ∙ c.in_ok-read.ensures.some.1;
  day = ap day_of (part_is c.args.parts.now.texts 2) ∙ sym c.read-2.ensures ∙ c.in_ok-read-2.was;
  first = subst (λ t. Writes 16 t c.in_ok-number_in.field-0) (sym (part_is c.args.parts.now.texts 3)) c.in_ok-number_in.ensures.some;
  last = subst (λ t. Writes 16 t c.in_ok-number_in-2.field-0) (sym (part_is c.args.parts.now.texts 4)) c.in_ok-number_in-2.ensures.some;
}
