use Rattle.std.proofs.Common.{◌&&◌, ◌∷◌, [], true, ap, refl, IsTrue}
use Rattle.std.specs.List.{list_all}
use Rattle.sqlite_value.specs.Order.{column}
use Rattle.mds_names.specs.Names.{is_name}
use Rattle.mds_terms.specs.Event.{EventValue, is_event, is_trans}
use Rattle.mds_terms.specs.Printable.{is_printable}
use Rattle.mds_world.proofs.Sets.{split_and}
use Rattle.mds_tables.proofs.terms.event_ref_in.Goals as goal

-- the parts of a lawful event
record Parts (event : EventValue) : Type 0 where
  nmi : IsTrue (is_name 10 event.nmi)
  suffix : IsTrue (is_name 2 event.suffix)
  trans : IsTrue (is_trans event.trans)
  ticket : IsTrue (is_printable event.ticket)
  reading : IsTrue (is_printable event.reading)

parts : (event : EventValue) → IsTrue (is_event event) → Parts event
parts event known =
    let names = is_name 10 event.nmi && is_name 2 event.suffix in
    let p = split_and (names && is_trans event.trans) (list_all is_printable (event.ticket ∷ event.reading ∷ [])) known in
    let q = split_and names (is_trans event.trans) p.0 in
    let r = split_and (is_name 10 event.nmi) (is_name 2 event.suffix) q.0 in
    let s = split_and (is_printable event.ticket) (is_printable event.reading && true) p.1 in
    record {
      nmi = r.0;
      suffix = r.1;
      trans = q.1;
      ticket = s.0;
      reading = (split_and (is_printable event.reading) true s.1).0;
    }

pub returns-in_err-nmi_at-clause-some : goal.returns-in_err-nmi_at-clause-some
returns-in_err-nmi_at-clause-some c = rw c.from_residual.ensures tt

pub returns-in_err-nmi_at-clause-none : goal.returns-in_err-nmi_at-clause-none
returns-in_err-nmi_at-clause-none c =
    rw c.from_residual.ensures (λ event it. c.in_err-nmi_at.ensures.none event.nmi (parts event it.lawful).nmi (ap (λ r. column r 0) it.cells))

pub returns-in_err-suffix_at-clause-some : goal.returns-in_err-suffix_at-clause-some
returns-in_err-suffix_at-clause-some c = rw c.from_residual-in_err-suffix_at.ensures tt

pub returns-in_err-suffix_at-clause-none : goal.returns-in_err-suffix_at-clause-none
returns-in_err-suffix_at-clause-none c =
    rw c.from_residual-in_err-suffix_at.ensures (λ event it.
    c.in_err-suffix_at.ensures.none event.suffix (parts event it.lawful).suffix (ap (λ r. column r 1) it.cells))

pub returns-in_err-day_at-clause-some : goal.returns-in_err-day_at-clause-some
returns-in_err-day_at-clause-some c = rw c.from_residual-in_err-day_at.ensures tt

pub returns-in_err-day_at-clause-none : goal.returns-in_err-day_at-clause-none
returns-in_err-day_at-clause-none c =
    rw c.from_residual-in_err-day_at.ensures (λ event it. c.in_err-day_at.ensures.none event.day it.day (ap (λ r. column r 2) it.cells))

pub returns-in_err-trans_at-clause-some : goal.returns-in_err-trans_at-clause-some
returns-in_err-trans_at-clause-some c = rw c.from_residual-in_err-trans_at.ensures tt

pub returns-in_err-trans_at-clause-none : goal.returns-in_err-trans_at-clause-none
returns-in_err-trans_at-clause-none c =
    rw c.from_residual-in_err-trans_at.ensures (λ event it.
    c.in_err-trans_at.ensures.none event.trans (parts event it.lawful).trans (ap (λ r. column r 3) it.cells))

pub returns-in_err-printable_at-clause-some : goal.returns-in_err-printable_at-clause-some
returns-in_err-printable_at-clause-some c = rw c.from_residual-in_err-printable_at.ensures tt

pub returns-in_err-printable_at-clause-none : goal.returns-in_err-printable_at-clause-none
returns-in_err-printable_at-clause-none c =
    rw c.from_residual-in_err-printable_at.ensures (λ event it.
    c.in_err-printable_at.ensures.none event.ticket (parts event it.lawful).ticket (ap (λ r. column r 4) it.cells))

pub returns-in_err-read_at-clause-some : goal.returns-in_err-read_at-clause-some
returns-in_err-read_at-clause-some c = rw c.from_residual-in_err-read_at.ensures tt

pub returns-in_err-read_at-clause-none : goal.returns-in_err-read_at-clause-none
returns-in_err-read_at-clause-none c =
    rw c.from_residual-in_err-read_at.ensures (λ event it.
    c.in_err-read_at.ensures.none event.moment it.moment (ap (λ r. column r 5) it.cells))

pub returns-in_err-printable_at-2-clause-some : goal.returns-in_err-printable_at-2-clause-some
returns-in_err-printable_at-2-clause-some c = rw c.from_residual-in_err-printable_at-2.ensures tt

pub returns-in_err-printable_at-2-clause-none : goal.returns-in_err-printable_at-2-clause-none
returns-in_err-printable_at-2-clause-none c =
    rw c.from_residual-in_err-printable_at-2.ensures (λ event it.
    c.in_err-printable_at-2.ensures.none event.reading (parts event it.lawful).reading (ap (λ r. column r 6) it.cells))

pub returns-clause-some : goal.returns-clause-some
returns-clause-some c =
    rw (
      c.in_ok-nmi_at.ensures.some,
      c.in_ok-suffix_at.ensures.some,
      c.in_ok-day_at.ensures.some,
      c.in_ok-trans_at.ensures.some,
      c.in_ok-printable_at.ensures.some,
      c.in_ok-read_at.ensures.some,
      c.in_ok-printable_at-2.ensures.some,
    ) refl

pub returns-clause-none : goal.returns-clause-none
returns-clause-none c = tt
