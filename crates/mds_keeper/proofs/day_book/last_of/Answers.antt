use Rattle.std.proofs.Common.{◌-◌, ◌≡◌, ◌∙◌, ℕ, ap, arith, length, refl, rules, subst, sym}
use Rattle.std.proofs.lemmas.Option.{slice_get_read}
use Rattle.mds_world.specs.World.{IsCurrent}
use Rattle.mds_keeper.specs.Books.{book_world}
use Rattle.mds_keeper.specs.LentVersions.{lent_reading}
use Rattle.mds_keeper.specs.declared.day_book.Version.{Version}
use Rattle.mds_keeper.proofs.BookReads.{last_current, none_current, none_other, other_before}
use Rattle.mds_keeper.proofs.day_book.last_of.Goals as goal

pub loop-end-init : goal.loop-end-init
loop-end-init c = record { within = omega arith; other = none_other c.args.length c.rows_at-found.result.now }

pub bounds-found-end : goal.bounds-found-end
bounds-found-end c = let w = c.loop-end.invariant.within in omega (arith, w, c.loop-end-test.true)

pub returns-then-eq-clause-some : goal.returns-then-eq-clause-some
returns-then-eq-clause-some c = λ book is.
    let w = c.loop-end.invariant.within in
    let e = c.lent.ensures in
    let same : c.index-found-end.result.1.length ≡ c.args.length = search (rules, c.if-eq.true, c.eq.ensures) in
    let found = c.rows_at-found.result.now in
    let is-row = c.index-found-end.is in
    let minutes = e.1 ∙ sym (ap (λ (r : ℕ × Version). r.1.length) is-row) ∙ same in
    let update = e.0 ∙ sym (ap (λ (r : ℕ × Version). r.1.update) is-row) in
    let reading = e.2 ∙ sym (ap (λ (r : ℕ × Version). r.1.reading) is-row) in
    let current = last_current (book_world book) book.stream book.day c.args.length c.args.interval found (c.rows_at-found.ensures book is)
    c.loop-end.end c.loop-end.invariant.other (c.loop-end.end - 1) c.index-found-end.result (omega (arith, c.loop-end-test.true))
    (omega (arith, w, c.loop-end-test.true))
    (slice_get_read found (length found) (c.loop-end.end - 1) c.index-found-end.result refl (omega (arith, w, c.loop-end-test.true)) c.index-found-end.is) same in (
      minutes,
      subst (λ u. IsCurrent (book_world book) book.stream book.day c.args.length c.args.interval u (lent_reading c.lent.result)) (sym update)
          (subst (IsCurrent (book_world book) book.stream book.day c.args.length c.args.interval c.index-found-end.result.1.update) (sym reading) current),
    )

pub loop-end-preserved : goal.loop-end-preserved
loop-end-preserved c =
    let w = c.loop-end.invariant.within in
    let found = c.rows_at-found.result.now in record {
      within = omega arith;
      other = other_before c.args.length found c.loop-end.end c.loop-end.invariant.other (c.loop-end.end - 1) c.index-found-end.result
          (omega (arith, c.loop-end-test.true))
          (slice_get_read found (length found) (c.loop-end.end - 1) c.index-found-end.result refl (omega (arith, w, c.loop-end-test.true)) c.index-found-end.is)
          (search (rules, c.if-eq.false, c.eq.ensures));
    }

pub returns-clause-none : goal.returns-clause-none
returns-clause-none c = λ book is.
    none_current (book_world book) book.stream book.day c.args.length c.args.interval c.rows_at-found.result.now (c.rows_at-found.ensures book is)
    c.loop-end.end c.loop-end.invariant.other (omega (arith, c.loop-end-test.false))
