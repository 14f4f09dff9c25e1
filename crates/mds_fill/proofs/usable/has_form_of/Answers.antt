use Rattle.std.proofs.Common.{◌≡◌, ◌↔◌, IsTrue, rules}
use Rattle.std.proofs.lemmas.Int.{ints}
use Rattle.mds_keeper.specs.Books.{book_world}
use Rattle.mds_world.proofs.Forms.{form_known, one_size}
use Rattle.mds_fill.proofs.BookValues.{same_form}
use Rattle.mds_fill.proofs.usable.has_form_of.Goals as goal

pub returns-then-minutes : goal.returns-then-minutes
returns-then-minutes c =
    let book = c.args.book.now in
    let job = c.args.job.now in
    let form = c.in-Some.form in
    let length : form.0 ≡ job.length = search (rules, ints) in
    let unit : IsTrue c.eq.result ↔ (form.1 ≡ job.unit) = search rules in (
      (λ t. same_form book form.0 job.length form.1 job.unit length (unit.0 t) c.in-Some.ensures.some),
      (λ other. unit.1 (one_size (book_world book) book.stream book.day form.0 job.length form.1 job.unit
          c.is_lawful.ensures.agrees c.in-Some.ensures.some other).1),
    )

pub returns-else-minutes : goal.returns-else-minutes
returns-else-minutes c =
    let book = c.args.book.now in
    let job = c.args.job.now in
    let form = c.in-Some.form in (
      (λ t. search (rules, t)),
      (λ other.
          let length : form.0 ≡ job.length = (one_size (book_world book) book.stream book.day form.0 job.length form.1 job.unit
          c.is_lawful.ensures.agrees c.in-Some.ensures.some other).0 in
          search (rules, ints, length)),
    )

pub returns-in-None : goal.returns-in-None
returns-in-None c =
    let book = c.args.book.now in
    let job = c.args.job.now in (
      (λ t. cc),
      (λ form. absurd (c.in-None.ensures.none (form_known (book_world book) book.stream book.day job.length job.unit form))),
    )
