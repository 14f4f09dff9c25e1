use Rattle.std.proofs.Common.{◌≡◌, ◌≤◌, Err, IfErr, IsErr, IsErrAnd, Ok, OnOk, Result, refl, sym, ap, ◌∙◌, subst, arith}
use Rattle.std.specs.Prelude.{◌*◌}
use Rattle.mds_calendar.specs.Length.{count_of}
use Rattle.mds_keeper.specs.DayMergeSteps.{AreInBook, AreOfLength, claimed_entries, merge_value}
use Rattle.mds_keeper.proofs.Taken.{absent_claimed, as_many, book_end, claim_end, claimed_entry_in, comes_in, head_end, known_end, lacking_end, merge_more, merge_same, rows_of_claim, size_is, some_count, still_in_book, taken_end, unsaid_end}
use Rattle.mds_keeper.proofs.Walks.{counts_more, counts_same}
use Rattle.mds_keeper.proofs.day_merge.DayMerge.take.Goals as goal

-- an error meets what is ensured of Ok
not_ok : {T E : Type 0} (r : Result T E) (P : Type 0) → IsErr r → OnOk r P
not_ok (Ok x) P h = absurd (cc (h))
not_ok (Err e) P h = tt

-- what holds of each such error
if_err : {T E : Type 0} {Q : E → Type 0} (r : Result T E) (P : E → Type 0) → IsErrAnd r Q → ((e : E) → Q e → P e) → IfErr r P
if_err (Ok x) P h f = tt
if_err (Err e) P h f = f e h

-- Ok isn't an error
no_err : {T E P : Type 0} (x : T) (e : E) → Ok x ≡ Err e → P
no_err x e h = absurd (cc)

pub returns-in-Some-clause-refused : goal.returns-in-Some-clause-refused
returns-in-Some-clause-refused c =
    rw c.at_line.ensures (
      refl,
      refl,
      head_end _ _ _ _ c.self.view_is c.self.invariant.0 c.is_lawful.ensures c.args.claim _ c.known_length-known.ensures c.in-Some.code c.in-Some.ensures.some,
    )

pub difference-requires-clause-as_many : goal.difference-requires-clause-as_many
difference-requires-clause-as_many c =
    as_many _ _ _ c.self.invariant.0 c.is_lawful.ensures c.args.claim _ c.known_length-known.ensures c.in_default.ensures.none _ _
    (claimed_entry_in c.self.inside.book _ c.args.claim.update c.in-Some-get.kept.now c.in-Some-get.ensures.some)
    ∙ sym c.args.claim.whole

pub difference-requires-clause-whole : goal.difference-requires-clause-whole
difference-requires-clause-whole c = λ row m of_it. c.args.claim.whole
    ∙ ap count_of (sym (rows_of_claim _ _ _ c.self.invariant.0 c.is_lawful.ensures c.args.claim _ c.known_length-known.ensures c.in_default.ensures.none row m of_it))

pub difference-requires-clause-kept : goal.difference-requires-clause-kept
difference-requires-clause-kept c = λ none.
    let size = size_is _ _ _ c.self.invariant.0 c.is_lawful.ensures c.args.claim _ c.known_length-known.ensures c.in_default.ensures.none _ _
    (claimed_entry_in c.self.inside.book _ c.args.claim.update c.in-Some-get.kept.now c.in-Some-get.ensures.some) in (
      _,
      subst (λ n. AreOfLength c.self.inside.book n c.args.claim.update) (sym size)
          (rows_of_claim _ _ _ c.self.invariant.0 c.is_lawful.ensures c.args.claim _ c.known_length-known.ensures c.in_default.ensures.none),
      c.self.invariant.1 c.args.claim.update c.in-Some-get.kept.now c.in-Some-get.ensures.some none,
    )

pub returns-in-Some-difference-clause-refused : goal.returns-in-Some-difference-clause-refused
returns-in-Some-difference-clause-refused c =
    let m = claimed_entry_in c.self.inside.book _ c.args.claim.update c.in-Some-get.kept.now c.in-Some-get.ensures.some in
    let many = as_many _ _ _ c.self.invariant.0 c.is_lawful.ensures c.args.claim _ c.known_length-known.ensures c.in_default.ensures.none _ _ m
    ∙ sym c.args.claim.whole in
    rw c.conflict.ensures (
      refl,
      refl,
      claim_end _ _ _ _ c.self.view_is c.self.invariant.0 c.is_lawful.ensures c.args.claim _ c.known_length-known.ensures c.in_default.ensures.none
          _ _ m many c.in-Some-difference.interval c.in-Some-difference.ensures.some,
    )

pub returns-in-Some-get-clause-ok : goal.returns-in-Some-get-clause-ok
returns-in-Some-get-clause-ok c =
    let m = claimed_entry_in c.self.inside.book _ c.args.claim.update c.in-Some-get.kept.now c.in-Some-get.ensures.some in
    let k = known_end _ _ _ _ c.self.view_is c.self.invariant.0 c.is_lawful.ensures c.args.claim _ c.known_length-known.ensures c.in_default.ensures.none
    _ _ m c.in_default-difference.ensures.none in
    (refl, k.0, k.1)

pub count_held-requires-clause-whole : goal.count_held-requires-clause-whole
count_held-requires-clause-whole c = λ row m of_it. c.args.claim.whole
    ∙ ap count_of (sym (rows_of_claim _ _ _ c.self.invariant.0 c.is_lawful.ensures c.args.claim _ c.known_length-known.ensures c.in_default.ensures.none row m of_it))

pub returns-in-Err-clause-refused : goal.returns-in-Err-clause-refused
returns-in-Err-clause-refused c =
    let absent = absent_claimed c.self.inside.book _ c.args.claim.update c.in_default-get.ensures.none in
    let rows = rows_of_claim _ _ _ c.self.invariant.0 c.is_lawful.ensures c.args.claim _ c.known_length-known.ensures c.in_default.ensures.none in
    rw c.conflict-in-Err.ensures (
      refl,
      refl,
      book_end _ _ _ _ c.self.view_is c.self.invariant.0 c.is_lawful.ensures c.args.claim _ c.known_length-known.ensures c.in_default.ensures.none
          absent c.in-Err.interval (c.in-Err.ensures c.args.claim.length rows).conflict,
    )

pub overflow_sub-fresh : goal.overflow_sub-fresh
overflow_sub-fresh c =
    let rows = rows_of_claim _ _ _ c.self.invariant.0 c.is_lawful.ensures c.args.claim _ c.known_length-known.ensures c.in_default.ensures.none in
    omega (arith, (c.in-Ok.ensures c.args.claim.length rows).few, c.len.ensures.value)

pub returns-in_default-checked_add-clause-agrees : goal.returns-in_default-checked_add-clause-agrees
returns-in_default-checked_add-clause-agrees c = λ _.
    let absent = absent_claimed c.self.inside.book _ c.args.claim.update c.in_default-get.ensures.none in
    let rows = rows_of_claim _ _ _ c.self.invariant.0 c.is_lawful.ensures c.args.claim _ c.known_length-known.ensures c.in_default.ensures.none in
    lacking_end _ _ _ _ c.self.view_is c.self.invariant.0 c.is_lawful.ensures c.args.claim _ c.known_length-known.ensures c.in_default.ensures.none
    absent (c.in-Ok.ensures c.args.claim.length rows).suits

pub returns-in_default-checked_add-clause-unsaid : goal.returns-in_default-checked_add-clause-unsaid
returns-in_default-checked_add-clause-unsaid c = λ _.
    unsaid_end _ _ _ _ c.self.view_is c.args.claim.update (absent_claimed c.self.inside.book _ c.args.claim.update c.in_default-get.ensures.none)

pub returns-in_default-checked_add-2-clause-agrees : goal.returns-in_default-checked_add-2-clause-agrees
returns-in_default-checked_add-2-clause-agrees c = λ _.
    let absent = absent_claimed c.self.inside.book _ c.args.claim.update c.in_default-get.ensures.none in
    let rows = rows_of_claim _ _ _ c.self.invariant.0 c.is_lawful.ensures c.args.claim _ c.known_length-known.ensures c.in_default.ensures.none in
    lacking_end _ _ _ _ c.self.view_is c.self.invariant.0 c.is_lawful.ensures c.args.claim _ c.known_length-known.ensures c.in_default.ensures.none
    absent (c.in-Ok.ensures c.args.claim.length rows).suits

pub returns-in_default-checked_add-2-clause-unsaid : goal.returns-in_default-checked_add-2-clause-unsaid
returns-in_default-checked_add-2-clause-unsaid c = λ _.
    unsaid_end _ _ _ _ c.self.view_is c.args.claim.update (absent_claimed c.self.inside.book _ c.args.claim.update c.in_default-get.ensures.none)

pub kept_of-readings-requires-clause-whole : goal.kept_of-readings-requires-clause-whole
kept_of-readings-requires-clause-whole c = λ row m of_it. c.args.claim.whole
    ∙ ap count_of (sym (rows_of_claim _ _ _ c.self.invariant.0 c.is_lawful.ensures c.args.claim _ c.known_length-known.ensures c.in_default.ensures.none row m of_it))

pub invariant_of-self : goal.invariant_of-self
invariant_of-self c =
    let same = c.in_err-insert.ensures.stays in
    let of_book = ap (claimed_entries c.self.inside.book) same in (
      merge_same _ _ _ _ of_book c.self.invariant.0,
      subst (AreInBook c.self.inside.book) (sym same) c.self.invariant.1,
      counts_same _ _ _ _ _ of_book c.self.invariant.2,
    )

pub returns-in_err-insert-clause-agrees : goal.returns-in_err-insert-clause-agrees
returns-in_err-insert-clause-agrees c = λ _.
    let absent = absent_claimed c.self.inside.book _ c.args.claim.update c.in_default-get.ensures.none in
    let rows = rows_of_claim _ _ _ c.self.invariant.0 c.is_lawful.ensures c.args.claim _ c.known_length-known.ensures c.in_default.ensures.none in
    lacking_end _ _ _ _ c.self.view_is c.self.invariant.0 c.is_lawful.ensures c.args.claim _ c.known_length-known.ensures c.in_default.ensures.none
    absent (c.in-Ok.ensures c.args.claim.length rows).suits

pub returns-in_err-insert-clause-unsaid : goal.returns-in_err-insert-clause-unsaid
returns-in_err-insert-clause-unsaid c = λ _.
    unsaid_end _ _ _ _ c.self.view_is c.args.claim.update (absent_claimed c.self.inside.book _ c.args.claim.update c.in_default-get.ensures.none)

pub invariant_of-self-2 : goal.invariant_of-self-2
invariant_of-self-2 c =
    let absent = absent_claimed c.self.inside.book _ c.args.claim.update c.in_default-get.ensures.none in
    let known = c.known_length-known.ensures in
    let suits = c.in_default.ensures.none in
    let rows = rows_of_claim _ _ _ c.self.invariant.0 c.is_lawful.ensures c.args.claim _ known suits in
    let held = c.in-Ok.ensures c.args.claim.length rows in
    let same = c.kept_of-readings.ensures.same c.args.claim.length rows in
    let put = c.in_ok-insert.ensures.done in
    let comes = comes_in c.self.inside.book _ _ c.args.claim.update _ put _ same absent in
    let some : 1 ≤ count_of c.args.claim.length =
    some_count _ c.args.claim.length (subst (λ n. n * c.args.claim.length ≡ 1440) c.count.ensures.value c.count.ensures.whole) in (
      merge_more _ _ _ _ c.self.invariant.0 c.is_lawful.ensures c.args.claim _ known suits absent comes held.suits c.args.claim.whole some,
      still_in_book c.self.inside.book _ _ c.args.claim.update _ put (c.kept_of-readings.ensures.kept c.args.claim.length rows) c.self.invariant.1,
      counts_more _ c.args.claim.update _ _ _ put _ same _ _ _ _ _ _ c.self.invariant.2 held.held
          (omega (arith, held.few, c.len.ensures.value)) c.in-Some-checked_add.ensures.1 c.in-Some-checked_add-2.ensures.1,
    )

pub returns-clause-ok : goal.returns-clause-ok
returns-clause-ok c =
    let absent = absent_claimed c.self.inside.book _ c.args.claim.update c.in_default-get.ensures.none in
    let rows = rows_of_claim _ _ _ c.self.invariant.0 c.is_lawful.ensures c.args.claim _ c.known_length-known.ensures c.in_default.ensures.none in
    let comes = comes_in c.self.inside.book _ _ c.args.claim.update _ c.in_ok-insert.ensures.done _
    (c.kept_of-readings.ensures.same c.args.claim.length rows) absent in
    taken_end _ _ _ _ c.self.view_is c.self.invariant.0 c.is_lawful.ensures c.args.claim _ c.known_length-known.ensures c.in_default.ensures.none absent _ comes
    (c.in-Ok.ensures c.args.claim.length rows).suits

pub returns-in_err-insert-clause-ok : goal.returns-in_err-insert-clause-ok
returns-in_err-insert-clause-ok c = not_ok c.from_residual.result _ c.from_residual.ensures.0

pub returns-in_err-insert-clause-refused : goal.returns-in_err-insert-clause-refused
returns-in_err-insert-clause-refused c = if_err c.from_residual.result _ c.from_residual.ensures.1 (λ stop is. rw is tt)

pub returns-in_err-insert-clause-kept : goal.returns-in_err-insert-clause-kept
returns-in_err-insert-clause-kept c = if_err c.from_residual.result _ c.from_residual.ensures.1 (λ stop is.
    ap (λ claimed. merge_value c.self.inside.book c.self.inside.unit (claimed_entries c.self.inside.book claimed)) c.in_err-insert.ensures.stays
    ∙ c.self.view_is)

pub kept_of-readings-requires-clause-held : goal.kept_of-readings-requires-clause-held
kept_of-readings-requires-clause-held c = λ m of_it. (c.in-Ok.ensures m of_it).held

pub insert-requires : goal.insert-requires
insert-requires c = c.in_default-get.ensures.none

pub returns-clause-agrees : goal.returns-clause-agrees
returns-clause-agrees c = λ is. no_err _ _ is

pub returns-clause-unsaid : goal.returns-clause-unsaid
returns-clause-unsaid c = λ is. no_err _ _ is
