use Rattle.std.proofs.Common.{◌≡◌, length, subst, arith}
use Rattle.std.specs.List.{AllPairs}
use Rattle.mds_keeper.specs.BookRows.{IsBefore}
use Rattle.mds_keeper.specs.Claims.{held_count}
use Rattle.mds_keeper.proofs.KeptReadings.{kept_in_book, kept_same}
use Rattle.mds_keeper.proofs.day_merge.kept_of.Goals as goal

pub returns-then-has_all-clause-same : goal.returns-then-has_all-clause-same
returns-then-has_all-clause-same c = λ minutes of_length.
    let held = c.requires.held minutes of_length in
    let all : held_count c.args.book.now minutes c.args.update 1 c.args.readings ≡ length c.args.readings =
    omega (arith, held, c.if-has_all.true, c.len.ensures.value) in
    kept_same _ minutes _ _ c.is_lawful.ensures (subst (AllPairs IsBefore) c.lent_rows.ensures.value c.lent_rows.ensures.ascending) c.requires.whole all

pub returns-then-has_all-clause-kept : goal.returns-then-has_all-clause-kept
returns-then-has_all-clause-kept c = λ minutes of_length _.
    let held = c.requires.held minutes of_length in
    let all : held_count c.args.book.now minutes c.args.update 1 c.args.readings ≡ length c.args.readings =
    omega (arith, held, c.if-has_all.true, c.len.ensures.value) in
    kept_in_book _ minutes _ _ c.is_lawful.ensures (subst (AllPairs IsBefore) c.lent_rows.ensures.value c.lent_rows.ensures.ascending) c.requires.whole all
