use Rattle.std.specs.Prelude.{cond}
use Rattle.std.proofs.Common.{Some, sym, ap, ◌∙◌}
use Rattle.mds_keeper.proofs.Rows.{same_some}
use Rattle.mds_keeper.proofs.Walks.{count_none, count_one, count_other}
use Rattle.mds_keeper.proofs.day_merge.count_at.Goals as goal

pub returns-in_default-clause-some : goal.returns-in_default-clause-some
returns-in_default-clause-some c = λ minutes reading of_length e.
    let p = count_none _ _ minutes _ _ c.requires.from reading c.in_default.ensures.none in
    (ap (λ t. cond t 1 0) (sym p.0), p.1)

pub returns-then-is_at-clause-some : goal.returns-then-is_at-clause-some
returns-then-is_at-clause-some c = λ minutes reading of_length e.
    let there = c.in-Some.ensures.some in
    let p = count_one _ _ minutes _ _ c.requires.from of_length there.0 reading c.in-Some.kept.now c.is_lawful.ensures.agrees there.1
    (same_some c.in-Some.kept.now reading (sym (c.is_at.ensures.0 c.if-is_at.true) ∙ e)) in
    (ap (λ t. cond t 1 0) (sym p.0), p.1)

pub returns-else-is_at-clause-none : goal.returns-else-is_at-clause-none
returns-else-is_at-clause-none c = λ minutes reading of_length e.
    let there = c.in-Some.ensures.some in
    count_other _ _ minutes _ _ c.requires.from of_length there.0 reading c.in-Some.kept.now there.1
    (λ same. let t = c.is_at.ensures.1 (e ∙ ap Some (sym same)) in let f = c.if-is_at.false in cc)
