use Rattle.std.proofs.Common.{rules}
use Rattle.std.proofs.lemmas.List.{get_or_read}
use Rattle.mds_keeper.proofs.Walks.{first_and_rest, none_left, seeks_end, seeks_found, seeks_on, seeks_past, seeks_start}
use Rattle.mds_keeper.proofs.day_merge.reading_at.Goals as goal

pub loop-left-init : goal.loop-left-init
loop-left-init c = seeks_start _ _ _ c.requires

pub returns-then-row-interval-clause-none : goal.returns-then-row-interval-clause-none
returns-then-row-interval-clause-none c =
    seeks_past _ _ _ _ c.row-item.result _
    (first_and_rest _ _ c.in-len1-up.len_at_least (get_or_read _ _ _ c.in-len1-up.len_at_least c.row-item.is c.row-item.result)) c.loop-left.invariant
    c.if-row-interval.true

pub returns-then-eq-clause-some : goal.returns-then-eq-clause-some
returns-then-eq-clause-some c =
    seeks_found _ _ _ _ c.row-item.result _
    (first_and_rest _ _ c.in-len1-up.len_at_least (get_or_read _ _ _ c.in-len1-up.len_at_least c.row-item.is c.row-item.result)) c.loop-left.invariant
    (search (rules, c.if-row-interval.false)) (search (rules, c.if-eq.true, c.eq.ensures))

pub loop-left-preserved : goal.loop-left-preserved
loop-left-preserved c =
    seeks_on _ _ _ _ c.row-item.result _
    (first_and_rest _ _ c.in-len1-up.len_at_least (get_or_read _ _ _ c.in-len1-up.len_at_least c.row-item.is c.row-item.result)) c.loop-left.invariant
    (search (rules, c.if-eq.false, c.eq.ensures))

pub returns-clause-none : goal.returns-clause-none
returns-clause-none c = seeks_end _ _ _ _ (none_left _ c.in_default.len_below) c.loop-left.invariant
