use Rattle.std.proofs.lemmas.List.{get_or_read}
use Rattle.mds_keeper.proofs.Walks.{first_and_rest, none_left, passes_end, passes_on, passes_start, passes_stop}
use Rattle.mds_keeper.proofs.day_merge.rows_from.Goals as goal

pub loop-left-init : goal.loop-left-init
loop-left-init c = passes_start _ _ c.requires

pub returns-then-interval-row : goal.returns-then-interval-row
returns-then-interval-row c =
    passes_stop _ _ _ c.row-item.result _
    (first_and_rest _ _ c.in-len1-up.len_at_least (get_or_read _ _ _ c.in-len1-up.len_at_least c.row-item.is c.row-item.result)) c.if-interval-row.true
    c.loop-left.invariant

pub loop-left-preserved : goal.loop-left-preserved
loop-left-preserved c =
    passes_on _ _ _ c.row-item.result _
    (first_and_rest _ _ c.in-len1-up.len_at_least (get_or_read _ _ _ c.in-len1-up.len_at_least c.row-item.is c.row-item.result)) c.if-interval-row.false
    c.loop-left.invariant

pub returns : goal.returns
returns c = passes_end _ _ _ (none_left _ c.in_default.len_below) c.loop-left.invariant
