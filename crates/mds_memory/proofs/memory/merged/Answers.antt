use Rattle.std.proofs.Common.{◌∙◌, sym}
use Rattle.std.proofs.lemmas.List.{get_or_read}
use Rattle.mds_memory.proofs.Streams.{empty_below, end_of_a, end_of_b, first_and_rest, merge_equal, merge_greater, merge_less, merge_start, less_of_a, less_of_b, less_of_both}
use Rattle.mds_memory.proofs.memory.merged.Goals as goal

pub streams-init : goal.streams-init
streams-init c = merge_start c.args.a.now c.args.b.now _ c.requires.0 c.requires.1 c.new-streams.ensures.items

pub returns-in_default-left_b-clause-each : goal.returns-in_default-left_b-clause-each
returns-in_default-left_b-clause-each c =
    (end_of_b c.args.a.now c.args.b.now _ _ _ _ c.streams.invariant (empty_below _ c.in_default-left_b.len_below) c.in_ok-extend_from_slice.ensures.items).each

pub returns-in_default-left_b-clause-ascending : goal.returns-in_default-left_b-clause-ascending
returns-in_default-left_b-clause-ascending c =
    (end_of_b c.args.a.now c.args.b.now _ _ _ _ c.streams.invariant (empty_below _ c.in_default-left_b.len_below) c.in_ok-extend_from_slice.ensures.items).ascending

pub streams-smaller-in-Less : goal.streams-smaller-in-Less
streams-smaller-in-Less c =
    less_of_a c.streams.left_a.now c.streams.left_b.now _ _
    (first_and_rest c.streams.left_a.now _ c.in-len1-up.len_at_least (get_or_read _ _ _ c.in-len1-up.len_at_least c.x-item.is))

pub streams-preserved-in-Less : goal.streams-preserved-in-Less
streams-preserved-in-Less c =
    merge_less c.args.a.now c.args.b.now c.streams.left_a.now c.streams.left_b.now c.streams.streams.items _ c.x-item.result c.y-item.result _ _
    c.streams.invariant
    (first_and_rest c.streams.left_a.now _ c.in-len1-up.len_at_least (get_or_read _ _ _ c.in-len1-up.len_at_least c.x-item.is))
    (first_and_rest c.streams.left_b.now _ c.in-len1-up-left_b.len_at_least (get_or_read _ _ _ c.in-len1-up-left_b.len_at_least c.y-item.is))
    (sym c.cmp.ensures ∙ c.in-Less.is) c.in_ok-push-in-Less.ensures.items

pub streams-smaller-in-Greater : goal.streams-smaller-in-Greater
streams-smaller-in-Greater c =
    less_of_b c.streams.left_a.now c.streams.left_b.now _ _
    (first_and_rest c.streams.left_b.now _ c.in-len1-up-left_b.len_at_least (get_or_read _ _ _ c.in-len1-up-left_b.len_at_least c.y-item.is))

pub streams-preserved-in-Greater : goal.streams-preserved-in-Greater
streams-preserved-in-Greater c =
    merge_greater c.args.a.now c.args.b.now c.streams.left_a.now c.streams.left_b.now c.streams.streams.items _ c.x-item.result c.y-item.result _ _
    c.streams.invariant
    (first_and_rest c.streams.left_a.now _ c.in-len1-up.len_at_least (get_or_read _ _ _ c.in-len1-up.len_at_least c.x-item.is))
    (first_and_rest c.streams.left_b.now _ c.in-len1-up-left_b.len_at_least (get_or_read _ _ _ c.in-len1-up-left_b.len_at_least c.y-item.is))
    (sym c.cmp.ensures ∙ c.in-Greater.is) c.in_ok-push-in-Greater.ensures.items

pub streams-smaller : goal.streams-smaller
streams-smaller c =
    less_of_both c.streams.left_a.now c.streams.left_b.now _ _ _ _
    (first_and_rest c.streams.left_a.now _ c.in-len1-up.len_at_least (get_or_read _ _ _ c.in-len1-up.len_at_least c.x-item.is))
    (first_and_rest c.streams.left_b.now _ c.in-len1-up-left_b.len_at_least (get_or_read _ _ _ c.in-len1-up-left_b.len_at_least c.y-item.is))

pub streams-preserved : goal.streams-preserved
streams-preserved c =
    merge_equal c.args.a.now c.args.b.now c.streams.left_a.now c.streams.left_b.now c.streams.streams.items _ c.x-item.result c.y-item.result _ _
    c.streams.invariant
    (first_and_rest c.streams.left_a.now _ c.in-len1-up.len_at_least (get_or_read _ _ _ c.in-len1-up.len_at_least c.x-item.is))
    (first_and_rest c.streams.left_b.now _ c.in-len1-up-left_b.len_at_least (get_or_read _ _ _ c.in-len1-up-left_b.len_at_least c.y-item.is))
    (sym c.cmp.ensures ∙ c.in-Equal.is) c.in_ok-push-in-Equal.ensures.items

pub returns-clause-each : goal.returns-clause-each
returns-clause-each c =
    (end_of_a c.args.a.now c.args.b.now _ _ _ _ c.streams.invariant (empty_below _ c.in_default.len_below) c.in_ok-extend_from_slice-2.ensures.items).each

pub returns-clause-ascending : goal.returns-clause-ascending
returns-clause-ascending c =
    (end_of_a c.args.a.now c.args.b.now _ _ _ _ c.streams.invariant (empty_below _ c.in_default.len_below) c.in_ok-extend_from_slice-2.ensures.items).ascending
