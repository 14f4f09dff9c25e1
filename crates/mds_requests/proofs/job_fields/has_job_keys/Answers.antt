use Rattle.std.proofs.Common.{rules, ◌≡◌, [], slice_index_or, string_bytes, ◌∙◌, refl}
use Rattle.mds_requests.proofs.JobKeys.{behind_first, same_next, same_start}
use Rattle.mds_requests.proofs.job_fields.has_job_keys.Goals as goal

pub loop-key-init : goal.loop-key-init
loop-key-init c = same_start c.args.value.now c.in-Some.members.now.entries _ _ c.in-Some.ensures (c.into_iter-key-iterator.ensures.into_iter_gives ∙ c.keys-key-items.ensures.rest) (rw c.as_slice-left.ensures refl)

pub loop-key-preserved : goal.loop-key-preserved
loop-key-preserved c =
    let same : string_bytes c.in-Some-key.key.now ≡ (slice_index_or c.loop-key.left.now 0 (record { ref_ptr = (0, 0); now = [] })).now = search rules in
    let next = same_next c.args.value.now c.in-Some-key.key.now _ c.loop-key.key-iterator c.next.new.self c.loop-key.left.now c.in-Some-key.ensures.steps c.in-len1-up.len_at_least same c.loop-key.invariant in
    rw behind_first next
