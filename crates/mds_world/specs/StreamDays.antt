-- The order of days of streams: by the NMI, then by the suffix, and then by the day (profile).
use Rattle.std.specs.Cmp.{IsTotalOrder, nat_cmp_total, on_total, then_total}
use Rattle.std.specs.Cmp.Lexicographic.{nat_list_cmp_total, slice_cmp}
use Rattle.std.specs.Ordering.{nat_cmp, ordering_then}
use Rattle.std.specs.declared.cmp.Ordering.{Ordering}
use Rattle.mds_world.specs.declared.facts.StreamDay.{StreamDay}

abbrev pub stream_day_cmp : StreamDay → StreamDay → Ordering
stream_day_cmp a b =
    ordering_then
    (ordering_then (slice_cmp nat_cmp a.stream.nmi b.stream.nmi) (slice_cmp nat_cmp a.stream.suffix b.stream.suffix))
    (nat_cmp a.day b.day)

-- it is a total order
pub stream_day_total : IsTotalOrder stream_day_cmp
stream_day_total =
    then_total
    (then_total (on_total (λ (d : StreamDay). d.stream.nmi) nat_list_cmp_total) (on_total (λ (d : StreamDay). d.stream.suffix) nat_list_cmp_total))
    (on_total (λ (d : StreamDay). d.day) nat_cmp_total)
