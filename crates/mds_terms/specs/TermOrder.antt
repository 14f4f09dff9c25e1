-- The orders of details and events are total, so that they can be members of finite sets.
use Rattle.std.specs.Cmp.{IsTotalOrder, then_total, on_total, nat_cmp_total}
use Rattle.std.specs.Cmp.Lexicographic.{nat_list_cmp_total, options_total}
use Rattle.mds_terms.specs.Details.{details_cmp}
use Rattle.mds_terms.specs.Event.{event_cmp}

pub details_total : IsTotalOrder details_cmp
unfolding details_cmp
details_total =
    then_total (on_total (λ d. d.configuration) nat_list_cmp_total)
    (then_total (on_total (λ d. d.register) nat_list_cmp_total)
    (then_total (on_total (λ d. d.datastream) nat_list_cmp_total)
    (then_total (on_total (λ d. d.meter) nat_list_cmp_total)
    (on_total (λ d. d.next) (options_total nat_cmp_total)))))

pub event_total : IsTotalOrder event_cmp
unfolding event_cmp
event_total =
    then_total (on_total (λ e. e.nmi) nat_list_cmp_total)
    (then_total (on_total (λ e. e.suffix) nat_list_cmp_total)
    (then_total (on_total (λ e. e.day) nat_cmp_total)
    (then_total (on_total (λ e. e.trans) (options_total nat_cmp_total))
    (then_total (on_total (λ e. e.ticket) nat_list_cmp_total)
    (then_total (on_total (λ e. e.moment) (options_total nat_cmp_total))
    (on_total (λ e. e.reading) nat_list_cmp_total))))))
