use Rattle.std.proofs.Common.{◌≡◌, ◌∷◌, [], sym, ap, ◌∙◌}
use Rattle.mds_calendar.specs.Calendar.{moment_of}
use Rattle.mds_names.specs.Names.{is_comma}
use Rattle.mds_terms.specs.Event.{trans_text}
use Rattle.mds_terms.specs.Parts.{joined}
use Rattle.std.specs.List.{slice_split}
use Rattle.mds_terms.proofs.ReadBack.{event_reads, event_splits, one_optional}
use Rattle.mds_terms.proofs.event.events_read_back.Goals as goal

pub returns-clause-pieces : goal.returns-clause-pieces
returns-clause-pieces c =
    λ event text h t.
    (t.0, t.1, ap (slice_split is_comma) t.4 ∙ event_splits event t.0 t.1 h t.2 t.3, event_reads event t.0 t.1 h t.2 t.3)

pub returns-clause-only : goal.returns-clause-only
returns-clause-only c =
    λ event a b t u.
    let day : t.0 ≡ u.0 = c.one_day_text.ensures t.0 u.0 event.day t.2 u.2 in
    let moment : t.1 ≡ u.1 = one_optional moment_of c.one_moment_text.ensures t.1 u.1 event.moment t.3 u.3 in
    t.4 ∙ (ap (λ d. joined (event.nmi ∷ event.suffix ∷ d ∷ trans_text event.trans ∷ event.ticket ∷ t.1 ∷ event.reading ∷ [])) day
    ∙ (ap (λ m. joined (event.nmi ∷ event.suffix ∷ u.0 ∷ trans_text event.trans ∷ event.ticket ∷ m ∷ event.reading ∷ [])) moment ∙ sym u.4))
