use Rattle.std.proofs.Common.{◌∷◌, [], sym, ap, ◌∙◌}
use Rattle.mds_calendar.specs.Calendar.{day_of}
use Rattle.mds_names.specs.Names.{is_comma}
use Rattle.mds_terms.specs.Parts.{joined}
use Rattle.std.specs.List.{slice_split}
use Rattle.mds_terms.proofs.ReadBack.{details_read, details_split, one_optional}
use Rattle.mds_terms.proofs.details.details_read_back.Goals as goal

pub returns-clause-pieces : goal.returns-clause-pieces
returns-clause-pieces c =
    λ details text h t. (t.0, ap (slice_split is_comma) t.2 ∙ details_split details t.0 h t.1, details_read details t.0 h t.1)

pub returns-clause-only : goal.returns-clause-only
returns-clause-only c =
    λ details a b t u.
    t.2 ∙ (ap (λ next. joined (details.configuration ∷ details.register ∷ details.datastream ∷ details.meter ∷ next ∷ [])) (one_optional day_of c.one_day_text.ensures t.0 u.0 details.next t.1 u.1) ∙ sym u.2)
