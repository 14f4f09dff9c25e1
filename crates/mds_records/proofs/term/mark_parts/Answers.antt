use Rattle.std.proofs.Common.{Option, option_map, sym, ◌∙◌, ap}
use Rattle.mds_marks.specs.BorrowedMarks.{mark_value}
use Rattle.mds_marks.specs.declared.mark.MarkRef.{MarkRef}
use Rattle.mds_records.proofs.Terms.{parts_of}
use Rattle.mds_records.proofs.term.mark_parts.Goals as goal

pub returns-in-Some-clause-quality : goal.returns-in-Some-clause-quality
returns-in-Some-clause-quality c =
    (parts_of _ _ _ (mark_value c.in-Some.mark) (ap (λ (o : Option MarkRef). option_map mark_value o) (sym c.in-Some.is) ∙ c.requires)).quality_is

pub returns-in-Some-clause-code : goal.returns-in-Some-clause-code
returns-in-Some-clause-code c =
    (parts_of _ _ _ (mark_value c.in-Some.mark) (ap (λ (o : Option MarkRef). option_map mark_value o) (sym c.in-Some.is) ∙ c.requires)).has_code

pub returns-in-Some-clause-text : goal.returns-in-Some-clause-text
returns-in-Some-clause-text c =
    (parts_of _ _ _ (mark_value c.in-Some.mark) (ap (λ (o : Option MarkRef). option_map mark_value o) (sym c.in-Some.is) ∙ c.requires)).has_text
