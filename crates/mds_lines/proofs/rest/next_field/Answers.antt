use Rattle.std.proofs.Common.{arith, sym, ap, ◌∙◌, drop}
use Rattle.mds_lines.specs.Lines.{fields_of}
use Rattle.mds_lines.specs.Rest.{first_of}
use Rattle.mds_lines.proofs.Rests.{one_field, more_fields}
use Rattle.mds_lines.proofs.rest.next_field.Goals as goal

pub returns-else-length-text-clause-taken : goal.returns-else-length-text-clause-taken
returns-else-length-text-clause-taken c =
    rw c.in-Some.is (sym (ap first_of (more_fields _ _ c.field_length-length.ensures.value (omega arith))))

pub returns-else-length-text-clause-left : goal.returns-else-length-text-clause-left
returns-else-length-text-clause-left c =
    rw c.in-Some.is (ap fields_of c.split_at.ensures.back ∙ sym (ap (drop 1) (more_fields _ _ c.field_length-length.ensures.value (omega arith))))

pub returns-then-length-text-clause-taken : goal.returns-then-length-text-clause-taken
returns-then-length-text-clause-taken c =
    rw c.in-Some.is (sym (ap first_of (one_field _ _ c.field_length-length.ensures.value c.if-length-text.true)))

pub returns-then-length-text-clause-left : goal.returns-then-length-text-clause-left
returns-then-length-text-clause-left c =
    rw c.in-Some.is (sym (ap (drop 1) (one_field _ _ c.field_length-length.ensures.value c.if-length-text.true)))
