use Rattle.std.proofs.Common.{◌∙◌, sym}
use Rattle.mds_requests.proofs.words.PathWords.of.Goals as goal

pub invariant_of-result : goal.invariant_of-result
invariant_of-result c =
    let a = c.first_part-front.ensures.rest in
    let b = c.first_part-version.ensures.rest in
    let d = c.first_part-name.ensures.rest in
    let nmi = c.first_part-nmi.ensures in
    let suffix = c.first_part-suffix.ensures in
    let date = c.first_part-date.ensures in
    let interval = c.first_part-interval.ensures in
    record {
      third = nmi.first ∙ sym (a 2 ∙ b 1 ∙ d 0);
      fourth = suffix.first ∙ sym (a 3 ∙ b 2 ∙ d 1 ∙ nmi.rest 0);
      fifth = date.first ∙ sym (a 4 ∙ b 3 ∙ d 2 ∙ nmi.rest 1 ∙ suffix.rest 0);
      sixth = interval.first ∙ sym (a 5 ∙ b 4 ∙ d 3 ∙ nmi.rest 2 ∙ suffix.rest 1 ∙ date.rest 0);
    }
