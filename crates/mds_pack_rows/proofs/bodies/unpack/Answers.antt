use Rattle.std.proofs.Common.{◌≡◌, Some, ap, option_map, ◌∙◌}
use Rattle.std.proofs.lemmas.Result.{IfOk-weaker}
use Rattle.mds_calendar.specs.Length.{count_of}
use Rattle.mds_packs.specs.Unpacked.{unpacked}
use Rattle.mds_pack_rows.proofs.BodyLemmas.{counted_as}
use Rattle.mds_pack_rows.proofs.bodies.unpack.Goals as goal

pub returns-in_default-clause-only : goal.returns-in_default-clause-only
returns-in_default-clause-only c minutes readings lawful read =
    let says : c.count_in.result ≡ Some (count_of minutes) = c.count_in.ensures ∙ counted_as (count_of minutes) c.args.body.now readings read in
    absurd (c.in_default.not-Some (count_of minutes) says)

pub returns-in_default-length_of-clause-only : goal.returns-in_default-length_of-clause-only
returns-in_default-length_of-clause-only c minutes readings lawful read =
    let says : Some c.in-Some.count ≡ Some (count_of minutes) = c.in-Some.ensures ∙ counted_as (count_of minutes) c.args.body.now readings read in
    absurd (c.in_default-length_of.ensures.none minutes lawful (let e = says in cc))

pub returns-clause-says : goal.returns-clause-says
returns-clause-says c = c.unpack_for.ensures.says

pub returns-clause-only : goal.returns-clause-only
returns-clause-only c =
    let body = c.args.body.now in
    IfOk-weaker c.unpack_for.result (λ o. option_map (λ v. v.items) o ≡ unpacked (count_of c.in-Some-length_of.length) body) _
    (λ o value minutes readings lawful read.
    let says : Some c.in-Some.count ≡ Some (count_of minutes) = c.in-Some.ensures ∙ counted_as (count_of minutes) body readings read in
    let same : count_of c.in-Some-length_of.length ≡ count_of minutes = c.in-Some-length_of.ensures.some ∙ (let e = says in cc) in
    value ∙ ap (λ n. unpacked n body) same ∙ read)
    c.unpack_for.ensures.value
