use Rattle.std.proofs.Common.{map, ◌∙◌, ap, Bor, Vec, Global, List, ℕ}
use Rattle.mds_requests.specs.QuerySteps.{texts_of}
use Rattle.mds_requests.proofs.Nothing.{bad_export}
use Rattle.mds_requests.proofs.exports.export_asked.Goals as goal

pub returns-in_default : goal.returns-in_default
returns-in_default c = λ nmi from to moment sender receiver says. absurd (c.in_default.ensures nmi from to moment sender receiver says)

pub returns-in-Err-Bad : goal.returns-in-Err-Bad
returns-in-Err-Bad c =
    let e = c.in-Some.arguments in
    let bad = rw c.in-Err-Bad.field-0-is at c.in-Err-Bad.ensures in
    let texts = ap (λ (v : Vec (Bor (List ℕ)) Global). map (λ suffix. suffix.now) v.items) c.in-Some.ensures.1 ∙ c.in_ok-suffixes.ensures in
    λ nmi from to moment sender receiver says. (
      c.in-Err-Bad.field-0-0,
      bad_export (texts_of c.args.query.now) (map (λ suffix. suffix.now) e.suffixes.items) e.nmi.now e.from.now e.to.now e.moment.now e.sender.now e.receiver.now
          c.in-Err-Bad.field-0-0 c.in-Some.ensures.0 texts bad nmi from to moment sender receiver says,
    )
