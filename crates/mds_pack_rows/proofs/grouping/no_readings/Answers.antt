use Rattle.std.proofs.Common.{◌≡◌, [], ◌∷◌, ◌++◌, None, length, replicate, sym, ap, ◌∙◌, arith}
use Rattle.std.proofs.Math.Nat.{div-le_self}
use Rattle.std.proofs.lemmas.List.{length-replicate, replicate-append-replicate}
use Rattle.mds_pack_rows.specs.PackFacts.{minutes_of}
use Rattle.mds_pack_rows.proofs.BodyLemmas.{length_back}
use Rattle.mds_pack_rows.proofs.grouping.no_readings.Goals as goal

pub loop-preserved : goal.loop-preserved
loop-preserved c =
    c.in_ok-push.ensures.items ∙ ap (λ readings. readings ++ None ∷ []) c.loop.invariant ∙ replicate-append-replicate c.loop.counter 1 None

pub returns : goal.returns
returns c =
    let many : c.loop.counter ≡ c.count-end.result = omega (arith, c.loop.auto.counter-end) in
    let len : length c.loop.readings.items ≡ c.loop.counter = ap length c.loop.invariant ∙ length-replicate c.loop.counter None in (
      omega (arith, len, c.loop.auto.counter-end, c.count-end.ensures.value, div-le_self 1440 c.args.length),
      c.loop.invariant ∙ ap (λ n. replicate n None) (sym len),
      ap minutes_of (len ∙ many ∙ c.count-end.ensures.value) ∙ length_back c.args.length c.minutes.ensures.known,
    )
