use Rattle.std.proofs.Common.{◌≡◌, ◌+◌, ◌++◌, [], ◌∷◌, Some, map, take, ap, sym, ◌∙◌, arith}
use Rattle.std.proofs.lemmas.List.{map-append, take_more}
use Rattle.mds_pack_rows.proofs.grouping.places_of.Goals as goal

pub loop-i-init : goal.loop-i-init
loop-i-init c = c.in_ok-places.ensures.items

pub loop-i-preserved : goal.loop-i-preserved
loop-i-preserved c =
    let readings = c.args.readings.now in
    let at = c.loop-i.i in
    let one = c.in_ok-reading.field-0 in
    let front : take (at + 1) readings ≡ take at readings ++ one ∷ [] =
    take_more readings at one (omega arith) ∙ ap (λ r. take at readings ++ r ∷ []) (sym (c.in_ok-reading.ensures.value one)) in
    c.in_ok-push.ensures.items ∙ ap (λ places. places ++ Some one ∷ []) c.loop-i.invariant
    ∙ sym (ap (map (λ reading. Some reading)) front ∙ map-append (λ reading. Some reading) (take at readings) (one ∷ []))
