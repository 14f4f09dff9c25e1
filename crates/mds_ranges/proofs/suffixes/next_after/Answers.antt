use Rattle.std.proofs.Common.{◌≡◌, ◌+◌, ◌∷◌, [], ◌++◌, take, sym, ap, ◌∙◌, true≢false}
use Rattle.std.proofs.lemmas.List.{take_more}
use Rattle.mds_ranges.proofs.InOrder.{next_is, next_stays}
use Rattle.mds_ranges.proofs.suffixes.next_after.Goals as goal
use Rattle.mds_ranges.proofs.suffixes.next_after.Goals.{then-is_between, else-is_between}

pub loop-suffix-preserved : goal.loop-suffix-preserved
loop-suffix-preserved c =
    let xs = c.args.suffixes.now in
    let i = c.loop-suffix.suffix-index in
    let suffix = c.suffix-item.result in
    let more : take (i + 1) xs ≡ take i xs ++ suffix ∷ [] =
    take_more xs i suffix c.loop-suffix-test.true ∙ ap (λ s. take i xs ++ s ∷ []) (sym c.suffix-item.is) in
    elim c.if-is_between.branch [
      | then-is_between w ↦
          let both = c.is_between.ensures.0 w.if-is_between.true in
          rw (w.next-is, more) (next_is c.args.last.now c.loop-suffix.next (take i xs) suffix c.loop-suffix.invariant
          both.0 both.1)
      | else-is_between w ↦
          rw (w.next-is, more) (next_stays c.args.last.now c.loop-suffix.next (take i xs) suffix c.loop-suffix.invariant
          (λ both. let yes = c.is_between.ensures.1 both in true≢false (sym yes ∙ w.if-is_between.false)))
    ]
