use Rattle.std.proofs.Common.{◌≡◌, length, map, vec_len}
use Rattle.mds_answers.proofs.Contents.{AreLines}
use Rattle.mds_answers.proofs.periods.lines_of.Given as goal

abbrev pub invariant-loop-line : goal.invariant-loop-line
invariant-loop-line l = record {
  told : AreLines l.lines.items (map (λ line. line.now) l.yielded);
  count : vec_len l.lines ≡ length l.yielded;
}
