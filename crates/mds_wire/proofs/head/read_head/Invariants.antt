use Rattle.std.proofs.Common.{◌≡◌, ◌≤◌, ◌-◌, length, take, false}
use Rattle.mds_wire.specs.Calls.{HasRead}
use Rattle.mds_wire.specs.Heads.{longest_head, most_fields, IsOpenHead}
use Rattle.mds_wire.specs.HeadSteps.{WantsHead}
use Rattle.mds_wire.proofs.head.read_head.Given as goal

abbrev pub invariant-loop-filled : goal.invariant-loop-filled
invariant-loop-filled g l = record {
  size : length l.buffer ≡ longest_head;
  room : length l.fields ≡ most_fields;
  within : l.filled ≤ longest_head;
  read : HasRead WantsHead g.R.Source.gives l.fn.source l.source (g.R.Source.remaining l.fn.source) (g.R.Source.remaining l.source) (take l.filled l.buffer) false;
  is_open : IsOpenHead (take l.filled l.buffer);
  failures : g.R.Source.failures l.source ≡ g.R.Source.failures l.fn.source;
}

abbrev pub decreases-loop-filled : goal.decreases-loop-filled
decreases-loop-filled g l = longest_head - l.filled
