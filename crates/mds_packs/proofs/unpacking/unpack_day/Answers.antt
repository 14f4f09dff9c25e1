use Rattle.std.proofs.Common.{◌≡◌, arith}
use Rattle.std.specs.Prelude.{IfOk, option_map}
use Rattle.mds_calendar.specs.Length.{count_of}
use Rattle.mds_packs.specs.Unpacked.{unpacked}
use Rattle.mds_packs.proofs.Whole.{all_found, all_read}
use Rattle.mds_packs.proofs.unpacking.unpack_day.Goals as goal

-- what was read, by the length
all : (c : goal.After-read_all) → IfOk c.read_all.result (λ o. option_map (λ v. v.items) o ≡ unpacked (count_of c.args.length) c.args.body.now)
all c = rw (← c.intervals_of.ensures.value) c.read_all.ensures.value

pub returns-clause-found : goal.returns-clause-found
returns-clause-found c = all_found (λ v. v.items) (count_of c.args.length) c.args.body.now c.read_all.result (λ i. omega (arith, c.type_inv.body i)) (all c)

pub returns-clause-only : goal.returns-clause-only
returns-clause-only c = all_read (λ v. v.items) (count_of c.args.length) c.args.body.now c.read_all.result (omega (arith, c.intervals_of.ensures.value, c.intervals_of.ensures.few)) (all c)

pub returns-clause-value : goal.returns-clause-value
returns-clause-value c = all c

pub returns-clause-memory : goal.returns-clause-memory
returns-clause-memory c = rw (← c.intervals_of.ensures.value) c.read_all.ensures.memory
