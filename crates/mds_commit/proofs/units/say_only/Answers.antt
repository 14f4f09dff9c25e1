use Rattle.std.proofs.Common.{◌≡◌, IsTrue, arith, rules, subst, take}
use Rattle.sqlite_value.specs.Order.{Row}
use Rattle.mds_world.specs.Lists.{Member}
use Rattle.mds_tables.specs.RowFacts.{text_at, unit_named}
use Rattle.mds_tables.proofs.PutLemmas.{one_more}
use Rattle.mds_commit.proofs.UnitAsking.{all_more}
use Rattle.mds_commit.proofs.units.say_only.Goals as goal

pub loop-row-preserved : goal.loop-row-preserved
loop-row-preserved c =
    let rows = c.args.rows.now in
    let at = c.loop-row.row-index in
    let row = c.row-item.result in
    let it : IsTrue c.says.result = search rules in
    record {
      all = subst (λ rs. (r : Row) → Member r rs → unit_named (text_at r 0) ≡ c.args.unit) (one_more rows at row (omega arith) c.row-item.is)
          (all_more (λ r. unit_named (text_at r 0) ≡ c.args.unit) (take at rows) row c.loop-row.invariant.all (c.says.ensures it));
    }
