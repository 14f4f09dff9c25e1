use Rattle.std.specs.Prelude.{[]}
use Rattle.mds_statements.specs.Delivered.{delivery_statements}
use Rattle.mds_statements.specs.Statements.{days_of}
use Rattle.mds_service.proofs.Asked.{asks_of_delivery}
use Rattle.mds_service.proofs.Collect.{days_agree, if_refused, no_merges}
use Rattle.mds_service.proofs.Collects.{all_collected, first_refused}
use Rattle.mds_service.proofs.collecting.collect.Goals as goal

pub collect_blocks-requires : goal.collect_blocks-requires
collect_blocks-requires g c = c.args.delivery.orderly.whole

pub returns-in-Err-clause-refused : goal.returns-in-Err-clause-refused
returns-in-Err-clause-refused g c = λ honest w shows lawful.
    if_refused c.in-Err.stop _ _ (c.in-Err.ensures.refused honest w shows lawful) (λ r t.
    first_refused w c.args.delivery r (t [] (no_merges w c.new.result c.new.ensures.empty)))

pub returns-clause-collected : goal.returns-clause-collected
returns-clause-collected g c = λ honest w shows lawful.
    all_collected w c.args.delivery _ _ (no_merges w c.new.result c.new.ensures.empty) c.new-2.ensures.items c.new-3.ensures.items
    (c.in_default.ensures.taken honest w shows lawful)

pub returns-clause-agrees : goal.returns-clause-agrees
returns-clause-agrees g c = λ honest w shows lawful.
    let all = all_collected w c.args.delivery _ _ (no_merges w c.new.result c.new.ensures.empty) c.new-2.ensures.items c.new-3.ensures.items
    (c.in_default.ensures.taken honest w shows lawful) in
    days_agree w (days_of (delivery_statements c.args.delivery)) c.collect_blocks.new.out.merges all.merges lawful

pub returns-in-Err-clause-asked : goal.returns-in-Err-clause-asked
returns-in-Err-clause-asked g c = asks_of_delivery c.args.delivery c.collect_blocks.ensures.asked

pub returns-clause-asked : goal.returns-clause-asked
returns-clause-asked g c = asks_of_delivery c.args.delivery c.collect_blocks.ensures.asked
