use Rattle.std.proofs.Common.{true, false, ◌++◌, option_map, ◌∙◌, ap}
use Rattle.mds_records.specs.declared.fault.FieldFault.TheVariants.{Bad}
use Rattle.mds_records.specs.RecordSteps.{amount_tests, meter_tests, read_tests}
use Rattle.mds_records.proofs.Outcomes.{after_current, after_meter, after_previous}
use Rattle.mds_records.proofs.Rules.{bad_in}
use Rattle.mds_records.proofs.accumulation_data.read_fields.Goals as goal

pub returns-in-Err : goal.returns-in-Err
returns-in-Err c = λ line has.
    let f = c.args.fields.now in
    bad_in 2 (meter_tests f.meter) (read_tests true f.previous ++ (read_tests false f.current ++ amount_tests f)) _ c.in-Err.ensures

pub returns-in-Err-read_register : goal.returns-in-Err-read_register
returns-in-Err-read_register c = λ line has.
    let f = c.args.fields.now in
    ap (option_map Bad) (after_meter f c.in-Ok.ensures.0)
    ∙ bad_in 9 (read_tests true f.previous) (read_tests false f.current ++ amount_tests f) _ c.in-Err-read_register.ensures

pub returns-in-Err-read_register-2 : goal.returns-in-Err-read_register-2
returns-in-Err-read_register-2 c = λ line has.
    let f = c.args.fields.now in
    ap (option_map Bad) (after_previous f c.in-Ok.ensures.0 c.in-Ok-read_register.ensures.0)
    ∙ bad_in 14 (read_tests false f.current) (amount_tests f) _ c.in-Err-read_register-2.ensures

pub returns-in-Err-read_amount : goal.returns-in-Err-read_amount
returns-in-Err-read_amount c = λ line has.
    ap (option_map Bad) (after_current c.args.fields.now c.in-Ok.ensures.0 c.in-Ok-read_register.ensures.0 c.in-Ok-read_register-2.ensures.0)
    ∙ c.in-Err-read_amount.ensures
