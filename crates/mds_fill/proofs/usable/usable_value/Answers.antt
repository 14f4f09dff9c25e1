use Rattle.std.proofs.Common.{refl}
use Rattle.mds_jobs.specs.Jobs.{content_of}
use Rattle.mds_keeper.specs.LentVersions.{lent_reading}
use Rattle.mds_world.specs.Current.{no_reading}
use Rattle.mds_fill.proofs.BookValues.{bare_is_neither, other_flag, other_form, usable_is}
use Rattle.mds_fill.proofs.usable.usable_value.Goals as goal

pub returns-then-not-has_form_of : goal.returns-then-not-has_form_of
returns-then-not-has_form_of c = λ w d is.
    other_form w (content_of c.args.job.now) d _ c.args.interval is
    (λ e. let t = c.if-not-has_form_of.ensures.1 e in cc)

pub returns-in_default : goal.returns-in_default
returns-in_default c = λ w d is.
    other_flag w (content_of c.args.job.now) d _ c.args.interval no_reading is c.is_lawful.ensures
    c.in_default.ensures.reading bare_is_neither

pub returns-then-not-is_actual_or_final : goal.returns-then-not-is_actual_or_final
returns-then-not-is_actual_or_final c = λ w d is.
    other_flag w (content_of c.args.job.now) d _ c.args.interval (lent_reading c.in-Some.version) is c.is_lawful.ensures
    c.in-Some.ensures.reading c.if-not-is_actual_or_final.ensures

pub returns : goal.returns
returns c = λ w d is.
    let version = c.in-Some.version in
    usable_is w (content_of c.args.job.now) d _ c.args.interval (lent_reading version) version.value is
    c.is_lawful.ensures (c.if-not-has_form_of.ensures.0 refl) c.in-Some.ensures.reading c.if-not-is_actual_or_final.ensures refl
