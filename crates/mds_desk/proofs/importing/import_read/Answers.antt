use Rattle.std.proofs.Common.{subst}
use Rattle.mds_statements.specs.Delivered.{delivery_statements}
use Rattle.mds_messages.specs.declared.answer.Answer.TheVariants as told
use Rattle.mds_nem12.specs.Answers.{IsReadOf}
use Rattle.mds_desk.proofs.ReadIn.{delivered, faulted, read_delivered, read_faulted, told_so}
use Rattle.mds_desk.proofs.Requested.{if_done, if_failed}
use Rattle.mds_desk.proofs.importing.import_read.Goals as goal

pub returns-in-Ok-clause-done : goal.returns-in-Ok-clause-done
returns-in-Ok-clause-done g c = if_done c.tell.result _ _ (λ status it.
    let taken = told_so (delivery_statements c.in-Ok.delivery) c.import_delivery.result it.0 it.2 c.import_delivery.ensures in (
      it.0,
      λ text read. delivered text c.in-Ok.delivery it.0 (subst (IsReadOf text) c.in-Ok.is read) taken,
      read_delivered c.args.read c.in-Ok.delivery it.0 c.in-Ok.is taken,
      it.4,
      it.1,
      it.3,
      it.5,
    )) c.tell.ensures.done

pub returns-in-Ok-clause-part : goal.returns-in-Ok-clause-part
returns-in-Ok-clause-part g c failed =
    let it = if_failed c.tell.result _ _ failed c.tell.ensures.part in
    let taken = told_so (delivery_statements c.in-Ok.delivery) c.import_delivery.result it.1 it.3 c.import_delivery.ensures in (
      it.1,
      λ text read. delivered text c.in-Ok.delivery it.1 (subst (IsReadOf text) c.in-Ok.is read) taken,
      read_delivered c.args.read c.in-Ok.delivery it.1 c.in-Ok.is taken,
      it.2,
      it.4,
      it.5,
      it.6,
      it.7,
    )

pub returns-in-Err-clause-done : goal.returns-in-Err-clause-done
returns-in-Err-clause-done g c = if_done c.tell_unread.result _ _ (λ status it. (
  told.File it.0,
  λ text read. faulted text c.in-Err.fault it.0 it.1 (subst (IsReadOf text) c.in-Err.is read),
  read_faulted c.args.read (g.K.Keeper.kept c.args.keeper.now) c.in-Err.fault it.0 c.in-Err.is it.1,
  it.4,
  it.2,
  it.3,
  it.5,
)) c.tell_unread.ensures.done

pub returns-in-Err-clause-part : goal.returns-in-Err-clause-part
returns-in-Err-clause-part g c failed =
    let it = c.tell_unread.ensures.part failed in (
      told.File it.0,
      λ text read. faulted text c.in-Err.fault it.0 it.1 (subst (IsReadOf text) c.in-Err.is read),
      read_faulted c.args.read (g.K.Keeper.kept c.args.keeper.now) c.in-Err.fault it.0 c.in-Err.is it.1,
      it.2,
      it.3,
      it.4,
      it.5,
      it.6,
    )
