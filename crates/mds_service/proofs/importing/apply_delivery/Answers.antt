use Rattle.mds_service.proofs.importing.apply_delivery.Goals as goal

pub returns : goal.returns
returns g c = rw c.answer_of.ensures c.copied_in.ensures
