use Rattle.mds_service.proofs.importing.import_delivery.Goals as goal

pub returns : goal.returns
returns g c = rw c.answer_of.ensures c.taken_in.ensures.step
