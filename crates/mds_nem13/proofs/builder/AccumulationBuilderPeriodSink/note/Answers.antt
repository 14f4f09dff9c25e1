use Rattle.std.proofs.lemmas.Result.{on_ok_weaker}
use Rattle.mds_nem13.proofs.Tellings.{told_note}
use Rattle.mds_nem13.proofs.builder.AccumulationBuilderPeriodSink.note.Goals as goal

pub returns : goal.returns
returns c = λ done period text told headed s.
    on_ok_weaker c.push_note.result (told_note c.args.self.now.accumulations.items c.push_note.new.accumulations.items done period _ _ told headed)
    (c.push_note.ensures text s)
