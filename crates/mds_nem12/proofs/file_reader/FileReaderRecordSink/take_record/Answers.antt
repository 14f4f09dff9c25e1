use Rattle.std.proofs.Common.{◌≡◌, ◌+◌, true, Some, length, sym, ◌∙◌, ap, rules}
use Rattle.std.specs.Result.{result_ok}
use Rattle.mds_lines.specs.Numbered.{text_of}
use Rattle.mds_nem12.specs.Governing.{governors, record_kind}
use Rattle.mds_nem12.specs.Place.{is_in_place}
use Rattle.mds_nem12.proofs.Lacking.{stopped_before}
use Rattle.mds_nem12.proofs.file_reader.FileReaderRecordSink.take_record.Goals as goal

pub returns-in-Ok : goal.returns-in-Ok
returns-in-Ok g c =
    let is : record_kind (text_of c.args.line.now) ≡ Some c.args.kind = ap result_ok c.requires in search rules

pub returns-in-Err : goal.returns-in-Err
returns-in-Err g c = λ before h number.
    let is : record_kind (text_of c.args.line.now) ≡ Some c.args.kind = ap result_ok c.requires in
    let allowed : c.allows.result ≡ true = search rules in
    stopped_before (governors before) (length before + 1) _ _ c.in-Err.fault is
    (ap (λ p. is_in_place p c.args.kind) h.knows.governs.previous ∙ sym c.allows.ensures ∙ allowed) (c.in-Err.ensures.closed before h number)
