use Rattle.std.proofs.lemmas.Result.{on_ok_weaker, err_from_is_err_and, on_err_weaker}
use Rattle.mds_statements.specs.Delivered.{header_value}
use Rattle.mds_export.proofs.Writes.{all_written}
use Rattle.mds_quantity.proofs.Front.{on_err_from}
use Rattle.mds_export.proofs.Begun.{begun_after}
use Rattle.mds_export.proofs.writer.write_all.Goals as goal

pub returns-clause-done : goal.returns-clause-done
returns-clause-done c =
    on_ok_weaker c.write_end.result
    (all_written (header_value c.args.header.now) c.args.streams.now _ _ c.args.out.now.items c.write_header.new.out.items
    c.write_streams.new.out.items c.write_end.new.out.items c.borrowed.ensures c.borrowed-2.ensures c.in_ok-write_header.ensures.done
    c.in_ok-write_header.ensures.lawful c.in_ok-write_streams.ensures.done)
    c.write_end.ensures.done

pub returns-in_err-write_header-clause-done : goal.returns-in_err-write_header-clause-done
returns-in_err-write_header-clause-done c = let p = err_from_is_err_and c.from_residual.result c.from_residual.ensures.1 in rw p.1 tt

pub returns-in_err-write_header-clause-grown : goal.returns-in_err-write_header-clause-grown
returns-in_err-write_header-clause-grown c =
    on_err_from c.from_residual.result _
    (c.in_err-write_header.ensures.grown)

pub returns-in_err-write_streams-clause-done : goal.returns-in_err-write_streams-clause-done
returns-in_err-write_streams-clause-done c =
    let p = err_from_is_err_and c.from_residual-in_err-write_streams.result c.from_residual-in_err-write_streams.ensures.1 in rw p.1 tt

pub returns-in_err-write_streams-clause-grown : goal.returns-in_err-write_streams-clause-grown
returns-in_err-write_streams-clause-grown c =
    on_err_from c.from_residual-in_err-write_streams.result _
    (begun_after _ _ _ c.in_ok-write_header.ensures.done.0 c.in_ok-write_header.ensures.done.2 c.in_err-write_streams.ensures.grown)

pub returns-clause-grown : goal.returns-clause-grown
returns-clause-grown c =
    on_err_weaker c.write_end.result (λ more. begun_after _ _ _ c.in_ok-write_header.ensures.done.0 c.in_ok-write_header.ensures.done.2 (begun_after _ _ _ c.in_ok-write_streams.ensures.done.0 c.in_ok-write_streams.ensures.done.2 more))
    c.write_end.ensures.grown
