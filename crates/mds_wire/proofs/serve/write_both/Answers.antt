use Rattle.std.proofs.Common.{ℕ, ◌+◌, ◌<◌, List, ◌++◌, length, take, Option, if◌then◌else◌, is_ok, Result, Ok, Err, OnErr, refl, ap, sym, subst, ◌∙◌, arith, length-append}
use Rattle.std.proofs.lemmas.List.{take-append-le}
use Rattle.std.proofs.lemmas.Result.{err_from_is_err_and, on_ok_weaker}
use Rattle.std.specs.Io.KnownBytes.{Appends}
use Rattle.mds_lines.proofs.StreamSteps.{appends_both}
use Rattle.mds_wire.proofs.Exits.{none_more}
use Rattle.mds_wire.proofs.Written.{part_behind}
use Rattle.mds_wire.proofs.serve.write_both.Goals as goal

-- a part of the first text is one of both
part_first : {T E : Type 0} (head body : List ℕ) (r : Result T E) (a b : Option (List ℕ)) → (n : ℕ) × (n < length head) × Appends a b (take n head)
    → OnErr r ((n : ℕ) × (n < length (head ++ body)) × Appends a b (take n (head ++ body)))
part_first head body (Ok x) a b h = tt
part_first head body (Err e) a b (n, lt, h) = (
  n,
  omega (arith, length-append head body, lt),
  subst (Appends a b) (sym (take-append-le n head body (omega (arith, lt)))) h,
)

pub returns-in_err-write_whole-clause-done : goal.returns-in_err-write_whole-clause-done
returns-in_err-write_whole-clause-done g c = let p = err_from_is_err_and c.from_residual.result c.from_residual.ensures.1 in rw p.1 tt

pub returns-in_err-write_whole-clause-part : goal.returns-in_err-write_whole-clause-part
returns-in_err-write_whole-clause-part g c = part_first c.args.head.now c.args.body.now c.from_residual.result _ _ c.in_err-write_whole.ensures.part

pub returns-in_err-write_whole-clause-writer : goal.returns-in_err-write_whole-clause-writer
returns-in_err-write_whole-clause-writer g c = let p = err_from_is_err_and c.from_residual.result c.from_residual.ensures.1 in rw p.1 c.in_err-write_whole.ensures.writer

pub returns-clause-done : goal.returns-clause-done
returns-clause-done g c =
    on_ok_weaker c.write_whole-2.result (λ done. appends_both _ _ _ _ _ _ refl c.in_ok-write_whole.ensures.done done) c.write_whole-2.ensures.done

pub returns-clause-part : goal.returns-clause-part
returns-clause-part g c = part_behind c.args.head.now c.args.body.now c.write_whole-2.result _ _ _ c.in_ok-write_whole.ensures.done c.write_whole-2.ensures.part

pub returns-clause-writer : goal.returns-clause-writer
returns-clause-writer g c =
    c.write_whole-2.ensures.writer ∙ ap (λ n. n + (if is_ok c.write_whole-2.result then 0 else 1)) (none_more c.in_ok-write_whole.ensures.writer)
