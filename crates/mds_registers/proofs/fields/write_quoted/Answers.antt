use Rattle.std.proofs.Common.{◌++◌, ◌∷◌, [], ◌∙◌, ap, append_assoc, get_or}
use Rattle.std.proofs.lemmas.Result.{IfOk-from_err}
use Rattle.csv.proofs.WriteFacts.{quoted-step}
use Rattle.csv.specs.Writing.{default_writer, escaped}
use Rattle.mds_registers.proofs.PlainRows.{quoted_put}
use Rattle.mds_registers.proofs.fields.write_quoted.Goals as goal

pub loop-byte-init : goal.loop-byte-init
unfolding escaped
loop-byte-init c = c.in_ok-push.ensures.items

pub loop-byte-preserved : goal.loop-byte-preserved
loop-byte-preserved c =
    let old = c.args.row.now.items in
    let field = c.args.field.now in
    let i = c.loop-byte.byte-index in
    let byte = escaped default_writer (get_or field i 0 ∷ []) in
    c.in_ok-write_escaped.ensures ∙ ap (λ t. t ++ byte) c.loop-byte.invariant ∙ append_assoc old _ byte
    ∙ ap (λ t. old ++ t) (quoted-step default_writer 34 field i c.loop-byte-test.true)

pub returns-in_err-push : goal.returns-in_err-push
returns-in_err-push c = IfOk-from_err c.from_residual.result _ c.from_residual.ensures.0

pub returns-in_err-write_escaped : goal.returns-in_err-write_escaped
returns-in_err-write_escaped c = IfOk-from_err c.from_residual-in_err-write_escaped.result _ c.from_residual-in_err-write_escaped.ensures.0

pub returns : goal.returns
returns c =
    quoted_put c.extend_from_slice.result c.args.row.now.items c.loop-byte.row.items c.extend_from_slice.new.self.items c.args.field.now
    c.loop-byte.byte-index c.requires c.loop-byte-test.false c.loop-byte.invariant c.extend_from_slice.ensures.items
