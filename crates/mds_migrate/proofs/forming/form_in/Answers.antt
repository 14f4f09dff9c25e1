use Rattle.std.proofs.Common.{◌≡◌, ap, length, true, ◌∙◌}
use Rattle.std.specs.Prelude.{is_some}
use Rattle.std.specs.List.{list_any}
use Rattle.sqlite_value.specs.Order.{bytes}
use Rattle.mds_pack_rows.specs.PackFacts.{IsSaidAt, minutes_of, readings_in}
use Rattle.mds_tables.specs.RowFacts.{text_at}
use Rattle.mds_migrate.proofs.FormingLemmas.{says_form}
use Rattle.mds_migrate.proofs.forming.form_in.Goals as goal

pub returns-clause-says : goal.returns-clause-says
returns-clause-says c =
    let pack = c.args.pack.now in
    let readings = c.in_ok-told.field-0.items in
    let said : IsSaidAt pack 1 readings = rw c.in_ok-told.ensures at c.in_ok-readings_for.ensures.says in
    let many : minutes_of (length readings) ≡ c.args.head.now.length = rw c.in_ok-told.ensures at c.in_ok-readings_for.ensures.len in
    let some : list_any (λ reading. is_some reading) readings ≡ true = rw c.in_ok-told.ensures at c.in_ok-readings_for.ensures.some in
    let body : text_at pack 1 ≡ said.0 = ap bytes said.1 in
    says_form c.args.head.now pack readings (ap readings_in body ∙ said.2) many some
