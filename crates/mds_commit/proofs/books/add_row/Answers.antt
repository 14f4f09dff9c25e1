use Rattle.std.proofs.Common.{◌≡◌, true, length}
use Rattle.std.specs.Prelude.{is_some}
use Rattle.std.specs.List.{list_any}
use Rattle.mds_tables.specs.RowFacts.{natural_at}
use Rattle.mds_pack_rows.specs.PackFacts.{IsSaidAt, minutes_of}
use Rattle.mds_pack_rows.proofs.PutLemmas.{if_ok}
use Rattle.mds_commit.proofs.BookLemmas.{row_adds}
use Rattle.mds_commit.proofs.books.add_row.Goals as goal

pub returns : goal.returns
returns c =
    let form = c.args.form.now in
    let pack = c.args.pack.now in
    let head = c.in_ok-head.head in
    let readings = c.in_ok-readings.readings.items in
    let update : natural_at form 0 ≡ head.0 = rw c.in_ok-head.ensures at c.head_in.ensures.update in
    let long : natural_at form 1 ≡ head.1 = rw c.in_ok-head.ensures at c.head_in.ensures.length in
    let same : natural_at pack 0 ≡ head.0 = rw c.in_ok-head.ensures at c.head_in.ensures.pack in
    let said : IsSaidAt pack 1 readings = rw c.in_ok-readings.ensures at c.in_ok-readings_for.ensures.says in
    let many : minutes_of (length readings) ≡ head.1 = rw c.in_ok-readings.ensures at c.in_ok-readings_for.ensures.len in
    let some : list_any (λ reading. is_some reading) readings ≡ true = rw c.in_ok-readings.ensures at c.in_ok-readings_for.ensures.some in
    if_ok c.add_held.result _ _
    (row_adds form pack head.0 head.1 said.0 readings c.args.versions.now.items c.add_held.new.versions.items
    update long same said.1 said.2 many some)
    c.add_held.ensures
