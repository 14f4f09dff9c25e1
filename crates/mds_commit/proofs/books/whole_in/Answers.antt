use Rattle.std.proofs.Common.{◌≡◌, Some, length, map, subst, arith}
use Rattle.std.specs.Prelude.{IfSome}
use Rattle.mds_pack_rows.specs.PackFacts.{minutes_of, readings_in}
use Rattle.mds_pack_rows.proofs.PutLemmas.{one_row}
use Rattle.mds_commit.proofs.BookLemmas.{some_minutes, whole_under}
use Rattle.mds_commit.proofs.books.whole_in.Goals as goal

pub returns-clause-under : goal.returns-clause-under
returns-clause-under c =
    let form = c.form-item.result in
    let pack = c.pack-item.result in
    let head = c.in-Some.head in
    let body = c.in-Some-blob_at.body.now in
    let readings = c.in-Some-2.readings in
    let says : readings_in body ≡ Some (map (λ reading. Some reading) readings) =
    subst (λ o. IfSome o (λ readings. readings_in body ≡ Some (map (λ reading. Some reading) readings))) c.in-Some-2.is c.in_ok-readings.ensures.says in
    let many : minutes_of (length readings) ≡ head.1 =
    subst (λ o. IfSome o (λ readings. minutes_of (length readings) ≡ head.1)) c.in-Some-2.is c.in_ok-readings.ensures.len in
    whole_under c.args.forms.now c.args.packs.now form pack head.1 head.0 body readings (one_row c.args.forms.now form (omega arith) c.form-item.is)
    (one_row c.args.packs.now pack (omega arith) c.pack-item.is) c.in-Some.ensures.update c.in-Some.ensures.length c.in-Some.ensures.pack
    c.in-Some-blob_at.ensures.some says many (some_minutes c.count.result head.1 c.count.ensures.whole)
