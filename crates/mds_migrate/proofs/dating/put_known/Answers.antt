use Rattle.std.specs.Prelude.{◌≡◌, [], ◌∷◌}
use Rattle.std.proofs.Common.{refl, rules, subst, sym}
use Rattle.sqlite.specs.Held.{state}
use Rattle.mds_keeper.specs.Content.{detail_on}
use Rattle.mds_tables.specs.Tables.{no_more}
use Rattle.mds_tables.specs.Parts.{detail_part}
use Rattle.mds_tables.specs.Writing.{Puts}
use Rattle.mds_tables.proofs.FrameLemmas.{frames_as, frames_each, frames_passed}
use Rattle.mds_pack_rows.specs.DailyTables.{schema_3}
use Rattle.mds_pack_rows.proofs.DetailLemmas.{puts_on_days}
use Rattle.mds_migrate.specs.Dating.{known_on}
use Rattle.mds_migrate.proofs.DatingLemmas.{none_known}
use Rattle.mds_migrate.proofs.dating.put_known.Goals as goal

pub returns-in-Some-details-clause-frames : goal.returns-in-Some-details-clause-frames
returns-in-Some-details-clause-frames g c =
    let old = state g.S.Store c.args.tx.now.conn.now in
    let new = state g.S.Store c.put_each.new.tx.conn.now in
    let details = c.in-Some-details.details in
    let put = rw c.from_ref.ensures.value at (c.put_each.ensures.puts no_more) in
    let last = frames_passed c.or_unavailable.result c.put_each.result c.or_unavailable.ensures (frames_each _ put) in
    let is : known_on c.args.known.now c.args.day ≡ detail_on details c.args.day ∷ [] = search rules in
    frames_as (λ _ _ did. subst (Puts schema_3 detail_part old new) (sym is) (puts_on_days schema_3 old new details (c.args.day ∷ []) did.0)) last

pub returns-in-Some-details-clause-same_reference : goal.returns-in-Some-details-clause-same_reference
returns-in-Some-details-clause-same_reference g c = c.put_each.ensures.same_reference

pub returns-in-None-details-clause-frames : goal.returns-in-None-details-clause-frames
returns-in-None-details-clause-frames g c =
    none_known (state g.S.Store c.args.tx.now.conn.now) (known_on c.args.known.now c.args.day) (search rules)

pub returns-in-None-details-clause-same_reference : goal.returns-in-None-details-clause-same_reference
returns-in-None-details-clause-same_reference g c = refl

pub returns-in-None-clause-frames : goal.returns-in-None-clause-frames
returns-in-None-clause-frames g c =
    none_known (state g.S.Store c.args.tx.now.conn.now) (known_on c.args.known.now c.args.day) (search rules)

pub returns-in-None-clause-same_reference : goal.returns-in-None-clause-same_reference
returns-in-None-clause-same_reference g c = refl
