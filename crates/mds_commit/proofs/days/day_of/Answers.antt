use Rattle.std.proofs.Common.{◌≡◌, [], ◌∷◌, Ok, ◌∙◌, arith, subst, sym}
use Rattle.std.proofs.lemmas.Result.{IfOk-weaker}
use Rattle.sqlite.specs.Held.{state}
use Rattle.sqlite_value.specs.Order.{Row}
use Rattle.mds_tables.specs.RowFacts.{text_at, unit_named}
use Rattle.mds_tables.proofs.Asked.{and_then, answers, refused, steady, tables_held}
use Rattle.mds_pack_rows.specs.Current.{current_layout}
use Rattle.mds_commit.specs.FormRows.{IsBookOf}
use Rattle.mds_commit.proofs.DayLemmas.{is_day, no_day, only_unit}
use Rattle.mds_commit.proofs.days.day_of.Goals as goal

pub returns-then-are_none-clause-book : goal.returns-then-are_none-clause-book
returns-then-are_none-clause-book g c =
    let forms = c.in_ok-forms.forms.items in
    let packs = c.in_ok-packs.packs.items in
    let ready = steady current_layout (rw c.in_ok-or_unavailable.ensures at c.ready.ensures.ok) c.ready.ensures.survives c.ready.ensures.mode in
    let asked = and_then (and_then ready (rw c.in_ok-forms.ensures at c.form_rows.ensures)) (rw c.in_ok-packs.ensures at c.pack_rows.ensures) in
    let none = c.are_none.ensures.0 c.if-are_none.true in
    let no_forms : forms ≡ [] = sym c.deref.ensures.value ∙ none.0 in
    let no_packs : packs ≡ [] = sym c.deref-2.ensures.value ∙ none.1 in
    answers (tables_held current_layout (state g.S.Store c.args.conn.now)) asked (Ok c.unknown_day.result)
    (λ known.
    no_day c.args.stream.now c.args.day (omega (arith, c.number.ensures.last)) _ known.0.0 forms packs known.0.1 known.1 no_forms c.unknown_day.result
    (λ unit. subst (λ rows. IsBookOf c.args.stream.now c.args.day unit [] rows c.unknown_day.result) (sym no_packs) (c.unknown_day.ensures unit)))

pub returns-then-are_none-clause-of_day : goal.returns-then-are_none-clause-of_day
returns-then-are_none-clause-of_day g c = let it = c.unknown_day.ensures (unit_named []) in (it.stream, it.on)

pub returns-clause-book : goal.returns-clause-book
returns-clause-book g c =
    let s = c.args.stream.now in
    let day = c.args.day in
    let forms = c.in_ok-forms.forms.items in
    let packs = c.in_ok-packs.packs.items in
    let units = c.in_ok-units.units.items in
    let ready = steady current_layout (rw c.in_ok-or_unavailable.ensures at c.ready.ensures.ok) c.ready.ensures.survives c.ready.ensures.mode in
    let asked = and_then (and_then (and_then ready (rw c.in_ok-forms.ensures at c.form_rows.ensures)) (rw c.in_ok-packs.ensures at c.pack_rows.ensures)) (rw c.in_ok-units.ensures at c.unit_rows.ensures) in
    answers (tables_held current_layout (state g.S.Store c.args.conn.now)) asked c.known_day.result
    (λ known.
    let sound = known.0.0.0 in
    IfOk-weaker c.known_day.result (λ book. (row : Row) × (units ≡ row ∷ []) × IsBookOf s day (unit_named (text_at row 0)) forms packs book) _
    (λ book it. is_day s day (omega (arith, c.number.ensures.last)) _ sound (unit_named (text_at it.0 0)) forms packs [] known.0.0.1 known.0.1
    (λ row m. only_unit s day (omega (arith, c.number.ensures.last)) _ sound units known.1 it.0 it.1 row) book it.2)
    (rw (c.deref-3.ensures.value, c.deref-4.ensures.value, c.deref-5.ensures.value) at c.known_day.ensures))

pub returns-in_err-forms-clause-book : goal.returns-in_err-forms-clause-book
returns-in_err-forms-clause-book g c =
    let ready = steady current_layout (rw c.in_ok-or_unavailable.ensures at c.ready.ensures.ok) c.ready.ensures.survives c.ready.ensures.mode in
    refused (tables_held current_layout (state g.S.Store c.args.conn.now)) ready _ c.form_rows.ensures c.in_err-forms.ensures _ _
    c.from_residual-in_err-forms.ensures.1

pub returns-in_err-packs-clause-book : goal.returns-in_err-packs-clause-book
returns-in_err-packs-clause-book g c =
    let ready = steady current_layout (rw c.in_ok-or_unavailable.ensures at c.ready.ensures.ok) c.ready.ensures.survives c.ready.ensures.mode in
    refused (tables_held current_layout (state g.S.Store c.args.conn.now)) (and_then ready (rw c.in_ok-forms.ensures at c.form_rows.ensures)) _ c.pack_rows.ensures c.in_err-packs.ensures _ _
    c.from_residual-in_err-packs.ensures.1

pub returns-in_err-units-clause-book : goal.returns-in_err-units-clause-book
returns-in_err-units-clause-book g c =
    let ready = steady current_layout (rw c.in_ok-or_unavailable.ensures at c.ready.ensures.ok) c.ready.ensures.survives c.ready.ensures.mode in
    refused (tables_held current_layout (state g.S.Store c.args.conn.now)) (and_then (and_then ready (rw c.in_ok-forms.ensures at c.form_rows.ensures)) (rw c.in_ok-packs.ensures at c.pack_rows.ensures)) _ c.unit_rows.ensures c.in_err-units.ensures _ _
    c.from_residual-in_err-units.ensures.1
