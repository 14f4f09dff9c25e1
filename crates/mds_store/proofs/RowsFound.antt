-- What queries whose answers are in an order find.
use Rattle.std.specs.Prelude.{ℕ, List, [], ◌∷◌, codes, refl, IfOk, Result}
use Rattle.sqlite.specs.State.{Shown, State}
use Rattle.sqlite.specs.Term.{Term, col}
use Rattle.sqlite.specs.declared.error.Error.{Error}
use Rattle.sqlite_value.specs.Order.{Row}
use Rattle.sqlite_value.specs.declared.keys.Key.{Key}
use Rattle.mds_names.specs.declared.stream.Stream.{Stream}
use Rattle.mds_statements.specs.declared.periods.PeriodKey.{PeriodKey}
use Rattle.mds_tables.specs.Cells.{period_key_cells, stream_cells}
use Rattle.mds_tables.specs.Layouts.{Layout}
use Rattle.mds_tables.specs.Stores.{FindsOf, Selects}
use Rattle.mds_tables.specs.Tables.{period_table}
use Rattle.mds_tables.proofs.KeyLemmas.{tests}
use Rattle.mds_tables.proofs.MemberLemmas.{selects}
use Rattle.mds_tables.proofs.QueryLemmas.{finds, period_typed}
use Rattle.mds_tables.proofs.SelectTexts.{columns_at}
use Rattle.mds_tables.proofs.TypedLemmas.{AreFor}
use Rattle.mds_store.proofs.ListTexts.{rising, select_periods, select_periods_is, select_periods_plain}

periods_for : (s : Stream) → AreFor period_table.columns (stream_cells s)
periods_for s = ((codes "nmi", refl), ((codes "suffix", refl), tt))

pub content_for : (k : PeriodKey) → AreFor period_table.columns (period_key_cells k)
content_for k =
    ((codes "nmi", refl), ((codes "suffix", refl), ((codes "register", refl), ((codes "start", refl), ((codes "finish", refl), ((codes "moment", refl), tt))))))

abbrev period_columns : List ℕ
period_columns = 1 ∷ 2 ∷ 3 ∷ 4 ∷ 5 ∷ 6 ∷ 7 ∷ []

abbrev by_key : List (Term × Key)
by_key = (col 1 3, rising) ∷ (col 1 4, rising) ∷ (col 1 5, rising) ∷ (col 1 6, rising) ∷ []

pub finds_period_rows : {V : Type 0} (layout : Layout) (s : Stream) (old new : State) (items : V → List Row) (r : Result V Error)
    → IfOk r (λ v. Shown select_periods (stream_cells s) old new (items v))
    → IfOk r (λ v. FindsOf layout old new (λ trees. Selects 10 (stream_cells s) period_columns trees (items v)))
finds_period_rows layout s old new items r h =
    finds layout select_periods (select_periods_plain layout.more) 10 (tests 0 (stream_cells s)) (columns_at period_columns) by_key _
    (select_periods_is layout.more) (λ db. refl) old new (stream_cells s) items
    (λ rows trees. Selects 10 (stream_cells s) period_columns trees rows)
    (λ db sound rows p.
    selects 10 period_columns by_key db (stream_cells s) period_table.columns (periods_for s) (period_typed layout.more db sound) rows p) r h
