-- Rows of mds_daydetail that are put in a transaction.
use Rattle.std.proofs.Common.{◌≡◌, ◌<◌, ◌+◌, ◌++◌, ℕ, List, [], ◌∷◌, get_or, length, map, take, refl, sym, ap, subst, ◌∙◌, arith}
use Rattle.std.proofs.lemmas.Grind.{flat_map-append}
use Rattle.std.proofs.lemmas.List.{append-nil, take_more}
use Rattle.sqlite.specs.Schema.{Schema}
use Rattle.sqlite.specs.State.{HasCleanDisk, KeepsCommit, State, Survives}
use Rattle.sqlite.proofs.InsideLemmas.{keeps_then}
use Rattle.sqlite_value.specs.Order.{Row}
use Rattle.mds_world.specs.declared.facts.Detail.{Detail}
use Rattle.mds_keeper.specs.Content.{detail_on, details_of, details_on}
use Rattle.mds_keeper.specs.declared.additions.DetailDays.{DetailDays}
use Rattle.mds_tables.proofs.CallLemmas.{keeps_same, survives_more, survives_same}
use Rattle.mds_tables.specs.Cells.{detail_cells}
use Rattle.mds_tables.specs.Stores.{Gains}
use Rattle.mds_tables.specs.Tables.{daydetail_tree, schema_with}
use Rattle.mds_tables.specs.Parts.{detail_part}
use Rattle.mds_tables.specs.Tabling.{part_in}
use Rattle.mds_tables.specs.Writing.{Puts, PutsThere}
use Rattle.mds_tables.proofs.PutLemmas.{none_there, there_then}
use Rattle.mds_tables.proofs.RowLemmas.{says_details}
use Rattle.mds_pack_rows.specs.DailyPutting.{PutsDetails}
use Rattle.mds_pack_rows.specs.DailyTables.{daily_then}
use Rattle.mds_pack_rows.specs.DetailTabling.{detail_tabling}

-- ---- from days that share details to the details of each

cells_on : (details : DetailDays) (days : List ℕ) → map (λ day. detail_cells (detail_on details day)) days ≡ map detail_cells (map (detail_on details) days)
cells_on details [] = refl
cells_on details (d ∷ ds) = ap (λ (rows : List Row). detail_cells (detail_on details d) ∷ rows) (cells_on details ds)

pub puts_on_days : (under : Schema) (old new : State) (details : DetailDays) (days : List ℕ) → Puts under (part_in (detail_tabling details)) old new days
    → Puts under detail_part old new (map (detail_on details) days)
puts_on_days under old new details days put = record {
  schema = put.schema;
  rows = subst (λ (rows : List Row). Gains daydetail_tree rows old.now.trees new.now.trees) (cells_on details days) put.rows;
  others = put.others;
  committed = put.committed;
  sound = put.sound;
}

pub on_days : (under : Schema) (old new : State) (details : DetailDays) (days : List ℕ) → PutsThere under (part_in (detail_tabling details)) old new days
    → PutsThere under detail_part old new (map (detail_on details) days)
on_days under old new details days put = record {
  was_open = put.was_open;
  is_open = put.is_open;
  inside = put.inside;
  puts = λ clean o has sound. puts_on_days under old new details days (put.puts clean o has sound);
  said = says_details (map (detail_on details) days);
}

-- ---- rows one after another

-- what was done since a state, and which details are put
pub record PutsSince (old new : State) (details : List Detail) : Type 0 where
  pub puts : PutsDetails old new details
  pub kept : HasCleanDisk new → KeepsCommit old new
  pub survives : Survives old new (λ _. ⊥)

pub none_since : (s : State) → PutsSince s s []
none_since s = record { puts = λ rest. none_there (schema_with (daily_then rest)) detail_part s; kept = λ _. keeps_same s; survives = survives_same s }

module _ (a b c : State) (survives : Survives b c (λ _. ⊥)) (kept : HasCleanDisk c → KeepsCommit b c) (xs : List Detail) (before : PutsSince a b xs) where
  pub kept_since : HasCleanDisk c → KeepsCommit a c
  kept_since clean = keeps_then a b c (before.kept (omega (arith, clean, survives.clean))) (kept clean)

  pub more_since : (ys zs : List Detail) → xs ++ ys ≡ zs → PutsDetails b c ys → PutsSince a c zs
  more_since ys zs are puts = record {
    puts = subst (PutsDetails a c) are
        (λ rest. there_then (schema_with (daily_then rest)) detail_part a b c xs ys survives.clean (before.puts rest) (puts rest));
    kept = kept_since;
    survives = survives_more a b c before.survives survives;
  }

-- those up to a place, and those there
pub of_more : (groups : List DetailDays) (at : ℕ) (group : DetailDays) → at < length groups → group ≡ get_or groups at group
    → details_of (take at groups) ++ details_on group ≡ details_of (take (at + 1) groups)
of_more groups at group low is =
    sym (ap details_of (take_more groups at group low ∙ ap (λ g. take at groups ++ g ∷ []) (sym is))
    ∙ flat_map-append details_on (take at groups) (group ∷ [])
    ∙ ap (λ rest. details_of (take at groups) ++ rest) (append-nil (details_on group)))
