-- Heads, versions and details that are put in turn, as what the current layout says by itself.
use Rattle.std.proofs.Common.{◌≡◌, ◌<◌, ◌^◌, ◌++◌, List, map, Result, sym, subst, ◌∙◌, append_assoc, arith}
use Rattle.std.specs.List.{AllByRecursion}
use Rattle.sqlite.specs.Effect.{Database}
use Rattle.sqlite.specs.Schema.{Schema}
use Rattle.sqlite.specs.State.{HasCleanDisk, IsUnchanged, State}
use Rattle.sqlite_catalog.specs.Listing.{IsSound}
use Rattle.sqlite_trees.specs.Tree.{Trees}
use Rattle.mds_world.specs.Facts.{Fact}
use Rattle.mds_world.specs.Facts.Fact.{DetailIs, HeadIs}
use Rattle.mds_world.specs.Lists.{Member}
use Rattle.mds_world.specs.declared.facts.Head.{Head}
use Rattle.mds_keeper.specs.Content.{details_of, heads_of, version_fact, versions_of}
use Rattle.mds_keeper.specs.declared.additions.Additions.{Additions}
use Rattle.mds_tables.specs.Cells.{detail_cells, form_cells, unit_cells}
use Rattle.mds_tables.specs.Stores.{AreRowsOf, Gains}
use Rattle.mds_tables.specs.Tables.{daydetail_tree, form_tree, head_tree}
use Rattle.mds_tables.specs.Frames.{Frames, IsAt}
use Rattle.mds_tables.specs.MadeRows.{IsRowOfJob, IsRowOfPeriod}
use Rattle.mds_tables.specs.Parts.{detail_part, head_part, in_turn}
use Rattle.mds_tables.specs.Refusals.{TakesAll}
use Rattle.mds_tables.specs.Writing.{HasAddedOf, IsMore, IsSteady, Keeps, KeepsOthers, Puts, PutsOwn, PutsRestThere}
use Rattle.mds_tables.specs.declared.jobs.JobRow.{JobRow}
use Rattle.mds_tables.specs.declared.periods.PeriodRow.{PeriodRow}
use Rattle.mds_tables.proofs.PutLemmas.{all_put}
use Rattle.mds_tables.proofs.RowLemmas.{detail_bare, gains_kept, kept_gains, more, more_both, says_details}
use Rattle.mds_pack_rows.specs.Current.{after_details, after_forms, current_layout, current_more, current_schema, current_tables}
use Rattle.mds_pack_rows.specs.DailyLayout.{daily_own, day_details}
use Rattle.mds_pack_rows.specs.DailyTables.{daydetails_then}
use Rattle.mds_pack_rows.specs.FormLayout.{form_heads}
use Rattle.mds_pack_rows.specs.PackFacts.{pack_versions}
use Rattle.mds_pack_rows.specs.PackTables.{pack_tree}
use Rattle.mds_pack_rows.specs.Putting.{ChangesPacks, NamesMore}
use Rattle.mds_pack_rows.proofs.FrameLemmas.{frames_finds}
use Rattle.mds_pack_rows.proofs.NameLemmas.{named_on}
use Rattle.mds_commit.specs.Committing.{KeepsUnits, PutsDays}
use Rattle.mds_commit.specs.FormPutting.{GainsForms, SayUnits, form_part}
use Rattle.mds_commit.specs.Units.{AsksThere, HaveRowids}
use Rattle.mds_commit.proofs.AfterLemmas.{keeps_on, untouched}
use Rattle.mds_commit.proofs.FormLemmas.{forms_more}
use Rattle.mds_commit.proofs.KeepLemmas.{heads_put}
use Rattle.mds_commit.proofs.NewUnits.{say_new}
use Rattle.mds_commit.proofs.UnitAsking.{say_both}

-- ---- new days, and then units

-- questions to mds_head
pub frames_asked : {X E : Type 0} (a b : State) (r : Result X E) (Tells : X → Trees → Type 0) → AsksThere a b r Tells
    → Frames current_schema (λ x. IsUnchanged a b × Tells x a.now.trees) a b r
frames_asked a b r Tells asks = frames_finds (daydetails_then after_details) a b r Tells asks.ok asks.goes_on asks.kept asks.survives

-- what they tell of the days that were put is still so
pub days_put : (a b c : State) (additions : Additions) → IsAt current_schema a
    → Puts current_schema head_part a b additions.new_days.items
    × TakesAll a.step_limit (in_turn head_part additions.new_days.items) a.now b.now
    → AllByRecursion (λ (head : Head). head.day < 2 ^ 63) additions.new_days.items
    → IsUnchanged b c × (HaveRowids b.now.trees × SayUnits additions.heads.items b.now.trees) → PutsDays a c additions
days_put a b c additions at days below asked =
    let put = days.0 in
    let new_days = additions.new_days.items in
    let heads = heads_put a.step_limit new_days a.now b.now at.schema days.1 in
    let now : b.now ≡ c.now = sym asked.0.0.now_is in
    record {
      put = record {
        schema = subst (λ (db : Database). db.schema ≡ current_schema) now put.schema;
        rows = subst (λ (db : Database). Gains head_tree (map unit_cells additions.new_days.items) a.now.trees db.trees) now put.rows;
        others = subst (λ (db : Database). KeepsOthers head_tree a.now.trees db.trees current_tables) now put.others;
        committed = asked.0.0.committed_is ∙ put.committed;
        sound = subst (λ (db : Database). IsSound current_schema db.trees) now put.sound;
      };
      keeps = subst (λ (db : Database). KeepsUnits additions.new_days.items (a.now.trees head_tree) (db.trees head_tree)) now
          heads.keeps;
      say = subst (λ (db : Database). SayUnits (heads_of additions) db.trees) now
          (say_both new_days additions.heads.items b.now.trees (say_new b.now.trees put.sound asked.1.0 new_days below heads.alone) asked.1.1);
    }

-- ---- all of them

-- what is told of them reads mds_head, mds_pack, mds_daydetail and mds_form alone
pub steady_forms : IsSteady current_more GainsForms
steady_forms a b c d additions heads _ first has heads_then _ last = (
  gains_kept head_tree (map unit_cells additions.new_days.items) a c d
      (kept_gains head_tree (map unit_cells additions.new_days.items) a b c heads has.0) heads_then,
  gains_kept form_tree (map form_cells (heads_of additions)) a c d
      (kept_gains form_tree (map form_cells (heads_of additions)) a b c first.1.1.0 has.1) last.1.1.0,
  named_on a b c d (map version_fact (versions_of additions.days.items)) first.0 last.0 has.2,
  gains_kept daydetail_tree (map detail_cells (details_of additions.details.items)) a c d
      (kept_gains daydetail_tree (map detail_cells (details_of additions.details.items)) a b c first.1.0 has.3) last.1.0,
  keeps_on a c d after_forms.tables (keeps_on a b c after_forms.tables first.1.1.1 has.4) last.1.1.1,
)

-- new days, versions, heads and details in turn
module _ (a b c d e : State) (additions : Additions) where
  abbrev version_facts : List Fact
  version_facts = map version_fact (versions_of additions.days.items)

  -- under the current tables
  pub own_put : IsSound current_schema a.now.trees → PutsDays a b additions
      → ChangesPacks b c × NamesMore b.now.trees c.now.trees version_facts → Puts current_schema form_part c d (heads_of additions)
      → Puts current_schema detail_part d e (details_of additions.details.items) → PutsOwn current_layout GainsForms a e additions
  own_put sound days packs forms details =
      let one = a.now.trees in
      let two = b.now.trees in
      let three = c.now.trees in
      let four = d.now.trees in
      let last = e.now.trees in
      let p = days.put.others in
      let q : KeepsOthers pack_tree two three current_tables =
      subst (λ (s : Schema). KeepsOthers pack_tree two three s.tables) days.put.schema packs.0.others in
      let r = forms.others in
      let s = details.others in
      let heads : last head_tree ≡ two head_tree =
      s.1.0 (λ i. omega arith) ∙ r.1.0 (λ i. omega arith) ∙ q.1.0 (λ i. omega arith) in
      let packed : last pack_tree ≡ three pack_tree =
      s.1.1.1.1.1.1.1.1.0 (λ i. omega arith) ∙ r.1.1.1.1.1.1.1.1.0 (λ i. omega arith) in
      let unpacked : two pack_tree ≡ one pack_tree = p.1.1.1.1.1.1.1.1.0 (λ i. omega arith) in
      let bare : three form_tree ≡ one form_tree =
      q.1.1.1.1.1.1.1.1.1.1.0 (λ i. omega arith) ∙ p.1.1.1.1.1.1.1.1.1.1.0 (λ i. omega arith) in
      let formed_then : last form_tree ≡ four form_tree = s.1.1.1.1.1.1.1.1.1.1.0 (λ i. omega arith) in
      let undated : four daydetail_tree ≡ one daydetail_tree =
      r.1.1.1.1.1.1.1.1.1.0 (λ i. omega arith) ∙ q.1.1.1.1.1.1.1.1.1.0 (λ i. omega arith) ∙ p.1.1.1.1.1.1.1.1.1.0 (λ i. omega arith) in
      let new_days : Gains head_tree (map unit_cells additions.new_days.items) one last =
      gains_kept head_tree (map unit_cells additions.new_days.items) one two last days.put.rows heads in
      let forms_put : Gains form_tree (map form_cells (heads_of additions)) one last =
      gains_kept form_tree (map form_cells (heads_of additions)) one four last
      (kept_gains form_tree (map form_cells (heads_of additions)) one three four bare forms.rows) formed_then in
      let packs_put : NamesMore one last version_facts = named_on one two three last version_facts unpacked packed packs.1 in
      let dates : Gains daydetail_tree (map detail_cells (details_of additions.details.items)) one last =
      kept_gains daydetail_tree (map detail_cells (details_of additions.details.items)) one four last undated details.rows in
      let left : Keeps one last after_forms.tables =
      keeps_on one four last after_forms.tables
      (keeps_on one three four after_forms.tables
      (keeps_on one two three after_forms.tables (untouched one two head_tree (omega arith) p.1.1.1.1.1.1.1.1.1.1.1)
      (untouched two three pack_tree (omega arith) q.1.1.1.1.1.1.1.1.1.1.1))
      (untouched three four form_tree (omega arith) r.1.1.1.1.1.1.1.1.1.1.1)) (untouched four last daydetail_tree (omega arith) s.1.1.1.1.1.1.1.1.1.1.1) in
      let keeps : KeepsUnits additions.new_days.items (one head_tree) (last head_tree) =
      subst (KeepsUnits additions.new_days.items (one head_tree)) (sym heads) days.keeps in
      let say : SayUnits (heads_of additions) last = λ head m row n. days.say head m row (subst (Member row) heads n) in
      let named : IsMore (form_heads last ++ daily_own last) (form_heads one ++ daily_own one)
      (map HeadIs (heads_of additions) ++ (version_facts ++ map DetailIs (details_of additions.details.items))) =
      more_both (form_heads one) (daily_own one) (form_heads last) (daily_own last) (map HeadIs (heads_of additions))
      (version_facts ++ map DetailIs (details_of additions.details.items))
      (forms_more one last additions.new_days.items additions.heads.items sound details.sound keeps say forms_put)
      (more_both (pack_versions one) (day_details one) (pack_versions last) (day_details last)
      version_facts (map DetailIs (details_of additions.details.items)) packs_put.names
      (more detail_part detail_bare (details_of additions.details.items) (says_details (details_of additions.details.items)) one last dates)) in
      record {
        schema = details.schema;
        rows = (new_days, forms_put, packs_put, dates, left);
        names = subst (IsMore (form_heads last ++ daily_own last) (form_heads one ++ daily_own one))
            (sym (append_assoc (map HeadIs (heads_of additions)) version_facts (map DetailIs (details_of additions.details.items)))) named;
        others = (
          s.0 (λ i. omega arith) ∙ r.0 (λ i. omega arith) ∙ q.0 (λ i. omega arith) ∙ p.0 (λ i. omega arith),
          (
            s.1.1.0 (λ i. omega arith) ∙ r.1.1.0 (λ i. omega arith) ∙ q.1.1.0 (λ i. omega arith) ∙ p.1.1.0 (λ i. omega arith),
            (
              s.1.1.1.0 (λ i. omega arith) ∙ r.1.1.1.0 (λ i. omega arith) ∙ q.1.1.1.0 (λ i. omega arith) ∙ p.1.1.1.0 (λ i. omega arith),
              (
                s.1.1.1.1.0 (λ i. omega arith) ∙ r.1.1.1.1.0 (λ i. omega arith) ∙ q.1.1.1.1.0 (λ i. omega arith)
                    ∙ p.1.1.1.1.0 (λ i. omega arith),
                (
                  s.1.1.1.1.1.0 (λ i. omega arith) ∙ r.1.1.1.1.1.0 (λ i. omega arith) ∙ q.1.1.1.1.1.0 (λ i. omega arith)
                      ∙ p.1.1.1.1.1.0 (λ i. omega arith),
                  (
                    s.1.1.1.1.1.1.0 (λ i. omega arith) ∙ r.1.1.1.1.1.1.0 (λ i. omega arith) ∙ q.1.1.1.1.1.1.0 (λ i. omega arith)
                        ∙ p.1.1.1.1.1.1.0 (λ i. omega arith),
                    (
                      s.1.1.1.1.1.1.1.0 (λ i. omega arith) ∙ r.1.1.1.1.1.1.1.0 (λ i. omega arith) ∙ q.1.1.1.1.1.1.1.0 (λ i. omega arith)
                          ∙ p.1.1.1.1.1.1.1.0 (λ i. omega arith),
                      tt,
                    ),
                  ),
                ),
              ),
            ),
          ),
        );
        sound = details.sound;
      }

-- What is put by itself, and what is put behind it, is what is added.
pub all_then : (a b c : State) (additions : Additions) (periods : List PeriodRow) (jobs : List JobRow)
    → AreRowsOf IsRowOfPeriod additions.periods.items periods → AreRowsOf IsRowOfJob additions.jobs.items jobs
    → HasCleanDisk c → IsAt current_schema b → PutsOwn current_layout GainsForms a b additions
    → PutsRestThere current_schema b c additions periods jobs → HasAddedOf current_layout GainsForms additions a.now.trees c.now.trees
all_then a b c additions periods jobs of_periods of_jobs clean there own rest =
    all_put current_layout GainsForms steady_forms a b c additions periods jobs of_periods of_jobs own rest
    (rest.puts clean there.is_open there.schema there.sound)
