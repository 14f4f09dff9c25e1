-- What calls on mds_pack and the tables behind it leave, as frames.
use Rattle.std.proofs.Common.{◌≡◌, List, IfOk, IsTrue, OnOk, Ok, Err, Result, sym, ap, subst, ◌∙◌}
use Rattle.sqlite.specs.Effect.{Database}
use Rattle.sqlite.specs.Schema.{Schema}
use Rattle.sqlite.specs.State.{HasCleanDisk, IsUnchanged, KeepsCommit, State, Survives}
use Rattle.sqlite_catalog.specs.Listing.{IsSound}
use Rattle.sqlite_trees.specs.Tree.{Trees}
use Rattle.mds_world.specs.Facts.{Fact}
use Rattle.mds_world.specs.declared.facts.Detail.{Detail}
use Rattle.mds_tables.specs.Making.{MakesThere}
use Rattle.mds_tables.specs.Tables.{More, schema_with}
use Rattle.mds_tables.specs.Frames.{Frames, IsAt, Moves}
use Rattle.mds_tables.specs.Parts.{detail_part}
use Rattle.mds_tables.specs.Writing.{Puts, PutsThere}
use Rattle.mds_tables.proofs.FrameLemmas.{frames_err, frames_put}
use Rattle.mds_tables.proofs.PutLemmas.{if_ok}
use Rattle.mds_pack_rows.specs.DailyPutting.{PutsDetails}
use Rattle.mds_pack_rows.specs.DailyTables.{daily_then}
use Rattle.mds_pack_rows.specs.PackTables.{Behind, packs_then}
use Rattle.mds_pack_rows.specs.Putting.{ChangesPacks, FindsThere, GoesOn, IsThere, NamesMore, PutsFacts}

-- where the connection is, in the words of mds_pack
pub there_at : (rest : Behind) (a b : State) → HasCleanDisk b → IsAt (schema_with (packs_then rest.more)) a → IsThere a b
there_at rest a b clean at = record { clean = clean; is_open = at.is_open; rest = rest; schema = at.schema; sound = at.sound }

-- a call whose clauses speak of the tables up to mds_pack, and which keeps the schema
pub frames_there : {X E Done : Type 0} (rest : Behind) (a b : State) (r : Result X E)
    → (Done → IsTrue b.is_open × (b.now.schema ≡ a.now.schema) × IsSound b.now.schema b.now.trees) → OnOk r (GoesOn a b)
    → OnOk r (IsThere a b → Done) → (IsThere a b → KeepsCommit a b) → Survives a b (λ _. ⊥)
    → Frames (schema_with (packs_then rest.more)) (λ _. Done) a b r
frames_there rest a b (Ok x) stands goes_on done kept survives = record {
  was_open = goes_on.was_open;
  is_open = goes_on.is_open;
  inside = goes_on.inside;
  done = λ clean at.
      let it = done (there_at rest a b clean at) in
      let then_at = stands it in
      let has : b.now.schema ≡ schema_with (packs_then rest.more) = then_at.1 ∙ at.schema in
      (record { is_open = then_at.0; schema = has; sound = subst (λ (s : Schema). IsSound s b.now.trees) has then_at.2 }, it);
  kept = λ clean at. kept (there_at rest a b clean at);
  survives = survives;
}
frames_there rest a b (Err e) stands goes_on done kept survives = frames_err (λ clean at. kept (there_at rest a b clean at)) survives

-- versions are put into mds_pack
pub frames_packs : {X E : Type 0} (rest : Behind) (a b : State) (facts : List Fact) (r : Result X E) → OnOk r (PutsFacts a b facts)
    → (IsThere a b → KeepsCommit a b) → Survives a b (λ _. ⊥)
    → Frames (schema_with (packs_then rest.more)) (λ _. ChangesPacks a b × NamesMore a.now.trees b.now.trees facts) a b r
frames_packs rest a b facts r puts kept survives =
    let stands : ChangesPacks a b × NamesMore a.now.trees b.now.trees facts
    → IsTrue b.is_open × (b.now.schema ≡ a.now.schema) × IsSound b.now.schema b.now.trees =
    λ it. (it.0.is_open, it.0.schema, it.0.sound) in
    frames_there rest a b r stands (if_ok r _ _ (λ (p : PutsFacts a b facts). p.0) puts) (if_ok r _ _ (λ (p : PutsFacts a b facts). p.1) puts) kept survives

-- details are put into mds_daydetail
pub frames_details : {X E : Type 0} (more : More) (a b : State) (items : List Detail) (r : Result X E) → OnOk r (PutsDetails a b items)
    → (HasCleanDisk b → KeepsCommit a b) → Survives a b (λ _. ⊥)
    → Frames (schema_with (daily_then more)) (λ _. Puts (schema_with (daily_then more)) detail_part a b items) a b r
frames_details more a b items r puts kept survives =
    frames_put r (if_ok r (PutsDetails a b items) (PutsThere (schema_with (daily_then more)) detail_part a b items) (λ puts. puts more) puts) kept survives

-- where all is as it was the connection is still there
unchanged_at : {under : Schema} (a b : State) → IsUnchanged a b → IsAt under a → IsAt under b
unchanged_at {under} a b same at = record {
  is_open = same.0.is_open;
  schema = ap (λ (d : Database). d.schema) same.0.now_is ∙ at.schema;
  sound = subst (λ (d : Database). IsSound under d.trees) (sym same.0.now_is) at.sound;
}

-- a query is answered
pub frames_finds : {X E : Type 0} (more : More) (a b : State) (r : Result X E) (Shows : X → Trees → Type 0)
    → (HasCleanDisk b → IsTrue a.is_open → IfOk r (λ x. FindsThere a b (Shows x))) → OnOk r (GoesOn a b)
    → (HasCleanDisk b → IsTrue a.is_open → (rest : More) → a.now.schema ≡ schema_with (packs_then rest) → KeepsCommit a b) → Survives a b (λ _. ⊥)
    → Frames (schema_with (packs_then more)) (λ x. IsUnchanged a b × Shows x a.now.trees) a b r
frames_finds more a b (Ok x) Shows finds goes_on kept survives = record {
  was_open = goes_on.was_open;
  is_open = goes_on.is_open;
  inside = goes_on.inside;
  done = λ clean at.
      let it = finds clean at.is_open in
      let same : IsUnchanged a b = it.same more at.schema in
      let whole : IsSound a.now.schema a.now.trees = subst (λ (s : Schema). IsSound s a.now.trees) (sym at.schema) at.sound in
      (unchanged_at a b same at, (same, it.shows more at.schema whole));
  kept = λ clean at. kept clean at.is_open more at.schema;
  survives = survives;
}
frames_finds more a b (Err e) Shows finds goes_on kept survives = frames_err (λ clean at. kept clean at.is_open more at.schema) survives

-- a table is made behind those that there are
pub frames_make : {X E Made : Type 0} (s t : Schema) (a b : State) (r : Result X E)
    → (Made → IsTrue b.is_open × (b.now.schema ≡ t) × IsSound t b.now.trees) → OnOk r (MakesThere s t a b)
    → OnOk r (HasCleanDisk b → IsTrue a.is_open → a.now.schema ≡ s → Made) → (HasCleanDisk b → KeepsCommit a b) → Survives a b (λ _. ⊥)
    → Moves s t (λ _. Made) a b r
frames_make s t a b (Ok x) stands there makes kept survives = record {
  was_open = there.was_open;
  is_open = there.is_open;
  inside = there.inside;
  done = λ clean at.
      let it = makes clean at.is_open at.schema in
      let then_at = stands it in
      (record { is_open = then_at.0; schema = then_at.1; sound = then_at.2 }, it);
  kept = λ clean _. kept clean;
  survives = survives;
}
frames_make s t a b (Err e) stands there makes kept survives = frames_err (λ clean _. kept clean) survives
