-- What CREATE TABLE makes, and that it isn't refused.
use Rattle.std.proofs.Common.{◌≡◌, inl, inr, ℕ, ◌-◌, List, [], ◌∷◌, ◌++◌, length, take_all, le_refl, false, None, Some, Option, Ok, Err, refl, sym, ap, subst, ◌∙◌, arith}
use Rattle.std.proofs.lemmas.Bool.{both_ways}
use Rattle.std.specs.List.{AllByRecursion}
use Rattle.sqlite.specs.Change.{KeepsRows, created, is_used, next_tree}
use Rattle.sqlite.specs.Command.TheVariants.{CreateTable}
use Rattle.sqlite.specs.Compile.{table_defined_by}
use Rattle.sqlite.specs.Does.{Does, MakesTable, Tally, lacks_sequence}
use Rattle.sqlite.specs.Effect.{Database}
use Rattle.sqlite.specs.Listing.{understood}
use Rattle.sqlite.specs.Schema.{Schema}
use Rattle.sqlite.specs.State.{Executes, ExecutesInside, HasCleanDisk, State, Writes, mode_of}
use Rattle.sqlite.specs.Table.{Table}
use Rattle.sqlite.specs.declared.error.Error.{Error}
use Rattle.sqlite.specs.declared.run.Mode.{Mode}
use Rattle.sqlite.proofs.Callers.{IsPlain, command_of, runs_as, statement_of}
use Rattle.sqlite_catalog.specs.Calls.{IsLongTable, RefusesTable}
use Rattle.sqlite_catalog.specs.Listing.{IsSound}
use Rattle.sqlite_catalog.specs.declared.error.Refusal.{Refusal}
use Rattle.sqlite_catalog.specs.declared.error.Refusal.TheVariants.{Invalid, NameTaken, BadName, TooBig, BadKey, BadText, Violates}
use Rattle.sqlite_rules.specs.Lists.{Has}
use Rattle.mds_tables.specs.Causes.{StoreFails}
use Rattle.mds_tables.specs.Making.{AreEmpty, MakesThere}
use Rattle.mds_tables.proofs.CauseLemmas.{IsWhole, fails_until, stopped_as}
use Rattle.mds_tables.proofs.CreateTexts.{IsMakeable, IsText, read_whole}
use Rattle.mds_tables.proofs.InsertLemmas.{same_value, went}

-- there is a table without rows more, and the others have the rows that they had
pub record Makes (before after : Schema) (tree : ℕ) (old new : Database) : Type 0 where
  pub schema : new.schema ≡ after
  pub empty : new.trees tree ≡ []
  pub others : KeepsRows before.tables old.trees new.trees
  pub sound : IsSound after new.trees

-- tables without rows, which keep them, and one more
one_more : (tables : List Table) (table : Table) (old new : Database) → KeepsRows tables old.trees new.trees → AreEmpty tables old
    → new.trees table.tree ≡ [] → AreEmpty (tables ++ table ∷ []) new
one_more [] table old new same none empty = (empty, tt)
one_more (t ∷ tables) table old new same none empty = (same.0 ∙ none.0, one_more tables table old new same.1 none.1 empty)

-- ---- no rule is against it

pub all_of : {X : Type 0} (P : X → Type 0) (xs : List X) (x : X) → AllByRecursion P xs → Has xs x → P x
all_of P [] x all has = absurd has
all_of P (y ∷ ys) x all (inl is) = subst P (sym is) all.0
all_of P (y ∷ ys) x all (inr has) = all_of P ys x all.1 has

module _ (schema : Schema) (text : List ℕ) (table : Table) (it : IsMakeable schema text table) where
  same_table : (made : Table) → table_defined_by text ≡ Ok made → made ≡ table
  same_table made is = same_value (sym is ∙ it.defined)

  not_refused : (why : Refusal) → ¬ RefusesTable schema text why
  not_refused (Invalid e) h = absurd (let both = sym h ∙ it.defined in cc)
  not_refused NameTaken h =
      let is = same_table h.0 h.1 in
      elim (h.2) [
        | inl taken ↦ both_ways _ it.free (rw is at taken)
        | inr automatic ↦
            let there = rw is at automatic in
            both_ways _ (all_of (λ i. is_used schema i.name ≡ false) _ there.0 it.apart there.1) there.2
      ]
  not_refused BadName h =
      let is = same_table h.0 h.1 in
      elim (h.2) [ inl odd ↦ rw is at odd it.named | inr own ↦ both_ways _ it.own (rw is at (own.0)) ]
  not_refused TooBig h =
      let is = same_table h.0 h.1 in
      elim (h.2) [
        | inl many ↦ omega (arith, it.few, rw is at many)
        | inr (inl wide) ↦ omega (arith, it.reals, rw is at wide)
        | inr (inr key) ↦
            let there = rw is at key in
            omega (arith, all_of _ _ there.0 it.keys there.1, there.2)
      ]
  not_refused BadKey h = both_ways _ (rw (same_table h.0 h.1) at (h.2)) it.formed
  not_refused BadText h = both_ways _ (rw (same_table h.0 h.1) at (h.2)) it.fit
  not_refused (Violates rule) h = h

  not_long : ¬ IsLongTable text
  not_long h = let is = same_table h.0 h.1 in omega (arith, it.short, rw is at (h.2))

-- ---- a text

module _ (before after : Schema) (text : List ℕ) (table : Table) (it : IsText before after text table) where
  command : command_of (understood before text) ≡ CreateTable
  command = ap command_of it.is_read

  statement : statement_of text (understood before text) ≡ text
  statement =
      let from_first : length text - 0 ≡ length text = omega arith in
      let all : statement_of text (Ok (read_whole text)) ≡ text = rw from_first (take_all (length text) text (le_refl (length text))) in
      ap (statement_of text) it.is_read ∙ all

  plain : IsPlain (understood before text)
  plain = subst IsPlain (sym it.is_read) (refl, refl)

  whole : IsWhole text 0 (understood before text)
  whole = subst (IsWhole text 0) (sym it.is_read) (omega arith, refl, refl)

  pub makes : (old new : State) (count : ℕ) → old.now.schema ≡ before → Executes text [] old new (Ok count)
      → Makes before after table.tree old.now new.now
  makes old new count has h =
      let w = subst (λ t. Writes old new None CreateTable t [] count) statement (runs_as text [] old new before has CreateTable command plain count h) in
      let all = went w.changed in
      let first = went all.1 in
      let made = first.1 in
      let both : Ok made.table ≡ Ok (record table { tree = 0 }) = sym made.defined ∙ it.makeable.defined in
      let same : made.table ≡ record table { tree = 0 } = same_value both in
      let schema : first.0.schema ≡ after = made.is ∙ ap (λ s. created s made.table) has ∙ ap (created before) same ∙ it.makes in
      let plainly : lacks_sequence first.0.schema ≡ false = ap lacks_sequence schema ∙ it.uncounted in
      let now : new.now ≡ first.0 = ap (λ (p : Tally × Database). p.1) (same_value all.2) ∙ same_value (rw plainly at first.2) in
      let empty = subst (λ at. first.0.trees at ≡ []) (ap next_tree has ∙ it.placed) made.empty in
      let others = subst (λ (s : Schema). KeepsRows s.tables old.now.trees first.0.trees) has made.others in
      let sound : IsSound after new.now.trees = subst (λ s. IsSound s new.now.trees) (ap (λ (db : Database). db.schema) now ∙ schema) w.sound in
      rw now (record {
        schema = schema;
        empty = empty;
        others = others;
        sound = subst (λ (db : Database). IsSound after db.trees) now sound;
      })

  pub there : (old new : State) (count : ℕ) → (HasCleanDisk new → ExecutesInside 0 text [] old new (Ok count)) → MakesThere before after old new
  there old new count runs = record {
    was_open = λ clean _. (runs clean).1.was_open;
    is_open = λ clean _. (runs clean).1.is_open;
    schema = λ clean _ has. (makes old new count has (runs clean).0).schema;
    inside = λ clean _. (runs clean).1.mode;
    empty = λ clean _ has none.
        let made = makes old new count has (runs clean).0 in
        subst (λ tables. AreEmpty tables new.now) it.last (one_more before.tables table old.now new.now made.others none made.empty);
  }

  -- the database doesn't refuse it
  not_stopped : (db : Database) → db.schema ≡ before → (stop : Option Error) → ¬ MakesTable text db (Err stop)
  not_stopped db has None h = not_long before text (record table { tree = 0 }) it.makeable h
  not_stopped db has (Some e) (inl odd) = odd.0 it.makeable.utf8
  not_stopped db has (Some e) (inr because) =
      not_refused before text (record table { tree = 0 }) it.makeable because.0
      (subst (λ s. RefusesTable s text because.0) has because.1)

  never : (limit : Option ℕ) (mode : Mode) (db : Database) → db.schema ≡ before → (stop : Option Error)
      → ¬ Does limit mode [] db text None CreateTable (Err stop)
  never limit mode db has stop (inl (_, inl (why, refused, _), _)) = not_stopped db has why refused
  never limit mode db has stop (inl (_, inr (mid, made, refused), _)) =
      let same : made.table ≡ record table { tree = 0 } = same_value (sym made.defined ∙ it.makeable.defined) in
      let schema : mid.schema ≡ after = made.is ∙ ap (λ s. created s made.table) has ∙ ap (created before) same ∙ it.makes in
      let plainly : lacks_sequence mid.schema ≡ false = ap lacks_sequence schema ∙ it.uncounted in
      absurd (let no = rw plainly at refused in cc)
  never limit mode db has stop (inr (mid, made, given)) = absurd cc

  -- so it fails only with the store
  pub fails : (old new : State) (e : Error) → old.now.schema ≡ before → ExecutesInside 0 text [] old new (Err e) → StoreFails old new ⊥ e
  fails old new e has h =
      let none = λ (stop : Option Error) (refused : Does old.step_limit (mode_of old) [] old.now (statement_of text (understood before text)) None CreateTable (Err stop)).
      never old.step_limit (mode_of old) old.now has stop (subst (λ t. Does old.step_limit (mode_of old) [] old.now t None CreateTable (Err stop)) statement refused) in
      elim (stopped_as text [] old new before has CreateTable command plain whole tt e h) [
        | inl refused ↦ absurd (none (Some e) refused)
        | inr failed ↦ fails_until old new new _ ⊥ (none None) (omega arith) e failed
      ]

pub none_there : (schema : Schema) (s : State) → MakesThere schema schema s s
none_there schema s = record {
  was_open = λ _ o. o;
  is_open = λ _ o. o;
  schema = λ _ _ has. has;
  inside = λ _ o. o;
  empty = λ _ _ _ none. none;
}
