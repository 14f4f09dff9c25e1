-- From the library's words for a failure to its cause.
use Rattle.std.proofs.Common.{◌≡◌, ◌⊎◌, ◌≤◌, inl, inr, ℕ, List, [], ◌||◌, length, false, not, ◌&&◌, is_some, IsTrue, Option, None, Some, Ok, Err, Result, sym, ap, subst, ◌∙◌, arith}
use Rattle.std.proofs.lemmas.Bool.{both_ways}
use Rattle.std.proofs.lemmas.List.{append-nil}
use Rattle.sqlite.specs.Command.{Command}
use Rattle.sqlite.specs.Command.TheVariants.{CreateTable, Insert}
use Rattle.sqlite.specs.Does.{Does}
use Rattle.sqlite.specs.Effect.{is_query}
use Rattle.sqlite.specs.Listing.{understood}
use Rattle.sqlite.specs.Order.{Row}
use Rattle.sqlite.specs.Schema.{Schema}
use Rattle.sqlite.specs.State.{EndsScope, Escapes, ExecutesIn, ExecutesInside, Fails, HasCause, IsMisplaced, IsNotRun, IsNoStatement, RunsCommand, State, is_pragma, mode_of, text_of}
use Rattle.sqlite.specs.declared.error.Error.{Error}
use Rattle.sqlite.specs.Clock.{timed}
use Rattle.sqlite.proofs.Callers.{IsPlain, command_of, statement_of}
use Rattle.sqlite_resolve.specs.declared.compiled.Compiled.{Compiled}
use Rattle.sqlite_resolve.specs.declared.error.CompileError.{CompileError}
use Rattle.sqlite_schema.specs.declared.command.Returning.{Returning}
use Rattle.sqlite_trees.specs.declared.error.StoreError.{StoreError}
use Rattle.sqlite_trees.specs.declared.error.StoreError.TheVariants.{OutOfMemory, Io, Corrupt, Full, Broken, Unstorable}
pub use Rattle.mds_tables.specs.Tabling.{IsWhole}
use Rattle.mds_tables.specs.Causes.{HasFailed, IsBehind, StoreFails}

behind : (old new : State) (TooBig : Type 0) (e : StoreError) → HasCause old new TooBig e → IsBehind old new TooBig e
behind old new TooBig OutOfMemory h = tt
behind old new TooBig Io h = h
behind old new TooBig Corrupt h = h
behind old new TooBig Full h = h
behind old new TooBig Broken h = h
behind old new TooBig Unstorable h = h

-- the library's word for a failure of the store
pub store_fails : (old new : State) (TooBig : Type 0) (e : Error) → Fails old new TooBig e → StoreFails old new TooBig e
store_fails old new TooBig e h = (h.0, h.1, behind old new TooBig h.0 h.2)

module _ (a b c : State) (T U : Type 0) (f : T → U) where
  since : a.faults ≤ b.faults → IsTrue b.is_open → (e : StoreError) → IsBehind b c T e → IsBehind a c U e
  since up is_open OutOfMemory h = h
  since up is_open Io h = omega (arith, up, h)
  since up is_open Corrupt h = omega (arith, up, h)
  since up is_open Full h = omega (arith, up, h)
  since up is_open Broken h = absurd (both_ways _ h is_open)
  since up is_open Unstorable h = f h

  until : b.faults ≤ c.faults → (e : StoreError) → IsBehind a b T e → IsBehind a c U e
  until up OutOfMemory h = h
  until up Io h = omega (arith, up, h)
  until up Corrupt h = omega (arith, up, h)
  until up Full h = omega (arith, up, h)
  until up Broken h = h
  until up Unstorable h = f h

  -- it failed since an earlier moment
  pub fails_since : a.faults ≤ b.faults → IsTrue b.is_open → (e : Error) → StoreFails b c T e → StoreFails a c U e
  fails_since up is_open e h = (h.0, h.1, since up is_open h.0 h.2)

  -- and until a later one
  pub fails_until : b.faults ≤ c.faults → (e : Error) → StoreFails a b T e → StoreFails a c U e
  fails_until up e h = (h.0, h.1, until up h.0 h.2)

pub failed_since : (a b c : State) → a.faults ≤ b.faults → IsTrue b.is_open → b.step_limit ≡ a.step_limit → (e : Error)
    → HasFailed b c e → HasFailed a c e
failed_since a b c up is_open limit e (inl h) = inl (fails_since a b c ⊥ ⊥ (λ x. x) up is_open e h)
failed_since a b c up is_open limit e (inr h) = inr (rw limit at h)

-- it is a statement under this schema
pub a_statement : (s : State) (sql : List ℕ) (params : Row) (e : Error) → IsWhole sql (length params) (understood s.now.schema sql)
    → ¬ IsNoStatement s sql params e
a_statement s sql params e whole (inl fault) = subst (IsWhole sql (length params)) fault.1 whole
a_statement s sql params e whole (inr known) =
    let it = subst (IsWhole sql (length params)) known.1 whole in
    elim (known.2) [
      | inl long ↦ long.0 it.0
      | inr (inl given) ↦ given.0 (sym it.1)
      | inr (inr timed) ↦ timed.0 it.2
    ]

-- the two kinds of statement that are run in a transaction
abbrev pub IsWrite : Command → Type 0
IsWrite CreateTable = Unit {0}
IsWrite (Insert at from) = Unit {0}
IsWrite _ = ⊥

well_placed : (s : State) (command : Command) (e : Error) → IsWrite command → ¬ IsMisplaced s command e
well_placed s CreateTable e w (inl (_, inl h)) = absurd (let is = h.0 in cc)
well_placed s CreateTable e w (inl (_, inr (inl is, h))) = absurd cc
well_placed s CreateTable e w (inl (_, inr (inr is, h))) = absurd cc
well_placed s CreateTable e w (inr (_, name, inl is, h)) = absurd cc
well_placed s CreateTable e w (inr (_, name, inr is, h)) = absurd cc
well_placed s (Insert at from) e w (inl (_, inl h)) = absurd (let is = h.0 in cc)
well_placed s (Insert at from) e w (inl (_, inr (inl is, h))) = absurd cc
well_placed s (Insert at from) e w (inl (_, inr (inr is, h))) = absurd cc
well_placed s (Insert at from) e w (inr (_, name, inl is, h)) = absurd cc
well_placed s (Insert at from) e w (inr (_, name, inr is, h)) = absurd cc
well_placed s _ e w h = absurd w

stays : (s : State) (command : Command) → IsWrite command → ¬ Escapes 0 s command
stays s CreateTable w (inl (inl is)) = absurd cc
stays s CreateTable w (inl (inr is)) = absurd cc
stays s CreateTable w (inr (name, inl is, h)) = absurd cc
stays s CreateTable w (inr (name, inr is, h)) = absurd cc
stays s (Insert at from) w (inl (inl is)) = absurd cc
stays s (Insert at from) w (inl (inr is)) = absurd cc
stays s (Insert at from) w (inr (name, inl is, h)) = absurd cc
stays s (Insert at from) w (inr (name, inr is, h)) = absurd cc
stays s _ w h = absurd w

silent : (command : Command) (returning : Option Returning) → IsWrite command → returning ≡ None
    → (is_query command || (not false && (is_pragma command || is_some returning))) ≡ false
silent CreateTable returning w none = ap is_some none
silent (Insert at from) returning w none = ap is_some none
silent _ returning w none = absurd w

module _ (sql : List ℕ) (params : Row) (old new : State) (schema : Schema) (has : old.now.schema ≡ schema) (command : Command)
    (is : command_of (understood schema sql) ≡ command) (plain : IsPlain (understood schema sql))
    (whole : IsWhole sql (length params) (understood schema sql)) (writes : IsWrite command) where
  abbrev Stopped : Option Error → Type 0
  Stopped stop =
      Does old.step_limit (mode_of old) params old.now (statement_of sql (understood schema sql)) None command (Err stop)

  ran_as : (e : Error) (c : Compiled) → Ok c ≡ understood schema sql → (now : ℕ) → RunsCommand old new sql c (timed params c.formats now) (Err e)
      → Stopped (Some e) ⊎ Fails old new (Stopped None) e
  ran_as e c known now h =
      let bare = subst IsPlain (sym known) plain in
      let plainly : RunsCommand old new sql c params (Err e) = rw (bare.1, append-nil params) at h in
      let same : c.command ≡ command = ap command_of known ∙ is in
      let text : text_of sql c ≡ statement_of sql (understood schema sql) = ap (statement_of sql) known in
      elim plainly [
        | inl refused ↦ elim (refused.0) [
          | inl misplaced ↦ absurd (well_placed old command e writes (subst (λ k. IsMisplaced old k e) same misplaced))
          | inr stopped ↦ inl (rw (bare.0, same, text) at (stopped.1))
        ]
        | inr failed ↦ inr (rw (bare.0, same, text) at failed)
      ]

  -- why it fails in a transaction: the database refuses it, or the store fails
  pub stopped_as : (e : Error) → ExecutesInside 0 sql params old new (Err e) → Stopped (Some e) ⊎ StoreFails old new (Stopped None) e
  unfolding ExecutesIn IsNotRun EndsScope
  stopped_as e (inl ran) = elim (ran.0) [
    | inl (inl none) ↦ absurd (a_statement old sql params e (subst (λ s. IsWhole sql (length params) (understood s sql)) (sym has) whole) none.0)
    | inl (inr fails) ↦
        let it = store_fails old new ⊥ e fails in
        inr (fails_until old new new ⊥ (Stopped None) (λ x. absurd x) (omega arith) e it)
    | inr h ↦
        let known = sym h.1.is ∙ ap (λ s. understood s sql) has in
        let bare = subst IsPlain (sym known) plain in
        let quiet = silent h.0.command h.0.returning (subst IsWrite (sym (ap command_of known ∙ is)) writes) bare.0 in
        elim (ran_as e h.0 known h.1.now (rw quiet at h.2)) [
          | inl stopped ↦ inl stopped
          | inr fails ↦ inr (store_fails old new (Stopped None) e fails)
        ]
  ]
  stopped_as e (inr ends) =
      let h = ends.0 in
      let known = sym h.1.is ∙ ap (λ s. understood s sql) has in
      absurd (stays old command writes (subst (Escapes 0 old) (ap command_of known ∙ is) h.2))
