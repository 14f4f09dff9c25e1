-- What calls on a connection leave, put together.
use Rattle.std.proofs.Common.{◌≡◌, ◌≤◌, inl, inr, ℕ, List, [], length, codes, Bool, true, false, IsTrue, Ok, Err, Result, refl, sym, ap, subst, arith}
use Rattle.sqlite.specs.Listing.{understood}
use Rattle.sqlite.specs.Order.{Row}
use Rattle.sqlite.specs.Schema.{Schema}
use Rattle.sqlite.specs.State.{State, Fails, IsNotRun, Survives, KeepsCommit, ExecutesInside}
use Rattle.sqlite.specs.declared.error.Error.{Error}
use Rattle.sqlite.proofs.InsideLemmas.{inside_keeps}
use Rattle.sqlite.proofs.StateLemmas.{survives_then}
use Rattle.sqlite_resolve.specs.declared.compiled.Compiled.{Compiled}
use Rattle.sqlite_resolve.specs.declared.error.CompileError.{CompileError}
use Rattle.sqlite_tied.specs.Compute.{everything}
use Rattle.mds_tables.specs.Stores.{ChangesNothing}

pub survives_same : (s : State) → Survives s s (λ _. ⊥)
survives_same s = record {
  clean = omega arith;
  shield = λ h. h;
  counts = omega arith;
  limit = refl;
  closes = λ _ o. inl o;
  crash = λ _ db may. inl may;
}

pub survives_more : (a b c : State) → Survives a b (λ _. ⊥) → Survives b c (λ _. ⊥) → Survives a c (λ _. ⊥)
survives_more a b c = survives_then a b c (λ _. ⊥) (λ _. ⊥) (λ _. ⊥) (λ _ db none. none) (λ _ db none. none)

-- a transaction that wrote was not over
pub still : {X : Type 0} (b : Bool) (r : Result ℕ Error) (e : Error) (n : ℕ) → (b ≡ false → (r ≡ Err e) × X)
    → r ≡ Ok n → IsTrue b
still true r e n ended is = refl
still false r e n ended is = absurd (let it = (ended refl).0 in cc)

pub keeps_same : (s : State) → KeepsCommit s s
keeps_same s = record { was_open = λ o. o; committed = λ _. refl }

-- whatever it did, a transaction that is under way commits nothing
pub keeps : (old new : State) (sql : List ℕ) (params : Row) (r : Result ℕ Error)
    → (old.in_transaction ≡ false → new ≡ old)
    → (IsTrue old.in_transaction → ExecutesInside 0 sql params old new r)
    → KeepsCommit old new
keeps old new sql params r over runs =
    elim (old.in_transaction) as (λ b. (b ≡ false → new ≡ old) → (b ≡ true → ExecutesInside 0 sql params old new r)
    → KeepsCommit old new) [
      | true ↦ λ _ runs. inside_keeps old new 0 false sql params r (runs refl)
      | false ↦ λ over _. subst (KeepsCommit old) (sym (over refl)) (keeps_same old)
    ] over runs

pub not_run : (old new : State) (sql : List ℕ) (params : Row) (e : Error) → IsNotRun old new sql params e
    → ChangesNothing old new
unfolding IsNotRun
not_run old new sql params e (inl h) = inl h.1
not_run old new sql params e (inr h) = inr h.3

-- a text that is one statement, without a parameter, which doesn't read the time
abbrev IsWhole : List ℕ → Result Compiled CompileError → Type 0
IsWhole sql (Ok c) = (length sql ≤ c.tail) × (c.names ≡ []) × (c.formats ≡ [])
IsWhole sql (Err e) = ⊥

abbrev select_1 : List ℕ
select_1 = codes "SELECT 1"

select_1_whole : (schema : Schema) → IsWhole select_1 (understood schema select_1)
unfolding understood everything
select_1_whole schema = (omega arith, refl, refl)

-- it is run under any schema, unless the store fails
pub select_1_runs : (old new : State) (e : Error) → IsNotRun old new select_1 [] e → Fails old new ⊥ e
unfolding IsNotRun
select_1_runs old new e (inr fails) = fails
select_1_runs old new e (inl h) =
    let whole = select_1_whole old.now.schema in
    absurd (elim (h.0) [
      | inl fault ↦ subst (IsWhole select_1) fault.1 whole
      | inr known ↦
          let it = subst (IsWhole select_1) known.1 whole in
          elim (known.2) [
            | inl long ↦ long.0 it.0
            | inr (inl given) ↦ given.0 (sym (ap length it.1))
            | inr (inr timed) ↦ timed.0 it.2
          ]
    ])
