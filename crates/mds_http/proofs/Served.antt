-- One connection, and more of them.
use Rattle.std.specs.Prelude.{◌≡◌, ◌+◌, ◌≤◌, ℕ, List, [], ◌∷◌, ◌++◌, length, Option, Result, Ok, Err, refl}
use Rattle.std.proofs.Common.{subst, arith}
use Rattle.std.proofs.lemmas.List.{length-append}
use Rattle.mds_keeper.specs.Kept.{Kept}
use Rattle.mds_wire.specs.Meaning.{Answer}
use Rattle.mds_wire.specs.Serving.{ServesAnswer}
use Rattle.mds_wire.specs.declared.answer.Status.{Status}
use Rattle.mds_wire.specs.declared.serve.WireFault.{WireFault}
use Rattle.mds_wire.specs.declared.serve.WireFault.TheVariants.{Read, Closed, Write, Memory}
use Rattle.mds_http.specs.Bodies.{TakesMemoryAt}
use Rattle.mds_http.specs.Handling.{Handles}
use Rattle.mds_http.specs.Laws.{AreServed}
use Rattle.mds_http.specs.Serving.{IsSame, ServesOver}
use Rattle.mds_http.specs.declared.handling.StoreHandler.{StoreHandler}
use Rattle.mds_http.specs.Connections.{HasServed}

module _ {K : Type 0} (kept : K → Kept) where
  answered : (left held holds : Option (List ℕ)) (bytes : List ℕ) (old new : StoreHandler K)
      (result : Result Status WireFault) → ServesAnswer (Handles kept) IsSame TakesMemoryAt left held holds bytes old new result
      → HasServed kept old 1 new
  answered left held holds bytes old new (Ok status) it = ((bytes, it.0) ∷ [], omega arith, (new, it.2, refl))
  answered left held holds bytes old new (Err Write) it = ((bytes, it.0) ∷ [], omega arith, (new, it.1, refl))
  answered left held holds bytes old new (Err Read) it = ([], omega arith, it.0)
  answered left held holds bytes old new (Err Closed) it = ([], omega arith, it.0)
  answered left held holds bytes old new (Err Memory) it = ([], omega arith, it.0)

  -- a call that served one request
  pub one_served : {R : Type 0} (gives : R → List ℕ → R → Type 0) (reader_old reader_new : R)
      (old_left new_left held holds : Option (List ℕ)) (old new : StoreHandler K) (result : Result Status WireFault)
      → ServesOver kept gives reader_old reader_new old_left new_left held holds old new result
      → HasServed kept old 1 new
  one_served gives reader_old reader_new old_left new_left held holds old new result serves =
      answered new_left held holds serves.bytes old new result serves.is

  -- a connection that was let go
  pub none_served : (a : StoreHandler K) → HasServed kept a 1 a
  none_served a = ([], omega arith, refl)

  served_on : (a b c : StoreHandler K) (xs ys : List (List ℕ × Answer)) → AreServed kept a xs b → AreServed kept b ys c
      → AreServed kept a (xs ++ ys) c
  served_on a b c [] ys first more = subst (λ s. AreServed kept s ys c) first more
  served_on a b c (x ∷ xs) ys first more = (first.0, first.1, served_on first.0 b c xs ys first.2 more)

  -- one after the other
  pub more_served : (a b c : StoreHandler K) (n : ℕ) → HasServed kept a n b → HasServed kept b 1 c
      → HasServed kept a (n + 1) c
  more_served a b c n first more = (
    first.0 ++ more.0,
    (let e : length (first.0 ++ more.0) ≡ length first.0 + length more.0 = length-append first.0 more.0 in
        let f = first.1 in let g = more.1 in omega arith),
    served_on a b c first.0 more.0 first.2 more.2,
  )

  -- a bound may be greater
  pub most_served : (a b : StoreHandler K) (n m : ℕ) → n ≤ m → HasServed kept a n b → HasServed kept a m b
  most_served a b n m few it = (it.0, (let f = it.1 in omega (arith, few)), it.2)
