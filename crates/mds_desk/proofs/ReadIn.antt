-- How the import of what was read goes.
use Rattle.std.specs.Prelude.{◌≡◌, ℕ, List, ◌++◌, true, Option, Some, None, IfSome, Result, Ok, Err}
use Rattle.std.specs.List.{concat}
use Rattle.std.proofs.Common.{inl, inr, refl, sym, ap, ◌∙◌, subst}
use Rattle.mds_records.specs.declared.file.FileFault.{FileFault}
use Rattle.mds_records.specs.declared.file.FileKind.TheVariants.{Nem12}
use Rattle.mds_statements.specs.Delivered.{delivery_statements}
use Rattle.mds_statements.specs.Statements.{Statement}
use Rattle.mds_statements.specs.declared.delivery.Delivery.{Delivery}
use Rattle.mds_walk.specs.Given.{IsOfGiven, MayLackGiven}
use Rattle.mds_walk.specs.declared.fault.ReadFault.{ReadFault}
use Rattle.mds_walk.specs.declared.fault.ReadFault.TheVariants as unread
use Rattle.mds_world.specs.World.{World}
use Rattle.mds_keeper.specs.Kept.{Kept}
use Rattle.mds_messages.specs.Answers.{has_list}
use Rattle.mds_messages.specs.declared.answer.Answer.{Answer}
use Rattle.mds_messages.specs.declared.answer.Answer.TheVariants as told
use Rattle.mds_nem12.specs.Answers.{IsReadOf, MayLackMemory}
use Rattle.mds_nem12.specs.Faults.{fault_of, nem12}
use Rattle.mds_nem12.specs.Statements.{statements_of}
use Rattle.mds_service.specs.Crashes.{GoesBy}
use Rattle.mds_service.specs.Machine.{ImportStep, TakesIn}
use Rattle.mds_service.proofs.Deliveries.{as_import}
use Rattle.mds_service.proofs.Steps.{unasked}
use Rattle.mds_desk.specs.Imported.{GoesByRead, GoesByText, IsImportOf}
use Rattle.mds_desk.specs.Performed.{IsToldAs}

module _ (statements : List Statement) where
  -- what takes statements in isn't answered with a list
  no_list : (w v : World) (answer : Answer) → has_list answer ≡ true → TakesIn w statements answer v → ⊥
  no_list w v (told.Imported added known) list h = cc
  no_list w v (told.Substituted count) list h = h
  no_list w v (told.Known count) list h = h
  no_list w v (told.HolidaysAdded added known) list h = h
  no_list w v (told.Day answer) list h = h
  no_list w v (told.Versions answer) list h = h
  no_list w v (told.Period answer) list h = h
  no_list w v (told.Streams answers) list h = h
  no_list w v (told.Gaps it) list h = h
  no_list w v (told.Finals it) list h = h
  no_list w v (told.Missing it) list h = h
  no_list w v (told.Readings it) list h = h
  no_list w v (told.Exported it) list h = h
  no_list w v (told.File fault) list h = h
  no_list w v (told.Refused refusal) list h = cc
  no_list w v told.Unavailable list h = cc

  -- so it is told as it is
  pub told_so : {a b : Kept} (answer other : Answer) → IsToldAs answer other → GoesBy a b (λ w. TakesIn w statements) answer
      → GoesBy a b (λ w. TakesIn w statements) other
  told_so {a = a} {b = b} answer other (inl same) goes = subst (GoesBy a b (λ w. TakesIn w statements)) (sym same) goes
  told_so answer other (inr wanting) goes = record {
    outside = goes.outside;
    before = goes.before;
    step = λ honest w lawful shows.
        let it = goes.step honest w lawful shows in absurd (no_list w it.0 answer wanting.0 it.2);
  }

-- What was read is taken in, or told.
module _ (read : Result Delivery ReadFault) where
  pub read_delivered : {a b : Kept} (delivery : Delivery) (answer : Answer) → read ≡ Ok delivery
      → GoesBy a b (λ w. TakesIn w (delivery_statements delivery)) answer → GoesByRead a b answer read
  read_delivered {a = a} {b = b} delivery answer is goes = subst (GoesByRead a b answer) (sym is) goes

  pub read_faulted : (a : Kept) (fault : ReadFault) (found : FileFault) → read ≡ Err fault → fault ≡ unread.File found
      → GoesByRead a a (told.File found) read
  read_faulted a fault found is same = subst (GoesByRead a a (told.File found)) (sym (is ∙ ap Err same)) refl

module _ (text : List ℕ) where
  module _ {a b : Kept} where
    -- what a text states is taken in
    pub delivered : (delivery : Delivery) (answer : Answer) → IsReadOf text (Ok delivery)
        → GoesBy a b (λ w. TakesIn w (delivery_statements delivery)) answer → GoesBy a b (λ w. ImportStep w Nem12 text) answer
    delivered delivery answer read goes = as_import Nem12 text read.0 (delivery_statements delivery) read.1 goes

  -- a text with a fault is answered with it
  pub faulted : {a : Kept} (fault : ReadFault) (found : FileFault) → fault ≡ unread.File found → IsReadOf text (Err fault)
      → GoesBy a a (λ w. ImportStep w Nem12 text) (told.File found)
  faulted fault found is read =
      let known : IsReadOf text (Err (unread.File found)) = subst (λ it. IsReadOf text (Err it)) is read in unasked (λ w. (known, refl))

-- What is said of whatever text was read is said of what a reader gave.
module _ {a b : Kept} {answer : Answer} (read : Result Delivery ReadFault) (goes : (text : List ℕ) → IsReadOf text read → GoesByText a b answer text) where
  -- that is known
  pub of_known : (known : Option (List ℕ)) → IfSome known (λ text. IsReadOf text read) → IfSome known (GoesByText a b answer)
  of_known None h = tt
  of_known (Some text) h = goes text h

  -- it is what the calls brought
  pub of_given : (given : List (List ℕ)) → IsOfGiven (λ delivery text. delivery_statements delivery ≡ statements_of text) fault_of (MayLackGiven MayLackMemory nem12) given read → IsImportOf a b answer given
  of_given given h = at read h goes where
    at : (it : Result Delivery ReadFault) → IsOfGiven (λ delivery text. delivery_statements delivery ≡ statements_of text) fault_of (MayLackGiven MayLackMemory nem12) given it
        → ((text : List ℕ) → IsReadOf text it → GoesByText a b answer text) → IsImportOf a b answer given
    at (Ok delivery) h goes = inl (h.0, goes (concat given) (h.1, h.2))
    at (Err (unread.File fault)) (inl h) goes = inl (h.0, goes (concat given) h.1)
    at (Err (unread.File fault)) (inr h) goes = inr (λ more. goes (concat given ++ more) (h more))
    at (Err unread.Read) h goes = inr (λ more. goes (concat given ++ more) tt)
    at (Err unread.Memory) h goes = inr (λ more. goes (concat given ++ more) tt)
