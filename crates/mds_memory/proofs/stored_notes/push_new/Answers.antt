use Rattle.std.proofs.Common.{inl, inr, refl, subst, sym, ◌∙◌}
use mathlib.Core.Bool.{true≢false}
use Rattle.mds_memory.specs.StoredNotes.{IsAtEnd}
use Rattle.mds_memory.proofs.stored_notes.push_new.Goals as goal

pub returns-then-is_last : goal.returns-then-is_last
returns-then-is_last c =
    inl (subst (IsAtEnd c.args.stream.now) c.deref.ensures.value (c.is_last.ensures.0 c.if-is_last.true), refl)

pub returns : goal.returns
returns c = inr (
  (λ e. true≢false
      (sym (c.is_last.ensures.1 (subst (IsAtEnd c.args.stream.now) (sym c.deref.ensures.value) e)) ∙ c.if-is_last.false)),
  c.in_ok-push.ensures.items,
)
