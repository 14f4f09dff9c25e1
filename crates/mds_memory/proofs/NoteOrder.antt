-- The order of the notes: what compares alike is one.
use Rattle.std.specs.Prelude.{◌≡◌}
use Rattle.std.proofs.Common.{ap, refl}
use Rattle.std.specs.Cmp.{IsTotalOrder}
use Rattle.std.specs.FinSet.{IsAntisymmetric, nat_cmp-IsAntisymmetric}
use Rattle.std.specs.declared.cmp.Ordering.{Ordering}
use Rattle.std.specs.declared.cmp.Ordering.TheVariants.{Less, Equal, Greater}
use Rattle.std.specs.Ordering.{ordering_then}
use Rattle.mds_terms.proofs.TermOrder.{event_exact}
use Rattle.mds_memory.specs.declared.stored_notes.Note.{Note}
use Rattle.mds_memory.specs.declared.stored_notes.Note.TheVariants.{Event, Holiday}
use Rattle.mds_memory.specs.contracts.stored_notes.NoteOrd.TheImpl as note_ord
use Rattle.mds_memory.specs.contracts.stored_notes.NoteOrd.TheImpl.Laws as note_laws

abbrev pub note_cmp : Note → Note → Ordering
note_cmp = (note_ord.ghosts).cmp

pub total : IsTotalOrder note_cmp
total = note_laws.total-law

-- where two orders that follow each other tie, both do
pub tie : (first rest : Ordering) → ordering_then first rest ≡ Equal → (first ≡ Equal) × (rest ≡ Equal)
tie Less rest e = cc
tie Equal rest e = (refl, e)
tie Greater rest e = cc

pub exact : IsAntisymmetric note_cmp
exact (Event a) (Event b) e = ap Event (event_exact a b e)
exact (Event a) (Holiday b) e = cc e
exact (Holiday a) (Event b) e = cc e
exact (Holiday a) (Holiday b) e = ap Holiday (nat_cmp-IsAntisymmetric a b e)
