use Rattle.std.proofs.Common.{rules}
use Rattle.std.proofs.lemmas.List.Sorted.{answers_always}
use Rattle.mds_keeper.specs.BookOrder.{IsInOrder, SameMembers, comes_before}
use Rattle.mds_keeper.proofs.BookRowsMade.{deduped, joined, moved, ranks}
use Rattle.mds_keeper.proofs.day_book.put_in_order.Goals as goal

made : (c : goal.After-dedup_by) → SameMembers c.sort_unstable_by.new.self.items c.dedup_by.new.self.items
    × IsInOrder c.dedup_by.new.self.items
made c = deduped _ (λ s x k b t left kept r. search rules) _ c.sort_unstable_by.new.self.items
    c.dedup_by.new.self.items c.dedup_by.ensures.filtered
    (c.sort_unstable_by.ensures.sorted comes_before ranks (answers_always _ _ _ (λ f a r g h. search rules)))

pub returns-clause-members : goal.returns-clause-members
returns-clause-members c = joined _ _ _ (moved _ _ c.sort_unstable_by.ensures.permutation) (made c).0

pub returns-clause-sorted : goal.returns-clause-sorted
returns-clause-sorted c = (made c).1
