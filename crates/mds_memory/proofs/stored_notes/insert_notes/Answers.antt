use Rattle.std.proofs.Common.{subst, sym, take}
use Rattle.std.proofs.lemmas.List.{take_all}
use Rattle.mds_memory.proofs.Keys.{AreWith, as_before, in_more, in_take}
use Rattle.mds_memory.proofs.Notes.{more_notes, notes_in, same_notes}
use Rattle.mds_memory.proofs.stored_notes.insert_notes.Goals as goal

pub returns-in_default-clause-err : goal.returns-in_default-clause-err
returns-in_default-clause-err c = same_notes c.take_out.new.notes c.args.notes.now
    (as_before c.args.notes.now.keys c.insert_copy.new.notes.keys c.take_out.new.notes.keys (take c.loop-i.i c.args.more.now)
    (subst (λ ks. AreWith ks c.args.notes.now.keys (take c.loop-i.i c.args.more.now)) (sym c.in_default.ensures.err) c.loop-i.invariant)
    c.take_out.ensures
    (λ q m n. c.requires.absent q (in_take c.loop-i.i c.args.more.now q m) (notes_in c.args.notes.now q n)))

pub loop-i-preserved : goal.loop-i-preserved
loop-i-preserved c =
    in_more _ _ c.insert_copy.new.notes.keys c.args.more.now c.loop-i.i c.index-more-i.result c.loop-i-test.true
    c.index-more-i.is c.loop-i.invariant c.in-Ok.ensures.ok

pub returns-clause-ok : goal.returns-clause-ok
returns-clause-ok c =
    more_notes c.args.notes.now c.loop-i.notes c.args.more.now
    (subst (AreWith c.loop-i.notes.keys c.args.notes.now.keys)
    (take_all c.loop-i.i c.args.more.now c.loop-i-test.false) c.loop-i.invariant)
