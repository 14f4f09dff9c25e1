use Rattle.std.proofs.Common.{◌≡◌, ◌++◌, ◌+◌, ◌-◌, [], eqb, length, take, drop, sym, ◌∙◌, ap, arith}
use Rattle.std.specs.List.{slice_range}
use Rattle.std.specs.Vec.{with_items}
use Rattle.std.proofs.lemmas.List.{with_items_is, length-take, length-drop, length-append}
use Rattle.mds_lines.proofs.Ranges.{range_filled}
use Rattle.mds_lines.proofs.Lefts.{left_filled, zero_from_test}
use Rattle.mds_lines.proofs.reader.LineBuffer.fill.Goals as goal

pub returns-in-Ok-clause-fills : goal.returns-in-Ok-clause-fills
returns-in-Ok-clause-fills g c =
    let moved = c.with_room-start.new.bytes in
    let room = c.deref_mut-2.result.now in
    let start = c.with_room-start.result.0 in
    let end = c.with_room-start.result.1 in
    let bytes = c.read.new.buffer in
    let count = c.in-Ok.count in
    let size = c.self.inside.bytes.ok.0 in
    let same : room ≡ moved = c.deref_mut-2.ensures.value ∙ with_items_is c.self.inside.bytes moved (omega arith) in
    let after = drop (length room - end) (drop end room) in
    let items = with_items_is (with_items c.self.inside.bytes moved) (take end room ++ (bytes ++ after)) (simp (length-append, length-take, length-drop) (omega (arith, c.read.auto.buffer, c.deref_mut-2.ensures.len, ap length same))) in
    let is = range_filled room bytes after start end count (omega arith) (omega arith) (omega (arith, c.in-Ok.ensures.bound)) in
    let old = ap (λ xs. slice_range xs start end) same ∙ c.with_room-start.ensures.kept ∙ ap (λ xs. slice_range xs c.self.inside.start c.self.inside.end) c.deref_mut.ensures.value ∙ ap (λ v. v.pending) c.self.view_is in
    let grown = ap (λ xs. slice_range xs start (end + count)) items ∙ is ∙ ap (λ xs. xs ++ take count bytes) old in
    record {
      bytes = take count bytes;
      gave = c.in-Ok.ensures.gives;
      more = grown;
      ended = λ _. ap (λ k. eqb k 0) c.in-Ok.ensures.bound.1;
    }

pub returns-in-Err-clause-fills : goal.returns-in-Err-clause-fills
returns-in-Err-clause-fills g c =
    let moved = c.with_room-start.new.bytes in
    let room = c.deref_mut-2.result.now in
    let start = c.with_room-start.result.0 in
    let end = c.with_room-start.result.1 in
    let bytes = c.read.new.buffer in
    let size = c.self.inside.bytes.ok.0 in
    let same : room ≡ moved = c.deref_mut-2.ensures.value ∙ with_items_is c.self.inside.bytes moved (omega arith) in
    let after = drop (length room - end) (drop end room) in
    let items = with_items_is (with_items c.self.inside.bytes moved) (take end room ++ (bytes ++ after)) (simp (length-append, length-take, length-drop) (omega (arith, c.read.auto.buffer, c.deref_mut-2.ensures.len, ap length same))) in
    let is = range_filled room bytes after start end 0 (omega arith) (omega arith) (omega arith) in
    let old = ap (λ xs. slice_range xs start end) same ∙ c.with_room-start.ensures.kept ∙ ap (λ xs. slice_range xs c.self.inside.start c.self.inside.end) c.deref_mut.ensures.value ∙ ap (λ v. v.pending) c.self.view_is in
    let none : end + 0 ≡ end = omega arith in
    record {
      bytes = [];
      gave = c.in-Err.ensures.gives;
      more = ap (λ xs. slice_range xs start end) items ∙ ap (λ k. slice_range (take end room ++ (bytes ++ after)) start k) (sym none) ∙ is ∙ ap (λ xs. xs ++ []) old;
      ended = λ e. absurd (cc);
    }

pub returns-in-Ok-clause-left : goal.returns-in-Ok-clause-left
unfolding returns-in-Ok-clause-fills
returns-in-Ok-clause-left g c =
    let moved = c.with_room-start.new.bytes in
    let size = c.self.inside.bytes.ok.0 in
    let same : c.deref_mut-2.result.now ≡ moved = c.deref_mut-2.ensures.value ∙ with_items_is c.self.inside.bytes moved (omega arith) in
    left_filled _ _ _ _ (take c.in-Ok.count c.read.new.buffer) _ _ c.requires.goes_on (returns-in-Ok-clause-fills g c).more c.in-Ok.ensures.bytes.0
    (λ ended. c.in-Ok.ensures.bytes.1 (zero_from_test c.in-Ok.count ended) (omega (arith, ap length same, c.read.auto.buffer)))
