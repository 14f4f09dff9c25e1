use Rattle.std.proofs.Common.{length, sym, ◌∙◌, ap, inl, inr, false, arith, length-append, Some, None, refl}
use Rattle.mds_lines.proofs.Gathered.{gathered_none, gathered_more, gathers_more, gathers_done}
use Rattle.mds_lines.proofs.Seeks.{seen_found, seen_all, seen_before, searched, apart_at, needed}
use Rattle.mds_lines.proofs.StreamFacts.{Keeps_same, Keeps_keeps}
use Rattle.mds_lines.proofs.reader.LineBuffer.piece_size.Goals as goal
use Rattle.mds_lines.proofs.reader.LineBuffer.piece_size.Goals.{then-seen-gt-LONGEST_LINE-via-then-seen-gt-LONGEST_LINE, then-seen-gt-LONGEST_LINE-via-else-seen-gt-LONGEST_LINE+then-self}

pub loop-more-init : goal.loop-more-init
loop-more-init g c = record {
  seen = omega arith;
  apart = λ k d lt. absurd (omega arith);
  left = Keeps_same _;
  number = refl;
  fault = refl;
  failures = refl;
  gathered = gathered_none _ _ _;
}

pub returns-in-Some-clause-reaches : goal.returns-in-Some-clause-reaches
returns-in-Some-clause-reaches g c =
    let i = c.loop-more.invariant in
    let xs = c.loop-more.self.pending in
    let found = seen_found xs c.loop-more.seen c.in-Some.more i.seen i.apart (searched _ xs c.loop-more.seen (Some c.in-Some.more) c.pending-pending.ensures.value c.in-Some.ensures) in
    let within = found.within in
    record { within = omega arith; apart = found.apart; stops = λ _. found.here; ends = λ e. absurd (omega arith) }

pub returns-in-Some-clause-gathers : goal.returns-in-Some-clause-gathers
returns-in-Some-clause-gathers g c = gathers_done _ _ _ _ _ c.loop-more.invariant.gathered c.pending-pending.ensures.held

pub returns-then-seen-gt-LONGEST_LINE-clause-reaches : goal.returns-then-seen-gt-LONGEST_LINE-clause-reaches
returns-then-seen-gt-LONGEST_LINE-clause-reaches g c =
    let i = c.loop-more.invariant in
    let xs = c.loop-more.self.pending in
    let size = ap length c.pending-pending.ensures.value in
    record {
      within = omega arith;
      apart = apart_at xs _ (length xs) size (seen_all xs c.loop-more.seen i.seen i.apart (searched _ xs c.loop-more.seen None c.pending-pending.ensures.value c.in_default.ensures));
      stops = λ lt. absurd (omega arith);
      ends = λ e. elim c.then-seen-gt-LONGEST_LINE.branch [
        | then-seen-gt-LONGEST_LINE-via-then-seen-gt-LONGEST_LINE w ↦ inl (omega arith)
        | then-seen-gt-LONGEST_LINE-via-else-seen-gt-LONGEST_LINE+then-self w ↦ inr (ap (λ v. v.is_ended) (sym c.self.view_is) ∙ w.if-self.true)
      ];
    }

pub returns-then-seen-gt-LONGEST_LINE-clause-gathers : goal.returns-then-seen-gt-LONGEST_LINE-clause-gathers
returns-then-seen-gt-LONGEST_LINE-clause-gathers g c = gathers_done _ _ _ _ _ c.loop-more.invariant.gathered c.pending-pending.ensures.held

pub loop-more-preserved : goal.loop-more-preserved
loop-more-preserved g c =
    let i = c.loop-more.invariant in
    let xs = c.loop-more.self.pending in
    let size = ap length c.pending-pending.ensures.value in
    let f = c.in_ok-fill.ensures.fills in
    let all = seen_all xs c.loop-more.seen i.seen i.apart (searched _ xs c.loop-more.seen None c.pending-pending.ensures.value c.in_default.ensures) in
    let grown = simp length-append at (ap length f.more) in
    let goes_on = sym (ap (λ v. v.is_ended) c.self.view_is) ∙ c.if-self.false in
    record {
      seen = omega arith;
      apart = apart_at _ _ (length xs) size (seen_before xs _ f.bytes f.more all);
      left = Keeps_keeps _ _ _ i.left c.in_ok-fill.ensures.left;
      number = c.in_ok-fill.ensures.kept.0 ∙ i.number;
      fault = c.in_ok-fill.ensures.kept.1 ∙ i.fault;
      failures = omega (arith, c.in_ok-fill.ensures.counted, i.failures);
      gathered = gathered_more _ _ _ _ _ _ _ i.gathered f (needed c.loop-more.self.is_ended xs all (omega arith) goes_on);
    }

pub returns-in_err-fill-clause-gathers : goal.returns-in_err-fill-clause-gathers
returns-in_err-fill-clause-gathers g c =
    let i = c.loop-more.invariant in
    let xs = c.loop-more.self.pending in
    let size = ap length c.pending-pending.ensures.value in
    let all = seen_all xs c.loop-more.seen i.seen i.apart (searched _ xs c.loop-more.seen None c.pending-pending.ensures.value c.in_default.ensures) in
    let goes_on = sym (ap (λ v. v.is_ended) c.self.view_is) ∙ c.if-self.false in
    gathers_more _ _ _ _ c.args.self.now c.loop-more.self c.fill.new.self false i.gathered c.in_err-fill.ensures.fills (needed c.loop-more.self.is_ended xs all (omega arith) goes_on) c.in_err-fill.ensures.held
