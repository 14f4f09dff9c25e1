use Rattle.std.proofs.Common.{map, ap, sym, subst, arith}
use Rattle.std.specs.List.{All}
use Rattle.std.proofs.lemmas.List.Elements.{All-nil}
use Rattle.std.proofs.lemmas.Result.{IfOk-from_err}
use Rattle.mds_ranges.specs.Selections.{IsSelectedStream}
use Rattle.mds_keeper.proofs.Asked.{stays_on, stays_put}
use Rattle.mds_ranges.proofs.Selected.{each_more, names_more, none_named, stream_in, streams_selected}
use Rattle.mds_ranges.proofs.selecting.selected_streams.Goals as goal

pub loop-suffix-preserved : goal.loop-suffix-preserved
loop-suffix-preserved g c =
    let i = c.loop-suffix.invariant in
    let d = c.in_ok-selected.ensures in
    record {
      stays = stays_on i.stays d.selected.stays;
      opens = λ honest _. d.selected.opens honest;
      names = names_more c.args.nmi c.args.suffixes.now c.loop-suffix.suffix-index c.suffix-item.result c.in_ok-selected.selected
          c.loop-suffix.streams.items c.push.new.self.items c.loop-suffix-test.true c.suffix-item.is d.name
          c.in_ok-push.ensures.items i.names;
      each = λ sound.
          let before = d.selected.stays.before sound in
          each_more _ _ _ c.in_ok-selected.selected c.loop-suffix.streams.items c.push.new.self.items c.in_ok-push.ensures.items
          (i.each before)
          (subst (λ w. IsSelectedStream w c.args.first c.args.last c.in_ok-selected.selected) (i.stays.same before)
          (d.selected.tells sound));
    }

pub returns-clause-streams : goal.returns-clause-streams
returns-clause-streams g c = λ sound.
    let i = c.loop-suffix.invariant in
    streams_selected _ _ _ _ _ _ _ c.loop-suffix-test.false c.requires i.names (i.each sound)

pub loop-suffix-init : goal.loop-suffix-init
loop-suffix-init g c =
    let k = g.K.Keeper.kept c.args.keeper.now in
    let Is = IsSelectedStream k.world c.args.first c.args.last in
    record {
      stays = stays_put k;
      opens = λ honest some. absurd (omega (arith, some));
      names = ap (map stream_in) c.new-streams.ensures.items;
      each = λ sound. subst (All Is) (sym c.new-streams.ensures.items) (All-nil Is);
    }

pub returns-in_err-selected-clause-stays : goal.returns-in_err-selected-clause-stays
returns-in_err-selected-clause-stays g c = stays_on c.loop-suffix.invariant.stays c.in_err-selected.ensures.selected.stays

pub returns-in_err-selected-clause-opens : goal.returns-in_err-selected-clause-opens
returns-in_err-selected-clause-opens g c = λ honest some. IfOk-from_err c.from_residual.result _ c.from_residual.ensures.0

pub returns-in_err-selected-clause-streams : goal.returns-in_err-selected-clause-streams
returns-in_err-selected-clause-streams g c = λ sound. IfOk-from_err c.from_residual.result _ c.from_residual.ensures.0

pub returns-in_err-selected-clause-unasked : goal.returns-in_err-selected-clause-unasked
returns-in_err-selected-clause-unasked g c = λ none. IfOk-from_err c.from_residual.result _ c.from_residual.ensures.0

pub returns-in_err-push-clause-stays : goal.returns-in_err-push-clause-stays
returns-in_err-push-clause-stays g c = stays_on c.loop-suffix.invariant.stays c.in_ok-selected.ensures.selected.stays

pub returns-in_err-push-clause-opens : goal.returns-in_err-push-clause-opens
returns-in_err-push-clause-opens g c = λ honest some. IfOk-from_err c.from_residual-in_err-push.result _ c.from_residual-in_err-push.ensures.0

pub returns-in_err-push-clause-streams : goal.returns-in_err-push-clause-streams
returns-in_err-push-clause-streams g c = λ sound. IfOk-from_err c.from_residual-in_err-push.result _ c.from_residual-in_err-push.ensures.0

pub returns-in_err-push-clause-unasked : goal.returns-in_err-push-clause-unasked
returns-in_err-push-clause-unasked g c = λ none. IfOk-from_err c.from_residual-in_err-push.result _ c.from_residual-in_err-push.ensures.0

pub returns-clause-stays : goal.returns-clause-stays
returns-clause-stays g c = c.loop-suffix.invariant.stays

pub returns-clause-opens : goal.returns-clause-opens
returns-clause-opens g c = λ honest some. c.loop-suffix.invariant.opens honest (omega (arith, some, c.loop-suffix-test.false))

pub returns-clause-unasked : goal.returns-clause-unasked
returns-clause-unasked g c = λ none.
    none_named c.args.nmi c.args.suffixes.now c.loop-suffix.suffix-index c.loop-suffix.streams.items none c.loop-suffix.invariant.names
