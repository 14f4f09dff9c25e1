use Rattle.std.proofs.Common.{refl, inl, inr, sym, ◌∙◌}
use Rattle.mds_pack_rows.specs.Current.{current_layout, current_world}
use Rattle.mds_store.specs.Props.{settles}
use Rattle.mds_store_runs.proofs.Answered.{if_ok}
use Rattle.mds_store_runs.proofs.runs.run_packs.Goals as goal

pub returns : goal.returns
returns g c = record {
  run = if_ok c.run.result _ _ (λ answers run clean was lawful.
      let it = run.run clean _ lawful (λ _. refl) in (
        it.0,
        it.1,
        it.2,
        (λ now. it.3 (clean, now)),
        λ trees left. elim (it.4 _ (trees, left, refl)) [
          | inl may ↦ may
          | inr same ↦
              let stood = settles current_layout _ _ (λ before. g.met.S.Store.settled c.args.keeper.now.conn.store before was) (current_world trees) same.1 in
              inl (stood ∙ sym same.0)
        ],
      )) c.run.ensures.run;
  store = c.run.new.keeper.holds;
  count = c.run.ensures.count;
  err = c.run.ensures.err;
  memory = c.run.ensures.memory;
}
