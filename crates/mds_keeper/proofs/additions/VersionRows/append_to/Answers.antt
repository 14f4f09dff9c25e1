use Rattle.std.proofs.Common.{◌≡◌, ◌++◌, ℕ, sym, subst, take}
use Rattle.std.proofs.lemmas.Result.{on_err_weaker}
use Rattle.mds_keeper.specs.Content.{rows_of}
use Rattle.mds_keeper.proofs.additions.VersionRows.append_to.Goals as goal

pub returns-in-Whole-clause-kept : goal.returns-in-Whole-clause-kept
returns-in-Whole-clause-kept c =
    on_err_weaker c.append_whole.result
    (subst (λ rows. (n : ℕ) × (c.append_whole.new.rows.items ≡ c.args.rows.now.items ++ take n (rows_of rows))) (sym c.in-Whole.is))
    c.append_whole.ensures.kept
