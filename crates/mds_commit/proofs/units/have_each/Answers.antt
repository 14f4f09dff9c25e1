use Rattle.std.proofs.Common.{IsTrue, [], ◌∷◌, ◌∙◌, arith, refl, rules, subst, take, take_all}
use Rattle.std.proofs.lemmas.Result.{err_from_is_err_and}
use Rattle.sqlite.specs.Held.{state}
use Rattle.mds_tables.proofs.PutLemmas.{one_more}
use Rattle.mds_commit.specs.FormPutting.{SayUnits}
use Rattle.mds_commit.proofs.UnitAsking.{asked_no, asked_nothing, asked_none, asked_so, asked_then, like_itself, say_both, say_like}
use Rattle.mds_commit.proofs.units.have_each.Goals as goal

pub returns-in_err-is_its-clause-asks : goal.returns-in_err-is_its-clause-asks
returns-in_err-is_its-clause-asks g c =
    let p = err_from_is_err_and c.from_residual.result c.from_residual.ensures.1 in
    rw (p.1, p.2) (asked_none _ (asked_then c.loop-head.invariant.asked (λ _ trees _ says. says) c.in_err-is_its.ensures.asks))

pub returns-then-not-is_its-clause-asks : goal.returns-then-not-is_its-clause-asks
returns-then-not-is_its-clause-asks g c =
    asked_no (asked_then c.loop-head.invariant.asked (λ _ trees _ says. says) c.in_ok-is_its.ensures.asks) _

pub loop-head-preserved : goal.loop-head-preserved
loop-head-preserved g c =
    let heads = c.args.heads.now in
    let at = c.loop-head.head-index in
    let head = c.head-item.result in
    let is_its : IsTrue c.in_ok-is_its.is_its = search rules in
    record {
      same = search rules;
      asked = asked_then c.loop-head.invariant.asked
          (λ _ trees before here. subst (λ hs. SayUnits hs trees) (one_more heads at head (omega arith) c.head-item.is)
          (say_both (take at heads) (head ∷ []) trees before here))
          (asked_so c.in_ok-is_its.ensures.asks tt (λ trees says. say_like head head.day (head ∷ []) (like_itself head) trees (says is_its)));
    }

pub returns-in_err-is_its-clause-same_reference : goal.returns-in_err-is_its-clause-same_reference
returns-in_err-is_its-clause-same_reference g c = c.has_only.ensures.same_reference ∙ c.loop-head.invariant.same

pub returns-then-not-is_its-clause-same_reference : goal.returns-then-not-is_its-clause-same_reference
returns-then-not-is_its-clause-same_reference g c = c.has_only.ensures.same_reference ∙ c.loop-head.invariant.same

pub returns-clause-same_reference : goal.returns-clause-same_reference
returns-clause-same_reference g c = c.loop-head.invariant.same

pub returns-clause-asks : goal.returns-clause-asks
returns-clause-asks g c =
    asked_so c.loop-head.invariant.asked tt
    (λ trees says. subst (λ hs. SayUnits hs trees) (take_all c.loop-head.head-index c.args.heads.now (omega arith)) says)

pub loop-head-init : goal.loop-head-init
loop-head-init g c = record { same = refl; asked = asked_nothing (state g.S.Store c.args.tx.now.conn.now) }
