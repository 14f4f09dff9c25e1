use Rattle.std.proofs.Common.{Option, Some, None, IfNone}
use Rattle.mds_ranges.proofs.Selected.{is_orderly}
use Rattle.mds_ranges.proofs.selecting.made_of.Goals as goal

none_so : {X : Type 0} (o : Option X) (A B : Type 0) → (A → B) → IfNone o A → IfNone o B
none_so None A B f h = f h
none_so (Some x) A B f h = tt

pub returns-clause-none : goal.returns-clause-none
returns-clause-none c =
    none_so c.new.result _ _
    (λ never w nmi suffixes first last narrow few is. never (is_orderly w nmi suffixes first last _ narrow few is))
    c.new.ensures.none
