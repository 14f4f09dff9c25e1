use Rattle.std.proofs.Common.{◌≡◌, ◌+◌, ◌<◌, ◌||◌, ◌∙◌, ℕ, List, Bool, false, length, map, drop, get_or, bytes_eq, ap, sym}
use Rattle.std.proofs.lemmas.List.{at_drop_all, at_drop_more}
use Rattle.std.specs.List.{list_any}
use Rattle.mds_arguments.specs.Arguments.{query_name}
use Rattle.mds_arguments.specs.declared.arguments.QueryName.{QueryName}
use Rattle.mds_arguments.specs.declared.arguments.QueryName.TheVariants.{Streams}
use Rattle.mds_arguments.proofs.arguments.QueryName.named.Goals as goal

-- one of them has the name
abbrev is_one : List ℕ → List QueryName → Bool
is_one name queries = list_any (λ known. bytes_eq known name) (map query_name queries)

other_name : (is : Bool) (name : List ℕ) (queries : List QueryName) (i : ℕ) (none : QueryName) → i < length queries
    → bytes_eq (query_name (get_or queries i none)) name ≡ false → is ≡ is_one name (drop i queries)
    → is ≡ is_one name (drop (i + 1) queries)
other_name is name queries i none within other e =
    e ∙ at_drop_more (is_one name) queries i none within ∙ ap (λ b. b || is_one name (drop (i + 1) queries)) other

pub loop-query-init : goal.loop-query-init
loop-query-init c = ap (is_one c.args.name.now) (sym c.as_slice-query-items.ensures)

pub loop-query-preserved : goal.loop-query-preserved
loop-query-preserved c =
    other_name _ c.args.name.now c.as_slice-query-items.result.now c.loop-query.query-index Streams c.loop-query-test.true
    (ap (λ text. bytes_eq text c.args.name.now) (sym c.name.ensures) ∙ sym c.eq.ensures ∙ c.if-eq.false) c.loop-query.invariant

pub returns : goal.returns
returns c =
    c.loop-query.invariant
    ∙ at_drop_all (is_one c.args.name.now) c.as_slice-query-items.result.now c.loop-query.query-index c.loop-query-test.false
