-- What the laws of the World stand on.
use Rattle.std.specs.Prelude.{◌≡◌, ℕ, ◌+◌, List, ◌++◌}
use Rattle.std.proofs.Common.{sym, ap, ◌∙◌, subst}
use Rattle.std.proofs.Math.Nat.{le_antisymm}
use Rattle.std.proofs.lemmas.Grind.{flat_map-append}
use Rattle.std.specs.FinSet as set
use Rattle.mds_names.specs.declared.stream.Stream.{Stream}
use Rattle.mds_marks.specs.Reading.{ReadingValue}
use Rattle.mds_statements.specs.Statements.{Statement}
use Rattle.mds_world.specs.Counts.{added_by, countable, counted, is_counted, known_by}
use Rattle.mds_world.specs.FactOrder.{exact, fact_cmp, total}
use Rattle.mds_world.specs.Facts.{Fact, key_at}
use Rattle.mds_world.specs.Facts.Fact.{VersionIs}
use Rattle.mds_world.proofs.Sets.{difference_none, in_retain, len_parts, len_union, list_append, retain_in, retain_union, union_absorbs, union_assoc, union_comm, union_right}
use Rattle.mds_world.specs.Sets.{◌∈◌}
use Rattle.mds_world.specs.Stated.{facts_of, stated}
use Rattle.mds_world.specs.World.{Agrees, IsCurrent, World, union}

pub counts : (w s : World) → counted (union w s) ≡ counted w + added_by w s
counts w s = ap set.len (retain_union total exact w s is_counted) ∙ len_union total exact (countable w) (countable s)

pub adds_nothing : (w s : World) → added_by (union w s) s ≡ 0
adds_nothing w s =
    let within : (q : Fact) → q ∈ countable s → q ∈ countable (union w s) = λ q h.
    let r = in_retain total exact s is_counted q h in
    retain_in total exact (union w s) is_counted q (union_right total exact w s q r.0) r.1 in
    ap set.len (difference_none total exact (countable s) (countable (union w s)) within) ∙ set.len-empty fact_cmp

pub changes_nothing : (w s : World) → union (union w s) s ≡ union w s
changes_nothing w s = union_absorbs total exact (union w s) s (union_right total exact w s)

pub either_order : (w a b : World) → union (union w a) b ≡ union (union w b) a
either_order w a b =
    union_assoc total exact w a b ∙ ap (union w) (union_comm total exact a b) ∙ sym (union_assoc total exact w b a)

pub split : (xs ys : List Statement) → stated (xs ++ ys) ≡ union (stated xs) (stated ys)
split xs ys = ap set.from_list (flat_map-append facts_of xs ys) ∙ list_append total exact _ _

pub one_reading : (w : World) (stream : Stream) (day length interval update other : ℕ) (reading another : ReadingValue)
    → Agrees w → IsCurrent w stream day length interval update reading → IsCurrent w stream day length interval other another
    → (update ≡ other) × (reading ≡ another)
one_reading w stream day length interval update other reading another agrees current too =
    let same : update ≡ other =
    le_antisymm (too.greatest update reading current.held) (current.greatest other another too.held) in
    let held : VersionIs (key_at stream day length interval other) reading ∈ w =
    subst (λ u. VersionIs (key_at stream day length interval u) reading ∈ w) same
    current.held in
    (same, agrees.one_reading _ reading another held too.held)

pub known_or_added : (w s : World) → counted s ≡ known_by w s + added_by w s
known_or_added w s = len_parts total exact (countable s) (countable w)
