-- What is found where mds_head is asked for the units of days.
use Rattle.std.proofs.Common.{◌≡◌, ◌≤◌, ◌<◌, ◌⊎◌, ◌&&◌, ◌++◌, ◌^◌, inl, inr, ℕ, ℤ, pos, List, [], ◌∷◌, Bool, true, false, IfOk, IsTrue, Ok, Err, Result, OnOk, codes, refl, sym, ap, subst, ◌∙◌, arith}
use Rattle.std.proofs.lemmas.Cmp.{ranked}
use Rattle.std.specs.List.{AllByRecursion, list_all}
use Rattle.std.specs.Ordering.{MatchOrdering, int_cmp, is_ge, is_le}
use Rattle.std.specs.declared.cmp.Ordering.{Ordering}
use Rattle.std.specs.declared.cmp.Ordering.TheVariants.{Less, Equal, Greater}
use Rattle.sqlite.specs.Effect.{Database, IsDatabase}
use Rattle.sqlite.specs.Listing.{reads_listing, understood}
use Rattle.sqlite.specs.State.{FailsToQuery, HasCleanDisk, IsTooLate, Shown, State, Survives}
use Rattle.sqlite.specs.Term.{Term, col, op2}
use Rattle.sqlite.specs.declared.error.Error.{Error}
use Rattle.sqlite.specs.declared.types.Value.TheVariants.{Int, Text}
use Rattle.sqlite.proofs.Callers.{IsPlain, unchanged_then}
use Rattle.sqlite.proofs.InsideLemmas.{keeps_then}
use Rattle.sqlite_sql.specs.Ops.{binary, is_true}
use Rattle.sqlite_sql.specs.Term.{holds}
use Rattle.sqlite_sql.specs.declared.ops.BinaryOp.TheVariants.{Compare}
use Rattle.sqlite_sql.specs.declared.ops.CompareOp.TheVariants.{Ge, Le}
use Rattle.sqlite_tied.specs.Compute.{everything}
use Rattle.sqlite_trees.specs.Tree.{Trees}
use Rattle.sqlite_value.proofs.OrderLemmas.{value_cmp-Int}
use Rattle.sqlite_value.specs.Order.{Row, column}
use Rattle.sqlite_value.specs.declared.keys.Collation.TheVariants.{Binary}
use Rattle.mds_names.specs.declared.stream.Stream.{Stream}
use Rattle.mds_quantity.specs.declared.unit.Unit.{Unit as MeasureUnit}
use Rattle.mds_world.proofs.Lists.{member_append}
use Rattle.mds_world.specs.Lists.{Member}
use Rattle.mds_world.specs.declared.facts.Head.{Head}
use Rattle.mds_world.specs.declared.facts.StreamDay.{StreamDay}
use Rattle.mds_tables.proofs.CallLemmas.{keeps_same, survives_more, survives_same}
use Rattle.mds_tables.specs.Cells.{range_cells}
use Rattle.mds_tables.specs.RowFacts.{int_at, natural_at, text_at, unit_named}
use Rattle.mds_tables.specs.Tables.{More, head_tree, schema_with}
use Rattle.mds_tables.proofs.KeyLemmas.{cells_equal, counted, truth_of}
use Rattle.mds_tables.proofs.MemberLemmas.{all_has, selects_by}
use Rattle.mds_tables.proofs.QueryLemmas.{AsksFor}
use Rattle.mds_tables.proofs.SelectTexts.{columns_at, equals}
use Rattle.mds_tables.proofs.TypedRows.{HasKeyCells, head_row, small}
use Rattle.mds_pack_rows.specs.PackTables.{packs_then}
use Rattle.mds_pack_rows.specs.Putting.{FindsThere}
use Rattle.mds_pack_rows.proofs.AskLemmas.{fails_kept, finds_picked, shown_kept, shown_on}
use Rattle.mds_commit.specs.FormPutting.{SayUnits}
use Rattle.mds_commit.specs.Units.{AsksThere, IsInDays, IsLike, SayUnit, ShowUnits}

-- ---- the query

abbrev pub select_units : List ℕ
select_units = codes "SELECT unit FROM mds_head WHERE nmi = ?1 AND suffix = ?2 AND day >= ?3 AND day <= ?4"

-- a stream, and a range of days
abbrev range_tests : List Term
range_tests = equals 1 0 ∷ equals 2 1 ∷ op2 (Compare Ge Binary) (col 1 3) (col 0 2) ∷ op2 (Compare Le Binary) (col 1 3) (col 0 3) ∷ []

select_units_is : (rest : More) → AsksFor (packs_then rest) select_units head_tree range_tests (columns_at (5 ∷ [])) [] (codes "unit" ∷ [])
unfolding understood everything
select_units_is rest = refl

select_units_plain : (rest : More) → IsPlain (understood (schema_with (packs_then rest)) select_units)
    × (reads_listing (schema_with (packs_then rest)) select_units ≡ false)
unfolding understood everything
select_units_plain rest = ((refl, refl), refl)

-- ---- the rows that pass its tests

at_least_is : (a b : ℤ) → is_true (binary (Compare Ge Binary) (Int a) (Int b)) ≡ is_ge (int_cmp a b)
unfolding binary
at_least_is a b = truth_of _ ∙ ap is_ge (value_cmp-Int a b)

at_most_is : (a b : ℤ) → is_true (binary (Compare Le Binary) (Int a) (Int b)) ≡ is_le (int_cmp a b)
unfolding binary
at_most_is a b = truth_of _ ∙ ap is_le (value_cmp-Int a b)

to_ge : (a b : ℕ) (r : Ordering) → MatchOrdering r (a < b) (a ≡ b) (b < a) → b ≤ a → is_ge r ≡ true
to_ge a b Less m h = absurd (omega (arith, m))
to_ge a b Equal m h = refl
to_ge a b Greater m h = refl

to_le : (a b : ℕ) (r : Ordering) → MatchOrdering r (a < b) (a ≡ b) (b < a) → a ≤ b → is_le r ≡ true
to_le a b Less m h = refl
to_le a b Equal m h = refl
to_le a b Greater m h = absurd (omega (arith, m))

all_four : (a b c d : Bool) → a ≡ true → b ≡ true → c ≡ true → d ≡ true → (a && (b && (c && (d && true)))) ≡ true
all_four a b c d p q r s = λ i. p i && (q i && (r i && (s i && true)))

module _ (s : Stream) (first last : ℕ) where
  abbrev Passes : Row → Type 0
  Passes row = list_all (holds (range_cells s first last ∷ row ∷ [])) range_tests ≡ true

  passing : last < 2 ^ 63 → (row : Row) → HasKeyCells row → IsInDays s first last row → Passes row
  passing below row it in_days =
      let day = natural_at row 3 in
      let nmi : column row 1 ≡ Text s.nmi = it.nmi ∙ ap (λ (s : Stream). Text s.nmi) in_days.0 in
      let suffix : column row 2 ≡ Text s.suffix = it.suffix ∙ ap (λ (s : Stream). Text s.suffix) in_days.0 in
      let whole : int_at row 3 ≡ pos day = small (int_at row 3) day refl (omega (arith, below, in_days.2)) in
      let number : column row 3 ≡ Int (pos day) = it.number ∙ ap Int whole in
      let low : is_true (binary (Compare Ge Binary) (column row 3) (Int (pos first))) ≡ true =
      ap (λ v. is_true (binary (Compare Ge Binary) v (Int (pos first)))) number ∙ at_least_is (pos day) (pos first)
      ∙ ap is_ge (counted day first) ∙ to_ge day first _ (ranked day first _ refl) in_days.1 in
      let high : is_true (binary (Compare Le Binary) (column row 3) (Int (pos last))) ≡ true =
      ap (λ v. is_true (binary (Compare Le Binary) v (Int (pos last)))) number ∙ at_most_is (pos day) (pos last)
      ∙ ap is_le (counted day last) ∙ to_le day last _ (ranked day last _ refl) in_days.2 in
      all_four _ _ _ _ (cells_equal (Text s.nmi) (column row 1) it.nmi nmi) (cells_equal (Text s.suffix) (column row 2) it.suffix suffix)
      low high

  finds_units : last < 2 ^ 63 → (old new : State) (rows : List Row) → Shown select_units (range_cells s first last) old new rows
      → FindsThere old new (ShowUnits s first last rows)
  finds_units below =
      finds_picked select_units head_tree range_tests (columns_at (5 ∷ [])) [] _ select_units_plain select_units_is (λ db. refl)
      (range_cells s first last) (λ rows trees. ShowUnits s first last rows trees)
      (λ rest db sound rows p row m in_days.
      (selects_by head_tree range_tests (5 ∷ []) [] db (range_cells s first last) Passes (λ _ _ h. h) (λ _ _ h. h) rows p (column row 5 ∷ [])).1
      (row, m, passing below row (head_row (packs_then rest) db sound row m) in_days, refl))

-- ---- a query that is answered, or isn't

module _ {X E : Type 0} {old new : State} {Tells : X → Trees → Type 0} (s : Stream) (first last : ℕ) (survives : Survives old new (λ _. ⊥)) where
  pub answered : last < 2 ^ 63 → (x : X) (rows : List Row) → (HasCleanDisk new → Shown select_units (range_cells s first last) old new rows)
      → ((trees : Trees) → ShowUnits s first last rows trees → Tells x trees) → AsksThere {E = E} old new (Ok x) Tells
  answered below x rows shown tells = record {
    ok = λ clean is_open.
        let finds = finds_units s first last below old new rows (shown clean) in
        record { same = finds.same; shows = λ rest has whole. tells _ (finds.shows rest has whole) };
    goes_on = shown_on select_units _ old new rows shown;
    kept = λ clean is_open rest has. shown_kept (schema_with (packs_then rest)) select_units (select_units_plain rest).0 old new _ has rows (shown clean);
    survives = survives;
  }

  pub unanswered : (e : E) (stop : Error)
      → (HasCleanDisk new → FailsToQuery select_units (range_cells s first last) old new stop ⊎ IsTooLate select_units (range_cells s first last) old new stop)
      → AsksThere {X = X} old new (Err e) Tells
  unanswered e stop fails = record {
    ok = λ clean is_open. tt;
    goes_on = tt;
    kept = λ clean is_open rest has. fails_kept (schema_with (packs_then rest)) select_units (select_units_plain rest).0 old new _ has stop (fails clean);
    survives = survives;
  }

-- ---- one question after another

-- where nothing is asked yet, nothing is told
pub asked_nothing : {E : Type 0} (s : State) → AsksThere {X = Unit {0}} {E = E} s s (Ok tt) (λ _. SayUnits [])
asked_nothing s = record {
  ok = λ clean is_open. record {
    same = λ rest has. (
      record { was_open = is_open; is_open = is_open; now_is = refl; committed_is = refl; mode = refl },
      record { changes = refl; last_rowid = refl },
      refl,
    );
    shows = λ rest has whole head m. absurd m;
  };
  goes_on = record { was_open = λ clean o. o; is_open = λ clean o. o; inside = λ clean o. o };
  kept = λ clean is_open rest has. keeps_same s;
  survives = survives_same s;
}

if_ok_so : {X E : Type 0} (r : Result X E) {P Q : X → Type 0} → ((x : X) → P x → Q x) → IfOk r P → IfOk r Q
if_ok_so (Ok x) so h = so x h
if_ok_so (Err e) so h = tt

on_ok_so : {X E : Type 0} (r : Result X E) {P Q : Type 0} → (P → Q) → OnOk r P → OnOk r Q
on_ok_so (Ok x) so h = so h
on_ok_so (Err e) so h = tt

module _ {X E : Type 0} {a b : State} {P : X → Trees → Type 0} {x : X} (before : AsksThere {E = E} a b (Ok x) P) where
  -- what is made of what is told
  pub asked_so : {Y F : Type 0} {R : Y → Trees → Type 0} (y : Y) → ((trees : Trees) → P x trees → R y trees) → AsksThere {E = F} a b (Ok y) R
  asked_so y tells = record {
    ok = λ clean is_open.
        let finds = before.ok clean is_open in
        record { same = finds.same; shows = λ rest has whole. tells a.now.trees (finds.shows rest has whole) };
    goes_on = before.goes_on;
    kept = before.kept;
    survives = before.survives;
  }

  -- or nothing is
  pub asked_no : {Y F : Type 0} {R : Y → Trees → Type 0} (e : F) → AsksThere {X = Y} a b (Err e) R
  asked_no e = record { ok = λ clean is_open. tt; goes_on = tt; kept = before.kept; survives = before.survives }

  -- behind it the database is as it was
  there : HasCleanDisk b → IsTrue a.is_open → (rest : More) → a.now.schema ≡ schema_with (packs_then rest) → b.now ≡ a.now
  there clean is_open rest has = ((before.ok clean is_open).same rest has).0.now_is

  -- then something else is asked
  pub asked_then : {c : State} {Y : Type 0} {r : Result Y E} {Q R : Y → Trees → Type 0} → ((y : Y) (trees : Trees) → P x trees → Q y trees → R y trees)
      → AsksThere b c r Q → AsksThere a c r R
  asked_then {c} {Y} {r} {Q} {R} tells next =
      let early : HasCleanDisk c → HasCleanDisk b = λ clean. omega (arith, clean, next.survives.clean) in
      record {
        ok = λ clean is_open. if_ok_so r (λ y finds. record {
          same = λ rest has.
              let first = before.ok (early clean) is_open in
              unchanged_then a b c (first.same rest has)
              (finds.same rest (ap (λ (d : Database). d.schema) (there (early clean) is_open rest has) ∙ has));
          shows = λ rest has whole.
              let now = there (early clean) is_open rest has in
              tells y a.now.trees ((before.ok (early clean) is_open).shows rest has whole)
              (subst (λ (d : Database). Q y d.trees) now
              (finds.shows rest (ap (λ (d : Database). d.schema) now ∙ has) (subst IsDatabase (sym now) whole)));
        }) (next.ok clean (before.goes_on.is_open (early clean) is_open));
        goes_on = on_ok_so r (λ goes. record {
          was_open = λ clean o. before.goes_on.was_open (early clean) (goes.was_open clean o);
          is_open = λ clean o. goes.is_open clean (before.goes_on.is_open (early clean) o);
          inside = λ clean o. goes.inside clean (before.goes_on.inside (early clean) o);
        }) next.goes_on;
        kept = λ clean is_open rest has.
            keeps_then a b c (before.kept (early clean) is_open rest has)
            (next.kept clean (before.goes_on.is_open (early clean) is_open) rest
            (ap (λ (d : Database). d.schema) (there (early clean) is_open rest has) ∙ has));
        survives = survives_more a b c before.survives next.survives;
      }

-- a question that isn't answered
pub asked_none : {X Y E F : Type 0} {a b : State} {e : E} {P : X → Trees → Type 0} {R : Y → Trees → Type 0} (f : F)
    → AsksThere {X = X} a b (Err e) P → AsksThere {X = Y} a b (Err f) R
asked_none f it = record { ok = λ clean is_open. tt; goes_on = tt; kept = it.kept; survives = it.survives }

-- ---- what is told of heads

-- one unit in a range of days tells that of each head that is like the first
pub say_like : (first : Head) (last : ℕ) (heads : List Head) → AllByRecursion (IsLike first last) heads → (trees : Trees)
    → SayUnit first.stream first.day last first.unit trees → SayUnits heads trees
say_like first last heads like trees say head m row n on =
    let it = all_has (IsLike first last) heads head like m in
    let day : natural_at row 3 ≡ head.day = ap (λ (d : StreamDay). d.day) on in
    say row n (ap (λ (d : StreamDay). d.stream) on ∙ it.0, omega (arith, day, it.2), omega (arith, day, it.3)) ∙ sym it.1

-- a head is like itself
pub like_itself : (head : Head) → AllByRecursion (IsLike head head.day) (head ∷ [])
like_itself head = ((refl, refl, omega arith, omega arith), tt)

pub say_both : (xs ys : List Head) (trees : Trees) → SayUnits xs trees → SayUnits ys trees → SayUnits (xs ++ ys) trees
say_both xs ys trees p q head m = elim (member_append head xs ys m) [ inl n ↦ p head n | inr n ↦ q head n ]

-- what rows of one column show of the days, they say of them
pub say_shown : (s : Stream) (first last : ℕ) (unit : MeasureUnit) (rows : List Row) (trees : Trees)
    → ((row : Row) → Member row rows → unit_named (text_at row 0) ≡ unit) → ShowUnits s first last rows trees → SayUnit s first last unit trees
say_shown s first last unit rows trees all shown row m in_days = all (column row 5 ∷ []) (shown row m in_days)

-- the rows up to a place, and the one there
pub all_more : (P : Row → Type 0) (front : List Row) (row : Row) → ((r : Row) → Member r front → P r) → P row
    → (r : Row) → Member r (front ++ row ∷ []) → P r
all_more P front row all here r m = elim (member_append r front (row ∷ []) m) [
  | inl n ↦ all r n
  | inr n ↦ elim n [ inl e ↦ subst P (sym e) here | inr none ↦ absurd none ]
]

-- the days of heads up to a place, and that of the one there
pub days_more : (front : List Head) (head : Head) → AllByRecursion (λ (h : Head). h.day < 2 ^ 63) front → head.day < 2 ^ 63
    → AllByRecursion (λ (h : Head). h.day < 2 ^ 63) (front ++ head ∷ [])
days_more [] head all here = (here, tt)
days_more (h ∷ hs) head all here = (all.0, days_more hs head all.1 here)
