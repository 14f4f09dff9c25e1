-- The versions of the days of all heads are all that mds_version says, each with the length of its day's head.
use Rattle.std.proofs.Common.{◌≡◌, ◌<◌, ◌^◌, ◌+◌, ◌↔◌, inl, inr, ℕ, List, [], ◌∷◌, ◌++◌, length, map, slice_index_or, take, refl, sym, ap, subst, ◌∙◌, arith}
use Rattle.std.specs.List.{flat_map}
use Rattle.std.proofs.lemmas.List.{take_more}
use Rattle.sqlite.specs.Effect.{Database}
use Rattle.sqlite.specs.State.{HasCleanDisk, IsUnchanged, State}
use Rattle.sqlite.specs.declared.types.Value.TheVariants.{Null}
use Rattle.sqlite_catalog.specs.Listing.{IsSound}
use Rattle.sqlite_trees.specs.Tree.{Trees}
use Rattle.sqlite_value.specs.Order.{Row, column}
use Rattle.mds_names.specs.declared.stream.Stream.{Stream}
use Rattle.mds_world.specs.FactOrder.{exact, total}
use Rattle.mds_quantity.specs.declared.unit.Unit.{Unit as MeasureUnit}
use Rattle.mds_marks.specs.Reading.{ReadingValue}
use Rattle.mds_world.specs.Facts.{Fact, head_at}
use Rattle.mds_world.specs.Facts.Fact.{DetailIs, EventIs, HeadIs, HolidayIs, JobIs, PeriodIs, VersionIs}
use Rattle.mds_world.specs.Lists.{Member}
use Rattle.mds_world.specs.Sets.{◌∈◌}
use Rattle.mds_world.specs.World.{IsOn, union}
use Rattle.mds_world.specs.declared.facts.Head.{Head}
use Rattle.mds_world.specs.declared.facts.Key.{Key}
use Rattle.mds_world.proofs.Lists.{append_left, append_right, in_map, map_in, member_append}
use Rattle.mds_world.proofs.Members.{in_list, list_in}
use Rattle.mds_world.proofs.Sets.{union_comm, union_empty}
use Rattle.mds_keeper.specs.Books.{row_fact}
use Rattle.mds_keeper.specs.Content as content
use Rattle.mds_keeper.specs.declared.day_book.Version.{Version}
use Rattle.mds_tables.specs.Cells.{day_cells}
use Rattle.mds_tables.specs.RowFacts.{head_fact, lengthless, version_fact, versions_in}
use Rattle.mds_tables.specs.Stores.{Begins, Selects}
use Rattle.mds_tables.specs.Tables.{head_columns, head_tree, schema_with, version_columns, version_tree}
use Rattle.mds_tables.specs.Frames.{IsAt}
use Rattle.mds_tables.specs.Writing.{KeepsOthers}
use Rattle.mds_tables.proofs.RowLemmas.{of}
use Rattle.mds_tables.specs.Shown.{AreVersionsIn}
use Rattle.mds_tables.proofs.Listed.{Tells, listed, tells, told, version_on}
use Rattle.mds_tables.proofs.Named.{Names}
use Rattle.mds_pack_rows.specs.PackFacts.{pack_facts, pack_versions}
use Rattle.mds_pack_rows.specs.PackTables.{Behind, pack_tree, packs_then, schema_2}
use Rattle.mds_pack_rows.specs.PacksLayout.{nothing_behind, packs_over}
use Rattle.mds_pack_rows.specs.Putting.{ChangesPacks, IsAmong, NamesMore}
use Rattle.mds_pack_rows.proofs.FrameLemmas.{there_at}
use Rattle.mds_pack_rows.proofs.PutLemmas.{as_rows, changes_then, others_of, puts_none}
use Rattle.mds_migrate.specs.Migrating.{IsLengthened, Packs}
use Rattle.mds_migrate.specs.OldHeads.{updateless}
use Rattle.mds_migrate.specs.OldLengths.{day_head, erased}
use Rattle.mds_migrate.specs.Packing.{AreOfDays, IsUnder, PacksDays}

-- ---- the versions of one day

-- the head that a fact is
abbrev pub head_of : Head → Fact → Head
head_of other (HeadIs head) = head
head_of other _ = other

-- the fact is a version
abbrev IsVersion : Fact → Type 0
IsVersion (VersionIs key reading) = Unit {0}
IsVersion _ = ⊥

-- books have versions alone
are_versions : (s : Stream) (day : ℕ) (vs : List (ℕ × Version)) (f : Fact) → Member f (map (row_fact s day) vs) → IsVersion f
are_versions s day vs f m = let v = in_map (row_fact s day) vs f m in subst IsVersion (sym v.2) tt

module _ (shown : Row) (head : Head) (is : head_fact (Null ∷ shown) ≡ HeadIs head) where
  -- it says no update
  pub no_update : head_fact (Null ∷ shown) ≡ HeadIs (updateless head)
  no_update = ap (λ f. HeadIs (updateless (head_of head f))) is

  -- a version under a head that is shown is of its day and its length
  same_head : (key : Key) (unit : MeasureUnit) → head_fact (Null ∷ shown) ≡ HeadIs (day_head key unit) → day_head key unit ≡ head
  same_head key unit over = ap (head_of head) (sym over ∙ is)

  -- and the other way round
  over_head : (key : Key) → key.stream ≡ head.stream → key.day ≡ head.day → key.length ≡ head.length
      → head_fact (Null ∷ shown) ≡ HeadIs (day_head key head.unit)
  over_head key stream day length = no_update ∙ sym (λ i. HeadIs (head_at (stream i) (day i) 0 (length i) head.unit))

  module _ (rest : Behind) (low : head.day < 2 ^ 63) (trees : Trees) (sound : IsSound (schema_with (packs_then rest.more)) trees)
      (rows : List Row) (sel : Selects version_tree (day_cells head.stream head.day) version_columns trees rows) (vs : List (ℕ × Version))
      (are : AreVersionsIn head.length rows vs) where
    abbrev s : Stream
    s = head.stream

    abbrev day : ℕ
    day = head.day

    on : (r : Row) → Member r (trees version_tree) → Begins (day_cells s day) r ↔ IsOn s day (version_fact r)
    on = version_on (packs_over 2 rest) s day low trees sound

    to : (f : Fact) → Tells version_fact rows f → Names version_fact (trees version_tree) f × IsOn s day f
    to = told version_fact version_tree (day_cells s day) version_columns trees rows sel (λ r. refl) (IsOn s day) on

    list : (key : Key) (reading : ReadingValue)
        → (Tells version_fact rows (VersionIs (lengthless key) reading) × (key.length ≡ head.length))
        ↔ Member (VersionIs key reading) (map (row_fact s day) vs)
    list = listed (packs_over 2 rest) s day low trees sound head.length rows vs are (λ g t. (to g t).1)

    of_one_day : AreOfDays trees (shown ∷ []) (map (row_fact s day) vs)
    of_one_day (VersionIs key reading) =
        let f : Fact = VersionIs key reading in (
          (λ m.
              let it = (list key reading).1 m in
              let t = to (erased f) it.0 in
              let n = t.0 in
              let o : (key.stream ≡ s) × (key.day ≡ day) = t.1 in (
                subst (λ g. Member g (versions_in trees)) n.2 (map_in version_fact (trees version_tree) n.0 n.1),
                (shown, inl refl, (head.unit, over_head key o.0 o.1 it.1)),
              )),
          (λ p.
              let n = in_map version_fact (trees version_tree) (erased f) p.0 in
              let under : IsUnder shown f = elim p.1.1 [ inl e ↦ subst (λ h. IsUnder h f) e p.1.2 | inr z ↦ absurd z ] in
              let same : day_head key under.0 ≡ head = same_head key under.0 under.1 in
              let o : IsOn s day (erased f) = (ap (λ (h : Head). h.stream) same, ap (λ (h : Head). h.day) same) in
              (list key reading).0 (
                tells version_fact version_tree (day_cells s day) version_columns trees rows sel (λ r. refl) (IsOn s day) on (erased f)
                    (n.0, n.1, sym n.2) o,
                ap (λ (h : Head). h.length) same,
              )),
        )
    of_one_day (HeadIs head) = (λ m. absurd (are_versions s day vs _ m), λ p. absurd p.1.2)
    of_one_day (DetailIs detail) = (λ m. absurd (are_versions s day vs _ m), λ p. absurd p.1.2)
    of_one_day (EventIs event) = (λ m. absurd (are_versions s day vs _ m), λ p. absurd p.1.2)
    of_one_day (PeriodIs key content) = (λ m. absurd (are_versions s day vs _ m), λ p. absurd p.1.2)
    of_one_day (HolidayIs date) = (λ m. absurd (are_versions s day vs _ m), λ p. absurd p.1.2)
    of_one_day (JobIs id content count) = (λ m. absurd (are_versions s day vs _ m), λ p. absurd p.1.2)

-- ---- one day after another

-- what is put behind a query, which changes nothing
changes_since : (a b c : State) → b.now ≡ a.now → b.committed ≡ a.committed → (facts : List Fact)
    → ChangesPacks b c × NamesMore b.now.trees c.now.trees facts → ChangesPacks a c × NamesMore a.now.trees c.now.trees facts
changes_since a b c now committed facts it = (
  record {
    is_open = it.0.is_open;
    schema = it.0.schema ∙ ap (λ (d : Database). d.schema) now;
    others = subst (λ (d : Database). KeepsOthers pack_tree d.trees c.now.trees d.schema.tables) now it.0.others;
    committed = it.0.committed ∙ committed;
    sound = it.0.sound;
  },
  subst (λ (d : Database). NamesMore d.trees c.now.trees facts) now it.1,
)

-- of no heads there are no versions
pub packs_since : (a b : State) → HasCleanDisk b → IsAt schema_2 b → IsUnchanged a b → PacksDays a b []
packs_since a b clean there same = record {
  facts = [];
  puts = changes_since a b b same.0.now_is same.0.committed_is [] ((puts_none b).1 (there_at nothing_behind b b clean there));
  are = λ f. ((λ m. absurd m), (λ p. absurd p.1.1));
}

-- those of some days and of others
of_both : (trees : Trees) (xs ys : List Row) (one two : List Fact) → AreOfDays trees xs one → AreOfDays trees ys two
    → AreOfDays trees (xs ++ ys) (one ++ two)
of_both trees xs ys one two p q f = (
  (λ m. elim (member_append f one two m) [
    | inl n ↦ let it = (p f).0 n in (it.0, (it.1.0, append_left it.1.0 xs ys it.1.1, it.1.2))
    | inr n ↦ let it = (q f).0 n in (it.0, (it.1.0, append_right it.1.0 xs ys it.1.1, it.1.2))
  ]),
  (λ it. elim (member_append it.1.0 xs ys it.1.1) [
    | inl n ↦ append_left f one two ((p f).1 (it.0, (it.1.0, n, it.1.2)))
    | inr n ↦ append_right f one two ((q f).1 (it.0, (it.1.0, n, it.1.2)))
  ]),
)

module _ (a b c : State) (at : IsAt schema_2 a) where
  packs_both : (xs ys : List Row) → PacksDays a b xs → PacksDays b c ys → PacksDays a c (xs ++ ys)
  packs_both xs ys p q = record {
    facts = p.facts ++ q.facts;
    puts = changes_then a b c p.facts q.facts p.puts q.puts;
    are =
        let kept : KeepsOthers pack_tree a.now.trees b.now.trees schema_2.tables = others_of pack_tree schema_2 a b at.schema p.puts.0.others in
        let same : b.now.trees version_tree ≡ a.now.trees version_tree = kept.1.1.0 (λ e. omega arith) in
        let more : AreOfDays a.now.trees ys q.facts =
        subst (λ rows. (f : Fact) → Member f q.facts ↔ (Member (erased f) (map version_fact rows) × ((head : Row) × Member head ys × IsUnder head f)))
        same q.are in
        of_both a.now.trees xs ys p.facts q.facts p.are more;
  }

  pub packs_next : (heads : List Row) (k : ℕ) (head : Row) → k < length heads → head ≡ slice_index_or heads k head
      → PacksDays a b (take k heads) → PacksDays b c (head ∷ []) → PacksDays a c (take (k + 1) heads)
  packs_next heads k head low is p q =
      let front : take (k + 1) heads ≡ take k heads ++ head ∷ [] = take_more heads k head low ∙ ap (λ x. take k heads ++ x ∷ []) (sym is) in
      subst (PacksDays a c) (sym front) (packs_both (take k heads) (head ∷ []) p q)

-- The versions of a day were asked for, and then put.
pub packs_day : (a b c : State) → IsAt schema_2 a → (shown : Row) (head : Head) → head_fact (Null ∷ shown) ≡ HeadIs head → head.day < 2 ^ 63
    → (rows : List Row) (vs : List (ℕ × Version)) → AreVersionsIn head.length rows vs
    → IsUnchanged a b × Selects version_tree (day_cells head.stream head.day) version_columns a.now.trees rows
    → ChangesPacks b c × NamesMore b.now.trees c.now.trees (map content.version_fact (map (content.version_at head.stream head.day) vs))
    → PacksDays a c (shown ∷ [])
packs_day a b c at shown head is low rows vs are found puts =
    let facts = map (row_fact head.stream head.day) vs in
    record {
      facts = facts;
      puts = changes_since a b c found.0.0.now_is found.0.0.committed_is facts
          (subst (λ fs. ChangesPacks b c × NamesMore b.now.trees c.now.trees fs) (sym (as_rows head.stream head.day vs)) puts);
      are = of_one_day shown head is nothing_behind low a.now.trees at.sound rows found.1 vs are;
    }

-- ---- all heads

-- the versions of the days of all heads are those of mds_version, each with the length of its day's head
module _ (trees : Trees) (heads : List Row) (sel : Selects head_tree [] head_columns trees heads) (facts : List Fact)
    (are : AreOfDays trees heads facts) where
  of_all : (f : Fact) → Member f facts ↔ IsLengthened trees f
  of_all (VersionIs key reading) =
      let f : Fact = VersionIs key reading in (
        (λ m.
            let it = (are f).0 m in
            let shown = it.1.0 in
            let under : IsUnder shown f = it.1.2 in
            let row = (sel shown).0 it.1.1 in
            let is : head_fact row.0 ≡ HeadIs (day_head key under.0) = sym (ap (λ r. head_fact (Null ∷ r)) row.3) ∙ under.1 in
            (it.0, (under.0, subst (λ g. Member g (map head_fact (trees head_tree))) is (map_in head_fact (trees head_tree) row.0 row.1)))),
        (λ p.
            let n = in_map head_fact (trees head_tree) (HeadIs (day_head key p.1.0)) p.1.1 in
            let shown = map (column n.0) head_columns in
            (are f).1 (p.0, (shown, (sel shown).1 (n.0, n.1, refl, refl), (p.1.0, sym n.2)))),
      )
  of_all (HeadIs head) = (λ m. absurd ((are (HeadIs head)).0 m).1.2, λ none. absurd none)
  of_all (DetailIs detail) = (λ m. absurd ((are (DetailIs detail)).0 m).1.2, λ none. absurd none)
  of_all (EventIs event) = (λ m. absurd ((are (EventIs event)).0 m).1.2, λ none. absurd none)
  of_all (PeriodIs key content) = (λ m. absurd ((are (PeriodIs key content)).0 m).1.2, λ none. absurd none)
  of_all (HolidayIs date) = (λ m. absurd ((are (HolidayIs date)).0 m).1.2, λ none. absurd none)
  of_all (JobIs id content count) = (λ m. absurd ((are (JobIs id content count)).0 m).1.2, λ none. absurd none)

-- so mds_pack says them, where it had no row
pub packs_all : (a c : State) (heads : List Row) → PacksDays a c heads → a.now.trees pack_tree ≡ []
    → Selects head_tree [] head_columns a.now.trees heads → Packs a c
packs_all a c heads p none sel =
    let it = p.puts in
    let facts = of p.facts in
    let was : of (pack_versions a.now.trees) ≡ of [] = ap (λ rows. of (flat_map pack_facts rows)) none in
    let same : of (pack_versions c.now.trees) ≡ facts =
    it.1.names ∙ ap (λ w. union w facts) was ∙ union_comm total exact (of []) facts ∙ union_empty total exact facts in
    let all = of_all a.now.trees heads sel p.facts p.are in
    record {
      changes = it.0;
      lengthened = λ f. (
        (λ m. (all f).0 (in_list p.facts f (subst (λ w. f ∈ w) same (list_in (pack_versions c.now.trees) f m)))),
        (λ l. in_list (pack_versions c.now.trees) f (subst (λ w. f ∈ w) (sym same) (list_in p.facts f ((all f).1 l)))),
      );
      said = λ row m. elim (it.1.came row m) [
        | inl n ↦ absurd (subst (IsAmong row) none n)
        | inr s ↦ λ silent. absurd (subst (Member s.0) silent s.2)
      ];
    }
