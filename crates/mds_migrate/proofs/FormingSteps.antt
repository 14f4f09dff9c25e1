-- The parts of the step to schema 4, one after another.
use Rattle.std.proofs.Common.{◌≡◌, ◌↔◌, suc, ℕ, [], ◌∷◌, ◌++◌, List, drop, map, pos, sym, ap, subst, ◌∙◌, arith}
use Rattle.std.specs.List.{flat_map}
use Rattle.std.specs.List.Sorted.{IsPermutation}
use Rattle.std.proofs.lemmas.List.Sorted.{IsPermutation-sym}
use Rattle.sqlite.specs.State.{State}
use Rattle.sqlite_catalog.specs.Listing.{IsSound}
use Rattle.sqlite_rules.specs.Edit.{id_in}
use Rattle.sqlite_trees.specs.Tree.{Trees}
use Rattle.sqlite_value.specs.Order.{Row, bytes, column}
use Rattle.mds_quantity.specs.declared.unit.Unit.{Unit as MeasureUnit}
use Rattle.mds_marks.specs.Reading.{ReadingValue}
use Rattle.mds_world.specs.Facts.{Fact, head_at}
use Rattle.mds_world.specs.Facts.Fact.{DetailIs, EventIs, HeadIs, HolidayIs, JobIs, PeriodIs, VersionIs}
use Rattle.mds_world.specs.Lists.{Member}
use Rattle.mds_world.specs.Sets.{◌∈◌}
use Rattle.mds_world.specs.World.{head_over, key_under}
use Rattle.mds_world.specs.declared.facts.Head.{Head}
use Rattle.mds_world.specs.declared.facts.Key.{Key}
use Rattle.mds_world.proofs.Lists.{in_map, map_in}
use Rattle.mds_tables.specs.Cells.{form_cells}
use Rattle.mds_tables.specs.RowFacts.{detail_fact, event_fact, head_fact, heads_in, holiday_fact, job_fact, natural, period_fact, text_at}
use Rattle.mds_tables.specs.Tables.{detail_table, form_tree, head_tree, schema_tree, version_table}
use Rattle.mds_tables.specs.Writing.{Keeps, KeepsOthers}
use Rattle.mds_tables.proofs.MemberLemmas.{moved}
use Rattle.mds_tables.proofs.Named.{Names, of_detail, of_event, of_head, of_holiday, of_job, of_period, of_version}
use Rattle.mds_pack_rows.specs.DailyLayout.{daily_layout, daily_own, versions_packed, world_3}
use Rattle.mds_pack_rows.specs.DailyTables.{daydetail_table, tables_3}
use Rattle.mds_pack_rows.specs.FormLayout.{day_in, form_fact, form_heads, forms_layout, unit_in, world_4}
use Rattle.mds_pack_rows.specs.FormTables.{form_table, schema_4, tables_4}
use Rattle.mds_pack_rows.specs.PackFacts.{pack_facts}
use Rattle.mds_pack_rows.specs.Making.{MakesTable}
use Rattle.mds_pack_rows.specs.PackTables.{pack_table}
use Rattle.mds_pack_rows.proofs.PutLemmas.{others_of}
use Rattle.mds_commit.proofs.UnitLemmas.{text_found}
use Rattle.mds_migrate.specs.Forming.{Forms, IsPackedUnder, SayOneUnit}
use Rattle.mds_migrate.specs.Migrated.{HasFormed, IsFor, forming, steady_tables}
use Rattle.mds_migrate.specs.Migrating.{ClearsLengths, Raises, without_length}
use Rattle.mds_migrate.specs.OldHeads.{IsFormedOf, updateless}
use Rattle.mds_migrate.specs.OldLengths.{day_head}
use Rattle.mds_migrate.proofs.PackingLemmas.{head_of}
use Rattle.mds_migrate.proofs.Steps.{across, spares}

-- ---- what the tables become

-- mds_form says these heads, and mds_head no length. Every other table that says facts is as it was.
record IsGivenForms (old new : Trees) (heads : List Head) : Type 0 where
  others : Keeps old new (pack_table ∷ daydetail_table ∷ steady_tables)
  days : IsPermutation (map without_length (old head_tree)) (map (drop 1) (new head_tree))
  forms : IsPermutation (map form_cells heads) (map (drop 1) (new form_tree))
  are : (head : Head) → Member head heads ↔ (Member (HeadIs (updateless head)) (heads_in old) × IsPackedUnder old head)
  units : SayOneUnit (old head_tree)

-- the columns of a row behind its rowid
behind : (row cells : Row) → drop 1 row ≡ cells → (at : ℕ) → column row (suc at) ≡ column cells at
behind [] cells is at = ap (λ xs. column xs at) is
behind (id ∷ row) cells is at = ap (λ xs. column xs at) is

-- rows of a tree whose columns are those of some things: each has one, and the other way round
module _ {A : Type 0} (cells : A → Row) (xs : List A) (rows : List Row) (same : IsPermutation (map cells xs) (map (drop 1) rows)) where
  thing_of : (row : Row) → Member row rows → (x : A) × Member x xs × (drop 1 row ≡ cells x)
  thing_of row m = in_map cells xs (drop 1 row) (moved _ _ same (drop 1 row) (map_in (drop 1) rows row m))

  row_of : (x : A) → Member x xs → (row : Row) × Member row rows × (drop 1 row ≡ cells x)
  row_of x m =
      let it = in_map (drop 1) rows (cells x) (moved _ _ (IsPermutation-sym _ _ same) (cells x) (map_in cells xs x m)) in
      (it.0, it.1, sym it.2)

module _ (old new : Trees) (heads : List Head) (c : IsGivenForms old new heads) where
  abbrev days : List Row
  days = new head_tree

  -- a row of mds_head that has no length is of the day that it was, with its unit
  same_day : (row was : Row) → drop 1 row ≡ without_length was → day_in row ≡ day_in was
  same_day row was is =
      let at = behind row (without_length was) is in
      λ i. record { stream = record { nmi = bytes (at 0 i); suffix = bytes (at 1 i) }; day = natural (id_in (at 2 i)) }

  same_unit : (row was : Row) → drop 1 row ≡ without_length was → text_at row 5 ≡ text_at was 5
  same_unit row was is = ap bytes (behind row (without_length was) is 4)

  module _ (row : Row) (head : Head) (is : drop 1 row ≡ form_cells head) (m : Member head heads) where
    cell : (at : ℕ) → column row (suc at) ≡ column (form_cells head) at
    cell = behind row (form_cells head) is

    -- the row of mds_head that the day had
    had : (was : Row) × Member was (old head_tree) × (HeadIs (updateless head) ≡ head_fact was)
    had = in_map head_fact (old head_tree) (HeadIs (updateless head)) ((c.are head).0 m).0

    was_head : updateless head ≡ head_of head (head_fact had.0)
    was_head = ap (head_of head) had.2

    of_day : day_in had.0 ≡ day_in row
    of_day =
        let was = sym was_head in
        (λ i. record { stream = (was i).stream; day = (was i).day })
        ∙ sym (λ i. record { stream = record { nmi = bytes (cell 0 i); suffix = bytes (cell 1 i) }; day = natural (id_in (cell 2 i)) })

    unit_is : unit_in days row ≡ head.unit
    unit_is =
        let now = row_of without_length (old head_tree) days c.days had.0 had.1 in
        text_found days row (text_at had.0 5) now.0 now.1 (same_day now.0 had.0 now.2 ∙ of_day) (λ other n on.
        let was = thing_of without_length (old head_tree) days c.days other n in
        same_unit other was.0 was.2 ∙ c.units was.0 had.0 was.1 had.1 (sym (same_day other was.0 was.2) ∙ on ∙ sym of_day))
        ∙ sym (ap (λ (h : Head). h.unit) was_head)

    says_head : form_fact days row ≡ HeadIs head
    says_head =
        λ i. HeadIs (head_at (record { nmi = bytes (cell 0 i); suffix = bytes (cell 1 i) }) (natural (id_in (cell 2 i))) (natural (id_in (cell 3 i)))
        (natural (id_in (cell 4 i))) (unit_is i))

  -- mds_form says the heads
  formed : (h : Head) → Member (HeadIs h) (form_heads new) ↔ Member h heads
  formed h = (
    (λ m.
        let n = in_map (form_fact days) (new form_tree) (HeadIs h) m in
        let of = thing_of form_cells heads (new form_tree) c.forms n.0 n.1 in
        let same : h ≡ of.0 = ap (head_of h) (n.2 ∙ says_head n.0 of.0 of.2 of.1) in
        subst (λ x. Member x heads) (sym same) of.1),
    (λ m.
        let n = row_of form_cells heads (new form_tree) c.forms h m in
        subst (λ f. Member f (form_heads new)) (says_head n.0 h n.2 m) (map_in (form_fact days) (new form_tree) n.0 n.1)),
  )

  same_own : daily_own new ≡ daily_own old
  same_own = λ i. flat_map pack_facts (c.others.0 i) ++ map detail_fact (c.others.1.0 i)

  becomes : (fact : Fact) → (fact ∈ world_4 new) ↔ IsFormedOf (world_3 old) fact
  becomes (HeadIs h) =
      let now = of_head forms_layout new h in
      let was = of_head daily_layout old (updateless h) in (
        (λ m.
            let it = (c.are h).0 ((formed h).0 (now.0 m)) in
            let v = it.1 in
            (was.1 it.0, (v.0, v.1, (of_version daily_layout old (key_under h v.0) v.1).1 ((versions_packed old (key_under h v.0) v.1).1 v.2)))),
        (λ it.
            let v = it.1 in
            let packed = (versions_packed old (key_under h v.0) v.1).0 ((of_version daily_layout old (key_under h v.0) v.1).0 v.2) in
            now.1 ((formed h).1 ((c.are h).1 (was.0 it.0, (v.0, v.1, packed))))),
      )
  becomes (VersionIs k v) =
      across (λ facts. Member (VersionIs k v) facts) _ _ (of_version forms_layout new k v) (of_version daily_layout old k v) same_own
  becomes (DetailIs x) = across (λ facts. Member (DetailIs x) facts) _ _ (of_detail forms_layout new x) (of_detail daily_layout old x) same_own
  becomes (EventIs v) = across (λ rows. Names event_fact rows (EventIs v)) _ _ (of_event forms_layout new v) (of_event daily_layout old v) c.others.1.1.0
  becomes (PeriodIs k v) = across (λ rows. Names period_fact rows (PeriodIs k v)) _ _ (of_period forms_layout new k v) (of_period daily_layout old k v) c.others.1.1.1.0
  becomes (HolidayIs d) = across (λ rows. Names holiday_fact rows (HolidayIs d)) _ _ (of_holiday forms_layout new d) (of_holiday daily_layout old d) c.others.1.1.1.1.0
  becomes (JobIs id v n) = across (λ rows. Names job_fact rows (JobIs id v n)) _ _ (of_job forms_layout new id v n) (of_job daily_layout old id v n) c.others.1.1.1.1.1.0

  kept : (key : Key) (reading : ReadingValue) (unit : MeasureUnit) → VersionIs key reading ∈ world_3 old → HeadIs (day_head key unit) ∈ world_3 old
      → HeadIs (head_over key unit) ∈ world_4 new
  kept key reading unit was headed = (becomes (HeadIs (head_over key unit))).1 (headed, (key.interval, reading, was))

-- ---- the parts, one after another

module _ (a b c d e : State) (first : IsFor forming a.now) (made : MakesTable 10 a b) (put : Forms b c) (bared : ClearsLengths c d)
    (raised : Raises (pos 4) d e) where
  forms_others : KeepsOthers form_tree b.now.trees c.now.trees tables_4
  forms_others = put.puts.others

  clears_others : KeepsOthers head_tree c.now.trees d.now.trees tables_4
  clears_others = others_of head_tree schema_4 c d put.puts.schema bared.others

  behind_d : d.now.schema ≡ schema_4
  behind_d = bared.schema ∙ put.puts.schema

  raises_others : KeepsOthers schema_tree d.now.trees e.now.trees tables_4
  raises_others = others_of schema_tree schema_4 d e behind_d raised.others

  same : Keeps a.now.trees e.now.trees (version_table ∷ detail_table ∷ steady_tables ++ pack_table ∷ daydetail_table ∷ [])
  same =
      spares a.now.trees b.now.trees c.now.trees d.now.trees e.now.trees form_tree head_tree schema_tree tables_3 (form_table ∷ [])
      made.others forms_others clears_others raises_others

  given_forms : IsGivenForms a.now.trees e.now.trees put.heads
  given_forms = record {
    others =
        (same.1.1.1.1.1.1.0, (same.1.1.1.1.1.1.1.0, (same.1.1.0, (same.1.1.1.0, (same.1.1.1.1.0, (same.1.1.1.1.1.0, tt))))));
    days = subst (λ was. IsPermutation (map without_length was) (map (drop 1) (e.now.trees head_tree)))
        (forms_others.1.0 (λ e. omega arith) ∙ made.others.1.0)
        (subst (λ rows. IsPermutation (map without_length (c.now.trees head_tree)) (map (drop 1) rows))
        (sym (raises_others.1.0 (λ e. omega arith))) bared.rows);
    forms = subst (λ rows. IsPermutation (map form_cells put.heads) (map (drop 1) rows))
        (sym (raises_others.1.1.1.1.1.1.1.1.1.1.0 (λ e. omega arith) ∙ clears_others.1.1.1.1.1.1.1.1.1.1.0 (λ e. omega arith)))
        (subst (λ was. IsPermutation (map (drop 1) was ++ map form_cells put.heads) (map (drop 1) (c.now.trees form_tree))) made.none put.puts.rows);
    are = λ h.
        let it = put.are h in
        let packed = made.others.1.1.1.1.1.1.1.1.0 in (
          (λ m. let p = it.0 m in (
            subst (λ rows. Member (HeadIs (updateless h)) (map head_fact rows)) made.others.1.0 p.0,
            (p.1.0, p.1.1, subst (λ rows. Member (VersionIs (key_under h p.1.0) p.1.1) (flat_map pack_facts rows)) packed p.1.2),
          )),
          (λ p. it.1 (
            subst (λ rows. Member (HeadIs (updateless h)) (map head_fact rows)) (sym made.others.1.0) p.0,
            (p.1.0, p.1.1, subst (λ rows. Member (VersionIs (key_under h p.1.0) p.1.1) (flat_map pack_facts rows)) (sym packed) p.1.2),
          )),
        );
    units = subst SayOneUnit made.others.1.0 put.units;
  }

  pub has_formed : HasFormed a.now.trees e.now.trees
  has_formed = record {
    becomes = becomes a.now.trees e.now.trees put.heads given_forms;
    kept = kept a.now.trees e.now.trees put.heads given_forms;
    others = given_forms.others;
    heads = given_forms.days;
    version = raised.version;
    unversioned = same.0 ∙ first.store.bare.0;
    undated = same.1.0 ∙ first.store.bare.1;
    sound = subst (λ schema. IsSound schema e.now.trees) (raised.schema ∙ behind_d) raised.sound;
  }
