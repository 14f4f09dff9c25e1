-- The parts of the step to schema 3, one after another.
use Rattle.std.proofs.Common.{◌≡◌, ◌↔◌, inl, inr, [], ◌∷◌, ◌++◌, List, map, pos, refl, sym, ap, subst, ◌∙◌, arith}
use Rattle.std.specs.List.{flat_map}
use Rattle.sqlite.specs.State.{State}
use Rattle.sqlite_catalog.specs.Listing.{IsSound}
use Rattle.sqlite_trees.specs.Tree.{Trees}
use Rattle.sqlite_value.specs.Order.{Row}
use Rattle.mds_world.specs.Facts.{head_at}
use Rattle.mds_world.specs.Facts.Fact.{DetailIs, EventIs, HeadIs, HolidayIs, JobIs, PeriodIs, VersionIs}
use Rattle.mds_world.specs.Lists.{Member}
use Rattle.mds_world.specs.Sets.{◌∈◌}
use Rattle.mds_world.specs.declared.facts.Detail.{Detail}
use Rattle.mds_world.specs.declared.facts.Head.{Head}
use Rattle.mds_world.proofs.Lists.{in_map, map_in}
use Rattle.mds_world.proofs.Members.{in_list, in_union, list_in, union_right}
use Rattle.mds_tables.specs.RowFacts.{detail_fact, event_fact, head_fact, holiday_fact, job_fact, natural_at, period_fact, stream_in, text_at, unit_named}
use Rattle.mds_tables.specs.Tables.{daydetail_tree, detail_tree, head_table, head_tree, schema_tree, version_table}
use Rattle.mds_tables.specs.Parts.{detail_part}
use Rattle.mds_tables.specs.Writing.{IsMore, Keeps, KeepsOthers}
use Rattle.mds_tables.proofs.RowLemmas.{detail_bare, more, of, says_details}
use Rattle.mds_tables.proofs.Named.{Names, of_event, of_head_row, of_holiday, of_job, of_period, of_version}
use Rattle.mds_pack_rows.specs.DailyLayout.{daily_layout, versions_packed, world_3}
use Rattle.mds_pack_rows.specs.DailyTables.{daydetail_table, schema_3, tables_3}
use Rattle.mds_pack_rows.specs.PackFacts.{pack_facts}
use Rattle.mds_pack_rows.specs.Making.{MakesTable}
use Rattle.mds_pack_rows.specs.PackTables.{pack_table, pack_tree, tables_2}
use Rattle.mds_pack_rows.specs.PacksLayout.{packs_layout}
use Rattle.mds_pack_rows.proofs.PutLemmas.{others_of}
use Rattle.mds_commit.proofs.DetailCells.{named}
use Rattle.mds_migrate.specs.Dating.{Dates, IsOfKnownDay}
use Rattle.mds_migrate.specs.Migrated.{HasDated, IsFor, dating, steady_tables}
use Rattle.mds_migrate.specs.Migrating.{Clears, Raises}
use Rattle.mds_migrate.specs.OldDetails.{Becomes, Comes}
use Rattle.mds_migrate.proofs.DatingLemmas.{greatest_as}
use Rattle.mds_migrate.proofs.Steps.{across, spares}

-- ---- what the tables become

-- every table but those of details is as it was, and mds_daydetail says these details
record IsCarried (old new : Trees) (details : List Detail) : Type 0 where
  others : Keeps old new (head_table ∷ pack_table ∷ steady_tables)
  dated : IsMore (map detail_fact (new daydetail_tree)) [] (map DetailIs details)
  are : (detail : Detail) → Member detail details ↔ IsOfKnownDay old detail

-- the stream and the day of a row of a head
abbrev head_in : Row → Head
head_in row = head_at (stream_in row) (natural_at row 3) 0 (natural_at row 4) (unit_named (text_at row 5))

head_is : (row : Row) (head : Head) → head_fact row ≡ HeadIs head → head_in row ≡ head
head_is row head e = cc

module _ (old new : Trees) (details : List Detail) (c : IsCarried old new details) where
  -- the details that mds_daydetail says
  said : (x : Detail) → Member (DetailIs x) (map detail_fact (new daydetail_tree)) → Member x details
  said x m =
      elim (in_union (of []) (of (map DetailIs details)) (DetailIs x)
      (subst (λ w. DetailIs x ∈ w) c.dated (list_in (map detail_fact (new daydetail_tree)) (DetailIs x) m))) [
        | inl none ↦ absurd (in_list [] (DetailIs x) none)
        | inr h ↦
            let y = in_map DetailIs details (DetailIs x) (in_list (map DetailIs details) (DetailIs x) h) in
            let is : DetailIs x ≡ DetailIs y.0 = y.2 in
            let same : x ≡ y.0 = cc in
            subst (λ d. Member d details) (sym same) y.1
      ]

  says : (x : Detail) → Member x details → Member (DetailIs x) (map detail_fact (new daydetail_tree))
  says x m =
      in_list (map detail_fact (new daydetail_tree)) (DetailIs x)
      (subst (λ w. DetailIs x ∈ w) (sym c.dated)
      (union_right (of []) (of (map DetailIs details)) (DetailIs x)
      (list_in (map DetailIs details) (DetailIs x) (map_in DetailIs details x m))))

  -- a day that mds_head says is known
  known_day : (x : Detail) → IsOfKnownDay old x → Comes old (DetailIs x)
  known_day x is = (
    (
      head_in is.head,
      (of_head_row packs_layout old refl (head_in is.head)).1 (is.head, is.there, λ i. HeadIs (head_in is.head)),
      sym is.stream,
      sym is.day,
    ),
    is.greatest,
  )

  of_known : (x : Detail) → Comes old (DetailIs x) → IsOfKnownDay old x
  of_known x it =
      let day = it.0 in
      let n = (of_head_row packs_layout old refl day.0).0 day.1 in
      let same : head_in n.0 ≡ day.0 = head_is n.0 day.0 n.2 in
      record {
        head = n.0;
        there = n.1;
        stream = sym (ap (λ (h : Head). h.stream) same ∙ day.2);
        day = sym (ap (λ (h : Head). h.day) same ∙ day.3);
        greatest = it.1;
      }

  carried_becomes : Becomes old (world_3 new)
  carried_becomes (HeadIs h) = across (λ rows. Names head_fact rows (HeadIs h)) _ _ (of_head_row daily_layout new refl h) (of_head_row packs_layout old refl h) c.others.0
  carried_becomes (VersionIs k v) =
      let all = of_version daily_layout new k v in
      let packed = versions_packed new k v in
      across (λ rows. Member (VersionIs k v) (flat_map pack_facts rows)) (new pack_tree) (old pack_tree)
      ((λ m. packed.0 (all.0 m)), (λ m. all.1 (packed.1 m))) (of_version packs_layout old k v) c.others.1.0
  carried_becomes (DetailIs x) = (
    (λ m.
        let n = (named new x).0 m in
        let there : Member (DetailIs x) (map detail_fact (new daydetail_tree)) =
        subst (λ f. Member f (map detail_fact (new daydetail_tree))) n.2 (map_in detail_fact (new daydetail_tree) n.0 n.1) in
        known_day x ((c.are x).0 (said x there))),
    (λ it.
        let n = in_map detail_fact (new daydetail_tree) (DetailIs x) (says x ((c.are x).1 (of_known x it))) in
        (named new x).1 (n.0, n.1, sym n.2)),
  )
  carried_becomes (EventIs v) = across (λ rows. Names event_fact rows (EventIs v)) _ _ (of_event daily_layout new v) (of_event packs_layout old v) c.others.1.1.0
  carried_becomes (PeriodIs k v) = across (λ rows. Names period_fact rows (PeriodIs k v)) _ _ (of_period daily_layout new k v) (of_period packs_layout old k v) c.others.1.1.1.0
  carried_becomes (HolidayIs d) = across (λ rows. Names holiday_fact rows (HolidayIs d)) _ _ (of_holiday daily_layout new d) (of_holiday packs_layout old d) c.others.1.1.1.1.0
  carried_becomes (JobIs id v n) = across (λ rows. Names job_fact rows (JobIs id v n)) _ _ (of_job daily_layout new id v n) (of_job packs_layout old id v n) c.others.1.1.1.1.1.0

-- a day that the tables say before mds_daydetail is made
known_as : (old new : Trees) → new head_tree ≡ old head_tree → new detail_tree ≡ old detail_tree → (x : Detail) → IsOfKnownDay old x → IsOfKnownDay new x
known_as old new heads same x is = record {
  head = is.head;
  there = subst (Member is.head) (sym heads) is.there;
  stream = is.stream;
  day = is.day;
  greatest = greatest_as old new same x.stream (record { stream = x.stream; moment = x.moment; details = x.details }) is.greatest;
}

-- ---- the parts, one after another

module _ (a b c d e : State) (first : IsFor dating a.now) (made : MakesTable 9 a b) (dated : Dates b c) (cleared : Clears detail_tree c d)
    (raised : Raises (pos 3) d e) where
  clears_others : KeepsOthers detail_tree c.now.trees d.now.trees tables_3
  clears_others = others_of detail_tree schema_3 c d dated.puts.schema cleared.others

  behind_d : d.now.schema ≡ schema_3
  behind_d = cleared.schema ∙ dated.puts.schema

  raises_others : KeepsOthers schema_tree d.now.trees e.now.trees tables_3
  raises_others = others_of schema_tree schema_3 d e behind_d raised.others

  daydetails_gained : IsMore (map detail_fact (c.now.trees daydetail_tree)) (map detail_fact (b.now.trees daydetail_tree)) (map DetailIs dated.details)
  daydetails_gained = more detail_part detail_bare dated.details (says_details dated.details) b.now.trees c.now.trees dated.puts.rows

  same_dated : e.now.trees daydetail_tree ≡ c.now.trees daydetail_tree
  same_dated = raises_others.1.1.1.1.1.1.1.1.1.0 (λ e. omega arith) ∙ clears_others.1.1.1.1.1.1.1.1.1.0 (λ e. omega arith)

  same : Keeps a.now.trees e.now.trees (head_table ∷ version_table ∷ steady_tables ++ pack_table ∷ [])
  same =
      spares a.now.trees b.now.trees c.now.trees d.now.trees e.now.trees daydetail_tree detail_tree schema_tree tables_2
      (daydetail_table ∷ []) made.others dated.puts.others clears_others raises_others

  carried : IsCarried a.now.trees e.now.trees dated.details
  carried = record {
    others = (same.0, (same.1.1.1.1.1.1.0, (same.1.1.0, (same.1.1.1.0, (same.1.1.1.1.0, (same.1.1.1.1.1.0, tt))))));
    dated = subst (λ rows. IsMore (map detail_fact rows) [] (map DetailIs dated.details)) (sym same_dated)
        (subst (λ rows. IsMore (map detail_fact (c.now.trees daydetail_tree)) (map detail_fact rows) (map DetailIs dated.details))
        made.none daydetails_gained);
    are = λ x.
        let it = dated.are x in (
          (λ m. known_as b.now.trees a.now.trees (sym made.others.1.0) (sym made.others.1.1.1.0) x (it.0 m)),
          (λ is. it.1 (known_as a.now.trees b.now.trees made.others.1.0 made.others.1.1.1.0 x is)),
        );
  }

  pub has_dated : HasDated a.now.trees e.now.trees
  has_dated = record {
    becomes = carried_becomes a.now.trees e.now.trees dated.details carried;
    others = carried.others;
    version = raised.version;
    unversioned = same.1.0 ∙ first.store.unversioned;
    undated = raises_others.1.1.1.0 (λ e. omega arith) ∙ cleared.none;
    sound = subst (λ schema. IsSound schema e.now.trees) (raised.schema ∙ behind_d) raised.sound;
  }
