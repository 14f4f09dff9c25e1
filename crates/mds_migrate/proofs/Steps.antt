-- The parts of the step to schema 2, one after another.
use Rattle.std.proofs.Common.{◌≡◌, ◌↔◌, [], ◌∷◌, ◌++◌, List, ℕ, map, pos, Bool, true, false, not, ◌&&◌, cond, eqb, refl, sym, ap, subst, ◌∙◌, arith}
use Rattle.std.specs.List.{filter, flat_map}
use Rattle.std.proofs.lemmas.Bool.{and_parts, eqb-false, not-true}
use Rattle.sqlite.specs.State.{State}
use Rattle.sqlite.specs.Table.{Table}
use Rattle.sqlite_catalog.specs.Listing.{IsSound}
use Rattle.sqlite_trees.specs.Tree.{Trees}
use Rattle.sqlite_value.specs.Order.{Row}
use Rattle.mds_quantity.specs.declared.unit.Unit.{Unit as MeasureUnit}
use Rattle.mds_names.specs.declared.stream.Stream.{Stream}
use Rattle.mds_marks.specs.Reading.{ReadingValue}
use Rattle.mds_world.specs.Facts.{Fact, head_at, key_at}
use Rattle.mds_world.specs.Facts.Fact.{DetailIs, EventIs, HeadIs, HolidayIs, JobIs, PeriodIs, VersionIs}
use Rattle.mds_world.specs.Lists.{Member}
use Rattle.mds_world.specs.Sets.{◌∈◌}
use Rattle.mds_world.specs.declared.facts.Detail.{Detail}
use Rattle.mds_world.specs.declared.facts.Key.{Key}
use Rattle.mds_world.proofs.Lists.{in_map, map_in}
use Rattle.mds_tables.specs.Layouts.{rows_layout, world_with}
use Rattle.mds_tables.specs.RowFacts.{event_fact, head_fact, holiday_fact, job_fact, lengthless, natural_at, period_fact, stream_in, text_at, unit_named, version_fact}
use Rattle.mds_tables.specs.Tables.{detail_table, head_table, head_tree, no_more, schema_1, schema_tree, tables_1, version_tree}
use Rattle.mds_tables.specs.Writing.{Keeps, KeepsOthers}
use Rattle.mds_tables.proofs.Named.{Names, of_detail, of_event, of_head_row, of_holiday, of_job, of_period, of_version}
use Rattle.mds_pack_rows.specs.PackFacts.{pack_facts, pack_versions}
use Rattle.mds_pack_rows.specs.Making.{MakesTable}
use Rattle.mds_pack_rows.specs.PackTables.{pack_table, pack_tree, schema_2, tables_2}
use Rattle.mds_pack_rows.specs.PacksLayout.{packs_layout, world_2}
use Rattle.mds_pack_rows.proofs.PutLemmas.{others_of}
use Rattle.mds_migrate.specs.Migrated.{HasPacked, IsFor, packing, steady_tables}
use Rattle.mds_migrate.specs.Migrating.{Clears, IsLengthened, Packs, Raises}
use Rattle.mds_migrate.specs.OldLengths.{CameOf, day_head}
use Rattle.mds_migrate.proofs.HeadLemmas.{has_head}

-- ---- what the tables become

-- mds_pack says the versions with the lengths of heads, and every other table that says facts is as it was
record IsTakenOver (old new : Trees) : Type 0 where
  versions : (fact : Fact) → Member fact (pack_versions new) ↔ IsLengthened old fact
  others : Keeps old new (head_table ∷ detail_table ∷ steady_tables)

-- what the same rows, or facts, say
pub across : {A C X : Type 0} (P : X → Type 0) (xs ys : X) → A ↔ P xs → C ↔ P ys → xs ≡ ys → A ↔ C
across P xs ys one two same = ((λ a. two.1 (subst P same (one.0 a))), (λ c. one.1 (subst P (sym same) (two.0 c))))

-- rows of mds_version say no details
no_details : (x : Detail) (rows : List Row) → Member (DetailIs x) (map version_fact rows) → ⊥
no_details x rows m = let n = in_map version_fact rows (DetailIs x) m in cc

-- the length of a version
abbrev length_of : Fact → ℕ
length_of (VersionIs key reading) = key.length
length_of _ = 0

-- the stream and the day of a version
abbrev stream_of : Stream → Fact → Stream
stream_of other (VersionIs key reading) = key.stream
stream_of other _ = other

abbrev day_of : ℕ → Fact → ℕ
day_of other (VersionIs key reading) = key.day
day_of other _ = other

module _ (old new : Trees) (t : IsTakenOver old new) where
  lengthened : (fact : Fact) → (fact ∈ world_2 new) ↔ CameOf (world_with rows_layout old) fact
  lengthened (HeadIs h) = across (λ rows. Names head_fact rows (HeadIs h)) _ _ (of_head_row packs_layout new refl h) (of_head_row rows_layout old refl h) t.others.0
  lengthened (VersionIs k v) =
      let all = of_version packs_layout new k v in
      let one = of_version rows_layout old (lengthless k) v in (
        (λ m.
            let it = (t.versions (VersionIs k v)).0 (all.0 m) in
            let head = in_map head_fact (old head_tree) (HeadIs (day_head k it.1.0)) it.1.1 in
            (one.1 it.0, (it.1.0, (of_head_row rows_layout old refl (day_head k it.1.0)).1 (head.0, head.1, sym head.2)))),
        (λ c.
            let head = (of_head_row rows_layout old refl (day_head k c.1.0)).0 c.1.1 in
            let there : Member (HeadIs (day_head k c.1.0)) (map head_fact (old head_tree)) =
            subst (λ f. Member f (map head_fact (old head_tree))) head.2 (map_in head_fact (old head_tree) head.0 head.1) in
            all.1 ((t.versions (VersionIs k v)).1 (one.0 c.0, (c.1.0, there)))),
      )
  lengthened (DetailIs x) = (
    (λ m. absurd ((t.versions (DetailIs x)).0 ((of_detail packs_layout new x).0 m))),
    (λ m. absurd (no_details x (old version_tree) ((of_detail rows_layout old x).0 m))),
  )
  lengthened (EventIs v) = across (λ rows. Names event_fact rows (EventIs v)) _ _ (of_event packs_layout new v) (of_event rows_layout old v) t.others.1.1.0
  lengthened (PeriodIs k v) = across (λ rows. Names period_fact rows (PeriodIs k v)) _ _ (of_period packs_layout new k v) (of_period rows_layout old k v) t.others.1.1.1.0
  lengthened (HolidayIs d) = across (λ rows. Names holiday_fact rows (HolidayIs d)) _ _ (of_holiday packs_layout new d) (of_holiday rows_layout old d) t.others.1.1.1.1.0
  lengthened (JobIs id v n) = across (λ rows. Names job_fact rows (JobIs id v n)) _ _ (of_job packs_layout new id v n) (of_job rows_layout old id v n) t.others.1.1.1.1.1.0

  module _ (sound : IsSound schema_1 old) (key : Key) (reading : ReadingValue) (was : VersionIs key reading ∈ world_with rows_layout old) where
    said : (row : Row) × Member row (old version_tree) × (VersionIs key reading ≡ version_fact row)
    said = in_map version_fact (old version_tree) (VersionIs key reading) ((of_version rows_layout old key reading).0 was)

    -- the row of the head of its day
    head : (row : Row) × Member row (old head_tree) × (stream_in said.0 ≡ stream_in row) × (natural_at said.0 3 ≡ natural_at row 3)
    head = has_head no_more old sound said.0 said.1

    -- it takes the length of that head
    abbrev minutes : ℕ
    minutes = natural_at head.0 4

    abbrev taken : Key
    taken = key_at key.stream key.day minutes key.interval key.update

    bare : VersionIs key reading ≡ VersionIs (lengthless taken) reading
    bare =
        let none : key.length ≡ 0 = ap length_of said.2 in
        λ i. VersionIs (key_at key.stream key.day (none i) key.interval key.update) reading

    over : head_fact head.0 ≡ HeadIs (day_head taken (unit_named (text_at head.0 5)))
    over =
        let stream : stream_in head.0 ≡ key.stream = sym (ap (stream_of key.stream) said.2 ∙ head.2) in
        let day : natural_at head.0 3 ≡ key.day = sym (ap (day_of key.day) said.2 ∙ head.3) in
        λ i. HeadIs (head_at (stream i) (day i) 0 minutes (unit_named (text_at head.0 5)))

    kept : (length : ℕ) × (VersionIs (key_at key.stream key.day length key.interval key.update) reading ∈ world_2 new)
    kept = (
      minutes,
      (lengthened (VersionIs taken reading)).1 (
        subst (λ f. f ∈ world_with rows_layout old) bare was,
        (
          unit_named (text_at head.0 5),
          (of_head_row rows_layout old refl (day_head taken (unit_named (text_at head.0 5)))).1 (head.0, head.1, over),
        ),
      ),
    )

-- other tables with the same rows of mds_version and mds_head say the same of them
as_before : (old new : Trees) → new version_tree ≡ old version_tree → new head_tree ≡ old head_tree → (fact : Fact)
    → IsLengthened old fact ↔ IsLengthened new fact
as_before old new versions heads (VersionIs k v) =
    let same : IsLengthened old (VersionIs k v) ≡ IsLengthened new (VersionIs k v) =
    λ i. Member (VersionIs (lengthless k) v) (map version_fact (sym versions i))
    × ((unit : MeasureUnit) × Member (HeadIs (day_head k unit)) (map head_fact (sym heads i))) in
    ((λ l. subst (λ T. T) same l), (λ l. subst (λ T. T) (sym same) l))
as_before old new versions heads (HeadIs h) = (λ l. l, λ l. l)
as_before old new versions heads (DetailIs x) = (λ l. l, λ l. l)
as_before old new versions heads (EventIs v) = (λ l. l, λ l. l)
as_before old new versions heads (PeriodIs k v) = (λ l. l, λ l. l)
as_before old new versions heads (HolidayIs d) = (λ l. l, λ l. l)
as_before old new versions heads (JobIs id v n) = (λ l. l, λ l. l)

-- ---- the tables that no part changes

-- the table is of none of these trees
abbrev is_spared : ℕ → ℕ → ℕ → Table → Bool
is_spared p q r table = not (eqb table.tree p) && (not (eqb table.tree q) && not (eqb table.tree r))

-- Four parts: the first makes a table behind these, and each other one changes that of its tree. The tables of other trees are as they
-- were.
pub spares : (a b c d e : Trees) (p q r : ℕ) (tables more : List Table) → Keeps a b tables → KeepsOthers p b c (tables ++ more)
    → KeepsOthers q c d (tables ++ more) → KeepsOthers r d e (tables ++ more) → Keeps a e (filter (is_spared p q r) tables)
spares a b c d e p q r [] more one two three four = tt
spares a b c d e p q r (t ∷ ts) more one two three four =
    let rest = spares a b c d e p q r ts more one.1 two.1 three.1 four.1 in
    let spared = filter (is_spared p q r) ts in
    elim (is_spared p q r t) as (λ it. is_spared p q r t ≡ it → Keeps a e (cond it (t ∷ spared) spared)) [
      | true ↦ λ is.
          let parts = and_parts _ _ is in
          let last = and_parts _ _ parts.1 in (
            four.0 (eqb-false t.tree r (not-true _ last.1)) ∙ three.0 (eqb-false t.tree q (not-true _ last.0))
                ∙ two.0 (eqb-false t.tree p (not-true _ parts.0)) ∙ one.0,
            rest,
          )
      | false ↦ λ _. rest
    ] refl

-- ---- the parts, one after another

module _ (a b c d e : State) (first : IsFor packing a.now) (made : MakesTable 8 a b) (packs : b.now.trees pack_tree ≡ [] → Packs b c)
    (cleared : Clears version_tree c d) (raised : Raises (pos 2) d e) where
  packed : Packs b c
  packed = packs made.none

  packs_others : KeepsOthers pack_tree b.now.trees c.now.trees tables_2
  packs_others = others_of pack_tree schema_2 b c made.schema packed.changes.others

  clears_others : KeepsOthers version_tree c.now.trees d.now.trees tables_2
  clears_others = others_of version_tree schema_2 c d (packed.changes.schema ∙ made.schema) cleared.others

  behind_d : d.now.schema ≡ schema_2
  behind_d = cleared.schema ∙ packed.changes.schema ∙ made.schema

  raises_others : KeepsOthers schema_tree d.now.trees e.now.trees tables_2
  raises_others = others_of schema_tree schema_2 d e behind_d raised.others

  same_others : Keeps a.now.trees e.now.trees (head_table ∷ detail_table ∷ steady_tables)
  same_others =
      spares a.now.trees b.now.trees c.now.trees d.now.trees e.now.trees pack_tree version_tree schema_tree tables_1 (pack_table ∷ [])
      made.others packs_others clears_others raises_others

  same_packs : e.now.trees pack_tree ≡ c.now.trees pack_tree
  same_packs = raises_others.1.1.1.1.1.1.1.1.0 (λ e. omega arith) ∙ clears_others.1.1.1.1.1.1.1.1.0 (λ e. omega arith)

  -- what mds_version and mds_head said before mds_pack was made
  lengthened_as : (fact : Fact) → IsLengthened b.now.trees fact ↔ IsLengthened a.now.trees fact
  lengthened_as = as_before b.now.trees a.now.trees (sym made.others.1.1.0) (sym made.others.1.0)

  taken_over : IsTakenOver a.now.trees e.now.trees
  taken_over = record {
    versions = λ f.
        let it = packed.lengthened f in
        let was = lengthened_as f in (
          (λ m. was.0 (it.0 (subst (λ rows. Member f (flat_map pack_facts rows)) same_packs m))),
          (λ l. subst (λ rows. Member f (flat_map pack_facts rows)) (sym same_packs) (it.1 (was.1 l))),
        );
    others = same_others;
  }

  pub has_packed : HasPacked a.now.trees e.now.trees
  has_packed = record {
    lengthened = lengthened a.now.trees e.now.trees taken_over;
    kept = kept a.now.trees e.now.trees taken_over first.sound;
    said = λ row m. packed.said row (subst (Member row) same_packs m);
    others = same_others;
    version = raised.version;
    unversioned = raises_others.1.1.0 (λ e. omega arith) ∙ cleared.none;
    sound = subst (λ schema. IsSound schema e.now.trees) (raised.schema ∙ behind_d) raised.sound;
  }
