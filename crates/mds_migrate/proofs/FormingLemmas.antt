-- Days that are given a head for each update that has a version.
use Rattle.std.proofs.Common.{◌≡◌, ◌≤◌, ◌<◌, ◌+◌, ◌^◌, inl, inr, suc, zero, ℕ, List, [], ◌∷◌, ◌++◌, true, Option, Some, None, is_some, get_or, length as size, map, slice_index_or, take, unwrap_or, ◌-◌, refl, sym, ap, subst, ◌∙◌, arith}
use Rattle.std.specs.Cmp.{tied_itself}
use Rattle.std.specs.List.{AllPairs, flat_map, list_any}
use Rattle.std.specs.declared.cmp.Ordering.TheVariants.{Less, Equal}
use Rattle.std.proofs.lemmas.Bool.{cases_lt}
use Rattle.std.proofs.lemmas.List.{map-append, take_more}
use Rattle.sqlite.specs.State.{HasCleanDisk, IsUnchanged, State}
use Rattle.sqlite_catalog.specs.Listing.{IsSound}
use Rattle.sqlite_trees.specs.Tree.{Trees}
use Rattle.sqlite_value.specs.Order.{Row, column}
use Rattle.sqlite.specs.declared.types.Value.TheVariants.{Null}
use Rattle.mds_names.specs.declared.stream.Stream.{Stream}
use Rattle.mds_marks.specs.Reading.{ReadingValue}
use Rattle.mds_world.specs.Facts.{Fact, head_at, key_at}
use Rattle.mds_world.specs.Facts.Fact.{HeadIs, VersionIs}
use Rattle.mds_world.specs.Lists.{Member}
use Rattle.mds_world.specs.StreamDays.{stream_day_cmp, stream_day_total}
use Rattle.mds_world.specs.World.{key_under}
use Rattle.mds_world.specs.declared.facts.Head.{Head}
use Rattle.mds_world.specs.declared.facts.Key.{Key}
use Rattle.mds_world.proofs.Lists.{append_left, append_right, flat_in, in_flat, in_map, map_in, member_append}
use Rattle.mds_tables.specs.Cells.{day_cells}
use Rattle.mds_tables.specs.RowFacts.{head_fact, heads_in, natural_at, stream_in, text_at}
use Rattle.mds_tables.specs.Stores.{Selects}
use Rattle.mds_tables.specs.Tables.{head_columns, head_tree, schema_with}
use Rattle.mds_tables.specs.Frames.{IsAt}
use Rattle.mds_tables.specs.Writing.{Puts}
use Rattle.mds_tables.proofs.PutLemmas.{none_there, puts_then}
use Rattle.mds_tables.proofs.Listed.{day_on, on_day}
use Rattle.mds_tables.proofs.MemberLemmas.{place_of}
use Rattle.mds_pack_rows.specs.DayRows.{shown_facts}
use Rattle.mds_pack_rows.specs.FormLayout.{day_in, forms_behind}
use Rattle.mds_pack_rows.specs.FormTables.{schema_4}
use Rattle.mds_pack_rows.specs.PackFacts.{body_facts, facts_from, minutes_of, pack_facts, pack_versions, readings_facts, readings_in}
use Rattle.mds_pack_rows.specs.PackTables.{Behind, pack_tree, packs_then, update_columns}
use Rattle.mds_pack_rows.proofs.AskLemmas.{pack_row}
use Rattle.mds_pack_rows.proofs.PutLemmas.{says_day}
use Rattle.mds_commit.specs.FormPutting.{form_part}
use Rattle.mds_migrate.specs.Forming.{AreFormsOf, Forms, FormsDays, IsBefore, IsFormOfDay, PutsForms, SaysForm, form_of}
use Rattle.mds_migrate.specs.OldHeads.{updateless}
use Rattle.mds_migrate.proofs.BehindQuery.{puts_since}
use Rattle.mds_migrate.proofs.DatingLemmas.{one_member}
use Rattle.mds_migrate.proofs.PackingLemmas.{head_of, no_update}

-- ---- what a body says

abbrev key_of : Key → Fact → Key
key_of other (VersionIs key reading) = key
key_of other _ = other

module _ (s : Stream) (day minutes update : ℕ) where
  -- a version of a body is of its day and its update
  from_row : (interval : ℕ) (readings : List (Option ReadingValue)) (key : Key) (reading : ReadingValue)
      → Member (VersionIs key reading) (facts_from s day minutes update interval readings)
      → (key.stream ≡ s) × (key.day ≡ day) × (key.update ≡ update)
  from_row interval [] key reading m = absurd m
  from_row interval (None ∷ readings) key reading m = from_row (interval + 1) readings key reading m
  from_row interval (Some r ∷ readings) key reading (inl e) =
      let is : key ≡ key_at s day minutes interval update = ap (key_of key) e in
      (ap (λ (k : Key). k.stream) is, ap (λ (k : Key). k.day) is, ap (λ (k : Key). k.update) is)
  from_row interval (Some r ∷ readings) key reading (inr m) = from_row (interval + 1) readings key reading m

  -- where a reading is there, there is a version
  some_from : (interval : ℕ) (readings : List (Option ReadingValue)) → list_any (λ reading. is_some reading) readings ≡ true
      → (of : ℕ) × (reading : ReadingValue)
      × Member (VersionIs (key_at s day minutes of update) reading) (facts_from s day minutes update interval readings)
  some_from interval [] some = absurd cc
  some_from interval (None ∷ readings) some = some_from (interval + 1) readings some
  some_from interval (Some r ∷ readings) some = (interval, r, inl refl)

-- a row whose body has a reading, and is one of the day's length, says a version of that length
pub says_form : (head : Head) (pack : Row) (readings : List (Option ReadingValue)) → readings_in (text_at pack 1) ≡ Some readings
    → minutes_of (size readings) ≡ head.length → list_any (λ reading. is_some reading) readings ≡ true → SaysForm head pack
says_form head pack readings is long some =
    let update = natural_at pack 0 in
    let it = some_from head.stream head.day (minutes_of (size readings)) update 1 readings some in
    let facts = says_day head.stream head.day update (text_at pack 1) readings is in (
      it.0,
      it.1,
      subst (Member (VersionIs (key_at head.stream head.day head.length it.0 update) it.1)) (sym facts)
          (subst (λ minutes. Member (VersionIs (key_at head.stream head.day minutes it.0 update) it.1) (readings_facts head.stream head.day update readings))
          long it.2),
    )

-- ---- the heads of one day

module _ (shown : Row) (head : Head) (is : head_fact (Null ∷ shown) ≡ HeadIs head) (rest : Behind) (low : head.day < 2 ^ 63) (trees : Trees)
    (sound : IsSound (schema_with (packs_then rest.more)) trees) (packs : List Row)
    (sel : Selects pack_tree (day_cells head.stream head.day) update_columns trees packs)
    (says : (pack : Row) → Member pack packs → SaysForm head pack) where
  -- each that is put is one of the day
  said_of : (h : Head) → Member h (map (form_of head) packs) → IsFormOfDay trees shown h
  said_of h m =
      let n = in_map (form_of head) packs h m in
      let r = (sel n.0).0 n.1 in
      let on = on_day head.stream head.day r.0 r.2 in
      let v = says n.0 n.1 in
      let facts : pack_facts r.0 ≡ shown_facts head.stream head.day n.0 =
      (λ i. body_facts (on.0 i) (on.1 i) (natural_at r.0 4) (text_at r.0 5)) ∙ ap (shown_facts head.stream head.day) (sym r.3) in
      let there : Member (VersionIs (key_under (form_of head n.0) v.0) v.1) (pack_versions trees) =
      flat_in pack_facts (trees pack_tree) _ r.0 r.1 (subst (Member _) (sym facts) v.2) in
      subst (IsFormOfDay trees shown) (sym n.2) (no_update shown head is, (v.0, v.1, there))

  -- and each of the day is put
  of_said : (h : Head) → IsFormOfDay trees shown h → Member h (map (form_of head) packs)
  of_said h it =
      let same : updateless h ≡ updateless head = ap (head_of head) (sym it.0 ∙ no_update shown head is) in
      let v = it.1 in
      let r = in_flat pack_facts (trees pack_tree) (VersionIs (key_under h v.0) v.1) v.2 in
      let readings = unwrap_or (readings_in (text_at r.0 5)) [] in
      let on = from_row (stream_in r.0) (natural_at r.0 3) (minutes_of (size readings)) (natural_at r.0 4) 1 readings (key_under h v.0) v.1 r.2 in
      let begins = day_on head.stream head.day r.0 low (pack_row rest.more trees sound r.0 r.1)
      (sym on.0 ∙ ap (λ (x : Head). x.stream) same) (sym on.1 ∙ ap (λ (x : Head). x.day) same) in
      let pack = map (column r.0) update_columns in
      let back = sym same in
      let update = sym on.2 in
      let form : form_of head pack ≡ h = λ i. head_at (back i).stream (back i).day (update i) (back i).length (back i).unit in
      subst (λ x. Member x (map (form_of head) packs)) form (map_in (form_of head) packs pack ((sel pack).1 (r.0, r.1, begins, refl)))

  of_one_day : AreFormsOf trees (shown ∷ []) (map (form_of head) packs)
  of_one_day h = (
    (λ m. (shown, inl refl, said_of h m)),
    (λ it. of_said h (subst (λ r. IsFormOfDay trees r h) (one_member it.0 shown it.1) it.2)),
  )

-- ---- one row of mds_pack after another

pub forms_none : (s : State) (head : Head) → HasCleanDisk s → IsAt schema_4 s → PutsForms s s head []
forms_none s head clean at = record {
  puts = (none_there schema_4 form_part s).puts clean at.is_open at.schema at.sound;
  says = λ pack m. absurd m;
}

pub forms_next : (a b c : State) (head : Head) (packs : List Row) (k : ℕ) (pack : Row) (form : Head) → k < size packs
    → pack ≡ slice_index_or packs k pack → form ≡ form_of head pack → SaysForm head pack → PutsForms a b head (take k packs)
    → Puts schema_4 form_part b c (form ∷ []) → PutsForms a c head (take (k + 1) packs)
forms_next a b c head packs k pack form low at is says p puts =
    let front : take (k + 1) packs ≡ take k packs ++ pack ∷ [] = take_more packs k pack low ∙ ap (λ x. take k packs ++ x ∷ []) (sym at) in
    let all = puts_then schema_4 form_part a b c (map (form_of head) (take k packs)) (form_of head pack ∷ []) p.puts
    (subst (λ h. Puts schema_4 form_part b c (h ∷ [])) is puts) in
    subst (PutsForms a c head) (sym front) (record {
      puts = subst (Puts schema_4 form_part a c) (sym (map-append (form_of head) (take k packs) (pack ∷ []))) all;
      says = λ x m. elim (member_append x (take k packs) (pack ∷ []) m) [
        | inl n ↦ p.says x n
        | inr n ↦ subst (SaysForm head) (sym (one_member x pack n)) says
      ];
    })

-- ---- one day after another

-- the rows of mds_pack were asked for, and then heads put
pub forms_day : (a b c : State) → IsAt schema_4 a → (shown : Row) (head : Head) → head_fact (Null ∷ shown) ≡ HeadIs head → head.day < 2 ^ 63
    → (packs : List Row) → IsUnchanged a b × Selects pack_tree (day_cells head.stream head.day) update_columns a.now.trees packs
    → PutsForms b c head packs → FormsDays a c (shown ∷ [])
forms_day a b c at shown head is low packs found p = record {
  heads = map (form_of head) packs;
  puts = puts_since schema_4 form_part a b c found.0.0.now_is found.0.0.committed_is (map (form_of head) packs) p.puts;
  are = of_one_day shown head is forms_behind low a.now.trees at.sound packs found.1 p.says;
}

-- of no days there are none
pub forms_since : (a b : State) → HasCleanDisk b → IsAt schema_4 b → IsUnchanged a b → FormsDays a b []
forms_since a b clean there same = record {
  heads = [];
  puts = puts_since schema_4 form_part a b b same.0.now_is same.0.committed_is []
      ((none_there schema_4 form_part b).puts clean there.is_open there.schema there.sound);
  are = λ h. ((λ m. absurd m), (λ p. absurd p.1));
}

-- what is said of mds_pack alone
form_as : (old new : Trees) → new pack_tree ≡ old pack_tree → (day : Row) (h : Head) → IsFormOfDay old day h → IsFormOfDay new day h
form_as old new same day h it =
    (it.0, (it.1.0, it.1.1, subst (λ rows. Member (VersionIs (key_under h it.1.0) it.1.1) (flat_map pack_facts rows)) (sym same) it.1.2))

-- those of some days and of others
of_both : (trees : Trees) (xs ys : List Row) (one two : List Head) → AreFormsOf trees xs one → AreFormsOf trees ys two
    → AreFormsOf trees (xs ++ ys) (one ++ two)
of_both trees xs ys one two p q h = (
  (λ m. elim (member_append h one two m) [
    | inl n ↦ let it = (p h).0 n in (it.0, append_left it.0 xs ys it.1, it.2)
    | inr n ↦ let it = (q h).0 n in (it.0, append_right it.0 xs ys it.1, it.2)
  ]),
  (λ it. elim (member_append it.0 xs ys it.1) [
    | inl n ↦ append_left h one two ((p h).1 (it.0, n, it.2))
    | inr n ↦ append_right h one two ((q h).1 (it.0, n, it.2))
  ]),
)

module _ (a b c : State) where
  forms_both : (xs ys : List Row) → FormsDays a b xs → FormsDays b c ys → FormsDays a c (xs ++ ys)
  forms_both xs ys p q = record {
    heads = p.heads ++ q.heads;
    puts = puts_then schema_4 form_part a b c p.heads q.heads p.puts q.puts;
    are =
        let same : b.now.trees pack_tree ≡ a.now.trees pack_tree = p.puts.others.1.1.1.1.1.1.1.1.0 (λ e. omega arith) in
        let back = form_as b.now.trees a.now.trees (sym same) in
        let on = form_as a.now.trees b.now.trees same in
        let more : AreFormsOf a.now.trees ys q.heads =
        λ h. ((λ m. let it = (q.are h).0 m in (it.0, it.1, back it.0 h it.2)), (λ it. (q.are h).1 (it.0, it.1, on it.0 h it.2))) in
        of_both a.now.trees xs ys p.heads q.heads p.are more;
  }

  pub days_next : (days : List Row) (k : ℕ) (day : Row) → k < size days → day ≡ slice_index_or days k day
      → FormsDays a b (take k days) → FormsDays b c (day ∷ []) → FormsDays a c (take (k + 1) days)
  days_next days k day low is p q =
      let front : take (k + 1) days ≡ take k days ++ day ∷ [] = take_more days k day low ∙ ap (λ x. take k days ++ x ∷ []) (sym is) in
      subst (FormsDays a c) (sym front) (forms_both (take k days) (day ∷ []) p q)

-- ---- days in order

-- each stands before the next, up to a place
abbrev pub RiseTo : List Row → ℕ → Type 0
RiseTo rows n = (k : ℕ) (d : Row) → k + 1 < n → IsBefore (get_or rows k d) (get_or rows (k + 1) d)

pub one_more : (rows : List Row) (n : ℕ) (a b : Row) → 1 ≤ n → RiseTo rows n → a ≡ get_or rows (n - 1) a → b ≡ get_or rows n b → IsBefore a b
    → n < size rows → RiseTo rows (n + 1)
one_more rows n a b some rise first next before low k d up =
    elim (cases_lt (k + 1) n) [
      | inl less ↦ rise k d less
      | inr more ↦
          let at : k ≡ n - 1 = omega (arith, more, up, some) in
          let on : k + 1 ≡ n = omega (arith, more, up, some) in
          let here : get_or rows k d ≡ a = get_or_any rows k d a (omega (arith, low, on)) ∙ ap (λ j. get_or rows j a) at ∙ sym first in
          let there : get_or rows (k + 1) d ≡ b = get_or_any rows (k + 1) d b (omega (arith, low, on)) ∙ ap (λ j. get_or rows j b) on ∙ sym next in
          subst (λ x. IsBefore x (get_or rows (k + 1) d)) (sym here) (subst (IsBefore a) (sym there) before)
    ]
  where
    get_or_any : (rows : List Row) (k : ℕ) (d e : Row) → k < size rows → get_or rows k d ≡ get_or rows k e
    get_or_any [] k d e low = absurd (omega (arith, low))
    get_or_any (r ∷ rs) zero d e low = refl
    get_or_any (r ∷ rs) (suc k) d e low = get_or_any rs k d e (omega (arith, low))

-- so each stands before all behind it
pub all_rise : (rows : List Row) → RiseTo rows (size rows) → AllPairs IsBefore rows
all_rise rows rise i zero d low high = absurd (omega (arith, low))
all_rise rows rise i (suc j) d low high =
    let next : j + 1 ≡ suc j = omega arith in
    let step : IsBefore (get_or rows j d) (get_or rows (suc j) d) =
    subst (λ n. IsBefore (get_or rows j d) (get_or rows n d)) next (rise j d (omega (arith, high))) in
    elim (cases_lt i j) [
      | inl less ↦ stream_day_total.trans (day_in (Null ∷ get_or rows i d)) (day_in (Null ∷ get_or rows j d)) (day_in (Null ∷ get_or rows (suc j) d))
          (all_rise rows rise i j d less (omega (arith, high))) step
      | inr more ↦ let same : j ≡ i = omega (arith, more, low) in subst (λ n. IsBefore (get_or rows n d) (get_or rows (suc j) d)) same step
    ]

never_before : (a b : Row) → day_in (Null ∷ a) ≡ day_in (Null ∷ b) → IsBefore a b → ⊥
never_before a b same before =
    let tied : stream_day_cmp (day_in (Null ∷ a)) (day_in (Null ∷ b)) ≡ Equal =
    subst (λ d. stream_day_cmp (day_in (Null ∷ a)) d ≡ Equal) same (tied_itself stream_day_total (day_in (Null ∷ a))) in
    absurd (let no : Less ≡ Equal = sym before ∙ tied in cc)

-- a day is shown once
one_shown : (rows : List Row) → AllPairs IsBefore rows → (a b : Row) → Member a rows → Member b rows → day_in (Null ∷ a) ≡ day_in (Null ∷ b) → a ≡ b
one_shown rows sorted a b m n same =
    let x = place_of rows a a m in
    let y = place_of rows b a n in
    elim (cases_lt x.0 y.0) [
      | inl less ↦ absurd (never_before a b same (subst (IsBefore a) y.2 (subst (λ r. IsBefore r (get_or rows y.0 a)) x.2 (sorted x.0 y.0 a less y.1))))
      | inr more ↦ elim (cases_lt y.0 x.0) [
        | inl less ↦ absurd (never_before b a (sym same) (subst (IsBefore b) x.2 (subst (λ r. IsBefore r (get_or rows x.0 a)) y.2 (sorted y.0 x.0 a less x.1))))
        | inr less ↦ let at : x.0 ≡ y.0 = omega (arith, more, less) in sym x.2 ∙ ap (λ k. get_or rows k a) at ∙ y.2
      ]
    ]

-- ---- all days

-- what is put for the days that are shown is put for all days that mds_head says
pub forms_all : (a c : State) (days : List Row) → Selects head_tree [] head_columns a.now.trees days → AllPairs IsBefore days → FormsDays a c days
    → Forms a c
forms_all a c days sel sorted p =
    let trees = a.now.trees in
    let are = p.are in
    record {
      heads = p.heads;
      puts = p.puts;
      are = λ h. (
        (λ m.
            let it = (are h).0 m in
            let r = (sel it.0).0 it.1 in
            let is : head_fact r.0 ≡ HeadIs (updateless h) = sym (ap (λ s. head_fact (Null ∷ s)) r.3) ∙ it.2.0 in
            (subst (λ f. Member f (heads_in trees)) is (map_in head_fact (trees head_tree) r.0 r.1), it.2.1)),
        (λ it.
            let n = in_map head_fact (trees head_tree) (HeadIs (updateless h)) it.0 in
            let shown = map (column n.0) head_columns in
            (are h).1 (shown, (sel shown).1 (n.0, n.1, refl, refl), (sym n.2, it.1))),
      );
      units = λ x y m n same.
          let shown = λ (row : Row). map (column row) head_columns in
          ap (λ r. text_at (Null ∷ r) 5)
          (one_shown days sorted (shown x) (shown y) ((sel (shown x)).1 (x, m, refl, refl)) ((sel (shown y)).1 (y, n, refl, refl)) same);
    }
