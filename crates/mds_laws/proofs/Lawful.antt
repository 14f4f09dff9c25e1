-- A file that is taken in leaves a lawful World lawful.
use Rattle.std.specs.Prelude.{◌≡◌, ◌⊎◌, ℕ, ◌+◌, ◌<◌, ◌≤◌, List, [], ◌∷◌, length, None, IsTrue}
use Rattle.std.proofs.Common.{sym, ap, ◌∙◌, subst, inl, inr, arith, refl}
use Rattle.std.specs.List.{All}
use Rattle.std.proofs.lemmas.Bool.Decides.{nat_tests}
use Rattle.mds_calendar.specs.Length.{count_of, is_length}
use Rattle.mds_marks.specs.Reading.{ReadingValue}
use Rattle.mds_records.specs.declared.file.FileKind.{FileKind}
use Rattle.mds_records.specs.declared.file.FileKind.TheVariants.{Nem12, Nem13}
use Rattle.mds_world.specs.declared.facts.Detail.{Detail}
use Rattle.mds_world.specs.declared.facts.Head.{Head}
use Rattle.mds_world.specs.declared.facts.Key.{Key}
use Rattle.mds_world.specs.Facts.{Fact, JobContent, detail_at, head_at, key_at}
use Rattle.mds_world.specs.Facts.Fact.{HeadIs, VersionIs, DetailIs, JobIs}
use Rattle.mds_world.proofs.Lawful.{wider_day, wider_head, wider_version}
use Rattle.mds_world.proofs.Lists.{flat_in}
use Rattle.mds_world.specs.Lists.{Member}
use Rattle.mds_world.proofs.Members.{in_union, union_left, union_right}
use Rattle.mds_world.specs.Sets.{◌∈◌}
use Rattle.mds_world.specs.Stated.{facts_of, stated, versions_from}
use Rattle.mds_world.specs.World.{Agrees, HasHead, HasVersion, IsKnownDay, IsLawful, World, head_over, union}
use Rattle.mds_statements.specs.Statements.{DayStatement, DetailsStatement, Statement, days_in, days_of}
use Rattle.mds_statements.specs.Statements.Statement.{HeaderOf, StreamOf, DetailsOf, DayOf, EventOf, PeriodOf}
use Rattle.mds_nem12.proofs.Orderly.{days_have_lengths, days_whole}
use Rattle.mds_keeper.proofs.Taken.{from_versions}
use Rattle.std.proofs.lemmas.List.Elements.{All-nil}
use Rattle.mds_service.proofs.FileKinds.{no_days}
use Rattle.mds_service.proofs.StatedDetails.{HasDay, details_have_days}
use Rattle.mds_service.specs.Imports.{IsWholeDay}
use Rattle.mds_service.specs.Machine.{fault_in, stated_in}
use Rattle.mds_laws.proofs.Members as members
use Rattle.mds_laws.proofs.Members.{all_member, in_stated, same_key, within}

-- each day of a well formed file has a reading for each interval; a NEM13 file has no days
days_are_whole : (kind : FileKind) (text : List ℕ) → fault_in kind text ≡ None → All IsWholeDay (days_of (stated_in kind text))
days_are_whole Nem12 text well =
    let lengths = days_have_lengths text well in
    let whole = days_whole text in
    λ k d lt. record { sized = lengths k d lt; whole = whole k d lt }
days_are_whole Nem13 text well = subst (All IsWholeDay) (sym (no_days text)) (All-nil IsWholeDay)

abbrev head_of : DayStatement → Head
head_of day = head_at day.stream day.date day.update day.length day.unit

same_head : (x y : Head) → HeadIs x ≡ HeadIs y → x ≡ y
same_head x y e = cc

same_detail : (x y : Detail) → DetailIs x ≡ DetailIs y → x ≡ y
same_detail x y e = cc

first_version : (day : DayStatement) → 0 < length day.readings
    → (reading : ReadingValue)
    × Member (VersionIs (key_at day.stream day.date day.length 1 day.update) reading) (facts_of (DayOf day))
first_version day some = by_readings day.readings some
  where
    by_readings : (readings : List ReadingValue) → 0 < length readings
        → (reading : ReadingValue)
        × Member (VersionIs (key_at day.stream day.date day.length 1 day.update) reading)
        (HeadIs (head_of day) ∷ versions_from day.stream day.date day.length day.update 1 readings)
    by_readings [] l = absurd (omega arith)
    by_readings (reading ∷ rest) l = (reading, inr (inl refl))

has_intervals : (minutes : ℕ) → IsTrue (is_length minutes) → 0 < count_of minutes
has_intervals minutes h = grind (arith, nat_tests)

pub no_job : (s : Statement) (id : List ℕ) (content : JobContent) (n : ℕ) → Member (JobIs id content n) (facts_of s) → ⊥
no_job (HeaderOf header) id content n m = m
no_job (StreamOf stream) id content n m = m
no_job (DetailsOf details) id content n (inl e) = cc
no_job (DetailsOf details) id content n (inr m) = m
no_job (DayOf day) id content n (inl e) = cc
no_job (DayOf day) id content n (inr m) =
    let v = from_versions day.stream day.date day.length day.update 1 day.readings _ m in let e = v.3 in cc
no_job (EventOf event) id content n (inl e) = cc
no_job (EventOf event) id content n (inr m) = m
no_job (PeriodOf period) id content n (inl e) = cc
no_job (PeriodOf period) id content n (inr m) = m

module _ (w : World) (xs : List Statement) (sound : All IsWholeDay (days_of xs))
    (beside : (details : DetailsStatement) → Member (DetailsOf details) xs → HasDay xs details) where
  whole : World
  whole = union w (stated xs)

  old : (f : Fact) → f ∈ w → f ∈ whole
  unfolding whole
  old = union_left w (stated xs)

  more : (f : Fact) (s : Statement) → Member s xs → Member f (facts_of s) → f ∈ whole
  unfolding whole
  more f s m n = union_right w (stated xs) f (members.stated_in xs f s m n)

  whence : (f : Fact) → f ∈ whole → (f ∈ w) ⊎ ((s : Statement) × Member s xs × Member f (facts_of s))
  unfolding whole
  whence f h = elim (in_union w (stated xs) f h) [ inl a ↦ inl a | inr b ↦ inr (in_stated xs f b) ]

  is_whole : (day : DayStatement) → Member (DayOf day) xs → IsWholeDay day
  is_whole day m = all_member IsWholeDay (days_of xs) day sound (flat_in days_in xs day (DayOf day) m (inl refl))

  headed : (s : Statement) (key : Key) (reading : ReadingValue) → Member s xs
      → Member (VersionIs key reading) (facts_of s) → HasHead whole key
  headed (HeaderOf header) key reading m n = absurd n
  headed (StreamOf stream) key reading m n = absurd n
  headed (DetailsOf details) key reading m (inl e) = cc
  headed (DetailsOf details) key reading m (inr n) = absurd n
  headed (DayOf day) key reading m (inl e) = cc
  headed (DayOf day) key reading m (inr n) =
      let v = from_versions day.stream day.date day.length day.update 1 day.readings _ n in
      let same = (same_key _ _ _ _ v.3).0 in
      let at : key.interval ≡ 1 + v.0 = ap (λ (k : Key). k.interval) same in
      let below : v.0 < length day.readings = within day.readings v.0 v.1 v.2 in
      let last : key.interval ≤ length day.readings = omega (arith, at, below) in (
        day.unit,
        more _ (DayOf day) m (inl (ap (λ k. HeadIs (head_over k day.unit)) same)),
        omega (arith, at),
        subst (λ n. key.interval ≤ n) ((is_whole day m).whole ∙ sym (ap (λ (k : Key). count_of k.length) same)) last,
      )
  headed (EventOf event) key reading m (inl e) = cc
  headed (EventOf event) key reading m (inr n) = absurd n
  headed (PeriodOf period) key reading m (inl e) = cc
  headed (PeriodOf period) key reading m (inr n) = absurd n

  versioned : (s : Statement) (head : Head) → Member s xs → Member (HeadIs head) (facts_of s) → HasVersion whole head
  versioned (HeaderOf header) head m n = absurd n
  versioned (StreamOf stream) head m n = absurd n
  versioned (DetailsOf details) head m (inl e) = cc
  versioned (DetailsOf details) head m (inr n) = absurd n
  versioned (DayOf day) head m (inl e) =
      let same : head ≡ head_of day = same_head _ _ e in
      let is = is_whole day m in
      let some : 0 < length day.readings = subst (λ n. 0 < n) (sym is.whole) (has_intervals day.length is.sized) in
      let v = first_version day some in
      subst (HasVersion whole) (sym same) (1, v.0, more _ (DayOf day) m v.1)
  versioned (DayOf day) head m (inr n) =
      let v = from_versions day.stream day.date day.length day.update 1 day.readings _ n in let e = v.3 in cc
  versioned (EventOf event) head m (inl e) = cc
  versioned (EventOf event) head m (inr n) = absurd n
  versioned (PeriodOf period) head m (inl e) = cc
  versioned (PeriodOf period) head m (inr n) = absurd n

  detailed : (s : Statement) (detail : Detail) → Member s xs → Member (DetailIs detail) (facts_of s)
      → IsKnownDay whole detail.stream detail.day
  detailed (HeaderOf header) detail m n = absurd n
  detailed (StreamOf stream) detail m n = absurd n
  detailed (DetailsOf details) detail m (inl e) =
      let day = beside details m in
      let same = same_detail detail (detail_at details.stream details.date details.moment details.details) e in (
        head_of day.0,
        more (HeadIs (head_of day.0)) (DayOf day.0) day.1 (inl refl),
        day.2 ∙ sym (ap (λ (x : Detail). x.stream) same),
        day.3 ∙ sym (ap (λ (x : Detail). x.day) same),
      )
  detailed (DetailsOf details) detail m (inr n) = absurd n
  detailed (DayOf day) detail m (inl e) = cc
  detailed (DayOf day) detail m (inr n) =
      let v = from_versions day.stream day.date day.length day.update 1 day.readings _ n in let e = v.3 in cc
  detailed (EventOf event) detail m (inl e) = cc
  detailed (EventOf event) detail m (inr n) = absurd n
  detailed (PeriodOf period) detail m (inl e) = cc
  detailed (PeriodOf period) detail m (inr n) = absurd n

  job_where : (id : List ℕ) (content : JobContent) (n : ℕ) → JobIs id content n ∈ whole → JobIs id content n ∈ w
  job_where id content n h = elim (whence (JobIs id content n) h) [
    | inl a ↦ a
    | inr b ↦ absurd (no_job b.0 id content n b.2)
  ]

  lawful_with : IsLawful w → Agrees whole → IsLawful whole
  lawful_with lawful agrees = record {
    agrees = agrees;
    one_job = λ id a b m n h k. lawful.one_job id a b m n (job_where id a m h) (job_where id b n k);
    closed = record {
      headed = λ key reading h. elim (whence (VersionIs key reading) h) [
        | inl a ↦ wider_head w whole old key (lawful.closed.headed key reading a)
        | inr b ↦ headed b.0 key reading b.1 b.2
      ];
      versioned = λ head h. elim (whence (HeadIs head) h) [
        | inl a ↦ wider_version w whole old head (lawful.closed.versioned head a)
        | inr b ↦ versioned b.0 head b.1 b.2
      ];
      detailed = λ detail h. elim (whence (DetailIs detail) h) [
        | inl a ↦ wider_day w whole old detail.stream detail.day (lawful.closed.detailed detail a)
        | inr b ↦ detailed b.0 detail b.1 b.2
      ];
    };
  }

pub lawful_with_file : (w : World) (kind : FileKind) (text : List ℕ) → fault_in kind text ≡ None → IsLawful w
    → Agrees (union w (stated (stated_in kind text))) → IsLawful (union w (stated (stated_in kind text)))
unfolding whole
lawful_with_file w kind text well lawful agrees =
    lawful_with w (stated_in kind text) (days_are_whole kind text well) (details_have_days kind text) lawful agrees
