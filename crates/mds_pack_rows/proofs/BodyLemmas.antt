-- A body says how many intervals its day has.
use Rattle.std.proofs.Common.{◌≡◌, ℕ, Bool, true, false, cond, not, ◌&&◌, nat_eq, nat_lt, List, [], ◌∷◌, drop, length, map, Option, Some, None, Ok, Err, Result, IfOk, IfSome, option_map, refl, sym, ap, subst, inl, inr, ◌∙◌}
use Rattle.std.specs.Int.{w16}
use Rattle.std.proofs.lemmas.Bool.{eqb-true}
use Rattle.std.proofs.lemmas.List.{length-map}
use Rattle.sqlite.specs.declared.types.Value.TheVariants.{Blob}
use Rattle.sqlite_value.specs.Order.{Row, bytes, column}
use Rattle.mds_calendar.specs.Length.{count_of, is_length}
use Rattle.mds_calendar.proofs.Lengths.{cases_length}
use Rattle.mds_marks.specs.Reading.{ReadingValue}
use Rattle.mds_runs.specs.declared.cover.Run.{Run}
use Rattle.mds_runs.specs.GapSteps.{are_parted, marks_after}
use Rattle.mds_packs.specs.Body.{IsDay}
use Rattle.mds_packs.specs.Unpacked.{◌>>=◌, head_at, number_at, readings_at, runs_at, unpacked}
use Rattle.mds_packs.proofs.Fields.{IsBytes, bind_some}
use Rattle.mds_packs.proofs.Whole.{readings_takes}
use Rattle.mds_pack_rows.specs.PackFacts.{IsSaidAt, minutes_of, readings_in}

-- ---- the steps of a head behind its version, and those behind the head

module _ (count version : ℕ) where
  abbrev after_runs : List Run × List ℕ → Option (List Run × List ℕ)
  after_runs runs = cond (are_parted count None runs.0) (Some runs) None

  abbrev after_number : ℕ × List ℕ → ℕ × List ℕ → Option (List Run × List ℕ)
  after_number places number =
      cond (not (nat_eq version 1 && nat_eq places.0 count && nat_lt 0 number.0)) None (runs_at number.0 number.1 >>= after_runs)

  abbrev after_places : ℕ × List ℕ → Option (List Run × List ℕ)
  after_places places = number_at w16 places.1 >>= after_number places

  counted : (places number : ℕ × List ℕ) (x : List Run × List ℕ) → after_number places number ≡ Some x → places.0 ≡ count
  counted places number x e = eqb-true places.0 count (second (nat_eq version 1) (nat_eq places.0 count) (nat_lt 0 number.0) _ e)
    where
      second : (a b c : Bool) (r : Option (List Run × List ℕ)) → cond (not (a && b && c)) None r ≡ Some x → b ≡ true
      second true true c r e = refl
      second true false c r e = absurd cc
      second false b c r e = absurd cc

abbrev after_readings : List (Option ReadingValue) × List ℕ → Option (List (Option ReadingValue))
after_readings readings = cond (nat_eq (length readings.1) 0) (Some readings.0) None

abbrev after_head : ℕ → List Run × List ℕ → Option (List (Option ReadingValue))
after_head count head = readings_at (marks_after count 0 head.0) head.1 >>= after_readings

-- ---- what is read

-- the number behind the version is the count of the day's intervals
says_count : (count : ℕ) (body : List ℕ) (x : List Run × List ℕ) → head_at count body ≡ Some x
    → (rest : List ℕ) × (number_at w16 (drop 1 body) ≡ Some (count, rest))
unfolding head_at
says_count count [] x e = absurd cc
says_count count (version ∷ body) x e =
    let places = bind_some (number_at w16 body) (after_places count version) x e in
    let number = bind_some (number_at w16 places.0.1) (after_number count version places.0) x places.2 in
    let is = counted count version places.0 number.0 x number.2 in
    (places.0.1, places.1 ∙ ap (λ n. Some (n, places.0.1)) is)

count_read : (count : ℕ) (body : List ℕ) (readings : List (Option ReadingValue)) → unpacked count body ≡ Some readings
    → (rest : List ℕ) × (number_at w16 (drop 1 body) ≡ Some (count, rest))
unfolding unpacked
count_read count body readings e =
    let head = bind_some (head_at count body) (after_head count) readings e in says_count count body head.0 head.1

-- a body that is read for some count says that count
pub counted_as : (count : ℕ) (body : List ℕ) (readings : List (Option ReadingValue)) → unpacked count body ≡ Some readings
    → option_map (λ n. n.0) (number_at w16 (drop 1 body)) ≡ Some count
counted_as count body readings e = ap (option_map (λ (n : ℕ × List ℕ). n.0)) (count_read count body readings e).1

-- Readings that are read for some count of intervals are those that the body says.
pub says : (count : ℕ) (body : List ℕ) (readings : List (Option ReadingValue)) → unpacked count body ≡ Some readings
    → readings_in body ≡ Some readings
says count body readings e = ap (λ n. n >>= unpack) (count_read count body readings e).1 ∙ e
  where
    unpack : ℕ × List ℕ → Option (List (Option ReadingValue))
    unpack n = unpacked n.0 body

-- what a call that reads for some count gives
pub all_said : {V E : Type 0} (view : V → List (Option ReadingValue)) (count : ℕ) (body : List ℕ) (r : Result (Option V) E)
    → IfOk r (λ o. option_map view o ≡ unpacked count body) → IfOk r (λ o. IfSome o (λ v. readings_in body ≡ Some (view v)))
all_said view count body (Ok (Some v)) is = says count body (view v) (sym is)
all_said view count body (Ok None) is = tt
all_said view count body (Err e) is = tt

-- and what one gives that reads a whole day
pub all_whole : {E : Type 0} (count : ℕ) (body : List ℕ) (r : Result (Option (List ReadingValue)) E)
    → IfOk r (λ o. IfSome o (λ readings. unpacked count body ≡ Some (map (λ reading. Some reading) readings)))
    → IfOk r (λ o. IfSome o (λ readings. readings_in body ≡ Some (map (λ reading. Some reading) readings)))
all_whole count body (Ok (Some readings)) is = says count body (map (λ reading. Some reading) readings) is
all_whole count body (Ok None) is = tt
all_whole count body (Err e) is = tt

-- ---- the body in a column

-- what a call gives that reads the body in a column
pub said_at : {V E : Type 0} (view : V → List (Option ReadingValue)) (row : Row) (at : ℕ) (body : List ℕ) → column row at ≡ Blob body
    → (r : Result (Option V) E) → IfOk r (λ o. IfSome o (λ v. readings_in body ≡ Some (view v)))
    → IfOk r (λ o. IfSome o (λ v. IsSaidAt row at (view v)))
said_at view row at body has (Ok (Some v)) is = (body, has, is)
said_at view row at body has (Ok None) is = tt
said_at view row at body has (Err e) is = tt

-- a column has one body
pub one_body : (row : Row) (at : ℕ) (one other : List ℕ) → column row at ≡ Blob one → column row at ≡ Blob other → one ≡ other
one_body row at one other a b = ap bytes (sym a ∙ b)

-- ---- as many as they are, so long are their intervals

-- so many intervals are of the length that has so many
pub length_back : (minutes : ℕ) → is_length minutes ≡ true → minutes_of (count_of minutes) ≡ minutes
length_back minutes known = elim (cases_length minutes known) [
  | inl e ↦ subst (λ n. minutes_of (count_of n) ≡ n) (sym e) refl
  | inr (inl e) ↦ subst (λ n. minutes_of (count_of n) ≡ n) (sym e) refl
  | inr (inr e) ↦ subst (λ n. minutes_of (count_of n) ≡ n) (sym e) refl
]

module _ (minutes : ℕ) (known : is_length minutes ≡ true) where
  -- what a call gives that reads for that count
  pub all_of_length : {V E : Type 0} (view : V → List (Option ReadingValue)) (Told : V → Type 0) (r : Result (Option V) E)
      → IfOk r (λ o. IfSome o (λ v. IsDay (count_of minutes) (view v) × Told v)) → IfOk r (λ o. IfSome o (λ v. minutes_of (length (view v)) ≡ minutes))
  all_of_length view Told (Ok (Some v)) is = ap minutes_of is.0.places ∙ length_back minutes known
  all_of_length view Told (Ok None) is = tt
  all_of_length view Told (Err e) is = tt

  -- and what one gives that reads a whole day
  pub whole_of_length : {E : Type 0} (body : List ℕ) → IsBytes body → (r : Result (Option (List ReadingValue)) E)
      → IfOk r (λ o. IfSome o (λ readings. unpacked (count_of minutes) body ≡ Some (map (λ reading. Some reading) readings)))
      → IfOk r (λ o. IfSome o (λ readings. minutes_of (length readings) ≡ minutes))
  whole_of_length body fits (Ok (Some readings)) is =
      let places : length (map (λ reading. Some reading) readings) ≡ count_of minutes =
      (readings_takes (count_of minutes) body (map (λ reading. Some reading) readings) fits is).0.places in
      ap minutes_of (sym (length-map readings (λ (reading : ReadingValue). Some reading)) ∙ places) ∙ length_back minutes known
  whole_of_length body fits (Ok None) is = tt
  whole_of_length body fits (Err e) is = tt
