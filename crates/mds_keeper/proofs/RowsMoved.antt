-- Versions that come behind others, as they lie or copied one by one.
use Rattle.std.proofs.Common.{◌≡◌, ℕ, suc, ◌+◌, ◌<◌, ◌≤◌, List, [], ◌∷◌, ◌++◌, length, drop, drop-cons, take, get_or, refl, sym, ap, ◌∙◌, arith, append_assoc}
use Rattle.std.proofs.lemmas.List.{append-nil, drop_all, length-append, take_at}
use Rattle.mds_marks.specs.Reading.{ReadingValue}
use Rattle.mds_keeper.specs.Content.{whole_rows}
use Rattle.mds_keeper.specs.declared.day_book.Version.{Version}

-- what is left from an index on
pub drop_here : {X : Type 0} (xs : List X) (i : ℕ) (x : X) → i < length xs → ((d : X) → x ≡ get_or xs i d) → drop i xs ≡ x ∷ drop (i + 1) xs
drop_here xs i x within at =
    let z : suc i ≡ i + 1 = omega arith in
    drop-cons xs i x within ∙ (λ j. sym (at x) j ∷ drop (z j) xs)

-- a front of others stands behind those that were, and the rest of them is left
pub record AreMoved {X : Type 0} (old more now rest : List X) : Type 0 where
  pub front : List X
  pub behind : now ≡ old ++ front
  pub split : front ++ rest ≡ more

pub start_moved : {X : Type 0} (old more now rest : List X) → now ≡ old → rest ≡ more → AreMoved old more now rest
start_moved old more now rest e f = record { front = []; behind = e ∙ sym (append-nil old); split = f }

module _ {X : Type 0} (old more now rest : List X) (is : AreMoved old more now rest) where
  pub part_moved : (left : List X) → left ≡ now → (n : ℕ) × (left ≡ old ++ take n more)
  part_moved left e =
      (length is.front, e ∙ is.behind ∙ ap (λ l. old ++ l) (sym (take_at is.front rest (length is.front) refl) ∙ ap (take (length is.front)) is.split))

  pub all_moved : rest ≡ [] → now ≡ old ++ more
  all_moved none =
      is.behind ∙ ap (λ l. old ++ l) (sym (append-nil is.front) ∙ ap (λ l. is.front ++ l) (sym none) ∙ is.split)

  module _ (later : List X) (x : X) (step : rest ≡ x ∷ later) where
    split : is.front ++ x ∷ later ≡ more
    split = ap (λ l. is.front ++ l) (sym step) ∙ is.split

    pub some_moved : 0 < length more
    some_moved = omega (arith, ap length split, length-append is.front (x ∷ later))

    pub moved_on : (next : List X) → next ≡ now ++ x ∷ [] → AreMoved old more next later
    moved_on next push = record {
      front = is.front ++ x ∷ [];
      behind = push ∙ ap (λ l. l ++ x ∷ []) is.behind ∙ append_assoc old is.front (x ∷ []);
      split = append_assoc is.front (x ∷ []) later ∙ split;
    }

-- a version of each reading up to an index stands behind those that were
abbrev pub AreCopied : ℕ → ℕ → List ReadingValue → List (ℕ × Version) → List (ℕ × Version) → ℕ → Type 0
AreCopied minutes update readings old now i =
    AreMoved old (whole_rows minutes update 1 readings) now (whole_rows minutes update (i + 1) (drop i readings))

pub start_copied : (minutes update : ℕ) (readings : List ReadingValue) (old now : List (ℕ × Version)) → now ≡ old → AreCopied minutes update readings old now 0
start_copied minutes update readings old now e = start_moved old (whole_rows minutes update 1 readings) now _ e refl

-- there are as many versions as readings
pub length_whole : (minutes update interval : ℕ) (readings : List ReadingValue) → length (whole_rows minutes update interval readings) ≡ length readings
length_whole minutes update interval [] = refl
length_whole minutes update interval (r ∷ rs) = ap suc (length_whole minutes update (interval + 1) rs)

module _ (minutes update : ℕ) (readings : List ReadingValue) (old now : List (ℕ × Version)) (i : ℕ) (is : AreCopied minutes update readings old now i) where
  pub one_copied : i < length readings → (r : ReadingValue) → ((d : ReadingValue) → r ≡ get_or readings i d) → (next : List (ℕ × Version))
      → next ≡ now ++ (i + 1, record { update = update; length = minutes; reading = r }) ∷ [] → AreCopied minutes update readings old next (i + 1)
  one_copied within r at next push =
      moved_on old (whole_rows minutes update 1 readings) now (whole_rows minutes update (i + 1) (drop i readings)) is
      (whole_rows minutes update (i + 1 + 1) (drop (i + 1) readings)) (i + 1, record { update = update; length = minutes; reading = r })
      (ap (whole_rows minutes update (i + 1)) (drop_here readings i r within at)) next push

  pub all_copied : length readings ≤ i → now ≡ old ++ whole_rows minutes update 1 readings
  all_copied h =
      all_moved old (whole_rows minutes update 1 readings) now (whole_rows minutes update (i + 1) (drop i readings)) is
      (ap (whole_rows minutes update (i + 1)) (drop_all i readings h))

  pub part_copied : (left : List (ℕ × Version)) → left ≡ now → (n : ℕ) × (left ≡ old ++ take n (whole_rows minutes update 1 readings))
  part_copied = part_moved old (whole_rows minutes update 1 readings) now (whole_rows minutes update (i + 1) (drop i readings)) is
