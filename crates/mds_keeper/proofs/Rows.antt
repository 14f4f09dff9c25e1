-- What a book's rows say of an interval under an update.
use Rattle.std.proofs.Common.{◌≡◌, ◌≢◌, ℕ, zero, suc, ◌+◌, ◌<◌, ◌≤◌, List, [], ◌∷◌, length, get_or, Some, refl, sym, ap, ◌∙◌, subst, inl, inr, arith}
use Rattle.std.specs.Prelude.{Bool, true, false, ℤ, pos, IsTrue}
use Rattle.std.specs.List.{slice_get}
use Rattle.std.proofs.lemmas.Option.{slice_get_read}
use Rattle.std.proofs.lemmas.Bool.{cases_lt}
use Rattle.std.specs.Prelude.{MatchBool, not}
use Rattle.mds_names.specs.declared.stream.Stream.{Stream}
use Rattle.mds_marks.specs.Reading.{ReadingValue}
use Rattle.mds_world.specs.Current.{HasNoVersion}
use Rattle.mds_world.specs.Facts.{key_at}
use Rattle.mds_world.specs.Facts.Fact.{VersionIs}
use Rattle.mds_world.specs.Lists.{Member}
use Rattle.mds_world.specs.Sets.{◌∈◌}
use Rattle.mds_world.specs.declared.facts.Key.{Key}
use Rattle.mds_world.specs.World.{World, Agrees}
use Rattle.std.proofs.Common.{of_z, w64}
use Rattle.std.proofs.lemmas.Int.{ints}
use Rattle.mds_keeper.specs.BookRows.{AreVersionsOf}
use Rattle.mds_keeper.specs.declared.day_book.Version.{Version}

pub same_some : {X : Type 0} (x y : X) → Some x ≡ Some y → x ≡ y
same_some x y e = cc

pub get_member : {X : Type 0} (xs : List X) (i : ℕ) (x : X) → slice_get xs i ≡ Some x → Member x xs
get_member [] i x e = cc
get_member (y ∷ xs) zero x e = inl cc
get_member (y ∷ xs) (suc i) x e = inr (get_member xs i x e)

pub member_get : {X : Type 0} (xs : List X) (x : X) → Member x xs → (i : ℕ) × (i < length xs) × (slice_get xs i ≡ Some x)
member_get [] x m = absurd m
member_get (y ∷ xs) x (inl e) = (0, omega arith, ap Some (sym e))
member_get (y ∷ xs) x (inr m) = let r = member_get xs x m in (suc r.0, omega arith, r.2)

pub get_below : {X : Type 0} (xs : List X) (i : ℕ) (x : X) → slice_get xs i ≡ Some x → i < length xs
get_below [] i x e = cc
get_below (y ∷ xs) zero x e = omega arith
get_below (y ∷ xs) (suc i) x e = let r = get_below xs i x e in omega arith

-- a row of the right update says its version
pub row_found : (w : World) (stream : Stream) (day interval : ℕ) (rows : List (ℕ × Version)) → AreVersionsOf w stream day interval rows
    → (i : ℕ) (row : ℕ × Version) → i < length rows → row ≡ get_or rows i row → (update : ℕ) → row.1.update ≡ update
    → VersionIs (key_at stream day row.1.length interval update) row.1.reading ∈ w
row_found w stream day interval rows v i row h e update f =
    let number : row.0 ≡ interval = ap (λ r. r.0) e ∙ v.here i row h in
    let is : row ≡ (interval, record { update = update; length = row.1.length; reading = row.1.reading }) =
    λ j. (number j, record { update = f j; length = row.1.length; reading = row.1.reading }) in
    (v.each update row.1.length row.1.reading).0 (subst (λ r. Member r rows) is (get_member rows i row (slice_get_read rows (length rows) i row refl h e)))

-- and where there is none, there is no such version
pub no_row : (w : World) (stream : Stream) (day interval : ℕ) (rows : List (ℕ × Version)) → AreVersionsOf w stream day interval rows
    → (n : ℕ) → length rows ≤ n → (update : ℕ)
    → ((k : ℕ) (row : ℕ × Version) → k < n → slice_get rows k ≡ Some row → row.1.update ≢ update)
    → (minutes : ℕ) (reading : ReadingValue) → VersionIs (key_at stream day minutes interval update) reading ∈ w → ⊥
no_row w stream day interval rows v n le update none minutes reading h =
    let m = member_get rows _ ((v.each update minutes reading).1 h) in
    none m.0 (interval, record { update = update; length = minutes; reading = reading }) (omega arith) m.2 refl

-- where there is a row, the interval has a version
pub has_version : (w : World) (stream : Stream) (day interval : ℕ) (rows : List (ℕ × Version)) → AreVersionsOf w stream day interval rows
    → 0 < length rows → ((minutes : ℕ) → HasNoVersion w stream day minutes interval) → ⊥
has_version w stream day interval [] v some none = absurd (omega arith)
has_version w stream day interval (row ∷ rows) v some none =
    none row.1.length row.1.update row.1.reading (row_found w stream day interval (row ∷ rows) v 0 row some refl row.1.update refl)

-- one row more
pub none_more : (rows : List (ℕ × Version)) (n : ℕ) (update : ℕ) (row : ℕ × Version) → n < length rows → row ≡ get_or rows n row → row.1.update ≢ update
    → ((k : ℕ) (r : ℕ × Version) → k < n → slice_get rows k ≡ Some r → r.1.update ≢ update)
    → (k : ℕ) (r : ℕ × Version) → k < n + 1 → slice_get rows k ≡ Some r → r.1.update ≢ update
none_more rows n update row h e apart before k r lt is same =
    elim (cases_lt k n) [
      | inl below ↦ before k r below is same
      | inr here ↦
          let at : k ≡ n = omega arith in
          let one : slice_get rows n ≡ Some row = slice_get_read rows (length rows) n row refl h e in
          let two : r ≡ row = same_some r row (sym is ∙ ap (slice_get rows) at ∙ one) in
          apart (ap (λ x. x.1.update) (sym two) ∙ same)
    ]

-- one row more that is so
pub all_more : (P : ℕ × Version → Type 0) (rows : List (ℕ × Version)) (n : ℕ) (row : ℕ × Version) → n < length rows → row ≡ get_or rows n row
    → P row → ((k : ℕ) (r : ℕ × Version) → k < n → slice_get rows k ≡ Some r → P r)
    → (k : ℕ) (r : ℕ × Version) → k < n + 1 → slice_get rows k ≡ Some r → P r
all_more P rows n row h e is_so before k r lt is =
    elim (cases_lt k n) [
      | inl below ↦ before k r below is
      | inr here ↦
          let at : k ≡ n = omega arith in
          let one : slice_get rows n ≡ Some row = slice_get_read rows (length rows) n row refl h e in
          let two : r ≡ row = same_some r row (sym is ∙ ap (slice_get rows) at ∙ one) in
          subst P (sym two) is_so
    ]

-- so all are
pub all_so : (P : ℕ × Version → Type 0) (rows : List (ℕ × Version)) (n : ℕ) → length rows ≤ n
    → ((k : ℕ) (r : ℕ × Version) → k < n → slice_get rows k ≡ Some r → P r) → (row : ℕ × Version) → Member row rows → P row
all_so P rows n all each row m = let at = member_get rows row m in each at.0 row (omega (arith, at.1, all)) at.2

-- a row that is read is a member
pub row_member : (rows : List (ℕ × Version)) (n : ℕ) (row : ℕ × Version) → n < length rows → row ≡ get_or rows n row → Member row rows
row_member rows n row h e = get_member rows n row (slice_get_read rows (length rows) n row refl h e)

-- the one reading that the World has is the other, or isn't
pub judged : (w : World) (key : Key) (held reading : ReadingValue) (same : Bool) → Agrees w → VersionIs key held ∈ w
    → (IsTrue same → held ≡ reading) → (held ≡ reading → IsTrue same)
    → MatchBool (not same) ((other : ReadingValue) × (VersionIs key other ∈ w) × (other ≢ reading))
    ((other : ReadingValue) → VersionIs key other ∈ w → other ≡ reading)
judged w key held reading true g h f b = λ other i. g.one_reading key other held i h ∙ f refl
judged w key held reading false g h f b = (held, h, λ e. let k = b e in cc)

pub in_seconds : (a b : ℕ) (x y : ℤ) → a < 253402300800 → b < 253402300800 → x ≡ pos a → y ≡ pos b → of_z w64 x ≡ of_z w64 y → a ≡ b
in_seconds a b x y h k e f g = omega (arith, ints)
