-- The rows of a register, one after the other.
use Rattle.std.proofs.Common.{◌≡◌, ℕ, ◌+◌, ◌<◌, ◌≤◌, List, [], ◌∷◌, ◌++◌, length, take, get_or, Some, refl, sym, ap, ◌∙◌, subst, append_assoc, append-nil, arith}
use Rattle.std.specs.Prelude.{Result, Ok, Err, IfOk}
use Rattle.std.proofs.lemmas.List.{length-append, take_all, take_more}
use Rattle.std.specs.declared.alloc.Global.{Global}
use Rattle.std.specs.declared.vec.Vec.{Vec}
use Rattle.csv.specs.Writing.{default_writer, row_text}
use Rattle.csv.specs.declared.writer.Writer.{Writer}
use Rattle.mds_calendar.specs.Calendar.{day_of}
use Rattle.mds_world.specs.Lists.{Member}
use Rattle.mds_registers.specs.Registers.{AreRows}
use Rattle.mds_registers.specs.RegistersSteps.{HasWritten}

-- a row more
pub rows_more : {Row : Type 0} (day_in : Row → ℕ) (fields : Row → List ℕ → List (List ℕ)) (rows : List Row) (row : Row)
    (text date : List ℕ) → day_of date ≡ Some (day_in row) → AreRows day_in fields rows text
    → AreRows day_in fields (rows ++ row ∷ []) (text ++ row_text default_writer (fields row date))
rows_more day_in fields [] row text date e are =
    let row_here = row_text default_writer (fields row date) in
    (date, [], e, ap (λ (t : List ℕ). t ++ row_here) are ∙ sym (append-nil row_here), refl)
rows_more day_in fields (x ∷ xs) row text date e are =
    let row_here = row_text default_writer (fields row date) in (
      are.0,
      are.1 ++ row_here,
      are.2,
      ap (λ (t : List ℕ). t ++ row_here) are.3 ∙ append_assoc (row_text default_writer (fields x are.0)) are.1 row_here,
      rows_more day_in fields xs row are.1 date e are.4,
    )

-- the writer has written a head, and then these rows
abbrev pub HasRows : {Row : Type 0} → List ℕ → (Row → ℕ) → (Row → List ℕ → List (List ℕ)) → List Row
    → Writer (Vec ℕ Global) → Type 0
HasRows head day_in fields rows writer =
    (rest : List ℕ) × AreRows day_in fields rows rest × HasWritten writer (head ++ rest)

-- it has written no row yet
pub no_rows : {Row : Type 0} (head text : List ℕ) (day_in : Row → ℕ) (fields : Row → List ℕ → List (List ℕ))
    (writer : Writer (Vec ℕ Global)) → text ≡ head → HasWritten writer text → HasRows head day_in fields [] writer
no_rows head text day_in fields writer e has = ([], refl, subst (HasWritten writer) (e ∙ sym (append-nil head)) has)

-- the next row
pub has_more : {Row : Type 0} (head : List ℕ) (day_in : Row → ℕ) (fields : Row → List ℕ → List (List ℕ)) (rows : List Row)
    (i : ℕ) (row : Row) (old new : Writer (Vec ℕ Global)) → i < length rows → row ≡ get_or rows i row
    → ((text : List ℕ) → HasWritten old text → (date : List ℕ) × (day_of date ≡ Some (day_in row))
    × HasWritten new (text ++ row_text default_writer (fields row date)))
    → HasRows head day_in fields (take i rows) old → HasRows head day_in fields (take (i + 1) rows) new
has_more {Row = Row} head day_in fields rows i row old new within here writes has =
    let said = writes (head ++ has.0) has.2 in
    let taken : take (i + 1) rows ≡ take i rows ++ row ∷ [] =
    take_more rows i row within ∙ ap (λ (r : Row). take i rows ++ r ∷ []) (sym here) in
    let row_here = row_text default_writer (fields row said.0) in (
      has.0 ++ row_here,
      subst (λ (xs : List Row). AreRows day_in fields xs (has.0 ++ row_here)) (sym taken)
          (rows_more day_in fields (take i rows) row has.0 said.0 said.1 has.1),
      subst (HasWritten new) (append_assoc head has.0 row_here) said.2,
    )

-- all rows
pub has_all : {Row E : Type 0} (head : List ℕ) (day_in : Row → ℕ) (fields : Row → List ℕ → List (List ℕ)) (rows : List Row)
    (i : ℕ) (writer : Writer (Vec ℕ Global)) (result : Result (Vec ℕ Global) E) → length rows ≤ i
    → ((text : List ℕ) → HasWritten writer text → IfOk result (λ bytes. bytes.items ≡ text))
    → HasRows head day_in fields (take i rows) writer
    → IfOk result (λ bytes. (rest : List ℕ) × (bytes.items ≡ head ++ rest) × AreRows day_in fields rows rest)
has_all {Row = Row} head day_in fields rows i writer (Ok bytes) over written has = (
  has.0,
  written (head ++ has.0) has.2,
  subst (λ (xs : List Row). AreRows day_in fields xs has.0) (take_all i rows over) has.1,
)
has_all head day_in fields rows i writer (Err error) over written has = tt

-- a row has bytes: those that end it
has_end : (body quotes rest : List ℕ) (end : ℕ) → (body ++ (quotes ++ end ∷ [])) ++ rest ≡ [] → ⊥
has_end body quotes rest end e =
    let whole = length-append (body ++ (quotes ++ end ∷ [])) rest in
    let row = length-append body (quotes ++ end ∷ []) in
    let tail = length-append quotes (end ∷ []) in
    let none : length ((body ++ (quotes ++ end ∷ [])) ++ rest) ≡ 0 = ap length e in
    omega (arith, whole, row, tail, none)

row_has_some : (fields : List (List ℕ)) (rest : List ℕ) → row_text default_writer fields ++ rest ≡ [] → ⊥
row_has_some fields rest e = has_end _ _ rest _ e

-- a text of rows is empty only without rows
pub rows_are_some : {Row : Type 0} (day_in : Row → ℕ) (fields : Row → List ℕ → List (List ℕ)) (rows : List Row) (text : List ℕ)
    (row : Row) → Member row rows → AreRows day_in fields rows text → text ≡ [] → ⊥
rows_are_some day_in fields [] text row within are none = absurd within
rows_are_some day_in fields (x ∷ xs) text row within (date, rest, is, e, more) none =
    row_has_some (fields x date) rest (sym e ∙ none)

-- all rows, without a head
pub has_rows_alone : {Row E : Type 0} (day_in : Row → ℕ) (fields : Row → List ℕ → List (List ℕ)) (rows : List Row)
    (i : ℕ) (writer : Writer (Vec ℕ Global)) (result : Result (Vec ℕ Global) E) → length rows ≤ i
    → ((text : List ℕ) → HasWritten writer text → IfOk result (λ bytes. bytes.items ≡ text))
    → HasRows [] day_in fields (take i rows) writer → IfOk result (λ bytes. AreRows day_in fields rows bytes.items)
has_rows_alone {Row = Row} day_in fields rows i writer (Ok bytes) over written has =
    subst (λ (t : List ℕ). AreRows day_in fields rows t) (sym (written has.0 has.2))
    (subst (λ (xs : List Row). AreRows day_in fields xs has.0) (take_all i rows over) has.1)
has_rows_alone day_in fields rows i writer (Err error) over written has = tt
