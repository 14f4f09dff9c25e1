-- The rows of a text, as they are read one after the other: each takes a byte at least, so `records` has them all.
use Rattle.std.proofs.Common.{◌≡◌, ℕ, zero, suc, ◌+◌, ◌-◌, ◌<◌, ◌≤◌, List, [], ◌∷◌, ◌++◌, length, Some, None, Bool, true, false, ◌||◌, ◌==◌, cond, refl, sym, ap, ◌∙◌, arith, Bor, inl, inr}
use Rattle.std.proofs.lemmas.Bool.{false≢true}
use Rattle.std.proofs.lemmas.List.{append-nil, length-append}
use Rattle.std.specs.Prelude.{MatchBool, unwrap_or}
use Rattle.csv.proofs.ReadFacts.{rows-end, rows-more}
use Rattle.csv.specs.Machine.{Read, ends_at_end, field_after, fields_after, is_end, next_record, step}
use Rattle.csv.specs.Reading.{Reached, default_config, is_flexible, ReadRecord, names_headers, reader_config, reader_headers, reader_state, reader_trim, records, records_from, source_of, strip_bom, took_first}
use Rattle.csv.specs.declared.reader.Reader.{Reader}
use Rattle.csv.specs.declared.reader.Trim.TheVariants as trim
use Rattle.mds_requests.specs.Holidays.{rows_of}
use Rattle.mds_requests.specs.HolidaysSteps.{HasRead}
use Rattle.csv.specs.declared.parser.Action.{Action}
use Rattle.csv.specs.declared.parser.Action.TheVariants as act
use Rattle.csv.specs.declared.parser.State.{State}
use Rattle.csv.specs.declared.parser.State.TheVariants as st

-- a byte that ends a row leaves the reader before a row
abbrev Stops : State × Action → Type 0
Stops p = is_end p.1 ≡ true → ends_at_end p.0 ≡ false

stops_in_field : (comma end cr : Bool) → Stops (cond comma (st.StartField, act.EndField) (cond end (cond cr st.AfterCr st.StartRecord, act.EndRecord) (st.InField, act.Copy)))
stops_in_field true end cr e = absurd (false≢true e)
stops_in_field false true true e = refl
stops_in_field false true false e = refl
stops_in_field false false cr e = absurd (false≢true e)

-- the same where an action that ends no row comes first
stops_else : (first : Bool) (s : State) (p : State × Action) → Stops p → Stops (cond first (s, act.Skip) p)
stops_else true s p rest e = absurd (false≢true e)
stops_else false s p rest e = rest e

stops_copy : (first : Bool) (s : State) (p : State × Action) → Stops p → Stops (cond first (s, act.Copy) p)
stops_copy true s p rest e = absurd (false≢true e)
stops_copy false s p rest e = rest e

is_line_end : ℕ → Bool
is_line_end c = (c == 13) || (c == 10)

stops : (s : State) (c : ℕ) → Stops (step default_config s c)
unfolding is_line_end
stops st.StartRecord c = stops_else (is_line_end c) st.StartRecord _ (stops_else (c == 34) st.InQuoted _ (stops_in_field (c == 44) (is_line_end c) (c == 13)))
stops st.StartField c = stops_else (c == 34) st.InQuoted _ (stops_in_field (c == 44) (is_line_end c) (c == 13))
stops st.InField c = stops_in_field (c == 44) (is_line_end c) (c == 13)
stops st.InQuoted c = stops_else (c == 34) st.AfterQuote _ (λ e. absurd (false≢true e))
stops st.AfterQuote c = stops_copy (c == 34) st.InQuoted _ (stops_in_field (c == 44) (is_line_end c) (c == 13))
stops st.InEscape c = λ e. absurd (false≢true e)
stops st.InComment c = stops_else (c == 10) st.StartRecord _ (λ e. absurd (false≢true e))
stops st.AfterCr c = stops_else (c == 10) st.StartRecord _ (stops_else (is_line_end c) st.StartRecord _ (stops_else (c == 34) st.InQuoted _ (stops_in_field (c == 44) (is_line_end c) (c == 13))))

-- behind a row, of so many bytes before it
abbrev Behind : ℕ → Read → Type 0
Behind n p = (ends_at_end p.1 ≡ false) × (length p.2 ≤ n - 1)

behind_some : (n : ℕ) (q p : Read) → Some q ≡ Some p → Behind n q → Behind n p
behind_some n q p e h = let same : q ≡ p = cc in rw (← same) h

behind_end : (b : Bool) (fields : List (List ℕ)) (p : Read) → cond b (Some (fields, st.StartRecord, [])) None ≡ Some p → Behind 0 p
behind_end true fields p e = behind_some 0 (fields, st.StartRecord, []) p e (refl, omega arith)
behind_end false fields p e = cc e

-- what stands behind a row that was read, from any state
behind : (s : State) (fields : List (List ℕ)) (field xs : List ℕ) (p : Read) → next_record default_config s fields field xs ≡ Some p → Behind (length xs) p
unfolding next_record
behind s fields field [] p e = behind_end (ends_at_end s) (fields ++ (field ∷ [])) p e
behind s fields field (c ∷ rest) p e =
    by (is_end (step default_config s c).1) refl e (behind (step default_config s c).0 (fields_after (step default_config s c).1 fields field) (field_after (step default_config s c).1 c field) rest p)
  where
    by : (b : Bool) → is_end (step default_config s c).1 ≡ b
        → cond b (Some (fields_after (step default_config s c).1 fields field, (step default_config s c).0, rest))
        (next_record default_config (step default_config s c).0 (fields_after (step default_config s c).1 fields field) (field_after (step default_config s c).1 c field) rest) ≡ Some p
        → (next_record default_config (step default_config s c).0 (fields_after (step default_config s c).1 fields field) (field_after (step default_config s c).1 c field) rest ≡ Some p → Behind (length rest) p)
        → Behind (length (c ∷ rest)) p
    by true ended e more = behind_some _ _ p e (stops s c ended, omega arith)
    by false goes e more = let later = more e in (later.0, omega arith)

-- a row that is read from before a row takes a byte
takes_byte : (s : State) (xs : List ℕ) (p : Read) → ends_at_end s ≡ false → next_record default_config s [] [] xs ≡ Some p → 0 < length xs
unfolding next_record
takes_byte s [] p before e = cc (rw before at e)
takes_byte s (c ∷ rest) p before e = omega arith

-- rows take as many bytes at least as they are
pub few_rows : (s s2 : State) (xs ys : List ℕ) (rows : List (List (List ℕ))) → ends_at_end s ≡ false → Reached default_config s xs rows s2 ys → length rows + length ys ≤ length xs
unfolding Reached
few_rows s s2 xs ys [] before h = omega (arith, ap length h.1)
few_rows s s2 xs ys (row ∷ rest) before h =
    let later = behind s [] [] xs h.0 h.1 in
    let some = takes_byte s xs h.0 before h.1 in
    let more = few_rows h.0.1 s2 h.0.2 ys rest later.0 h.3 in
    omega arith

-- as many records as rows were read are these rows
rows_front : (n k : ℕ) (s s2 : State) (xs ys : List ℕ) (rows : List (List (List ℕ))) → n ≡ length rows + k → Reached default_config s xs rows s2 ys
    → records_from default_config n s xs ≡ rows ++ records_from default_config k s2 ys
unfolding Reached records_from
rows_front n k s s2 xs ys [] e h = let same : n ≡ k = omega arith in rw (same, h.0, h.1) refl
rows_front zero k s s2 xs ys (row ∷ rest) e h = absurd (omega arith)
rows_front (suc n) k s s2 xs ys (row ∷ rest) e h =
    let more = rows_front n k h.0.1 s2 h.0.2 ys rest (omega arith) h.3 in
    rw (h.1, h.2, more) refl

-- the rows that were read are the first of a text
pub front_rows : (s : State) (text ys : List ℕ) (rows : List (List (List ℕ))) → Reached default_config st.StartRecord text rows s ys
    → (later : List (List (List ℕ))) × (records default_config text ≡ rows ++ later)
front_rows s text ys rows h =
    let few = few_rows st.StartRecord s text ys rows refl h in
    let k = length text + 1 - length rows in
    (records_from default_config k s ys, rows_front (length text + 1) k st.StartRecord s text ys rows (omega arith) h)

none_left : (k : ℕ) (s : State) (ys : List ℕ) → next_record default_config s [] [] ys ≡ None → records_from default_config k s ys ≡ []
unfolding records_from
none_left zero s ys e = refl
none_left (suc k) s ys e = rw e refl

-- and where there is none behind them, they are all
pub all_rows : (s : State) (text ys : List ℕ) (rows : List (List (List ℕ))) → Reached default_config st.StartRecord text rows s ys → next_record default_config s [] [] ys ≡ None
    → records default_config text ≡ rows
all_rows s text ys rows h e =
    let few = few_rows st.StartRecord s text ys rows refl h in
    rows_front (length text + 1) (length text + 1 - length rows) st.StartRecord s text ys rows (omega arith) h ∙ ap (λ (l : List (List (List ℕ))). rows ++ l) (none_left (length text + 1 - length rows) s ys e) ∙ append-nil rows

-- what one more read shows of the rows of a text
pub read_on : (text : List ℕ) (old new : Reader (Bor (List ℕ))) (rows : List (List (List ℕ))) (found : Bool) (fields : List (List ℕ)) → HasRead text old rows
    → took_first new ≡ true → is_flexible new ≡ is_flexible old → ReadRecord (λ (s : Bor (List ℕ)). Some s.now) old new found fields
    → MatchBool found (HasRead text new (rows ++ fields ∷ [])) (rows_of text ≡ rows)
read_on text old new rows true fields so_far took long read =
    let more = rows-more (λ (s : Bor (List ℕ)). Some s.now) old new fields default_config st.StartRecord (strip_bom text) so_far.left rows so_far.config so_far.source so_far.rows_so_far read in record {
      plain = read.3 ∙ so_far.plain;
      ready = inl took;
      config = read.2 ∙ so_far.config;
      flexible = long ∙ so_far.flexible;
      left = more.0;
      source = more.1;
      rows_so_far = more.2;
    }
read_on text old new rows false fields so_far took long read =
    let end = rows-end (λ (s : Bor (List ℕ)). Some s.now) old new fields default_config so_far.left so_far.config so_far.source read in
    all_rows _ (strip_bom text) so_far.left rows so_far.rows_so_far end

-- before the first row
pub before_rows : (text : List ℕ) (reader : Reader (Bor (List ℕ))) → reader_trim reader ≡ trim.None → names_headers reader ≡ false → reader_headers reader ≡ None
    → reader_config reader ≡ default_config → is_flexible reader ≡ true → reader_state reader ≡ st.StartRecord → source_of (λ (s : Bor (List ℕ)). Some s.now) reader ≡ Some (strip_bom text)
    → HasRead text reader []
unfolding Reached
before_rows text reader plain named headers config long state source = record {
  plain = plain;
  ready = inr (inr (named, headers));
  config = config;
  flexible = long;
  left = strip_bom text;
  source = source;
  rows_so_far = (sym state, refl);
}

-- what was read is the front of the rows
pub front_read : (text : List ℕ) (reader : Reader (Bor (List ℕ))) (rows : List (List (List ℕ))) → HasRead text reader rows → (later : List (List (List ℕ))) × (rows_of text ≡ rows ++ later)
front_read text reader rows so_far = front_rows _ (strip_bom text) so_far.left rows so_far.rows_so_far

-- and no more rows than a reader that had read none had bytes before it
abbrev pub bytes_before : Reader (Bor (List ℕ)) → ℕ
bytes_before reader = length (unwrap_or (source_of (λ (s : Bor (List ℕ)). Some s.now) reader) [])

rows_bound : (text : List ℕ) (start reader : Reader (Bor (List ℕ))) (rows : List (List (List ℕ))) → HasRead text start [] → HasRead text reader rows → length rows ≤ bytes_before start
unfolding Reached
rows_bound text start reader rows none so_far =
    let few = few_rows st.StartRecord _ (strip_bom text) so_far.left rows refl so_far.rows_so_far in
    rw none.source (omega (arith, ap length none.rows_so_far.1))

-- one more row leaves fewer bytes to come
pub fewer_left : (text : List ℕ) (start reader : Reader (Bor (List ℕ))) (rows : List (List (List ℕ))) (row : List (List ℕ)) (number : ℕ) → HasRead text start []
    → HasRead text reader (rows ++ row ∷ []) → number ≡ length rows → bytes_before start - (number + 1) < bytes_before start - number
fewer_left text start reader rows row number none so_far counted =
    let bound = rows_bound text start reader (rows ++ row ∷ []) none so_far in
    omega (arith, length-append rows (row ∷ []))

-- an empty text has no row
pub no_rows : (text : List ℕ) → length text ≡ 0 → rows_of text ≡ []
unfolding next_record Reached strip_bom
no_rows [] none = all_rows st.StartRecord [] [] [] (refl, refl) refl
no_rows (c ∷ text) none = absurd (omega arith)
