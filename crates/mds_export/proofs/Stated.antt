-- What the lines of a selection state, one row after the other.
use Rattle.std.proofs.Common.{◌≡◌, ◌<◌, ◌≤◌, ◌+◌, ℕ, Bool, true, false, ◌&&◌, ltb, List, [], ◌∷◌, ◌++◌, length, map, slice_get, Option, Some, None, IfSome, unwrap_or, refl, sym, ap, subst, ◌∙◌, arith, append_assoc}
use Rattle.std.specs.Option.{option_map_or}
use Rattle.std.proofs.lemmas.Bool.Decides.{nat_tests}
use Rattle.std.proofs.lemmas.List.{append-nil, length_push, map-append}
use Rattle.mds_calendar.specs.Length.{count_of}
use Rattle.mds_lines.specs.Lines.{most_lines}
use Rattle.mds_lines.specs.declared.line.Kind.TheVariants as a
use Rattle.mds_marks.specs.declared.mark.Mark.{Mark}
use Rattle.mds_runs.specs.Runs.{AreRunsAfter, last_end, mark_at}
use Rattle.mds_runs.specs.declared.cover.Run.{Run}
use Rattle.mds_days.specs.Readings.{leaves_gap, readings_of}
use Rattle.mds_days.specs.RunFaults.{run_fault}
use Rattle.mds_walk.proofs.Faultless.{faultless_none}
use Rattle.mds_walk.proofs.Numbered.{no_kind}
use Rattle.mds_statements.specs.Statements.{DayStatement, HeaderValue, Statement}
use Rattle.mds_statements.specs.Statements.Statement.{HeaderOf, StreamOf, DetailsOf, DayOf}
use Rattle.mds_nem12.specs.Faults.{fault_of_run, nem12}
use Rattle.mds_nem12.specs.Governing.{Governors, governors, has_gap}
use Rattle.mds_nem12.specs.OpenDays.{IsOpen}
use Rattle.mds_nem12.specs.Place.{is_in_place}
use Rattle.mds_marks.specs.Mark.{bare_null}
use Rattle.mds_nem12.specs.Said.{count_in, date_in, header_in, length_in, mark_in, run_in, stream_in, unit_in, update_in, values_in}
use Rattle.mds_nem12.specs.Statements.{day_statement, details_statement, stated_by, statements, stream_statement}
use Rattle.mds_nem12.proofs.Governs.{advance, day_within}
use Rattle.mds_nem12.proofs.Lasts.{last_or_push}
use Rattle.mds_nem12.proofs.States.{close, closed_at, open_day, open_push}
use Rattle.mds_nem12.proofs.Taken.{governs}
use Rattle.mds_export.specs.ReadBack.{ReadsAs, own_mark}
use Rattle.mds_export.specs.Placed.{PlacedDay}
use Rattle.mds_export.specs.Exports.{day_row, details_row, header_row, marks_of, run_row}
use Rattle.mds_export.specs.Shows.{day_selected, details_selected, stream_selected, unlined}
use Rattle.mds_export.proofs.Bounds.{AreLawfulReadings}
use Rattle.mds_export.proofs.Restored.{readings_back, written_values}
use Rattle.mds_export.proofs.Said.{Block, SaysBlock, block_said, header_said, kind_of_row, run_said}
use Rattle.mds_export.proofs.Sound.{Allows, AreFree, free_push, record_sound, run_sound}
use Rattle.mds_export.proofs.TextLines.{AreRead}

abbrev pub block_of : PlacedDay → Block
block_of placed = record {
  stream = placed.selected.stream;
  length = placed.day.length;
  unit = placed.day.unit;
  details = placed.day.details;
}

-- Lines were written that have no fault and state this, but for the numbers of lines; after a 200 a 300 may follow.
pub record Wrote (lines : List (List ℕ)) (said : List Statement) (header : HeaderValue) (block : Option Block) : Type 0 where
  pub free : AreFree lines
  pub stated : map unlined (statements lines) ≡ said
  pub gapless : has_gap (governors lines) ≡ false
  pub headed : header_in (governors lines).header ≡ header
  pub details : IfSome block (SaysBlock (governors lines).details)
  pub details_next : Allows (governors lines) a.NmiDataDetails
  pub day_next : IfSome block (λ _. Allows (governors lines) a.IntervalData)
  pub end_next : Allows (governors lines) a.EndOfData

-- what is stated behind
stated_more : (lines : List (List ℕ)) (said all more told : List Statement) → map unlined (statements lines) ≡ said
    → all ≡ statements lines ++ more → map unlined more ≡ told → map unlined all ≡ said ++ told
stated_more lines said all more told before e here =
    ap (map unlined) e ∙ map-append unlined (statements lines) more ∙ (λ i. before i ++ here i)

-- 100
pub wrote_header : (header : HeaderValue) (x : List ℕ) → ReadsAs (header_row header) x → Wrote (x ∷ []) (HeaderOf header ∷ []) header None
unfolding statements
wrote_header header x r =
    let is = kind_of_row (header_row header) x r in
    let said = header_said header x r.says in
    let first : Allows (governors []) a.Header = ap (λ o. is_in_place o a.Header) no_kind in
    record {
      free = free_push [] x (faultless_none nem12)
          (record_sound [] x a.Header r.kind_is first refl (r.faultless (count_in (governors []).details) tt) refl) r.short (omega arith);
      stated = stated_more [] [] (statements (x ∷ [])) (HeaderOf (header_in x) ∷ []) (HeaderOf header ∷ []) refl
          (closed_at [] x (Some a.Header) is refl) (ap (λ h. HeaderOf h ∷ []) said);
      gapless = governs (λ g. has_gap g ≡ false) [] x (Some a.Header) is refl;
      headed = governs (λ g. header_in g.header ≡ header) [] x (Some a.Header) is said;
      details = tt;
      details_next = governs (λ g. Allows g a.NmiDataDetails) [] x (Some a.Header) is refl;
      day_next = tt;
      end_next = governs (λ g. Allows g a.EndOfData) [] x (Some a.Header) is refl;
    }

-- 200
passed : (g : Governors) (k : ℕ) (x : List ℕ) → g.day_line < k → has_gap (advance g k x (Some a.NmiDataDetails)) ≡ false
passed g k x h = at (ltb k g.day_line) _ (grind (arith, nat_tests)) where
  at : (b c : Bool) → b ≡ false → (b && c) ≡ false
  at true c e = absurd (cc)
  at false c e = refl

pub wrote_details : (lines : List (List ℕ)) (said : List Statement) (header : HeaderValue) (block : Option Block) (placed : PlacedDay)
    (x : List ℕ) → Wrote lines said header block → ReadsAs (details_row placed) x → length lines + 1 ≤ most_lines
    → Wrote (lines ++ x ∷ []) (said ++ StreamOf (stream_selected header.moment placed) ∷ []) header (Some (block_of placed))
wrote_details lines said header block placed x w r few =
    let is = kind_of_row (details_row placed) x r in
    let g = governors lines in
    let within = day_within lines in
    let says = block_said placed.selected.stream placed.day.details placed.day.unit placed.day.length x r.says in
    let stated = StreamOf (stream_statement g (length lines + 1) x) ∷ [] in
    let here : map unlined stated ≡ StreamOf (stream_selected header.moment placed) ∷ [] =
    λ i. StreamOf (record {
      line = 0;
      stream = says.stream i;
      length = says.length i;
      unit = says.unit i;
      moment = ap (λ (h : HeaderValue). h.moment) w.headed i;
      details = says.details i;
    }) ∷ [] in
    record {
      free = free_push lines x w.free
          (record_sound lines x a.NmiDataDetails r.kind_is w.details_next w.gapless (r.faultless (count_in g.details) tt) refl) r.short few;
      stated = stated_more lines said (statements (lines ++ x ∷ [])) stated _ w.stated (closed_at lines x (Some a.NmiDataDetails) is refl) here;
      gapless = governs (λ g. has_gap g ≡ false) lines x (Some a.NmiDataDetails) is (passed g (length lines + 1) x (omega arith));
      headed = governs (λ g. header_in g.header ≡ header) lines x (Some a.NmiDataDetails) is w.headed;
      details = governs (λ g. SaysBlock g.details (block_of placed)) lines x (Some a.NmiDataDetails) is says;
      details_next = governs (λ g. Allows g a.NmiDataDetails) lines x (Some a.NmiDataDetails) is refl;
      day_next = governs (λ g. Allows g a.IntervalData) lines x (Some a.NmiDataDetails) is refl;
      end_next = governs (λ g. Allows g a.EndOfData) lines x (Some a.NmiDataDetails) is refl;
    }

-- ---- 300 and its 400s

-- how many intervals the day has
abbrev size_of : PlacedDay → ℕ
size_of placed = length placed.day.readings

-- what a day states whose 300 has this mark, and these runs
abbrev pub day_read : PlacedDay → Mark → ℕ → List Run → DayStatement
day_read placed own line runs = record (day_selected placed) {
  line = line;
  readings = readings_of (length placed.day.readings) own runs (written_values placed.day.readings);
}

-- the details of a day, and the day
abbrev pub with_details : ℕ → PlacedDay → DayStatement → List Statement
with_details moment placed day = DetailsOf (details_selected moment placed) ∷ DayOf day ∷ []

-- the day in progress
pub record OnDay (lines : List (List ℕ)) (said : List Statement) (header : HeaderValue) (placed : PlacedDay) (own : Mark) (line : ℕ) (runs : List Run)
    : Type 0 where
  pub free : AreFree lines
  pub stated : IsOpen lines said line (λ rs. with_details header.moment placed (day_read placed own line rs))
  pub headed : header_in (governors lines).header ≡ header
  pub details : SaysBlock (governors lines).details (block_of placed)
  pub here : line ≡ (governors lines).day_line
  pub own_is : mark_in (size_of placed) (governors lines).day ≡ own
  pub values : values_in (size_of placed) (governors lines).day ≡ written_values placed.day.readings
  pub runs_are : (governors lines).runs ≡ runs
  pub run_next : Allows (governors lines) a.IntervalEvent
  pub details_next : Allows (governors lines) a.NmiDataDetails
  pub day_next : Allows (governors lines) a.IntervalData
  pub end_next : Allows (governors lines) a.EndOfData

pub on_day : (lines : List (List ℕ)) (said : List Statement) (header : HeaderValue) (placed : PlacedDay) (mark : Option Mark) (x : List ℕ)
    → Wrote lines said header (Some (block_of placed)) → ReadsAs (day_row placed.day mark) x → size_of placed ≡ count_of placed.day.length
    → length lines + 1 ≤ most_lines
    → OnDay (lines ++ x ∷ []) (statements lines) header placed (own_mark mark) (length lines + 1) []
on_day lines said header placed mark x w r whole few =
    let is = kind_of_row (day_row placed.day mark) x r in
    let g = governors lines in
    let n = size_of placed in
    let says = w.details in
    let count : count_in g.details ≡ n = says.count ∙ sym whole in
    let number = length lines + 1 in
    let first = open_day lines x (statements lines) is refl in
    let own_is : mark_in n x ≡ own_mark mark = ap (λ o. unwrap_or o bare_null) r.says.2 in
    let values : values_in n x ≡ written_values placed.day.readings = r.says.1 in
    let date : date_in x ≡ placed.day.date = ap (λ o. unwrap_or o 0) r.says.0 in
    let details : details_statement g x ≡ details_selected header.moment placed = λ i. record {
      stream = says.stream i;
      date = date i;
      moment = ap (λ (h : HeaderValue). h.moment) w.headed i;
      details = says.details i;
    } in
    let stated_as : ℕ → List Run → DayStatement = λ k runs. record {
      line = number;
      stream = stream_in g.details;
      date = date_in x;
      length = length_in g.details;
      unit = unit_in g.details;
      update = unwrap_or (update_in k x) (header_in g.header).moment;
      readings = readings_of k (mark_in k x) runs (values_in k x);
    } in
    let read : (runs : List Run) → stated_as n runs ≡ day_read placed (own_mark mark) number runs = λ runs i. record {
      line = number;
      stream = says.stream i;
      date = date i;
      length = says.length i;
      unit = says.unit i;
      update = ap (λ o. unwrap_or (unwrap_or o None) (header_in g.header).moment) r.says.3 i;
      readings = readings_of n (own_is i) runs (values i);
    } in
    let same : (runs : List Run) → day_statement g number runs x ≡ day_read placed (own_mark mark) number runs =
    λ runs. ap (λ k. stated_as k runs) count ∙ read runs in
    record {
      free = free_push lines x w.free
          (record_sound lines x a.IntervalData r.kind_is w.day_next w.gapless (r.faultless (count_in g.details) count) refl) r.short few;
      stated = record {
        stated = λ runs. first.stated runs ∙ (λ i. statements lines ++ DetailsOf (details i) ∷ DayOf (same runs i) ∷ []);
      };
      headed = governs (λ g. header_in g.header ≡ header) lines x (Some a.IntervalData) is w.headed;
      details = governs (λ g. SaysBlock g.details (block_of placed)) lines x (Some a.IntervalData) is says;
      here = governs (λ g. number ≡ g.day_line) lines x (Some a.IntervalData) is refl;
      own_is = governs (λ g. mark_in n g.day ≡ own_mark mark) lines x (Some a.IntervalData) is own_is;
      values = governs (λ g. values_in n g.day ≡ written_values placed.day.readings) lines x (Some a.IntervalData) is values;
      runs_are = governs (λ g. g.runs ≡ []) lines x (Some a.IntervalData) is refl;
      run_next = governs (λ g. Allows g a.IntervalEvent) lines x (Some a.IntervalData) is refl;
      details_next = governs (λ g. Allows g a.NmiDataDetails) lines x (Some a.IntervalData) is refl;
      day_next = governs (λ g. Allows g a.IntervalData) lines x (Some a.IntervalData) is refl;
      end_next = governs (λ g. Allows g a.EndOfData) lines x (Some a.IntervalData) is refl;
    }

pub on_run : (lines : List (List ℕ)) (said : List Statement) (header : HeaderValue) (placed : PlacedDay) (own : Mark) (line : ℕ) (before : List Run)
    (run : Run) (x : List ℕ) → OnDay lines said header placed own line before → ReadsAs (run_row run) x → size_of placed ≡ count_of placed.day.length
    → last_end before < run.first → run.first ≤ run.last → run.last ≤ size_of placed → length lines + 1 ≤ most_lines
    → OnDay (lines ++ x ∷ []) said header placed own line (before ++ run ∷ [])
on_run lines said header placed own line before run x w r whole up goes within few =
    let is = kind_of_row (run_row run) x r in
    let g = governors lines in
    let n = size_of placed in
    let readings = placed.day.readings in
    let count : count_in g.details ≡ n = w.details.count ∙ sym whole in
    let said_run = run_said run x r.says in
    let fault : fault_of_run g x a.IntervalEvent ≡ None =
    ap (λ k. run_fault k g.runs (values_in k g.day) (run_in x)) count
    ∙ (λ i. run_fault n (w.runs_are i) (w.values i) (said_run i))
    ∙ run_sound n (last_end before) before readings run refl up goes within in
    record {
      free = free_push lines x w.free
          (record_sound lines x a.IntervalEvent r.kind_is w.run_next refl (r.faultless (count_in g.details) tt) fault) r.short few;
      stated = open_push lines x said line _ w.stated w.here (λ g k rs. ap (stated_by g k rs x) is);
      headed = governs (λ g. header_in g.header ≡ header) lines x (Some a.IntervalEvent) is w.headed;
      details = governs (λ g. SaysBlock g.details (block_of placed)) lines x (Some a.IntervalEvent) is w.details;
      here = governs (λ g. line ≡ g.day_line) lines x (Some a.IntervalEvent) is w.here;
      own_is = governs (λ g. mark_in n g.day ≡ own) lines x (Some a.IntervalEvent) is w.own_is;
      values = governs (λ g. values_in n g.day ≡ written_values readings) lines x (Some a.IntervalEvent) is w.values;
      runs_are = governs (λ g. g.runs ≡ before ++ run ∷ []) lines x (Some a.IntervalEvent) is (λ i. w.runs_are i ++ said_run i ∷ []);
      run_next = governs (λ g. Allows g a.IntervalEvent) lines x (Some a.IntervalEvent) is refl;
      details_next = governs (λ g. Allows g a.NmiDataDetails) lines x (Some a.IntervalEvent) is refl;
      day_next = governs (λ g. Allows g a.IntervalData) lines x (Some a.IntervalEvent) is refl;
      end_next = governs (λ g. Allows g a.EndOfData) lines x (Some a.IntervalEvent) is refl;
    }

end_push : (before : List Run) (run : Run) → last_end (before ++ run ∷ []) ≡ run.last
end_push before run = ap (λ o. option_map_or (λ (r : Run). r.last) o 0) (last_or_push None before run)

pub on_runs : (lines : List (List ℕ)) (said : List Statement) (header : HeaderValue) (placed : PlacedDay) (own : Mark) (line : ℕ)
    (before runs : List Run) (more : List (List ℕ)) → OnDay lines said header placed own line before → AreRead (map run_row runs) more
    → size_of placed ≡ count_of placed.day.length → AreRunsAfter (size_of placed) (last_end before) runs → length lines + length more ≤ most_lines
    → OnDay (lines ++ more) said header placed own line (before ++ runs)
on_runs lines said header placed own line before [] [] w r whole up few =
    subst (λ (ls : List (List ℕ)). OnDay ls said header placed own line (before ++ [])) (sym (append-nil lines))
    (subst (λ (bs : List Run). OnDay lines said header placed own line bs) (sym (append-nil before)) w)
on_runs lines said header placed own line before [] (x ∷ more) w r whole up few = absurd r
on_runs lines said header placed own line before (run ∷ runs) [] w r whole up few = absurd r
on_runs lines said header placed own line before (run ∷ runs) (x ∷ more) w r whole up few =
    let next = on_run lines said header placed own line before run x w r.0 whole up.0 up.1 up.2 (omega arith) in
    subst (λ (ls : List (List ℕ)). OnDay ls said header placed own line (before ++ run ∷ runs)) (append_assoc lines (x ∷ []) more)
    (subst (λ (bs : List Run). OnDay (lines ++ x ∷ [] ++ more) said header placed own line bs) (append_assoc before (run ∷ []) runs)
    (on_runs (lines ++ x ∷ []) said header placed own line (before ++ run ∷ []) runs more next r.1 whole
    (subst (λ (e : ℕ). AreRunsAfter (size_of placed) e runs) (sym (end_push before run)) up.3) (omega (arith, length_push lines x))))

-- a whole day
gap_none : (b c : Bool) → c ≡ false → (b && c) ≡ false
gap_none true c e = e
gap_none false c e = refl

pub wrote_day : (lines before : List (List ℕ)) (said : List Statement) (header : HeaderValue) (placed : PlacedDay) (own : Mark) (line : ℕ) (runs : List Run)
    → OnDay lines (statements before) header placed own line runs → map unlined (statements before) ≡ said
    → size_of placed ≡ count_of placed.day.length → AreLawfulReadings placed.day.readings → leaves_gap (size_of placed) own runs ≡ false
    → ((k : ℕ) → k < size_of placed → slice_get (marks_of placed.day.readings) k ≡ Some (mark_at runs own (1 + k)))
    → Wrote lines (said ++ with_details header.moment placed (day_selected placed)) header (Some (block_of placed))
wrote_day lines before said header placed own line runs w stated whole lawful gap marked =
    let g = governors lines in
    let n = size_of placed in
    let readings = placed.day.readings in
    let count : count_in g.details ≡ n = w.details.count ∙ sym whole in
    let back : readings_of n own runs (written_values readings) ≡ readings = readings_back readings own runs lawful marked in
    let say = λ (rs : List Run). with_details header.moment placed (day_read placed own line rs) in
    let all : statements lines ≡ statements before ++ say runs =
    close lines (statements before) line say w.stated w.here ∙ ap (λ rs. statements before ++ say rs) w.runs_are in
    record {
      free = w.free;
      stated = stated_more before said (statements lines) (say runs) (with_details header.moment placed (day_selected placed)) stated all
          (ap (λ rs. with_details header.moment placed (record (day_selected placed) { readings = rs })) back);
      gapless = gap_none (ltb g.details_line g.day_line) (leaves_gap (count_in g.details) (mark_in (count_in g.details) g.day) g.runs)
          (ap (λ k. leaves_gap k (mark_in k g.day) g.runs) count ∙ (λ i. leaves_gap n (w.own_is i) (w.runs_are i)) ∙ gap);
      headed = w.headed;
      details = w.details;
      details_next = w.details_next;
      day_next = w.day_next;
      end_next = w.end_next;
    }
