-- The steps of a feeder of lines.
use Rattle.std.proofs.Common.{Bor, ◌≡◌, ◌≢◌, ◌⊎◌, inl, inr, ℕ, ◌+◌, ◌-◌, ◌<◌, ◌≤◌, List, [], ◌∷◌, ◌++◌, length, take, drop, get_or, map, Option, Some, None, Result, Ok, Err, MatchResult, MatchOption, refl, sym, ◌∙◌, ap, subst, arith, length-append, append_assoc}
use Rattle.std.specs.List.{All, concat}
use Rattle.std.proofs.lemmas.List.{append-nil, length-map, length_push, nil_from_length, map_push, take_all, drop-drop}
use Rattle.std.proofs.lemmas.List.Elements.{All-nil, All-same}
use Rattle.memchr.specs.Find.{IsFirstByte, is_byte}
use Rattle.mds_lines.specs.Lines.{line_feed, line_pieces, line_text, longest_line}
use Rattle.mds_lines.proofs.Lefts.{around}
use Rattle.mds_lines.proofs.Seeks.{IsFound, seen_all, seen_found}
use Rattle.mds_records.specs.declared.file.FaultCode.TheVariants as code
use Rattle.mds_records.specs.declared.file.FileFault.{FileFault}
use Rattle.mds_walk.specs.Answers.{HasWalked, IsEndFault, IsRefusal}
use Rattle.mds_walk.specs.Faults.{Judge, at_line, end_fault, fault_of, faults_of, first_of, line_fault, lines_of, text_fault}
use Rattle.mds_walk.specs.declared.fault.TakeFault.{TakeFault}
use Rattle.mds_walk.specs.declared.fault.TakeFault.TheVariants.{File, Memory}
use Rattle.mds_walk.specs.declared.walk.Walk.{Walk}
use Rattle.mds_walk.proofs.Faultless.{Faultless, fault_ends, faultless_none, faultless_push}
use Rattle.mds_walk.specs.Feeding.{HasFed, MayLackFor, MayLackForOne, MayLackHere, WasFed}
use Rattle.mds_walk.specs.SoFar.{fault_so_far, open_piece, whole_pieces}
use Rattle.mds_walk.specs.declared.feeder.LineFeeder.{LineFeeder}
use Rattle.mds_walk.proofs.Parts.{ended, pieces_ended, pieces_whole, parts_line, parts_none, parts_open}
use Rattle.mds_walk.proofs.Stops.{Stops, fault_of_all, fault_stays, none_found, so_far_long, so_far_none, so_far_stops, stops_here}

-- a refusal of one text is that of another that has its fault
pub refusal_then : (a b : Option FileFault) (fault : TakeFault) → ((found : FileFault) → a ≡ Some found → b ≡ Some found)
    → IsRefusal a fault → IsRefusal b fault
refusal_then a b (File found) step h = step found h
refusal_then a b Memory step h = tt

-- a refusal stays one, and is one of every text that begins so
pub refusal_stays : (judge : Judge) (text more : List ℕ) (fault : TakeFault) → IsRefusal (fault_so_far judge text) fault
    → IsRefusal (fault_so_far judge (text ++ more)) fault
refusal_stays judge text more fault h = refusal_then _ _ fault (fault_stays judge text more) h

pub refusal_ends : (judge : Judge) (text : List ℕ) (fault : TakeFault) → IsRefusal (fault_so_far judge text) fault → IsRefusal (fault_of judge text) fault
refusal_ends judge text fault h =
    refusal_then _ _ fault (λ found e. ap (fault_of judge) (sym (append-nil text)) ∙ fault_of_all judge text [] found e) h

-- what holds behind one piece and more holds behind all
pub pieces_fed : (Says : List ℕ → Type 0) (text first later all : List ℕ) → all ≡ first ++ later → Says ((text ++ first) ++ later) → Says (text ++ all)
pieces_fed Says text first later all e h = subst Says (append_assoc text first later ∙ ap (λ t. text ++ t) (sym e)) h

-- a refusal before more pieces
pub pieces_refused : (judge : Judge) (text first later all : List ℕ) (fault : TakeFault) → all ≡ first ++ later
    → IsRefusal (fault_so_far judge (text ++ first)) fault → IsRefusal (fault_so_far judge (text ++ all)) fault
pieces_refused judge text first later all fault e h =
    pieces_fed (λ t. IsRefusal (fault_so_far judge t) fault) text first later all e (refusal_stays judge (text ++ first) later fault h)

pub first_piece : (pieces : List (Bor (List ℕ))) (default : Bor (List ℕ)) → 1 ≤ length pieces
    → concat (map (λ piece. piece.now) pieces)
    ≡ (get_or pieces 0 default).now ++ concat (map (λ piece. piece.now) (take (length pieces - 1) (drop 1 pieces)))
first_piece [] default some = absurd (omega arith)
first_piece (x ∷ xs) default some = ap (λ t. x.now ++ concat (map (λ piece. piece.now) t)) (sym (take_all _ xs (omega arith)))

pub first_pieces : (pieces : List (Bor (List ℕ))) (default : Bor (List ℕ)) → 1 ≤ length pieces
    → map (λ piece. piece.now) pieces ≡ (get_or pieces 0 default).now ∷ map (λ piece. piece.now) (take (length pieces - 1) (drop 1 pieces))
first_pieces [] default some = absurd (omega arith)
first_pieces (x ∷ xs) default some = ap (λ t. x.now ∷ map (λ piece. piece.now) t) (sym (take_all _ xs (omega arith)))

-- an empty text has none
pub nothing_none : (judge : Judge) → fault_so_far judge [] ≡ None
nothing_none judge =
    let p = parts_none in
    so_far_none judge [] (subst (Faultless judge) (sym p.whole) (faultless_none judge)) (omega (arith, ap length p.open_is))

module _ {T : Type 0} {judge : Judge} {taken : T → List (List ℕ) → Type 0} where
  -- before the first piece
  pub fed_none : (feeder : LineFeeder T) → HasWalked taken feeder.walk [] → feeder.rest.items ≡ [] → feeder.lines ≡ 0 → HasFed judge taken [] feeder
  fed_none feeder walked rest lines =
      let p = parts_none in
      record {
        none = nothing_none judge;
        walked = subst (λ (t : List (List ℕ)). HasWalked taken feeder.walk (map line_text t)) (sym p.whole) walked;
        rest = rest ∙ sym p.open_is;
        lines = lines ∙ ap length (sym p.whole);
      }

  -- bytes without a line feed make the line in hand too long
  pub keep_long : (feeder : LineFeeder T) (front : List ℕ) (answer : TakeFault) → longest_line < length feeder.rest.items + length front
      → answer ≡ File (at_line (feeder.lines + 1) code.TooLarge)
      → (text : List ℕ) → HasFed judge taken text feeder → All (λ x. x ≢ 10) front → IsRefusal (fault_so_far judge (text ++ front)) answer
  keep_long feeder front answer long is text h apart =
      let p = parts_open text front apart in
      let sound = none_found judge text h.none in
      subst (IsRefusal (fault_so_far judge (text ++ front))) (sym is)
      (so_far_long judge (text ++ front) _ (record {
        faultless = subst (Faultless judge) (sym p.whole) sound.faultless;
        long = omega (arith, long, ap length p.open_is, length-append (open_piece text) front, ap length h.rest);
        is = ap (λ n. at_line (n + 1) code.TooLarge) (ap length p.whole ∙ sym h.lines);
      }))

  -- or go behind it
  pub keep_more : (old new : LineFeeder T) (front : List ℕ) → length old.rest.items + length front ≤ longest_line
      → new.walk ≡ old.walk → new.lines ≡ old.lines → new.rest.items ≡ old.rest.items ++ front
      → (text : List ℕ) → HasFed judge taken text old → All (λ x. x ≢ 10) front → HasFed judge taken (text ++ front) new
  keep_more old new front short walk lines rest text h apart =
      let p = parts_open text front apart in
      let sound = none_found judge text h.none in
      record {
        none = so_far_none judge (text ++ front) (subst (Faultless judge) (sym p.whole) sound.faultless)
            (omega (arith, short, ap length p.open_is, length-append (open_piece text) front, ap length h.rest));
        walked = subst (λ (t : List (List ℕ)). HasWalked taken new.walk (map line_text t)) (sym p.whole)
            (subst (λ (w : Walk T). HasWalked taken w (map line_text (whole_pieces text))) (sym walk) h.walked);
        rest = rest ∙ ap (λ t. t ++ front) h.rest ∙ sym p.open_is;
        lines = lines ∙ h.lines ∙ ap length (sym p.whole);
      }

  -- A line feed ends the line in hand, and the walk takes it.
  pub line_taken : (old new : LineFeeder T) (text front piece : List ℕ)
      → ((before : List (List ℕ)) → HasWalked taken old.walk before → old.lines ≡ length before
      → (line_fault judge before piece ≡ None) × HasWalked taken new.walk (before ++ line_text piece ∷ []))
      → new.rest.items ≡ [] → new.lines ≡ old.lines + 1 → HasFed judge taken text old → All (λ x. x ≢ 10) front
      → piece ≡ open_piece text ++ front → HasFed judge taken (text ++ (front ++ line_feed ∷ [])) new
  line_taken old new text front piece takes rest lines h apart is =
      let before = whole_pieces text in
      let p = parts_line text front apart in
      let whole : whole_pieces (text ++ (front ++ line_feed ∷ [])) ≡ before ++ piece ∷ [] = p.whole ∙ ap (λ t. before ++ t ∷ []) (sym is) in
      let sound = none_found judge text h.none in
      let took = takes (map line_text before) h.walked (h.lines ∙ sym (length-map before line_text)) in
      record {
        none = so_far_none judge (text ++ (front ++ line_feed ∷ []))
            (subst (Faultless judge) (sym whole) (faultless_push judge before piece sound.faultless took.0)) (omega (arith, ap length p.open_is));
        walked = subst (HasWalked taken new.walk) (sym (ap (map line_text) whole ∙ map_push line_text before piece)) took.1;
        rest = rest ∙ sym p.open_is;
        lines = omega (arith, lines, h.lines, ap length whole, length_push before piece);
      }

  -- or refuses it
  pub line_refused : (old : LineFeeder T) (text front piece : List ℕ) (answer : TakeFault)
      → ((before : List (List ℕ)) → HasWalked taken old.walk before → old.lines ≡ length before → IsRefusal (line_fault judge before piece) answer)
      → HasFed judge taken text old → All (λ x. x ≢ 10) front → piece ≡ open_piece text ++ front
      → IsRefusal (fault_so_far judge (text ++ (front ++ line_feed ∷ []))) answer
  line_refused old text front piece answer refuses h apart is =
      let before = whole_pieces text in
      let p = parts_line text front apart in
      let whole : whole_pieces (text ++ (front ++ line_feed ∷ [])) ≡ before ++ piece ∷ [] = p.whole ∙ ap (λ t. before ++ t ∷ []) (sym is) in
      let sound = none_found judge text h.none in
      refusal_then _ _ answer
      (λ found e. so_far_stops judge (text ++ (front ++ line_feed ∷ [])) found
      (subst (λ (t : List (List ℕ)). Stops judge t found) (sym whole) (stops_here judge before piece [] found sound.faultless e)))
      (refuses (map line_text before) h.walked (h.lines ∙ sym (length-map before line_text)))

-- the line feed alone
pub line_alone : (judge : Judge) (text front : List ℕ) (answer : TakeFault) → IsRefusal (fault_so_far judge (text ++ front)) answer
    → IsRefusal (fault_so_far judge (text ++ (front ++ line_feed ∷ []))) answer
line_alone judge text front answer h = pieces_refused judge text front (line_feed ∷ []) (front ++ line_feed ∷ []) answer refl h

-- a line feed stands between these
pub record HasLine (left front behind : List ℕ) : Type 0 where
  pub apart : All (λ x. x ≢ 10) front
  pub is : left ≡ (front ++ line_feed ∷ []) ++ behind

-- the search for a line feed found one, or none
pub has_line : (left front rest behind : List ℕ) (size : ℕ) → IsFirstByte (is_byte 10) left (Some size) → front ≡ take size left → rest ≡ drop size left
    → behind ≡ drop 1 rest → HasLine left front behind
has_line left front rest behind size h e f g =
    let place : 0 + size ≡ size = omega arith in
    let found = subst (IsFound left) place (seen_found left 0 size (omega arith) (All-nil (λ x. x ≢ 10)) h) in
    let last : behind ≡ drop (size + 1) left = g ∙ ap (drop 1) f ∙ drop-drop 1 size left in
    record {
      apart = All-same (λ x. x ≢ 10) front (take size left) e found.apart;
      is = around left size found.within found.here ∙ sym (append_assoc (take size left) (line_feed ∷ []) (drop (size + 1) left))
          ∙ ap (λ t. (t ++ line_feed ∷ []) ++ drop (size + 1) left) (sym e) ∙ ap (λ t. (front ++ line_feed ∷ []) ++ t) (sym last);
    }

pub has_none : (left : List ℕ) → IsFirstByte (is_byte 10) left None → All (λ x. x ≢ 10) left
has_none left h = subst (λ (t : List ℕ). All (λ x. x ≢ 10) t) (take_all (length left) left (omega arith)) (seen_all left 0 (omega arith) (All-nil (λ x. x ≢ 10)) h)

-- Along a piece: so much of it was taken.
pub record IsFeeding {T : Type 0} (judge : Judge) (taken : T → List (List ℕ) → Type 0) (piece left : List ℕ) (first now : LineFeeder T) : Type 0 where
  pub fed : List ℕ
  pub is : piece ≡ fed ++ left
  pub ends : (fed ≡ []) ⊎ ((front : List ℕ) × (fed ≡ front ++ line_feed ∷ []))
  pub has : (text : List ℕ) → HasFed judge taken text first → HasFed judge taken (text ++ fed) now

module _ {T : Type 0} {judge : Judge} {taken : T → List (List ℕ) → Type 0} (piece : List ℕ) (first : LineFeeder T) where
  pub feeding_none : IsFeeding judge taken piece piece first first
  feeding_none = record {
    fed = [];
    is = refl;
    ends = inl refl;
    has = λ text h. subst (λ (t : List ℕ). HasFed judge taken t first) (sym (append-nil text)) h;
  }

  split_at : (left front behind : List ℕ) (now : LineFeeder T) → (i : IsFeeding judge taken piece left first now) → HasLine left front behind
      → piece ≡ (i.fed ++ (front ++ line_feed ∷ [])) ++ behind
  split_at left front behind now i line = i.is ∙ ap (λ t. i.fed ++ t) line.is ∙ sym (append_assoc i.fed (front ++ line_feed ∷ []) behind)

  pub feeding_more : (left front behind : List ℕ) (old new : LineFeeder T) → IsFeeding judge taken piece left first old → HasLine left front behind
      → ((text : List ℕ) → HasFed judge taken text old → All (λ x. x ≢ 10) front → HasFed judge taken (text ++ (front ++ line_feed ∷ [])) new)
      → IsFeeding judge taken piece behind first new
  feeding_more left front behind old new i line step = record {
    fed = i.fed ++ (front ++ line_feed ∷ []);
    is = split_at left front behind old i line;
    ends = inr (i.fed ++ front, sym (append_assoc i.fed front (line_feed ∷ [])));
    has = λ text h. subst (λ (t : List ℕ). HasFed judge taken t new) (append_assoc text i.fed (front ++ line_feed ∷ []))
        (step (text ++ i.fed) (i.has text h) line.apart);
  }

  pub feeding_stops : (left front behind : List ℕ) (old : LineFeeder T) (answer : TakeFault) → IsFeeding judge taken piece left first old
      → HasLine left front behind
      → ((text : List ℕ) → HasFed judge taken text old → All (λ x. x ≢ 10) front → IsRefusal (fault_so_far judge (text ++ (front ++ line_feed ∷ []))) answer)
      → (text : List ℕ) → HasFed judge taken text first → IsRefusal (fault_so_far judge (text ++ piece)) answer
  feeding_stops left front behind old answer i line step text h =
      let whole = front ++ line_feed ∷ [] in
      pieces_refused judge text (i.fed ++ whole) behind piece answer (split_at left front behind old i line)
      (subst (λ (t : List ℕ). IsRefusal (fault_so_far judge t) answer) (append_assoc text i.fed whole) (step (text ++ i.fed) (i.has text h) line.apart))

  pub feeding_ends : (left : List ℕ) (old new : LineFeeder T) (r : Result (Unit {0}) TakeFault) → IsFeeding judge taken piece left first old
      → All (λ x. x ≢ 10) left
      → ((text : List ℕ) → HasFed judge taken text old → All (λ x. x ≢ 10) left
      → MatchResult r (λ _. HasFed judge taken (text ++ left) new) (IsRefusal (fault_so_far judge (text ++ left))))
      → (text : List ℕ) → HasFed judge taken text first
      → MatchResult r (λ _. HasFed judge taken (text ++ piece) new) (IsRefusal (fault_so_far judge (text ++ piece)))
  feeding_ends left old new r i apart step text h =
      subst (λ (t : List ℕ). MatchResult r (λ _. HasFed judge taken t new) (IsRefusal (fault_so_far judge t)))
      (append_assoc text i.fed left ∙ ap (λ t. text ++ t) (sym i.is)) (step (text ++ i.fed) (i.has text h) apart)

-- Where memory may be wanting.

module _ {T : Type 0} {judge : Judge} {taken : T → List (List ℕ) → Type 0} (may_lack : List (List ℕ) → List ℕ → Option FileFault → Type 0) (Wanting : Type 0) where
  -- for the line in hand and these bytes
  pub line_wanting : (old : LineFeeder T) (text front piece : List ℕ)
      → ((before : List (List ℕ)) → HasWalked taken old.walk before → old.lines ≡ length before → Wanting
      → (length piece ≤ longest_line) × may_lack before (line_text piece) (text_fault judge before (line_text piece)))
      → HasFed judge taken text old → All (λ x. x ≢ 10) front → piece ≡ open_piece text ++ front → Wanting → MayLackHere may_lack judge (text ++ front)
  line_wanting old text front piece lacks h apart is wanting =
      let p = parts_open text front apart in
      let Lacks : List (List ℕ) → List ℕ → Type 0 = λ pieces last. may_lack (map line_text pieces) (line_text last) (text_fault judge (map line_text pieces) (line_text last)) in
      let sound = none_found judge text h.none in
      let lack = lacks (map line_text (whole_pieces text)) h.walked (h.lines ∙ sym (length-map (whole_pieces text) line_text)) wanting in (
        so_far_none judge (text ++ front) (subst (Faultless judge) (sym p.whole) sound.faultless) (omega (arith, lack.0, ap length (is ∙ sym p.open_is))),
        subst (λ (pieces : List (List ℕ)). Lacks pieces (open_piece (text ++ front))) (sym p.whole)
            (subst (Lacks (whole_pieces text)) (is ∙ sym p.open_is) lack.1),
      )

  -- for a line that ends in a piece
  pub feeding_wanting : (piece : List ℕ) (first : LineFeeder T) (left front behind : List ℕ) (old : LineFeeder T)
      → IsFeeding judge taken piece left first old → HasLine left front behind
      → ((text : List ℕ) → HasFed judge taken text old → All (λ x. x ≢ 10) front → Wanting
      → (open_piece text ≢ []) ⊎ MayLackHere may_lack judge (text ++ front))
      → (text : List ℕ) → HasFed judge taken text first → Wanting → MayLackFor may_lack judge text piece
  feeding_wanting piece first left front behind old i line lacks text h wanting =
      let all = split_at piece first left front behind old i line in
      let here = i.fed ++ (front ++ line_feed ∷ []) in
      let sum = length-append here behind in
      let inner = length-append i.fed (front ++ line_feed ∷ []) in
      let last = length_push front line_feed in (
        λ none. absurd (omega (arith, sum, inner, last, ap length none, ap length all)),
        at i.ends (lacks (text ++ i.fed) (i.has text h) line.apart wanting),
      ) where
        at : (i.fed ≡ []) ⊎ ((before : List ℕ) × (i.fed ≡ before ++ line_feed ∷ []))
            → (open_piece (text ++ i.fed) ≢ []) ⊎ MayLackHere may_lack judge ((text ++ i.fed) ++ front)
            → (open_piece text ≢ []) ⊎ ((open_piece (text ++ piece) ≢ []) × (fault_so_far judge (text ++ piece) ≡ None))
            ⊎ ((front : List ℕ) × (behind : List ℕ) × (piece ≡ (front ++ line_feed ∷ []) ++ behind) × MayLackHere may_lack judge (text ++ front))
        at ends (inr here) = inr (inr (
          i.fed ++ front,
          behind,
          split_at piece first left front behind old i line ∙ ap (λ t. t ++ behind) (sym (append_assoc i.fed front (line_feed ∷ []))),
          subst (MayLackHere may_lack judge) (append_assoc text i.fed front) here,
        ))
        at (inl none) (inl some) = inl (λ is. some (ap open_piece (ap (λ t. text ++ t) none ∙ append-nil text) ∙ is))
        at (inr last) (inl some) = absurd (some
            (ap open_piece (ap (λ t. text ++ t) last.1 ∙ sym (append_assoc text last.0 (line_feed ∷ []))) ∙ (ended (text ++ last.0)).open_is))

  -- for the one that a piece doesn't end
  pub keeping_wanting : (piece : List ℕ) (first : LineFeeder T) (left : List ℕ) (old : LineFeeder T)
      → IsFeeding judge taken piece left first old → All (λ x. x ≢ 10) left → (Wanting → (left ≢ []) × (length old.rest.items + length left ≤ longest_line))
      → (text : List ℕ) → HasFed judge taken text first → Wanting → MayLackFor may_lack judge text piece
  keeping_wanting piece first left old i apart lacks text h wanting =
      let some = lacks wanting in
      let p = parts_open (text ++ i.fed) left apart in
      let all : text ++ piece ≡ (text ++ i.fed) ++ left = ap (λ t. text ++ t) i.is ∙ sym (append_assoc text i.fed left) in
      let open_is : open_piece (text ++ piece) ≡ open_piece (text ++ i.fed) ++ left = ap open_piece all ∙ p.open_is in
      let had = i.has text h in
      let sound = none_found judge (text ++ i.fed) had.none in
      let sum = length-append (open_piece (text ++ i.fed)) left in
      let whole = length-append i.fed left in (
        λ none. some.0 (nil_from_length left (omega (arith, whole, ap length none, ap length i.is))),
        inr (inl (
          λ none. some.0 (nil_from_length left (omega (arith, sum, ap length none, ap length open_is))),
          ap (fault_so_far judge) all
              ∙ so_far_none judge ((text ++ i.fed) ++ left) (subst (Faultless judge) (sym p.whole) sound.faultless)
              (omega (arith, some.1, sum, ap length p.open_is, ap length had.rest)),
        )),
      )

-- for a last line without its line feed, where a whole text was fed at once
pub lack_alone : (may_lack : List (List ℕ) → List ℕ → Option FileFault → Type 0) (judge : Judge) (text : List ℕ)
    → (open_piece text ≢ []) × MayLackHere may_lack judge text → MayLackFor may_lack judge [] text
lack_alone may_lack judge text it = let p = parts_none in (λ none. it.0 (ap open_piece none ∙ p.open_is), inr (inl (it.0, it.1.0)))

-- for one of several pieces
module _ (may_lack : List (List ℕ) → List ℕ → Option FileFault → Type 0) (judge : Judge) (text first : List ℕ) (later all : List (List ℕ)) where
  pub lack_first : all ≡ first ∷ later → fault_so_far judge text ≡ None → MayLackFor may_lack judge text first → MayLackForOne may_lack judge text all
  lack_first e none lack = (
    [],
    first,
    later,
    e,
    ap (fault_so_far judge) (append-nil text) ∙ none,
    subst (λ (t : List ℕ). MayLackFor may_lack judge t first) (sym (append-nil text)) lack,
  )

  pub lack_later : all ≡ first ∷ later → MayLackForOne may_lack judge (text ++ first) later → MayLackForOne may_lack judge text all
  lack_later e it =
      let same : (text ++ first) ++ concat it.0 ≡ text ++ concat (first ∷ it.0) = append_assoc text first (concat it.0) in (
        first ∷ it.0,
        it.1,
        it.2,
        e ∙ ap (λ t. first ∷ t) it.3,
        ap (fault_so_far judge) (sym same) ∙ it.4,
        subst (λ (t : List ℕ). MayLackFor may_lack judge t it.1) same it.5,
      )

-- for nothing at the end
pub ends_wanting : {T : Type 0} {O : Type 0} {judge : Judge} {taken : T → List (List ℕ) → Type 0} (made : O → List (List ℕ) → Type 0)
    (feeder : LineFeeder T) (r : Result O TakeFault)
    → ((before : List (List ℕ)) → HasWalked taken feeder.walk before → feeder.lines ≡ length before
    → MatchResult r (λ out. (end_fault judge before ≡ None) × made out before) (IsEndFault (end_fault judge before)))
    → (text : List ℕ) → HasFed judge taken text feeder → r ≡ Err Memory → ⊥
ends_wanting {O = O} {judge = judge} made feeder r ends text h e =
    let before = map line_text (whole_pieces text) in
    subst (λ (it : Result O TakeFault). MatchResult it (λ out. (end_fault judge before ≡ None) × made out before) (IsEndFault (end_fault judge before))) e
    (ends before h.walked (h.lines ∙ sym (length-map (whole_pieces text) line_text)))

-- How a text ends.

-- what the end of a text answers
abbrev pub Ends : {O : Type 0} → Judge → (O → List (List ℕ) → Type 0) → List ℕ → Result O TakeFault → Type 0
Ends judge made text r = MatchResult r (λ out. (fault_of judge text ≡ None) × made out (lines_of text)) (IsRefusal (fault_of judge text))

end_of : {O : Type 0} (judge : Judge) (made : O → List (List ℕ) → Type 0) (text : List ℕ) (r : Result O TakeFault) → fault_of judge text ≡ end_fault judge (lines_of text)
    → MatchResult r (λ out. (end_fault judge (lines_of text) ≡ None) × made out (lines_of text)) (IsEndFault (end_fault judge (lines_of text)))
    → Ends judge made text r
end_of judge made text (Ok out) e h = (e ∙ h.0, h.1)
end_of judge made text (Err (File found)) e h = e ∙ h
end_of judge made text (Err Memory) e h = absurd h

-- nothing stands behind the last line feed
pub ends_empty : {T : Type 0} {O : Type 0} {judge : Judge} {taken : T → List (List ℕ) → Type 0} (made : O → List (List ℕ) → Type 0)
    (feeder : LineFeeder T) (r : Result O TakeFault)
    → ((before : List (List ℕ)) → HasWalked taken feeder.walk before → feeder.lines ≡ length before
    → MatchResult r (λ out. (end_fault judge before ≡ None) × made out before) (IsEndFault (end_fault judge before)))
    → feeder.rest.items ≡ [] → (text : List ℕ) → HasFed judge taken text feeder → Ends judge made text r
ends_empty {judge = judge} {taken = taken} made feeder r ends empty text h =
    let sound = none_found judge text h.none in
    let all = pieces_whole text (sym h.rest ∙ empty) in
    end_of judge made text r (fault_ends judge text (line_pieces text) refl (subst (Faultless judge) (sym all) sound.faultless))
    (ends (lines_of text) (subst (λ (t : List (List ℕ)). HasWalked taken feeder.walk (map line_text t)) (sym all) h.walked)
    (h.lines ∙ ap length (sym all) ∙ sym (length-map (line_pieces text) line_text)))

-- a last line stands there, and is taken as if it ended in a line feed
pub ends_so : {O : Type 0} (judge : Judge) (made : O → List (List ℕ) → Type 0) (text : List ℕ) (r : Result O TakeFault) → 0 < length (open_piece text)
    → Ends judge made (text ++ line_feed ∷ []) r → Ends judge made text r
unfolding fault_of
ends_so judge made text r some h =
    subst (λ (p : List (List ℕ)). MatchResult r (λ out. (first_of (faults_of judge p) ≡ None) × made out (map line_text p)) (IsRefusal (first_of (faults_of judge p))))
    (pieces_ended text some) h

pub nothing_behind : {T : Type 0} {judge : Judge} {taken : T → List (List ℕ) → Type 0} (text : List ℕ) (feeder : LineFeeder T)
    → HasFed judge taken (text ++ line_feed ∷ []) feeder → feeder.rest.items ≡ []
nothing_behind text feeder h = h.rest ∙ (ended text).open_is

-- What a feeder was fed, with its fault or without.

module _ {T : Type 0} (judge : Judge) (taken : T → List (List ℕ) → Type 0) (text : List ℕ) (feeder : LineFeeder T) where
  abbrev Was : Option TakeFault → Type 0
  Was o = MatchOption o (HasFed judge taken text feeder) (IsRefusal (fault_so_far judge text))

  pub was_fed : HasFed judge taken text feeder → WasFed judge taken text feeder
  was_fed h = subst Was (sym h.walked.faultless) h

  pub none_fed : feeder.walk.fault ≡ None → WasFed judge taken text feeder → HasFed judge taken text feeder
  none_fed e h = subst Was e h

  pub refused_fed : (fault : TakeFault) → feeder.walk.fault ≡ Some fault → WasFed judge taken text feeder → IsRefusal (fault_so_far judge text) fault
  refused_fed fault e h = subst Was e h

  pub fed_refused : (fault : TakeFault) → feeder.walk.fault ≡ Some fault → IsRefusal (fault_so_far judge text) fault → WasFed judge taken text feeder
  fed_refused fault e h = subst Was (sym e) h
