-- A source that is fed, block by block.
use Rattle.std.proofs.Common.{◌≡◌, ℕ, ◌+◌, ◌*◌, ◌≤◌, ◌<◌, ◌≢◌, Bool, false, ◌==◌, inl, inr, List, [], ◌∷◌, ◌++◌, length, take, Option, Some, None, IfSome, Result, Ok, Err, refl, sym, ◌∙◌, ap, subst, arith, length-append, append_assoc}
use Rattle.std.specs.Io.KnownBytes.{Consumes}
use Rattle.std.proofs.lemmas.Bool.Decides.{nat_tests}
use Rattle.std.proofs.lemmas.List.{append-nil, length-take-le}
use Rattle.std.proofs.lemmas.List.Folds.{concat-append}
use Rattle.std.specs.List.{concat}
use Rattle.mds_lines.specs.Lines.{longest_line, most_lines}
use Rattle.mds_lines.specs.Reads.{Reads, block}
use Rattle.mds_lines.proofs.StreamSteps.{consumes_both}
use Rattle.mds_records.specs.declared.file.FileFault.{FileFault}
use Rattle.mds_walk.specs.Answers.{IsRefusal}
use Rattle.mds_walk.specs.Faults.{Judge, fault_of}
use Rattle.mds_walk.specs.declared.fault.ReadFault.{ReadFault}
use Rattle.mds_walk.specs.declared.fault.ReadFault.TheVariants as read
use Rattle.mds_walk.specs.declared.fault.TakeFault.{TakeFault}
use Rattle.mds_walk.specs.declared.fault.TakeFault.TheVariants.{File, Memory}
use Rattle.mds_walk.specs.Feeding.{MayLackFor, MayLackHere, WasFed}
use Rattle.mds_walk.specs.SoFar.{fault_so_far, open_piece}
use Rattle.mds_walk.specs.FileSteps.{read_fault_of}
use Rattle.mds_walk.specs.Given.{AreCallsNeeded, IsOfGiven, MayLackGiven}
use Rattle.mds_walk.specs.declared.feeder.LineFeeder.{LineFeeder}
use Rattle.mds_walk.proofs.Bounds.{so_far_few}
use Rattle.mds_walk.proofs.Stops.{fault_of_all}

-- reads brought these bytes, each was needed, and they may go on
pub record HasGiven {S : Type 0} (gives : S → List ℕ → S → Type 0) (found : List ℕ → Option FileFault) (begin now : S) (bytes : List ℕ) : Type 0 where
  pub given : List (List ℕ)
  pub needed : (more : List (List ℕ)) → AreCallsNeeded found bytes false more → AreCallsNeeded found [] false (given ++ more)
  pub reads : (more : List (List ℕ)) (last : S) → Reads gives now more last → Reads gives begin (given ++ more) last
  pub all : concat given ≡ bytes

-- what they brought with one more
pub brought_all : (before : List (List ℕ)) (more fed : List ℕ) → concat before ≡ fed → concat (before ++ more ∷ []) ≡ fed ++ more
brought_all before more fed e =
    concat-append before (more ∷ []) ∙ ap (λ t. concat before ++ t) (append-nil more) ∙ ap (λ t. t ++ more) e

given_size : (given : List (List ℕ)) (more : List ℕ) → length (concat (given ++ more ∷ [])) ≡ length (concat given) + length more
given_size given more =
    ap length (concat-append given (more ∷ []) ∙ ap (λ t. concat given ++ t) (append-nil more)) ∙ length-append (concat given) more

-- so much was read, and fed, and has no fault
pub record IsReading {T : Type 0} {S : Type 0} (gives : S → List ℕ → S → Type 0) (begin here : S) (judge : Judge) (taken : T → List (List ℕ) → Type 0) (first now : Option (List ℕ)) (count : ℕ) (feeder : LineFeeder T) : Type 0 where
  pub fed : List ℕ
  pub many : count ≡ length fed
  pub few : count ≤ 16_385_016_384
  pub none : fault_so_far judge fed ≡ None
  pub was : WasFed judge taken fed feeder
  pub unrefused : feeder.walk.fault ≡ None
  pub consumed : Consumes first now fed
  pub given : HasGiven gives (fault_so_far judge) begin here fed

consumes_none : (o : Option (List ℕ)) → Consumes o o []
consumes_none None = tt
consumes_none (Some xs) = refl

module _ {T : Type 0} {S : Type 0} {gives : S → List ℕ → S → Type 0} {begin : S} {judge : Judge} {taken : T → List (List ℕ) → Type 0} {first : Option (List ℕ)} where
  pub reading_none : (feeder : LineFeeder T) → fault_so_far judge [] ≡ None → WasFed judge taken [] feeder → feeder.walk.fault ≡ None
      → IsReading gives begin begin judge taken first first 0 feeder
  reading_none feeder none was unrefused = record {
    fed = [];
    many = refl;
    few = omega arith;
    none = none;
    was = was;
    unrefused = unrefused;
    consumed = consumes_none first;
    given = record { given = []; needed = λ more n. n; reads = λ more last r. r; all = refl };
  }

  -- one read more, that brought a piece
  pub reading_more : {here next : S} {b c : Option (List ℕ)} {count size : ℕ} {piece : List ℕ} {old new : LineFeeder T}
      → IsReading gives begin here judge taken first b count old → size ≡ length piece → 0 < size → Consumes b c piece → gives here piece next
      → ((text : List ℕ) → WasFed judge taken text old → WasFed judge taken (text ++ piece) new)
      → ((text : List ℕ) → WasFed judge taken text old → fault_so_far judge (text ++ piece) ≡ None)
      → ((text : List ℕ) → WasFed judge taken text old → new.walk.fault ≡ None)
      → IsReading gives begin next judge taken first c (count + size) new
  reading_more {here = here} {next = next} {b = b} {c = c} {count = count} {size = size} {piece = piece} i e least consumed gave fed none stays =
      let found = none i.fed i.was in
      let some : (length piece == 0) ≡ false = grind (arith, nat_tests) in
      let all = length-append i.fed piece in
      let bound = so_far_few judge (i.fed ++ piece) found in
      let many : count + size ≡ length (i.fed ++ piece) = omega (arith, i.many) in
      record {
        fed = i.fed ++ piece;
        many = many;
        few = omega arith;
        none = found;
        was = fed i.fed i.was;
        unrefused = stays i.fed i.was;
        consumed = consumes_both first b c i.fed piece i.consumed consumed;
        given = record {
          given = i.given.given ++ piece ∷ [];
          needed = λ more n. subst (AreCallsNeeded (fault_so_far judge) [] false) (sym (append_assoc i.given.given (piece ∷ []) more))
              (i.given.needed (piece ∷ more) (i.none, refl, subst (λ (b : Bool). AreCallsNeeded (fault_so_far judge) (i.fed ++ piece) b more) (sym some) n));
          reads = λ more last r. subst (λ (t : List (List ℕ)). Reads gives begin t last) (sym (append_assoc i.given.given (piece ∷ []) more))
              (i.given.reads (piece ∷ more) last (next, gave, r));
          all = brought_all i.given.given piece i.fed i.given.all;
        };
      }

  -- a refused piece
  pub reading_stops : {here : S} {b : Option (List ℕ)} {count : ℕ} {old : LineFeeder T} (c : Option (List ℕ)) (piece : List ℕ) (answer : TakeFault) (fault : FileFault)
      → IsReading gives begin here judge taken first b count old → Consumes b c piece
      → ((text : List ℕ) → WasFed judge taken text old → IsRefusal (fault_so_far judge (text ++ piece)) answer)
      → read_fault_of answer ≡ read.File fault → IfSome first (λ text. fault_of judge text ≡ Some fault)
  reading_stops c piece Memory fault i consumed refused e = absurd (cc)
  reading_stops {b = b} c piece (File found) fault i consumed refused e = at first c (consumes_both first b c i.fed piece i.consumed consumed) where
    at : (first last : Option (List ℕ)) → Consumes first last (i.fed ++ piece) → IfSome first (λ text. fault_of judge text ≡ Some fault)
    at None last h = tt
    at (Some xs) None h = absurd h
    at (Some xs) (Some ys) h =
        let same : found ≡ fault = cc in
        ap (fault_of judge) h ∙ fault_of_all judge (i.fed ++ piece) ys found (refused i.fed i.was) ∙ ap Some same

  -- however it ends, few bytes were read, and all that was brought is what was fed and this
  pub brought : {here last : S} {b : Option (List ℕ)} {count : ℕ} {old : LineFeeder T} (more : List ℕ) (Says : List (List ℕ) → Type 0)
      (i : IsReading gives begin here judge taken first b count old) → gives here more last → length more ≤ 114_688
      → ((before : List (List ℕ)) → concat before ≡ i.fed → Says (before ++ more ∷ []))
      → (given : List (List ℕ)) × Reads gives begin given last × (length (concat given) ≤ most_lines * (longest_line + 1) + block)
      × AreCallsNeeded (fault_so_far judge) [] false given × Says given
  brought {last = last} more Says i gave short says =
      let before = i.given.given in
      let size = ap length i.given.all in
      let sum = given_size before more in
      let bound : length (concat (before ++ more ∷ [])) ≤ 16_385_131_072 = omega (arith, i.many, i.few) in
      (before ++ more ∷ [], i.given.reads (more ∷ []) last (last, gave, refl), bound, i.given.needed (more ∷ []) (i.none, refl, tt), says before i.given.all)

-- what a whole text ends in
abbrev pub IsEndOf : {U : Type 0} → (U → List ℕ → Type 0) → Judge → (List (List ℕ) → List ℕ → Option FileFault → Type 0) → List ℕ
    → Result U ReadFault → Type 0
IsEndOf Makes judge may_lack text (Ok out) = (fault_of judge text ≡ None) × Makes out text
IsEndOf Makes judge may_lack text (Err (read.File fault)) = fault_of judge text ≡ Some fault
IsEndOf Makes judge may_lack text (Err read.Read) = Unit {0}
IsEndOf Makes judge may_lack text (Err read.Memory) = (open_piece text ≢ []) × MayLackHere may_lack judge text

module _ {U : Type 0} (Makes : U → List ℕ → Type 0) (judge : Judge) (may_lack : List (List ℕ) → List ℕ → Option FileFault → Type 0) where
  pub end_refused : (text : List ℕ) (answer : TakeFault) → IsRefusal (fault_of judge text) answer
      → (answer ≡ Memory → (open_piece text ≢ []) × MayLackHere may_lack judge text)
      → IsEndOf Makes judge may_lack text (Err (read_fault_of answer))
  end_refused text (File fault) h lack = h
  end_refused text Memory h lack = lack refl

  -- the last call met the end
  pub of_whole : (before : List (List ℕ)) (text : List ℕ) (r : Result U ReadFault) → concat (before ++ [] ∷ []) ≡ text → IsEndOf Makes judge may_lack text r
      → IsOfGiven Makes (fault_of judge) (MayLackGiven may_lack judge) (before ++ [] ∷ []) r
  of_whole before text (Ok out) all h = ((before, refl), ap (fault_of judge) all ∙ h.0, subst (Makes out) (sym all) h.1)
  of_whole before text (Err (read.File fault)) all h = inl ((before, refl), ap (fault_of judge) all ∙ h)
  of_whole before text (Err read.Read) all h = tt
  of_whole before text (Err read.Memory) all h =
      let lack = subst (λ (t : List ℕ). (open_piece t ≢ []) × MayLackHere may_lack judge t) (sym all) h in inr ((before, refl), lack.0, lack.1)

  -- what the last call brought was refused
  pub of_front : (before : List (List ℕ)) (fed piece : List ℕ) (answer : TakeFault) → concat before ≡ fed
      → IsRefusal (fault_so_far judge (fed ++ piece)) answer → (answer ≡ Memory → MayLackFor may_lack judge fed piece)
      → IsOfGiven Makes (fault_of judge) (MayLackGiven may_lack judge) (before ++ piece ∷ []) (Err (read_fault_of answer))
  of_front before fed piece (File fault) e h lack = inr (λ more.
      ap (λ t. fault_of judge (t ++ more)) (brought_all before piece fed e) ∙ fault_of_all judge (fed ++ piece) more fault h)
  of_front before fed piece Memory e h lack =
      inl (before, piece, refl, subst (λ (t : List ℕ). MayLackFor may_lack judge t piece) (sym e) (lack refl))

-- a piece as it lies in the buffer
pub same_piece : (a b : Option (List ℕ)) (size : ℕ) (xs ys : List ℕ) → xs ≡ ys → Consumes a b (take size ys) → Consumes a b (take size xs)
same_piece a b size xs ys e h = subst (λ (t : List ℕ). Consumes a b (take size t)) (sym e) h

pub gave_piece : {S : Type 0} (gives : S → List ℕ → S → Type 0) (a b : S) (size : ℕ) (xs ys : List ℕ) → xs ≡ ys → gives a (take size ys) b → gives a (take size xs) b
gave_piece gives a b size xs ys e h = subst (λ (t : List ℕ). gives a (take size t) b) (sym e) h

pub piece_short : (size : ℕ) (buffer : List ℕ) → size ≤ length buffer → length buffer ≡ 114_688 → length (take size buffer) ≤ 114_688
piece_short size buffer within room = omega (arith, length-take-le size buffer within)
