-- An answer is told by one value, so that it has one text.
use Rattle.std.proofs.Common.{◌≡◌, ℕ, ◌==◌, ◌<◌, false, List, [], ◌∷◌, ◌++◌, decimal, length, Option, Some, None, option_map, refl, sym, ap, ◌∙◌, arith}
use Rattle.std.proofs.lemmas.Bool.Decides.{nat_tests}
use Rattle.serde_json.specs.Data.{Data}
use Rattle.serde_json.specs.Written.{compact_text}
use Rattle.mds_calendar.specs.Calendar.{day_of, moment_of}
use Rattle.mds_terms.specs.Event.{trans_text}
use Rattle.mds_terms.specs.Parts.{optional}
use Rattle.mds_messages.specs.declared.answer.Answer.{Answer}
use Rattle.mds_messages.specs.declared.answer.Answer.TheVariants as told
use Rattle.mds_answers.specs.Json.{ArePeriods, AreEach, IsData, IsDayData, IsEvent, IsJson, IsPeriod, IsStream, IsVersion, IsVersionsData, reading_texts, texts}

-- what a text is read as has one text
abbrev pub HasOneText : (List ℕ → Option ℕ) → Type 0
HasOneText read = (a b : List ℕ) (value : ℕ) → read a ≡ Some value → read b ≡ Some value → a ≡ b

-- each thing is told by one value
abbrev pub HasOne : {T : Type 0} → (T → Data → Type 0) → Type 0
HasOne {T} Is = (thing : T) (a b : Data) → Is thing a → Is thing b → a ≡ b

-- an absent part has the empty text, and a part that is there another one
optional_some : (read : List ℕ → Option ℕ) (text : List ℕ) (value : Option ℕ) → 0 < length text → optional read text ≡ Some value
    → option_map Some (read text) ≡ Some value
optional_some read text value some is =
    let there : (length text == 0) ≡ false = grind (arith, nat_tests) in
    rw there at is

read_some : (found : Option ℕ) (value : Option ℕ) → option_map Some found ≡ Some value → (n : ℕ) × (found ≡ Some n) × (value ≡ Some n)
read_some (Some n) value is = (n, refl, cc)
read_some None value is = absurd (cc)

not_absent : (read : List ℕ → Option ℕ) (c : ℕ) (text : List ℕ) (value : Option ℕ) → optional read [] ≡ Some value
    → optional read (c ∷ text) ≡ Some value → ⊥
not_absent read c text value absent is =
    let found = read_some (read (c ∷ text)) value (optional_some read (c ∷ text) value (omega arith) is) in
    let there : value ≡ Some found.0 = found.2 in
    cc

one_optional : (read : List ℕ → Option ℕ) → HasOneText read → (a b : List ℕ) (value : Option ℕ)
    → optional read a ≡ Some value → optional read b ≡ Some value → a ≡ b
one_optional read one [] [] value p q = refl
one_optional read one [] (y ∷ ys) value p q = absurd (not_absent read y ys value p q)
one_optional read one (x ∷ xs) [] value p q = absurd (not_absent read x xs value q p)
one_optional read one (x ∷ xs) (y ∷ ys) value p q =
    let left = read_some (read (x ∷ xs)) value (optional_some read (x ∷ xs) value (omega arith) p) in
    let right = read_some (read (y ∷ ys)) value (optional_some read (y ∷ ys) value (omega arith) q) in
    let same : Some left.0 ≡ Some right.0 = sym left.2 ∙ right.2 in
    one (x ∷ xs) (y ∷ ys) left.0 left.1 (right.1 ∙ sym same)

one_each : {T : Type 0} (Is : T → Data → Type 0) → HasOne Is → (things : List T) (a b : List Data)
    → AreEach Is things a → AreEach Is things b → a ≡ b
one_each Is one [] [] [] p q = refl
one_each Is one (x ∷ xs) (a ∷ more) (b ∷ bs) p q = cc (one x a b p.0 q.0, one_each Is one xs more bs p.1 q.1)
one_each Is one [] (a ∷ more) bs p q = absurd p
one_each Is one [] [] (b ∷ bs) p q = absurd q
one_each Is one (x ∷ xs) [] bs p q = absurd p
one_each Is one (x ∷ xs) (a ∷ more) [] p q = absurd q

one_event : HasOneText moment_of → HasOne IsEvent
one_event one event a b p q = p.2 ∙ ap (λ moment. texts (trans_text event.trans ∷ event.ticket ∷ moment ∷ event.reading ∷ []))
    (one_optional moment_of one p.0 q.0 event.moment p.1 q.1) ∙ sym q.2

one_version : HasOneText moment_of → HasOne IsVersion
one_version one version a b p q =
    p.2 ∙ ap (λ update. texts (update ∷ (reading_texts version.reading ++ decimal version.length ∷ [])))
    (one p.0 q.0 version.update p.1 q.1) ∙ sym q.2

one_period : HasOneText moment_of → HasOne IsPeriod
one_period one period a b p q = let same : p.0 ≡ q.0 = one p.0 q.0 period.key.update p.1 q.1 in cc

one_periods : HasOneText moment_of → HasOne ArePeriods
one_periods moments answer a b (periods, are, is) (periods', are', is') =
    let same : periods ≡ periods' = one_each IsPeriod (one_period moments) answer.periods.items periods periods' are are' in
    cc

one_stream : HasOneText day_of → HasOne IsStream
one_stream one answer a b p q = let same : p.0 ≡ q.0 = one_optional day_of one p.0 q.0 answer.details.next p.1 q.1 in cc

one_day : HasOneText day_of → HasOneText moment_of → HasOne IsDayData
one_day days moments answer a b (date, update, events, day, moment, are, is) (date', update', events', day', moment', are', is') =
    let same_date : date ≡ date' = days date date' answer.day day day' in
    let same_update : update ≡ update' = moments update update' answer.update moment moment' in
    let same_events : events ≡ events' = one_each IsEvent (one_event moments) answer.events.items events events' are are' in
    cc

one_versions : HasOneText day_of → HasOneText moment_of → HasOne IsVersionsData
one_versions days moments answer a b (date, versions, day, are, is) (date', versions', day', are', is') =
    let same_date : date ≡ date' = days date date' answer.day day day' in
    let same : versions ≡ versions' = one_each IsVersion (one_version moments) answer.versions.items versions versions' are are' in
    cc

one_data : HasOneText day_of → HasOneText moment_of → HasOne IsData
one_data days moments (told.Imported added known) a b p q = p ∙ sym q
one_data days moments (told.Substituted count) a b p q = p ∙ sym q
one_data days moments (told.Known count) a b p q = p ∙ sym q
one_data days moments (told.HolidaysAdded added known) a b p q = p ∙ sym q
one_data days moments (told.Day answer) a b p q = one_day days moments answer a b p q
one_data days moments (told.Versions answer) a b p q = one_versions days moments answer a b p q
one_data days moments (told.Period answer) a b p q = one_periods moments answer a b p q
one_data days moments (told.Streams answers) a b (streams, are, is) (streams', are', is') =
    let same : streams ≡ streams' = one_each IsStream (one_stream days) answers.items streams streams' are are' in
    cc
one_data days moments (told.Gaps text) a b p q = absurd p
one_data days moments (told.Finals text) a b p q = absurd p
one_data days moments (told.Missing text) a b p q = absurd p
one_data days moments (told.Readings text) a b p q = absurd p
one_data days moments (told.Exported text) a b p q = absurd p
one_data days moments (told.File fault) a b p q = p ∙ sym q
one_data days moments (told.Refused refusal) a b p q = p ∙ sym q
one_data days moments told.Unavailable a b p q = p ∙ sym q

pub one_text : HasOneText day_of → HasOneText moment_of → (answer : Answer) (a b : List ℕ) → IsJson answer a → IsJson answer b → a ≡ b
one_text days moments answer a b p q = p.2 ∙ ap compact_text (one_data days moments answer p.0 q.0 p.1 q.1) ∙ sym q.2
