-- What the matches give where they are read.
use Rattle.std.proofs.Common.{◌≡◌, ◌∙◌, ◌==◌, ◌∷◌, ◌^◌, ◌&&◌, inl, inr, ℕ, Bool, true, false, refl, sym, ap, subst, List, [], map, length, Option, Some, None, Result, Ok, Err, IfErr, IsErrAnd, nat_lt, lt-ltb, ltb-true}
use Rattle.std.specs.List.{AllZip, each_same, list_all}
use Rattle.std.specs.Option.{option_map, option_map_or, unwrap_or}
use Rattle.std.specs.Borrow.{Bor}
use Rattle.std.specs.Char.{digit_value}
use Rattle.std.specs.Str.Parse.{AllDigits, ParsesUnsigned, digits_value, without_leading_plus}
use Rattle.clap.specs.Words.{App, HasKind, ReadsOne, Row, Text, fault_of, kind_of, subcommand_name_of, subcommand_rows_of, takes}
use Rattle.clap.specs.declared.error.Error.{Error}
use Rattle.clap.specs.declared.error.kind.ErrorKind.TheVariants.{OutOfMemory}
use Rattle.clap.specs.declared.parser.matches.ArgMatches.{ArgMatches}
use Rattle.clap.specs.declared.parser.matches.ArgMatches.TheViews.{out-ArgMatches}
use Rattle.clap.specs.Walk.{texts}
use Rattle.clap.specs.ValueTests.{is_numeral}
use Rattle.clap.proofs.WalkLemmas.{both}
use Rattle.mds_words.specs.Asked.{IsAsked, IsAskedBy, number_below}
use Rattle.mds_words.specs.Grammar.{IsMdstore}
use Rattle.mds_words.specs.Refused.{IsRefused, IsRefusedAs, IsRefusedBy}
use Rattle.mds_words.specs.declared.words.Words.{Words}
use Rattle.mds_words.specs.declared.words.WordsFault.{WordsFault}
use Rattle.mds_words.specs.declared.words.WordsFault.TheVariants.{Memory}

-- a text, or the empty one
pub or_empty : (read : Option (Bor Text)) (empty : Bor Text) (found : Option Text) → empty.now ≡ [] → option_map (λ s. s.now) read ≡ found
    → (unwrap_or read empty).now ≡ unwrap_or found []
or_empty None empty found none is = none ∙ ap (λ o. unwrap_or o []) is
or_empty (Some s) empty found none is = ap (λ o. unwrap_or o []) is

passes_digits : (ds : List ℕ) → AllDigits 10 ds → list_all (λ d. nat_lt (digit_value d) 10) ds ≡ true
passes_digits [] h = refl
passes_digits (d ∷ ds) h = rw (lt-ltb (digit_value d) 10 h.0) (passes_digits ds h.1)

digits_pass : (ds : List ℕ) → list_all (λ d. nat_lt (digit_value d) 10) ds ≡ true → AllDigits 10 ds
digits_pass [] e = tt
digits_pass (d ∷ ds) e =
    let parts = both _ _ e in
    (ltb-true _ _ parts.0, digits_pass ds parts.1)

-- what std reads as a number is that number
read_number : (E : Type 0) (k : ℕ) (text : Text) (n : ℕ) → ParsesUnsigned {E = E} k 10 text (Ok n) → n ≡ number_below (2 ^ k) text
read_number E k text n h =
    let ds = without_leading_plus text in
    rw (lt-ltb 0 (length ds) h.0.0.0, passes_digits ds h.0.0.1, lt-ltb (digits_value 10 ds) (2 ^ k) h.0.1) h.1

-- and what it doesn't read is none
unread_number : (E : Type 0) (k : ℕ) (text : Text) (e : E) → ParsesUnsigned k 10 text (Err e) → 0 ≡ number_below (2 ^ k) text
unread_number E k text e h = go (is_numeral (without_leading_plus text) && nat_lt (digits_value 10 (without_leading_plus text)) (2 ^ k)) refl
  where
    go : (b : Bool) → (is_numeral (without_leading_plus text) && nat_lt (digits_value 10 (without_leading_plus text)) (2 ^ k)) ≡ b → 0 ≡ number_below (2 ^ k) text
    go false t = rw t refl
    go true t =
        let outer = both _ _ t in
        let inner = both _ _ outer.0 in
        absurd (h ((ltb-true _ _ inner.0, digits_pass (without_leading_plus text) inner.1), ltb-true _ _ outer.1))

-- the number that an argument has, where std reads what clap found
pub number_read : (E : Type 0) (G : Text → Result ℕ E → Type 0) (k : ℕ) (found : Option Text) (read : Option ℕ) → ((text : Text) (r : Result ℕ E) → G text r → ParsesUnsigned k 10 text r)
    → (found ≡ None → read ≡ None) → ((text : Text) → found ≡ Some text → ReadsOne G text read) → unwrap_or read 0 ≡ option_map_or (number_below (2 ^ k)) found 0
number_read E G k None read only none value = ap (λ r. unwrap_or r 0) (none refl)
number_read E G k (Some text) None only none value =
    let failed = value text refl in
    unread_number E k text failed.0 (only text (Err failed.0) failed.1)
number_read E G k (Some text) (Some n) only none value = read_number E k text n (only text (Ok n) (value text refl))

-- a copy of a list of texts, or none
pub copied : (xs ys : List (Bor Text)) (found : Option (List Text)) → AllZip (λ x y. y ≡ x) xs ys → Some (texts xs) ≡ found → texts ys ≡ unwrap_or found []
copied xs ys found same is = ap texts (each_same xs ys same) ∙ ap (λ o. unwrap_or o []) is

pair_of : {X : Type 0} (o : Option X) (name_of : X → Text) (rows_of : X → List Row) (name : Text) (rows : List Row) → option_map name_of o ≡ Some name
    → option_map rows_of o ≡ Some rows → option_map {U = Text × List Row} (λ x. (name_of x, rows_of x)) o ≡ Some (name, rows)
pair_of None name_of rows_of name rows named found = cc
pair_of (Some x) name_of rows_of name rows named found =
    let first : name_of x ≡ name = ap (λ (o : Option Text). unwrap_or o (name_of x)) named in
    let second : rows_of x ≡ rows = ap (λ (o : Option (List Row)). unwrap_or o (rows_of x)) found in
    λ i. Some (first i, second i)

seconds : {X : Type 0} (o : Option X) (name_of : X → Text) (rows_of : X → List Row)
    → option_map (λ (p : Text × List Row). p.1) (option_map {U = Text × List Row} (λ x. (name_of x, rows_of x)) o) ≡ option_map rows_of o
seconds None name_of rows_of = refl
seconds (Some x) name_of rows_of = refl

-- the subcommand that was found, with its rows
pub pair_found : (m : ArgMatches) (name : Text) (rows : List Row) → subcommand_name_of m ≡ Some name
    → option_map (λ (p : Text × List Row). p.1) (subcommand_rows_of m) ≡ Some rows → subcommand_rows_of m ≡ Some (name, rows)
pair_found m name rows named found = pair_of (out-ArgMatches m).subcommand _ _ name rows named (sym (seconds (out-ArgMatches m).subcommand _ _) ∙ found)

-- an error that is passed on
pub passed_on : {T : Type 0} (r : Result T Error) (e : Error) (P : Error → Type 0) → IsErrAnd r (λ x. x ≡ e) → P e → IfErr r P
passed_on (Ok x) e P is h = absurd is
passed_on (Err x) e P is h = subst P (sym is) h

-- what clap has for words it has by another name of the app
pub of_same_app : {app other : App} (words : List Text) (error : Error) → app ≡ other → HasKind (fault_of app words) error
    → HasKind (fault_of other words) error
of_same_app words error same has = subst (λ a. HasKind (fault_of a words) error) same has

-- words that are there ask for what the grammar says
pub by_grammar : {X : Type 0} (text_of : X → Text) (words : List X) (asked : Words) → (length words == 0) ≡ false
    → (app : App) × IsMdstore app × IsAskedBy app (map text_of words) asked → IsAsked (map text_of words) asked
by_grammar text_of [] asked some by = cc
by_grammar text_of (word ∷ words) asked some by = by

-- an error that clap has for words refuses them
pub refused_by : (app : App) (words : List Text) (error : Error) (refusal : WordsFault) → HasKind (fault_of app words) error
    → (takes app words ≡ true → refusal ≡ Memory) → (kind_of error ≡ OutOfMemory → refusal ≡ Memory) → IsRefusedAs (kind_of error) refusal
    → IsRefusedBy app words refusal
refused_by app words error refusal (inl wanting) taken memory alike = (taken, inl (memory wanting))
refused_by app words error refusal (inr among) taken memory alike = (taken, inr (kind_of error, among, alike))

-- words that are there are refused as the grammar says
pub refused : {X : Type 0} (text_of : X → Text) (words : List X) (fault : WordsFault) → (length words == 0) ≡ false
    → (app : App) × IsMdstore app × IsRefusedBy app (map text_of words) fault → IsRefused (map text_of words) fault
refused text_of [] fault some by = cc
refused text_of (word ∷ words) fault some by = by
