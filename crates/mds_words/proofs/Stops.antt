-- Words in which clap finds no fault name a command of the program, and not its help.
use Rattle.std.proofs.Common.{◌≡◌, ◌∙◌, ◌∷◌, ◌&&◌, ◌||◌, Bool, cond, true, false, not, true≢false, refl, sym, ap, subst, List, [], Option, Some, None, codes, is_some, length, arith, ℕ}
use Rattle.std.specs.List.{find, fold, list_all, list_any}
use Rattle.std.specs.Option.{IfSome, option_map, option_map_or}
use Rattle.std.specs.Str.{bytes_eq}
use Rattle.std.specs.Borrow.{Bor}
use Rattle.std.proofs.lemmas.Slice.Eq.{bytes_eq-Decides}
use Rattle.std.proofs.lemmas.Bool.{eqb-true}
use Rattle.clap.proofs.WalkLemmas.{both}
use Rattle.clap.specs.Lexer.{long_of, short_of}
use Rattle.clap.specs.Kinds.{Kinds, or_else}
use Rattle.clap.specs.Faults.{fault_of, other_fault, step_fault, turn_fault, walk_fault, word_fault}
use Rattle.clap.specs.Walk.{Held, Names, Outcome, Row, Rule, Step, Text, Waiting, Walk, after_flag, after_step, answers_to, arg_by_index, done, idle, is_empty, long_or_other, next, nothing_held, option, plain, plain_word, positional, refused, short_or_plain, stop_after, subcommand, subcommand_met, subcommand_or_other, to_positional, trailing, value, waits, walk_from, walked, walked_from, word_met}
use Rattle.clap.specs.Simple.{Shape, built, entered, label_of, names_of, rows_at, subcommand_of}
use Rattle.mds_words.specs.Commands.{has_command}
use Rattle.mds_words.specs.Grammar.{mdstore_app}
use Rattle.mds_words.proofs.Named.{differs}

pub none_before : (first second : Kinds) → or_else first second ≡ [] → first ≡ []
none_before [] second e = refl
none_before (k ∷ ks) second e = e

pub none_behind : (first second : Kinds) → or_else first second ≡ [] → second ≡ []
none_behind [] second e = e
none_behind (k ∷ ks) second e = cc

-- ---- a word that is no command's name stops no walk

plain_goes_on : (c : List Rule) (waiting : Waiting) (word : Text) (h : Held) (name : Text) → (plain_word c waiting word h).1 ≡ subcommand name → ⊥
plain_goes_on c idle word h name e = cc
plain_goes_on c (option id) word h name e = cc
plain_goes_on c positional word h name e = cc

flag_goes_on : (c : List Rule) (waiting : Waiting) (word : Text) (h : Held) (outcome : Outcome) (name : Text) → (after_flag c waiting word h outcome).1 ≡ subcommand name → ⊥
flag_goes_on c waiting word h done name e = cc
flag_goes_on c waiting word h (waits id) name e = cc
flag_goes_on c waiting word h plain name e = plain_goes_on c waiting word h name e
flag_goes_on c waiting word h refused name e = plain_goes_on c waiting word h name e

short_goes_on : (c : List Rule) (waiting : Waiting) (word : Text) (flags : Option Text) (h : Held) (name : Text) → (short_or_plain c waiting word flags h).1 ≡ subcommand name → ⊥
short_goes_on c waiting word (Some flags) h name e = flag_goes_on c waiting word _ _ name e
short_goes_on c waiting word None h name e = plain_goes_on c waiting word h name e

long_goes_on : (c : List Rule) (waiting : Waiting) (word : Text) (long : Option (Text × Option Text)) (h : Held) (name : Text)
    → (long_or_other c waiting word long h).1 ≡ subcommand name → ⊥
long_goes_on c waiting word (Some p) h name e = flag_goes_on c waiting word _ _ name e
long_goes_on c waiting word None h name e = short_goes_on c waiting word (short_of word) h name e

-- ---- a walk without a fault stops at no help

abbrev IsHelp : Text → Type 0
IsHelp name = bytes_eq name (codes "help") ≡ true

abbrev PassesHelp : Option (Text × List Text) → Type 0
PassesHelp stop = IfSome stop (λ p. bytes_eq p.0 (codes "help") ≡ false)

no_help : (b enabled : Bool) (kinds : Kinds) → enabled ≡ true → (kinds ≡ [] → ⊥) → cond (b && enabled) kinds [] ≡ [] → b ≡ false
no_help false enabled kinds on some none = refl
no_help true enabled kinds on some none = absurd (some (rw on at none))

met_no_help : (s : Shape) (names : Names) (is_trailing : Bool) (waiting : Waiting) (position : ℕ) (word : Text) (h : Held) (name : Text) → s.disable_help_subcommand ≡ false
    → word_fault s names is_trailing waiting word h ≡ [] → (word_met s.rules names is_trailing waiting position word h).1 ≡ subcommand name → bytes_eq name (codes "help") ≡ false
met_no_help s names true waiting position word h name enabled none e = cc
met_no_help s names false waiting position word h name enabled none e = go (subcommand_met names waiting word) none e
  where
    other : (b : Bool) → (cond b (h, trailing position) (long_or_other s.rules waiting word (long_of word) h)).1 ≡ subcommand name → ⊥
    other true e = cc
    other false e = long_goes_on s.rules waiting word (long_of word) h name e

    go : (met : Option Text) → other_fault s met word h ≡ [] → (subcommand_or_other s.rules met waiting position word h).1 ≡ subcommand name → bytes_eq name (codes "help") ≡ false
    go (Some n) none e =
        let is : n ≡ name = cc in
        subst (λ (t : Text). bytes_eq t (codes "help") ≡ false) is (no_help (bytes_eq n (codes "help")) (not s.disable_help_subcommand) _ (ap not enabled) (λ e. cc) none)
    go None none e = absurd (other (bytes_eq word (45 ∷ 45 ∷ [])) e)

step_no_help : (c : List Rule) (word : Text) (w : Walk) (h : Held) (step : Step) → PassesHelp w.stopped → ((name : Text) → step ≡ subcommand name → bytes_eq name (codes "help") ≡ false)
    → PassesHelp (after_step c word w h step).stopped
step_no_help c word w h (next waiting) before named = before
step_no_help c word w h (trailing position) before named = before
step_no_help c word w h (subcommand name) before named = named name refl
step_no_help c word w h value before named = go (arg_by_index c w.position)
  where
    go : (a : Option Rule) → PassesHelp (to_positional c a word w h).stopped
    go None = before
    go (Some a) = tt

turn_no_help : (s : Shape) (names : Names) (w : Walk) (word : Text) → s.disable_help_subcommand ≡ false → turn_fault s names w word ≡ [] → PassesHelp w.stopped
    → PassesHelp (walked s.rules names w word).stopped
unfolding walked
turn_no_help s names w word enabled none before = go w.stopped before none
  where
    met : Held × Step
    met = word_met s.rules names w.is_trailing w.waiting w.position word w.held

    go : (stop : Option (Text × List Text)) → PassesHelp stop
        → cond (is_some stop) [] (or_else (word_fault s names w.is_trailing w.waiting word w.held)
        (step_fault s w.position (word_met s.rules names w.is_trailing w.waiting w.position word w.held).0 (word_met s.rules names w.is_trailing w.waiting w.position word w.held).1)) ≡ []
        → PassesHelp (walked_from s.rules names stop w word).stopped
    go (Some p) passed none = passed
    go None passed none = step_no_help s.rules word w _ _ before (λ name e.
        met_no_help s names w.is_trailing w.waiting w.position word w.held name enabled (none_before _ _ none) e)

walk_no_help : (s : Shape) (names : Names) (w : Walk) (words : List Text) → s.disable_help_subcommand ≡ false → walk_fault s names w words ≡ [] → PassesHelp w.stopped
    → PassesHelp (fold (walked s.rules names) w words).stopped
unfolding walk_fault
walk_no_help s names w [] enabled none before = before
walk_no_help s names w (word ∷ rest) enabled none before =
    walk_no_help s names (walked s.rules names w word) rest enabled (none_behind (turn_fault s names w word) _ none)
    (turn_no_help s names w word enabled (none_before (turn_fault s names w word) _ none) before)

-- ---- the command that is entered is one of those that are there

either : (a b : Bool) → b ≡ true → (a || b) ≡ true
either true b e = refl
either false b e = e

no_alias : (aliases : List Text) (n : Text) → is_empty aliases ≡ true → list_any (λ alias. bytes_eq alias n) aliases ≡ false
no_alias [] n none = refl
no_alias (alias ∷ aliases) n none = absurd (omega (arith, eqb-true (length (alias ∷ aliases)) 0 none))

entered_is_there : (subs : List Shape) (n : Text) (rest : List Text) (name : Text) (rows : List Row) → list_all (λ (s : Shape). is_empty s.aliases) subs ≡ true
    → option_map (λ s. rows_at s rest) (find (λ s. answers_to n (label_of s)) subs) ≡ Some (name, rows)
    → (list_any (λ (s : Shape). bytes_eq s.name name) subs ≡ true) × (n ≡ name)
entered_is_there [] n rest name rows by_name e = cc
entered_is_there (s ∷ subs) n rest name rows by_name e =
    go (bytes_eq s.name n) refl (λ later. entered_is_there subs n rest name rows (both _ _ by_name).1 later)
  where
    none : list_any (λ alias. bytes_eq alias n) s.aliases ≡ false
    none = no_alias s.aliases n (both _ _ by_name).0

    go : (b : Bool) → bytes_eq s.name n ≡ b
        → (option_map (λ s. rows_at s rest) (find (λ s. answers_to n (label_of s)) subs) ≡ Some (name, rows)
        → (list_any (λ (s : Shape). bytes_eq s.name name) subs ≡ true) × (n ≡ name))
        → (list_any (λ (s : Shape). bytes_eq s.name name) (s ∷ subs) ≡ true) × (n ≡ name)
    go true is others =
        let found : ◌≡◌ {A = Option (Text × List Row)} (Some (rows_at s rest)) (Some (name, rows)) = rw is at e in
        let named : s.name ≡ name = ap (λ (o : Option (Text × List Row)). option_map_or (λ (p : Text × List Row). p.0) o s.name) found in
        let here : bytes_eq s.name name ≡ true = (bytes_eq-Decides s.name name).1 named in
        (rw here refl, sym ((bytes_eq-Decides s.name n).0 is) ∙ named)
    go false is others =
        let there = others (rw (is, none) at e) in
        (either _ _ there.0, there.1)

pub names_command : (kinds : Bor (List (Bor Text))) (words : List Text) (name : Text) (rows : List Row) → fault_of (mdstore_app kinds) words ≡ []
    → subcommand_of (mdstore_app kinds) words ≡ Some (name, rows) → has_command (mdstore_app kinds) name ≡ true
names_command kinds words name rows none is =
    let b = built (mdstore_app kinds) in
    let passed = none_before (walk_fault b.top (names_of b) (walk_from nothing_held) words) _ none in
    go (stop_after b.top.rules (names_of b) words) (walk_no_help b.top (names_of b) (walk_from nothing_held) words refl passed tt) is
  where
    go : (stop : Option (Text × List Text)) → PassesHelp stop → entered (built (mdstore_app kinds)) stop ≡ Some (name, rows) → has_command (mdstore_app kinds) name ≡ true
    go None passed e = cc
    go (Some p) passed e =
        let there = entered_is_there (built (mdstore_app kinds)).subs p.0 p.1 name rows refl e in
        let help : bytes_eq (codes "help") name ≡ false = differs (codes "help") name (λ is.
        true≢false (sym ((bytes_eq-Decides p.0 (codes "help")).1 (there.1 ∙ is)) ∙ passed)) in
        rw help at there.0
