-- How commands are built, of their arguments and of subcommands.
use Rattle.std.proofs.Common.{◌≡◌, ◌∷◌, [], ◌++◌, ◌∙◌, ◌||◌, ap, ap₂, sym, subst, append_assoc, append-nil, Bool, List, map, length, take, get_or, ℕ, ◌+◌, ◌<◌}
use Rattle.std.proofs.lemmas.List.{map-append, take_more}
use Rattle.std.specs.List.{AllZip, fold}
use Rattle.clap.specs.Words.{AddsArg, AddsInTurn, AddsSubcommand, App, Rule, Shape, Text, with_rule, with_subcommand}
use Rattle.clap.specs.declared.builder.arg.Arg.{Arg}
use Rattle.clap.specs.declared.builder.command.Command.{Command}
use Rattle.mds_words.specs.Commands.{HasRule, IsApp, IsLeaf, with_commands}
use Rattle.mds_words.specs.Grammar.{command_of}

-- one more at the end
pub one_more : {A B : Type 0} (R : A → B → Type 0) (xs : List A) (ys : List B) (x : A) (y : B) → AllZip R xs ys → R x y → AllZip R (xs ++ x ∷ []) (ys ++ y ∷ [])
one_more R [] [] x y all is = (is, tt)
one_more R [] (b ∷ ys) x y all is = absurd all
one_more R (a ∷ xs) [] x y all is = absurd all
one_more R (a ∷ xs) (b ∷ ys) x y all is = (all.0, one_more R xs ys x y all.1 is)

-- one more of the list that they are of
pub one_more_of : {W A B : Type 0} (R : A → B → Type 0) (f : W → A) (words : List W) (i : ℕ) (d : W) (ys : List B) (y : B) → i < length words
    → AllZip R (map f (take i words)) ys → R (f (get_or words i d)) y → AllZip R (map f (take (i + 1) words)) (ys ++ y ∷ [])
one_more_of R f words i d ys y lt all is =
    subst (λ xs. AllZip R xs (ys ++ y ∷ [])) (sym (ap (map f) (take_more words i d lt) ∙ map-append f (take i words) _))
    (one_more R (map f (take i words)) ys _ y all is)

with_one_more : {app : App} {rule : Rule} {old new : Command} {arg : Arg} → IsApp app old → HasRule rule arg → AddsArg old arg new → IsApp (with_rule app rule) new
with_one_more before has adds = record {
  app_is = adds.shape has.own ∙ ap₂ with_rule before.app_is has.rule_is;
  own = adds.globals ∙ ap₂ (λ (x y : Bool). x || y) before.own has.own;
}

with_all : (app : App) (rules : List Rule) (args : List Arg) (old new : Command) → IsApp app old → AllZip HasRule rules args → AddsInTurn AddsArg old args new
    → IsApp (fold with_rule app rules) new
with_all app [] [] old new before all adds = subst (IsApp app) adds before
with_all app [] (arg ∷ args) old new before all adds = absurd all
with_all app (rule ∷ rules) [] old new before all adds = absurd all
with_all app (rule ∷ rules) (arg ∷ args) old new before all adds =
    with_all (with_rule app rule) rules args adds.0 new (with_one_more before all.0 adds.1) all.1 adds.2

-- a shape with these rules so far takes all of them
abbrev pub leaf : Text → List Rule → App
leaf name rules = record { top = command_of name rules; subs = [] }

all_rules : (name : Text) (so_far rules : List Rule) → fold with_rule (leaf name so_far) rules ≡ leaf name (so_far ++ rules)
all_rules name so_far [] = ap (leaf name) (sym (append-nil so_far))
all_rules name so_far (rule ∷ rules) = all_rules name (so_far ++ rule ∷ []) rules ∙ ap (leaf name) (append_assoc so_far (rule ∷ []) rules)

-- a command of these arguments
pub of_arguments : (name : Text) (rules : List Rule) (args : List Arg) (old new : Command) → IsApp (leaf name []) old → AllZip HasRule rules args → AddsInTurn AddsArg old args new
    → IsLeaf (command_of name rules) new
of_arguments name rules args old new before all adds =
    subst (λ app. IsApp app new) (all_rules name [] rules) (with_all (leaf name []) rules args old new before all adds)

with_one_below : {app : App} {shape : Shape} {old sub new : Command} → IsApp app old → IsLeaf shape sub → AddsSubcommand old sub new → IsApp (with_subcommand app shape) new
with_one_below before leaf adds = record {
  app_is = adds.shape leaf.own ∙ ap₂ with_subcommand before.app_is (ap (λ (a : App). a.top) leaf.app_is);
  own = adds.globals ∙ ap₂ (λ (x y : Bool). x || y) before.own leaf.own;
}

-- an app with all of these commands
pub with_all_below : (app : App) (shapes : List Shape) (subs : List Command) (old new : Command) → IsApp app old → AllZip IsLeaf shapes subs → AddsInTurn AddsSubcommand old subs new
    → IsApp (with_commands app shapes) new
with_all_below app [] [] old new before all adds = subst (IsApp app) adds before
with_all_below app [] (sub ∷ subs) old new before all adds = absurd all
with_all_below app (shape ∷ shapes) [] old new before all adds = absurd all
with_all_below app (shape ∷ shapes) (sub ∷ subs) old new before all adds =
    with_all_below (with_subcommand app shape) shapes subs adds.0 new (with_one_below before all.0 adds.1) all.1 adds.2
