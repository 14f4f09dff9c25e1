-- Which command a name names.
use Rattle.std.proofs.Common.{◌≡◌, ◌||◌, ◌++◌, ◌∷◌, [], Bool, List, true, false, refl, sym, ◌∙◌}
use Rattle.std.specs.Borrow.{Bor}
use Rattle.std.specs.List.{list_any}
use Rattle.std.specs.Str.{bytes_eq}
use Rattle.std.proofs.lemmas.List.Folds.{list_any-append}
use Rattle.std.proofs.lemmas.Slice.Eq.{bytes_eq-Decides}
use Rattle.clap.specs.Words.{Shape, Text}
use Rattle.mds_arguments.specs.Arguments.{is_query_name}
use Rattle.mds_words.specs.Commands.{has_command}
use Rattle.mds_words.specs.Grammar.{explain_command, file_commands, mdstore_app, query_commands, store_commands}

pub differs : (text name : Text) → (name ≡ text → ⊥) → bytes_eq text name ≡ false
differs text name h = go (bytes_eq text name) refl
  where
    go : (b : Bool) → bytes_eq text name ≡ b → b ≡ false
    go false e = refl
    go true e = absurd (h (sym ((bytes_eq-Decides text name).0 e)))

pub only_first : (first others : Bool) → others ≡ false → (first || others) ≡ true → first ≡ true
only_first true others none any = refl
only_first false others none any = cc

or_none : (b : Bool) → (b || false) ≡ b
or_none true = refl
or_none false = refl

without : (p : Shape → Bool) (before those behind : List Shape) → list_any p those ≡ false → list_any p ((before ++ those) ++ behind) ≡ true
    → list_any p (before ++ behind) ≡ true
without p before those behind none any =
    let parts = rw (list_any-append p (before ++ those) behind, list_any-append p before those, none, or_none (list_any p before)) at any in
    list_any-append p before behind ∙ parts

-- a command whose name is no query's is one of the others
pub no_query : (kinds : Bor (List (Bor Text))) (name : Text) → is_query_name name ≡ false → has_command (mdstore_app kinds) name ≡ true
    → list_any (λ (shape : Shape). bytes_eq shape.name name) (file_commands kinds ++ store_commands ++ explain_command ∷ []) ≡ true
no_query kinds name none named =
    without (λ (shape : Shape). bytes_eq shape.name name) (file_commands kinds) query_commands (store_commands ++ explain_command ∷ []) none named
