use Rattle.std.proofs.Common.{◌≡◌, ◌∙◌, [], List, Some, map, string_bytes, ap, sym, subst}
use Rattle.clap.specs.Words.{App, HasKind, Text, fault_of, found_of, rows_of, is_simple, is_simple_and_free, subcommand_of, subcommand_rows_of, takes}
use Rattle.mds_words.specs.Asked.{Asks}
use Rattle.mds_words.specs.Grammar.{mdstore_app}
use Rattle.mds_words.proofs.Getters.{of_same_app, pair_found, passed_on}
use Rattle.mds_words.proofs.Stops.{names_command}
use Rattle.mds_words.proofs.grammar.matched.Goals as goal

pub returns-in_err-matches-clause-passes : goal.returns-in_err-matches-clause-passes
returns-in_err-matches-clause-passes c =
    let app = c.in_ok-grammar.ensures.app_is in
    let words : List Text = map string_bytes c.args.words.now in
    passed_on _ _ _ c.from_residual-in_err-matches.ensures.1 (λ takes_them. c.in_err-matches.ensures.passes (ap (λ (a : App). takes a words) app ∙ takes_them))

pub returns-in_err-matches-clause-kinds : goal.returns-in_err-matches-clause-kinds
returns-in_err-matches-clause-kinds c =
    let app = c.in_ok-grammar.ensures.app_is in
    let words : List Text = map string_bytes c.args.words.now in
    passed_on _ _ (HasKind (fault_of (mdstore_app c.args.kinds) words)) c.from_residual-in_err-matches.ensures.1
    (of_same_app words c.in_err-matches.field-0.0 app (c.in_err-matches.ensures.kinds (ap is_simple_and_free app)))

pub returns-clause-asked : goal.returns-clause-asked
returns-clause-asked c =
    let app = c.in_ok-grammar.ensures.app_is in
    let words : List Text = map string_bytes c.args.words.now in
    let no_fault : fault_of (mdstore_app c.args.kinds) words ≡ [] =
    sym (ap (λ (a : App). fault_of a words) app) ∙ c.in_ok-matches.ensures.kinds (ap is_simple_and_free app) in
    let found : subcommand_rows_of c.in_ok-matches.matches ≡ subcommand_of (mdstore_app c.args.kinds) words = (c.in_ok-matches.ensures.matches (ap is_simple app)).1 ∙ ap (λ (a : App). subcommand_of a words) app in
    let m = c.in_ok-matches.matches in
    let name = c.unwrap.result.0.now in
    let rows = rows_of (found_of c.unwrap.result.1.now) in
    let pair : subcommand_rows_of m ≡ Some (name, rows) = pair_found m name rows (sym (rw c.unwrap.ensures at c.subcommand.ensures.name))
    (sym (rw c.unwrap.ensures at c.subcommand.ensures.rows)) in
    let is : subcommand_of (mdstore_app c.args.kinds) words ≡ Some (name, rows) = sym found ∙ pair in
    let asks : Asks (Some (name, rows)) c.in_ok-asked.field-0 = c.in_ok-asked.ensures c.args.kinds (names_command c.args.kinds words name rows no_fault is) in
    (no_fault, subst (λ o. Asks o c.in_ok-asked.field-0) (sym is) asks)
