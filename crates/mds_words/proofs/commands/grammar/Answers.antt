use Rattle.std.proofs.Common.{[], codes, map, rules, true}
use Rattle.std.proofs.lemmas.Result.{IfOk-weaker}
use Rattle.clap.specs.Simple.{new_shape}
use Rattle.clap.specs.Words.{App}
use Rattle.mds_words.specs.Commands.{IsApp}
use Rattle.mds_words.specs.Grammar.{all_names, shape_of}
use Rattle.mds_words.proofs.Building.{with_all_below}
use Rattle.mds_words.proofs.commands.grammar.Goals as goal

abbrev program : App
program = record {
  top = record (new_shape (codes "mdstore")) { no_binary_name = true; subcommand_required = true; has_version = true };
  subs = [];
}

pub returns : goal.returns
returns c =
    let bare : IsApp program c.in_ok-bin_name.field-0 = search rules in
    IfOk-weaker c.subcommands.result _ _
    (λ new adds. with_all_below program (map (shape_of c.args.kinds) all_names) c.in_ok-commands.commands.items c.in_ok-bin_name.field-0 new bare c.in_ok-commands.ensures adds)
    c.subcommands.ensures
