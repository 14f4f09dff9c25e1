-- What clap knows of an argument, and of a command.
use Rattle.std.specs.Prelude.{◌≡◌, List, [], Bool, false, fold}
use Rattle.std.specs.List.{list_any}
use Rattle.std.specs.Str.{bytes_eq}
use Rattle.clap.specs.declared.builder.arg.Arg.{Arg}
use Rattle.clap.specs.declared.builder.command.Command.{Command}
use Rattle.clap.specs.Words.{App, Rule, Shape, Text, app_of, rule_of, with_subcommand}
use Rattle.clap.specs.declared.builder.command.Command.TheViews.{out-Command as fields_of}

-- the argument has this rule, and belongs to the command alone
pub record HasRule (rule : Rule) (arg : Arg) : Type 0 where
  pub rule_is : rule_of arg ≡ rule
  pub own : arg.global ≡ false

-- the command is this one, with no argument for its subcommands
pub record IsApp (app : App) (command : Command) : Type 0 where
  pub app_is : app_of command ≡ app
  pub own : (fields_of command).has_globals ≡ false

-- it has no subcommands
abbrev pub IsLeaf : Shape → Command → Type 0
IsLeaf shape = IsApp (record { top = shape; subs = [] })

-- an app with more commands
abbrev pub with_commands : App → List Shape → App
with_commands app more = fold with_subcommand app more

-- an app has a command with this name
abbrev pub has_command : App → Text → Bool
has_command app name = list_any (λ shape. bytes_eq shape.name name) app.subs
