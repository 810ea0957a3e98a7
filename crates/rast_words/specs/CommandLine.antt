-- The command line: its subcommands, with their arguments and options.
use Rattle.std.specs.Prelude.{true, ◌∷◌, Some, pos, codes}
use Rattle.clap.specs.Words.{App, Rule, Text, new_app, new_rule, with_rule, with_subcommand}
use Rattle.clap.specs.Simple.{on_top}
use Rattle.clap.specs.declared.builder.action.ArgAction.TheVariants.{SetTrue}
use Rattle.clap.specs.declared.builder.value_parser.ValueParser.TheVariants as parser

-- FILE
abbrev pub file_rule : Rule
file_rule = record (new_rule (codes "file")) { required = true }

-- --budget, from 1 to 1,000,000
abbrev pub budget_rule : Rule
budget_rule = record (new_rule (codes "budget")) { long = Some (codes "budget"); parser = Some (parser.Signed (pos 1) (pos 1000000)) }

-- --trace
abbrev pub trace_rule : Rule
trace_rule = record (new_rule (codes "trace")) { long = Some (codes "trace"); action = Some SetTrue }

abbrev pub run_app : App
run_app = with_rule (with_rule (with_rule (new_app (codes "run")) file_rule) budget_rule) trace_rule

-- a command of one argument
abbrev pub of_one : Text → Text → App
of_one name id = with_rule (new_app name) (record (new_rule id) { required = true })

-- a subcommand is required, and `help` is none
abbrev pub bare : App
bare = on_top (λ s. record s { disable_help_subcommand = true; subcommand_required = true }) (new_app (codes "rast"))

abbrev pub rast : App
rast = with_subcommand (with_subcommand (with_subcommand (with_subcommand bare run_app.top) (of_one (codes "check") (codes "file")).top) (of_one (codes "show") (codes "file")).top) (of_one (codes "decide") (codes "formula")).top
