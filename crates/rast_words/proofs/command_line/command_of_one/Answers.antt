use Rattle.std.proofs.Common.{◌≡◌, ◌∙◌, ap, ap₂, true}
use Rattle.clap.specs.Words.{App, Rule, rule_of}
use Rattle.clap.specs.Simple.{with_rule}
use Rattle.clap.specs.declared.builder.arg.Arg.{Arg}
use Rattle.rast_words.proofs.command_line.command_of_one.Goals as goal

pub returns : goal.returns
returns c =
    let argument_is = ap rule_of c.required-argument.ensures ∙ ap (λ (r : Rule). record r { required = true }) c.new.ensures.rule in
    let local = ap (λ (a : Arg). a.global) c.required-argument.ensures ∙ c.new.ensures.optional.1 in
    ap (λ (a : App). a.top) (c.in_ok-command.ensures.shape local ∙ ap₂ with_rule c.new-2.ensures.app argument_is)
