use Rattle.std.proofs.Common.{◌≡◌, ◌∙◌, rules, ap, ap₂, codes, Some, pos, true}
use Rattle.clap.specs.Words.{App, Rule, app_of, new_rule, rule_of}
use Rattle.clap.specs.Simple.{with_rule}
use Rattle.clap.specs.declared.builder.value_parser.ValueParser.TheVariants as parser
use Rattle.clap.specs.declared.builder.arg.Arg.{Arg}
use Rattle.rast_words.specs.CommandLine.{file_rule, budget_rule, trace_rule, run_app}
use Rattle.rast_words.proofs.command_line.run_command.Goals as goal

pub returns : goal.returns
returns c =
    let file_is : rule_of c.required-file.result ≡ file_rule = ap rule_of c.required-file.ensures ∙ ap (λ (r : Rule). record r { required = true }) c.new.ensures.rule in
    let long_is : rule_of c.long.result ≡ record (new_rule (codes "budget")) { long = Some (codes "budget") } = search rules in
    let given = c.value_parser-budget.ensures.given in
    let made : c.range.result ≡ parser.Signed (pos 1) (pos 1000000) = rw (c.value_parser.ensures, c.new-3.ensures.start, c.new-3.ensures.end) at c.range.ensures in
    let budget_is : rule_of c.value_parser-budget.result ≡ budget_rule = ap rule_of c.value_parser-budget.ensures.others
    ∙ ap₂ (λ (r : Rule) p. record r { parser = p }) long_is (given.1 ∙ ap Some (given.2 ∙ made)) in
    let trace_is : rule_of c.action-trace.result ≡ trace_rule = search rules in
    let run_is : app_of c.in_ok-run.run' ≡ run_app = c.in_ok-run.ensures.shape (search rules)
    ∙ ap₂ with_rule (c.in_ok-arg-2.ensures.shape (search rules)
    ∙ ap₂ with_rule (c.in_ok-arg.ensures.shape (ap (λ (a : Arg). a.global) c.required-file.ensures ∙ c.new.ensures.optional.1) ∙ ap₂ with_rule c.new-5.ensures.app file_is) budget_is) trace_is in
    ap (λ (a : App). a.top) run_is
