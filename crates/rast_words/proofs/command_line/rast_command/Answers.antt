use Rattle.std.proofs.Common.{◌≡◌, ◌∙◌, ap, ap₂, codes, true}
use Rattle.clap.specs.Words.{Shape, shape_of}
use Rattle.clap.specs.Simple.{app_of_fields, on_top, with_subcommand}
use Rattle.rast_words.specs.CommandLine.{of_one, run_app}
use Rattle.rast_words.proofs.SubcommandLemmas.{third_fails}
use Rattle.rast_words.proofs.command_line.rast_command.Goals as goal

pub returns : goal.returns
returns c =
    let no_help = ap app_of_fields c.disable_help_subcommand.ensures ∙ ap (on_top (λ s. record s { disable_help_subcommand = true })) c.new.ensures.app in
    let wants = ap app_of_fields c.subcommand_required.ensures ∙ ap (on_top (λ s. record s { subcommand_required = true })) no_help in
    let run_is : shape_of c.in_ok-run.run' ≡ run_app.top = c.in_ok-run.ensures in
    let check_is : shape_of c.in_ok-check.check ≡ (of_one (codes "check") (codes "file")).top = c.in_ok-check.ensures in
    let show_is : shape_of c.in_ok-show.show ≡ (of_one (codes "show") (codes "file")).top = c.in_ok-show.ensures in
    let decide_is : shape_of c.in_ok-decide.decide ≡ (of_one (codes "decide") (codes "formula")).top = c.in_ok-decide.ensures in
    let run_plain : (shape_of c.in_ok-run.run').is_plain ≡ true = ap (λ (s : Shape). s.is_plain) run_is in
    let check_plain : (shape_of c.in_ok-check.check).is_plain ≡ true = ap (λ (s : Shape). s.is_plain) check_is in
    let show_plain : (shape_of c.in_ok-show.show).is_plain ≡ true = ap (λ (s : Shape). s.is_plain) show_is in
    let decide_plain : (shape_of c.in_ok-decide.decide).is_plain ≡ true = ap (λ (s : Shape). s.is_plain) decide_is in
    c.in_ok-command.ensures.shape (third_fails _ _ _ _ decide_plain)
    ∙ ap₂ with_subcommand (c.in_ok-subcommand-3.ensures.shape (third_fails _ _ _ _ show_plain)
    ∙ ap₂ with_subcommand (c.in_ok-subcommand-2.ensures.shape (third_fails _ _ _ _ check_plain)
    ∙ ap₂ with_subcommand (c.in_ok-subcommand.ensures.shape (third_fails _ _ _ _ run_plain) ∙ ap₂ with_subcommand wants run_is) check_is) show_is) decide_is
