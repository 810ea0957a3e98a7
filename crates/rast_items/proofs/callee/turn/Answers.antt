use Rattle.std.proofs.Common.{subst, sym}
use Rattle.rast_items.specs.Process.{Process}
use Rattle.rast_items.specs.Slack.{HasSlack}
use Rattle.rast_items.proofs.SlackLemmas.{slack_pulled}
use Rattle.rast_items.proofs.callee.turn.Goals as goal

pub replace-requires : goal.replace-requires
replace-requires c = slack_pulled 1 c.args.channels.now _ c.hand_over.new.from _ _ (subst (λ (p : Process). HasSlack 1 p) (sym c.proc.view_is) c.requires) c.if-not-hand_over.ensures
