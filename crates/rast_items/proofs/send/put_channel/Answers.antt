use Rattle.std.proofs.Common.{◌≡◌, sym, subst}
use Rattle.rast_items.specs.Process.{Process}
use Rattle.rast_items.specs.Slack.{HasSlack}
use Rattle.rast_items.proofs.SlackLemmas.{slack_less}
use Rattle.rast_items.proofs.send.put_channel.Goals as goal

pub put-requires : goal.put-requires
put-requires c = subst (λ (q : Process). HasSlack 1 q) (sym c.take_channel.ensures.rest) (slack_less 1 c.args.sent c.args.proc.now c.requires)
