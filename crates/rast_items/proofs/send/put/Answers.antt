use Rattle.std.proofs.Common.{◌≡◌, ◌∙◌, sym}
use Rattle.rast_items.proofs.SlackLemmas.{link_open}
use Rattle.rast_items.proofs.send.put.Goals as goal

pub after-after-requires : goal.after-after-requires
after-after-requires c = link_open 1 c.args.proc.now c.args.channel c.in-Some.link c.requires (sym c.in-Some.ensures)
