use Rattle.std.proofs.Common.{◌≡◌, ap, sym, ◌∙◌, List, ℕ}
use Rattle.rast_index.specs.Keys.{find_key}
use Rattle.rast_items.specs.declared.link.Link.{Link}
use Rattle.rast_items.specs.Process.{no_link}
use Rattle.rast_items.proofs.EntryLemmas.{place_found}
use Rattle.rast_items.proofs.ChannelLemmas.{link_of_used}
use Rattle.rast_items.proofs.channels.link_of.Goals as goal

pub returns-in-Some : goal.returns-in-Some
returns-in-Some c =
    sym (place_found c.args.channel c.uses-uses.result.now c.in-Some.place no_link c.in-Some.ensures)
    ∙ (ap (λ (us : List (ℕ × Link)). find_key c.args.channel us) c.uses-uses.ensures ∙ sym (link_of_used c.args.proc.now c.args.channel c.if-channel-eq0.false))
