use Rattle.std.proofs.Common.{◌≡◌, length, ◌-◌, ◌+◌, arith}
use Rattle.std.proofs.lemmas.Slice.{put_mid-rotated}
use Rattle.rast_items.specs.Process.{no_link}
use Rattle.rast_items.proofs.EntryLemmas.{gap_filled}
use Rattle.rast_items.proofs.entries.close_gap.Goals as goal

pub returns : goal.returns
returns c = gap_filled c.args.entries.now _ c.args.place _ no_link c.requires (put_mid-rotated c.args.place (length c.args.entries.now - c.args.place) c.args.entries.now c.rotate_left.new.self no_link c.requires (omega arith) c.rotate_left.ensures.after)
