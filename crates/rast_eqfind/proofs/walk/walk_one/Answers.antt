use Rattle.rast_eqfind.proofs.Making.{one_walks}
use Rattle.rast_eqfind.proofs.walk.walk_one.Goals as goal

pub returns : goal.returns
returns c =
    one_walks c.args.table.now.defs c.args.known.now c.args.at c.args.search.now c.begin.new.self c.meet_shown.new.search c.close.new.self c.in_ok-shown.shown
    c.in_ok-begin.ensures c.in_ok-shown.ensures c.in_ok-meet_shown.ensures c.in_ok-close.ensures
