use Rattle.rast_equal.proofs.Served.{brings}
use Rattle.rast_equal.proofs.walk.next.Goals as goal

pub returns-in_ok-append-in-Some : goal.returns-in_ok-append-in-Some
returns-in_ok-append-in-Some c =
    brings c.args.pairs.now c.pop.new.self c.append.new.self c.in-Some.pair c.in_ok-shown-in-Some.shown c.in-Some.ensures c.in_ok-append-in-Some.ensures c.in_ok-shown-in-Some.ensures c.requires
