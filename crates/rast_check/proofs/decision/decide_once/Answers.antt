use Rattle.std.proofs.Common.{length}
use Rattle.rast_check.proofs.Remembering.{remembered_tells}
use Rattle.rast_check.proofs.decision.decide_once.Goals as goal

pub returns-clause-tells : goal.returns-clause-tells
returns-clause-tells c =
    let m = c.decide_all.new.self in
    remembered_tells c.args.vars c.args.premises.now c.args.goal.now c.args.memo.now.obligations.items c.insert.new.self.obligations.items m.obligations.items (length m.verdicts) c.in_ok-number.number c.in-Some.verdict.now
    c.requires.few c.requires.premises c.requires.goal c.in_ok-number.ensures.numbered c.decide_all.ensures.same c.in_ok-decide_all.ensures.decided c.in-Some.ensures
