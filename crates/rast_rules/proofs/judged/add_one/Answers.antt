use Rattle.std.proofs.Common.{arith}
use Rattle.rast_rules.proofs.Single.{within_nodes, put_sound, put_keeps, put_has}
use Rattle.rast_rules.proofs.judged.add_one.Goals as goal

pub set-requires : goal.set-requires
set-requires c =
    let g = c.args.program.now in
    let j = c.in-Ok.judgement in
    let inside = within_nodes g c.requires.accepted c.args.node j (c.requires.right j c.in-Ok.is) in
    omega (arith, inside, c.requires.old.size)

pub returns-clause-sound : goal.returns-clause-sound
returns-clause-sound c =
    let g = c.args.program.now in
    let j = c.in-Ok.judgement in
    let judged = c.requires.right j c.in-Ok.is in
    put_sound g c.args.judged.now c.set.new.self c.args.node j c.requires.old judged (within_nodes g c.requires.accepted c.args.node j judged) c.set.ensures

pub returns-clause-keeps : goal.returns-clause-keeps
returns-clause-keeps c =
    let g = c.args.program.now in
    let j = c.in-Ok.judgement in
    let judged = c.requires.right j c.in-Ok.is in
    put_keeps g c.args.judged.now c.set.new.self c.args.node j c.requires.old judged (within_nodes g c.requires.accepted c.args.node j judged) c.set.ensures

pub returns-clause-here : goal.returns-clause-here
returns-clause-here c =
    let g = c.args.program.now in
    let j = c.in-Ok.judgement in
    let judged = c.requires.right j c.in-Ok.is in
    put_has g c.args.judged.now c.set.new.self c.args.node j c.requires.old judged (within_nodes g c.requires.accepted c.args.node j judged) c.set.ensures
