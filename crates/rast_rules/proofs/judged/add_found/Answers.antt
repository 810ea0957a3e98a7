use Rattle.std.proofs.Common.{arith}
use Rattle.rast_rules.proofs.Single.{start_judged, within_nodes, put_sound, put_keeps, put_has}
use Rattle.rast_rules.proofs.judged.add_found.Goals as goal

pub set-requires : goal.set-requires
set-requires c =
    let g = c.args.program.now in
    let d = c.args.found.now in
    let inside = within_nodes g c.requires.accepted d.body c.in-Ok.judgement (start_judged g c.args.decl d c.start.result c.in-Ok.judgement c.requires.there (c.start.ensures d c.requires.there) c.in-Ok.is) in
    omega (arith, inside, c.requires.old.size)

pub returns-in-Ok-clause-sound : goal.returns-in-Ok-clause-sound
returns-in-Ok-clause-sound c =
    let g = c.args.program.now in
    let d = c.args.found.now in
    let j = c.in-Ok.judgement in
    let judged = start_judged g c.args.decl d c.start.result j c.requires.there (c.start.ensures d c.requires.there) c.in-Ok.is in
    put_sound g c.args.judged.now c.set.new.self d.body j c.requires.old judged (within_nodes g c.requires.accepted d.body j judged) c.set.ensures

pub returns-in-Ok-clause-keeps : goal.returns-in-Ok-clause-keeps
returns-in-Ok-clause-keeps c =
    let g = c.args.program.now in
    let d = c.args.found.now in
    let j = c.in-Ok.judgement in
    let judged = start_judged g c.args.decl d c.start.result j c.requires.there (c.start.ensures d c.requires.there) c.in-Ok.is in
    put_keeps g c.args.judged.now c.set.new.self d.body j c.requires.old judged (within_nodes g c.requires.accepted d.body j judged) c.set.ensures

pub returns-in-Ok-clause-here : goal.returns-in-Ok-clause-here
returns-in-Ok-clause-here c =
    let g = c.args.program.now in
    let d = c.args.found.now in
    let j = c.in-Ok.judgement in
    let judged = start_judged g c.args.decl d c.start.result j c.requires.there (c.start.ensures d c.requires.there) c.in-Ok.is in
    put_has g c.args.judged.now c.set.new.self d.body j c.requires.old judged (within_nodes g c.requires.accepted d.body j judged) c.set.ensures
