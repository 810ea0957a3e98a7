use Rattle.std.proofs.Common.{◌∙◌, ap, length}
use Rattle.rast_rules.specs.Plan.{AreChildren}
use Rattle.rast_rules.proofs.Single.{as_many, kid_judged, kid_made, children_some, children_none}
use Rattle.rast_rules.proofs.judged.add_below.Goals as goal

pub add_made-requires-clause-size : goal.add_made-requires-clause-size
add_made-requires-clause-size c =
    let g = c.args.program.now in
    let nd = c.args.found.now in
    let b : AreChildren g c.args.judged.now c.args.node nd c.in-Some.made = children_some g c.args.judged.now c.args.node nd c.in_ok-below.below c.in-Some.made (c.in_ok-below.ensures nd c.requires.there) c.in-Some.is in
    ap length b.made ∙ as_many g b.at nd

pub add_made-requires-clause-right : goal.add_made-requires-clause-right
add_made-requires-clause-right c = λ i m j k d.
    let g = c.args.program.now in
    let nd = c.args.found.now in
    let b : AreChildren g c.args.judged.now c.args.node nd c.in-Some.made = children_some g c.args.judged.now c.args.node nd c.in_ok-below.below c.in-Some.made (c.in_ok-below.ensures nd c.requires.there) c.in-Some.is in
    kid_judged g c.args.node b.at nd c.in-Some.made i m j (c.requires.old.sound c.args.node b.at b.is) c.requires.there b.made k d

pub add_made-requires-clause-all_made : goal.add_made-requires-clause-all_made
add_made-requires-clause-all_made c = λ i s d.
    let g = c.args.program.now in
    let nd = c.args.found.now in
    let b : AreChildren g c.args.judged.now c.args.node nd c.in-Some.made = children_some g c.args.judged.now c.args.node nd c.in_ok-below.below c.in-Some.made (c.in_ok-below.ensures nd c.requires.there) c.in-Some.is in
    kid_made g c.requires.accepted c.args.node b.at nd c.in-Some.made i s (c.requires.old.sound c.args.node b.at b.is) c.requires.there b.made d

pub returns-in-Some-clause-here : goal.returns-in-Some-clause-here
returns-in-Some-clause-here c = λ has l m z k. c.add_made.ensures.here l m k

pub returns-in-None-clause-here : goal.returns-in-None-clause-here
returns-in-None-clause-here c = λ has l m z k.
    let nd = c.args.found.now in
    absurd (children_none c.args.program.now c.args.judged.now c.args.node nd c.in_ok-below.below (c.in_ok-below.ensures nd c.requires.there) c.in-None.is has)
