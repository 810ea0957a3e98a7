use Rattle.rast_check.proofs.Visiting.{found, found_brings, found_goes, found_refused, sized}
use Rattle.rast_check.proofs.walk.visit_node.Goals as goal

pub returns-in_err-check_premises : goal.returns-in_err-check_premises
returns-in_err-check_premises c =
    let g = c.args.program.now in
    let n = c.args.node in
    let d = c.args.depth in
    let j = c.args.at.now in
    let ps = c.as_slice.result.now in
    let f = found g n d j c.in_ok-found.found ps c.requires.placed c.in_ok-found.ensures c.as_slice.ensures in
    found_refused g n d j ps c.args.stack.now c.args.stack.now c.in_err-check_premises.field-0.0 c.from_residual-in_err-check_premises.result c.requires.placed f c.from_residual-in_err-check_premises.ensures.1 c.in_err-check_premises.ensures

pub children-requires-clause-sound : goal.children-requires-clause-sound
children-requires-clause-sound c =
    let g = c.args.program.now in
    let n = c.args.node in
    let d = c.args.depth in
    let j = c.args.at.now in
    let ps = c.as_slice.result.now in
    let f = found g n d j c.in_ok-found.found ps c.requires.placed c.in_ok-found.ensures c.as_slice.ensures in
    found_goes g n d j ps f c.in_ok-check_premises.ensures

pub push_below-requires-clause-same : goal.push_below-requires-clause-same
push_below-requires-clause-same c = sized c.args.program.now c.args.node c.args.at.now c.in_ok-below.below c.in_ok-below.ensures

pub returns : goal.returns
returns c =
    let g = c.args.program.now in
    let n = c.args.node in
    let d = c.args.depth in
    let j = c.args.at.now in
    let ps = c.as_slice.result.now in
    let f = found g n d j c.in_ok-found.found ps c.requires.placed c.in_ok-found.ensures c.as_slice.ensures in
    found_brings g n d j ps c.in_ok-below.below c.args.stack.now c.push_below.new.stack c.requires.forward c.requires.placed c.requires.others
    f c.in_ok-check_premises.ensures c.in_ok-below.ensures c.in_ok-push_below.ensures
