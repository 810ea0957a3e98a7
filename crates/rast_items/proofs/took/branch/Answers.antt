use Rattle.std.proofs.Common.{◌≡◌, sym, ◌∙◌}
use Rattle.rast_items.proofs.EntryLemmas.{find_here, find_on}
use Rattle.rast_items.proofs.took.branch.Goals as goal

pub returns-then-name-label : goal.returns-then-name-label
returns-then-name-label c = sym (find_here c.args.label c.args.branches.now c.loop-name.name-index (0, 0) c.loop-name-test.true c.if-name-label.true) ∙ c.loop-name.invariant

pub loop-name-preserved : goal.loop-name-preserved
loop-name-preserved c = sym (find_on c.args.label c.args.branches.now c.loop-name.name-index (0, 0) c.loop-name-test.true c.if-name-label.false) ∙ c.loop-name.invariant
