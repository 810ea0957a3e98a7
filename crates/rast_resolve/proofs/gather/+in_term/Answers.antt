use Rattle.rast_resolve.proofs.NameLayers.{case_put}
use Rattle.rast_resolve.proofs.gather.+in_term.Goals as goal

pub add_end-returns-in_ok-add_branches-in-Case : goal.add_end-returns-in_ok-add_branches-in-Case
add_end-returns-in_ok-add_branches-in-Case t c = case_put c.args.end.now c.in-Case.channel c.in-Case.first c.in-Case.rest c.as_slice.result.now c.args.out.now c.add_branch.new.out c.add_branches.new.out c.in-Case.is c.as_slice.ensures c.in_ok-add_branch-in-Case.ensures c.in_ok-add_branches-in-Case.ensures
