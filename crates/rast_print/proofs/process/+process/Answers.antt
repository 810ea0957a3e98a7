use Rattle.std.proofs.Common.{◌∙◌}
use Rattle.rast_print.proofs.Layers.{case_put}
use Rattle.rast_print.proofs.process.+process.Goals as goal

pub put_end-returns-in_ok-put_close-in-Case : goal.put_end-returns-in_ok-put_close-in-Case
put_end-returns-in_ok-put_close-in-Case t c = case_put c.args.end.now c.in-Case.channel c.in-Case.first c.in-Case.rest c.as_slice-in-Case-3.result.now c.args.indent.now c.as_slice-in-Case.result.now c.as_slice-in-Case-2.result.now c.args.out.now.items c.put_case.new.out.items c.put_first.new.out.items c.put_branches.new.out.items c.put_close.new.out.items
    c.in-Case.is (c.as_slice-in-Case.ensures.value ∙ c.in_ok-deeper-in-Case.ensures) (c.as_slice-in-Case-2.ensures.value ∙ c.in_ok-deeper-in-Case.ensures) c.as_slice-in-Case-3.ensures
    c.in_ok-put_case-in-Case.ensures c.in_ok-put_first-in-Case.ensures c.in_ok-put_branches-in-Case.ensures c.in_ok-put_close-in-Case.ensures
