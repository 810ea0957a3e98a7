use Rattle.std.proofs.Common.{◌∙◌, sym, ap, subst}
use Rattle.std.specs.List.{IsDistinct}
use Rattle.std.specs.Str.{bytes_eq}
use Rattle.rast_lines.specs.NewNames.{is_taken}
use Rattle.rast_lines.proofs.Counting.{used_after}
use Rattle.rast_lines.proofs.Fresh.{push_apart}
use Rattle.rast_lines.proofs.shown.NameList.push_numbered.Goals as goal

pub set_next-requires-clause-used : goal.set_next-requires-clause-used
set_next-requires-clause-used c = used_after c.args.self.now c.push.new.self c.in_ok-printed.printed c.args.name.now c.in_ok-number.number c.in_ok-push.ensures c.in_ok-printed.ensures c.in_ok-number.ensures.used

pub returns-clause-apart : goal.returns-clause-apart
returns-clause-apart c = λ d.
    subst (IsDistinct bytes_eq) (sym (c.set_next.ensures ∙ c.in_ok-push.ensures))
    (push_apart c.args.self.now c.in_ok-printed.printed (ap (is_taken c.args.self.now) c.in_ok-printed.ensures ∙ c.in_ok-number.ensures.free) d)
