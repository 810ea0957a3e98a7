use Rattle.std.proofs.Common.{rules, ◌≡◌}
use Rattle.rast_lines.specs.Numbers.{found}
use Rattle.rast_lines.proofs.Counting.{used_found}
use Rattle.rast_lines.proofs.shown.NameList.used.Goals as goal

pub returns : goal.returns
returns c =
    let e : c.copied.result ≡ found c.self.inside.next c.args.name.now = search rules in
    used_found c.self.inside.next c.self.inside.names c.self.invariant _ _ c.args.self.now e (search rules)
