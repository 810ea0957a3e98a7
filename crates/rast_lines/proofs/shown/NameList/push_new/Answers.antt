use Rattle.std.proofs.Common.{rules, ◌≡◌, false}
use Rattle.rast_lines.specs.NewNames.{is_taken}
use Rattle.rast_lines.proofs.Counting.{with_free}
use Rattle.rast_lines.proofs.Fresh.{apart_answer}
use Rattle.rast_lines.proofs.shown.NameList.push_new.Goals as goal

pub returns-in-None-clause-value : goal.returns-in-None-clause-value
returns-in-None-clause-value c =
    let free : is_taken c.args.self.now c.args.name ≡ false = search rules in
    with_free c.push.result c.args.self.now c.push.new.self c.args.name free c.push.ensures

pub returns-in-None-clause-apart : goal.returns-in-None-clause-apart
returns-in-None-clause-apart c =
    let free : is_taken c.args.self.now c.args.name ≡ false = search rules in
    apart_answer c.push.result c.args.self.now c.push.new.self c.args.name free c.push.ensures
