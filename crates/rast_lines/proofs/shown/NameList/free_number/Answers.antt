use Rattle.std.proofs.Common.{rules, arith, ◌≡◌, ◌∙◌, ◌+◌, ◌^◌, ◌<◌, false, length, ap, subst}
use Rattle.std.proofs.lemmas.Grind.{common_steps}
use Rattle.rast_lines.specs.NewNames.{is_taken, numbered_name}
use Rattle.rast_lines.proofs.Counting.{free_here, free_last}
use Rattle.rast_lines.proofs.Fresh.{free_is_free}
use Rattle.rast_lines.proofs.shown.NameList.free_number.Goals as goal

pub returns-then-not-has-clause-value : goal.returns-then-not-has-clause-value
returns-then-not-has-clause-value c =
    let free : is_taken c.args.self.now (numbered_name c.args.name.now c.loop-number.number) ≡ false = search rules in
    free_here c.args.self.now c.args.name.now c.loop-number.number c.loop-number.invariant free

pub returns-clause-value : goal.returns-clause-value
returns-clause-value c =
    let over : length c.as_slice-taken.result.now < c.loop-number.number = grind (arith, common_steps) in
    free_last c.args.self.now c.args.name.now c.loop-number.number c.loop-number.invariant (subst (λ ns. length ns < c.loop-number.number) c.as_slice-taken.ensures over)

pub returns-clause-free : goal.returns-clause-free
returns-clause-free c =
    let over : length c.as_slice-taken.result.now < c.loop-number.number = grind (arith, common_steps) in
    let within : length c.as_slice-taken.result.now + 1 < 2 ^ 64 = grind (arith, common_steps) in
    ap (is_taken c.args.self.now) (free_last c.args.self.now c.args.name.now c.loop-number.number c.loop-number.invariant (subst (λ ns. length ns < c.loop-number.number) c.as_slice-taken.ensures over))
    ∙ free_is_free c.args.self.now c.args.name.now (subst (λ ns. length ns + 1 < 2 ^ 64) c.as_slice-taken.ensures within)
