use Rattle.std.proofs.Common.{sym, subst}
use Rattle.std.specs.Option.{IsSome}
use Rattle.rast_lines.specs.Numbers.{found}
use Rattle.rast_lines.proofs.Counting.{puts_named}
use Rattle.rast_lines.proofs.shown.replace.Goals as goal

pub returns-in-Some : goal.returns-in-Some
returns-in-Some c =
    let there : IsSome (found c.args.next.now c.as_bytes.result.now) = subst (λ z. IsSome (found c.args.next.now z)) (sym c.as_bytes.ensures) c.requires in
    puts_named c.args.next.now (c.get_mut.follows.lender c.args.number) c.as_bytes.result.now _ _ c.as_bytes.ensures ((c.get_mut.follows.holds c.args.number).3 there)
