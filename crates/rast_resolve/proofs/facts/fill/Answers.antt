use Rattle.std.proofs.Common.{rules}
use Rattle.rast_resolve.proofs.Made.{known_made}
use Rattle.rast_resolve.proofs.facts.fill.Goals as goal

pub returns : goal.returns
returns c =
    known_made c.args.items.now _ _ _ _ _ _ _ _ c.in_ok-known-3.ensures c.in_ok-known-4.ensures c.in_ok-known-5.ensures c.in_ok-known.ensures c.in_ok-known-6.ensures c.in_ok-known-7.ensures c.in_ok-known-2.ensures
    (search rules)
