use Rattle.std.proofs.Common.{rules, ◌≡◌}
use Rattle.rast_resolve.specs.Scopes.{place_of}
use Rattle.rast_resolve.proofs.Places.{place_within}
use Rattle.rast_resolve.proofs.index.Index.place.Goals as goal

pub returns-clause-within : goal.returns-clause-within
returns-clause-within c =
    let e : c.copied.result ≡ place_of c.args.name.now c.self.inside.names = search rules in
    let g : c.self.inside.names ≡ c.args.self.now = search rules in
    place_within _ _ _ _ e g
