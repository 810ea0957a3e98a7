use Rattle.std.proofs.Common.{rules, ◌≡◌, true, false, sym, ◌∙◌, is_some, [], ◌∷◌, ◌++◌}
use Rattle.rast_resolve.specs.Maps.{found}
use Rattle.rast_resolve.proofs.Places.{first_known, first_added}
use Rattle.rast_resolve.proofs.index.Index.push.Goals as goal

pub invariant_of-self-then-contains_key : goal.invariant_of-self-then-contains_key
invariant_of-self-then-contains_key c =
    let there : is_some (found c.self.inside.places c.as_bytes-2.result.now) ≡ true = sym c.contains_key.ensures ∙ c.if-contains_key.true in
    let more : c.push.new.self ≡ c.self.inside.names ++ c.args.name.now ∷ [] = search rules in
    first_known c.self.inside.places c.args.name.now c.as_bytes-2.result.now c.self.inside.names c.push.new.self there c.as_bytes-2.ensures.bytes c.self.invariant more

pub invariant_of-self-in-Ok : goal.invariant_of-self-in-Ok
invariant_of-self-in-Ok c =
    let gone : is_some (found c.self.inside.places c.as_bytes-2.result.now) ≡ false = sym c.contains_key.ensures ∙ c.if-contains_key.false in
    let more : c.push.new.self ≡ c.self.inside.names ++ c.args.name.now ∷ [] = search rules in
    first_added c.self.inside.places c.put.new.places c.args.name.now c.self.inside.names c.push.new.self c.as_bytes-2.result.now c.len-place.result gone c.as_bytes-2.ensures.bytes c.len-place.ensures c.self.invariant c.in-Ok.ensures.ok more
