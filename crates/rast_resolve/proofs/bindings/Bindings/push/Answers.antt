use Rattle.std.proofs.Common.{rules, ◌≡◌, sym, ◌∙◌, ap, ap₂, [], ◌∷◌, ◌++◌}
use Rattle.rast_resolve.specs.Lists.{newest_of}
use Rattle.rast_resolve.specs.Maps.{hides}
use Rattle.rast_resolve.proofs.Places.{newest_added, hides_more}
use Rattle.rast_resolve.proofs.bindings.Bindings.push.Goals as goal

pub invariant_of-self-in-Ok-put : goal.invariant_of-self-in-Ok-put
invariant_of-self-in-Ok-put c =
    let names : c.push-2.new.self ≡ c.self.inside.names ++ c.args.name.now ∷ [] = search rules in
    let hid : c.push.new.self ≡ c.self.inside.hidden ++ c.copied-hidden.result ∷ [] = search rules in
    let was : c.copied-hidden.result ≡ newest_of c.args.name.now c.self.inside.names = search rules in (
      newest_added c.self.inside.places c.put.new.places c.args.name.now c.self.inside.names c.push-2.new.self c.len-place.result c.len-place.ensures c.self.invariant.0 c.in-Ok-put.ensures.ok names,
      hid ∙ ap₂ (λ x y. x ++ y ∷ []) c.self.invariant.1 was ∙ sym (hides_more c.self.inside.names c.args.name.now) ∙ ap hides (sym names),
    )
