use Rattle.std.proofs.Common.{rules, ◌≡◌, sym, ◌∙◌, ap, [], ◌∷◌, ◌++◌}
use Rattle.rast_resolve.specs.Scopes.{newest_of}
use Rattle.rast_resolve.specs.Maps.{hides}
use Rattle.rast_resolve.proofs.Places.{newest_is_there, newest_freed, hides_freed, hides_some}
use Rattle.rast_resolve.proofs.bindings.Bindings.pop.Goals as goal

pub replace-requires : goal.replace-requires
replace-requires c =
    let all : c.self.inside.names ≡ c.pop.new.self ++ c.in-Some.name ∷ [] = search rules in
    newest_is_there c.self.inside.places c.in-Some.name c.pop.new.self (λ n. c.self.invariant.0 n ∙ ap (newest_of n) all)

pub invariant_of-self : goal.invariant_of-self
invariant_of-self c =
    let all : c.self.inside.names ≡ c.pop.new.self ++ c.in-Some.name ∷ [] = search rules in
    let hid : c.self.inside.hidden ≡ c.pop-in-Some.new.self ++ c.in-Some-pop.hidden ∷ [] = search rules in
    let both : (c.pop-in-Some.new.self ≡ hides c.pop.new.self) × (c.in-Some-pop.hidden ≡ newest_of c.in-Some.name c.pop.new.self) = hides_freed c.pop-in-Some.new.self c.in-Some-pop.hidden c.pop.new.self c.in-Some.name (sym hid ∙ c.self.invariant.1 ∙ ap hides all) in
    (newest_freed c.self.inside.places c.replace.new.places c.in-Some.name c.pop.new.self c.pop.new.self c.in-Some-pop.hidden (λ n. c.self.invariant.0 n ∙ ap (newest_of n) all) both.1 c.replace.ensures, both.0)

pub invariant_of-self-in_default-pop : goal.invariant_of-self-in_default-pop
invariant_of-self-in_default-pop c =
    let all : c.self.inside.names ≡ c.pop.new.self ++ c.in-Some.name ∷ [] = search rules in
    let none : [] ≡ c.self.inside.hidden = search rules in
    absurd (hides_some c.pop.new.self c.in-Some.name (none ∙ c.self.invariant.1 ∙ ap hides all))
