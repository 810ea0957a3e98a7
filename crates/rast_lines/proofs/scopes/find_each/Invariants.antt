use Rattle.std.proofs.Common.{◌≡◌, map, drop}
use Rattle.rast_equal.specs.Invalid.{natural_claims}
use Rattle.rast_lines.specs.Scopes.{refuted_scope}
use Rattle.rast_lines.proofs.scopes.find_each.Given as goal

abbrev pub invariant-loop-l : goal.invariant-loop-l
invariant-loop-l l =
    refuted_scope l.sought.rule l.sought.vars (natural_claims l.place.vars l.place.premises (drop l.l-index l.terms)) (map (λ x. l.place.names) (drop l.l-index l.terms))
    ≡ refuted_scope l.sought.rule l.sought.vars (natural_claims l.place.vars l.place.premises l.terms) (map (λ x. l.place.names) l.terms)
