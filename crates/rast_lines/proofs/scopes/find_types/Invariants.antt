use Rattle.std.proofs.Common.{◌≡◌, ◌++◌, ◌∷◌, [], map, drop}
use Rattle.std.specs.Prelude.{flat_map}
use Rattle.rast_types.specs.Closed.{Table}
use Rattle.rast_equal.specs.Valid.{claims_of}
use Rattle.rast_lines.specs.Scopes.{refuted_scope, scoped, scopes_of_each}
use Rattle.rast_lines.proofs.scopes.find_types.Given as goal

abbrev pub invariant-loop-ty : goal.invariant-loop-ty
invariant-loop-ty l = (t : Table) →
    refuted_scope l.sought.rule l.sought.vars (flat_map (claims_of t l.place.vars l.place.premises) (drop l.ty-index l.before ++ l.last ∷ [])) (scopes_of_each (map scoped (drop l.ty-index l.before ++ l.last ∷ [])) l.place.vars l.left l.place.names)
    ≡ refuted_scope l.sought.rule l.sought.vars (flat_map (claims_of t l.place.vars l.place.premises) (l.before ++ l.last ∷ [])) (scopes_of_each (map scoped (l.before ++ l.last ∷ [])) l.place.vars l.fn.left l.place.names)
