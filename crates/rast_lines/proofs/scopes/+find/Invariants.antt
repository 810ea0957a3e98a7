use Rattle.std.proofs.Common.{◌≡◌, map, drop}
use Rattle.rast_types.specs.Closed.{Table}
use Rattle.rast_equal.specs.Invalid.{choice_claims}
use Rattle.rast_lines.specs.Scopes.{refuted_scope, scoped, scopes_of_each}
use Rattle.rast_lines.proofs.scopes.+find.Given as goal

abbrev pub invariant-find_choices-loop-a : goal.invariant-find_choices-loop-a
invariant-find_choices-loop-a l = (t : Table) →
    refuted_scope l.sought.rule l.sought.vars (choice_claims t l.place.vars l.place.premises (drop l.a-index l.ts)) (scopes_of_each (map (λ e. scoped e.1) (drop l.a-index l.ts)) l.place.vars l.left l.place.names)
    ≡ refuted_scope l.sought.rule l.sought.vars (choice_claims t l.place.vars l.place.premises l.ts) (scopes_of_each (map (λ e. scoped e.1) l.ts) l.place.vars l.fn.left l.place.names)
