use Rattle.std.proofs.Common.{◌≡◌, drop}
use Rattle.rast_terms.specs.declared.program.Decl.{Decl}
use Rattle.rast_made.specs.Made.{AreFew, all_placed, scope_of}
use Rattle.rast_made.proofs.places.place_bodies.Given as goal

abbrev pub invariant-loop-decl : goal.invariant-loop-decl
invariant-loop-decl l = record {
  few : AreFew 0 l.places;
  puts : all_placed (λ (d : Decl). d.body) scope_of l.places (drop l.decl-index l.decls) ≡ all_placed (λ (d : Decl). d.body) scope_of l.initial.places l.decls;
}
