use Rattle.std.proofs.Common.{◌∙◌, ap, sym}
use Rattle.rast_terms.specs.declared.program.Decl.{Decl}
use Rattle.rast_made.specs.Made.{placed, scope_of}
use Rattle.rast_made.specs.declared.scope.Scope.{Scope}
use Rattle.rast_made.proofs.Passing.{few_put, place_more, puts_true}
use Rattle.rast_made.proofs.places.place_bodies.Goals as goal

pub loop-decl-preserved : goal.loop-decl-preserved
loop-decl-preserved c =
    let s = c.loop-decl.places in
    let d = c.decl-item.result in
    let t = c.place.new.places in
    let e = puts_true c.place.result t (placed s c.scope_of.result d.body) c.place.ensures c.if-not-place.false in
    record {
      few = few_put 0 s c.scope_of.result d.body t c.loop-decl.invariant.few c.scope_of.ensures.vars c.scope_of.ensures.channels e;
      puts = place_more (λ (d : Decl). d.body) scope_of c.args.decls.now c.loop-decl.decl-index d c.loop-decl-test.true c.decl-item.is s t _
          (ap (λ (k : Scope). placed s k d.body) (sym c.scope_of.ensures.is) ∙ e) c.loop-decl.invariant.puts;
    }
