use Rattle.std.proofs.Common.{◌≡◌, Bool, not, ◌∷◌, [], ap, ap₂, sym, ◌∙◌}
use Rattle.rast_index.specs.declared.formula.Formula.{Formula}
use Rattle.rast_cooper.specs.declared.literal.Sort.{Sort}
use Rattle.rast_cooper.specs.Arithmetic.{Linear}
use Rattle.rast_cooper.specs.Meaning.{literal}
use Rattle.rast_cooper.specs.Claims.{Whole, Node, Atom, node_of, compared}
use Rattle.rast_cooper.specs.Stack.{wholes, gathered}
use Rattle.rast_cooper.proofs.Taken.{of_true, of_false, of_rel, of_div, of_not, of_and, of_or, of_imp}
use Rattle.rast_cooper.proofs.claim.+apart.Goals as goal

at : (b : Bool) (f g : Formula) (n : Node) → f ≡ g → n ≡ node_of (Whole g b) → n ≡ node_of (Whole f b)
at b f g n e h = h ∙ ap (λ k. node_of (Whole k b)) (sym e)

pub returns-in-True-clause-value : goal.returns-in-True-clause-value
returns-in-True-clause-value t c = at c.args.wanted c.args.f.now _ _ c.in-True.is (c.fixed.ensures.value ∙ of_true c.args.wanted)

pub returns-in-False-clause-value : goal.returns-in-False-clause-value
returns-in-False-clause-value t c = at c.args.wanted c.args.f.now _ _ c.in-False.is (c.fixed-in-False.ensures.value ∙ of_false c.args.wanted)

pub returns-in-Rel-clause-value : goal.returns-in-Rel-clause-value
returns-in-Rel-clause-value t c = at c.args.wanted c.args.f.now _ _ c.in-Rel.is
    (c.compare.ensures.value ∙ ap (λ r. compared c.in-Rel.a r c.in-Rel.b) c.directed.ensures ∙ of_rel c.in-Rel.a c.in-Rel.rel c.in-Rel.b c.args.wanted)

pub returns-in-Div-clause-value : goal.returns-in-Div-clause-value
returns-in-Div-clause-value t c = at c.args.wanted c.args.f.now _ _ c.in-Div.is
    (ap₂ (λ (s : Sort) (l : Linear). Atom (literal s c.in-Div.d l)) c.dividing.ensures c.widened.ensures.same ∙ of_div c.in-Div.d c.in-Div.lin c.args.wanted)

pub returns-in-Not-clause-value : goal.returns-in-Not-clause-value
returns-in-Not-clause-value t c = at c.args.wanted c.args.f.now _ _ c.in-Not.is
    (c.apart.ensures.value ∙ ap (λ f. node_of (Whole f (not c.args.wanted))) c.get.ensures ∙ of_not c.in-Not.g c.args.wanted)

pub returns-in-And-clause-value : goal.returns-in-And-clause-value
returns-in-And-clause-value t c = at c.args.wanted c.args.f.now _ _ c.in-And.is
    (c.gathered.ensures.value ∙ ap (λ fs. gathered c.args.wanted (wholes c.args.wanted fs)) c.as_slice.ensures ∙ of_and c.in-And.fs c.args.wanted)

pub returns-in-Or-clause-value : goal.returns-in-Or-clause-value
returns-in-Or-clause-value t c = at c.args.wanted c.args.f.now _ _ c.in-Or.is
    (c.gathered-in-Or.ensures.value ∙ ap (λ fs. gathered (not c.args.wanted) (wholes c.args.wanted fs)) c.as_slice-in-Or.ensures ∙ of_or c.in-Or.fs c.args.wanted)

pub returns-in-Imp-clause-value : goal.returns-in-Imp-clause-value
returns-in-Imp-clause-value t c = at c.args.wanted c.args.f.now _ _ c.in-Imp.is
    (c.gathered-in-Imp.ensures.value ∙ ap₂ (λ f g. gathered (not c.args.wanted) (Whole f (not c.args.wanted) ∷ Whole g c.args.wanted ∷ [])) c.get-in-Imp.ensures c.get-in-Imp-2.ensures ∙ of_imp c.in-Imp.g c.in-Imp.h c.args.wanted)
