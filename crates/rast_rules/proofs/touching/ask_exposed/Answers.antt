use Rattle.std.proofs.Common.{◌≡◌, ◌∷◌, [], ◌++◌, ◌∙◌, ap, ap₂, Option}
use Rattle.rast_index.specs.Linear.{nought}
use Rattle.rast_index.specs.Truth.{is_equal}
use Rattle.rast_types.specs.declared.ty.Kind.{Kind}
use Rattle.rast_terms.specs.Nodes.{refs_of}
use Rattle.rast_types.specs.Symbolic.{exposed_type}
use Rattle.rast_rules.specs.declared.premise.Premise.{Premise}
use Rattle.rast_rules.specs.declared.premise.Premise.TheVariants.{Truth}
use Rattle.rast_rules.specs.Rules.{defs, head_is, further, deal}
use Rattle.rast_rules.specs.Trail.{and_then, plain}
use Rattle.rast_rules.proofs.Trails.{on_ok, two_then}
use Rattle.rast_rules.proofs.Makings.{asked_now}
use Rattle.rast_rules.proofs.Touched.{head_deal}
use Rattle.rast_rules.proofs.touching.ask_exposed.Goals as goal

pub returns : goal.returns
returns c = λ exposed.
    let old = c.args.trail.now in
    let t = defs c.args.program.now in
    let n = c.args.at.now.ctx.vars in
    let a = c.args.ty.now in
    let rest = deal n (refs_of c.args.node.now) (further c.args.at.now c.args.node.now c.args.exposed.now.head) in
    let asked : c.truth.result ≡ Truth (is_equal c.args.exposed.now.ticks nought) = c.truth.ensures (is_equal (exposed_type t n a).ticks nought) (c.now.ensures n) ∙ asked_now t n a _ exposed in
    on_ok c.ask_further.result (λ e.
    two_then old c.ask_kind.new.trail c.ask_further.new.trail (plain (head_is c.args.want c.kind_of.result)) ((3, c.truth.result) ∷ [] ++ rest) c.in_ok-ask_kind.ensures
    (two_then c.ask_kind.new.trail c.ask.new.self c.ask_further.new.trail ((3, c.truth.result) ∷ []) rest c.in_ok-ask.ensures e)
    ∙ ap₂ (λ (k : Option Kind) (p : Premise). and_then old (plain (head_is c.args.want k) ++ ((3, p) ∷ [] ++ rest))) c.kind_of.ensures asked
    ∙ ap (and_then old) (head_deal c.args.at.now c.args.node.now n (refs_of c.args.node.now) c.args.want _ _ exposed))
    c.ask_further.ensures
