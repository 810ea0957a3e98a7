-- What is dealt out at a forward and at a delay.
use Rattle.std.proofs.Common.{◌≡◌, ℕ, Bool, true, false, not, List, [], ◌∷◌, ◌++◌, map, sym, ◌∙◌, ap, refl}
use Rattle.std.proofs.lemmas.List.{map-append}
use Rattle.std.specs.Prelude.{is_some, filter}
use Rattle.rast_index.specs.Linear.{Linear, nought}
use Rattle.rast_index.specs.Truth.{is_equal, is_at_least}
use Rattle.rast_types.specs.declared.equation.Ref.{Ref}
use Rattle.rast_types.specs.declared.ty.Ty.{Ty}
use Rattle.rast_types.specs.Symbolic.{before_delay, is_passed_over}
use Rattle.rast_terms.specs.Nodes.{refs_of}
use Rattle.rast_terms.specs.declared.node.Node.{Node}
use Rattle.rast_terms.specs.declared.node.Node.TheVariants as node
use Rattle.rast_equal.specs.Valid.{nonneg}
use Rattle.rast_rules.specs.declared.premise.Premise.{Premise}
use Rattle.rast_rules.specs.declared.premise.Premise.TheVariants.{Truth, Shape, Same}
use Rattle.rast_rules.specs.declared.premise.Evidence.TheVariants.{Linear as WLinear}
use Rattle.rast_rules.specs.Rules.{Program, Judgement, defs, deal, forward_asked, other_asked, delay_asked, all_types, none_left, without, is_provided, used_type, or_one}
use Rattle.rast_rules.specs.Trail.{plain, delay_premise}
use Rattle.rast_rules.proofs.Deals.{deal_quiet, deal_truth, deal_last, quiet_left}

pub forward_deal : (j : Judgement) (x y n : ℕ) (rs : List Ref) →
    (1, Shape (is_provided j x) (WLinear x)) ∷ [] ++ ((1, Shape (is_some (used_type j y)) (WLinear y)) ∷ [] ++ (plain (none_left 2 (without j (y ∷ [])).uses) ++ ((3, Truth (is_equal j.potential nought)) ∷ [] ++ (4, Same (or_one (used_type j y)) j.gives.1 rs) ∷ []))) ≡ deal n rs (forward_asked j x y)
forward_deal j x y n rs =
    sym (ap (λ ps. (1, Shape (is_provided j x) (WLinear x)) ∷ (1, Shape (is_some (used_type j y)) (WLinear y)) ∷ ps)
    (deal_quiet n rs (none_left 2 (without j (y ∷ [])).uses) _ (quiet_left 2 (without j (y ∷ [])).uses)
    ∙ ap (λ ps. plain (none_left 2 (without j (y ∷ [])).uses) ++ ((3, Truth (is_equal j.potential nought)) ∷ ps)) (deal_last n rs 4 (or_one (used_type j y)) j.gives.1)))

-- a delay's premise of one type
abbrev late : Program → Judgement → Linear → (Bool × Ty) → ℕ × Premise
late g j t a = delay_premise (defs g) j.ctx.vars t (0, a.1)

delay_types : (g : Program) (j : Judgement) (t : Linear) (n : ℕ) (rs : List Ref) (as' : List (Bool × Ty)) →
    deal n rs (map (λ a. delay_asked g j t a.1) (filter (λ a. not (is_passed_over (defs g) j.ctx.vars a)) as')) ≡ map (late g j t) as'
delay_types g j t n rs [] = refl
delay_types g j t n rs (a ∷ as') =
    deal_truth n rs 2 (is_at_least (before_delay (defs g) j.ctx.vars a.1).ticks t) (map (λ b. delay_asked g j t b.1) (filter (λ b. not (is_passed_over (defs g) j.ctx.vars b)) as'))
    ∙ ap (λ ps. late g j t a ∷ ps) (delay_types g j t n rs as')

late_uses : (g : Program) (j : Judgement) (t : Linear) (us : List (ℕ × Ty)) → map (late g j t) (map (λ (u : ℕ × Ty). (false, u.1)) us) ≡ map (delay_premise (defs g) j.ctx.vars t) us
late_uses g j t [] = refl
late_uses g j t (u ∷ us) = ap (λ ps. delay_premise (defs g) j.ctx.vars t u ∷ ps) (late_uses g j t us)

pub delay_deal : (g : Program) (j : Judgement) (t : Linear) (next k : ℕ) (m : Node) → m ≡ node.Delay t next →
    (1, Truth (nonneg t)) ∷ (map (delay_premise (defs g) j.ctx.vars t) j.uses ++ delay_premise (defs g) j.ctx.vars t j.gives ∷ []) ≡ deal k (refs_of m) (other_asked g j m)
delay_deal g j t next k m is =
    sym (ap (λ x. deal k (refs_of x) (other_asked g j x)) is
    ∙ ap (λ ps. (1, Truth (nonneg t)) ∷ ps) (delay_types g j t k [] (all_types j)
    ∙ map-append (late g j t) (map (λ (u : ℕ × Ty). (false, u.1)) j.uses) ((true, j.gives.1) ∷ [])
    ∙ ap (λ ps. ps ++ delay_premise (defs g) j.ctx.vars t j.gives ∷ []) (late_uses g j t j.uses)))
