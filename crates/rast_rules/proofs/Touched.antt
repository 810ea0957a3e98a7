-- What is dealt out at a node that touches a channel.
use Rattle.std.proofs.Common.{◌≡◌, ℕ, List, [], ◌∷◌, ◌++◌, map, Option, Some, None, Result, Ok, sym, ◌∙◌, ap, ap₂, refl, MatchOption, Bor, Bool}
use Rattle.std.specs.Prelude.{is_some}
use Rattle.rast_index.specs.Linear.{nought}
use Rattle.rast_index.specs.Truth.{is_equal}
use Rattle.rast_types.specs.Closed.{kind_of}
use Rattle.rast_types.specs.Symbolic.{Timed}
use Rattle.rast_types.specs.declared.equation.Ref.{Ref}
use Rattle.rast_types.specs.declared.stop.Stop.{Stop}
use Rattle.rast_types.specs.declared.ty.Kind.{Kind}
use Rattle.rast_types.specs.declared.ty.Ty.{Ty}
use Rattle.rast_types.specs.declared.ty.Ty.TheVariants as ty
use Rattle.rast_terms.specs.Nodes.{refs_of}
use Rattle.rast_terms.specs.declared.node.Node.{Node}
use Rattle.rast_terms.specs.declared.node.Node.TheVariants as node
use Rattle.rast_rules.specs.declared.premise.Premise.TheVariants.{Truth}
use Rattle.rast_rules.specs.Rules.{Judgement, deal, further, at_head, head_is, choices_of, label_asked, has_branch, or_one}
use Rattle.rast_rules.specs.Trail.{plain}
use Rattle.rast_rules.proofs.Deals.{deal_plain, deal_quiet, quiet_map, quiet_append, quiet_head}

-- the type of a channel, or the end
pub or_one_of : (o : Option (Bor Ty)) (u : Option Ty) → MatchOption o (u ≡ None) (λ a. u ≡ Some a.now) → MatchOption o (or_one u ≡ ty.One) (λ a. or_one u ≡ a.now)
or_one_of None u h = ap or_one h
or_one_of (Some a) u h = ap or_one h

pub some_of : (o : Option (Bor Ty)) (u : Option Ty) (r : Bool) → MatchOption o (u ≡ None) (λ a. u ≡ Some a.now) → r ≡ is_some o → r ≡ is_some u
some_of None u r h e = e ∙ ap is_some (sym h)
some_of (Some a) u r h e = e ∙ ap is_some (sym h)

pub case_deal : (j : Judgement) (n : Node) (h : Ty) (k x : ℕ) (bs xs : List (ℕ × ℕ)) (ts : List (ℕ × Ty)) → n ≡ node.Case x bs → xs ≡ bs → ts ≡ choices_of h →
    plain (map (λ b. label_asked ts b.0) xs ++ map (λ t. has_branch xs t.0) ts) ≡ deal k (refs_of n) (further j n h)
case_deal j n h k x bs xs ts is same parts =
    ap₂ (λ (ys : List (ℕ × ℕ)) (us : List (ℕ × Ty)). plain (map (λ b. label_asked us b.0) ys ++ map (λ t. has_branch ys t.0) us)) same parts
    ∙ sym (ap (λ m. deal k (refs_of m) (further j m h)) is
    ∙ deal_plain k [] (map (λ b. label_asked (choices_of h) b.0) bs ++ map (λ t. has_branch bs t.0) (choices_of h))
    (quiet_append (map (λ b. label_asked (choices_of h) b.0) bs) (map (λ t. has_branch bs t.0) (choices_of h)) (quiet_map (λ b. label_asked (choices_of h) b.0) bs (λ b. refl)) (quiet_map (λ t. has_branch bs t.0) (choices_of h) (λ t. refl))))

pub head_deal : (j : Judgement) (n : Node) (k : ℕ) (rs : List Ref) (want : Kind) (m : Result Timed Stop) (e : Timed) → m ≡ Ok e →
    plain (head_is want (kind_of e.body)) ++ ((3, Truth (is_equal e.ticks nought)) ∷ [] ++ deal k rs (further j n e.body)) ≡ deal k rs (at_head j n want m)
head_deal j n k rs want m e is = sym (ap (λ r. deal k rs (at_head j n want r)) is ∙ deal_quiet k rs (head_is want (kind_of e.body)) _ (quiet_head want (kind_of e.body)))
