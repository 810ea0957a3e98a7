-- Types of a judgement at the values of a process: what a premise calls the same is equal.
use Rattle.std.proofs.Common.{◌≡◌, ℕ, ◌+◌, ◌≤◌, true, false, List, length, Option, Some, None, refl, ◌∙◌, subst, ltb-false, Bool}
use Rattle.std.specs.List.{list_all}
use Rattle.rast_index.specs.Linear.{Linear, whole, is_closed}
use Rattle.rast_types.specs.declared.ty.Ty.{Ty}
use Rattle.rast_types.specs.Closed.{closed, Table, Equal, View}
use Rattle.rast_types.specs.Symbolic.{put_type, binders, is_deep, is_small_type, made_type, within}
use Rattle.rast_equal.specs.Walk.{top}
use Rattle.rast_made.specs.WellMade.{IsMadeType}
use Rattle.rast_terms.specs.declared.node.Node.{Node}
use Rattle.rast_terms.specs.declared.program.Program.{Program}
use Rattle.rast_rules.specs.declared.judgement.Judgement.{Judgement}
use Rattle.rast_rules.specs.Rules.{Alike, defs, used_type, at_args, failure}
use Rattle.rast_items.specs.Deeds.{Code}
use Rattle.rast_laws.specs.Sound.{IsReady}
use Rattle.rast_order.proofs.Words.{Link, Proc}
use Rattle.rast_equal.proofs.Equals.{equal_sym, equal_trans}
use Rattle.rast_equal.proofs.Proper.{Proper, proper_equal}
use Rattle.rast_laws.proofs.Judged.{IsTrueAsked}
use Rattle.rast_equal.proofs.Within.{all_within}
use Rattle.rast_equal.proofs.Scoped.{scoped_put}
use Rattle.rast_laws.proofs.Shapes.{scoped_find}
use Rattle.rast_laws.proofs.Standing.{Standing}
use Rattle.rast_equal.proofs.Substitution.{values_of, put_equal}
use Rattle.rast_equal.proofs.Agreeing.{Valued, Fit}
use Rattle.rast_laws.proofs.Named.{judgement_named, named_find}
use Rattle.rast_equal.proofs.Named.{named_put}
use Rattle.rast_equal.proofs.Sames.{same_equal}
use Rattle.rast_laws.proofs.Callee.{program_grounds}

-- the values of a process, at its judgement
valued : (g : Program) (d : Link → Option View) (p : Proc) (j : Judgement) (nd : Node) → Standing g d p j nd → Valued (top j.ctx.vars j.ctx.premises) p.values
valued g d p j nd s = record { sized = s.stands.vars; holds = s.stands.premises; steady = s.bounded.premises }

-- two types that a premise calls the same
pub alike_equal : (c : Code) → IsReady c → (d : Link → Option View) (p : Proc) (j : Judgement) (nd : Node) (a b : Ty) → Standing c.program d p j nd → IsTrueAsked c.program j (Alike a b None) → Fit (defs c.program) j.ctx.vars p.values a → Fit (defs c.program) j.ctx.vars p.values b → Equal (defs c.program) (closed a (whole p.values)) (closed b (whole p.values))
alike_equal c r d p j nd a b s h x y = same_equal (defs c.program) c.program.equations (program_grounds c.program r.made r.accepted) j.ctx.vars j.ctx.premises a b h.0 p.values h.1 (valued c.program d p j nd s) x y

-- a type of a used channel, and of the provided one
pub used_fit : (c : Code) → IsReady c → (d : Link → Option View) (p : Proc) (j : Judgement) (nd : Node) (y : ℕ) (a : Ty) → Standing c.program d p j nd → used_type j y ≡ Some a → Proper (defs c.program) (closed a (whole p.values)) → Fit (defs c.program) j.ctx.vars p.values a
used_fit c r d p j nd y a s e h = record { named = named_find (defs c.program) y j.uses a (judgement_named c.program r.made p.node j s.judged).uses e; scoped = scoped_find j.ctx.vars y j.uses a s.shape.uses e; proper = h }

pub gives_fit : (c : Code) → IsReady c → (d : Link → Option View) (p : Proc) (j : Judgement) (nd : Node) → Standing c.program d p j nd → Fit (defs c.program) j.ctx.vars p.values j.gives.1
gives_fit c r d p j nd s = record { named = (judgement_named c.program r.made p.node j s.judged).gives; scoped = s.shape.gives; proper = s.stands.gives.proper }

-- a premise whose type was made within the limits
made_within : (deep small : Bool) (a : Ty) (g : Program) (j : Judgement) (x y : Ty) → IsTrueAsked g j (Alike x y (failure (within deep small a))) → (deep ≡ false) × IsTrueAsked g j (Alike x y None)
made_within true small a g j x y h = absurd h
made_within false true a g j x y h = (refl, h)
made_within false false a g j x y h = absurd h

-- a declared type at arguments
pub record AtArguments (t : Table) (n : ℕ) (vs ws : List ℕ) (es : List Linear) (a : Ty) : Type 0 where
  pub fit : Fit t n vs (put_type n es a)
  pub equal : Equal t (closed (put_type n es a) (whole vs)) (closed a (whole ws))

pub at_arguments : (g : Program) (n m : ℕ) (vs ws : List ℕ) (es : List Linear) (a : Ty) → length vs ≡ n → list_all (is_closed n) es ≡ true → n + binders (put_type n es a) ≤ 16 → values_of es vs ≡ whole ws → IsMadeType g m a → Proper (defs g) (closed a (whole ws)) → AtArguments (defs g) n vs ws es a
at_arguments g n m vs ws es a l c few e mt p =
    let t : Table = defs g in
    let q : Equal t (closed (put_type n es a) (whole vs)) (closed a (whole ws)) = subst (λ xs. Equal t (closed (put_type n es a) (whole vs)) (closed a xs)) e (put_equal t n es a vs l few (all_within n es c)) in
    record {
      fit = record { named = named_put t n es a ∙ mt.named; scoped = scoped_put n es a (all_within n es c); proper = proper_equal t (closed a (whole ws)) (closed (put_type n es a) (whole vs)) (equal_sym t (closed (put_type n es a) (whole vs)) (closed a (whole ws)) q) p };
      equal = q;
    }

-- the type that a premise calls the same as a declared type at arguments is equal to the declared type at their values; so where it stands first
pub argument_equal : (c : Code) → IsReady c → (d : Link → Option View) (p : Proc) (j : Judgement) (nd : Node) (es : List Linear) (m : ℕ) (ws : List ℕ) (a u : Ty) → Standing c.program d p j nd → list_all (is_closed j.ctx.vars) es ≡ true → values_of es p.values ≡ whole ws → IsMadeType c.program m u → Proper (defs c.program) (closed u (whole ws)) → Fit (defs c.program) j.ctx.vars p.values a → IsTrueAsked c.program j (Alike a (at_args j es u) (failure (made_type j.ctx.vars (at_args j es u)))) → Equal (defs c.program) (closed a (whole p.values)) (closed u (whole ws))
argument_equal c r d p j nd es m ws a u s cl e mt pr f h =
    let t : Table = defs c.program in
    let b : Ty = at_args j es u in
    let k = made_within (is_deep j.ctx.vars b) (is_small_type b) b c.program j a b h in
    let x : AtArguments t j.ctx.vars p.values ws es u = at_arguments c.program j.ctx.vars m p.values ws es u s.stands.vars cl (ltb-false 16 (j.ctx.vars + binders b) k.0) e mt pr in
    equal_trans t (closed a (whole p.values)) (closed b (whole p.values)) (closed u (whole ws)) (alike_equal c r d p j nd a b s k.1 f x.fit) x.equal

-- and where it stands second
pub given_equal : (c : Code) → IsReady c → (d : Link → Option View) (p : Proc) (j : Judgement) (nd : Node) (es : List Linear) (m : ℕ) (ws : List ℕ) (a u : Ty) → Standing c.program d p j nd → list_all (is_closed j.ctx.vars) es ≡ true → values_of es p.values ≡ whole ws → IsMadeType c.program m u → Proper (defs c.program) (closed u (whole ws)) → Fit (defs c.program) j.ctx.vars p.values a → IsTrueAsked c.program j (Alike (at_args j es u) a (failure (made_type j.ctx.vars (at_args j es u)))) → Equal (defs c.program) (closed a (whole p.values)) (closed u (whole ws))
given_equal c r d p j nd es m ws a u s cl e mt pr f h =
    let t : Table = defs c.program in
    let b : Ty = at_args j es u in
    let k = made_within (is_deep j.ctx.vars b) (is_small_type b) b c.program j b a h in
    let x : AtArguments t j.ctx.vars p.values ws es u = at_arguments c.program j.ctx.vars m p.values ws es u s.stands.vars cl (ltb-false 16 (j.ctx.vars + binders b) k.0) e mt pr in
    equal_trans t (closed a (whole p.values)) (closed b (whole p.values)) (closed u (whole ws)) (equal_sym t (closed b (whole p.values)) (closed a (whole p.values)) (alike_equal c r d p j nd b a s k.1 x.fit f)) x.equal
