-- A process that spawns or calls: arguments, handed channels and potential fit the callee's declaration.
use Rattle.std.proofs.Common.{◌≡◌, ℕ, suc, pos, ◌-ℤ◌, ◌+◌, ◌-◌, ◌≤◌, ◌<◌, Bool, true, false, ◌&&◌, List, [], ◌∷◌, ◌++◌, map, length, Option, Some, slice_get, refl, sym, ap, ap₂, ◌∙◌, subst, arith, if◌then◌else◌, length-append, ltb-false}
use Rattle.std.specs.Prelude.{zip, filter}
use Rattle.std.specs.List.{list_all, list_any, AllByRecursion}
use Rattle.std.proofs.lemmas.Bool.{le-leb, lt-ltb}
use Rattle.std.proofs.lemmas.List.Elements.{recursion_from_All}
use Rattle.rast_index.specs.Keys.{pull, numbered}
use Rattle.rast_index.specs.Linear.{Linear, value, whole, replaced, less, is_closed}
use Rattle.rast_index.specs.Truth.{is_at_least, is_equal, all_small}
use Rattle.rast_index.proofs.Values.{value_less, value_replaced}
use Rattle.rast_types.specs.declared.equation.Ref.{Ref}
use Rattle.rast_types.specs.declared.ty.Ty.{Ty}
use Rattle.rast_types.specs.Closed.{closed, Table, Equal, View}
use Rattle.rast_types.specs.Symbolic.{binders, is_deep, made_type}
use Rattle.rast_equal.specs.Valid.{IsValidType, nonneg}
use Rattle.rast_made.specs.WellMade.{IsMadeType, IsMadeDecl, IsMadeCall}
use Rattle.rast_terms.specs.declared.node.Node.{Node}
use Rattle.rast_terms.specs.declared.node.Node.TheVariants as node
use Rattle.rast_terms.specs.declared.program.Program.{Program}
use Rattle.rast_terms.specs.declared.program.Decl.{Decl}
use Rattle.rast_rules.specs.declared.judgement.Judgement.{Judgement}
use Rattle.rast_rules.specs.Rules.{Is, Alike, IsJudgement, IsValidDecl, defs, used_type, or_one, at_args, failure, linear, is_provided, are_used, none_left, made_truth, arg_asked, spawn_asked, call_asked, without, spawned, root}
use Rattle.rast_items.specs.Items.{link_at}
use Rattle.rast_items.specs.Deeds.{Code, Deed, Makes, Breaks, act, first, process_at, parent_after, makes, makes_at, turns, turns_at, argument_values, handed_over, with_arguments, with_values}
use Rattle.rast_laws.specs.Sound.{IsReady}
use Rattle.rast_order.proofs.Words.{Link, Proc, Client, Provider}
use Rattle.rast_equal.proofs.Equals.{equal_refl}
use Rattle.rast_equal.proofs.Proper.{Proper}
use Rattle.rast_laws.proofs.Channels.{AreSeen, seen_equal, seen_more, seen_none}
use Rattle.rast_laws.proofs.Fine.{Stands, ProcFine}
use Rattle.rast_laws.proofs.Lawful.{Spawns, DeedFine}
use Rattle.rast_laws.proofs.Judged.{AllAsked, IsTrueAsked, asked_left, asked_right, Limited, judged_limited}
use Rattle.rast_equal.proofs.Every.{either_false, all_get}
use Rattle.rast_laws.proofs.Meeting.{followed}
use Rattle.rast_laws.proofs.Sending.{seen_same}
use Rattle.rast_laws.proofs.Standing.{Standing, child_of}
use Rattle.rast_equal.proofs.Substitution.{values_of, whole-length}
use Rattle.rast_equal.proofs.Truths.{equal_true, at_least_true, nonneg_true}
use Rattle.rast_laws.proofs.Naturals.{naturals_fine, natural_fine}
use Rattle.rast_laws.proofs.Works.{natural_rest}
use Rattle.rast_laws.proofs.Delays.{made_follows}
use Rattle.rast_laws.proofs.Callee.{type_proper, gives_proper, decl_potential, root_judged, body_fine}
use Rattle.rast_laws.proofs.Without.{seen_length}
use Rattle.rast_laws.proofs.Pulling.{is_left, uses_of, none_are_left, Handed, Pulled, pulled, handed_length}
use Rattle.rast_laws.proofs.Knowing.{AtArguments, at_arguments, argument_equal, given_equal, used_fit, gives_fit}

-- ---- arguments

arguments_natural : (g : Program) (d : Link → Option View) (p : Proc) (j : Judgement) (es : List Linear) → Stands g d p j → AllAsked g j (map (λ (e : Linear). (1, Is (nonneg e))) es) → (ws : List ℕ) × (values_of es p.values ≡ whole ws) × (length ws ≡ length es)
arguments_natural g d p j [] s h = ([], refl, refl)
arguments_natural g d p j (e ∷ es) s h =
    let r = nonneg_true e (whole p.values) (followed g d p j (nonneg e) s h.0) in
    let m = arguments_natural g d p j es s h.1 in
    (r.0 ∷ m.0, ap₂ (λ z zs. z ∷ zs) r.1 m.1, ap suc m.2)

-- a declaration has at most 16 parameters
few_params : (c : Code) → IsReady c → (k : ℕ) (decl : Decl) → slice_get c.program.decls k ≡ Some decl → decl.params ≤ 16
few_params c r k decl s = (judged_limited c.program decl.body (root k decl) (root_judged c.program r.accepted k decl s)).vars

-- what is done with the values of arguments and of the potential at them
arguments_fine : (c : Code) (d : Link → Option View) (p : Proc) (es : List Linear) (decl : Decl) (ws : List ℕ) (q : ℕ) (f : List ℕ → ℕ → Deed) → length es ≤ 16 → argument_values p es ≡ whole ws → value decl.potential (whole ws) ≡ pos q → DeedFine c d p (f ws q) → DeedFine c d p (with_arguments p es decl f)
arguments_fine c d p es decl ws q f few e v h =
    subst (λ (b : Bool). DeedFine c d p (if b then with_values (argument_values p es) (λ ns. with_values (handed_over decl ns) (λ qs. f ns (first qs))) else Breaks)) (sym (le-leb (length es) 16 few))
    (naturals_fine c d p (argument_values p es) ws (λ ns. with_values (handed_over decl ns) (λ qs. f ns (first qs))) e (natural_fine c d p (value decl.potential (whole ws)) q (λ qs. f ws (first qs)) v h))

-- ---- channels

argument_type : (c : Code) → IsReady c → (d : Link → Option View) (p : Proc) (j : Judgement) (nd : Node) (k : ℕ) (es : List Linear) (m : ℕ) (ws : List ℕ) (y : ℕ) (a u : Ty) → Standing c.program d p j nd → list_all (is_closed j.ctx.vars) es ≡ true → values_of es p.values ≡ whole ws → length ws ≡ m → IsMadeType c.program m u → IsValidType (defs c.program) m [] u → used_type j y ≡ Some a → Proper (defs c.program) (closed a (whole p.values)) → IsTrueAsked c.program j (arg_asked j k es (y, u)).1 → Equal (defs c.program) (closed a (whole p.values)) (closed u (whole ws))
argument_type c r d p j nd k es m ws y a u s cl e l mt vt ua pr h =
    argument_equal c r d p j nd es m ws a u s cl e mt (type_proper c.program r.made r.accepted m u ws mt vt l) (used_fit c r d p j nd y a s ua pr) (subst (λ o. IsTrueAsked c.program j (Alike (or_one o) (at_args j es u) (failure (made_type j.ctx.vars (at_args j es u))))) ua h)

-- the handed channels at the declared types, at the arguments' values
callee_seen : (c : Code) → IsReady c → (d : Link → Option View) (p : Proc) (j : Judgement) (nd : Node) (k i : ℕ) (es : List Linear) (m : ℕ) (ws : List ℕ) (ls : List Link) (ys : List ℕ) (us : List Ty) → Standing c.program d p j nd → list_all (is_closed j.ctx.vars) es ≡ true → values_of es p.values ≡ whole ws → length ws ≡ m → AllByRecursion (IsMadeType c.program m) us → AllByRecursion (IsValidType (defs c.program) m []) us → length ys ≡ length us → Handed j (defs c.program) d p.moment (whole p.values) ls ys → AllAsked c.program j (map (arg_asked j k es) (zip ys us)) → AreSeen (defs c.program) d p.moment (whole ws) (numbered i ls) (numbered i us)
callee_seen c r d p j nd k i es m ws [] [] [] s cl e l mt vt q h x = tt
callee_seen c r d p j nd k i es m ws [] [] (u ∷ us) s cl e l mt vt q h x = cc
callee_seen c r d p j nd k i es m ws [] (y ∷ ys) us s cl e l mt vt q h x = absurd h
callee_seen c r d p j nd k i es m ws (l' ∷ ls) [] us s cl e l mt vt q h x = absurd h
callee_seen c r d p j nd k i es m ws (l' ∷ ls) (y ∷ ys) [] s cl e l mt vt q h x = cc
callee_seen c r d p j nd k i es m ws (l' ∷ ls) (y ∷ ys) (u ∷ us) s cl e l mt vt q h x = (
  refl,
  seen_equal (defs c.program) d p.moment Client l' (closed h.0.0 (whole p.values)) (closed u (whole ws)) (argument_type c r d p j nd k es m ws y h.0.0 u s cl e l mt.0 vt.0 h.0.1 h.0.2.proper x.0) h.0.2,
  callee_seen c r d p j nd k (i + 1) es m ws ls ys us s cl e l mt.1 vt.1 (let z : length ys ≡ length us = cc in z) h.1 x.1,
)

-- the last used type is shallow
shallow_last : (n : ℕ) (us : List (ℕ × Ty)) (k : ℕ) (a b : Ty) → list_any (λ (x : Bool × Ty). is_deep n x.1) (map (λ (u : ℕ × Ty). (false, u.1)) (us ++ (k, a) ∷ []) ++ (true, b) ∷ []) ≡ false → is_deep n a ≡ false
shallow_last n [] k a b h = (either_false (is_deep n a) (list_any (λ (x : Bool × Ty). is_deep n x.1) ((true, b) ∷ [])) h).0
shallow_last n (u ∷ us) k a b h = shallow_last n us k a b (either_false (is_deep n u.1) (list_any (λ (x : Bool × Ty). is_deep n x.1) (map (λ (u : ℕ × Ty). (false, u.1)) (us ++ (k, a) ∷ []) ++ (true, b) ∷ [])) h).1

-- ---- what a spawn and a call have in common

record Callee (c : Code) (d : Link → Option View) (p : Proc) (j : Judgement) (decl : Decl) (es : List Linear) (ys : List ℕ) : Type 0 where
  ws : List ℕ
  values : values_of es p.values ≡ whole ws
  sized : length ws ≡ decl.params
  amount : ℕ
  potential : value decl.potential (whole ws) ≡ pos amount
  given : value (replaced es decl.potential) (whole p.values) ≡ pos amount
  pull : Pulled j (defs c.program) d p.moment (whole p.values) p.uses j.uses ys
  uses : AreSeen (defs c.program) d p.moment (whole ws) (numbered 1 pull.links) (numbered 1 decl.uses)

callee : (c : Code) → IsReady c → (d : Link → Option View) (p : Proc) (j : Judgement) (nd : Node) (kd ku ka : ℕ) (es : List Linear) (ys : List ℕ) (m : IsMadeCall c.program j.ctx.vars j.fresh kd es ys) → Standing c.program d p j nd → AllAsked c.program j (map (λ (e : Linear). (1, Is (nonneg e))) es) → AllAsked c.program j (are_used j ku [] ys) → AllAsked c.program j (map (arg_asked j ka es) (zip ys m.decl.uses)) → Callee c d p j m.decl es ys
callee c r d p j nd kd ku ka es ys m s ha hu ht =
    let g : Program = c.program in
    let n = arguments_natural g d p j es s.stands ha in
    let l : length n.0 ≡ m.decl.params = n.2 ∙ m.args in
    let q = decl_potential g r.accepted kd m.decl m.is n.0 l in
    let pl : Pulled j (defs g) d p.moment (whole p.values) p.uses j.uses ys = pulled j (defs g) d p.moment (whole p.values) 1 j.fresh p.uses j.uses ys s.shape.keys s.stands.uses (uses_of g j ku [] ys j.uses (λ y e. refl) hu) in
    record {
      ws = n.0;
      values = n.1;
      sized = l;
      amount = q.0;
      potential = q.1;
      given = value_replaced es m.decl.potential (whole p.values) (omega (arith, whole-length p.values, s.stands.vars, s.limits.vars)) ∙ (ap (value m.decl.potential) n.1 ∙ q.1);
      pull = pl;
      uses = callee_seen c r d p j nd ka 1 es m.decl.params n.0 pl.links ys m.decl.uses s m.terms n.1 l (recursion_from_All (IsMadeType g m.decl.params) m.decl.uses (all_get (IsMadeDecl g) g.decls kd m.decl r.made.decls m.is).uses) (recursion_from_All (IsValidType (defs g) m.decl.params []) m.decl.uses (all_get (IsValidDecl g) g.decls kd m.decl r.accepted.decls m.is).uses) m.channels pl.handed ht;
    }

-- ---- a spawn

makes_fine : (c : Code) (d : Link → Option View) (p : Proc) (k kd n q : ℕ) (decl : Decl) (ls : List Link) (rest : List (ℕ × Link)) (ws : List ℕ) → q ≤ p.potential → length rest < 15 → Spawns c.program d (process_at k decl ws ls p.moment q) (parent_after k p rest q n) kd → DeedFine c d p (makes k p kd decl (ls, rest) n ws q)
makes_fine c d p k kd n q decl ls rest ws le few h =
    subst (λ (b : Bool). DeedFine c d p (if b then Makes (process_at k decl ws ls p.moment q) (parent_after k p rest q n) kd else Breaks)) (sym (ap₂ (λ (a b : Bool). a && b) (le-leb q p.potential le) (lt-ltb (length rest) 15 few))) h

spawn_at : (c : Code) → IsReady c → (d : Link → Option View) (k : ℕ) (p : Proc) (j : Judgement) (v kd : ℕ) (es : List Linear) (ys : List ℕ) (rs : List Ref) (n : ℕ) (m : IsMadeCall c.program j.ctx.vars j.fresh kd es ys) → Standing c.program d p j (node.Spawn v kd es ys rs n) → AllAsked c.program j (spawn_asked j es ys (Some m.decl)) → IsJudgement c.program n (spawned j es ys (Some m.decl)) → DeedFine c d p (makes_at k p es kd n (Some m.decl) (pull ys p.uses))
spawn_at c r d k p j v kd es ys rs n m s h child =
    let g : Program = c.program in
    let t : Table = defs g in
    let decl : Decl = m.decl in
    let st : Stands g d p j = s.stands in
    let one = map (λ (e : Linear). (1, Is (nonneg e))) es in
    let two = are_used j 2 [] ys in
    let four = map (arg_asked j 4 es) (zip ys decl.uses) in
    let more = made_truth 3 (is_at_least j.potential (replaced es decl.potential)) ∷ four in
    let h1 : AllAsked g j (two ++ more) = asked_right g j one (two ++ more) h in
    let h2 : AllAsked g j more = asked_right g j two more h1 in
    let x : Callee c d p j decl es ys = callee c r d p j (node.Spawn v kd es ys rs n) kd 2 4 es ys m s (asked_left g j one (two ++ more) h) (asked_left g j two more h1) h2.1 in
    let rest : List (ℕ × Link) = x.pull.rest in
    let few : Limited (spawned j es ys (Some decl)) = judged_limited g n (spawned j es ys (Some decl)) child in
    let al = at_least_true j.potential (replaced es decl.potential) (whole p.values) x.amount x.given (followed g d p j (is_at_least j.potential (replaced es decl.potential)) st (made_follows g j 3 (is_at_least j.potential (replaced es decl.potential)) (all_small (is_at_least j.potential (replaced es decl.potential))) h2.0)) in
    let held : pos al.0 ≡ pos p.potential = sym al.1 ∙ st.potential in
    let is : al.0 ≡ p.potential = cc in
    let le : x.amount ≤ p.potential = subst (λ i. x.amount ≤ i) is al.2 in
    let short : length (whole p.values) ≤ 16 = omega (arith, whole-length p.values, st.vars, s.limits.vars) in
    let left : value (less j.potential (replaced es decl.potential)) (whole p.values) ≡ pos (p.potential - x.amount) = value_less j.potential (replaced es decl.potential) (whole p.values) short ∙ (ap (λ z. z -ℤ value (replaced es decl.potential) (whole p.values)) st.potential ∙ (ap (λ z. pos p.potential -ℤ z) x.given ∙ natural_rest p.potential x.amount le)) in
    let gp : Proper t (closed decl.gives (whole x.ws)) = gives_proper g r.made r.accepted kd decl m.is x.ws x.sized in
    let shallow : is_deep j.ctx.vars (at_args j es decl.gives) ≡ false = shallow_last j.ctx.vars (filter (is_left ys) j.uses) j.fresh (at_args j es decl.gives) j.gives.1 few.shallow in
    let at : AtArguments t j.ctx.vars p.values x.ws es decl.gives = at_arguments g j.ctx.vars decl.params p.values x.ws es decl.gives st.vars m.terms (ltb-false 16 (j.ctx.vars + binders (at_args j es decl.gives)) shallow) x.values (all_get (IsMadeDecl g) g.decls kd decl r.made.decls m.is).gives gp in
    let room : length rest < 15 = omega (arith, few.few, seen_length t d p.moment (whole p.values) rest (filter (is_left ys) j.uses) x.pull.left, length-append (filter (is_left ys) j.uses) ((j.fresh, at_args j es decl.gives) ∷ [])) in
    subst (λ o. DeedFine c d p (makes_at k p es kd n (Some decl) o)) (sym x.pull.is)
    (arguments_fine c d p es decl x.ws x.amount (λ ns q. makes k p kd decl (x.pull.links, rest) n ns q) (omega (arith, m.args, few_params c r kd decl m.is)) x.values x.potential
    (makes_fine c d p k kd n x.amount decl x.pull.links rest x.ws le room (record {
      decl = decl;
      is = m.is;
      leaves = λ e. (
        body_fine g r.accepted d kd decl (process_at k decl x.ws x.pull.links p.moment x.amount) m.is (record {
          node = refl;
          vars = x.sized;
          potential = x.potential;
          fresh = ap (λ (i : ℕ). i + 1) (handed_length j t d p.moment (whole p.values) x.pull.links ys x.pull.handed ∙ m.channels);
          gives = seen_same t d p.moment Provider (link_at k 0) (closed decl.gives (whole x.ws)) (closed decl.gives (whole x.ws)) e gp (equal_refl t (closed decl.gives (whole x.ws)));
          uses = x.uses;
        }),
        (
          spawned j es ys (Some decl),
          child,
          record {
            vars = st.vars;
            premises = st.premises;
            potential = left;
            fresh = ap (λ (i : ℕ). i + 1) st.fresh;
            provided = st.provided;
            gives = st.gives;
            uses = subst (λ (y : ℕ). AreSeen t d p.moment (whole p.values) (rest ++ (y, link_at k 0) ∷ []) (filter (is_left ys) j.uses ++ (j.fresh, at_args j es decl.gives) ∷ [])) (sym st.fresh) (seen_more t d p.moment (whole p.values) j.fresh (link_at k 0) (at_args j es decl.gives) rest (filter (is_left ys) j.uses) x.pull.left (seen_same t d p.moment Client (link_at k 0) (closed (at_args j es decl.gives) (whole p.values)) (closed decl.gives (whole x.ws)) e gp at.equal));
          },
        ),
      );
    })))

pub spawn_fine : (c : Code) → IsReady c → (d : Link → Option View) (amount : Linear) (positive : Bool) (k : ℕ) (p : Proc) (j : Judgement) (v kd : ℕ) (es : List Linear) (ys : List ℕ) (rs : List Ref) (n : ℕ) → Standing c.program d p j (node.Spawn v kd es ys rs n) → DeedFine c d p (act c.program amount positive k p (node.Spawn v kd es ys rs n))
spawn_fine c r d amount positive k p j v kd es ys rs n s =
    let g : Program = c.program in
    let m : IsMadeCall g j.ctx.vars j.fresh kd es ys = s.node.1 in
    let child : IsJudgement g n (spawned j es ys (slice_get g.decls kd)) = child_of g d p j (node.Spawn v kd es ys rs n) 0 n (spawned j es ys (slice_get g.decls kd)) s refl refl in
    subst (λ o. DeedFine c d p (makes_at k p es kd n o (pull ys p.uses))) (sym m.is)
    (spawn_at c r d k p j v kd es ys rs n m s (subst (λ o. AllAsked g j (spawn_asked j es ys o)) m.is s.asked_true) (subst (λ o. IsJudgement g n (spawned j es ys o)) m.is child))

-- ---- a call

turns_fine : (c : Code) (d : Link → Option View) (p : Proc) (kd : ℕ) (decl : Decl) (ls : List Link) (rest : List (ℕ × Link)) (ws : List ℕ) → rest ≡ [] → ProcFine c.program d (record p { node = decl.body; values = ws; uses = numbered 1 ls; fresh = length ls + 1; steps = p.steps + 1 }) → DeedFine c d p (turns p kd decl ls rest ws)
turns_fine c d p kd decl ls rest ws e h = subst (λ us. DeedFine c d p (turns p kd decl ls us ws)) (sym e) h

call_at : (c : Code) → IsReady c → (d : Link → Option View) (p : Proc) (j : Judgement) (x kd : ℕ) (es : List Linear) (ys : List ℕ) (rs : List Ref) (m : IsMadeCall c.program j.ctx.vars j.fresh kd es ys) → Standing c.program d p j (node.Call x kd es ys rs) → AllAsked c.program j (call_asked j x es ys (Some m.decl)) → DeedFine c d p (turns_at p es kd (Some m.decl) (pull ys p.uses))
call_at c r d p j ch kd es ys rs m s h =
    let g : Program = c.program in
    let t : Table = defs g in
    let decl : Decl = m.decl in
    let st : Stands g d p j = s.stands in
    let b : Ty = at_args j es decl.gives in
    let one = map (λ (e : Linear). (1, Is (nonneg e))) es in
    let three = are_used j 3 [] ys in
    let none = none_left 3 (without j ys).uses in
    let five = map (arg_asked j 5 es) (zip ys decl.uses) in
    let last = (5, Alike b j.gives.1 (failure (made_type j.ctx.vars b))) ∷ [] in
    let end' = made_truth 4 (is_equal j.potential (replaced es decl.potential)) ∷ (five ++ last) in
    let more = linear 2 ch (is_provided j ch) ∷ (three ++ (none ++ end')) in
    let h1 : AllAsked g j more = asked_right g j one more h in
    let h2 : AllAsked g j (none ++ end') = asked_right g j three (none ++ end') h1.1 in
    let h3 : AllAsked g j end' = asked_right g j none end' h2 in
    let y : Callee c d p j decl es ys = callee c r d p j (node.Call ch kd es ys rs) kd 3 5 es ys m s (asked_left g j one more h) (asked_left g j three (none ++ end') h1.1) (asked_left g j five last h3.1) in
    let gone : filter (is_left ys) j.uses ≡ [] = none_are_left g j 3 (without j ys).uses (asked_left g j none end' h2) in
    let empty : y.pull.rest ≡ [] = seen_none t d p.moment (whole p.values) y.pull.rest (filter (is_left ys) j.uses) y.pull.left gone in
    let eq : value j.potential (whole p.values) ≡ value (replaced es decl.potential) (whole p.values) = equal_true j.potential (replaced es decl.potential) (whole p.values) (followed g d p j (is_equal j.potential (replaced es decl.potential)) st (made_follows g j 4 (is_equal j.potential (replaced es decl.potential)) (all_small (is_equal j.potential (replaced es decl.potential))) h3.0)) in
    let potential : value decl.potential (whole y.ws) ≡ pos p.potential = y.potential ∙ (sym y.given ∙ (sym eq ∙ st.potential)) in
    let gp : Proper t (closed decl.gives (whole y.ws)) = gives_proper g r.made r.accepted kd decl m.is y.ws y.sized in
    let same : Equal t (closed j.gives.1 (whole p.values)) (closed decl.gives (whole y.ws)) = given_equal c r d p j (node.Call ch kd es ys rs) es decl.params y.ws j.gives.1 decl.gives s m.terms y.values (all_get (IsMadeDecl g) g.decls kd decl r.made.decls m.is).gives gp (gives_fit c r d p j (node.Call ch kd es ys rs) s) (asked_right g j five last h3.1).0 in
    subst (λ o. DeedFine c d p (turns_at p es kd (Some decl) o)) (sym y.pull.is)
    (arguments_fine c d p es decl y.ws y.amount (λ ns q. turns p kd decl y.pull.links y.pull.rest ns) (omega (arith, m.args, few_params c r kd decl m.is)) y.values y.potential
    (turns_fine c d p kd decl y.pull.links y.pull.rest y.ws empty
    (body_fine g r.accepted d kd decl (record p { node = decl.body; values = y.ws; uses = numbered 1 y.pull.links; fresh = length y.pull.links + 1; steps = p.steps + 1 }) m.is (record {
      node = refl;
      vars = y.sized;
      potential = potential;
      fresh = ap (λ (i : ℕ). i + 1) (handed_length j t d p.moment (whole p.values) y.pull.links ys y.pull.handed ∙ m.channels);
      gives = seen_equal t d p.moment Provider p.own (closed j.gives.1 (whole p.values)) (closed decl.gives (whole y.ws)) same st.gives;
      uses = y.uses;
    }))))

pub call_fine : (c : Code) → IsReady c → (d : Link → Option View) (amount : Linear) (positive : Bool) (k : ℕ) (p : Proc) (j : Judgement) (x kd : ℕ) (es : List Linear) (ys : List ℕ) (rs : List Ref) → Standing c.program d p j (node.Call x kd es ys rs) → DeedFine c d p (act c.program amount positive k p (node.Call x kd es ys rs))
call_fine c r d amount positive k p j x kd es ys rs s =
    let g : Program = c.program in
    let m : IsMadeCall g j.ctx.vars j.fresh kd es ys = s.node.1 in
    subst (λ o. DeedFine c d p (turns_at p es kd o (pull ys p.uses))) (sym m.is)
    (call_at c r d p j x kd es ys rs m s (subst (λ o. AllAsked g j (call_asked j x es ys o)) m.is s.asked_true))
