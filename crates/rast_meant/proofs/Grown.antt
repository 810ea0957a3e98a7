-- The nodes of a written process term are a forest of one root.
use Rattle.std.proofs.Common.{◌≡◌, ℕ, suc, ◌+◌, ◌<◌, Bool, true, false, ◌||◌, List, [], ◌∷◌, ◌++◌, map, length, flat_map, refl, sym, ap, ap₂, ◌∙◌, subst, arith, Option, Some, None, Ok, Err, slice_get, length-append, append_assoc}
use Rattle.std.specs.Prelude.{◌==◌, sum, All, if◌then◌else◌}
use Rattle.std.proofs.lemmas.Bool.{eqb-true, and_parts}
use Rattle.std.proofs.lemmas.List.{append-nil}
use Rattle.std.proofs.lemmas.List.Elements.{All-from_recursion}
use Rattle.std.proofs.lemmas.List.Sums.{sum_by-cons}
use Rattle.rast_index.specs.Linear.{Linear}
use Rattle.rast_types.specs.declared.equation.Ref.{Ref}
use Rattle.rast_terms.specs.declared.node.Node.{Node}
use Rattle.rast_terms.specs.declared.node.Node.TheVariants as node
use Rattle.rast_terms.specs.declared.program.Program.{Program}
use Rattle.rast_terms.specs.declared.program.Decl.{Decl}
use Rattle.rast_terms.specs.Nodes.{kids}
use Rattle.rast_equal.specs.WellMadeTypes.{are_labels}
use Rattle.rast_made.specs.WellMade.{IsMadeNode, IsMadeCall, bound_variables, bound_channels}
use Rattle.rast_ast.specs.declared.term.Lin.{Lin}
use Rattle.rast_ast.specs.declared.process.By.{By}
use Rattle.rast_ast.specs.declared.process.Step.{Step}
use Rattle.rast_ast.specs.declared.process.Step.TheVariants as step
use Rattle.rast_ast.specs.declared.process.Proc.{Proc, roll-Proc}
use Rattle.rast_ast.specs.declared.process.End.{End, roll-End}
use Rattle.rast_ast.specs.declared.process.Branch.{Branch, roll-Branch}
use Rattle.rast_ast.specs.declared.process.End.TheOpen.{End-F, Branch-F, Proc-F, Close, Forward, Call, Case, Impossible}
use Rattle.rast_ast.specs.declared.process.End.TheFolds.{map-Proc, map-End, map-Branch, fold-roll-Proc, fold-roll-End, fold-roll-Branch}
use Rattle.rast_print.proofs.Induction.{Such, each_proc}
use Rattle.rast_resolve.specs.declared.fault.NameErr.TheVariants as fault
use Rattle.rast_resolve.specs.Answers.{◌>>=◌}
use Rattle.rast_resolve.specs.Scopes.{Text, Texts, is_among, place_of, newest_of, number_in, at_place, or_else}
use Rattle.rast_resolve.specs.Written.{linear_of, linears_of}
use Rattle.rast_resolve.specs.Bodies.{channel_at, channel_of, channels_of, with_channel, with_variable, refs_of, is_process, decl_number, declared, is_counted, callee_of, step_of, steps_of, Nodes, Branches, branches_of, end_step, branch_step, proc_step, nodes_of, end_of, branch_of}
use Rattle.rast_resolve.specs.Names.{step_names, end_names, branch_names, proc_names, names_in_term, names_in_end, names_in_branch, end_size, branch_size, proc_size, size_of, size_of_end, size_of_branch}
use Rattle.rast_meant.proofs.Forests.{Root, below, Forest, none, tree}
use Rattle.rast_meant.proofs.Kept.{Known, Counts, Place, Callee}
use Rattle.rast_meant.proofs.Apart.{Gave, no_value, same, both, made, unless, where_true, each_gave}
use Rattle.rast_meant.proofs.Numbers.{AreAmong, left_among, right_among, number_within, some_among, newest_within, place_among}
use Rattle.rast_meant.proofs.Labels.{AreNew, more_labels, still_new}
use Rattle.rast_meant.proofs.Terms.{linear_shut, linears_shut}

-- forests one after another
pub forest_append : (g : Program) (n m : ℕ) (rs : List Root) (ns : List Node) (ss : List Root) (ms : List Node) → m ≡ n + length ns → Forest g n rs ns → Forest g m ss ms → Forest g n (rs ++ ss) (ns ++ ms)
forest_append g n m rs ns ss ms e (none k) f = subst (λ z. Forest g z ss ms) (let z : m ≡ k = omega (arith, e) in z) f
forest_append g n m rs ns ss ms e (tree k r nd more xs ys at is h next) f =
    let l = length-append xs ys in
    subst (λ z. Forest g k (r ∷ (more ++ ss)) (nd ∷ z)) (sym (append_assoc xs ys ms))
    (tree k r nd (more ++ ss) xs (ys ++ ms) at is h (forest_append g (k + 1 + length xs) m more ys ss ms (omega (arith, e, l)) next f))

-- what of a file the nodes of its terms stand on
pub record IsKnown (known : Known) (g : Program) : Type 0 where
  pub names : g.names ≡ known.names
  -- a declaration that is found says what is known of it
  pub decls : (f : Text) (k : ℕ) → place_of f known.decls ≡ Some k → (d : Decl) × (c : Counts) × (slice_get g.decls k ≡ Some d) × (slice_get known.counts k ≡ Some c) × (d.params ≡ c.params) × (length d.uses ≡ c.channels)
  -- each process has a declaration
  pub procs : (f : Text) → is_among f known.procs ≡ true → is_among f known.decls ≡ true

abbrev root_of : Place → ℕ → Root
root_of p n = record { node = n; vars = length p.vars; fresh = length p.channels }

module _ (known : Known) (g : Program) (w : IsKnown known g) (item : Text) where
  -- ---- channels, callees

  channel_within : (cs : Texts) (n : Text) (c : ℕ) → Gave (channel_of cs n) c → c < length cs
  channel_within cs n c h = by (newest_of n cs) refl h
    where
      by : (o : Option ℕ) → newest_of n cs ≡ o → Gave (channel_at n o) c → c < length cs
      by None e h = absurd (no_value (fault.Unknown n) c h)
      by (Some k) e h = subst (λ z. z < length cs) (same k c h) (newest_within n cs k e)

  channels_within : (cs ns : Texts) (ys : List ℕ) → Gave (channels_of cs ns) ys → All (λ y. y < length cs) ys × (length ys ≡ length ns)
  channels_within cs ns ys h = let e = each_gave (λ y. y < length cs) (channel_of cs) ns ys (channel_within cs) h in (All-from_recursion (λ y. y < length cs) ys e.0, e.1)

  is_declared : (f : Text) → is_process known f ≡ true → is_among f known.decls ≡ true
  is_declared f h = by (is_among f known.decls) refl h
    where
      by : (b : Bool) → is_among f known.decls ≡ b → (b || is_among f known.procs) ≡ true → is_among f known.decls ≡ true
      by true e h = e
      by false e h = w.procs f h

  callee_made : (p : Place) (f : Text) (es : List Lin) (ys : Texts) (by : Option By) (c : Callee) → Gave (callee_of known item p f es ys by) c → IsMadeCall g (length p.vars) (length p.channels) c.decl c.args c.ys
  callee_made p f es ys by c h =
      let a = where_true (is_process known f) (fault.Unknown f) (if is_counted (declared known f) (length es) (length ys) then (linears_of item false p.vars es >>= λ ls. channels_of p.channels ys >>= λ cs. refs_of item p.vars by >>= λ rs. Ok (record { decl = decl_number known f; args = ls; ys = cs; refs = rs })) else Err (fault.Arity f)) c h in
      let b = where_true (is_counted (declared known f) (length es) (length ys)) (fault.Arity f) (linears_of item false p.vars es >>= λ ls. channels_of p.channels ys >>= λ cs. refs_of item p.vars by >>= λ rs. Ok (record { decl = decl_number known f; args = ls; ys = cs; refs = rs })) c a.1 in
      let l = both (linears_of item false p.vars es) (λ ls. channels_of p.channels ys >>= λ cs. refs_of item p.vars by >>= λ rs. Ok (record { decl = decl_number known f; args = ls; ys = cs; refs = rs })) c b.1 in
      let m = both (channels_of p.channels ys) (λ cs. refs_of item p.vars by >>= λ rs. Ok (record { decl = decl_number known f; args = l.0; ys = cs; refs = rs })) c l.2 in
      let r = made (refs_of item p.vars by) (λ rs. callee_with (decl_number known f) l.0 m.0 rs) c m.2 in
      let k = place_among f known.decls (is_declared f a.0) in
      let d = w.decls f k.0 k.1 in
      let is : declared known f ≡ Some d.1 = ap (at_place known.counts) k.1 ∙ d.3 in
      let counted = and_parts (length es == d.1.params) (length ys == d.1.channels) (sym (ap (λ o. is_counted o (length es) (length ys)) is) ∙ b.0) in
      let terms = linears_shut item p.vars es l.0 l.1 in
      let chans = channels_within p.channels ys m.0 m.1 in
      subst (λ z. IsMadeCall g (length p.vars) (length p.channels) z.decl z.args z.ys) r.2 (record {
        decl = d.0;
        is = ap (slice_get g.decls) (ap (or_else (length known.decls)) k.1) ∙ d.2;
        args = terms.1 ∙ eqb-true (length es) d.1.params counted.0 ∙ sym d.4;
        terms = terms.0;
        channels = chans.1 ∙ eqb-true (length ys) d.1.channels counted.1 ∙ sym d.5;
        bound = chans.0;
      })
    where
      callee_with : ℕ → List Linear → List ℕ → List Ref → Callee
      callee_with d ls cs rs = record { decl = d; args = ls; ys = cs; refs = rs }

  -- ---- steps

  within : (l : Text) → is_among l known.names ≡ true → number_in known.names l < length g.names
  within l h = subst (λ z. number_in known.names l < length z) (sym w.names) (number_within l known.names (some_among l known.names h))

  -- a step's node has one child, at the place after it
  record Steps (p : Place) (n : ℕ) (nd : Node) (q : Place) : Type 0 where
    made : IsMadeNode g (length p.vars) (length p.channels) nd
    kid : kids nd ≡ n ∷ []
    vars : length q.vars ≡ length p.vars + bound_variables nd
    fresh : length q.channels ≡ length p.channels + bound_channels nd

  more : (a : ℕ) → a ≡ a + 0
  more a = omega arith

  -- a step that binds nothing
  stays : (p : Place) (n : ℕ) (nd : Node) (t : Node × Place) → bound_variables nd ≡ 0 → bound_channels nd ≡ 0 → (nd, p) ≡ t → IsMadeNode g (length p.vars) (length p.channels) nd → kids nd ≡ n ∷ [] → Steps p n t.0 t.1
  stays p n nd t v c e h k = subst (λ z. Steps p n z.0 z.1) e (record { made = h; kid = k; vars = more (length p.vars) ∙ ap (λ z. length p.vars + z) (sym v); fresh = more (length p.channels) ∙ ap (λ z. length p.channels + z) (sym c) })

  binds_channel : (p : Place) (n : ℕ) (y : Text) (nd : Node) (t : Node × Place) → bound_variables nd ≡ 0 → bound_channels nd ≡ 1 → (nd, with_channel y p) ≡ t → IsMadeNode g (length p.vars) (length p.channels) nd → kids nd ≡ n ∷ [] → Steps p n t.0 t.1
  binds_channel p n y nd t v c e h k = subst (λ z. Steps p n z.0 z.1) e (record { made = h; kid = k; vars = more (length p.vars) ∙ ap (λ z. length p.vars + z) (sym v); fresh = length-append p.channels (y ∷ []) ∙ ap (λ z. length p.channels + z) (sym c) })

  binds_variable : (p : Place) (n : ℕ) (y : Text) (nd : Node) (t : Node × Place) → bound_variables nd ≡ 1 → bound_channels nd ≡ 0 → (nd, with_variable y p) ≡ t → IsMadeNode g (length p.vars) (length p.channels) nd → kids nd ≡ n ∷ [] → Steps p n t.0 t.1
  binds_variable p n y nd t v c e h k = subst (λ z. Steps p n z.0 z.1) e (record { made = h; kid = k; vars = length-append p.vars (y ∷ []) ∙ ap (λ z. length p.vars + z) (sym v); fresh = more (length p.channels) ∙ ap (λ z. length p.channels + z) (sym c) })

  -- a step of one channel
  plain : (p : Place) (n : ℕ) (x : Text) (f : ℕ → Node) (t : Node × Place) → ((c : ℕ) → bound_variables (f c) ≡ 0) → ((c : ℕ) → bound_channels (f c) ≡ 0) → ((c : ℕ) → c < length p.channels → IsMadeNode g (length p.vars) (length p.channels) (f c)) → ((c : ℕ) → kids (f c) ≡ n ∷ [])
      → Gave (channel_of p.channels x >>= λ c. Ok (f c, p)) t → Steps p n t.0 t.1
  plain p n x f t v b h k g' =
      let c = made (channel_of p.channels x) (λ c. (f c, p)) t g' in
      stays p n (f c.0) t (v c.0) (b c.0) c.2 (h c.0 (channel_within p.channels x c.0 c.1)) (k c.0)

  -- a step of one term
  plain_term : (p : Place) (n : ℕ) (e : Lin) (f : Linear → Node) (t : Node × Place) → ((l : Linear) → bound_variables (f l) ≡ 0) → ((l : Linear) → bound_channels (f l) ≡ 0) → ((l : Linear) → Gave (linear_of item false p.vars e) l → IsMadeNode g (length p.vars) (length p.channels) (f l)) → ((l : Linear) → kids (f l) ≡ n ∷ [])
      → Gave (linear_of item false p.vars e >>= λ l. Ok (f l, p)) t → Steps p n t.0 t.1
  plain_term p n e f t v b h k g' =
      let c = made (linear_of item false p.vars e) (λ l. (f l, p)) t g' in
      stays p n (f c.0) t (v c.0) (b c.0) c.2 (h c.0 c.1) (k c.0)

  step_made : (p : Place) (n : ℕ) (s : Step) (t : Node × Place) → AreAmong known.names (step_names s) → Gave (step_of known item p n s) t → Steps p n t.0 t.1
  step_made p n (step.Label x l) t am h = plain p n x (λ c. node.Label c (number_in known.names l) n) t (λ c. refl) (λ c. refl) (λ c lt. (lt, within l am.0)) (λ c. refl) h
  step_made p n (step.Send x y by) t am h =
      let a = both (channel_of p.channels x) (λ c. channel_of p.channels y >>= λ d. refs_of item p.vars by >>= λ rs. Ok (node.Send c d rs n, p)) t h in
      let b = both (channel_of p.channels y) (λ d. refs_of item p.vars by >>= λ rs. Ok (node.Send a.0 d rs n, p)) t a.2 in
      let r = made (refs_of item p.vars by) (λ rs. (node.Send a.0 b.0 rs n, p)) t b.2 in
      stays p n (node.Send a.0 b.0 r.0 n) t refl refl r.2 (channel_within p.channels x a.0 a.1, channel_within p.channels y b.0 b.1) refl
  step_made p n (step.Index x e) t am h =
      let a = both (channel_of p.channels x) (λ c. linear_of item false p.vars e >>= λ l. Ok (node.Index c l n, p)) t h in
      let b = made (linear_of item false p.vars e) (λ l. (node.Index a.0 l n, p)) t a.2 in
      stays p n (node.Index a.0 b.0 n) t refl refl b.2 (channel_within p.channels x a.0 a.1, linear_shut item p.vars e b.0 b.1) refl
  step_made p n (step.Recv y x) t am h =
      let a = made (channel_of p.channels x) (λ c. (node.Recv c (number_in known.names y) n, with_channel y p)) t h in
      binds_channel p n y (node.Recv a.0 (number_in known.names y) n) t refl refl a.2 (channel_within p.channels x a.0 a.1, within y am.0) refl
  step_made p n (step.Bind v x) t am h =
      let a = made (channel_of p.channels x) (λ c. (node.Bind c (number_in known.names v) n, with_variable v p)) t h in
      binds_variable p n v (node.Bind a.0 (number_in known.names v) n) t refl refl a.2 (channel_within p.channels x a.0 a.1, within v am.0) refl
  step_made p n (step.Wait x) t am h = plain p n x (λ c. node.Wait c n) t (λ c. refl) (λ c. refl) (λ c lt. lt) (λ c. refl) h
  step_made p n (step.Spawn y f es ys by) t am h =
      let a = made (callee_of known item p f es ys by) (λ k. (node.Spawn (number_in known.names y) k.decl k.args k.ys k.refs n, with_channel y p)) t h in
      binds_channel p n y (node.Spawn (number_in known.names y) a.0.decl a.0.args a.0.ys a.0.refs n) t refl refl a.2 (within y am.0, callee_made p f es ys by a.0 a.1) refl
  step_made p n (step.Work r) t am h = plain_term p n r (λ l. node.Work l n) t (λ l. refl) (λ l. refl) (λ l k. linear_shut item p.vars r l k) (λ l. refl) h
  step_made p n (step.Delay r) t am h = plain_term p n r (λ l. node.Delay l n) t (λ l. refl) (λ l. refl) (λ l k. linear_shut item p.vars r l k) (λ l. refl) h
  step_made p n (step.Assert x) t am h = plain p n x (λ c. node.Assert c n) t (λ c. refl) (λ c. refl) (λ c lt. lt) (λ c. refl) h
  step_made p n (step.Assume x) t am h = plain p n x (λ c. node.Assume c n) t (λ c. refl) (λ c. refl) (λ c lt. lt) (λ c. refl) h
  step_made p n (step.Pay x) t am h = plain p n x (λ c. node.Pay c n) t (λ c. refl) (λ c. refl) (λ c lt. lt) (λ c. refl) h
  step_made p n (step.Get x) t am h = plain p n x (λ c. node.Get c n) t (λ c. refl) (λ c. refl) (λ c lt. lt) (λ c. refl) h

  -- ---- forests

  abbrev Grows : Place → ℕ → List Node → Type 0
  Grows p n ns = Forest g n (root_of p n ∷ []) ns

  leaf : (p : Place) (n : ℕ) (nd : Node) → IsMadeNode g (length p.vars) (length p.channels) nd → kids nd ≡ [] → Grows p n (nd ∷ [])
  leaf p n nd h k = tree n (root_of p n) nd [] [] [] refl h (subst (λ z. Forest g (n + 1) (map (below (root_of p n) nd) z) []) (sym k) (none (n + 1))) (none (n + 1 + 0))

  -- a step before what grows at its child
  before : (p q : Place) (n : ℕ) (nd : Node) (ns : List Node) → Steps p (n + 1) nd q → Grows q (n + 1) ns → Grows p n (nd ∷ ns)
  before p q n nd ns s h =
      subst (λ z. Grows p n (nd ∷ z)) (append-nil ns)
      (tree n (root_of p n) nd [] ns [] refl s.made (subst (λ z. Forest g (n + 1) (map (below (root_of p n) nd) z) ns) (sym s.kid)
      (subst (λ z. Forest g (n + 1) (z ∷ []) ns) (ap₂ (λ (v f : ℕ). record { node = n + 1; vars = v; fresh = f }) s.vars s.fresh) h)) (none (n + 1 + length ns)))

  steps_grow : (p : Place) (n : ℕ) (ss : List Step) (r : List Node × Place) → AreAmong known.names (flat_map step_names ss) → Gave (steps_of known item ss p n) r
      → (length r.0 ≡ length ss) × ((ms : List Node) → Grows r.1 (n + length ss) ms → Grows p n (r.0 ++ ms))
  steps_grow p n [] r am h = subst (λ z. (length z.0 ≡ 0) × ((ms : List Node) → Grows z.1 (n + 0) ms → Grows p n (z.0 ++ ms))) (same ([], p) r h) (refl, λ ms k. subst (λ z. Grows p z ms) (sym (more n)) k)
  steps_grow p n (s ∷ ss) r am h =
      let a = both (step_of known item p (n + 1) s) (λ t. steps_of known item ss t.1 (n + 1) >>= λ r. Ok (t.0 ∷ r.0, r.1)) r h in
      let b = made (steps_of known item ss a.0.1 (n + 1)) (λ r. (a.0.0 ∷ r.0, r.1)) r a.2 in
      let one = step_made p (n + 1) s a.0 (left_among known.names (step_names s) (flat_map step_names ss) am) a.1 in
      let rest = steps_grow a.0.1 (n + 1) ss b.0 (right_among known.names (step_names s) (flat_map step_names ss) am) b.1 in
      subst (λ z. (length z.0 ≡ length (s ∷ ss)) × ((ms : List Node) → Grows z.1 (n + length (s ∷ ss)) ms → Grows p n (z.0 ++ ms))) b.2
      (ap suc rest.0, λ ms k. before p a.0.1 n a.0.0 (b.0.0 ++ ms) one (rest.1 ms (subst (λ z. Grows b.0.1 z ms) (let z : n + suc (length ss) ≡ n + 1 + length ss = omega arith in z) k)))

  -- ---- ends and branches

  OfEnd : End → Type 0
  OfEnd e = (p : Place) (n : ℕ) (ns : List Node) → AreAmong known.names (names_in_end e) → Gave (end_of known item e p n) ns → Grows p n ns × (length ns ≡ size_of_end e)

  OfProc : Proc → Type 0
  OfProc t = (p : Place) (n : ℕ) (ns : List Node) → AreAmong known.names (names_in_term t) → Gave (nodes_of known item t p n) ns → Grows p n ns × (length ns ≡ size_of t)

  OfBranch : Branch → Type 0
  OfBranch b = AreAmong known.names (names_in_branch b) → (is_among (branch_of known item b).0 known.names ≡ true) × ((p : Place) (n : ℕ) (ns : List Node) → Gave ((branch_of known item b).1 p n) ns → Grows p n ns × (length ns ≡ size_of_branch b))

  abbrev E : Type 0
  E = End-F (Such OfEnd) (Such OfBranch) (Such OfProc)

  bare_end : E → End-F End Branch Proc
  bare_end y = map-End (Such OfEnd) (Such OfBranch) (Such OfProc) End Branch Proc (λ e. e.0) (λ e. e.0) (λ e. e.0) y

  abbrev starts : Place → List (ℕ × ℕ) → List Root
  starts p rs = map (λ (r : ℕ × ℕ). root_of p r.1) rs

  record BranchesGrow (p : Place) (n : ℕ) (seen : Texts) (many : ℕ) (r : Branches) : Type 0 where
    forest : Forest g n (starts p r.0) r.1
    size : length r.1 ≡ many
    labels : are_labels (length known.names) (map (λ (b : ℕ × ℕ). b.0) r.0) ≡ true
    new : AreNew known.names seen (map (λ (b : ℕ × ℕ). b.0) r.0)

  branches_grow : (p : Place) (n : ℕ) (seen : Texts) (bs : List (Such OfBranch)) (r : Branches) → AreAmong known.names (flat_map (λ (b : Texts). b) (map names_in_branch (map (λ e. e.0) bs)))
      → Gave (branches_of known.names seen (map (branch_of known item) (map (λ e. e.0) bs)) p n) r → BranchesGrow p n seen (sum (map size_of_branch (map (λ e. e.0) bs))) r
  unfolding OfBranch
  branches_grow p n seen [] r am h = subst (BranchesGrow p n seen 0) (same ([], []) r h) (record { forest = none n; size = refl; labels = refl; new = λ l a b. refl })
  branches_grow p n seen (b ∷ bs) r am h =
      let x = branch_of known item b.0 in
      let u = unless (is_among x.0 seen) (fault.Twice x.0) (x.1 p n >>= λ ns. branches_of known.names (seen ++ x.0 ∷ []) (map (branch_of known item) (map (λ e. e.0) bs)) p (n + length ns) >>= λ r. Ok ((number_in known.names x.0, n) ∷ r.0, ns ++ r.1)) r h in
      let a = both (x.1 p n) (λ ns. branches_of known.names (seen ++ x.0 ∷ []) (map (branch_of known item) (map (λ e. e.0) bs)) p (n + length ns) >>= λ r. Ok ((number_in known.names x.0, n) ∷ r.0, ns ++ r.1)) r u.1 in
      let c = made (branches_of known.names (seen ++ x.0 ∷ []) (map (branch_of known item) (map (λ e. e.0) bs)) p (n + length a.0)) (λ r. ((number_in known.names x.0, n) ∷ r.0, a.0 ++ r.1)) r a.2 in
      let here = b.1 (left_among known.names (names_in_branch b.0) (flat_map (λ (b : Texts). b) (map names_in_branch (map (λ e. e.0) bs))) am) in
      let one = here.1 p n a.0 a.1 in
      let rest = branches_grow p (n + length a.0) (seen ++ x.0 ∷ []) bs c.0 (right_among known.names (names_in_branch b.0) (flat_map (λ (b : Texts). b) (map names_in_branch (map (λ e. e.0) bs))) am) c.1 in
      subst (BranchesGrow p n seen (sum (map size_of_branch (map (λ e. e.0) (b ∷ bs))))) c.2 (record {
        forest = forest_append g n (n + length a.0) (root_of p n ∷ []) a.0 (starts p c.0.0) c.0.1 refl one.0 rest.forest;
        size = length-append a.0 c.0.1 ∙ ap₂ (λ y z. y + z) one.1 rest.size ∙ sym (sum_by-cons (λ y. y) (size_of_branch b.0) (map size_of_branch (map (λ e. e.0) bs)));
        labels = more_labels known.names x.0 seen (map (λ (b : ℕ × ℕ). b.0) c.0.0) here.0 rest.new rest.labels;
        new = still_new known.names x.0 seen (map (λ (b : ℕ × ℕ). b.0) c.0.0) here.0 rest.new u.0;
      })

  case_children : (p : Place) (n c : ℕ) (bs rs : List (ℕ × ℕ)) → starts p rs ≡ map (below (root_of p n) (node.Case c bs)) (map (λ (b : ℕ × ℕ). b.1) rs)
  case_children p n c bs [] = refl
  case_children p n c bs (r ∷ rs) = ap₂ (λ (x : Root) (y : List Root). x ∷ y) (ap₂ (λ (v f : ℕ). record { node = r.1; vars = v; fresh = f }) (more (length p.vars)) (more (length p.channels))) (case_children p n c bs rs)

  case_grows : (p : Place) (n c : ℕ) (r : Branches) → c < length p.channels → are_labels (length known.names) (map (λ (b : ℕ × ℕ). b.0) r.0) ≡ true → Forest g (n + 1) (starts p r.0) r.1 → Grows p n (node.Case c r.0 ∷ r.1)
  case_grows p n c r lt l f =
      subst (λ z. Grows p n (node.Case c r.0 ∷ z)) (append-nil r.1)
      (tree n (root_of p n) (node.Case c r.0) [] r.1 [] refl (lt, subst (λ z. are_labels (length z) (map (λ (b : ℕ × ℕ). b.0) r.0) ≡ true) (sym w.names) l)
      (subst (λ z. Forest g (n + 1) z r.1) (case_children p n c r.0 r.0) f) (none (n + 1 + length r.1)))

  one_leaf : (p : Place) (n : ℕ) (nd : Node) (ns : List Node) → nd ∷ [] ≡ ns → IsMadeNode g (length p.vars) (length p.channels) nd → kids nd ≡ [] → Grows p n ns × (length ns ≡ 1)
  one_leaf p n nd ns e h k = subst (λ z. Grows p n z × (length z ≡ 1)) e (leaf p n nd h k, refl)

  end_layer : (y : E) (p : Place) (n : ℕ) (ns : List Node) → AreAmong known.names (end_names (map-End End Branch Proc Texts Texts Texts names_in_end names_in_branch names_in_term (bare_end y)))
      → Gave (end_step known item (map-End End Branch Proc Nodes (Text × Nodes) Nodes (end_of known item) (branch_of known item) (nodes_of known item) (bare_end y)) p n) ns
      → Grows p n ns × (length ns ≡ end_size (map-End End Branch Proc ℕ ℕ ℕ size_of_end size_of_branch size_of (bare_end y)))
  unfolding bare_end
  end_layer (Close x) p n ns am h =
      let a = made (channel_of p.channels x) (λ c. node.Close c ∷ []) ns h in one_leaf p n (node.Close a.0) ns a.2 (channel_within p.channels x a.0 a.1) refl
  end_layer (Forward x z by) p n ns am h =
      let a = both (channel_of p.channels x) (λ c. channel_of p.channels z >>= λ d. refs_of item p.vars by >>= λ rs. Ok (node.Forward c d rs ∷ [])) ns h in
      let b = both (channel_of p.channels z) (λ d. refs_of item p.vars by >>= λ rs. Ok (node.Forward a.0 d rs ∷ [])) ns a.2 in
      let r = made (refs_of item p.vars by) (λ rs. node.Forward a.0 b.0 rs ∷ []) ns b.2 in
      one_leaf p n (node.Forward a.0 b.0 r.0) ns r.2 (channel_within p.channels x a.0 a.1, channel_within p.channels z b.0 b.1) refl
  end_layer (Call x f es ys by) p n ns am h =
      let a = both (channel_of p.channels x) (λ c. callee_of known item p f es ys by >>= λ k. Ok (node.Call c k.decl k.args k.ys k.refs ∷ [])) ns h in
      let b = made (callee_of known item p f es ys by) (λ k. node.Call a.0 k.decl k.args k.ys k.refs ∷ []) ns a.2 in
      one_leaf p n (node.Call a.0 b.0.decl b.0.args b.0.ys b.0.refs) ns b.2 (channel_within p.channels x a.0 a.1, callee_made p f es ys by b.0 b.1) refl
  end_layer (Case x first rest) p n ns am h =
      let a = both (channel_of p.channels x) (λ c. branches_of known.names [] (map (branch_of known item) (map (λ e. e.0) (first ∷ rest))) p (n + 1) >>= λ r. Ok (node.Case c r.0 ∷ r.1)) ns h in
      let b = made (branches_of known.names [] (map (branch_of known item) (map (λ e. e.0) (first ∷ rest))) p (n + 1)) (λ r. node.Case a.0 r.0 ∷ r.1) ns a.2 in
      let c = branches_grow p (n + 1) [] (first ∷ rest) b.0 am b.1 in
      let s = c.size ∙ sum_by-cons (λ y. y) (size_of_branch first.0) (map size_of_branch (map (λ e. e.0) rest)) in
      subst (λ z. Grows p n z × (length z ≡ 1 + (size_of_branch first.0 + sum (map size_of_branch (map (λ e. e.0) rest))))) b.2
      (case_grows p n a.0 b.0 (channel_within p.channels x a.0 a.1) c.labels c.forest, omega (arith, s))
  end_layer Impossible p n ns am h = one_leaf p n node.Impossible ns (same (node.Impossible ∷ []) ns h) tt refl

  end_at : (y : E) → OfEnd (roll-End (map-End (Such OfEnd) (Such OfBranch) (Such OfProc) End Branch Proc (λ e. e.0) (λ e. e.0) (λ e. e.0) y))
  unfolding OfEnd bare_end
  end_at y p n ns am h =
      let r = end_layer y p n ns (subst (AreAmong known.names) (fold-roll-End Texts Texts Texts end_names branch_names proc_names (bare_end y)) am)
      (sym (ap (λ f. f p n) (fold-roll-End Nodes (Text × Nodes) Nodes (end_step known item) branch_step (proc_step known item) (bare_end y))) ∙ h) in
      (r.0, r.1 ∙ sym (fold-roll-End ℕ ℕ ℕ end_size branch_size proc_size (bare_end y)))

  branch_at : (y : Branch-F (Such OfEnd) (Such OfBranch) (Such OfProc)) → OfBranch (roll-Branch (map-Branch (Such OfEnd) (Such OfBranch) (Such OfProc) End Branch Proc (λ e. e.0) (λ e. e.0) (λ e. e.0) y))
  unfolding OfBranch OfProc
  branch_at y am =
      let bare = map-Branch (Such OfEnd) (Such OfBranch) (Such OfProc) End Branch Proc (λ e. e.0) (λ e. e.0) (λ e. e.0) y in
      let names : names_in_branch (roll-Branch bare) ≡ y.label ∷ names_in_term y.body.0 = fold-roll-Branch Texts Texts Texts end_names branch_names proc_names bare in
      let is : branch_of known item (roll-Branch bare) ≡ (y.label, nodes_of known item y.body.0) = fold-roll-Branch Nodes (Text × Nodes) Nodes (end_step known item) branch_step (proc_step known item) bare in
      let size : size_of_branch (roll-Branch bare) ≡ size_of y.body.0 = fold-roll-Branch ℕ ℕ ℕ end_size branch_size proc_size bare in
      let among = subst (AreAmong known.names) names am in
      subst (λ z. (is_among z.0 known.names ≡ true) × ((p : Place) (n : ℕ) (ns : List Node) → Gave (z.1 p n) ns → Grows p n ns × (length ns ≡ size_of_branch (roll-Branch bare)))) (sym is)
      (among.0, λ p n ns h. let r = y.body.1 p n ns among.1 h in (r.0, r.1 ∙ sym size))

  proc_at : (y : Proc-F (Such OfEnd) (Such OfBranch) (Such OfProc)) → OfProc (roll-Proc (map-Proc (Such OfEnd) (Such OfBranch) (Such OfProc) End Branch Proc (λ e. e.0) (λ e. e.0) (λ e. e.0) y))
  unfolding OfEnd OfProc
  proc_at y p n ns am h =
      let bare = map-Proc (Such OfEnd) (Such OfBranch) (Such OfProc) End Branch Proc (λ e. e.0) (λ e. e.0) (λ e. e.0) y in
      let names : names_in_term (roll-Proc bare) ≡ flat_map step_names y.steps ++ names_in_end y.end.0 = fold-roll-Proc Texts Texts Texts end_names branch_names proc_names bare in
      let size : size_of (roll-Proc bare) ≡ length y.steps + size_of_end y.end.0 = fold-roll-Proc ℕ ℕ ℕ end_size branch_size proc_size bare in
      let among = subst (AreAmong known.names) names am in
      let gave = sym (ap (λ f. f p n) (fold-roll-Proc Nodes (Text × Nodes) Nodes (end_step known item) branch_step (proc_step known item) bare)) ∙ h in
      let a = both (steps_of known item y.steps p n) (λ r. end_of known item y.end.0 r.1 (n + length y.steps) >>= λ ns. Ok (r.0 ++ ns)) ns gave in
      let b = made (end_of known item y.end.0 a.0.1 (n + length y.steps)) (λ ns. a.0.0 ++ ns) ns a.2 in
      let steps = steps_grow p n y.steps a.0 (left_among known.names (flat_map step_names y.steps) (names_in_end y.end.0) among) a.1 in
      let ends = y.end.1 a.0.1 (n + length y.steps) b.0 (right_among known.names (flat_map step_names y.steps) (names_in_end y.end.0) among) b.1 in
      subst (λ z. Grows p n z × (length z ≡ size_of (roll-Proc bare))) b.2 (steps.1 b.0 ends.0, length-append a.0.0 b.0 ∙ ap₂ (λ s t. s + t) steps.0 ends.1 ∙ sym size)

  pub term_grows : (t : Proc) (p : Place) (n : ℕ) (ns : List Node) → AreAmong known.names (names_in_term t) → Gave (nodes_of known item t p n) ns → Grows p n ns × (length ns ≡ size_of t)
  unfolding OfProc
  term_grows = each_proc OfEnd OfBranch OfProc end_at branch_at proc_at
