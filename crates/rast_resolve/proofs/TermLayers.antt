-- What the definitions say of a process term, from what they say of its parts.
use Rattle.std.proofs.Common.{◌≡◌, ℕ, ◌+◌, List, [], ◌∷◌, ◌++◌, length, map, sym, ◌∙◌, ap, ap₂, subst, refl, Ok}
use Rattle.rast_ast.specs.declared.process.Step.{Step}
use Rattle.rast_ast.specs.declared.process.Proc.{Proc}
use Rattle.rast_ast.specs.declared.process.Branch.{Branch}
use Rattle.rast_ast.specs.declared.process.End.{End}
use Rattle.rast_ast.specs.declared.process.End.TheVariants as ending
use Rattle.rast_ast.specs.declared.process.End.TheOpen.{Case}
use Rattle.rast_ast.specs.declared.process.End.TheFolds.{fold-roll-End, fold_out-Proc}
use Rattle.rast_terms.specs.declared.node.Node.{Node}
use Rattle.rast_terms.specs.declared.node.Node.TheVariants as node
use Rattle.rast_resolve.specs.declared.fault.NameErr.{NameErr}
use Rattle.rast_resolve.specs.Answers.{Answer, ◌>>=◌, Gives, Fails}
use Rattle.rast_resolve.specs.Scopes.{Text, Known}
use Rattle.rast_resolve.specs.Bodies.{Place, Nodes, nodes_of, term_nodes, steps_of, end_of, branch_of, branches_of, channel_of, end_step, branch_step, proc_step}
use Rattle.rast_resolve.proofs.Chains.{made_ok, made_fails}

module _ (known : Known) (item : Text) (p : Place) (n : ℕ) where
  pub case_at : (x : Text) (b : Branch) (bs : List Branch) → end_of known item (ending.Case x b bs) p n ≡
      (channel_of p.channels x >>= λ c. branches_of known.names [] (map (branch_of known item) (b ∷ bs)) p (n + 1) >>= λ r. Ok (node.Case c r.0 ∷ r.1))
  case_at x b bs = ap (λ e. end_of known item e p n) (sym (ending.rolls-Case x b bs))
      ∙ ap (λ f. f p n) (fold-roll-End Nodes (Text × Nodes) Nodes (end_step known item) branch_step (proc_step known item) (Case x b bs))

  pub case_gives : (w : End) (x : Text) (b : Branch) (bs more : List Branch) (r : Answer (List Node)) → w ≡ ending.Case x b bs → more ≡ bs →
      Gives (channel_of p.channels x >>= λ c. branches_of known.names [] (map (branch_of known item) (b ∷ more)) p (n + 1) >>= λ s. Ok (node.Case c s.0 ∷ s.1)) r → Gives (end_of known item w p n) r
  case_gives w x b bs more r is same h =
      let f : end_of known item w p n ≡ (channel_of p.channels x >>= λ c. branches_of known.names [] (map (branch_of known item) (b ∷ more)) p (n + 1) >>= λ s. Ok (node.Case c s.0 ∷ s.1)) =
      ap (λ z. end_of known item z p n) is ∙ case_at x b bs ∙ rw same refl in
      subst (λ a. Gives a r) (sym f) h

  module _ (ss : List Step) (e : End) (ns : List Node) (q : Place) (k l : ℕ) (is : steps_of known item ss p n ≡ Ok (ns, q)) (more : k ≡ n + l) (many : l ≡ length ss) where
    term_on : term_nodes known item ss e p n ≡ (end_of known item e q k >>= λ m. Ok (ns ++ m))
    term_on =
        ap (λ (a : Answer (List Node × Place)). a >>= λ r. end_of known item e r.1 (n + length ss) >>= λ m. Ok (r.0 ++ m)) is
        ∙ ap (λ j. end_of known item e q j >>= λ m. Ok (ns ++ m)) (sym (more ∙ ap (λ j. n + j) many))

    -- the nodes of the steps, and then those of the end
    pub term_made : (ms all : List Node) → end_of known item e q k ≡ Ok ms → all ≡ ns ++ ms → term_nodes known item ss e p n ≡ Ok all
    term_made ms all h same = made_ok _ (end_of known item e q k) (λ m. ns ++ m) ms all term_on h same

    -- a fault of the end is that of the steps and the end
    pub term_stops : (g : NameErr) → Fails (end_of known item e q k) g → Fails (term_nodes known item ss e p n) g
    term_stops g h = made_fails _ (end_of known item e q k) (λ m. ns ++ m) g term_on h

  pub proc_gives : (t : Proc) (ss : List Step) (e : End) (r : Answer (List Node)) → ss ≡ t.steps → e ≡ t.end → Gives (term_nodes known item ss e p n) r → Gives (nodes_of known item t p n) r
  proc_gives t ss e r same also h =
      let f : nodes_of known item t p n ≡ term_nodes known item ss e p n =
      ap (λ f. f p n) (fold_out-Proc Nodes (Text × Nodes) Nodes (end_step known item) branch_step (proc_step known item) t) ∙ ap₂ (λ y z. term_nodes known item y z p n) (sym same) (sym also) in
      subst (λ a. Gives a r) (sym f) h
