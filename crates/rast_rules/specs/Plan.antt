-- Programs in which each node has one place, and tables of judgements.
use Rattle.std.specs.Prelude.{◌≡◌, ℕ, ◌<◌, ◌≤◌, List, length, slice_get, Option, Some, Result}
use Rattle.rast_types.specs.declared.stop.Stop.{Stop}
use Rattle.rast_terms.specs.Nodes.{kids}
use Rattle.rast_terms.specs.declared.node.Node.{Node}
use Rattle.rast_rules.specs.Rules.{Program, Decl, Judgement, IsJudgement, children}

-- node m is the body of declaration k
pub record IsBody (g : Program) (k m : ℕ) : Type 0 where
  pub decl : Decl
  pub there : slice_get g.decls k ≡ Some decl
  pub is : decl.body ≡ m

-- child i of node n is node m
pub record IsKid (g : Program) (n i m : ℕ) : Type 0 where
  pub node : Node
  pub there : slice_get g.nodes n ≡ Some node
  pub is : slice_get (kids node) i ≡ Some m

-- no node has two places, as a body or as a child, and children come after their parents
pub record IsForest (g : Program) : Type 0 where
  pub forward : (n i m : ℕ) → IsKid g n i m → n < m
  pub bodies : (k l m : ℕ) → IsBody g k m → IsBody g l m → k ≡ l
  pub kids : (n p i j m : ℕ) → IsKid g n i m → IsKid g p j m → (n ≡ p) × (i ≡ j)
  pub apart : (k n i m : ℕ) → IsBody g k m → IsKid g n i m → ⊥

abbrev pub Judged : Type 0
Judged = List (Option Judgement)

-- the table has a judgement for the node
pub record HasJudgement (js : Judged) (m : ℕ) : Type 0 where
  pub judgement : Judgement
  pub is : slice_get js m ≡ Some (Some judgement)

-- a table of judgements, with an entry for each node
pub record AreJudged (g : Program) (js : Judged) : Type 0 where
  pub size : length js ≡ length g.nodes
  pub sound : (m : ℕ) (j : Judgement) → slice_get js m ≡ Some (Some j) → IsJudgement g m j

-- each node that has a judgement has it in the table
abbrev pub AreAll : Program → Judged → Type 0
AreAll g js = (m : ℕ) (j : Judgement) → IsJudgement g m j → HasJudgement js m

-- the bodies of the declarations below k have their judgements
abbrev pub HaveBodies : Program → ℕ → Judged → Type 0
HaveBodies g k js = (l : ℕ) (d : Decl) → l < k → slice_get g.decls l ≡ Some d → HasJudgement js d.body

-- the children i and up of a node have their judgements
abbrev pub HaveKids : Program → Judged → Node → ℕ → Type 0
HaveKids g js nd i = (l m : ℕ) → i ≤ l → slice_get (kids nd) l ≡ Some m → HasJudgement js m

-- the children of all nodes below n that have a judgement have theirs
abbrev pub HaveBelow : Program → ℕ → Judged → Type 0
HaveBelow g n js = (p : ℕ) (j : Judgement) (nd : Node) → p < n → IsJudgement g p j → slice_get g.nodes p ≡ Some nd → HaveKids g js nd 0

-- the list has, for each node below its length that has a judgement, what is read there
abbrev pub ReadsAll : {X : Type 0} → (Judgement → Node → X) → Judged → List Node → List X → Type 0
ReadsAll {X} f js ns xs = (m : ℕ) (j : Judgement) (nd : Node) → m < length xs → slice_get js m ≡ Some (Some j) → slice_get ns m ≡ Some nd → slice_get xs m ≡ Some (f j nd)

-- a node's judgement in the table, and its children's
pub record AreChildren (g : Program) (js : Judged) (n : ℕ) (nd : Node) (cs : List (Result Judgement Stop)) : Type 0 where
  pub at : Judgement
  pub is : slice_get js n ≡ Some (Some at)
  pub made : cs ≡ children g at nd
