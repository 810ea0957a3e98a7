-- A walk over the nodes of a body: what is still to be asked.
use Rattle.std.specs.Prelude.{◌≡◌, ℕ, zero, suc, ◌+◌, ◌-◌, ◌<◌, ◌≤◌, ◌++◌, List, [], ◌∷◌, sum_by, zip, length, slice_get, Option, Some, None, Result, Ok, Err, All}
use Rattle.rast_rules.specs.Rules.{Program, children}
use Rattle.rast_terms.specs.Nodes.{kids}
use Rattle.rast_terms.specs.declared.node.Node.{Node}
use Rattle.rast_rules.specs.declared.judgement.Judgement.{Judgement}
use Rattle.rast_types.specs.declared.stop.Stop.{Stop}
use Rattle.rast_check.specs.Questions.{Question, node_questions, first_error, refusal}
use Rattle.rast_check.specs.Decided.{searched}
use Rattle.rast_check.specs.Refusals.{Clears, IsRefusal}
use Rattle.rast_check.specs.declared.answer.CheckErr.{CheckErr}
use Rattle.rast_check.specs.declared.walk.Waiting.{Waiting}

-- a node with its judgement at a depth, and nodes
abbrev pub waits : ℕ → (ℕ × Result Judgement Stop) → Waiting
waits d e = record { node = e.0; depth = d; judgement = e.1 }

-- what is asked of a node that waits, and below it
abbrev pub waiting_questions : Program → Waiting → List Question
waiting_questions g x = node_questions g (length g.nodes - x.depth) (x.node, x.judgement)

-- what is asked of all that wait, of which the last comes first
abbrev pub left : Program → List Waiting → List Question
left g [] = []
left g (x ∷ xs) = left g xs ++ waiting_questions g x

-- how many nodes a walk visits at a node and below it
abbrev pub visits_below : ((ℕ × Result Judgement Stop) → ℕ) → Program → Judgement → Option Node → ℕ
visits_below below g j None = 1
visits_below below g j (Some nd) = 1 + sum_by below (zip (kids nd) (children g j nd))

abbrev pub visits_judged : ((ℕ × Result Judgement Stop) → ℕ) → Program → ℕ → Result Judgement Stop → ℕ
visits_judged below g n (Err s) = 1
visits_judged below g n (Ok j) = visits_below below g j (slice_get g.nodes n)

abbrev pub visits : Program → ℕ → (ℕ × Result Judgement Stop) → ℕ
visits g zero e = 1
visits g (suc f) e = visits_judged (visits g f) g e.0 e.1

abbrev pub waiting_visits : Program → Waiting → ℕ
waiting_visits g x = visits g (length g.nodes - x.depth) (x.node, x.judgement)

-- how many are still to be visited
abbrev pub visits_left : Program → List Waiting → ℕ
visits_left g xs = sum_by (waiting_visits g) xs

-- no node stands before its depth
pub record IsPlaced (g : Program) (x : Waiting) : Type 0 where
  pub deep : x.depth ≤ x.node
  pub there : x.node < length g.nodes

-- the first that was asked of those that wait was true and decided so, and the rest waits
pub record Brings (g : Program) (before after : List Waiting) : Type 0 where
  pub own : List Question
  pub met : left g before ≡ own ++ left g after
  pub fewer : visits_left g after < visits_left g before
  pub clear : Clears g own
  pub placed : All (IsPlaced g) after

-- a visit of the one that comes first, before these
abbrev pub Visits : {X : Type 0} → Program → Waiting → List Waiting → List Waiting → Result X CheckErr → Type 0
Visits {X} g x before after (Ok done) = Brings g (before ++ x ∷ []) after
Visits {X} g x before after (Err e) = IsRefusal (first_error (refusal searched g) (waiting_questions g x)) e
