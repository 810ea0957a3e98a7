-- The nodes that a written process term stands for, in preorder.
use Rattle.std.specs.Prelude.{ℕ, ◌+◌, ◌==◌, ◌&&◌, ◌||◌, Bool, true, false, if◌then◌else◌, List, [], ◌∷◌, ◌++◌, map, length, Option, Some, None, Ok, Err}
use Rattle.rast_types.specs.declared.equation.Ref.{Ref}
use Rattle.rast_types.specs.declared.equation.Ref.TheVariants as ref
use Rattle.rast_terms.specs.declared.node.Node.{Node}
use Rattle.rast_terms.specs.declared.node.Node.TheVariants as node
use Rattle.rast_ast.specs.declared.term.Lin.{Lin}
use Rattle.rast_ast.specs.declared.process.Ref.{Ref as Written}
use Rattle.rast_ast.specs.declared.process.Ref.TheVariants as written
use Rattle.rast_ast.specs.declared.process.By.{By}
use Rattle.rast_ast.specs.declared.process.Step.{Step}
use Rattle.rast_ast.specs.declared.process.Step.TheVariants as step
use Rattle.rast_ast.specs.declared.process.Proc.{Proc}
use Rattle.rast_ast.specs.declared.process.End.{End}
use Rattle.rast_ast.specs.declared.process.Branch.{Branch}
use Rattle.rast_ast.specs.declared.process.End.TheOpen.{End-F, Branch-F, Proc-F, Close, Forward, Call, Case, Impossible}
use Rattle.rast_ast.specs.declared.process.End.TheFolds.{fold-Proc, fold-End, fold-Branch}
use Rattle.rast_resolve.specs.declared.fault.NameErr.TheVariants as fault
use Rattle.rast_resolve.specs.Answers.{Answer, ◌>>=◌, each}
use Rattle.rast_resolve.specs.Scopes.{Known, Counts, Text, Texts, is_among, place_of, newest_of, number_in, at_place, or_else}
use Rattle.rast_resolve.specs.Written.{linear_of, linears_of}
pub use Rattle.rast_resolve.specs.declared.place.Place.{Place}
pub use Rattle.rast_resolve.specs.declared.callees.Callee.{Callee}

-- the channel of a name: on its branch each binding has the next number
abbrev pub channel_at : Text → Option ℕ → Answer ℕ
channel_at n None = Err (fault.Unknown n)
channel_at n (Some c) = Ok c

abbrev pub channel_of : Texts → Text → Answer ℕ
channel_of channels n = channel_at n (newest_of n channels)

abbrev pub channels_of : Texts → Texts → Answer (List ℕ)
channels_of channels ns = each (map (channel_of channels) ns)

abbrev pub with_channel : Text → Place → Place
with_channel n p = record p { channels = p.channels ++ n ∷ [] }

abbrev pub with_variable : Text → Place → Place
with_variable n p = record p { vars = p.vars ++ n ∷ [] }

-- ---- references and callees

-- in a list of references the variables that a walk adds may be named
abbrev pub ref_of : Text → Texts → Written → Answer Ref
ref_of item vars written.Refl = Ok ref.Refl
ref_of item vars (written.Equation k es) = linears_of item true vars es >>= λ ls. Ok (ref.Eq k ls)

abbrev pub refs_of : Text → Texts → Option By → Answer (List Ref)
refs_of item vars None = Ok []
refs_of item vars (Some b) = each (map (ref_of item vars) (b.first ∷ b.rest))

abbrev pub is_process : Known → Text → Bool
is_process k f = is_among f k.decls || is_among f k.procs

-- the number of a declaration; a process without one has the number of declarations
abbrev pub decl_number : Known → Text → ℕ
decl_number k f = or_else (length k.decls) (place_of f k.decls)

-- the number of the first node of the body of this name
abbrev pub body_start : Known → Text → ℕ
body_start k f = or_else 0 (at_place k.starts (place_of f k.decls))

-- what the declaration of a process says, if there is one
abbrev pub declared : Known → Text → Option Counts
declared k f = at_place k.counts (place_of f k.decls)

-- the numbers of arguments and channels are those of the declaration, if there is one
abbrev pub is_counted : Option Counts → ℕ → ℕ → Bool
is_counted None params channels = true
is_counted (Some c) params channels = (params == c.params) && (channels == c.channels)

-- what a spawn and a call hand over
abbrev pub callee_of : Known → Text → Place → Text → List Lin → Texts → Option By → Answer Callee
callee_of known item p f es ys by =
    if is_process known f
    then (if is_counted (declared known f) (length es) (length ys)
    then (linears_of item false p.vars es >>= λ ls. channels_of p.channels ys >>= λ cs. refs_of item p.vars by >>= λ rs. Ok (record { decl = decl_number known f; args = ls; ys = cs; refs = rs }))
    else Err (fault.Arity f))
    else Err (fault.Unknown f)

-- ---- steps

-- a step's node, whose child has this number, and the place after it
abbrev pub step_of : Known → Text → Place → ℕ → Step → Answer (Node × Place)
step_of known item p n (step.Label x l) = channel_of p.channels x >>= λ c. Ok (node.Label c (number_in known.names l) n, p)
step_of known item p n (step.Send x w by) = channel_of p.channels x >>= λ c. channel_of p.channels w >>= λ d. refs_of item p.vars by >>= λ rs. Ok (node.Send c d rs n, p)
step_of known item p n (step.Index x e) = channel_of p.channels x >>= λ c. linear_of item false p.vars e >>= λ l. Ok (node.Index c l n, p)
step_of known item p n (step.Recv y x) = channel_of p.channels x >>= λ c. Ok (node.Recv c (number_in known.names y) n, with_channel y p)
step_of known item p n (step.Bind v x) = channel_of p.channels x >>= λ c. Ok (node.Bind c (number_in known.names v) n, with_variable v p)
step_of known item p n (step.Wait x) = channel_of p.channels x >>= λ c. Ok (node.Wait c n, p)
step_of known item p n (step.Spawn y f es ys by) = callee_of known item p f es ys by >>= λ k. Ok (node.Spawn (number_in known.names y) k.decl k.args k.ys k.refs n, with_channel y p)
step_of known item p n (step.Work r) = linear_of item false p.vars r >>= λ l. Ok (node.Work l n, p)
step_of known item p n (step.Delay t) = linear_of item false p.vars t >>= λ l. Ok (node.Delay l n, p)
step_of known item p n (step.Assert x) = channel_of p.channels x >>= λ c. Ok (node.Assert c n, p)
step_of known item p n (step.Assume x) = channel_of p.channels x >>= λ c. Ok (node.Assume c n, p)
step_of known item p n (step.Pay x) = channel_of p.channels x >>= λ c. Ok (node.Pay c n, p)
step_of known item p n (step.Get x) = channel_of p.channels x >>= λ c. Ok (node.Get c n, p)

-- ---- terms

-- the nodes of a part of a term, the first of which has this number
abbrev pub Nodes : Type 0
Nodes = Place → ℕ → Answer (List Node)

-- steps one after another: their nodes, and the place after them
abbrev pub steps_of : Known → Text → List Step → Place → ℕ → Answer (List Node × Place)
steps_of known item [] p n = Ok ([], p)
steps_of known item (s ∷ ss) p n = step_of known item p (n + 1) s >>= λ t. steps_of known item ss t.1 (n + 1) >>= λ r. Ok (t.0 ∷ r.0, r.1)

-- branches with their labels' numbers and first nodes, and all their nodes
abbrev pub Branches : Type 0
Branches = List (ℕ × ℕ) × List Node

abbrev pub branches_of : Texts → Texts → List (Text × Nodes) → Place → ℕ → Answer Branches
branches_of names seen [] p n = Ok ([], [])
branches_of names seen (b ∷ bs) p n =
    if is_among b.0 seen then Err (fault.Twice b.0)
    else (b.1 p n >>= λ ns. branches_of names (seen ++ b.0 ∷ []) bs p (n + length ns) >>= λ r. Ok ((number_in names b.0, n) ∷ r.0, ns ++ r.1))

abbrev pub end_step : Known → Text → End-F Nodes (Text × Nodes) Nodes → Nodes
end_step known item (Close x) p n = channel_of p.channels x >>= λ c. Ok (node.Close c ∷ [])
end_step known item (Forward x y by) p n = channel_of p.channels x >>= λ c. channel_of p.channels y >>= λ d. refs_of item p.vars by >>= λ rs. Ok (node.Forward c d rs ∷ [])
end_step known item (Call x f es ys by) p n = channel_of p.channels x >>= λ c. callee_of known item p f es ys by >>= λ k. Ok (node.Call c k.decl k.args k.ys k.refs ∷ [])
end_step known item (Case x first rest) p n = channel_of p.channels x >>= λ c. branches_of known.names [] (first ∷ rest) p (n + 1) >>= λ r. Ok (node.Case c r.0 ∷ r.1)
end_step known item Impossible p n = Ok (node.Impossible ∷ [])

abbrev pub branch_step : Branch-F Nodes (Text × Nodes) Nodes → Text × Nodes
branch_step b = (b.label, b.body)

abbrev pub proc_step : Known → Text → Proc-F Nodes (Text × Nodes) Nodes → Nodes
proc_step known item t p n = steps_of known item t.steps p n >>= λ r. t.end r.1 (n + length t.steps) >>= λ ns. Ok (r.0 ++ ns)

abbrev pub nodes_of : Known → Text → Proc → Nodes
nodes_of known item = fold-Proc Nodes (Text × Nodes) Nodes (end_step known item) branch_step (proc_step known item)

abbrev pub end_of : Known → Text → End → Nodes
end_of known item = fold-End Nodes (Text × Nodes) Nodes (end_step known item) branch_step (proc_step known item)

-- steps, and then the end
abbrev pub term_nodes : Known → Text → List Step → End → Nodes
term_nodes known item ss e p n = steps_of known item ss p n >>= λ r. end_of known item e r.1 (n + length ss) >>= λ ns. Ok (r.0 ++ ns)

abbrev pub branch_of : Known → Text → Branch → Text × Nodes
branch_of known item = fold-Branch Nodes (Text × Nodes) Nodes (end_step known item) branch_step (proc_step known item)
