-- Judgements, premises and children.
use Rattle.std.specs.Prelude.{◌≡◌, ℕ, ◌+◌, Bool, true, false, not, ◌&&◌, ◌||◌, if◌then◌else◌, ◌==◌, nat_lt, List, [], ◌∷◌, ◌++◌, map, filter, length, take, drop, zip, slice_get, Option, Some, None, is_some, Result, Ok, Err, All}
use Rattle.std.specs.List.{list_all, list_any}
use Rattle.rast_index.specs.Keys.{find_key, set_key, numbered}
use Rattle.rast_index.specs.Linear.{Linear, nought, replaced, less, plus, is_small, variables}
use Rattle.rast_index.specs.Truth.{Follows, is_equal, is_at_least, all_small}
use Rattle.rast_types.specs.Closed.{Table, Layer, kind_of, is_positive}
pub use Rattle.rast_rules.specs.declared.judgement.Plan.{Plan}
use Rattle.rast_types.specs.Symbolic.{Timed, exposed_type, made_exposed, put_type, made_type, is_deep, is_small_type, before_delay, after_delay, is_passed_over}
use Rattle.rast_equal.specs.Valid.{IsValidTable, IsValidType, nonneg}
use Rattle.rast_equal.specs.Walk.{IsSame, IsGoodTable, meets, count, top}
use Rattle.rast_terms.specs.Nodes.{Touch, touches, kids, refs_of}
pub use Rattle.rast_terms.specs.declared.program.Program.{Program}
pub use Rattle.rast_terms.specs.declared.program.Decl.{Decl}
pub use Rattle.rast_rules.specs.declared.judgement.Judgement.{Judgement}
use Rattle.rast_terms.specs.declared.node.Node.{Node}
use Rattle.rast_terms.specs.declared.node.Node.TheVariants as node
use Rattle.rast_types.specs.declared.ty.Kind.{Kind}
use Rattle.rast_types.specs.declared.ty.Kind.TheVariants as kind
use Rattle.rast_types.specs.declared.equation.Ref.{Ref}
use Rattle.rast_types.specs.declared.stop.Stop.{Stop}
use Rattle.rast_types.specs.declared.stop.Stop.TheVariants as stop
use Rattle.rast_rules.specs.declared.premise.Evidence.{Evidence}
use Rattle.rast_rules.specs.declared.premise.Evidence.TheVariants as why
use Rattle.rast_rules.specs.declared.premise.Premise.{Premise}
use Rattle.rast_rules.specs.declared.premise.Premise.TheVariants.{Truth, Shape, Same, Passed}
use Rattle.rast_index.specs.declared.formula.Formula.{Formula}
use Rattle.rast_index.specs.declared.formula.Formula.TheVariants as form
use Rattle.rast_types.specs.declared.ty.Ty.{Ty, out-Ty}
use Rattle.rast_types.specs.declared.ty.Ty.TheOpen.{Plus, With, Tensor, Lolli, Ex, All as Each, Assert, Assume, Pays, Gets}
use Rattle.rast_types.specs.declared.ty.Ty.TheVariants as ty

-- ---- judgements

abbrev pub defs : Program → Table
defs g = g.types.defs

abbrev pub is_provided : Judgement → ℕ → Bool
is_provided j x = x == j.gives.0

abbrev pub used_type : Judgement → ℕ → Option Ty
used_type j x = find_key x j.uses

abbrev pub type_of : Judgement → ℕ → Option Ty
type_of j x = if is_provided j x then Some j.gives.1 else used_type j x

abbrev pub with_type : Judgement → ℕ → Ty → Judgement
with_type j x a = if is_provided j x then record j { gives = (x, a) } else record j { uses = set_key x a j.uses }

abbrev pub without : Judgement → List ℕ → Judgement
without j ys = record j { uses = filter (λ u. not (list_any (λ y. y == u.0) ys)) j.uses }

-- with one more used channel, at the next free number
abbrev pub with_channel : Judgement → Ty → Judgement
with_channel j a = record j { uses = j.uses ++ (j.fresh, a) ∷ []; fresh = j.fresh + 1 }

abbrev pub with_potential : Judgement → Linear → Judgement
with_potential j q = record j { potential = q }

abbrev pub with_premise : Judgement → Formula → Judgement
with_premise j f = let c = j.ctx in record j { ctx = record c { premises = c.premises ++ f ∷ [] } }

-- one more variable: the bound ones are numbered anew
abbrev pub widened : ℕ → Ty → Ty
widened n a = put_type (n + 1) (variables n) a

abbrev pub with_variable : Judgement → Judgement
with_variable j =
    let c = j.ctx in
    record j { ctx = record c { vars = c.vars + 1 }; uses = map (λ u. (u.0, widened c.vars u.1)) j.uses; gives = (j.gives.0, widened c.vars j.gives.1) }

-- the types of all channels, the provided one last, and whether it is the provided one
abbrev pub all_types : Judgement → List (Bool × Ty)
all_types j = map (λ u. (false, u.1)) j.uses ++ (true, j.gives.1) ∷ []

abbrev pub is_small_judgement : Judgement → Bool
is_small_judgement j = list_all (λ a. is_small_type a.1) (all_types j) && (is_small j.potential && list_all all_small j.ctx.premises)

-- a judgement within the limits: 16 variables, 16 channels, numbers below 2 ^ 32
abbrev pub limited : Judgement → Result Judgement Stop
limited j =
    if nat_lt 16 j.ctx.vars || list_any (λ a. is_deep j.ctx.vars a.1) (all_types j) then Err stop.Variables
    else (if nat_lt 15 (length j.uses) then Err stop.Channels
    else (if is_small_judgement j then Ok j else Err stop.Coefficient))

-- the judgement of a declaration's body
abbrev pub root : ℕ → Decl → Judgement
root k d = record { decl = k; ctx = record { vars = d.params; premises = [] }; uses = numbered 1 d.uses; potential = d.potential; gives = (0, d.gives); fresh = length d.uses + 1 }

-- ---- parts of a head

abbrev pub choices_layer : Layer → List (ℕ × Ty)
choices_layer (Plus ts) = ts
choices_layer (With ts) = ts
choices_layer layer = []

abbrev pub pair_layer : Layer → Option (Ty × Ty)
pair_layer (Tensor a b) = Some (a, b)
pair_layer (Lolli a b) = Some (a, b)
pair_layer layer = None

abbrev pub inner_layer : Layer → Option Ty
inner_layer (Ex a) = Some a
inner_layer (Each a) = Some a
inner_layer (Assert f a) = Some a
inner_layer (Assume f a) = Some a
inner_layer (Pays p a) = Some a
inner_layer (Gets p a) = Some a
inner_layer layer = None

abbrev pub formula_layer : Layer → Formula
formula_layer (Assert f a) = f
formula_layer (Assume f a) = f
formula_layer layer = form.True

abbrev pub amount_layer : Layer → Linear
amount_layer (Pays p a) = p
amount_layer (Gets p a) = p
amount_layer layer = nought

-- a part that isn't there is the type 1
abbrev pub or_one : Option Ty → Ty
or_one None = ty.One
or_one (Some a) = a

abbrev pub first_or : Option (Ty × Ty) → Ty
first_or None = ty.One
first_or (Some e) = e.0

abbrev pub second_or : Option (Ty × Ty) → Ty
second_or None = ty.One
second_or (Some e) = e.1

abbrev pub choices_of : Ty → List (ℕ × Ty)
choices_of a = choices_layer (out-Ty a)

abbrev pub first_of_pair : Ty → Ty
first_of_pair a = first_or (pair_layer (out-Ty a))

abbrev pub second_of_pair : Ty → Ty
second_of_pair a = second_or (pair_layer (out-Ty a))

abbrev pub inner_of : Ty → Ty
inner_of a = or_one (inner_layer (out-Ty a))

abbrev pub formula_of : Ty → Formula
formula_of a = formula_layer (out-Ty a)

abbrev pub amount_of : Ty → Linear
amount_of a = amount_layer (out-Ty a)

-- ---- premises, each with its number, up to the first that stops

pub data Asked : Type 0 where
  Is : (goal : Formula) → Asked
  Shaped : (ok : Bool) (why : Evidence) → Asked
  -- two types have to be the same; the second or the first was made, where it could be
  Alike : (a b : Ty) (failed : Option Stop) → Asked
  Stopped : (stop : Stop) → Asked

abbrev pub Askings : Type 0
Askings = List (ℕ × Asked)

abbrev pub linear : ℕ → ℕ → Bool → ℕ × Asked
linear k x ok = (k, Shaped ok (why.Linear x))

abbrev pub is_kind : Option Kind → Option Kind → Bool
is_kind (Some a) (Some b) = same_kind a b
  where
    same_kind : Kind → Kind → Bool
    same_kind kind.Plus kind.Plus = true
    same_kind kind.With kind.With = true
    same_kind kind.Tensor kind.Tensor = true
    same_kind kind.Lolli kind.Lolli = true
    same_kind kind.One kind.One = true
    same_kind kind.Ex kind.Ex = true
    same_kind kind.All kind.All = true
    same_kind kind.Assert kind.Assert = true
    same_kind kind.Assume kind.Assume = true
    same_kind kind.Pays kind.Pays = true
    same_kind kind.Gets kind.Gets = true
    same_kind a b = false
is_kind a b = false

-- a formula over terms that were made
abbrev pub made_truth : ℕ → Formula → ℕ × Asked
made_truth k f = if all_small f then (k, Is f) else (k, Stopped stop.Coefficient)

abbrev pub failure : {X : Type 0} → Result X Stop → Option Stop
failure {X} (Ok x) = None
failure {X} (Err s) = Some s

abbrev pub head_asked : Kind → Kind → ℕ × Asked
head_asked want found = (2, Shaped (is_kind (Some want) (Some found)) (why.Head found))

abbrev pub head_is : Kind → Option Kind → Askings
head_is want None = []
head_is want (Some found) = head_asked want found ∷ []

abbrev pub known : Option Kind → Bool
known k = is_some k

-- whether a channel stands in a list before
abbrev pub is_new : List ℕ → ℕ → Bool
is_new seen y = not (list_any (λ z. z == y) seen)

abbrev pub are_used : Judgement → ℕ → List ℕ → List ℕ → Askings
are_used j k seen [] = []
are_used j k seen (y ∷ ys) = linear k y (is_some (used_type j y) && is_new seen y) ∷ are_used j k (y ∷ seen) ys

-- no used channel is left
abbrev pub none_left : ℕ → List (ℕ × Ty) → Askings
none_left k [] = linear k 0 true ∷ []
none_left k (u ∷ us) = linear k u.0 false ∷ []

abbrev pub label_asked : List (ℕ × Ty) → ℕ → ℕ × Asked
label_asked ts l = (4, Shaped (is_some (find_key l ts)) (why.Label l))

abbrev pub has_branch : List (ℕ × ℕ) → ℕ → ℕ × Asked
has_branch bs l = (4, Shaped (is_some (find_key l bs)) (why.Label l))

-- what is asked further of a node whose channel has this head
abbrev pub further : Judgement → Node → Ty → Askings
further j (node.Label x l n) h = label_asked (choices_of h) l ∷ []
further j (node.Case x bs) h = map (λ b. label_asked (choices_of h) b.0) bs ++ map (λ t. has_branch bs t.0) (choices_of h)
further j (node.Send x w rs n) h = linear 4 w (is_some (used_type j w) && not (w == x)) ∷ (5, Alike (or_one (used_type j w)) (first_of_pair h) None) ∷ []
further j (node.Index x e n) h = (4, Is (nonneg e)) ∷ []
further j (node.Assert x n) h = (4, Is (formula_of h)) ∷ []
further j (node.Pay x n) h = (4, Is (is_at_least j.potential (amount_of h))) ∷ []
further j (node.Close x) h = none_left 4 j.uses ++ (5, Is (is_equal j.potential nought)) ∷ []
further j n h = []

abbrev pub at_head : Judgement → Node → Kind → Result Timed Stop → Askings
at_head j n want (Err s) = (2, Stopped s) ∷ []
at_head j n want (Ok e) = head_is want (kind_of e.body) ++ ((3, Is (is_equal e.ticks nought)) ∷ further j n e.body)

abbrev pub at_channel : Program → Judgement → Node → ℕ → Option Kind → Option Ty → Askings
at_channel g j n x (Some want) (Some a) = linear 1 x true ∷ at_head j n want (made_exposed (defs g) j.ctx.vars a)
at_channel g j n x want a = linear 1 x false ∷ []

abbrev pub touch_asked : Program → Judgement → Node → Touch → Askings
touch_asked g j n t = at_channel g j n t.x (if is_provided j t.x then t.provided else t.used) (type_of j t.x)

-- the declared types of a callee at its arguments, and its potential there
abbrev pub at_args : Judgement → List Linear → Ty → Ty
at_args j es a = put_type j.ctx.vars es a

abbrev pub arg_asked : Judgement → ℕ → List Linear → (ℕ × Ty) → ℕ × Asked
arg_asked j k es u = let b = at_args j es u.1 in (k, Alike (or_one (used_type j u.0)) b (failure (made_type j.ctx.vars b)))

abbrev pub spawn_asked : Judgement → List Linear → List ℕ → Option Decl → Askings
spawn_asked j es ys None = []
spawn_asked j es ys (Some d) =
    map (λ e. (1, Is (nonneg e))) es ++ (are_used j 2 [] ys ++ (made_truth 3 (is_at_least j.potential (replaced es d.potential)) ∷ map (arg_asked j 4 es) (zip ys d.uses)))

abbrev pub call_asked : Judgement → ℕ → List Linear → List ℕ → Option Decl → Askings
call_asked j x es ys None = []
call_asked j x es ys (Some d) =
    let b = at_args j es d.gives in
    map (λ e. (1, Is (nonneg e))) es ++ (linear 2 x (is_provided j x) ∷ (are_used j 3 [] ys ++ (none_left 3 (without j ys).uses ++ (made_truth 4 (is_equal j.potential (replaced es d.potential)) ∷ (map (arg_asked j 5 es) (zip ys d.uses) ++ (5, Alike b j.gives.1 (failure (made_type j.ctx.vars b))) ∷ [])))))

abbrev pub forward_asked : Judgement → ℕ → ℕ → Askings
forward_asked j x y =
    linear 1 x (is_provided j x) ∷ linear 1 y (is_some (used_type j y)) ∷ (none_left 2 (without j (y ∷ [])).uses ++ ((3, Is (is_equal j.potential nought)) ∷ (4, Alike (or_one (used_type j y)) j.gives.1 None) ∷ []))

abbrev pub delay_asked : Program → Judgement → Linear → Ty → ℕ × Asked
delay_asked g j t a = made_truth 2 (is_at_least (before_delay (defs g) j.ctx.vars a).ticks t)

abbrev pub other_asked : Program → Judgement → Node → Askings
other_asked g j (node.Forward x y rs) = forward_asked j x y
other_asked g j (node.Spawn v d es ys rs n) = spawn_asked j es ys (slice_get g.decls d)
other_asked g j (node.Call x d es ys rs) = call_asked j x es ys (slice_get g.decls d)
other_asked g j node.Impossible = (1, Is form.False) ∷ []
other_asked g j (node.Work r n) = (1, Is (nonneg r)) ∷ (2, Is (is_at_least j.potential r)) ∷ []
other_asked g j (node.Delay t n) = (1, Is (nonneg t)) ∷ map (λ a. delay_asked g j t a.1) (filter (λ a. not (is_passed_over (defs g) j.ctx.vars a)) (all_types j))
other_asked g j n = []

abbrev pub node_asked : Program → Judgement → Node → Option Touch → Askings
node_asked g j n (Some t) = touch_asked g j n t
node_asked g j n None = other_asked g j n

-- all that is asked of a node
abbrev pub asked : Program → Judgement → Node → Askings
asked g j n = node_asked g j n (touches n)

abbrev pub is_alike : Asked → Bool
is_alike (Is goal) = false
is_alike (Shaped ok w) = false
is_alike (Alike a b failed) = true
is_alike (Stopped s) = false

-- how many references this one gets: the last that asks for sameness gets all that are left
abbrev pub share : ℕ → List Ref → Asked → Askings → ℕ
share n rs (Is goal) more = 0
share n rs (Shaped ok w) more = 0
share n rs (Alike a b failed) more = if list_any (λ m. is_alike m.1) more then count (meets a b (top n [])) else length rs
share n rs (Stopped s) more = 0

abbrev pub same_or_passed : Ty → Ty → List Ref → Option Stop → Premise
same_or_passed a b rs None = Same a b rs
same_or_passed a b rs (Some s) = Passed s

abbrev pub premise_of : Asked → List Ref → Premise
premise_of (Is goal) rs = Truth goal
premise_of (Shaped ok w) rs = Shape ok w
premise_of (Alike a b failed) rs = same_or_passed a b rs failed
premise_of (Stopped s) rs = Passed s

-- the references are dealt out in order
abbrev pub deal : ℕ → List Ref → Askings → List (ℕ × Premise)
deal n rs [] = []
deal n rs (a ∷ as') = let k = share n rs a.1 as' in (a.0, premise_of a.1 (take k rs)) ∷ deal n (drop k rs) as'

abbrev pub stops : Premise → Bool
stops (Truth goal) = false
stops (Shape ok w) = not ok
stops (Same a b rs) = false
stops (Passed s) = true

-- up to and with the first that stops
abbrev pub until_stop : List (ℕ × Premise) → List (ℕ × Premise)
until_stop [] = []
until_stop (p ∷ ps) = if stops p.1 then p ∷ [] else p ∷ until_stop ps

-- the premises of a node, with their numbers
abbrev pub premises : Program → Judgement → Node → List (ℕ × Premise)
premises g j n = until_stop (deal j.ctx.vars (refs_of n) (asked g j n))

-- ---- children

abbrev pub head_at : Program → Judgement → ℕ → Ty
head_at g j x = (exposed_type (defs g) j.ctx.vars (or_one (type_of j x))).body

abbrev pub spawned : Judgement → List Linear → List ℕ → Option Decl → Judgement
spawned j es ys None = j
spawned j es ys (Some d) = with_channel (with_potential (without j ys) (less j.potential (replaced es d.potential))) (at_args j es d.gives)

abbrev pub delayed : Program → Judgement → Linear → Judgement
delayed g j t = record j { uses = map (λ u. (u.0, after_delay (defs g) j.ctx.vars t false u.1)) j.uses; gives = (j.gives.0, after_delay (defs g) j.ctx.vars t true j.gives.1) }

-- the judgement of the one child; h is the head of the channel that the node touches
abbrev pub child_at : Program → Judgement → Node → (ℕ → Ty) → List Judgement
child_at g j (node.Label x l n) h = with_type j x (or_one (find_key l (choices_of (h x)))) ∷ []
child_at g j (node.Case x bs) h = map (λ b. with_type j x (or_one (find_key b.0 (choices_of (h x))))) bs
child_at g j (node.Send x w rs n) h = with_type (without j (w ∷ [])) x (second_of_pair (h x)) ∷ []
child_at g j (node.Recv x y n) h = with_channel (with_type j x (second_of_pair (h x))) (first_of_pair (h x)) ∷ []
child_at g j (node.Index x e n) h = with_type j x (put_type j.ctx.vars (variables j.ctx.vars ++ e ∷ []) (inner_of (h x))) ∷ []
child_at g j (node.Bind x v n) h = with_type (with_variable j) x (inner_of (h x)) ∷ []
child_at g j (node.Assert x n) h = with_type j x (inner_of (h x)) ∷ []
child_at g j (node.Assume x n) h = with_premise (with_type j x (inner_of (h x))) (formula_of (h x)) ∷ []
child_at g j (node.Pay x n) h = with_potential (with_type j x (inner_of (h x))) (less j.potential (amount_of (h x))) ∷ []
child_at g j (node.Get x n) h = with_potential (with_type j x (inner_of (h x))) (plus j.potential (amount_of (h x))) ∷ []
child_at g j (node.Close x) h = []
child_at g j (node.Wait x n) h = without j (x ∷ []) ∷ []
child_at g j (node.Forward x y rs) h = []
child_at g j (node.Spawn v d es ys rs n) h = spawned j es ys (slice_get g.decls d) ∷ []
child_at g j (node.Call x d es ys rs) h = []
child_at g j node.Impossible h = []
child_at g j (node.Work r n) h = with_potential j (less j.potential r) ∷ []
child_at g j (node.Delay t n) h = delayed g j t ∷ []

-- the judgements of a node's children, in order
abbrev pub children : Program → Judgement → Node → List (Result Judgement Stop)
children g j n = map limited (child_at g j n (head_at g j))

-- ---- accepted programs

-- a node has a judgement: at a declaration's body, or as a child
pub data IsJudgement (g : Program) : ℕ → Judgement → Type 0 where
  at_root : (k : ℕ) (d : Decl) (j : Judgement) → slice_get g.decls k ≡ Some d → limited (root k d) ≡ Ok j → IsJudgement g d.body j
  at_child : (n : ℕ) (j : Judgement) (nd : Node) (i m : ℕ) (c : Judgement) → IsJudgement g n j → slice_get g.nodes n ≡ Some nd → slice_get (kids nd) i ≡ Some m → slice_get (children g j nd) i ≡ Some (Ok c) → IsJudgement g m c

abbrev pub IsTruePremise : Program → Judgement → Premise → Type 0
IsTruePremise g j (Truth goal) = Follows j.ctx.vars j.ctx.premises goal
IsTruePremise g j (Shape ok w) = ok ≡ true
IsTruePremise g j (Same a b rs) = IsSame g.equations j.ctx.vars j.ctx.premises a b rs
IsTruePremise g j (Passed s) = ⊥

abbrev pub IsMade : Result Judgement Stop → Type 0
IsMade (Ok j) = Unit {0}
IsMade (Err s) = ⊥

-- every premise of the node is true, and its children can be made
pub record IsRight (g : Program) (j : Judgement) (n : Node) : Type 0 where
  pub premises : All (λ p. IsTruePremise g j p.1) (premises g j n)
  pub children : All IsMade (children g j n)

pub record IsValidDecl (g : Program) (d : Decl) : Type 0 where
  pub uses : All (IsValidType (defs g) d.params []) d.uses
  pub gives : IsValidType (defs g) d.params [] d.gives
  pub potential : Follows d.params [] (nonneg d.potential)

pub record IsAccepted (g : Program) : Type 0 where
  pub types : IsValidTable (defs g)
  pub decls : All (IsValidDecl g) g.decls
  pub equations : IsGoodTable (defs g) g.equations
  pub roots : (k : ℕ) (d : Decl) → slice_get g.decls k ≡ Some d → IsMade (limited (root k d))
  pub nodes : (n : ℕ) (j : Judgement) → IsJudgement g n j → (nd : Node) × (slice_get g.nodes n ≡ Some nd) × IsRight g j nd

-- ---- what a run reads of the types

abbrev pub positive_kind : Option Kind → Bool
positive_kind None = false
positive_kind (Some k) = is_positive k

-- whether a forward waits for a message toward the client; the amount that a pay pays
abbrev pub positive_at : Program → Judgement → Node → Bool
positive_at g j (node.Forward x y rs) = positive_kind (kind_of (head_at g j y))
positive_at g j n = false

abbrev pub paid_at : Program → Judgement → Node → Linear
paid_at g j (node.Pay x n) = amount_of (head_at g j x)
paid_at g j n = nought

pub record IsPlan (g : Program) (plan : Plan) : Type 0 where
  pub sides : length plan.positive ≡ length g.nodes
  pub amounts : length plan.paid ≡ length g.nodes
  pub positive : (n : ℕ) (j : Judgement) (nd : Node) → IsJudgement g n j → slice_get g.nodes n ≡ Some nd → slice_get plan.positive n ≡ Some (positive_at g j nd)
  pub paid : (n : ℕ) (j : Judgement) (nd : Node) → IsJudgement g n j → slice_get g.nodes n ≡ Some nd → slice_get plan.paid n ≡ Some (paid_at g j nd)
