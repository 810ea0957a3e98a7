-- The names of the variables in scope at a refused rule of types.
use Rattle.std.specs.Prelude.{ℕ, ◌+◌, ◌==◌, ◌&&◌, Bool, true, false, if◌then◌else◌, nat_lt, List, [], ◌∷◌, ◌++◌, map, take, drop, Option, Some, None}
use Rattle.rast_terms.specs.declared.program.Decl.{Decl}
use Rattle.rast_cooper.specs.Verdicts.{verdict, most_states}
use Rattle.rast_cooper.specs.declared.verdict.Verdict.{Verdict}
use Rattle.rast_cooper.specs.declared.verdict.Verdict.TheVariants.{Fails}
use Rattle.rast_types.specs.Closed.{Table}
use Rattle.rast_types.specs.declared.table.TypeDef.{TypeDef}
use Rattle.rast_types.specs.declared.ty.Ty.{Ty, roll-Ty}
use Rattle.rast_types.specs.declared.ty.Ty.TheOpen.{Ty-F, One, Plus, With, Tensor, Lolli, Named, Ex, All as Each, Assert, Assume, Pays, Gets, Next}
use Rattle.rast_types.specs.declared.ty.Ty.TheFolds.{fold-Ty, map-Ty}
use Rattle.rast_equal.specs.Valid.{Claim, Asks}
use Rattle.rast_equal.specs.WellMadeTypes.{quantifiers}
use Rattle.rast_check.specs.Questions.{is_asked, uses_claims}

-- ---- scopes

-- A type with the names in scope at each of its claims. Each quantifier takes the first of the names that are left, in preorder;
-- so the variables without a name are the last ones.
pub record Scoped : Type 0 where
  pub tree : Ty
  pub scopes : (vars : ℕ) (left scope : List ℕ) → List (List ℕ)

-- at what the rules ask of one node
abbrev pub own_scopes : Ty-F Scoped → List ℕ → List (List ℕ)
own_scopes (Named k args) s = map (λ a. s) args
own_scopes (Pays p a) s = s ∷ []
own_scopes (Gets p a) s = s ∷ []
own_scopes (Next l a) s = s ∷ s ∷ []
own_scopes layer s = []

-- at what they ask of types that stand side by side
abbrev pub scopes_of_each : List Scoped → ℕ → List ℕ → List ℕ → List (List ℕ)
scopes_of_each [] n left s = []
scopes_of_each (a ∷ as') n left s = a.scopes n left s ++ scopes_of_each as' n (drop (quantifiers a.tree) left) s

-- at what they ask below a node
abbrev pub scopes_below : Ty-F Scoped → ℕ → List ℕ → List ℕ → List (List ℕ)
scopes_below One n left s = []
scopes_below (Plus ts) n left s = scopes_of_each (map (λ e. e.1) ts) n left s
scopes_below (With ts) n left s = scopes_of_each (map (λ e. e.1) ts) n left s
scopes_below (Tensor a b) n left s = a.scopes n left s ++ b.scopes n (drop (quantifiers a.tree) left) s
scopes_below (Lolli a b) n left s = a.scopes n left s ++ b.scopes n (drop (quantifiers a.tree) left) s
scopes_below (Named k args) n left s = []
scopes_below (Ex a) n left s = a.scopes (n + 1) (drop 1 left) (s ++ take 1 left)
scopes_below (Each a) n left s = a.scopes (n + 1) (drop 1 left) (s ++ take 1 left)
scopes_below (Assert f a) n left s = a.scopes n left s
scopes_below (Assume f a) n left s = a.scopes n left s
scopes_below (Pays p a) n left s = a.scopes n left s
scopes_below (Gets p a) n left s = a.scopes n left s
scopes_below (Next l a) n left s = a.scopes n left s

-- as the claims, which end where there are more than 16 variables
abbrev pub scoped_step : Ty-F Scoped → Scoped
scoped_step x = record { tree = roll-Ty (map-Ty Scoped Ty (λ a. a.tree) x); scopes = λ n left s. if nat_lt 16 n then s ∷ [] else own_scopes x s ++ scopes_below x n left s }

abbrev pub scoped : Ty → Scoped
scoped = fold-Ty Scoped scoped_step

-- the names in scope at each claim of a type, in the order of the claims
abbrev pub scopes_of : ℕ → List ℕ → List ℕ → Ty → List (List ℕ)
scopes_of n left s a = (scoped a).scopes n left s

-- ---- the refused one

abbrev pub is_failing : Verdict → Bool
is_failing (Fails values) = true
is_failing v = false

-- whether a claim is of this rule in so many variables, and its decision finds it false
abbrev pub is_refuted : (rule vars : ℕ) → Claim → Bool
is_refuted rule vars (Asks r n ps goal) = (r == rule && n == vars) && (is_asked n ps goal && is_failing (verdict most_states n ps goal))
is_refuted rule vars c = false

-- the scope of the first such claim
abbrev pub refuted_scope : (rule vars : ℕ) → List Claim → List (List ℕ) → Option (List ℕ)
refuted_scope rule vars (c ∷ cs) (s ∷ ss) = if is_refuted rule vars c then Some s else refuted_scope rule vars cs ss
refuted_scope rule vars cs ss = None

abbrev pub or_else_names : List ℕ → Option (List ℕ) → List ℕ
or_else_names names None = names
or_else_names names (Some s) = s

-- The names of the variables in scope at a refused rule of types with so many parameters, of which these are said: first the
-- parameters, and then the types' quantifiers. A rule that isn't of a type stands in the scope of the parameters.
abbrev pub refused_names : Table → ℕ → List ℕ → List Ty → (rule vars : ℕ) → List ℕ
refused_names t n said as' rule vars =
    or_else_names (take n said) (refuted_scope rule vars (uses_claims t n as') (scopes_of_each (map scoped as') n (drop n said) (take n said)))

-- of a definition
abbrev pub refused_in_def : Table → List ℕ → Option TypeDef → (rule vars : ℕ) → List ℕ
refused_in_def t said None rule vars = []
refused_in_def t said (Some d) rule vars = refused_names t d.params said (d.body ∷ []) rule vars

-- of a declaration, whose used types are asked first
abbrev pub refused_in_decl : Table → List ℕ → Option Decl → (rule vars : ℕ) → List ℕ
refused_in_decl t said None rule vars = []
refused_in_decl t said (Some d) rule vars = refused_names t d.params said (d.uses ++ d.gives ∷ []) rule vars
