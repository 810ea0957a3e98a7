-- The type that a written one stands for.
use Rattle.std.specs.Prelude.{ℕ, ◌==◌, false, if◌then◌else◌, pos, List, [], ◌∷◌, ◌++◌, length, Option, Some, Ok, Err}
use Rattle.rast_index.specs.Linear.{fixed}
use Rattle.rast_types.specs.declared.ty.Ty.{Ty}
use Rattle.rast_types.specs.declared.ty.Ty.TheVariants as ty
use Rattle.rast_ast.specs.declared.term.Lin.{Lin}
use Rattle.rast_ast.specs.declared.type_expr.TypeExpr.{TypeExpr}
use Rattle.rast_ast.specs.declared.type_expr.Atom.{Atom}
use Rattle.rast_ast.specs.declared.type_expr.Choice.{Choice}
use Rattle.rast_ast.specs.declared.type_expr.Atom.TheOpen.{TypeExpr-F, Atom-F, Choice-F, Prefixed, Atom as Alone, Tensor, Lolli, One, Plus, With, Named, Group}
use Rattle.rast_ast.specs.declared.type_expr.Atom.TheFolds.{fold-TypeExpr, fold-Atom, fold-Choice}
use Rattle.rast_ast.specs.declared.type_expr.Prefix.{Prefix}
use Rattle.rast_ast.specs.declared.type_expr.Prefix.TheVariants as prefix
use Rattle.rast_resolve.specs.declared.fault.NameErr.TheVariants as fault
use Rattle.rast_resolve.specs.Answers.{Answer, ◌>>=◌}
use Rattle.rast_resolve.specs.Scopes.{Text, Texts, Known, is_among, place_of, number_in, at_place}
use Rattle.rast_resolve.specs.Written.{linear_of, linears_of, formula_of}

-- what a part gives where these variables are in scope
abbrev pub In : Type 0 → Type 0
In X = Texts → Answer X

-- the arguments of a name, whose number is looked at first
abbrev pub counted_args : Text → Texts → Text → List Lin → ℕ → ℕ → Answer Ty
counted_args item vars n es k params = if length es == params then (linears_of item false vars es >>= λ ls. Ok (ty.Named k ls)) else Err (fault.Arity n)

-- a definition by its name: its number, and how many parameters it has
abbrev pub named_at : Text → Texts → Text → List Lin → Option ℕ → Option ℕ → Answer Ty
named_at item vars n es (Some k) (Some params) = counted_args item vars n es k params
named_at item vars n es k params = Err (fault.Unknown n)

abbrev pub named : Known → Text → Text → List Lin → In Ty
named known item n es vars = named_at item vars n es (place_of n known.types) (at_place known.params (place_of n known.types))

-- a label that the choice has already is there twice
abbrev pub choices : Texts → Texts → List (Text × In Ty) → In (List (ℕ × Ty))
choices names seen [] vars = Ok []
choices names seen (c ∷ cs) vars =
    if is_among c.0 seen then Err (fault.Twice c.0) else (c.1 vars >>= λ a. choices names (seen ++ c.0 ∷ []) cs vars >>= λ as'. Ok ((number_in names c.0, a) ∷ as'))

abbrev pub prefixed : Text → Prefix → In Ty → In Ty
prefixed item (prefix.Ex n) body vars = body (vars ++ n ∷ []) >>= λ a. Ok (ty.Ex a)
prefixed item (prefix.All n) body vars = body (vars ++ n ∷ []) >>= λ a. Ok (ty.All a)
prefixed item (prefix.Assert f) body vars = formula_of item vars f >>= λ g. body vars >>= λ a. Ok (ty.Assert g a)
prefixed item (prefix.Assume f) body vars = formula_of item vars f >>= λ g. body vars >>= λ a. Ok (ty.Assume g a)
prefixed item (prefix.Pays l) body vars = linear_of item false vars l >>= λ p. body vars >>= λ a. Ok (ty.Pays p a)
prefixed item (prefix.Gets l) body vars = linear_of item false vars l >>= λ p. body vars >>= λ a. Ok (ty.Gets p a)
prefixed item prefix.NextOne body vars = body vars >>= λ a. Ok (ty.Next (fixed (pos 1)) a)
prefixed item (prefix.Next l) body vars = linear_of item false vars l >>= λ t. body vars >>= λ a. Ok (ty.Next t a)

abbrev pub Labels : Type 0
Labels = In (List (ℕ × Ty))

abbrev pub type_step : Text → TypeExpr-F (In Ty) (In Ty) Labels → In Ty
type_step item (Prefixed p a) vars = prefixed item p a vars
type_step item (Alone a) vars = a vars
type_step item (Tensor a b) vars = a vars >>= λ x. b vars >>= λ y. Ok (ty.Tensor x y)
type_step item (Lolli a b) vars = a vars >>= λ x. b vars >>= λ y. Ok (ty.Lolli x y)

abbrev pub atom_step : Known → Text → Atom-F (In Ty) (In Ty) Labels → In Ty
atom_step known item One vars = Ok ty.One
atom_step known item (Plus c) vars = c vars >>= λ ts. Ok (ty.Plus ts)
atom_step known item (With c) vars = c vars >>= λ ts. Ok (ty.With ts)
atom_step known item (Named n es) vars = named known item n es vars
atom_step known item (Group a) vars = a vars

abbrev pub choice_step : Texts → Choice-F (In Ty) (In Ty) Labels → Labels
choice_step names c vars = choices names [] ((c.label, c.body) ∷ c.rest) vars

abbrev pub type_of : Known → Text → TypeExpr → In Ty
type_of known item = fold-TypeExpr (In Ty) (In Ty) Labels (atom_step known item) (type_step item) (choice_step known.names)

abbrev pub atom_of : Known → Text → Atom → In Ty
atom_of known item = fold-Atom (In Ty) (In Ty) Labels (atom_step known item) (type_step item) (choice_step known.names)

abbrev pub choice_of : Known → Text → Choice → Labels
choice_of known item = fold-Choice (In Ty) (In Ty) Labels (atom_step known item) (type_step item) (choice_step known.names)
