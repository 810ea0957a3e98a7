-- The first token of a form that isn't built: files that don't begin with `explicit` aren't.
use Rattle.std.specs.Prelude.{ℕ, Bool, true, false, if◌then◌else◌, List, [], ◌∷◌, Option, Some, None}
use Rattle.rast_ast.specs.declared.kind.Kind.{Kind}
use Rattle.rast_ast.specs.declared.kind.Kind.TheVariants as kind
use Rattle.rast_lex.specs.declared.token.Token.{Token}

abbrev pub is_explicit : Kind → Bool
is_explicit kind.Explicit = true
is_explicit k = false

-- the place of the first token that isn't built; a file without tokens has none
abbrev pub unbuilt : List Token → Option ℕ
unbuilt [] = None
unbuilt (t ∷ ts) = if is_explicit t.kind then None else Some t.at
