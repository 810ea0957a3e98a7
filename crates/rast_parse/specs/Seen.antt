-- What a cursor has before it, and what is known of its tokens.
use Rattle.std.specs.Prelude.{ℕ, ◌+◌, nat_le, Bool, true, ◌&&◌, List, [], ◌∷◌, length}
use Rattle.rast_ast.specs.declared.kind.Kind.{Kind}
use Rattle.rast_ast.specs.declared.kind.Kind.TheVariants as kind
use Rattle.rast_ast.specs.Names.{is_name}
use Rattle.rast_lex.specs.declared.token.Token.{Token}
use Rattle.rast_lex.specs.Numbers.{is_number}
use Rattle.rast_lex.specs.Meaning.{slice_of}

-- whether the bytes of a token of this kind are as they must be
abbrev pub is_good_as : Kind → List ℕ → Bool
is_good_as kind.Name bytes = is_name bytes
is_good_as kind.Number bytes = is_number bytes
is_good_as k bytes = true

-- whether a token lies in the text, and is a name or a number where its kind says so
abbrev pub is_good : List ℕ → Token → Bool
is_good text t = nat_le (t.at + t.len) (length text) && is_good_as t.kind (slice_of text t)

abbrev pub are_good : List ℕ → List Token → Bool
are_good text [] = true
are_good text (t ∷ ts) = is_good text t && are_good text ts
