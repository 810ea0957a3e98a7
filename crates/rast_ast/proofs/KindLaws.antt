-- Kinds with the same number are the same.
use Rattle.std.proofs.Common.{◌≡◌, ℕ, true, cond, eqb, refl, sym, ◌∙◌, ap}
use Rattle.std.proofs.lemmas.Bool.{eqb-true, eq-eqb}
use Rattle.rast_ast.specs.declared.kind.Kind.{Kind}
use Rattle.rast_ast.specs.declared.kind.Kind.TheVariants as kind
use Rattle.rast_ast.specs.Kinds.{code, is_kind}

-- the kind of this number
abbrev kind_of : ℕ → Kind
kind_of n =
    cond (eqb n 0) kind.Name (
    cond (eqb n 1) kind.Number (
    cond (eqb n 2) kind.All (
    cond (eqb n 3) kind.Assert (
    cond (eqb n 4) kind.Assume (
    cond (eqb n 5) kind.By (
    cond (eqb n 6) kind.Case (
    cond (eqb n 7) kind.Close (
    cond (eqb n 8) kind.Decl (
    cond (eqb n 9) kind.Delay (
    cond (eqb n 10) kind.Eq (
    cond (eqb n 11) kind.Ex (
    cond (eqb n 12) kind.Exec (
    cond (eqb n 13) kind.Explicit (
    cond (eqb n 14) kind.False (
    cond (eqb n 15) kind.Get (
    cond (eqb n 16) kind.If (
    cond (eqb n 17) kind.Impossible (
    cond (eqb n 18) kind.Now (
    cond (eqb n 19) kind.Pay (
    cond (eqb n 20) kind.Proc (
    cond (eqb n 21) kind.Recv (
    cond (eqb n 22) kind.Refl (
    cond (eqb n 23) kind.Send (
    cond (eqb n 24) kind.True (
    cond (eqb n 25) kind.Type (
    cond (eqb n 26) kind.Wait (
    cond (eqb n 27) kind.When (
    cond (eqb n 28) kind.Work (
    cond (eqb n 29) kind.Forward (
    cond (eqb n 30) kind.LeftArrow (
    cond (eqb n 31) kind.AtMost (
    cond (eqb n 32) kind.NotEqual (
    cond (eqb n 33) kind.Less (
    cond (eqb n 34) kind.RightArrow (
    cond (eqb n 35) kind.Equal (
    cond (eqb n 36) kind.AtLeast (
    cond (eqb n 37) kind.Greater (
    cond (eqb n 38) kind.And (
    cond (eqb n 39) kind.Or (
    cond (eqb n 40) kind.Lolli (
    cond (eqb n 41) kind.Minus (
    cond (eqb n 42) kind.Plus (
    cond (eqb n 43) kind.Ampersand (
    cond (eqb n 44) kind.Star (
    cond (eqb n 45) kind.Question (
    cond (eqb n 46) kind.Exclamation (
    cond (eqb n 47) kind.Dot (
    cond (eqb n 48) kind.Comma (
    cond (eqb n 49) kind.Colon (
    cond (eqb n 50) kind.Semicolon (
    cond (eqb n 51) kind.Bar (
    cond (eqb n 52) kind.Tilde (
    cond (eqb n 53) kind.OpenBrace (
    cond (eqb n 54) kind.CloseBrace (
    cond (eqb n 55) kind.OpenParen (
    cond (eqb n 56) kind.CloseParen (
    cond (eqb n 57) kind.OpenBracket (
    kind.CloseBracket))))))))))))))))))))))))))))))))))))))))))))))))))))))))))

kind_of-code : (k : Kind) → kind_of (code k) ≡ k
kind_of-code kind.Name = refl
kind_of-code kind.Number = refl
kind_of-code kind.All = refl
kind_of-code kind.Assert = refl
kind_of-code kind.Assume = refl
kind_of-code kind.By = refl
kind_of-code kind.Case = refl
kind_of-code kind.Close = refl
kind_of-code kind.Decl = refl
kind_of-code kind.Delay = refl
kind_of-code kind.Eq = refl
kind_of-code kind.Ex = refl
kind_of-code kind.Exec = refl
kind_of-code kind.Explicit = refl
kind_of-code kind.False = refl
kind_of-code kind.Get = refl
kind_of-code kind.If = refl
kind_of-code kind.Impossible = refl
kind_of-code kind.Now = refl
kind_of-code kind.Pay = refl
kind_of-code kind.Proc = refl
kind_of-code kind.Recv = refl
kind_of-code kind.Refl = refl
kind_of-code kind.Send = refl
kind_of-code kind.True = refl
kind_of-code kind.Type = refl
kind_of-code kind.Wait = refl
kind_of-code kind.When = refl
kind_of-code kind.Work = refl
kind_of-code kind.Forward = refl
kind_of-code kind.LeftArrow = refl
kind_of-code kind.AtMost = refl
kind_of-code kind.NotEqual = refl
kind_of-code kind.Less = refl
kind_of-code kind.RightArrow = refl
kind_of-code kind.Equal = refl
kind_of-code kind.AtLeast = refl
kind_of-code kind.Greater = refl
kind_of-code kind.And = refl
kind_of-code kind.Or = refl
kind_of-code kind.Lolli = refl
kind_of-code kind.Minus = refl
kind_of-code kind.Plus = refl
kind_of-code kind.Ampersand = refl
kind_of-code kind.Star = refl
kind_of-code kind.Question = refl
kind_of-code kind.Exclamation = refl
kind_of-code kind.Dot = refl
kind_of-code kind.Comma = refl
kind_of-code kind.Colon = refl
kind_of-code kind.Semicolon = refl
kind_of-code kind.Bar = refl
kind_of-code kind.Tilde = refl
kind_of-code kind.OpenBrace = refl
kind_of-code kind.CloseBrace = refl
kind_of-code kind.OpenParen = refl
kind_of-code kind.CloseParen = refl
kind_of-code kind.OpenBracket = refl
kind_of-code kind.CloseBracket = refl

pub code_injective : (a b : Kind) → code a ≡ code b → a ≡ b
code_injective a b e = sym (kind_of-code a) ∙ ap kind_of e ∙ kind_of-code b

pub is_kind_same : (a b : Kind) → is_kind a b ≡ true → a ≡ b
is_kind_same a b e = code_injective a b (eqb-true (code a) (code b) e)

pub is_kind-refl : (a : Kind) → is_kind a a ≡ true
is_kind-refl a = eq-eqb (code a) (code a) refl
