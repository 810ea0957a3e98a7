-- The text of each keyword and symbol, and a number for each kind of token.
use Rattle.std.specs.Prelude.{ℕ, Bool, ◌==◌, List, [], codes}
use Rattle.rast_ast.specs.declared.kind.Kind.{Kind}
use Rattle.rast_ast.specs.declared.kind.Kind.TheVariants as kind

-- the bytes of a keyword or a symbol; a name and a number have bytes of their own
abbrev pub text_of : Kind → List ℕ
text_of kind.Name = []
text_of kind.Number = []
text_of kind.All = codes "all"
text_of kind.Assert = codes "assert"
text_of kind.Assume = codes "assume"
text_of kind.By = codes "by"
text_of kind.Case = codes "case"
text_of kind.Close = codes "close"
text_of kind.Decl = codes "decl"
text_of kind.Delay = codes "delay"
text_of kind.Eq = codes "eq"
text_of kind.Ex = codes "ex"
text_of kind.Exec = codes "exec"
text_of kind.Explicit = codes "explicit"
text_of kind.False = codes "false"
text_of kind.Get = codes "get"
text_of kind.If = codes "if"
text_of kind.Impossible = codes "impossible"
text_of kind.Now = codes "now"
text_of kind.Pay = codes "pay"
text_of kind.Proc = codes "proc"
text_of kind.Recv = codes "recv"
text_of kind.Refl = codes "refl"
text_of kind.Send = codes "send"
text_of kind.True = codes "true"
text_of kind.Type = codes "type"
text_of kind.Wait = codes "wait"
text_of kind.When = codes "when"
text_of kind.Work = codes "work"
text_of kind.Forward = codes "<->"
text_of kind.LeftArrow = codes "<-"
text_of kind.AtMost = codes "<="
text_of kind.NotEqual = codes "<>"
text_of kind.Less = codes "<"
text_of kind.RightArrow = codes "=>"
text_of kind.Equal = codes "="
text_of kind.AtLeast = codes ">="
text_of kind.Greater = codes ">"
text_of kind.And = codes "/\\"
text_of kind.Or = codes "\\/"
text_of kind.Lolli = codes "-o"
text_of kind.Minus = codes "-"
text_of kind.Plus = codes "+"
text_of kind.Ampersand = codes "&"
text_of kind.Star = codes "*"
text_of kind.Question = codes "?"
text_of kind.Exclamation = codes "!"
text_of kind.Dot = codes "."
text_of kind.Comma = codes ","
text_of kind.Colon = codes ":"
text_of kind.Semicolon = codes ";"
text_of kind.Bar = codes "|"
text_of kind.Tilde = codes "~"
text_of kind.OpenBrace = codes "{"
text_of kind.CloseBrace = codes "}"
text_of kind.OpenParen = codes "("
text_of kind.CloseParen = codes ")"
text_of kind.OpenBracket = codes "["
text_of kind.CloseBracket = codes "]"

-- a number for each kind
abbrev pub code : Kind → ℕ
code kind.Name = 0
code kind.Number = 1
code kind.All = 2
code kind.Assert = 3
code kind.Assume = 4
code kind.By = 5
code kind.Case = 6
code kind.Close = 7
code kind.Decl = 8
code kind.Delay = 9
code kind.Eq = 10
code kind.Ex = 11
code kind.Exec = 12
code kind.Explicit = 13
code kind.False = 14
code kind.Get = 15
code kind.If = 16
code kind.Impossible = 17
code kind.Now = 18
code kind.Pay = 19
code kind.Proc = 20
code kind.Recv = 21
code kind.Refl = 22
code kind.Send = 23
code kind.True = 24
code kind.Type = 25
code kind.Wait = 26
code kind.When = 27
code kind.Work = 28
code kind.Forward = 29
code kind.LeftArrow = 30
code kind.AtMost = 31
code kind.NotEqual = 32
code kind.Less = 33
code kind.RightArrow = 34
code kind.Equal = 35
code kind.AtLeast = 36
code kind.Greater = 37
code kind.And = 38
code kind.Or = 39
code kind.Lolli = 40
code kind.Minus = 41
code kind.Plus = 42
code kind.Ampersand = 43
code kind.Star = 44
code kind.Question = 45
code kind.Exclamation = 46
code kind.Dot = 47
code kind.Comma = 48
code kind.Colon = 49
code kind.Semicolon = 50
code kind.Bar = 51
code kind.Tilde = 52
code kind.OpenBrace = 53
code kind.CloseBrace = 54
code kind.OpenParen = 55
code kind.CloseParen = 56
code kind.OpenBracket = 57
code kind.CloseBracket = 58

-- whether two kinds are the same
abbrev pub is_kind : Kind → Kind → Bool
is_kind a b = code a == code b
