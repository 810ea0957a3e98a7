-- The linear term that a written one stands for.
use Rattle.std.specs.Prelude.{ℕ, pos, if◌then◌else◌, nat_lt, List, [], ◌∷◌, Option, Some, None, Ok, Err}
use Rattle.rast_index.specs.Linear.{Linear, is_small, fixed, variable, plus, less, times}
use Rattle.rast_ast.specs.declared.term.Sign.{Sign}
use Rattle.rast_ast.specs.declared.term.Sign.TheVariants as sign
use Rattle.rast_ast.specs.declared.term.Term.{Term}
use Rattle.rast_ast.specs.declared.term.Lin.{Lin}
use Rattle.rast_ast.specs.declared.term.Term.TheOpen.{Term-F, Lin-F, Times, Number, Variable, Group}
use Rattle.rast_ast.specs.declared.term.Term.TheFolds.{fold-Term, fold-Lin}
use Rattle.rast_formula.specs.declared.refusal.ScopeErr.TheVariants as refusal
use Rattle.rast_formula.specs.Answers.{Answer, ◌>>=◌}
use Rattle.rast_formula.specs.Scopes.{Look, Text}

-- a term whose numbers are all below 2^32 in magnitude, or else a limit is passed
abbrev pub limited : Linear → Answer Linear
limited l = if is_small l then Ok l else Err refusal.Limit

-- only sixteen variables have numbers that a term may have
abbrev pub variable_at : Text → Option ℕ → Answer Linear
variable_at n None = Err (refusal.Unknown n)
variable_at n (Some k) = if nat_lt k 16 then Ok (variable k) else Err refusal.Limit

abbrev pub signed : Sign → Linear → Linear → Linear
signed sign.Plus a b = plus a b
signed sign.Minus a b = less a b

-- each sum of the first terms is within the limits
abbrev pub sums : Linear → List (Sign × Answer Linear) → Answer Linear
sums a [] = Ok a
sums a (t ∷ ts) = t.1 >>= λ b. limited (signed t.0 a b) >>= λ c. sums c ts

abbrev pub term_step : Look → Term-F (Answer Linear) (Answer Linear) → Answer Linear
term_step look (Times k t) = t >>= λ l. limited (times k l)
term_step look (Number k) = Ok (fixed (pos k))
term_step look (Variable n) = variable_at n (look n)
term_step look (Group l) = l

abbrev pub lin_step : Lin-F (Answer Linear) (Answer Linear) → Answer Linear
lin_step l = l.first >>= λ a. sums a l.rest

abbrev pub term_of : Look → Term → Answer Linear
term_of look = fold-Term (Answer Linear) (Answer Linear) (term_step look) lin_step

abbrev pub linear_of : Look → Lin → Answer Linear
linear_of look = fold-Lin (Answer Linear) (Answer Linear) (term_step look) lin_step

-- the answer for a term behind its sign
abbrev pub signed_of : Look → Sign × Term → Sign × Answer Linear
signed_of look t = (t.0, term_of look t.1)
