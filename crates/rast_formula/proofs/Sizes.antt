-- How many parts a written term has.
use Rattle.std.proofs.Common.{◌≡◌, ℕ, zero, suc, ◌+◌, ◌<◌, List, [], ◌∷◌, map, length, get_or, sym, ap, ◌∙◌, arith}
use Rattle.rast_ast.specs.declared.term.Sign.{Sign}
use Rattle.rast_ast.specs.declared.term.Term.{Term}
use Rattle.rast_ast.specs.declared.term.Lin.{Lin}
use Rattle.rast_ast.specs.declared.term.Term.TheVariants as term
use Rattle.rast_ast.specs.declared.term.Term.TheOpen.{Term-F, Lin-F, Times, Number, Variable, Group}
use Rattle.rast_ast.specs.declared.term.Term.TheFolds.{fold-Term, fold-Lin, fold_out-Lin, fold-roll-Term}

abbrev pub sum_sizes : List (Sign × ℕ) → ℕ
sum_sizes [] = 1
sum_sizes (t ∷ ts) = t.1 + sum_sizes ts

abbrev term_parts : Term-F ℕ ℕ → ℕ
term_parts (Times k t) = suc t
term_parts (Number k) = 1
term_parts (Variable n) = 1
term_parts (Group l) = suc l

abbrev lin_parts : Lin-F ℕ ℕ → ℕ
lin_parts l = suc (suc (l.first + sum_sizes l.rest))

unfoldable pub term_size : Term → ℕ
term_size = fold-Term ℕ ℕ term_parts lin_parts

unfoldable pub lin_size : Lin → ℕ
lin_size = fold-Lin ℕ ℕ term_parts lin_parts

unfoldable pub rest_size : List (Sign × Term) → ℕ
rest_size ts = sum_sizes (map (λ t. (t.0, term_size t.1)) ts)

pub lin_size_at : (l : Lin) → lin_size l ≡ suc (suc (term_size l.first + rest_size l.rest))
unfolding lin_size term_size rest_size
lin_size_at l = fold_out-Lin ℕ ℕ term_parts lin_parts l

some_size : (ts : List (Sign × Term)) → 0 < rest_size ts
unfolding rest_size
some_size [] = omega arith
some_size (t ∷ ts) = let h = some_size ts in omega (arith, h)

pub item_size : (ts : List (Sign × Term)) (i : ℕ) (t : Sign × Term) → t ≡ get_or ts i t → i < length ts → term_size t.1 < rest_size ts
unfolding rest_size
item_size [] i t e lt = absurd (omega arith)
item_size (x ∷ ts) zero t e lt = let same : term_size t.1 ≡ term_size x.1 = ap (λ (y : Sign × Term). term_size y.1) e in let h = some_size ts in omega (arith, same, h)
item_size (x ∷ ts) (suc i) t e lt = let h = item_size ts i t e (omega arith) in omega (arith, h)

pub times_size : (k : ℕ) (t : Term) → term_size (term.Times k t) ≡ suc (term_size t)
unfolding term_size
times_size k t = ap (fold-Term ℕ ℕ term_parts lin_parts) (sym (term.rolls-Times k t)) ∙ fold-roll-Term ℕ ℕ term_parts lin_parts (Times k t)

pub group_size : (l : Lin) → term_size (term.Group l) ≡ suc (lin_size l)
unfolding term_size lin_size
group_size l = ap (fold-Term ℕ ℕ term_parts lin_parts) (sym (term.rolls-Group l)) ∙ fold-roll-Term ℕ ℕ term_parts lin_parts (Group l)

pub first_smaller : (l : Lin) (t : Term) → t ≡ l.first → term_size t < lin_size l
first_smaller l t e = let same = ap term_size e in let h = lin_size_at l in omega (arith, same, h)

pub rest_smaller : (l : Lin) (ts : List (Sign × Term)) → ts ≡ l.rest → rest_size ts < lin_size l
rest_smaller l ts e = let same = ap rest_size e in let h = lin_size_at l in omega (arith, same, h)
