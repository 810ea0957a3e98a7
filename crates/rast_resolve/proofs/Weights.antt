-- How much is left of a term: six times its nodes, and a little more where a part is looked at by more than one function.
use Rattle.std.proofs.Common.{◌≡◌, ℕ, zero, suc, ◌+◌, ◌*◌, ◌<◌, ◌≤◌, List, [], ◌∷◌, map, length, get_or, sym, ap, ◌∙◌, subst, arith}
use Rattle.std.specs.Prelude.{sum}
use Rattle.std.proofs.lemmas.List.Sums.{sum-map, sum_by-cons}
use Rattle.rast_ast.specs.declared.process.Proc.{Proc}
use Rattle.rast_ast.specs.declared.process.End.{End}
use Rattle.rast_ast.specs.declared.process.Branch.{Branch}
use Rattle.rast_ast.specs.declared.process.End.TheVariants as ending
use Rattle.rast_ast.specs.declared.process.End.TheOpen.{Case}
use Rattle.rast_ast.specs.declared.process.End.TheFolds.{fold-roll-End, fold_out-Proc, fold_out-Branch}
use Rattle.rast_resolve.specs.Scopes.{Text}
use Rattle.rast_resolve.specs.Names.{size_of, size_of_end, size_of_branch, end_size, branch_size, proc_size}

unfoldable pub end_weight : End → ℕ
end_weight e = 6 * size_of_end e

unfoldable pub term_weight : End → ℕ
term_weight e = 6 * size_of_end e + 1

unfoldable pub proc_weight : Proc → ℕ
proc_weight t = 6 * size_of t + 2

unfoldable pub branches_weight : List Branch → ℕ
branches_weight bs = 6 * sum (map size_of_branch bs) + 3

unfoldable pub cases_weight : Branch → List Branch → ℕ
cases_weight b bs = 6 * (size_of_branch b + sum (map size_of_branch bs)) + 4

unfoldable pub case_weight : Branch → List Branch → ℕ
case_weight b bs = 6 * (size_of_branch b + sum (map size_of_branch bs)) + 5

proc_size_at : (t : Proc) → size_of t ≡ length t.steps + size_of_end t.end
proc_size_at t = fold_out-Proc ℕ ℕ ℕ end_size branch_size proc_size t

branch_size_at : (b : Branch) → size_of_branch b ≡ size_of b.body
branch_size_at b = fold_out-Branch ℕ ℕ ℕ end_size branch_size proc_size b

case_size_at : (x : Text) (b : Branch) (bs : List Branch) → size_of_end (ending.Case x b bs) ≡ 1 + (size_of_branch b + sum (map size_of_branch bs))
case_size_at x b bs = ap size_of_end (sym (ending.rolls-Case x b bs)) ∙ fold-roll-End ℕ ℕ ℕ end_size branch_size proc_size (Case x b bs)

-- the arithmetic, over plain numbers
above_end : (n l e : ℕ) → n ≡ l + e → 6 * e + 1 < 6 * n + 2
above_end n l e h = omega (arith, h)

above_case : (e b s : ℕ) → e ≡ 1 + (b + s) → 6 * (b + s) + 5 < 6 * e
above_case e b s h = omega (arith, h)

above_cases : (n : ℕ) → 6 * n + 4 < 6 * n + 5
above_cases n = omega arith

above_body : (b n s : ℕ) → b ≡ n → 6 * n + 2 < 6 * (b + s) + 4
above_body b n s h = omega (arith, h)

above_rest : (b s : ℕ) → 6 * s + 3 < 6 * (b + s) + 4
above_rest b s = omega arith

above_item : (n s : ℕ) → n ≤ s → 6 * n + 2 < 6 * s + 3
above_item n s h = omega (arith, h)

one_of_sum : (n x s : ℕ) → n ≡ x → n ≤ x + s
one_of_sum n x s h = omega (arith, h)

rest_of_sum : (n x s : ℕ) → n ≤ s → n ≤ x + s
rest_of_sum n x s h = omega (arith, h)

one_more : (e : ℕ) → 6 * e < 6 * e + 1
one_more e = omega arith

pub term_below : (t : Proc) (e : End) → e ≡ t.end → term_weight e < proc_weight t
unfolding term_weight proc_weight
term_below t e is = above_end (size_of t) (length t.steps) (size_of_end e) (proc_size_at t ∙ ap (λ z. length t.steps + size_of_end z) (sym is))

pub end_below : (e : End) → end_weight e < term_weight e
unfolding end_weight term_weight
end_below e = one_more (size_of_end e)

pub case_below : (e : End) (x : Text) (b : Branch) (bs more : List Branch) → e ≡ ending.Case x b bs → more ≡ bs → case_weight b more < end_weight e
unfolding case_weight end_weight
case_below e x b bs more is same =
    above_case (size_of_end e) (size_of_branch b) (sum (map size_of_branch more)) (ap size_of_end is ∙ case_size_at x b bs ∙ ap (λ z. 1 + (size_of_branch b + sum (map size_of_branch z))) (sym same))

pub cases_below : (b : Branch) (bs : List Branch) → cases_weight b bs < case_weight b bs
unfolding cases_weight case_weight
cases_below b bs = above_cases (size_of_branch b + sum (map size_of_branch bs))

pub first_below : (b : Branch) (bs : List Branch) → proc_weight b.body < cases_weight b bs
unfolding proc_weight cases_weight
first_below b bs = above_body (size_of_branch b) (size_of b.body) (sum (map size_of_branch bs)) (branch_size_at b)

pub rest_below : (b : Branch) (bs : List Branch) → branches_weight bs < cases_weight b bs
unfolding branches_weight cases_weight
rest_below b bs = above_rest (size_of_branch b) (sum (map size_of_branch bs))

sum_step : (x : Branch) (bs : List Branch) → sum (map size_of_branch (x ∷ bs)) ≡ size_of_branch x + sum (map size_of_branch bs)
sum_step x bs = sum-map size_of_branch (x ∷ bs) ∙ sum_by-cons size_of_branch x bs ∙ ap (λ z. size_of_branch x + z) (sym (sum-map size_of_branch bs))

at_most_sum : (bs : List Branch) (i : ℕ) (b : Branch) → b ≡ get_or bs i b → i < length bs → size_of b.body ≤ sum (map size_of_branch bs)
at_most_sum [] i b e lt = absurd (omega arith)
at_most_sum (x ∷ bs) zero b e lt =
    subst (λ z. size_of b.body ≤ z) (sym (sum_step x bs)) (one_of_sum (size_of b.body) (size_of_branch x) (sum (map size_of_branch bs)) (sym (branch_size_at b) ∙ ap size_of_branch e))
at_most_sum (x ∷ bs) (suc i) b e lt =
    subst (λ z. size_of b.body ≤ z) (sym (sum_step x bs)) (rest_of_sum (size_of b.body) (size_of_branch x) (sum (map size_of_branch bs)) (at_most_sum bs i b e (omega arith)))

pub item_below : (bs : List Branch) (i : ℕ) (b : Branch) → b ≡ get_or bs i b → i < length bs → proc_weight b.body < branches_weight bs
unfolding proc_weight branches_weight
item_below bs i b e lt = above_item (size_of b.body) (sum (map size_of_branch bs)) (at_most_sum bs i b e lt)
