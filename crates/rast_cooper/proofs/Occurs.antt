-- Which variables occur in a literal that was made from others.
use Rattle.std.proofs.Common.{◌≡◌, ⊎_elim, ℕ, zero, suc, ◌/◌, List, [], ◌∷◌, ◌++◌, get_or, set, map, replicate, ◌∙◌, ap, ap₂, refl, arith, ℤ, pos, negsuc, ◌+ℤ◌, ◌*ℤ◌, neg_ℤ, Bool, true, false, not, ◌&&◌, ◌||◌, unsigned_abs, cond, Option, Some, None}
use Rattle.std.specs.List.{list_any}
use Rattle.std.proofs.lemmas.Int.{ints}
use Rattle.rast_cooper.specs.Arithmetic.{Linear, coefficient, put, times, both, added, minus, exchanged, variable}
use Rattle.rast_cooper.specs.declared.literal.Literal.{Literal}
use Rattle.rast_cooper.specs.Meaning.{literal}
use Rattle.rast_cooper.specs.Eliminate.{is_zero, is_equation, is_lower, has, halves, multiplied, scaled, substituted, without_equations, bound, bounds, sign, prepared_by}
use Rattle.rast_cooper.specs.declared.solution.Solution.{Solution}
use Rattle.rast_cooper.specs.Search.{solved_one, first_solved, unit, own, varied, ground}
use Rattle.rast_cooper.proofs.Values.{coefficient_times}
use Rattle.rast_cooper.proofs.Scaled.{zero_of}
use Rattle.rast_cooper.proofs.Points.{In}
use Rattle.rast_cooper.proofs.Test.{variable_is}

-- ---- coefficients
pub get_or-set_apart : (cs : List ℤ) (x y : ℕ) (c : ℤ) → (x ≡ y → ⊥) → get_or (set cs x c) y (pos 0) ≡ get_or cs y (pos 0)
get_or-set_apart [] x y c h = refl
get_or-set_apart (d ∷ cs) zero zero c h = absurd (h refl)
get_or-set_apart (d ∷ cs) zero (suc y) c h = refl
get_or-set_apart (d ∷ cs) (suc x) zero c h = refl
get_or-set_apart (d ∷ cs) (suc x) (suc y) c h = get_or-set_apart cs x y c (λ e. h (ap suc e))

get_or-set_zero : (cs : List ℤ) (x : ℕ) → get_or (set cs x (pos 0)) x (pos 0) ≡ pos 0
get_or-set_zero [] x = refl
get_or-set_zero (c ∷ cs) zero = refl
get_or-set_zero (c ∷ cs) (suc x) = get_or-set_zero cs x

pub get_or-both : (cs ds : List ℤ) (x : ℕ) → get_or (both cs ds) x (pos 0) ≡ get_or cs x (pos 0) +ℤ get_or ds x (pos 0)
get_or-both [] ds x = omega (arith, ints)
get_or-both (c ∷ cs) [] x = omega (arith, ints)
get_or-both (c ∷ cs) (d ∷ ds) zero = refl
get_or-both (c ∷ cs) (d ∷ ds) (suc x) = get_or-both cs ds x

pub coefficient_added : (a b : Linear) (x : ℕ) → coefficient (added a b) x ≡ coefficient a x +ℤ coefficient b x
coefficient_added a b x = get_or-both a.coefficients b.coefficients x

pub coefficient_put : (x y : ℕ) (c : ℤ) (l : Linear) → (x ≡ y → ⊥) → coefficient (put x c l) y ≡ coefficient l y
coefficient_put x y c l h = get_or-set_apart l.coefficients x y c h

pub coefficient_put_zero : (x : ℕ) (l : Linear) → coefficient (put x (pos 0) l) x ≡ pos 0
coefficient_put_zero x l = get_or-set_zero l.coefficients x

times_zero : (k c : ℤ) → c ≡ pos 0 → k *ℤ c ≡ pos 0
times_zero k c e = ap (λ z. k *ℤ z) e ∙ omega (arith, ints)

pub zero_times : (k : ℤ) (l : Linear) (x : ℕ) → coefficient l x ≡ pos 0 → coefficient (times k l) x ≡ pos 0
zero_times k l x e = coefficient_times k l x ∙ times_zero k (coefficient l x) e

pub zero_added : (a b : Linear) (x : ℕ) → coefficient a x ≡ pos 0 → coefficient b x ≡ pos 0 → coefficient (added a b) x ≡ pos 0
zero_added a b x e f = coefficient_added a b x ∙ ap₂ (λ y z. y +ℤ z) e f

pub zero_minus : (a b : Linear) (x : ℕ) → coefficient a x ≡ pos 0 → coefficient b x ≡ pos 0 → coefficient (minus a b) x ≡ pos 0
zero_minus a b x e f = zero_added a (times (negsuc 0) b) x e (zero_times (negsuc 0) b x f)

-- x is gone where t does not have it
pub exchanged_gone : (x : ℕ) (t l : Linear) → coefficient t x ≡ pos 0 → coefficient (exchanged x t l) x ≡ pos 0
exchanged_gone x t l e = zero_added (put x (pos 0) l) (times (coefficient l x) t) x (coefficient_put_zero x l) (zero_times (coefficient l x) t x e)

-- another variable is absent where it was
pub exchanged_zero : (x y : ℕ) (t l : Linear) → (x ≡ y → ⊥) → coefficient l y ≡ pos 0 → coefficient t y ≡ pos 0 → coefficient (exchanged x t l) y ≡ pos 0
exchanged_zero x y t l h e f = zero_added (put x (pos 0) l) (times (coefficient l x) t) y (coefficient_put x y (pos 0) l h ∙ e) (zero_times (coefficient l x) t y f)

get_or-zeros : (n x : ℕ) → get_or (replicate n (pos 0)) x (pos 0) ≡ pos 0
get_or-zeros zero x = refl
get_or-zeros (suc n) zero = refl
get_or-zeros (suc n) (suc x) = get_or-zeros n x

pub variable_other : (x y : ℕ) → (x ≡ y → ⊥) → coefficient (variable x) y ≡ pos 0
variable_other x y h = ap (λ l. coefficient l y) (variable_is x) ∙ get_or-set_apart (replicate 16 (pos 0)) x y (pos 1) h ∙ get_or-zeros 16 y

-- ---- absence
abbrev pub Lacks : ℕ → Literal → Type 0
Lacks x lit = coefficient lit.term x ≡ pos 0

pub lacks : (x : ℕ) (lit : Literal) → Lacks x lit → has x lit ≡ false
lacks x lit e = ap (λ c. not (is_zero c)) e

pub lacks_substituted : (x y : ℕ) (t : Linear) (lit : Literal) → (x ≡ y → ⊥) → Lacks y lit → coefficient t y ≡ pos 0 → Lacks y (substituted x t lit)
lacks_substituted x y t lit h e f = by (has x lit)
  where
    by : (b : Bool) → Lacks y (cond b (literal lit.sort lit.divisor (exchanged x t lit.term)) lit)
    by true = exchanged_zero x y t lit.term h e f
    by false = e

pub gone : (x : ℕ) (t : Linear) (lit : Literal) → coefficient t x ≡ pos 0 → Lacks x (substituted x t lit)
gone x t lit f = by (has x lit) refl
  where
    by : (b : Bool) → has x lit ≡ b → Lacks x (cond b (literal lit.sort lit.divisor (exchanged x t lit.term)) lit)
    by true e = exchanged_gone x t lit.term f
    by false e = zero_of _ e

pub lacks_scaled : (x y l : ℕ) (lit : Literal) → (x ≡ y → ⊥) → Lacks y lit → Lacks y (scaled x l lit)
lacks_scaled x y l lit h e = by (has x lit)
  where
    by : (b : Bool) → Lacks y (cond b (multiplied x (l / unsigned_abs (coefficient lit.term x)) lit) lit)
    by true = let k = l / unsigned_abs (coefficient lit.term x) in
        coefficient_put x y (sign (coefficient lit.term x)) (times (pos k) lit.term) h ∙ zero_times (pos k) lit.term y e
    by false = e

-- a literal of another variable alone is not touched
pub own_substituted : (x y : ℕ) (t : Linear) → (y ≡ x → ⊥) → substituted x t (own y) ≡ own y
own_substituted x y t h = ap (λ b. cond b (literal (own y).sort (own y).divisor (exchanged x t (own y).term)) (own y)) (lacks x (own y) (variable_other y x h))

pub own_scaled : (x y l : ℕ) → (y ≡ x → ⊥) → scaled x l (own y) ≡ own y
own_scaled x y l h = ap (λ b. cond b (multiplied x (l / unsigned_abs (coefficient (own y).term x)) (own y)) (own y)) (lacks x (own y) (variable_other y x h))

-- ---- all literals of a list lack a variable
abbrev pub AllLack : ℕ → List Literal → Type 0
AllLack y [] = Unit {0}
AllLack y (lit ∷ ls) = Lacks y lit × AllLack y ls

pub all_lack : (y : ℕ) (ls : List Literal) → AllLack y ls → list_any (has y) ls ≡ false
all_lack y [] h = refl
all_lack y (lit ∷ ls) h = ap₂ (λ a b. a || b) (lacks y lit h.0) (all_lack y ls h.1)

or_false : (a b : Bool) → (a || b) ≡ false → (a ≡ false) × (b ≡ false)
or_false true b e = absurd (cc)
or_false false b e = (refl, e)

pub lack_all : (y : ℕ) (ls : List Literal) → list_any (has y) ls ≡ false → AllLack y ls
lack_all y [] e = tt
lack_all y (lit ∷ ls) e = let p = or_false _ _ e in (zero_of _ p.0, lack_all y ls p.1)

lack_append : (y : ℕ) (ls ms : List Literal) → AllLack y ls → AllLack y ms → AllLack y (ls ++ ms)
lack_append y [] ms h k = k
lack_append y (lit ∷ ls) ms h k = (h.0, lack_append y ls ms h.1 k)

pub lack_substituted : (x y : ℕ) (t : Linear) (ls : List Literal) → (x ≡ y → ⊥) → coefficient t y ≡ pos 0 → AllLack y ls → AllLack y (map (substituted x t) ls)
lack_substituted x y t [] h e k = tt
lack_substituted x y t (lit ∷ ls) h e k = (lacks_substituted x y t lit h k.0 e, lack_substituted x y t ls h e k.1)

pub gone_all : (x : ℕ) (t : Linear) (ls : List Literal) → coefficient t x ≡ pos 0 → AllLack x (map (substituted x t) ls)
gone_all x t [] e = tt
gone_all x t (lit ∷ ls) e = (gone x t lit e, gone_all x t ls e)

pub lack_scaled : (x y l : ℕ) (ls : List Literal) → (x ≡ y → ⊥) → AllLack y ls → AllLack y (map (scaled x l) ls)
lack_scaled x y l [] h k = tt
lack_scaled x y l (lit ∷ ls) h k = (lacks_scaled x y l lit h k.0, lack_scaled x y l ls h k.1)

lack_halves : (y : ℕ) (b : Bool) (lit : Literal) → Lacks y lit → AllLack y (cond b (halves lit) (lit ∷ []))
lack_halves y true lit e = (e, (zero_times (negsuc 0) lit.term y e, tt))
lack_halves y false lit e = (e, tt)

pub lack_without : (x y : ℕ) (ls : List Literal) → AllLack y ls → AllLack y (without_equations x ls)
lack_without x y [] k = tt
lack_without x y (lit ∷ ls) k = lack_append y (cond (is_equation lit.sort && has x lit) (halves lit) (lit ∷ [])) (without_equations x ls) (lack_halves y (is_equation lit.sort && has x lit) lit k.0) (lack_without x y ls k.1)

pub lack_prepared : (x y l : ℕ) (ls : List Literal) → (x ≡ y → ⊥) → AllLack y ls → AllLack y (prepared_by x l ls)
lack_prepared x y l ls h k = lack_append y (map (scaled x l) ls) _ (lack_scaled x y l ls h k) (variable_other x y h, tt)

pub lack_varied : (y : ℕ) (ls : List Literal) → AllLack y ls → AllLack y (varied ls)
lack_varied y [] k = tt
lack_varied y (lit ∷ ls) k = by (not (ground lit)) (lack_varied y ls k.1)
  where
    by : (b : Bool) → AllLack y (varied ls) → AllLack y (cond b (lit ∷ varied ls) (varied ls))
    by true r = (k.0, r)
    by false r = r

-- ---- a bound has no x, and no variable that its literals lack
pub bound_gone : (x : ℕ) (ls : List Literal) (b : Linear) → In b (bounds x ls) → coefficient b x ≡ pos 0
bound_gone x [] b i = absurd i
bound_gone x (lit ∷ ls) b i = by (is_lower x lit) (bound_gone x ls b) i
  where
    by : (t : Bool) → (In b (bounds x ls) → coefficient b x ≡ pos 0) → In b (cond t (bound x lit ∷ bounds x ls) (bounds x ls)) → coefficient b x ≡ pos 0
    by true more j = ⊎_elim (λ e. ap (λ l. coefficient l x) e ∙ zero_times (negsuc 0) (put x (pos 0) lit.term) x (coefficient_put_zero x lit.term)) more j
    by false more j = more j

pub bound_lacks : (x y : ℕ) (ls : List Literal) (b : Linear) → (x ≡ y → ⊥) → AllLack y ls → In b (bounds x ls) → coefficient b y ≡ pos 0
bound_lacks x y [] b h k i = absurd i
bound_lacks x y (lit ∷ ls) b h k i = by (is_lower x lit) (bound_lacks x y ls b h k.1) i
  where
    by : (t : Bool) → (In b (bounds x ls) → coefficient b y ≡ pos 0) → In b (cond t (bound x lit ∷ bounds x ls) (bounds x ls)) → coefficient b y ≡ pos 0
    by true more j = ⊎_elim (λ e. ap (λ l. coefficient l y) e ∙ zero_times (negsuc 0) (put x (pos 0) lit.term) y (coefficient_put x y (pos 0) lit.term h ∙ k.0)) more j
    by false more j = more j

-- ---- so it is with the solution of an equation
abbrev pub FromLacks : ℕ → Option Solution → Type 0
FromLacks y None = Unit {0}
FromLacks y (Some s) = (s.variable ≡ y → ⊥) → coefficient s.term y ≡ pos 0

abbrev pub Gone : Option Solution → Type 0
Gone None = Unit {0}
Gone (Some s) = coefficient s.term s.variable ≡ pos 0

pub solution_gone : (ls : List Literal) → Gone (first_solved ls)
solution_gone [] = tt
solution_gone (lit ∷ ls) = by (is_equation lit.sort) (unit lit.term) (solution_gone ls)
  where
    by : (b : Bool) (o : Option ℕ) → Gone (first_solved ls) → Gone (cond b (solved_one o lit.term (first_solved ls)) (first_solved ls))
    by true None more = more
    by true (Some x) more = zero_times (neg_ℤ (coefficient lit.term x)) (put x (pos 0) lit.term) x (coefficient_put_zero x lit.term)
    by false o more = more

pub solution_lacks : (y : ℕ) (ls : List Literal) → AllLack y ls → FromLacks y (first_solved ls)
solution_lacks y [] k = tt
solution_lacks y (lit ∷ ls) k = by (is_equation lit.sort) (unit lit.term) (solution_lacks y ls k.1)
  where
    by : (b : Bool) (o : Option ℕ) → FromLacks y (first_solved ls) → FromLacks y (cond b (solved_one o lit.term (first_solved ls)) (first_solved ls))
    by true None more = more
    by true (Some x) more = λ h. zero_times (neg_ℤ (coefficient lit.term x)) (put x (pos 0) lit.term) y (coefficient_put x y (pos 0) lit.term h ∙ k.0)
    by false o more = more
