-- No two obligations have one code.
use Rattle.std.proofs.Common.{arith, ◌≡◌, ℕ, ℤ, pos, List, [], ◌∷◌, ◌++◌, length, map, refl, sym, ◌∙◌, ap, ap₂, subst, append_assoc, append-nil}
use Rattle.rast_index.specs.Linear.{Linear}
use Rattle.rast_index.specs.declared.formula.Rel.{Rel as Relation}
use Rattle.rast_index.specs.declared.formula.Rel.TheVariants as rel
use Rattle.rast_index.specs.declared.formula.Formula.{Formula, roll-Formula}
use Rattle.rast_index.specs.declared.formula.Formula.TheOpen.{Formula-F, True, False, Rel, Div, Not, And, Or, Imp}
use Rattle.rast_index.specs.declared.formula.Formula.TheFolds.{map-Formula}
use Rattle.rast_index.proofs.Replaced.{Such, bare, induction}
use Rattle.rast_memo.specs.Codes.{code, code_step, linear_code, obligation_code, relation_number, row}
use Rattle.rast_memo.specs.declared.obligation.Obligation.{Obligation}
use Rattle.rast_memo.proofs.Layers.{code_at}

-- lists of one length in front of others can be told
cut : (a b r s : List ℤ) → length a ≡ length b → a ++ r ≡ b ++ s → (a ≡ b) × (r ≡ s)
cut [] [] r s l e = (refl, e)
cut [] (y ∷ b) r s l e = absurd (cc)
cut (x ∷ a) [] r s l e = absurd (cc)
cut (x ∷ a) (y ∷ b) r s l e =
    let h : x ≡ y = cc in
    let t : a ++ r ≡ b ++ s = cc in
    let n : length a ≡ length b = omega (arith, l) in
    let k = cut a b r s n t in
    (ap₂ (λ p q. p ∷ q) h k.0, k.1)

same_pos : (m n : ℕ) → pos m ≡ pos n → m ≡ n
same_pos m n e = cc

linear : (a b : Linear) (r s : List ℤ) → linear_code a ++ r ≡ linear_code b ++ s → (a ≡ b) × (r ≡ s)
linear a b r s e =
    let h : a.constant ≡ b.constant = cc in
    let n : length a.coefficients ≡ length b.coefficients = cc in
    let t : a.coefficients ++ r ≡ b.coefficients ++ s = cc in
    let k = cut a.coefficients b.coefficients r s n t in
    (ap₂ (λ x y. record { constant = x; coefficients = y }) h k.0, k.1)

relation : (a b : Relation) → relation_number a ≡ relation_number b → a ≡ b
relation rel.Eq rel.Eq e = refl
relation rel.Ne rel.Ne e = refl
relation rel.Lt rel.Lt e = refl
relation rel.Le rel.Le e = refl
relation rel.Gt rel.Gt e = refl
relation rel.Ge rel.Ge e = refl
relation a b e = absurd (cc)

-- a formula can be told from its code, whatever comes behind it
abbrev pub IsTold : Formula → Type 0
IsTold f = (g : Formula) (r s : List ℤ) → code f ++ r ≡ code g ++ s → (f ≡ g) × (r ≡ s)

rows : (fs : List (Such IsTold)) (gs : List Formula) (r s : List ℤ) → row (map code (map (λ e. e.0) fs)) ++ r ≡ row (map code gs) ++ s → (map (λ e. e.0) fs ≡ gs) × (r ≡ s)
rows [] [] r s e = (refl, let t : r ≡ s = cc in t)
rows [] (g ∷ gs) r s e = absurd (cc)
rows (f ∷ fs) [] r s e = absurd (cc)
rows (f ∷ fs) (g ∷ gs) r s e =
    let xs = row (map code (map (λ (e : Such IsTold). e.0) fs)) in
    let ys = row (map code gs) in
    let t : (code f.0 ++ xs) ++ r ≡ (code g ++ ys) ++ s = cc in
    let h = f.1 g (xs ++ r) (ys ++ s) (sym (append_assoc (code f.0) xs r) ∙ t ∙ append_assoc (code g) ys s) in
    let k = rows fs gs r s h.1 in
    (ap₂ (λ p q. p ∷ q) h.0 k.0, k.1)

-- one layer
told : (x : Formula-F (Such IsTold)) (y : Formula-F Formula) (r s : List ℤ) →
    code_step (map-Formula Formula (List ℤ) code (bare IsTold x)) ++ r ≡ code_step (map-Formula Formula (List ℤ) code y) ++ s → (bare IsTold x ≡ y) × (r ≡ s)
told True True r s e = (refl, let t : r ≡ s = cc in t)
told True y r s e = absurd (cc)
told False False r s e = (refl, let t : r ≡ s = cc in t)
told False y r s e = absurd (cc)
told (Rel a p b) (Rel c q d) r s e =
    let m : relation_number p ≡ relation_number q = cc in
    let t : (linear_code a ++ linear_code b) ++ r ≡ (linear_code c ++ linear_code d) ++ s = cc in
    let h = linear a c (linear_code b ++ r) (linear_code d ++ s) (sym (append_assoc (linear_code a) (linear_code b) r) ∙ t ∙ append_assoc (linear_code c) (linear_code d) s) in
    let k = linear b d r s h.1 in
    (ap₂ (λ (u v : Linear). Rel u p v) h.0 k.0 ∙ ap (λ u. Rel c u d) (relation p q m), k.1)
told (Rel a p b) y r s e = absurd (cc)
told (Div m a) (Div n b) r s e =
    let h : m ≡ n = cc in
    let t : linear_code a ++ r ≡ linear_code b ++ s = cc in
    let k = linear a b r s t in
    (ap₂ (λ u v. Div u v) h k.0, k.1)
told (Div m a) y r s e = absurd (cc)
told (Not f) (Not g) r s e =
    let t : code f.0 ++ r ≡ code g ++ s = cc in
    let h = f.1 g r s t in
    (ap (λ u. Not u) h.0, h.1)
told (Not f) y r s e = absurd (cc)
told (And fs) (And gs) r s e =
    let t : row (map code (map (λ e. e.0) fs)) ++ r ≡ row (map code gs) ++ s = cc in
    let h = rows fs gs r s t in
    (ap (λ u. And u) h.0, h.1)
told (And fs) y r s e = absurd (cc)
told (Or fs) (Or gs) r s e =
    let t : row (map code (map (λ e. e.0) fs)) ++ r ≡ row (map code gs) ++ s = cc in
    let h = rows fs gs r s t in
    (ap (λ u. Or u) h.0, h.1)
told (Or fs) y r s e = absurd (cc)
told (Imp f g) (Imp h k) r s e =
    let t : (code f.0 ++ code g.0) ++ r ≡ (code h ++ code k) ++ s = cc in
    let p = f.1 h (code g.0 ++ r) (code k ++ s) (sym (append_assoc (code f.0) (code g.0) r) ∙ t ∙ append_assoc (code h) (code k) s) in
    let q = g.1 k r s p.1 in
    (ap₂ (λ u v. Imp u v) p.0 q.0, q.1)
told (Imp f g) y r s e = absurd (cc)

-- a fact of layers is one of formulas
layer : (P : Formula → Type 0) → ((y : Formula-F Formula) → P (roll-Formula y)) → (f : Formula) → P f
layer P h = induction P (λ x. h (bare P x))

pub all_told : (f : Formula) → IsTold f
all_told = induction IsTold (λ x. layer (λ g. (r s : List ℤ) → code (roll-Formula (bare IsTold x)) ++ r ≡ code g ++ s → (roll-Formula (bare IsTold x) ≡ g) × (r ≡ s))
    (λ y r s e.
    let t = ap (λ c. c ++ r) (sym (code_at (bare IsTold x))) ∙ e ∙ ap (λ c. c ++ s) (code_at y) in
    let h = told x y r s t in
    (ap roll-Formula h.0, h.1)))

suches : List Formula → List (Such IsTold)
suches fs = map (λ f. (f, all_told f)) fs

of_suches : (fs : List Formula) → map (λ e. e.0) (suches fs) ≡ fs
unfolding suches
of_suches [] = refl
of_suches (f ∷ fs) = ap (λ xs. f ∷ xs) (of_suches fs)

all_rows : (fs gs : List Formula) (r s : List ℤ) → row (map code fs) ++ r ≡ row (map code gs) ++ s → (fs ≡ gs) × (r ≡ s)
all_rows fs gs r s e =
    let k = rows (suches fs) gs r s (subst (λ (xs : List Formula). row (map code xs) ++ r ≡ row (map code gs) ++ s) (sym (of_suches fs)) e) in
    (sym (of_suches fs) ∙ k.0, k.1)

goals_told : (f g : Formula) → code f ≡ code g → f ≡ g
goals_told f g e = (all_told f g [] [] (append-nil (code f) ∙ e ∙ sym (append-nil (code g)))).0

pub same_code : (o p : Obligation) → obligation_code o ≡ obligation_code p → o ≡ p
same_code o p e =
    let v : o.vars ≡ p.vars = cc in
    let t : row (map code o.premises) ++ code o.goal ≡ row (map code p.premises) ++ code p.goal = cc in
    let k = all_rows o.premises p.premises (code o.goal) (code p.goal) t in
    let q = goals_told o.goal p.goal k.1 in
    (λ i. record { vars = v i; premises = k.0 i; goal = q i })
