-- In terms and formulas only variables in scope occur, and each divisor is at least 1 where the grammar has the formula.
use Rattle.std.proofs.Common.{◌≡◌, ℕ, Bool, true, false, ◌&&◌, List, [], ◌∷◌, map, length, refl, sym, ap, ap₂, ◌∙◌, subst, Option, Some, None, IfSome, Ok, Err, ℤ, pos, ◌<◌}
use Rattle.std.proofs.lemmas.Bool.{and_parts}
use Rattle.std.specs.Prelude.{nat_lt}
use Rattle.std.specs.List.{AllByRecursion, list_all}
use Rattle.rast_index.specs.Linear.{Linear, is_closed, fixed, variable, times, is_small}
use Rattle.rast_index.specs.declared.formula.Formula.{Formula}
use Rattle.rast_index.specs.declared.formula.Formula.TheVariants as formula
use Rattle.rast_forms.specs.Words.{all_true}
use Rattle.rast_cooper.specs.Verdicts.{is_within}
use Rattle.rast_formula.specs.Scopes.{Look, FindsBelow, is_scoped, is_good}
use Rattle.rast_formula.proofs.Scoping.{scoped_plus, scoped_less, scoped_times, scoped_fixed, scoped_variable}
use Rattle.rast_formula.proofs.Within.{good_true, good_false, good_rel, good_div, good_not, good_and, good_or, good_imp}
use Rattle.rast_ast.specs.declared.term.Sign.{Sign}
use Rattle.rast_ast.specs.declared.term.Sign.TheVariants as sign
use Rattle.rast_ast.specs.declared.term.Term.{Term, roll-Term}
use Rattle.rast_ast.specs.declared.term.Lin.{Lin, roll-Lin}
use Rattle.rast_ast.specs.declared.term.Term.TheOpen.{Term-F, Lin-F, Times, Number, Variable, Group as Inside}
use Rattle.rast_ast.specs.declared.term.Term.TheFolds.{map-Term, map-Lin, fold-roll-Term, fold-roll-Lin}
use Rattle.rast_ast.specs.declared.form.Form.{Form, roll-Form}
use Rattle.rast_ast.specs.declared.form.Literal.{Literal, roll-Literal}
use Rattle.rast_ast.specs.declared.form.Conjunction.{Conjunction, roll-Conjunction}
use Rattle.rast_ast.specs.declared.form.Disjunction.{Disjunction, roll-Disjunction}
use Rattle.rast_ast.specs.declared.form.Form.TheOpen.{Form-F, Literal-F, Conjunction-F, Disjunction-F, Plain, Implies, Not, Group, True, False, Divides, Related}
use Rattle.rast_ast.specs.declared.form.Form.TheFolds.{map-Form, map-Literal, map-Conjunction, map-Disjunction, fold-roll-Form, fold-roll-Literal, fold-roll-Conjunction, fold-roll-Disjunction}
use Rattle.rast_ast.specs.Formulas.{form_proper, disjunction_proper, conjunction_proper, literal_proper, form_fits, disjunction_fits, conjunction_fits, literal_fits}
use Rattle.rast_print.proofs.Induction.{Such, each_lin, each_form}
use Rattle.rast_formula.specs.declared.refusal.ScopeErr.TheVariants as refusal
use Rattle.rast_formula.specs.Answers.{Answer, ◌>>=◌, each}
use Rattle.rast_formula.specs.Linears.{limited, variable_at, signed, sums, term_step, lin_step, term_of, linear_of}
use Rattle.rast_formula.specs.Formulas.{A, joined, all_joined, relation, form_step, disjunction_step, conjunction_step, literal_step, formula_of, disjunction_of, conjunction_of, literal_of}
use Rattle.rast_resolve.specs.Scopes.{Text, Texts, newest_of, or_walked, variable_of}
use Rattle.rast_resolve.specs.Written as item
use Rattle.rast_meant.proofs.Apart.{Gave, no_value, same, where_true, each_gave}
use Rattle.rast_meant.proofs.Numbers.{newest_within}

-- a value of two answers is one of each
both : {X Y : Type 0} (a : Answer X) (f : X → Answer Y) (y : Y) → Gave (a >>= f) y → (x : X) × Gave a x × Gave (f x) y
both {X} {Y} (Ok x) f y h = (x, refl, h)
both {X} {Y} (Err e) f y h = absurd (no_value e y h)

-- a value that is made from one
made : {X Y : Type 0} (a : Answer X) (f : X → Y) (y : Y) → Gave (a >>= λ x. Ok (f x)) y → (x : X) × Gave a x × (f x ≡ y)
made {X} {Y} (Ok x) f y h = (x, refl, same (f x) y h)
made {X} {Y} (Err e) f y h = absurd (no_value e y h)

-- ---- terms

-- each value of this answer has only variables below n
abbrev IsShut : ℕ → Answer Linear → Type 0
IsShut n a = (e : Linear) → Gave a e → is_closed n e ≡ true

module _ (n : ℕ) where
  shut_sums : (a : Linear) (ts : List (Sign × Answer Linear)) → is_closed n a ≡ true → AllByRecursion (λ t. IsShut n t.1) ts → IsShut n (sums a ts)
  unfolding is_scoped
  shut_sums a [] h hs e g = subst (λ z. is_closed n z ≡ true) (same a e g) h
  shut_sums a (t ∷ ts) h hs e g =
      let b = both t.1 (λ b. limited (signed t.0 a b) >>= λ c. sums c ts) e g in
      let c = both (limited (signed t.0 a b.0)) (λ c. sums c ts) e b.2 in
      let l = where_true (is_small (signed t.0 a b.0)) refusal.Limit (Ok (signed t.0 a b.0)) c.0 c.1 in
      let s : is_closed n (signed t.0 a b.0) ≡ true = by t.0 b.0 (hs.0 b.0 b.1) in
      shut_sums c.0 ts (subst (λ z. is_closed n z ≡ true) (same (signed t.0 a b.0) c.0 l.1) s) hs.1 e c.2
    where
      by : (s : Sign) (b : Linear) → is_closed n b ≡ true → is_closed n (signed s a b) ≡ true
      by sign.Plus b k = scoped_plus n a b h k
      by sign.Minus b k = scoped_less n a b h k

module _ (look : Look) (n : ℕ) (below : FindsBelow n look) where
  IsShutTerm : Term → Type 0
  IsShutTerm t = IsShut n (term_of look t)

  IsShutLin : Lin → Type 0
  IsShutLin l = IsShut n (linear_of look l)

  variable_shut : (m : Text) (o : Option ℕ) → look m ≡ o → IsShut n (variable_at m o)
  unfolding is_scoped
  variable_shut m None h e g = absurd (no_value (refusal.Unknown m) e g)
  variable_shut m (Some k) h e g =
      let w = where_true (nat_lt k 16) refusal.Limit (Ok (variable k)) e g in
      subst (λ z. is_closed n z ≡ true) (same (variable k) e w.1) (scoped_variable n k (subst (λ (o : Option ℕ). IfSome o (λ j. j < n)) h (below m)))

  term_at : (y : Term-F (Such IsShutTerm) (Such IsShutLin)) → IsShutTerm (roll-Term (map-Term (Such IsShutTerm) (Such IsShutLin) Term Lin (λ e. e.0) (λ e. e.0) y))
  unfolding IsShutTerm IsShutLin is_scoped
  term_at y e g = by y (sym (fold-roll-Term (Answer Linear) (Answer Linear) (term_step look) lin_step (map-Term (Such IsShutTerm) (Such IsShutLin) Term Lin (λ e. e.0) (λ e. e.0) y)) ∙ g)
    where
      by : (y : Term-F (Such IsShutTerm) (Such IsShutLin)) → Gave (term_step look (map-Term Term Lin (Answer Linear) (Answer Linear) (term_of look) (linear_of look) (map-Term (Such IsShutTerm) (Such IsShutLin) Term Lin (λ e. e.0) (λ e. e.0) y))) e → is_closed n e ≡ true
      by (Times k t) g =
          let a = both (term_of look t.0) (λ l. limited (times k l)) e g in
          let l = where_true (is_small (times k a.0)) refusal.Limit (Ok (times k a.0)) e a.2 in
          subst (λ z. is_closed n z ≡ true) (same (times k a.0) e l.1) (scoped_times n k a.0 (t.1 a.0 a.1))
      by (Number k) g = subst (λ z. is_closed n z ≡ true) (same (fixed (pos k)) e g) (scoped_fixed n (pos k))
      by (Variable m) g = variable_shut m (look m) refl e g
      by (Inside l) g = l.1 e g

  lin_at : (y : Lin-F (Such IsShutTerm) (Such IsShutLin)) → IsShutLin (roll-Lin (map-Lin (Such IsShutTerm) (Such IsShutLin) Term Lin (λ e. e.0) (λ e. e.0) y))
  unfolding IsShutTerm IsShutLin
  lin_at y e g =
      let h = sym (fold-roll-Lin (Answer Linear) (Answer Linear) (term_step look) lin_step (map-Lin (Such IsShutTerm) (Such IsShutLin) Term Lin (λ e. e.0) (λ e. e.0) y)) ∙ g in
      let a = both (term_of look y.first.0) (λ a. sums a (map (λ (t : Sign × Term). (t.0, term_of look t.1)) (map (λ (t : Sign × Such IsShutTerm). (t.0, t.1.0)) y.rest))) e h in
      shut_sums n a.0 (map (λ (t : Sign × Term). (t.0, term_of look t.1)) (map (λ (t : Sign × Such IsShutTerm). (t.0, t.1.0)) y.rest)) (y.first.1 a.0 a.1) (rest y.rest) e a.2
    where
      rest : (ts : List (Sign × Such IsShutTerm)) → AllByRecursion (λ (t : Sign × Answer Linear). IsShut n t.1) (map (λ (t : Sign × Term). (t.0, term_of look t.1)) (map (λ (t : Sign × Such IsShutTerm). (t.0, t.1.0)) ts))
      rest [] = tt
      rest (t ∷ ts) = (t.1.1, rest ts)

  shut_linear : (l : Lin) (e : Linear) → Gave (linear_of look l) e → is_closed n e ≡ true
  unfolding IsShutLin
  shut_linear = each_lin IsShutTerm IsShutLin term_at lin_at

-- ---- formulas

pub fixed_shut : (n : ℕ) (z : ℤ) → is_closed n (fixed z) ≡ true
unfolding is_scoped
fixed_shut n z = scoped_fixed n z

-- each value of this answer has only variables below n, and divisors that are at least 1
abbrev IsShutFormula : ℕ → Answer Formula → Type 0
IsShutFormula n a = (f : Formula) → Gave a f → is_good n f ≡ true

module _ (n : ℕ) where
  every : (fs : List Formula) → AllByRecursion (λ f. is_good n f ≡ true) fs → list_all (is_good n) fs ≡ true
  every [] h = refl
  every (f ∷ fs) h = ap₂ (λ a b. a && b) h.0 (every fs h.1)

  -- joined formulas, where a list of such is one
  shut_joined : (join : List Formula → Formula) (first : Answer Formula) (rest : List (Answer Formula)) → ((fs : List Formula) → AllByRecursion (λ f. is_good n f ≡ true) fs → is_good n (join fs) ≡ true)
      → IsShutFormula n first → AllByRecursion (IsShutFormula n) rest → IsShutFormula n (all_joined join first rest)
  shut_joined join first rest h k ks f g =
      let a = both first (λ f. each rest >>= λ fs. Ok (joined join f fs)) f g in
      let b = made (each rest) (λ fs. joined join a.0 fs) f a.2 in
      subst (λ z. is_good n z ≡ true) b.2 (by a.0 b.0 (values rest b.0 ks b.1) (k a.0 a.1))
    where
      by : (a : Formula) (fs : List Formula) → AllByRecursion (λ f. is_good n f ≡ true) fs → is_good n a ≡ true → is_good n (joined join a fs) ≡ true
      by a [] hs k = k
      by a (x ∷ xs) hs k = h (a ∷ x ∷ xs) (k, hs)

      values : (as' : List (Answer Formula)) (fs : List Formula) → AllByRecursion (IsShutFormula n) as' → Gave (each as') fs → AllByRecursion (λ f. is_good n f ≡ true) fs
      values [] fs ks g = subst (AllByRecursion (λ f. is_good n f ≡ true)) (same [] fs g) tt
      values (a ∷ as') fs ks g =
          let x = both a (λ z. each as' >>= λ zs. Ok (z ∷ zs)) fs g in
          let y = made (each as') (λ zs. x.0 ∷ zs) fs x.2 in
          subst (AllByRecursion (λ f. is_good n f ≡ true)) y.2 (ks.0 x.0 x.1, values as' y.0 ks.1 y.1)

module _ (look : Look) (n : ℕ) (below : FindsBelow n look) where
  FormShut : Form → Type 0
  FormShut f = form_fits f ≡ true → IsShutFormula n (formula_of look f)

  LiteralShut : Literal → Type 0
  LiteralShut f = literal_fits f ≡ true → IsShutFormula n (literal_of look f)

  ConjunctionShut : Conjunction → Type 0
  ConjunctionShut f = conjunction_fits f ≡ true → IsShutFormula n (conjunction_of look f)

  DisjunctionShut : Disjunction → Type 0
  DisjunctionShut f = disjunction_fits f ≡ true → IsShutFormula n (disjunction_of look f)

  abbrev F : Type 0
  F = Form-F (Such FormShut) (Such LiteralShut) (Such ConjunctionShut) (Such DisjunctionShut)

  good : (f g : Formula) → f ≡ g → is_good n f ≡ true → is_good n g ≡ true
  good f g e h = subst (λ z. is_good n z ≡ true) e h

  form_at : (y : F) → FormShut (roll-Form (map-Form (Such FormShut) (Such LiteralShut) (Such ConjunctionShut) (Such DisjunctionShut) Form Literal Conjunction Disjunction (λ e. e.0) (λ e. e.0) (λ e. e.0) (λ e. e.0) y))
  unfolding FormShut DisjunctionShut
  form_at (Plain d) fit f g =
      d.1 (sym (fold-roll-Form Bool Bool Bool Bool form_proper literal_proper conjunction_proper disjunction_proper (Plain d.0)) ∙ fit) f (sym (fold-roll-Form A A A A form_step (literal_step look) conjunction_step disjunction_step (Plain d.0)) ∙ g)
  form_at (Implies d h) fit f g =
      let fits = and_parts (disjunction_fits d.0) (form_fits h.0) (sym (fold-roll-Form Bool Bool Bool Bool form_proper literal_proper conjunction_proper disjunction_proper (Implies d.0 h.0)) ∙ fit) in
      let e = sym (fold-roll-Form A A A A form_step (literal_step look) conjunction_step disjunction_step (Implies d.0 h.0)) ∙ g in
      let a = both (disjunction_of look d.0) (λ a. formula_of look h.0 >>= λ b. Ok (formula.Imp a b)) f e in
      let b = made (formula_of look h.0) (λ b. formula.Imp a.0 b) f a.2 in
      good (formula.Imp a.0 b.0) f b.2 (good_imp n a.0 b.0 (d.1 fits.0 a.0 a.1) (h.1 fits.1 b.0 b.1))

  literal_at : (y : Literal-F (Such FormShut) (Such LiteralShut) (Such ConjunctionShut) (Such DisjunctionShut)) → LiteralShut (roll-Literal (map-Literal (Such FormShut) (Such LiteralShut) (Such ConjunctionShut) (Such DisjunctionShut) Form Literal Conjunction Disjunction (λ e. e.0) (λ e. e.0) (λ e. e.0) (λ e. e.0) y))
  unfolding FormShut LiteralShut is_scoped
  literal_at y fit f g = by y
      (sym (fold-roll-Literal Bool Bool Bool Bool form_proper literal_proper conjunction_proper disjunction_proper (map-Literal (Such FormShut) (Such LiteralShut) (Such ConjunctionShut) (Such DisjunctionShut) Form Literal Conjunction Disjunction (λ e. e.0) (λ e. e.0) (λ e. e.0) (λ e. e.0) y)) ∙ fit)
      (sym (fold-roll-Literal A A A A form_step (literal_step look) conjunction_step disjunction_step (map-Literal (Such FormShut) (Such LiteralShut) (Such ConjunctionShut) (Such DisjunctionShut) Form Literal Conjunction Disjunction (λ e. e.0) (λ e. e.0) (λ e. e.0) (λ e. e.0) y)) ∙ g)
    where
      by : (y : Literal-F (Such FormShut) (Such LiteralShut) (Such ConjunctionShut) (Such DisjunctionShut))
          → literal_proper (map-Literal Form Literal Conjunction Disjunction Bool Bool Bool Bool form_fits literal_fits conjunction_fits disjunction_fits (map-Literal (Such FormShut) (Such LiteralShut) (Such ConjunctionShut) (Such DisjunctionShut) Form Literal Conjunction Disjunction (λ e. e.0) (λ e. e.0) (λ e. e.0) (λ e. e.0) y)) ≡ true
          → Gave (literal_step look (map-Literal Form Literal Conjunction Disjunction A A A A (formula_of look) (literal_of look) (conjunction_of look) (disjunction_of look) (map-Literal (Such FormShut) (Such LiteralShut) (Such ConjunctionShut) (Such DisjunctionShut) Form Literal Conjunction Disjunction (λ e. e.0) (λ e. e.0) (λ e. e.0) (λ e. e.0) y))) f
          → is_good n f ≡ true
      by (Not l) fit g = let a = made (literal_of look l.0) (λ x. formula.Not x) f g in good (formula.Not a.0) f a.2 (good_not n a.0 (l.1 fit a.0 a.1))
      by (Group h) fit g = h.1 fit f g
      by True fit g = good formula.True f (same formula.True f g) (good_true n)
      by False fit g = good formula.False f (same formula.False f g) (good_false n)
      by (Divides k l) fit g =
          let a = made (linear_of look l) (λ a. formula.Div k a) f g in
          good (formula.Div k a.0) f a.2 (good_div n k a.0 fit (shut_linear look n below l a.0 a.1))
      by (Related l r m) fit g =
          let a = both (linear_of look l) (λ a. linear_of look m >>= λ b. Ok (formula.Rel a (relation r) b)) f g in
          let b = made (linear_of look m) (λ b. formula.Rel a.0 (relation r) b) f a.2 in
          good (formula.Rel a.0 (relation r) b.0) f b.2 (good_rel n a.0 b.0 (relation r) (shut_linear look n below l a.0 a.1) (shut_linear look n below m b.0 b.1))

  conjunction_at : (y : Conjunction-F (Such FormShut) (Such LiteralShut) (Such ConjunctionShut) (Such DisjunctionShut)) → ConjunctionShut (roll-Conjunction (map-Conjunction (Such FormShut) (Such LiteralShut) (Such ConjunctionShut) (Such DisjunctionShut) Form Literal Conjunction Disjunction (λ e. e.0) (λ e. e.0) (λ e. e.0) (λ e. e.0) y))
  unfolding LiteralShut ConjunctionShut
  conjunction_at y fit f g =
      let fits = and_parts (literal_fits y.first.0) (all_true (map literal_fits (map (λ e. e.0) y.rest))) (sym (fold-roll-Conjunction Bool Bool Bool Bool form_proper literal_proper conjunction_proper disjunction_proper (map-Conjunction (Such FormShut) (Such LiteralShut) (Such ConjunctionShut) (Such DisjunctionShut) Form Literal Conjunction Disjunction (λ e. e.0) (λ e. e.0) (λ e. e.0) (λ e. e.0) y)) ∙ fit) in
      let h = sym (fold-roll-Conjunction A A A A form_step (literal_step look) conjunction_step disjunction_step (map-Conjunction (Such FormShut) (Such LiteralShut) (Such ConjunctionShut) (Such DisjunctionShut) Form Literal Conjunction Disjunction (λ e. e.0) (λ e. e.0) (λ e. e.0) (λ e. e.0) y)) ∙ g in
      shut_joined n formula.And (literal_of look y.first.0) (map (literal_of look) (map (λ e. e.0) y.rest)) (λ fs hs. good_and n fs (every n fs hs)) (y.first.1 fits.0) (rest y.rest fits.1) f h
    where
      rest : (ls : List (Such LiteralShut)) → all_true (map literal_fits (map (λ e. e.0) ls)) ≡ true → AllByRecursion (IsShutFormula n) (map (literal_of look) (map (λ e. e.0) ls))
      rest [] fit = tt
      rest (l ∷ ls) fit = let fits = and_parts (literal_fits l.0) (all_true (map literal_fits (map (λ e. e.0) ls))) fit in (l.1 fits.0, rest ls fits.1)

  disjunction_at : (y : Disjunction-F (Such FormShut) (Such LiteralShut) (Such ConjunctionShut) (Such DisjunctionShut)) → DisjunctionShut (roll-Disjunction (map-Disjunction (Such FormShut) (Such LiteralShut) (Such ConjunctionShut) (Such DisjunctionShut) Form Literal Conjunction Disjunction (λ e. e.0) (λ e. e.0) (λ e. e.0) (λ e. e.0) y))
  unfolding ConjunctionShut DisjunctionShut
  disjunction_at y fit f g =
      let fits = and_parts (conjunction_fits y.first.0) (all_true (map conjunction_fits (map (λ e. e.0) y.rest))) (sym (fold-roll-Disjunction Bool Bool Bool Bool form_proper literal_proper conjunction_proper disjunction_proper (map-Disjunction (Such FormShut) (Such LiteralShut) (Such ConjunctionShut) (Such DisjunctionShut) Form Literal Conjunction Disjunction (λ e. e.0) (λ e. e.0) (λ e. e.0) (λ e. e.0) y)) ∙ fit) in
      let h = sym (fold-roll-Disjunction A A A A form_step (literal_step look) conjunction_step disjunction_step (map-Disjunction (Such FormShut) (Such LiteralShut) (Such ConjunctionShut) (Such DisjunctionShut) Form Literal Conjunction Disjunction (λ e. e.0) (λ e. e.0) (λ e. e.0) (λ e. e.0) y)) ∙ g in
      shut_joined n formula.Or (conjunction_of look y.first.0) (map (conjunction_of look) (map (λ e. e.0) y.rest)) (λ fs hs. good_or n fs (every n fs hs)) (y.first.1 fits.0) (rest y.rest fits.1) f h
    where
      rest : (ls : List (Such ConjunctionShut)) → all_true (map conjunction_fits (map (λ e. e.0) ls)) ≡ true → AllByRecursion (IsShutFormula n) (map (conjunction_of look) (map (λ e. e.0) ls))
      rest [] fit = tt
      rest (l ∷ ls) fit = let fits = and_parts (conjunction_fits l.0) (all_true (map conjunction_fits (map (λ e. e.0) ls))) fit in (l.1 fits.0, rest ls fits.1)

  shut_formula : (f : Form) (g : Formula) → form_fits f ≡ true → Gave (formula_of look f) g → is_good n g ≡ true
  unfolding FormShut
  shut_formula f g fit h = each_form FormShut LiteralShut ConjunctionShut DisjunctionShut form_at literal_at conjunction_at disjunction_at f fit g h

-- ---- in an item

module _ (whose : Text) (vars : Texts) where
  found_below : FindsBelow (length vars) (variable_of false vars)
  found_below m = by (newest_of m vars) refl
    where
      by : (o : Option ℕ) → newest_of m vars ≡ o → IfSome (or_walked o false (length vars) m) (λ k. k < length vars)
      by None h = tt
      by (Some k) h = newest_within m vars k h

  -- a value in an item is one of what is written
  gave_in : {X : Type 0} (a : Answer X) (x : X) → Gave (item.in_item whose a) x → Gave a x
  gave_in {X} (Ok y) x h = ap (λ z. Ok z) (same y x h)
  gave_in {X} (Err e) x h = absurd (no_value (item.fault_in whose e) x h)

  pub linear_shut : (l : Lin) (e : Linear) → Gave (item.linear_of whose false vars l) e → is_closed (length vars) e ≡ true
  linear_shut l e g = shut_linear (variable_of false vars) (length vars) found_below l e (gave_in (linear_of (variable_of false vars) l) e g)

  all_closed : (es : List Linear) → AllByRecursion (λ e. is_closed (length vars) e ≡ true) es → list_all (is_closed (length vars)) es ≡ true
  all_closed [] h = refl
  all_closed (e ∷ es) h = ap₂ (λ a b. a && b) h.0 (all_closed es h.1)

  pub linears_shut : (ls : List Lin) (es : List Linear) → Gave (item.linears_of whose false vars ls) es → (list_all (is_closed (length vars)) es ≡ true) × (length es ≡ length ls)
  linears_shut ls es g = let h = each_gave (λ e. is_closed (length vars) e ≡ true) (item.linear_of whose false vars) ls es linear_shut g in (all_closed es h.0, h.1)

  pub formula_shut : (f : Form) (g : Formula) → form_fits f ≡ true → Gave (item.formula_of whose vars f) g → is_within (length vars) g ≡ true
  unfolding is_good
  formula_shut f g fit h = shut_formula (variable_of false vars) (length vars) found_below f g fit (gave_in (formula_of (variable_of false vars) f) g h)

pub true_shut : (n : ℕ) → is_within n formula.True ≡ true
unfolding is_good
true_shut n = good_true n
