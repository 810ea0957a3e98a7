-- One more variable with its value: types and channels stay what they are.
use Rattle.std.proofs.Common.{◌≡◌, ℕ, ℤ, zero, suc, pos, ◌+◌, ◌≤◌, Bool, true, false, ◌==◌, List, [], ◌∷◌, ◌++◌, map, length, get_or, Option, refl, sym, ap, ap₂, ◌∙◌, subst, arith, if◌then◌else◌, length-append}
use Rattle.rast_index.specs.Keys.{set_key}
use Rattle.rast_index.specs.Linear.{value, whole, variable, variables, tabulate}
use Rattle.rast_index.proofs.Scope.{value_variable}
use Rattle.rast_index.proofs.Values.{tabulate_suc}
use Rattle.rast_types.specs.declared.ty.Ty.{Ty}
use Rattle.rast_types.specs.Closed.{closed, Table, Equal, View}
use Rattle.rast_types.specs.Symbolic.{binders}
use Rattle.rast_rules.specs.Rules.{widened}
use Rattle.rast_order.proofs.Words.{Link, Side, Client}
use Rattle.rast_equal.proofs.Equals.{equal_sym}
use Rattle.rast_laws.proofs.Channels.{SeenAt, AreSeen, seen_equal}
use Rattle.rast_equal.proofs.Within.{variables_within}
use Rattle.rast_equal.proofs.Substitution.{values_of, whole-append, whole-length, put_equal}
use Rattle.rast_laws.proofs.Judged.{AllShallow}

-- ---- the values of the variables themselves

tab_gets : (xs ys : List ℤ) → tabulate (λ j. get_or (xs ++ ys) j (pos 0)) 0 (length xs) ≡ xs
tab_gets [] ys = refl
tab_gets (x ∷ xs) ys = ap (λ zs. x ∷ zs) (tabulate_suc (λ j. get_or (x ∷ (xs ++ ys)) j (pos 0)) 0 (length xs) ∙ tab_gets xs ys)

tab_values : (ws : List ℤ) (k m : ℕ) → k + m ≤ 16 → map (λ l. value l ws) (tabulate variable k m) ≡ tabulate (λ j. get_or ws j (pos 0)) k m
tab_values ws k zero h = refl
tab_values ws k (suc m) h = ap₂ (λ x xs. x ∷ xs) (value_variable k ws (omega (arith, h))) (tab_values ws (suc k) m (omega (arith, h)))

-- the first variables have the first values
pub values_variables : (n : ℕ) (vs ws : List ℕ) → length vs ≡ n → n ≤ 16 → values_of (variables n) (vs ++ ws) ≡ whole vs
values_variables n vs ws e h =
    let l : length (whole vs) ≡ n = whole-length vs ∙ e in
    ap (λ zs. map (λ l. value l zs) (variables n)) (whole-append vs ws)
    ∙ (tab_values (whole vs ++ whole ws) 0 n (omega (arith, h))
    ∙ (ap (λ m. tabulate (λ j. get_or (whole vs ++ whole ws) j (pos 0)) 0 m) (sym l) ∙ tab_gets (whole vs) (whole ws)))

-- ---- types

pub widened_equal : (t : Table) (n : ℕ) (a : Ty) (vs : List ℕ) (i : ℕ) → length vs ≡ n → n + 1 + binders (widened n a) ≤ 16 → Equal t (closed (widened n a) (whole (vs ++ i ∷ []))) (closed a (whole vs))
widened_equal t n a vs i e few =
    subst (λ zs. Equal t (closed (widened n a) (whole (vs ++ i ∷ []))) (closed a zs)) (values_variables n vs (i ∷ []) e (omega (arith, few)))
    (put_equal t (n + 1) (variables n) a (vs ++ i ∷ []) (length-append vs (i ∷ []) ∙ ap (λ (m : ℕ). m + 1) e) few (variables_within (n + 1) n (omega arith)))

pub widened_seen : (t : Table) (d : Link → Option View) (m : ℕ) (s : Side) (l : Link) (n : ℕ) (a : Ty) (vs : List ℕ) (i : ℕ) → length vs ≡ n → n + 1 + binders (widened n a) ≤ 16 → SeenAt t d m s l (closed a (whole vs)) → SeenAt t d m s l (closed (widened n a) (whole (vs ++ i ∷ [])))
widened_seen t d m s l n a vs i e few h = seen_equal t d m s l (closed a (whole vs)) (closed (widened n a) (whole (vs ++ i ∷ []))) (equal_sym t (closed (widened n a) (whole (vs ++ i ∷ []))) (closed a (whole vs)) (widened_equal t n a vs i e few)) h

-- ---- channels

abbrev all_widened : ℕ → List (ℕ × Ty) → List (ℕ × Ty)
all_widened n as' = map (λ u. (u.0, widened n u.1)) as'

pub widened_all : (t : Table) (d : Link → Option View) (m n : ℕ) (vs : List ℕ) (i : ℕ) (us : List (ℕ × Link)) (as' : List (ℕ × Ty)) → length vs ≡ n → AllShallow (n + 1) (all_widened n as') → AreSeen t d m (whole vs) us as' → AreSeen t d m (whole (vs ++ i ∷ [])) us (all_widened n as')
widened_all t d m n vs i [] [] e f h = tt
widened_all t d m n vs i [] (a ∷ as') e f h = absurd h
widened_all t d m n vs i (u ∷ us) [] e f h = absurd h
widened_all t d m n vs i (u ∷ us) (a ∷ as') e f h = (h.0, widened_seen t d m Client u.1 n a.1 vs i e f.0 h.1, widened_all t d m n vs i us as' e f.1 h.2)

widened_first : (t : Table) (d : Link → Option View) (m n : ℕ) (vs : List ℕ) (i x : ℕ) (l : Link) (b : Ty) (u : ℕ × Link) (us : List (ℕ × Link)) (a : ℕ × Ty) (as' : List (ℕ × Ty)) (y : Bool) → length vs ≡ n → u.0 ≡ a.0 → SeenAt t d m Client u.1 (closed a.1 (whole vs)) → AreSeen t d m (whole vs) us as' → SeenAt t d m Client l (closed b (whole (vs ++ i ∷ []))) → AllShallow (n + 1) (if y then (x, b) ∷ all_widened n as' else (a.0, widened n a.1) ∷ set_key x b (all_widened n as')) → (AllShallow (n + 1) (set_key x b (all_widened n as')) → AreSeen t d m (whole (vs ++ i ∷ [])) (set_key x l us) (set_key x b (all_widened n as'))) → AreSeen t d m (whole (vs ++ i ∷ [])) (if y then (x, l) ∷ us else u ∷ set_key x l us) (if y then (x, b) ∷ all_widened n as' else (a.0, widened n a.1) ∷ set_key x b (all_widened n as'))
widened_first t d m n vs i x l b u us a as' true e k p q r f ih = (refl, r, widened_all t d m n vs i us as' e f.1 q)
widened_first t d m n vs i x l b u us a as' false e k p q r f ih = (k, widened_seen t d m Client u.1 n a.1 vs i e f.0 p, ih f.1)

-- all but one, which goes on at another link and type
pub widened_but : (t : Table) (d : Link → Option View) (m n : ℕ) (vs : List ℕ) (i x : ℕ) (l : Link) (b : Ty) (us : List (ℕ × Link)) (as' : List (ℕ × Ty)) → length vs ≡ n → SeenAt t d m Client l (closed b (whole (vs ++ i ∷ []))) → AllShallow (n + 1) (set_key x b (all_widened n as')) → AreSeen t d m (whole vs) us as' → AreSeen t d m (whole (vs ++ i ∷ [])) (set_key x l us) (set_key x b (all_widened n as'))
widened_but t d m n vs i x l b [] [] e r f h = tt
widened_but t d m n vs i x l b [] (a ∷ as') e r f h = absurd h
widened_but t d m n vs i x l b (u ∷ us) [] e r f h = absurd h
widened_but t d m n vs i x l b (u ∷ us) (a ∷ as') e r f h =
    subst (λ (k : ℕ). AreSeen t d m (whole (vs ++ i ∷ [])) (if k == x then (x, l) ∷ us else u ∷ set_key x l us) (if a.0 == x then (x, b) ∷ all_widened n as' else (a.0, widened n a.1) ∷ set_key x b (all_widened n as'))) (sym h.0)
    (widened_first t d m n vs i x l b u us a as' (a.0 == x) e h.0 h.1 h.2 r f (λ g. widened_but t d m n vs i x l b us as' e r g h.2))
