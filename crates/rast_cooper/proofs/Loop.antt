-- One turn of the search from a stack.
use Rattle.std.proofs.Common.{◌≡◌, inl, inr, ⊎_elim, ℕ, zero, suc, ◌+◌, ◌-◌, ◌<◌, ◌≤◌, Bool, true, false, ◌&&◌, Option, List, [], ◌∷◌, ◌++◌, length, get_or, map, reverse, sym, ◌∙◌, ap, ap₂, refl, arith, subst, append-nil}
use Rattle.std.specs.List.{list_all, range_with_len}
use Rattle.rast_index.specs.declared.formula.Formula.{Formula}
use Rattle.rast_cooper.specs.declared.literal.Literal.{Literal}
use Rattle.rast_cooper.specs.declared.search.Pending.{Pending}
use Rattle.rast_cooper.specs.declared.search.Stack.{Stack}
use Rattle.rast_cooper.specs.declared.explore.Course.{Course}
use Rattle.rast_cooper.specs.Claims.{Claim, Whole, Node, Always, Never, Atom, Every, Some_of, node_of}
use Rattle.rast_cooper.specs.Course.{continued, Explores}
use Rattle.rast_cooper.specs.Eliminate.{Positive}
use Rattle.rast_cooper.specs.Frames.{chained, IsChain, Adds, AreFrames, frames_states, present, waiting, all_states, IsStack, Stands}
use Rattle.rast_cooper.specs.Search.{State, state, step, step_states, apart, all_in_bounds, own, row, first, run, after, TooMany}
use Rattle.rast_cooper.specs.Stack.{claim_value, wholes}
use Rattle.rast_cooper.specs.Verdicts.{is_within}
use Rattle.rast_cooper.proofs.Points.{In}
use Rattle.rast_cooper.proofs.States.{in_split}
use Rattle.rast_cooper.proofs.Kept.{IsGood, good}
use Rattle.rast_cooper.proofs.Obligation.{all_good}
use Rattle.rast_cooper.proofs.Courses.{run_over, run_step, IsEnd, same_end}
use Rattle.rast_cooper.proofs.Frames.{chained_zero, chained_at, rest_within}

-- ---- the first state
wholes_map : (b : Bool) (fs : List Formula) → wholes b fs ≡ map (λ f. Whole f b) fs
wholes_map b [] = refl
wholes_map b (f ∷ fs) = ap (λ t. Whole f b ∷ t) (wholes_map b fs)

abbrev pub AllGood : ℕ → List State → Type 0
AllGood vars ss = (s : State) → In s ss → IsGood vars s

pub first_is : (vars : ℕ) (premises : List Formula) (goal : Formula) (cs : List Claim) (ls rs : List Literal) → cs ≡ wholes true premises ++ Whole goal false ∷ [] →
    ls ≡ map own (range_with_len 0 vars) → rs ≡ map row (range_with_len 0 vars) → state cs ls rs ≡ first vars premises goal
first_is vars premises goal cs ls rs e f g =
    ap₂ (λ a b. state a b rs) (e ∙ ap (λ t. t ++ Whole goal false ∷ []) (wholes_map true premises)) f
    ∙ ap (λ t. state (map (λ h. Whole h true) premises ++ Whole goal false ∷ []) (map own (range_with_len 0 vars)) t) g

pub begin_is : (vars : ℕ) (premises : List Formula) (goal : Formula) (rows : List Literal) (s : Stack) (n : ℕ) (old : List Pending) → Adds old s.claims.items (wholes true premises ++ Whole goal false ∷ []) 0 n →
    s.literals.items ≡ map own (range_with_len 0 vars) → rows ≡ map row (range_with_len 0 vars) → s.frames.items ≡ [] → present rows s n ∷ waiting rows s ≡ first vars premises goal ∷ []
begin_is vars premises goal rows s n old a e f g =
    ap₂ (λ (t : State) (u : List State). t ∷ u)
    (first_is vars premises goal (chained s.claims.items n) s.literals.items rows
    (a.here ∙ ap (λ t. (wholes true premises ++ Whole goal false ∷ []) ++ t) (chained_zero old) ∙ append-nil (wholes true premises ++ Whole goal false ∷ [])) e f)
    (ap (λ fs. frames_states rows s.literals.items s.claims.items (reverse fs)) g)

pub begin_stack : (s : Stack) (n : ℕ) (old : List Pending) (cs : List Claim) → Adds old s.claims.items cs 0 n → old ≡ [] → all_in_bounds s.literals.items ≡ true → s.frames.items ≡ [] → IsStack s
begin_stack s n old cs a e b g = record {
  linked = a.linked (subst (λ ps. IsChain (reverse ps)) (sym e) tt);
  frames = subst (λ fs. AreFrames (reverse fs) (length s.literals.items) (length s.claims.items)) (sym g) tt;
  bounded = b;
}

pub first_good : (vars : ℕ) (premises : List Formula) (goal : Formula) (few : vars ≤ 16) (p : list_all (is_within vars) premises ≡ true) (g : is_within vars goal ≡ true) (ss : List State) → ss ≡ first vars premises goal ∷ [] → AllGood vars ss
first_good vars premises goal few p g ss e = subst (AllGood vars) (sym e) (all_good vars premises goal few p g)

-- ---- good states
pub tail_good : (vars : ℕ) (s : State) (ss : List State) → AllGood vars (s ∷ ss) → AllGood vars ss
tail_good vars s ss h t i = h t (inr i)

pub head_positive : (vars : ℕ) (s : State) (ss : List State) → AllGood vars (s ∷ ss) → Positive s.literals
head_positive vars s ss h = (good vars).positive s (h s (inl refl))

step_at : (c : Claim) (cs : List Claim) (ls rows : List Literal) → step (state (c ∷ cs) ls rows) ≡ apart (node_of c) cs ls rows
unfolding step
step_at c cs ls rows = refl

pub step_good : (vars : ℕ) (s : State) (c : Claim) (cs : List Claim) (ls rows : List Literal) (ss : List State) → s ≡ state (c ∷ cs) ls rows → AllGood vars (s ∷ ss) → AllGood vars (step_states (apart (node_of c) cs ls rows) ++ ss)
step_good vars s c cs ls rows ss e h t i = ⊎_elim
    (λ j. (good vars).children s (h s (inl refl)) t (subst (λ u. In t (step_states u)) (sym (ap step e ∙ step_at c cs ls rows)) j))
    (λ j. h t (inr j))
    (in_split t (step_states (apart (node_of c) cs ls rows)) ss i)

-- ---- a turn
run_apart : (m : ℕ) (n : Node) (cs : List Claim) (ls rows : List Literal) (s : State) (ss : List State) → after (run m) (apart n cs ls rows) s ss ≡ run m (step_states (apart n cs ls rows) ++ ss)
run_apart m Always cs ls rows s ss = refl
run_apart m Never cs ls rows s ss = refl
run_apart m (Atom lit) cs ls rows s ss = refl
run_apart m (Every ds) cs ls rows s ss = refl
run_apart m (Some_of ds) cs ls rows s ss = refl

pub turn_apart : (left : ℕ) (s : State) (c : Claim) (cs : List Claim) (ls rows : List Literal) (ss : List State) → s ≡ state (c ∷ cs) ls rows → 0 < left → all_in_bounds ls ≡ true → all_in_bounds rows ≡ true →
    run left (s ∷ ss) ≡ run (left - 1) (step_states (apart (node_of c) cs ls rows) ++ ss)
turn_apart zero s c cs ls rows ss e h b d = absurd (omega arith)
turn_apart (suc m) s c cs ls rows ss e h b d =
    ap (λ t. run (suc m) (t ∷ ss)) e
    ∙ run_step m (state (c ∷ cs) ls rows) ss (ap₂ (λ p q. p && q) b d)
    ∙ ap (λ t. after (run m) t (state (c ∷ cs) ls rows) ss) (step_at c cs ls rows)
    ∙ run_apart m (node_of c) cs ls rows (state (c ∷ cs) ls rows) ss
    ∙ ap (λ k. run k (step_states (apart (node_of c) cs ls rows) ++ ss)) (let f : m ≡ suc m - 1 = omega arith in f)

pub bare_present : (rows : List Literal) (s : Stack) (n : ℕ) → n ≡ 0 → present rows s n ≡ state [] s.literals.items rows
bare_present rows s n e = ap (λ cs. state cs s.literals.items rows) (ap (chained s.claims.items) e ∙ chained_zero s.claims.items)

pub turn_explored : (left n : ℕ) (rows : List Literal) (s : Stack) (c : Course) → n ≡ 0 → Explores left (state [] s.literals.items rows ∷ []) c → run left (present rows s n ∷ waiting rows s) ≡ continued c (waiting rows s)
turn_explored left n rows s c e h = ap (λ t. run left (t ∷ waiting rows s)) (bare_present rows s n e) ∙ h.goes (waiting rows s)

pub turn_ended : (left n : ℕ) (rows : List Literal) (s : Stack) (c : Course) → n ≡ 0 → Explores left (state [] s.literals.items rows ∷ []) c → IsEnd c → run left (present rows s n ∷ waiting rows s) ≡ continued c []
turn_ended left n rows s c e h k = turn_explored left n rows s c e h ∙ same_end c (waiting rows s) [] k

pub turn_over : (left : ℕ) (s : State) (ss : List State) → left ≡ 0 → run left (s ∷ ss) ≡ TooMany
turn_over left s ss e = ap (λ k. run k (s ∷ ss)) e ∙ run_over s ss

-- the present state's first claim
pub present_at : (rows : List Literal) (s : Stack) (n : ℕ) (p : Pending) → (0 < n) → n ≤ length s.claims.items → p ≡ get_or s.claims.items (n - 1) p → IsChain (reverse s.claims.items) →
    present rows s n ≡ state (claim_value p.claim ∷ chained s.claims.items p.rest) s.literals.items rows
present_at rows s n p h k e c =
    let f : n ≡ (n - 1) + 1 = omega arith in
    ap (λ cs. state cs s.literals.items rows) (ap (chained s.claims.items) f ∙ chained_at s.claims.items (n - 1) p (omega arith) e c)

pub rest_place : (s : Stack) (n : ℕ) (p : Pending) → (0 < n) → n ≤ length s.claims.items → p ≡ get_or s.claims.items (n - 1) p → IsChain (reverse s.claims.items) → p.rest ≤ length s.claims.items
rest_place s n p h k e c = let r = rest_within s.claims.items (n - 1) p (omega arith) e c in omega (arith, r)

-- ---- the states that a call left
pub goes_on : (m : ℕ) (rows : List Literal) (ss : List Literal → List State) (s : Stack) (at : Option ℕ) → Stands ss s at → run m (ss rows) ≡ run m (all_states rows s at)
goes_on m rows ss s at h = ap (run m) (h.states rows)

pub good_on : (vars : ℕ) (rows : List Literal) (ss : List Literal → List State) (s : Stack) (at : Option ℕ) → Stands ss s at → AllGood vars (ss rows) → AllGood vars (all_states rows s at)
good_on vars rows ss s at h g = subst (AllGood vars) (h.states rows) g
