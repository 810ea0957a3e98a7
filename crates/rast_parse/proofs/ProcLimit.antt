-- Where no process term may open, and process terms at each depth.
use Rattle.std.proofs.Common.{◌≡◌, ℕ, zero, suc, ◌-◌, ◌<◌, Bool, true, false, ◌&&◌, ◌||◌, List, [], ◌∷◌, ◌++◌, map, ap, sym, ◌∙◌, refl, subst, ◌⊎◌, inl, inr, arith}
use Rattle.rast_forms.specs.Words.{Word, Name, Number, Fixed, key_of, is_in, starts}
use Rattle.rast_forms.specs.Marks.{Mark, bare, starred, joined, highest, plain}
use Rattle.rast_forms.specs.Reading.{Syntax, Bad, limited}
use Rattle.rast_forms.proofs.Forms.{Exact, Begins, Right}
use Rattle.rast_forms.proofs.Sets.{and_left, and_right, and_both, is_in-append}
use Rattle.rast_forms.proofs.Sequence.{or_second}
use Rattle.rast_forms.proofs.Chain.{before}
use Rattle.rast_forms.proofs.Marking.{bare-starred, bare_split}
use Rattle.rast_forms.proofs.Shapes.{Opens, limit_deep, limit_wrong}
use Rattle.rast_ast.specs.Kinds.{code}
use Rattle.rast_ast.specs.declared.kind.Kind.TheVariants as kind
use Rattle.rast_ast.specs.declared.term.Lin.{Lin}
use Rattle.rast_ast.specs.declared.term.Term.TheVariants as term
use Rattle.rast_ast.specs.declared.process.Step.{Step}
use Rattle.rast_ast.specs.declared.process.Step.TheVariants as step
use Rattle.rast_ast.specs.declared.process.Proc.{Proc}
use Rattle.rast_ast.specs.declared.process.Branch.{Branch}
use Rattle.rast_ast.specs.declared.process.End.{End}
use Rattle.rast_ast.specs.declared.process.End.TheVariants as end
use Rattle.rast_ast.specs.Processes.{step_marks, proc_marks, end_marks, step_fits, proc_fits, branch_fits}
use Rattle.rast_parse.specs.declared.statement.Statement.{Statement}
use Rattle.rast_parse.specs.declared.statement.Statement.TheVariants as statement
use Rattle.rast_parse.specs.ProcessReading.{goes, ends, to_proc, explicit_first, plain_first, proc_limit, proc_read}
use Rattle.rast_parse.proofs.LinearExact.{bars}
use Rattle.rast_parse.proofs.FormulaLimit.{pick, less_two}
use Rattle.rast_parse.proofs.StatementsExact.{some_end, proc_first, proc_form, Layer, layer_form, to_statement, from_statement, statement_there, statement_marks, statement_fits, statement_form, statement_mark, statement_fit, close_fits, branch_fit}
use Rattle.rast_parse.proofs.ProcExact.{proc_chain, from_proc, proc_there, proc_mark, proc_fit, proc_fit_back, some_proc, proc_exact_by}

-- ---- what each begins with

-- whether a process term begins so
abbrev begins_proc : Bool → List Word → Bool
begins_proc explicit ts = (explicit && starts explicit_first ts) || starts plain_first ts

layer_opens : (explicit : Bool) (x : Layer) (r : List Word) → (layer_form explicit).fits x ≡ true → begins_proc explicit (bare ((layer_form explicit).mark x) ++ r) ≡ true
layer_opens true (inl (inl x)) r f = refl
layer_opens false (inl (inl x)) r f = absurd (cc)
layer_opens true (inl (inr (inl x))) r f = refl
layer_opens false (inl (inr (inl x))) r f = absurd (cc)
layer_opens true (inl (inr (inr (inl x)))) r f = refl
layer_opens false (inl (inr (inr (inl x)))) r f = absurd (cc)
layer_opens true (inl (inr (inr (inr (inl x))))) r f = refl
layer_opens false (inl (inr (inr (inr (inl x))))) r f = absurd (cc)
layer_opens true (inl (inr (inr (inr (inr x))))) r f = refl
layer_opens false (inl (inr (inr (inr (inr x))))) r f = absurd (cc)
layer_opens true (inr (inl (x, z))) r f = refl
layer_opens false (inr (inl (x, z))) r f = refl
layer_opens true (inr (inr (inl z))) r f = refl
layer_opens false (inr (inr (inl z))) r f = refl
layer_opens true (inr (inr (inr (inl z)))) r f = refl
layer_opens false (inr (inr (inr (inl z)))) r f = refl
layer_opens true (inr (inr (inr (inr (inl x))))) r f = refl
layer_opens false (inr (inr (inr (inr (inl x))))) r f = refl
layer_opens true (inr (inr (inr (inr (inr (inl l)))))) r f = refl
layer_opens false (inr (inr (inr (inr (inr (inl l)))))) r f = refl
layer_opens true (inr (inr (inr (inr (inr (inr (inl l))))))) r f = refl
layer_opens false (inr (inr (inr (inr (inr (inr (inl l))))))) r f = refl
layer_opens true (inr (inr (inr (inr (inr (inr (inr (inl x)))))))) r f = refl
layer_opens false (inr (inr (inr (inr (inr (inr (inr (inl x)))))))) r f = refl
layer_opens true (inr (inr (inr (inr (inr (inr (inr (inr z)))))))) r f = refl
layer_opens false (inr (inr (inr (inr (inr (inr (inr (inr z)))))))) r f = refl

statement_opens : (explicit : Bool) (s : Statement) (r : List Word) → statement_fits explicit s ≡ true → begins_proc explicit (bare (statement_marks s) ++ r) ≡ true
statement_opens explicit s r f = subst (λ (z : List Mark). begins_proc explicit (bare z ++ r) ≡ true) (sym (statement_mark explicit (from_statement s)) ∙ ap statement_marks (statement_there explicit s f))
    (layer_opens explicit (from_statement s) r (sym (statement_fit explicit (from_statement s)) ∙ ap (statement_fits explicit) (statement_there explicit s f) ∙ f))

first_words : (m s j e : List Mark) (r : List Word) → bare (((m ++ s) ++ j) ++ e) ++ r ≡ bare m ++ (bare s ++ (bare j ++ (bare e ++ r)))
first_words m s j e r = bare_split ((m ++ s) ++ j) e r ∙ bare_split (m ++ s) j (bare e ++ r) ∙ bare_split m s (bare j ++ (bare e ++ r))

chain_opens : (explicit : Bool) (xs : List Statement) (z : Statement) (r : List Word) → (proc_chain explicit).fits (xs, z) ≡ true → begins_proc explicit (bare ((proc_chain explicit).mark (xs, z)) ++ r) ≡ true
chain_opens explicit [] z r f = statement_opens explicit z r (and_right (ends z) _ f)
chain_opens explicit (x ∷ xs) z r f = subst (λ (w : List Word). begins_proc explicit w ≡ true)
    (sym (first_words (statement_marks x) (plain (Fixed (code kind.Semicolon - 2)) ∷ []) (joined (map (before (code kind.Semicolon - 2) (statement_form explicit)) xs)) (statement_marks z) r))
    (statement_opens explicit x _ (and_right (goes x) _ (and_left _ _ (and_left _ _ f))))

marks_of : (explicit : Bool) (p : Proc) → proc_fits explicit p ≡ true → starred ((proc_chain explicit).mark (from_proc p)) ≡ proc_marks p
marks_of explicit p f = sym (proc_mark explicit (from_proc p) (proc_fit_back explicit p f)) ∙ ap proc_marks (proc_there p)

proc_opens : (explicit : Bool) (p : Proc) (r : List Word) → proc_fits explicit p ≡ true → begins_proc explicit (bare (proc_marks p) ++ r) ≡ true
proc_opens explicit p r f = subst (λ (z : List Mark). begins_proc explicit (bare z ++ r) ≡ true) (marks_of explicit p f)
    (ap (λ z. begins_proc explicit (z ++ r)) (bare-starred ((proc_chain explicit).mark (from_proc p))) ∙ chain_opens explicit (from_proc p).0 (from_proc p).1 r (proc_fit_back explicit p f))

begins_of : (explicit : Bool) (ws : List Word) → begins_proc explicit (ws ++ []) ≡ true → Begins proc_first false ws
begins_of true [] e = absurd (cc)
begins_of false [] e = absurd (cc)
begins_of true (w ∷ ws) e = is_in-append explicit_first plain_first (key_of w) ∙ e
begins_of false (w ∷ ws) e = is_in-append explicit_first plain_first (key_of w) ∙ or_second (is_in explicit_first (key_of w)) _ e

high_of : (explicit : Bool) (ms : List Mark) → begins_proc explicit (bare (starred ms) ++ []) ≡ true → 0 < highest (starred ms)
high_of true [] e = absurd (cc)
high_of false [] e = absurd (cc)
high_of explicit (m ∷ ms) e = omega arith

proc_high : (explicit : Bool) (p : Proc) → proc_fits explicit p ≡ true → 0 < highest (proc_marks p)
proc_high explicit p f = subst (λ (z : List Mark). 0 < highest z) (marks_of explicit p f)
    (high_of explicit ((proc_chain explicit).mark (from_proc p)) (ap (λ (z : List Mark). begins_proc explicit (bare z ++ [])) (marks_of explicit p f) ∙ proc_opens explicit p [] f))

-- ---- a process term for each first token

opens_chain : (explicit : Bool) (x : List Statement × Statement) (w : Word) (more : List Mark) (v : List Word) → (proc_chain explicit).fits x ≡ true → (proc_chain explicit).mark x ≡ record { word = w; open_at = 0; in_formula = false } ∷ more →
    Opens bars (proc_form explicit) w v
opens_chain explicit x w more v f e = (to_proc x, record { word = w; open_at = 1; in_formula = false }, starred more, proc_fit explicit x f, sym (proc_mark explicit x f ∙ ap starred e), refl, omega arith)

opens_step : (explicit : Bool) (s : Step) (w : Word) (more : List Mark) (v : List Word) → step_fits explicit s ≡ true → step_marks s ≡ record { word = w; open_at = 0; in_formula = false } ∷ more → Opens bars (proc_form explicit) w v
opens_step explicit s w more v f e = opens_chain explicit (statement.Step s ∷ [], statement.End some_end) w _ v (and_both _ _ (and_both _ _ f refl) (close_fits explicit (97 ∷ [])))
    (ap (λ (z : List Mark). ((z ++ (plain (Fixed (code kind.Semicolon - 2)) ∷ [])) ++ []) ++ end_marks some_end) e)

-- an end, by its layer
opens_end : (explicit : Bool) (x : Layer) (e : End) (w : Word) (more : List Mark) (v : List Word) → to_statement x ≡ statement.End e → (layer_form explicit).fits x ≡ true → (layer_form explicit).mark x ≡ record { word = w; open_at = 0; in_formula = false } ∷ more →
    Opens bars (proc_form explicit) w v
opens_end explicit x e w more v t f g = opens_chain explicit ([], statement.End e) w more v (ap (statement_fits explicit) (sym t) ∙ statement_fit explicit x ∙ f) (ap statement_marks (sym t) ∙ statement_mark explicit x ∙ g)

abbrev one_lin : Lin
one_lin = record { first = term.Number 1; rest = [] }

abbrev some_branch : Branch
some_branch = record { label = 97 ∷ []; body = record { steps = []; end = some_end } }

some_branch_fits : (explicit : Bool) → branch_fits explicit some_branch ≡ true
some_branch_fits explicit = branch_fit explicit (97 ∷ [], record { steps = []; end = some_end }) ∙ some_proc explicit

case_fits : (explicit : Bool) → (layer_form explicit).fits (inr (inr (inr (inr (inr (inr (inr (inr (97 ∷ [], (some_branch, [])))))))))) ≡ true
case_fits explicit = rw (some_branch_fits explicit) refl

opens_at : (explicit : Bool) (k which : ℕ) (v : List Word) → suc (suc which) ≡ suc (suc k) → Opens bars (proc_form explicit) (Fixed k) v → Opens bars (proc_form explicit) (Fixed which) v
opens_at explicit k which v e o = subst (λ n. Opens bars (proc_form explicit) (Fixed n) v) (sym (less_two which k e)) o

opens_plain : (explicit : Bool) (which : ℕ) (v : List Word) → is_in plain_first (suc (suc which)) ≡ true → Opens bars (proc_form explicit) (Fixed which) v
opens_plain explicit which v h = name (pick _ _ _ h)
  where
    case : (suc (suc which) ≡ 6) ⊎ (is_in ([]) (suc (suc which)) ≡ true) → Opens bars (proc_form explicit) (Fixed which) v
    case (inl e) = opens_at explicit 4 which v e (opens_end explicit (inr (inr (inr (inr (inr (inr (inr (inr (97 ∷ [], (some_branch, [])))))))))) (end.Case (97 ∷ []) some_branch []) (Fixed 4) _ v refl (case_fits explicit) refl)
    case (inr e) = absurd (cc)

    close : (suc (suc which) ≡ 7) ⊎ (is_in (6 ∷ []) (suc (suc which)) ≡ true) → Opens bars (proc_form explicit) (Fixed which) v
    close (inl e) = opens_at explicit 5 which v e (opens_end explicit (inr (inr (inr (inr (inr (inr (inr (inl (97 ∷ []))))))))) (end.Close (97 ∷ [])) (Fixed 5) _ v refl refl refl)
    close (inr e) = case (pick _ _ _ e)

    delay : (suc (suc which) ≡ 9) ⊎ (is_in (7 ∷ 6 ∷ []) (suc (suc which)) ≡ true) → Opens bars (proc_form explicit) (Fixed which) v
    delay (inl e) = opens_at explicit 7 which v e (opens_step explicit (step.Delay one_lin) (Fixed 7) _ v refl refl)
    delay (inr e) = close (pick _ _ _ e)

    work : (suc (suc which) ≡ 28) ⊎ (is_in (9 ∷ 7 ∷ 6 ∷ []) (suc (suc which)) ≡ true) → Opens bars (proc_form explicit) (Fixed which) v
    work (inl e) = opens_at explicit 26 which v e (opens_step explicit (step.Work one_lin) (Fixed 26) _ v refl refl)
    work (inr e) = delay (pick _ _ _ e)

    wait : (suc (suc which) ≡ 26) ⊎ (is_in (28 ∷ 9 ∷ 7 ∷ 6 ∷ []) (suc (suc which)) ≡ true) → Opens bars (proc_form explicit) (Fixed which) v
    wait (inl e) = opens_at explicit 24 which v e (opens_step explicit (step.Wait (97 ∷ [])) (Fixed 24) _ v refl refl)
    wait (inr e) = work (pick _ _ _ e)

    brace : (suc (suc which) ≡ 53) ⊎ (is_in (26 ∷ 28 ∷ 9 ∷ 7 ∷ 6 ∷ []) (suc (suc which)) ≡ true) → Opens bars (proc_form explicit) (Fixed which) v
    brace (inl e) = opens_at explicit 51 which v e (opens_step explicit (step.Bind (97 ∷ []) (97 ∷ [])) (Fixed 51) _ v refl refl)
    brace (inr e) = wait (pick _ _ _ e)

    send : (suc (suc which) ≡ 23) ⊎ (is_in (53 ∷ 26 ∷ 28 ∷ 9 ∷ 7 ∷ 6 ∷ []) (suc (suc which)) ≡ true) → Opens bars (proc_form explicit) (Fixed which) v
    send (inl e) = opens_at explicit 21 which v e (opens_step explicit (step.Index (97 ∷ []) one_lin) (Fixed 21) _ v refl refl)
    send (inr e) = brace (pick _ _ _ e)

    name : (suc (suc which) ≡ 0) ⊎ (is_in (23 ∷ 53 ∷ 26 ∷ 28 ∷ 9 ∷ 7 ∷ 6 ∷ []) (suc (suc which)) ≡ true) → Opens bars (proc_form explicit) (Fixed which) v
    name (inl e) = absurd (omega (arith, e))
    name (inr e) = send (pick _ _ _ e)

opens_explicit : (which : ℕ) (v : List Word) → is_in explicit_first (suc (suc which)) ≡ true → Opens bars (proc_form true) (Fixed which) v
opens_explicit which v h = assert (pick _ _ _ h)
  where
    impossible : (suc (suc which) ≡ 17) ⊎ (is_in ([]) (suc (suc which)) ≡ true) → Opens bars (proc_form true) (Fixed which) v
    impossible (inl e) = opens_at true 15 which v e (opens_end true (inl (inr (inr (inr (inr tt))))) end.Impossible (Fixed 15) _ v refl refl refl)
    impossible (inr e) = absurd (cc)

    get : (suc (suc which) ≡ 15) ⊎ (is_in (17 ∷ []) (suc (suc which)) ≡ true) → Opens bars (proc_form true) (Fixed which) v
    get (inl e) = opens_at true 13 which v e (opens_step true (step.Get (97 ∷ [])) (Fixed 13) _ v refl refl)
    get (inr e) = impossible (pick _ _ _ e)

    pay : (suc (suc which) ≡ 19) ⊎ (is_in (15 ∷ 17 ∷ []) (suc (suc which)) ≡ true) → Opens bars (proc_form true) (Fixed which) v
    pay (inl e) = opens_at true 17 which v e (opens_step true (step.Pay (97 ∷ [])) (Fixed 17) _ v refl refl)
    pay (inr e) = get (pick _ _ _ e)

    assume : (suc (suc which) ≡ 4) ⊎ (is_in (19 ∷ 15 ∷ 17 ∷ []) (suc (suc which)) ≡ true) → Opens bars (proc_form true) (Fixed which) v
    assume (inl e) = opens_at true 2 which v e (opens_step true (step.Assume (97 ∷ [])) (Fixed 2) _ v refl refl)
    assume (inr e) = pay (pick _ _ _ e)

    assert : (suc (suc which) ≡ 3) ⊎ (is_in (4 ∷ 19 ∷ 15 ∷ 17 ∷ []) (suc (suc which)) ≡ true) → Opens bars (proc_form true) (Fixed which) v
    assert (inl e) = opens_at true 1 which v e (opens_step true (step.Assert (97 ∷ [])) (Fixed 1) _ v refl refl)
    assert (inr e) = assume (pick _ _ _ e)

either_way : (a b : Bool) → (a || b) ≡ true → (a ≡ true) ⊎ (b ≡ true)
either_way true b e = inl refl
either_way false b e = inr e

opens_fixed : (explicit : Bool) (which : ℕ) (v : List Word) → begins_proc explicit (Fixed which ∷ []) ≡ true → Opens bars (proc_form explicit) (Fixed which) v
opens_fixed false which v h = opens_plain false which v h
opens_fixed true which v h = at (either_way _ _ h)
  where
    at : (is_in explicit_first (suc (suc which)) ≡ true) ⊎ (is_in plain_first (suc (suc which)) ≡ true) → Opens bars (proc_form true) (Fixed which) v
    at (inl e) = opens_explicit which v e
    at (inr e) = opens_plain true which v e

opens_word : (explicit : Bool) (w : Word) (v : List Word) → begins_proc explicit (w ∷ []) ≡ true → Opens bars (proc_form explicit) w v
opens_word explicit (Name n) v h = opens_step explicit (step.Label n (97 ∷ [])) (Name n) _ v refl refl
opens_word false (Number k) v h = absurd (cc)
opens_word true (Number k) v h = absurd (cc)
opens_word explicit (Fixed which) v h = opens_fixed explicit which v h

limit_at : (explicit : Bool) (w : Word) (ts : List Word) (b : Bool) → begins_proc explicit (w ∷ []) ≡ b → Right bars 0 (proc_form explicit) (proc_limit explicit) (w ∷ ts) (limited b (w ∷ ts))
limit_at explicit w ts true e = limit_deep bars (proc_form explicit) (proc_limit explicit) w ts (opens_word explicit w ts e)
limit_at explicit w ts false e = limit_wrong bars (proc_form explicit) (proc_limit explicit) (w ∷ ts) (some_proc explicit) wrong
  where
    wrong : (x : Word) (v u : List Word) → w ∷ ts ≡ x ∷ v → proc_limit explicit (x ∷ u) ≡ Bad Syntax (x ∷ u)
    wrong x v u f = let same : w ≡ x = cc in let h : begins_proc explicit (x ∷ []) ≡ false = ap (λ y. begins_proc explicit (y ∷ [])) (sym same) ∙ e in ap (λ b. limited b (x ∷ u)) h

limit_sound : (explicit : Bool) (ts : List Word) → Right bars 0 (proc_form explicit) (proc_limit explicit) ts (proc_limit explicit ts)
limit_sound true [] = limit_wrong bars (proc_form true) (proc_limit true) [] (some_proc true) (λ x v w e. absurd (cc))
limit_sound false [] = limit_wrong bars (proc_form false) (proc_limit false) [] (some_proc false) (λ x v w e. absurd (cc))
limit_sound explicit (w ∷ ts) = limit_at explicit w ts (begins_proc explicit (w ∷ [])) refl

limit_proc_exact : (explicit : Bool) → Exact bars 0 (proc_form explicit) (proc_limit explicit)
limit_proc_exact explicit = record {
  complete = λ p r f g. inr (rw (proc_opens explicit p r f) tt, proc_high explicit p f);
  sound = limit_sound explicit;
  begins = λ p f. begins_of explicit (bare (proc_marks p)) (proc_opens explicit p [] f);
  some_fits = some_proc explicit;
}

pub proc_exact : (explicit : Bool) (d : ℕ) → Exact bars d (proc_form explicit) (proc_read explicit d)
proc_exact explicit zero = limit_proc_exact explicit
proc_exact explicit (suc d) = proc_exact_by d explicit (proc_read explicit d) (proc_exact explicit d)
