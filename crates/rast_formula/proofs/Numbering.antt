-- Names that are bound one after another.
use Rattle.std.proofs.Common.{◌≡◌, ℕ, suc, ◌+◌, Bool, true, false, cond, List, [], ◌∷◌, ◌++◌, length, refl, sym, ap, ◌∙◌, arith, subst, length-append, max, take, get_or, ◌<◌, add-one}
use Rattle.std.specs.List.{list_any, flat_map}
use Rattle.std.proofs.Math.Seq.{take-suc}
use Rattle.std.proofs.lemmas.Grind.{flat_map-append}
use Rattle.std.proofs.lemmas.List.{append-nil}
use Rattle.std.specs.Str.{bytes_eq}
use Rattle.rast_ast.specs.declared.form.Form.{Form}
use Rattle.rast_index.specs.declared.formula.Formula.{Formula}
use Rattle.rast_cooper.specs.Verdicts.{is_within}
use Rattle.rast_formula.specs.Scopes.{Bound, Text, span, is_good}
use Rattle.rast_formula.specs.Variables.{bound, all_bound, form_names, variables_of, Texts}

pub all_bound-append : (s : List Bound) (xs ys : Texts) → all_bound s (xs ++ ys) ≡ all_bound (all_bound s xs) ys
all_bound-append s [] ys = refl
all_bound-append s (x ∷ xs) ys = all_bound-append (bound s x) xs ys

pub ruleset steps = (all_bound-append)

pub two : (old : List Bound) (xs ys : Texts) {mid new : List Bound} {whole : Texts} → new ≡ all_bound mid ys → mid ≡ all_bound old xs → whole ≡ xs ++ ys → new ≡ all_bound old whole
two old xs ys second first is = second ∙ ap (λ s. all_bound s ys) first ∙ sym (all_bound-append old xs ys) ∙ ap (all_bound old) (sym is)

span_push : (s : List Bound) (b : Bound) → span (s ++ b ∷ []) ≡ max (span s) (suc b.number)
span_push [] b = omega arith
span_push (c ∷ s) b = let h = span_push s b in omega (arith, h)

one : (s : List Bound) (n : Text) → span s ≡ length s → span (bound s n) ≡ length (bound s n)
one s n h = by (list_any (λ (b : Bound). bytes_eq b.name n) s)
  where
    more : List Bound
    more = s ++ record { name = n; number = length s } ∷ []

    by : (t : Bool) → span (cond t s more) ≡ length (cond t s more)
    by true = h
    by false = let p = span_push s (record { name = n; number = length s }) in let q = length-append s (record { name = n; number = length s } ∷ []) in omega (arith, h, p, q)

-- variables that are numbered in order have numbers below their count
pub span_all : (s : List Bound) (ns : Texts) → span s ≡ length s → span (all_bound s ns) ≡ length (all_bound s ns)
span_all s [] h = h
span_all s (n ∷ ns) h = span_all (bound s n) ns (one s n h)

take_more : {X : Type 0} (f : X → Texts) (xs : List X) (i : ℕ) (x : X) → x ≡ get_or xs i x → i < length xs → flat_map f (take (i + 1) xs) ≡ flat_map f (take i xs) ++ f x
take_more f xs i x e lt =
    rw add-one (
    ap (flat_map f) (take-suc xs i x lt)
    ∙ flat_map-append f (take i xs) (get_or xs i x ∷ [])
    ∙ ap (λ y. flat_map f (take i xs) ++ (f y ++ [])) (sym e)
    ∙ ap (λ z. flat_map f (take i xs) ++ z) (append-nil (f x)))

-- the names of one more part are bound
pub taken : {X : Type 0} (f : X → Texts) (old mid new : List Bound) (xs : List X) (i : ℕ) (x : X) → x ≡ get_or xs i x → i < length xs
    → mid ≡ all_bound old (flat_map f (take i xs)) → new ≡ all_bound mid (f x) → new ≡ all_bound old (flat_map f (take (i + 1) xs))
taken f old mid new xs i x e lt first second = two old (flat_map f (take i xs)) (f x) second first (take_more f xs i x e lt)

pub within_length : (form : Form) (s : List Bound) (f : Formula) → s ≡ variables_of form → is_good (span s) f ≡ true → is_within (length s) f ≡ true
unfolding is_good
within_length form s f is h =
    let same : span s ≡ length s = ap span is ∙ span_all [] (form_names form) refl ∙ ap length (sym is) in
    subst (λ n. is_within n f ≡ true) same h
