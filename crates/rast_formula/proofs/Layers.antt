-- What a written term or formula whose parts are a list stands for, and its names, from theirs.
use Rattle.std.proofs.Common.{◌≡◌, ℕ, Bool, true, false, ◌&&◌, List, [], ◌∷◌, ◌++◌, map, refl, sym, ap, ◌∙◌, subst, Ok}
use Rattle.std.specs.Prelude.{not, ◌==◌}
use Rattle.std.specs.List.{flat_map, list_all}
use Rattle.std.proofs.lemmas.List.Folds.{flat_map-map}
use Rattle.rast_forms.specs.Words.{all_true}
use Rattle.rast_index.specs.declared.formula.Formula.TheVariants as formula
use Rattle.rast_ast.specs.declared.term.Sign.{Sign}
use Rattle.rast_ast.specs.declared.term.Term.{Term}
use Rattle.rast_ast.specs.declared.term.Lin.{Lin}
use Rattle.rast_ast.specs.declared.term.Term.TheFolds.{fold_out-Lin}
use Rattle.rast_ast.specs.declared.form.Disjunction.{Disjunction, out-Disjunction}
use Rattle.rast_ast.specs.declared.form.Conjunction.{Conjunction, out-Conjunction}
use Rattle.rast_ast.specs.declared.form.Form.{Form}
use Rattle.rast_ast.specs.declared.form.Literal.{Literal}
use Rattle.rast_ast.specs.declared.form.Rel.{Rel}
use Rattle.rast_ast.specs.declared.form.Form.TheVariants as form
use Rattle.rast_ast.specs.declared.form.Literal.TheVariants as literal
use Rattle.rast_ast.specs.declared.form.Form.TheOpen as layer
use Rattle.rast_ast.specs.declared.form.Form.TheFolds.{fold_out-Disjunction, fold_out-Conjunction, fold-roll-Form, fold-roll-Literal}
use Rattle.rast_ast.specs.Formulas.{form_proper, literal_proper, conjunction_proper, disjunction_proper, form_fits, disjunction_fits, conjunction_fits, literal_fits}
use Rattle.rast_formula.specs.Answers.{Answer, Gives, ◌>>=◌}
use Rattle.rast_formula.proofs.Each.{goes_on}
use Rattle.rast_formula.specs.Scopes.{Look}
use Rattle.rast_index.specs.Linear.{Linear}
use Rattle.rast_formula.specs.Linears.{linear_of, term_of, term_step, lin_step, sums, signed_of}
use Rattle.rast_formula.specs.Formulas.{A, all_joined, form_step, literal_step, conjunction_step, disjunction_step, disjunction_of, conjunction_of, literal_of}
use Rattle.rast_formula.specs.Variables.{Texts, term_names_step, lin_names_step, lin_names, term_names, signed_names, form_names_step, literal_names_step, conjunction_names_step, disjunction_names_step, form_names, disjunction_names, conjunction_names, literal_names}

pub linear_at : (s : Look) (l : Lin) → linear_of s l ≡ (term_of s l.first >>= λ a. sums a (map (signed_of s) l.rest))
linear_at s l = fold_out-Lin (Answer Linear) (Answer Linear) (term_step s) lin_step l

pub lin_names_at : (l : Lin) → lin_names l ≡ term_names l.first ++ flat_map signed_names l.rest
lin_names_at l = fold_out-Lin Texts Texts term_names_step lin_names_step l ∙ ap (λ z. term_names l.first ++ z) (flat_map-map (λ t. t.1) (λ t. (t.0, term_names t.1)) l.rest)

pub disjunction_at : (s : Look) (d : Disjunction) → disjunction_of s d ≡ all_joined formula.Or (conjunction_of s (out-Disjunction d).first) (map (conjunction_of s) (out-Disjunction d).rest)
disjunction_at s d = fold_out-Disjunction A A A A form_step (literal_step s) conjunction_step disjunction_step d

pub conjunction_at : (s : Look) (c : Conjunction) → conjunction_of s c ≡ all_joined formula.And (literal_of s (out-Conjunction c).first) (map (literal_of s) (out-Conjunction c).rest)
conjunction_at s c = fold_out-Conjunction A A A A form_step (literal_step s) conjunction_step disjunction_step c

pub disjunction_names_at : (d : Disjunction) → disjunction_names d ≡ conjunction_names (out-Disjunction d).first ++ flat_map conjunction_names (out-Disjunction d).rest
disjunction_names_at d =
    fold_out-Disjunction Texts Texts Texts Texts form_names_step literal_names_step conjunction_names_step disjunction_names_step d
    ∙ ap (λ z. conjunction_names (out-Disjunction d).first ++ z) (flat_map-map (λ c. c) conjunction_names (out-Disjunction d).rest)

pub conjunction_names_at : (c : Conjunction) → conjunction_names c ≡ literal_names (out-Conjunction c).first ++ flat_map literal_names (out-Conjunction c).rest
conjunction_names_at c =
    fold_out-Conjunction Texts Texts Texts Texts form_names_step literal_names_step conjunction_names_step disjunction_names_step c
    ∙ ap (λ z. literal_names (out-Conjunction c).first ++ z) (flat_map-map (λ l. l) literal_names (out-Conjunction c).rest)

both : (a b : Bool) → (a && b) ≡ true → (a ≡ true) × (b ≡ true)
both true b e = (refl, e)
both false b e = absurd (cc)

all_true-map : {X : Type 0} (p : X → Bool) (xs : List X) → all_true (map p xs) ≡ list_all p xs
all_true-map p [] = refl
all_true-map p (x ∷ xs) = ap (λ b. p x && b) (all_true-map p xs)

-- the grammar has the parts of what it has
pub disjunction_parts : (d : Disjunction) → disjunction_fits d ≡ true → (conjunction_fits (out-Disjunction d).first ≡ true) × (list_all conjunction_fits (out-Disjunction d).rest ≡ true)
disjunction_parts d h =
    let g = both _ _ (sym (fold_out-Disjunction Bool Bool Bool Bool form_proper literal_proper conjunction_proper disjunction_proper d) ∙ h) in
    (g.0, sym (all_true-map conjunction_fits (out-Disjunction d).rest) ∙ g.1)

pub conjunction_parts : (c : Conjunction) → conjunction_fits c ≡ true → (literal_fits (out-Conjunction c).first ≡ true) × (list_all literal_fits (out-Conjunction c).rest ≡ true)
conjunction_parts c h =
    let g = both _ _ (sym (fold_out-Conjunction Bool Bool Bool Bool form_proper literal_proper conjunction_proper disjunction_proper c) ∙ h) in
    (g.0, sym (all_true-map literal_fits (out-Conjunction c).rest) ∙ g.1)

-- a linear term is its first term, and then the sums with the further ones
pub linear_gives : (s : Look) (l : Lin) (x : Term) (xs : List (Sign × Term)) (first r : Answer Linear) → x ≡ l.first → xs ≡ l.rest → Gives (term_of s x) first
    → ((said : Answer Linear) → Gives said first → Gives (said >>= λ a. sums a (map (signed_of s) xs)) r) → Gives (linear_of s l) r
linear_gives s l x xs first r one more h g =
    let step : Gives (term_of s l.first >>= λ a. sums a (map (signed_of s) l.rest)) r = rw (← one, ← more) (g (term_of s x) h) in
    subst (λ m. Gives m r) (sym (linear_at s l)) step

pub sum_gives : (said first r : Answer Linear) (a : Linear) (xs : List (Sign × Answer Linear)) → first ≡ Ok a → Gives (sums a xs) r → Gives said first → Gives (said >>= λ b. sums b xs) r
sum_gives said first r a xs is g h = goes_on said (λ b. sums b xs) a r (subst (λ m. Gives said m) is h) g

pub implies_names_at : (d : Disjunction) (f : Form) → form_names (form.Implies d f) ≡ disjunction_names d ++ form_names f
implies_names_at d f = ap form_names (sym (form.rolls-Implies d f)) ∙ fold-roll-Form Texts Texts Texts Texts form_names_step literal_names_step conjunction_names_step disjunction_names_step (layer.Implies d f)

pub related_names_at : (l m : Lin) (r : Rel) → literal_names (literal.Related l r m) ≡ lin_names l ++ lin_names m
related_names_at l m r = ap literal_names (sym (literal.rolls-Related l r m)) ∙ fold-roll-Literal Texts Texts Texts Texts form_names_step literal_names_step conjunction_names_step disjunction_names_step (layer.Related l r m)

pub implies_parts : (d : Disjunction) (f : Form) → form_fits (form.Implies d f) ≡ true → (disjunction_fits d ≡ true) × (form_fits f ≡ true)
implies_parts d f h =
    both _ _ (sym (ap form_fits (sym (form.rolls-Implies d f)) ∙ fold-roll-Form Bool Bool Bool Bool form_proper literal_proper conjunction_proper disjunction_proper (layer.Implies d f)) ∙ h)

pub not_part : (l : Literal) → literal_fits (literal.Not l) ≡ literal_fits l
not_part l = ap literal_fits (sym (literal.rolls-Not l)) ∙ fold-roll-Literal Bool Bool Bool Bool form_proper literal_proper conjunction_proper disjunction_proper (layer.Not l)

pub divides_part : (k : ℕ) (l : Lin) → literal_fits (literal.Divides k l) ≡ not (k == 0)
divides_part k l = ap literal_fits (sym (literal.rolls-Divides k l)) ∙ fold-roll-Literal Bool Bool Bool Bool form_proper literal_proper conjunction_proper disjunction_proper (layer.Divides k l)
