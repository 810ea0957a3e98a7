-- The canonical text of a linear term is cut into its tokens.
use Rattle.std.proofs.Common.{◌≡◌, ℕ, Bool, true, false, List, ◌++◌, map, refl}
use Rattle.std.specs.List.{flat_map}
use Rattle.rast_forms.specs.Marks.{Mark, joined}
use Rattle.rast_ast.specs.declared.term.Sign.{Sign}
use Rattle.rast_ast.specs.declared.term.Sign.TheVariants as sign
use Rattle.rast_ast.specs.declared.term.Lin.{Lin, roll-Lin}
use Rattle.rast_ast.specs.declared.term.Term.{Term, roll-Term}
use Rattle.rast_ast.specs.declared.term.Term.TheOpen.{Term-F, Lin-F, Times, Number, Variable, Group}
use Rattle.rast_ast.specs.declared.term.Term.TheFolds.{map-Term, map-Lin, fold-roll-Term, fold-roll-Lin}
use Rattle.rast_ast.specs.Linear as grammar
use Rattle.rast_ast.specs.Types.{braced, args_marks}
use Rattle.rast_lex.specs.Bytes.{starts}
use Rattle.rast_ast.specs.Names.{is_word_byte}
use Rattle.rast_print.specs.LinearText.{sign_text, term_text, lin_text, term_step, lin_step, braced_text}
use Rattle.rast_print.specs.TypeText.{args_text}
use Rattle.rast_print.proofs.Induction.{Such, each_lin}
use Rattle.rast_print.proofs.Cutting.{MayFollow, Cut, next, ◌▷◌, open_cut, weaker, as_is, parts_begin, parts_cut, list_cut}
use Rattle.rast_print.proofs.Tokens.{name_cut, number_cut, spaced_plus, spaced_minus, spaced_star, open_paren, close_paren, open_brace, close_brace}

sign_cut : (s : Sign) → Cut true (sign_text s) (grammar.sign_marks s)
sign_cut sign.Plus = spaced_plus
sign_cut sign.Minus = spaced_minus

sign_begins : (s : Sign) (x z : List ℕ) → starts is_word_byte ((sign_text s ++ x) ++ z) ≡ false
sign_begins sign.Plus x z = refl
sign_begins sign.Minus x z = refl

abbrev TermCut : Term → Type 0
TermCut t = (b : Bool) → Cut false (term_text t) (grammar.term_marks b t)

abbrev LinCut : Lin → Type 0
LinCut l = (b : Bool) → Cut false (lin_text l) (grammar.lin_marks b l)

term_at : (y : Term-F (Such TermCut) (Such LinCut)) → TermCut (roll-Term (map-Term (Such TermCut) (Such LinCut) Term Lin (λ e. e.0) (λ e. e.0) y))
term_at (Times k t) b = as_is (fold-roll-Term (List ℕ) (List ℕ) term_step lin_step (Times k t.0)) (fold-roll-Term (List Mark) (List Mark) (grammar.term_step b) grammar.lin_step (Times k t.0)) (open_cut (next (number_cut b k) (λ r h. refl) (spaced_star ▷ t.1 b)))
term_at (Number k) b = as_is (fold-roll-Term (List ℕ) (List ℕ) term_step lin_step (Number k)) (fold-roll-Term (List Mark) (List Mark) (grammar.term_step b) grammar.lin_step (Number k)) (open_cut (number_cut b k))
term_at (Variable n) b = as_is (fold-roll-Term (List ℕ) (List ℕ) term_step lin_step (Variable n)) (fold-roll-Term (List Mark) (List Mark) (grammar.term_step b) grammar.lin_step (Variable n)) (open_cut (name_cut n))
term_at (Group l) b = as_is (fold-roll-Term (List ℕ) (List ℕ) term_step lin_step (Group l.0)) (fold-roll-Term (List Mark) (List Mark) (grammar.term_step b) grammar.lin_step (Group l.0)) (open_cut (weaker (open_paren ▷ next (l.1 b) (λ r h. refl) close_paren)))

module _ (b : Bool) (ts : List (Sign × Such TermCut)) where
  further_begins : (r : List ℕ) → MayFollow false r → MayFollow false (flat_map (λ (t : Sign × List ℕ). sign_text t.0 ++ t.1) (map (λ (t : Sign × Term). (t.0, term_text t.1)) (map (λ (t : Sign × Such TermCut). (t.0, t.1.0)) ts)) ++ r)
  further_begins = parts_begin false (λ (t : Sign × List ℕ). sign_text t.0 ++ t.1) (λ (t : Sign × Term). (t.0, term_text t.1)) (λ (t : Sign × List Mark). grammar.sign_marks t.0 ++ t.1) (λ (t : Sign × Term). (t.0, grammar.term_marks b t.1)) (λ (t : Sign × Such TermCut). (t.0, t.1.0))
      (λ a z. sign_begins a.0 (term_text a.1.0) z) ts

  further_cut : Cut false (flat_map (λ (t : Sign × List ℕ). sign_text t.0 ++ t.1) (map (λ (t : Sign × Term). (t.0, term_text t.1)) (map (λ (t : Sign × Such TermCut). (t.0, t.1.0)) ts)))
      (joined (map (λ (t : Sign × List Mark). grammar.sign_marks t.0 ++ t.1) (map (λ (t : Sign × Term). (t.0, grammar.term_marks b t.1)) (map (λ (t : Sign × Such TermCut). (t.0, t.1.0)) ts))))
  further_cut = parts_cut false (λ (t : Sign × List ℕ). sign_text t.0 ++ t.1) (λ (t : Sign × Term). (t.0, term_text t.1)) (λ (t : Sign × List Mark). grammar.sign_marks t.0 ++ t.1) (λ (t : Sign × Term). (t.0, grammar.term_marks b t.1)) (λ (t : Sign × Such TermCut). (t.0, t.1.0))
      (λ a. sign_cut a.0 ▷ a.1.1 b) (λ a z. sign_begins a.0 (term_text a.1.0) z) ts

lin_at : (y : Lin-F (Such TermCut) (Such LinCut)) → LinCut (roll-Lin (map-Lin (Such TermCut) (Such LinCut) Term Lin (λ e. e.0) (λ e. e.0) y))
lin_at y b = as_is (fold-roll-Lin (List ℕ) (List ℕ) term_step lin_step (map-Lin (Such TermCut) (Such LinCut) Term Lin (λ e. e.0) (λ e. e.0) y)) (fold-roll-Lin (List Mark) (List Mark) (grammar.term_step b) grammar.lin_step (map-Lin (Such TermCut) (Such LinCut) Term Lin (λ e. e.0) (λ e. e.0) y))
    (next (y.first.1 b) (further_begins b y.rest) (further_cut b y.rest))

pub lin_cut : (b : Bool) (l : Lin) → Cut false (lin_text l) (grammar.lin_marks b l)
lin_cut b l = each_lin TermCut LinCut term_at lin_at l b

-- {e}
pub braced_cut : (l : Lin) → Cut true (braced_text l) (braced l)
braced_cut l = open_brace ▷ next (lin_cut false l) (λ r h. refl) close_brace

-- {e}..
pub args_cut : (ls : List Lin) → Cut true (args_text ls) (args_marks ls)
args_cut = list_cut true braced_text braced braced_cut (λ a z. tt)
