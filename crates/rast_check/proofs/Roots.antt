-- The bodies of the declarations, one after the other.
use Rattle.std.proofs.Common.{arith, ◌≡◌, ℕ, ◌+◌, ◌-◌, ◌<◌, List, ◌++◌, flat_map, length, drop, get_or, slice_get, Some, Result, sym, ap, ◌∙◌, subst}
use Rattle.std.proofs.lemmas.List.{drop_more}
use Rattle.rast_rules.specs.Rules.{Program, Decl, limited, root}
use Rattle.rast_rules.specs.declared.judgement.Judgement.{Judgement}
use Rattle.rast_types.specs.declared.stop.Stop.{Stop}
use Rattle.rast_check.specs.Questions.{Question, IsForward, from_number, node_questions}
use Rattle.rast_check.specs.Walk.{IsPlaced, waits, waiting_questions}
use Rattle.rast_check.proofs.Bodies.{body_within}

abbrev pub body_asked : Program → (ℕ × Decl) → List Question
body_asked g e = node_questions g (length g.nodes) (e.1.body, limited (root e.0 e.1))

abbrev pub bodies_asked : Program → ℕ → List Decl → List Question
bodies_asked g k ds = flat_map (body_asked g) (from_number k ds)

pub bodies_next : (g : Program) (ds : List Decl) (i : ℕ) (d : Decl) → ds ≡ g.decls → i < length ds → d ≡ get_or ds i d →
    bodies_asked g i (drop i g.decls) ≡ body_asked g (i, d) ++ bodies_asked g (i + 1) (drop (i + 1) g.decls)
bodies_next g ds i d is h e =
    subst (λ (xs : List Decl). bodies_asked g i (drop i xs) ≡ body_asked g (i, d) ++ bodies_asked g (i + 1) (drop (i + 1) xs)) is
    (ap (bodies_asked g i) (drop_more ds i d h) ∙ ap (λ (x : Decl). body_asked g (i, x) ++ bodies_asked g (i + 1) (drop (i + 1) ds)) (sym e))

-- a body is placed at depth 0, and is asked to the depth of all nodes
pub body_placed : (g : Program) (k : ℕ) (d : Decl) (r : Result Judgement Stop) → IsForward g → slice_get g.decls k ≡ Some d → IsPlaced g (waits 0 (d.body, r))
body_placed g k d r f e = record { deep = omega arith; there = body_within g f k d e }

pub body_asks : (g : Program) (k : ℕ) (d : Decl) (r : Result Judgement Stop) → limited (root k d) ≡ r → body_asked g (k, d) ≡ waiting_questions g (waits 0 (d.body, r))
body_asks g k d r e =
    ap (λ (x : Result Judgement Stop). node_questions g (length g.nodes) (d.body, x)) e
    ∙ ap (λ (f : ℕ). node_questions g f (d.body, r)) (same (length g.nodes))
  where
    same : (n : ℕ) → n ≡ n - 0
    same n = omega arith
