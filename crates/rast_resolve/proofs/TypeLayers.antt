-- What the definitions say of a type, from what they say of its parts.
use Rattle.std.proofs.Common.{◌≡◌, ℕ, List, [], ◌∷◌, map, sym, ◌∙◌, ap, subst, refl, Ok}
use Rattle.rast_ast.specs.declared.type_expr.TypeExpr.{TypeExpr}
use Rattle.rast_ast.specs.declared.type_expr.TypeExpr.TheVariants as typed
use Rattle.rast_ast.specs.declared.type_expr.Atom.{Atom}
use Rattle.rast_ast.specs.declared.type_expr.Atom.TheVariants as atom
use Rattle.rast_ast.specs.declared.type_expr.Choice.{Choice}
use Rattle.rast_ast.specs.declared.type_expr.Prefix.{Prefix}
use Rattle.rast_ast.specs.declared.type_expr.Atom.TheOpen.{Prefixed, Plus, With}
use Rattle.rast_ast.specs.declared.type_expr.Atom.TheFolds.{fold_out-Choice, fold-roll-TypeExpr, fold-roll-Atom}
use Rattle.rast_types.specs.declared.ty.Ty.{Ty}
use Rattle.rast_types.specs.declared.ty.Ty.TheVariants as ty
use Rattle.rast_resolve.specs.declared.fault.NameErr.{NameErr}
use Rattle.rast_resolve.specs.Answers.{Answer, ◌>>=◌, Gives, Fails}
use Rattle.rast_resolve.specs.Scopes.{Text, Texts, Known, number_in}
use Rattle.rast_resolve.specs.Types as types
use Rattle.rast_resolve.specs.Types.{type_of, atom_of, choice_of, choices, prefixed, In, Labels}
use Rattle.rast_resolve.proofs.Chains.{made_ok, made_fails}

module _ (known : Known) (item : Text) (vars : Texts) where
  choice_at : (c : Choice) → choice_of known item c vars ≡ choices known.names [] ((c.label, type_of known item c.body) ∷ map (λ e. (e.0, type_of known item e.1)) c.rest) vars
  choice_at c = ap (λ f. f vars) (fold_out-Choice (In Ty) (In Ty) Labels (types.atom_step known item) (types.type_step item) (types.choice_step known.names) c)

  module _ (c : Choice) (a : Ty) (n : ℕ) (es : List (Text × TypeExpr)) (seen vars' : Texts) (is : type_of known item c.body vars ≡ Ok a) (num : n ≡ number_in known.names c.label)
      (same : es ≡ c.rest) (first : seen ≡ c.label ∷ []) (kept : vars' ≡ vars) where
    choice_on : choice_of known item c vars ≡ (choices known.names seen (map (λ e. (e.0, type_of known item e.1)) es) vars' >>= λ ts. Ok ((n, a) ∷ ts))
    choice_on = choice_at c ∙ rw (is, same, first, kept, num) refl

    pub choice_made : (ts out : List (ℕ × Ty)) → choices known.names seen (map (λ e. (e.0, type_of known item e.1)) es) vars' ≡ Ok ts → out ≡ (n, a) ∷ ts → choice_of known item c vars ≡ Ok out
    choice_made ts out e f = made_ok _ _ (λ z. (n, a) ∷ z) ts out choice_on e f

    pub choice_stops : (g : NameErr) → Fails (choices known.names seen (map (λ e. (e.0, type_of known item e.1)) es) vars') g → Fails (choice_of known item c vars) g
    choice_stops g h = made_fails _ (choices known.names seen (map (λ e. (e.0, type_of known item e.1)) es) vars') (λ ts. (n, a) ∷ ts) g choice_on h

  module _ (w : Atom) (c d : Choice) (same : d ≡ c) where
    plus_at : w ≡ atom.Plus c → atom_of known item w vars ≡ (choice_of known item d vars >>= λ ts. Ok (ty.Plus ts))
    plus_at is = ap (λ z. atom_of known item z vars) (is ∙ sym (atom.rolls-Plus c)) ∙ ap (λ f. f vars) (fold-roll-Atom (In Ty) (In Ty) Labels (types.atom_step known item) (types.type_step item) (types.choice_step known.names) (Plus c))
        ∙ ap (λ z. choice_of known item z vars >>= λ ts. Ok (ty.Plus ts)) (sym same)

    with_at : w ≡ atom.With c → atom_of known item w vars ≡ (choice_of known item d vars >>= λ ts. Ok (ty.With ts))
    with_at is = ap (λ z. atom_of known item z vars) (is ∙ sym (atom.rolls-With c)) ∙ ap (λ f. f vars) (fold-roll-Atom (In Ty) (In Ty) Labels (types.atom_step known item) (types.type_step item) (types.choice_step known.names) (With c))
        ∙ ap (λ z. choice_of known item z vars >>= λ ts. Ok (ty.With ts)) (sym same)

    pub plus_ok : (ts : List (ℕ × Ty)) → w ≡ atom.Plus c → choice_of known item d vars ≡ Ok ts → atom_of known item w vars ≡ Ok (ty.Plus ts)
    plus_ok ts is h = made_ok _ _ ty.Plus ts _ (plus_at is) h refl

    pub plus_err : (g : NameErr) → w ≡ atom.Plus c → Fails (choice_of known item d vars) g → Fails (atom_of known item w vars) g
    plus_err g is h = made_fails _ (choice_of known item d vars) ty.Plus g (plus_at is) h

    pub with_ok : (ts : List (ℕ × Ty)) → w ≡ atom.With c → choice_of known item d vars ≡ Ok ts → atom_of known item w vars ≡ Ok (ty.With ts)
    with_ok ts is h = made_ok _ _ ty.With ts _ (with_at is) h refl

    pub with_err : (g : NameErr) → w ≡ atom.With c → Fails (choice_of known item d vars) g → Fails (atom_of known item w vars) g
    with_err g is h = made_fails _ (choice_of known item d vars) ty.With g (with_at is) h

  pub prefixed_gives : (w : TypeExpr) (p : Prefix) (b d : TypeExpr) (r : Answer Ty) → w ≡ typed.Prefixed p b → d ≡ b → Gives (prefixed item p (type_of known item d) vars) r → Gives (type_of known item w vars) r
  prefixed_gives w p b d r is same h =
      let e : type_of known item w vars ≡ prefixed item p (type_of known item d) vars =
      ap (λ z. type_of known item z vars) (is ∙ sym (typed.rolls-Prefixed p b))
      ∙ ap (λ f. f vars) (fold-roll-TypeExpr (In Ty) (In Ty) Labels (types.atom_step known item) (types.type_step item) (types.choice_step known.names) (Prefixed p b))
      ∙ ap (λ z. prefixed item p (type_of known item z) vars) (sym same) in
      subst (λ a. Gives a r) (sym e) h
