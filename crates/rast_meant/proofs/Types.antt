-- Types are made as they have to be: variables in scope, divisors of at least 1 where the grammar has the type, names with their arguments, different labels;
-- and as many quantifiers as written.
use Rattle.std.proofs.Common.{◌≡◌, ℕ, suc, ◌+◌, Bool, true, false, List, [], ◌∷◌, ◌++◌, map, length, flat_map, refl, sym, ap, ap₂, ◌∙◌, subst, arith, Option, Some, None, Ok, pos, slice_get, length-append, option_map}
use Rattle.std.specs.Prelude.{◌==◌, sum_by}
use Rattle.std.specs.List.{list_all}
use Rattle.std.proofs.lemmas.Bool.{eqb-true, eq-eqb, and_parts}
use Rattle.std.proofs.lemmas.Option.{slice_get-map}
use Rattle.std.proofs.lemmas.List.Sums.{sum_by-cons}
use Rattle.rast_index.specs.Linear.{Linear, is_closed, fixed}
use Rattle.rast_index.specs.Truth.{is_closed_formula}
use Rattle.rast_index.specs.declared.formula.Formula.{Formula}
use Rattle.rast_cooper.specs.Verdicts.{is_within}
use Rattle.rast_cooper.specs.Divisors.{divisors_above_zero}
use Rattle.rast_types.specs.Closed.{Table}
use Rattle.rast_types.specs.Symbolic.{is_scoped, scoped_step}
use Rattle.rast_types.specs.declared.table.TypeDef.{TypeDef}
use Rattle.rast_types.specs.declared.ty.Ty.{Ty, roll-Ty}
use Rattle.rast_types.specs.declared.ty.Ty.TheVariants as ty
use Rattle.rast_types.specs.declared.ty.Ty.TheOpen as layer
use Rattle.rast_types.specs.declared.ty.Ty.TheFolds.{fold-Ty, map-Ty, fold-roll-Ty}
use Rattle.rast_equal.specs.Fit.{is_within_type, within_step}
use Rattle.rast_equal.specs.WellMadeTypes.{takes_so_many, is_named, named_step, are_labels, is_labelled, labelled_step, quantifiers, quantifiers_step}
use Rattle.rast_ast.specs.declared.term.Lin.{Lin}
use Rattle.rast_ast.specs.declared.form.Form.{Form}
use Rattle.rast_ast.specs.declared.type_expr.Prefix.{Prefix}
use Rattle.rast_ast.specs.declared.type_expr.Prefix.TheVariants as prefix
use Rattle.rast_ast.specs.declared.type_expr.TypeExpr.{TypeExpr, roll-TypeExpr}
use Rattle.rast_ast.specs.declared.type_expr.Atom.{Atom, roll-Atom}
use Rattle.rast_ast.specs.declared.type_expr.Choice.{Choice, roll-Choice}
use Rattle.rast_ast.specs.declared.type_expr.Atom.TheOpen.{TypeExpr-F, Atom-F, Choice-F, Prefixed, Atom as Alone, Tensor, Lolli, One, Plus, With, Named, Group}
use Rattle.rast_ast.specs.declared.type_expr.Atom.TheFolds.{fold-TypeExpr, fold-Atom, fold-Choice, map-TypeExpr, map-Atom, map-Choice, fold-roll-TypeExpr, fold-roll-Atom, fold-roll-Choice}
use Rattle.rast_forms.specs.Words.{all_true}
use Rattle.rast_ast.specs.Types as written
use Rattle.rast_print.proofs.Induction.{Such, each_type}
use Rattle.rast_resolve.specs.declared.fault.NameErr.TheVariants as fault
use Rattle.rast_resolve.specs.Answers.{◌>>=◌}
use Rattle.rast_resolve.specs.Scopes.{Text, Texts, is_among, place_of, number_in, at_place}
use Rattle.rast_resolve.specs.Written.{linear_of, linears_of, formula_of}
use Rattle.rast_resolve.specs.Types as types
use Rattle.rast_resolve.specs.Types.{In, Labels, named_at, named, choices, prefixed, type_of, atom_of, choice_of}
use Rattle.rast_resolve.specs.Names as names
use Rattle.rast_meant.proofs.Kept.{Known}
use Rattle.rast_meant.proofs.Apart.{Gave, no_value, same, both, made, unless, where_true}
use Rattle.rast_meant.proofs.Numbers.{AreAmong, left_among, right_among}
use Rattle.rast_meant.proofs.Labels.{two, AreNew, more_labels, still_new}
use Rattle.rast_meant.proofs.Terms.{linear_shut, linears_shut, formula_shut, fixed_shut}

-- a type where n variables are in scope, with q quantifiers
pub record Fits (defs : Table) (names n q : ℕ) (t : Ty) : Type 0 where
  pub within : is_within_type n t ≡ true
  pub scoped : is_scoped n t ≡ true
  pub named : is_named defs t ≡ true
  pub labelled : is_labelled names t ≡ true
  pub counted : quantifiers t ≡ q

abbrev scopes : List (ℕ × Ty) → List (ℕ × (ℕ → Bool))
scopes ts = map (λ (e : ℕ × Ty). (e.0, fold-Ty (ℕ → Bool) scoped_step e.1)) ts

abbrev insides : List (ℕ × Ty) → List (ℕ × (ℕ → Bool))
insides ts = map (λ (e : ℕ × Ty). (e.0, fold-Ty (ℕ → Bool) within_step e.1)) ts

-- the same of the parts of a choice
record FitParts (defs : Table) (names n q : ℕ) (ts : List (ℕ × Ty)) : Type 0 where
  within : list_all (λ (e : ℕ × (ℕ → Bool)). e.1 n) (insides ts) ≡ true
  scoped : list_all (λ (e : ℕ × (ℕ → Bool)). e.1 n) (scopes ts) ≡ true
  named : list_all (λ (e : ℕ × Bool). e.1) (map (λ (e : ℕ × Ty). (e.0, is_named defs e.1)) ts) ≡ true
  labels : are_labels names (map (λ (e : ℕ × Bool). e.0) (map (λ (e : ℕ × Ty). (e.0, is_labelled names e.1)) ts)) ≡ true
  labelled : list_all (λ (e : ℕ × Bool). e.1) (map (λ (e : ℕ × Ty). (e.0, is_labelled names e.1)) ts) ≡ true
  counted : sum_by (λ (e : ℕ × ℕ). e.1) (map (λ (e : ℕ × Ty). (e.0, quantifiers e.1)) ts) ≡ q

module _ (defs : Table) (names n q : ℕ) where
  -- one layer, from what its parts say
  fits_at : (x : layer.Ty-F Ty) (t : Ty) → roll-Ty x ≡ t → within_step (map-Ty Ty (ℕ → Bool) (fold-Ty (ℕ → Bool) within_step) x) n ≡ true → scoped_step (map-Ty Ty (ℕ → Bool) (fold-Ty (ℕ → Bool) scoped_step) x) n ≡ true
      → named_step defs (map-Ty Ty Bool (is_named defs) x) ≡ true → labelled_step names (map-Ty Ty Bool (is_labelled names) x) ≡ true → quantifiers_step (map-Ty Ty ℕ quantifiers x) ≡ q → Fits defs names n q t
  fits_at x t is i a b c d = subst (Fits defs names n q) is (record {
    within = ap (λ f. f n) (fold-roll-Ty (ℕ → Bool) within_step x) ∙ i;
    scoped = ap (λ f. f n) (fold-roll-Ty (ℕ → Bool) scoped_step x) ∙ a;
    named = fold-roll-Ty Bool (named_step defs) x ∙ b;
    labelled = fold-roll-Ty Bool (labelled_step names) x ∙ c;
    counted = fold-roll-Ty ℕ quantifiers_step x ∙ d;
  })

  plus_fits : (ts : List (ℕ × Ty)) (t : Ty) → ty.Plus ts ≡ t → FitParts defs names n q ts → Fits defs names n q t
  plus_fits ts t is h = fits_at (layer.Plus ts) t (ty.rolls-Plus ts ∙ is) h.within h.scoped h.named (two _ _ h.labels h.labelled) h.counted

  with_fits : (ts : List (ℕ × Ty)) (t : Ty) → ty.With ts ≡ t → FitParts defs names n q ts → Fits defs names n q t
  with_fits ts t is h = fits_at (layer.With ts) t (ty.rolls-With ts ∙ is) h.within h.scoped h.named (two _ _ h.labels h.labelled) h.counted

  -- a term or a formula before a type changes nothing else
  assert_fits : (f : Formula) (a t : Ty) → ty.Assert f a ≡ t → is_within n f ≡ true → Fits defs names n q a → Fits defs names n q t
  assert_fits f a t is k h = fits_at (layer.Assert f a) t (ty.rolls-Assert f a ∙ is) (two _ _ k h.within) (two _ _ (and_parts (is_closed_formula n f) (divisors_above_zero f) k).0 h.scoped) h.named h.labelled h.counted

  assume_fits : (f : Formula) (a t : Ty) → ty.Assume f a ≡ t → is_within n f ≡ true → Fits defs names n q a → Fits defs names n q t
  assume_fits f a t is k h = fits_at (layer.Assume f a) t (ty.rolls-Assume f a ∙ is) (two _ _ k h.within) (two _ _ (and_parts (is_closed_formula n f) (divisors_above_zero f) k).0 h.scoped) h.named h.labelled h.counted

  pays_fits : (l : Linear) (a t : Ty) → ty.Pays l a ≡ t → is_closed n l ≡ true → Fits defs names n q a → Fits defs names n q t
  pays_fits l a t is k h = fits_at (layer.Pays l a) t (ty.rolls-Pays l a ∙ is) (two _ _ k h.within) (two _ _ k h.scoped) h.named h.labelled h.counted

  gets_fits : (l : Linear) (a t : Ty) → ty.Gets l a ≡ t → is_closed n l ≡ true → Fits defs names n q a → Fits defs names n q t
  gets_fits l a t is k h = fits_at (layer.Gets l a) t (ty.rolls-Gets l a ∙ is) (two _ _ k h.within) (two _ _ k h.scoped) h.named h.labelled h.counted

  next_fits : (l : Linear) (a t : Ty) → ty.Next l a ≡ t → is_closed n l ≡ true → Fits defs names n q a → Fits defs names n q t
  next_fits l a t is k h = fits_at (layer.Next l a) t (ty.rolls-Next l a ∙ is) (two _ _ k h.within) (two _ _ k h.scoped) h.named h.labelled h.counted

-- a pair, and a quantifier
module _ (defs : Table) (names n p q : ℕ) where
  tensor_fits : (a b t : Ty) → ty.Tensor a b ≡ t → Fits defs names n p a → Fits defs names n q b → Fits defs names n (p + q) t
  tensor_fits a b t is h k = fits_at defs names n (p + q) (layer.Tensor a b) t (ty.rolls-Tensor a b ∙ is) (two _ _ h.within k.within) (two _ _ h.scoped k.scoped) (two _ _ h.named k.named) (two _ _ h.labelled k.labelled) (ap₂ (λ x y. x + y) h.counted k.counted)

  lolli_fits : (a b t : Ty) → ty.Lolli a b ≡ t → Fits defs names n p a → Fits defs names n q b → Fits defs names n (p + q) t
  lolli_fits a b t is h k = fits_at defs names n (p + q) (layer.Lolli a b) t (ty.rolls-Lolli a b ∙ is) (two _ _ h.within k.within) (two _ _ h.scoped k.scoped) (two _ _ h.named k.named) (two _ _ h.labelled k.labelled) (ap₂ (λ x y. x + y) h.counted k.counted)

  ex_fits : (a t : Ty) → ty.Ex a ≡ t → Fits defs names (n + 1) q a → Fits defs names n (q + 1) t
  ex_fits a t is h = fits_at defs names n (q + 1) (layer.Ex a) t (ty.rolls-Ex a ∙ is) h.within h.scoped h.named h.labelled (ap (λ x. x + 1) h.counted)

  all_fits : (a t : Ty) → ty.All a ≡ t → Fits defs names (n + 1) q a → Fits defs names n (q + 1) t
  all_fits a t is h = fits_at defs names n (q + 1) (layer.All a) t (ty.rolls-All a ∙ is) h.within h.scoped h.named h.labelled (ap (λ x. x + 1) h.counted)

-- a way to gather names of a type: what it takes before a prefix's type, and what of a label
pub record Gathers (g : TypeExpr-F Texts Texts Texts → Texts) (h : Choice-F Texts Texts Texts → Texts) (front : Prefix → Texts) (label : Text → Texts) : Type 0 where
  pub prefixed : (p : Prefix) (x : Texts) → g (Prefixed p x) ≡ front p ++ x
  pub alone : (x : Texts) → g (Alone x) ≡ x
  pub tensor : (x y : Texts) → g (Tensor x y) ≡ x ++ y
  pub lolli : (x y : Texts) → g (Lolli x y) ≡ x ++ y
  pub choice : (c : Choice-F Texts Texts Texts) → h c ≡ label c.label ++ (c.body ++ flat_map (λ (e : Text × Texts). label e.0 ++ e.1) c.rest)

-- what is taken before a prefix's type is what the prefix binds
pub record Binds (front : Prefix → Texts) : Type 0 where
  pub ex : (n : Text) → front (prefix.Ex n) ≡ n ∷ []
  pub all : (n : Text) → front (prefix.All n) ≡ n ∷ []
  pub assert : (f : Form) → front (prefix.Assert f) ≡ []
  pub assume : (f : Form) → front (prefix.Assume f) ≡ []
  pub pays : (l : Lin) → front (prefix.Pays l) ≡ []
  pub gets : (l : Lin) → front (prefix.Gets l) ≡ []
  pub one : front prefix.NextOne ≡ []
  pub next : (l : Lin) → front (prefix.Next l) ≡ []

abbrev pub gathered : (TypeExpr-F Texts Texts Texts → Texts) → (Choice-F Texts Texts Texts → Texts) → TypeExpr → Texts
gathered g h a = fold-TypeExpr Texts Texts Texts names.atom_step g h a

-- names are known, and so many parameters of the definitions; g and h gather names with labels, i and j the names of quantifiers
module _ (known : Known) (defs : Table) (item : Text) (counts : map (λ (d : TypeDef). d.params) defs ≡ known.params)
    (g i : TypeExpr-F Texts Texts Texts → Texts) (h j : Choice-F Texts Texts Texts → Texts) (front bound : Prefix → Texts) (labels : Gathers g h front (λ n. n ∷ [])) (quantified : Gathers i j bound (λ n. [])) (binds : Binds bound) where
  abbrev N : ℕ
  N = length known.names

  abbrev FitsIn : In Ty → Texts → Texts → Type 0
  FitsIn f ls qs = (vars : Texts) (t : Ty) → AreAmong known.names ls → Gave (f vars) t → Fits defs N (length vars) (length qs) t

  abbrev FitPartsIn : Labels → Texts → Texts → Type 0
  FitPartsIn f ls qs = (vars : Texts) (ts : List (ℕ × Ty)) → AreAmong known.names ls → Gave (f vars) ts → FitParts defs N (length vars) (length qs) ts

  -- the same of names that are gathered alike
  alike : (f : In Ty) (ls ms qs rs : Texts) → ms ≡ ls → rs ≡ qs → FitsIn f ls qs → FitsIn f ms rs
  alike f ls ms qs rs e d w vars t am gave = subst (λ z. Fits defs N (length vars) (length z) t) (sym d) (w vars t (subst (AreAmong known.names) e am) gave)

  alike_parts : (f : Labels) (ls ms qs rs : Texts) → ms ≡ ls → rs ≡ qs → FitPartsIn f ls qs → FitPartsIn f ms rs
  alike_parts f ls ms qs rs e d w vars t am gave = subst (λ z. FitParts defs N (length vars) (length z) t) (sym d) (w vars t (subst (AreAmong known.names) e am) gave)

  abbrev labels_atom : Atom → Texts
  labels_atom a = fold-Atom Texts Texts Texts names.atom_step g h a

  abbrev labels_type : TypeExpr → Texts
  labels_type a = gathered g h a

  abbrev labels_choice : Choice → Texts
  labels_choice c = fold-Choice Texts Texts Texts names.atom_step g h c

  abbrev bound_atom : Atom → Texts
  bound_atom a = fold-Atom Texts Texts Texts names.atom_step i j a

  abbrev bound_type : TypeExpr → Texts
  bound_type a = gathered i j a

  abbrev bound_choice : Choice → Texts
  bound_choice c = fold-Choice Texts Texts Texts names.atom_step i j c

  OfAtom : Atom → Type 0
  OfAtom a = written.atom_fits a ≡ true → FitsIn (atom_of known item a) (labels_atom a) (bound_atom a)

  OfType : TypeExpr → Type 0
  OfType a = written.type_fits a ≡ true → FitsIn (type_of known item a) (labels_type a) (bound_type a)

  OfChoice : Choice → Type 0
  OfChoice c = written.choice_fits c ≡ true → FitPartsIn (choice_of known item c) (labels_choice c) (bound_choice c)

  -- ---- names of types

  takes : (k n m : ℕ) → slice_get known.params k ≡ Some n → m ≡ n → takes_so_many (slice_get defs k) m ≡ true
  takes k n m is e = by (slice_get defs k) (sym (slice_get-map (λ (d : TypeDef). d.params) defs k) ∙ ap (λ z. slice_get z k) counts ∙ is)
    where
      by : (o : Option TypeDef) → option_map (λ (d : TypeDef). d.params) o ≡ Some n → takes_so_many o m ≡ true
      by None f = absurd (cc f)
      by (Some d) f = let g : d.params ≡ n = cc f in eq-eqb d.params m (g ∙ sym e)

  named_fits : (n : Text) (es : List Lin) (vars : Texts) (t : Ty) → Gave (named known item n es vars) t → Fits defs N (length vars) 0 t
  named_fits n es vars t gave = by (place_of n known.types) (at_place known.params (place_of n known.types)) refl gave
    where
      by : (o p : Option ℕ) → at_place known.params o ≡ p → Gave (named_at item vars n es o p) t → Fits defs N (length vars) 0 t
      by None p e g = absurd (no_value (fault.Unknown n) t g)
      by (Some k) None e g = absurd (no_value (fault.Unknown n) t g)
      by (Some k) (Some m) e g =
          let a = where_true (length es == m) (fault.Arity n) (linears_of item false vars es >>= λ ls. Ok (ty.Named k ls)) t g in
          let b = made (linears_of item false vars es) (λ ls. ty.Named k ls) t a.1 in
          let c = linears_shut item vars es b.0 b.1 in
          fits_at defs N (length vars) 0 (layer.Named k b.0) t (ty.rolls-Named k b.0 ∙ b.2) c.0 c.0 (takes k m (length b.0) e (c.1 ∙ eqb-true (length es) m a.0)) refl refl

  -- ---- choices

  abbrev numbers_of : List (ℕ × Ty) → List ℕ
  numbers_of ts = map (λ (e : ℕ × Bool). e.0) (map (λ (e : ℕ × Ty). (e.0, is_labelled N e.1)) ts)

  abbrev asked : List (Text × Such OfType) → List (Text × In Ty)
  asked cs = map (λ (e : Text × TypeExpr). (e.0, type_of known item e.1)) (map (λ (e : Text × Such OfType). (e.0, e.1.0)) cs)

  abbrev labels_in : List (Text × Such OfType) → Texts
  labels_in cs = flat_map (λ (e : Text × Texts). (e.0 ∷ []) ++ e.1) (map (λ (e : Text × TypeExpr). (e.0, labels_type e.1)) (map (λ (e : Text × Such OfType). (e.0, e.1.0)) cs))

  abbrev bound_in : List (Text × Such OfType) → Texts
  bound_in cs = flat_map (λ (e : Text × Texts). [] ++ e.1) (map (λ (e : Text × TypeExpr). (e.0, bound_type e.1)) (map (λ (e : Text × Such OfType). (e.0, e.1.0)) cs))

  abbrev have_parts : List (Text × Such OfType) → Bool
  have_parts cs = all_true (map (λ (e : Text × Bool). e.1) (map (λ (e : Text × TypeExpr). (e.0, written.type_fits e.1)) (map (λ (e : Text × Such OfType). (e.0, e.1.0)) cs)))

  one_part : (n m r : ℕ) (l : Text) (a : Ty) (ts : List (ℕ × Ty)) (seen : Texts) → is_among l known.names ≡ true → Fits defs N n m a → FitParts defs N n r ts → AreNew known.names (seen ++ l ∷ []) (numbers_of ts) → FitParts defs N n (m + r) ((number_in known.names l, a) ∷ ts)
  one_part n m r l a ts seen is f p new = record {
    within = two _ _ f.within p.within;
    scoped = two _ _ f.scoped p.scoped;
    named = two _ _ f.named p.named;
    labels = more_labels known.names l seen (numbers_of ts) is new p.labels;
    labelled = two _ _ f.labelled p.labelled;
    counted = sum_by-cons (λ (e : ℕ × ℕ). e.1) (number_in known.names l, quantifiers a) (map (λ (e : ℕ × Ty). (e.0, quantifiers e.1)) ts) ∙ ap₂ (λ x y. x + y) f.counted p.counted;
  }

  parts_fit : (vars seen : Texts) (cs : List (Text × Such OfType)) (ts : List (ℕ × Ty)) → have_parts cs ≡ true → AreAmong known.names (labels_in cs) → Gave (choices known.names seen (asked cs) vars) ts
      → FitParts defs N (length vars) (length (bound_in cs)) ts × AreNew known.names seen (numbers_of ts)
  unfolding OfType
  parts_fit vars seen [] ts fit am gave = subst (λ z. FitParts defs N (length vars) 0 z × AreNew known.names seen (numbers_of z)) (same [] ts gave) (record { within = refl; scoped = refl; named = refl; labels = refl; labelled = refl; counted = refl }, λ l a b. refl)
  parts_fit vars seen (c ∷ cs) ts fit am gave =
      let fits = and_parts (written.type_fits c.1.0) (have_parts cs) fit in
      let u = unless (is_among c.0 seen) (fault.Twice c.0) (type_of known item c.1.0 vars >>= λ a. choices known.names (seen ++ c.0 ∷ []) (asked cs) vars >>= λ as'. Ok ((number_in known.names c.0, a) ∷ as')) ts gave in
      let a = both (type_of known item c.1.0 vars) (λ a. choices known.names (seen ++ c.0 ∷ []) (asked cs) vars >>= λ as'. Ok ((number_in known.names c.0, a) ∷ as')) ts u.1 in
      let b = made (choices known.names (seen ++ c.0 ∷ []) (asked cs) vars) (λ as'. (number_in known.names c.0, a.0) ∷ as') ts a.2 in
      let f = c.1.1 fits.0 vars a.0 (left_among known.names (labels_type c.1.0) (labels_in cs) am.1) a.1 in
      let rest = parts_fit vars (seen ++ c.0 ∷ []) cs b.0 fits.1 (right_among known.names (labels_type c.1.0) (labels_in cs) am.1) b.1 in
      subst (λ z. FitParts defs N (length vars) (length (bound_in (c ∷ cs))) z × AreNew known.names seen (numbers_of z)) b.2 (
        subst (λ m. FitParts defs N (length vars) m ((number_in known.names c.0, a.0) ∷ b.0)) (sym (length-append (bound_type c.1.0) (bound_in cs)))
            (one_part (length vars) (length (bound_type c.1.0)) (length (bound_in cs)) c.0 a.0 b.0 seen am.0 f rest.0 rest.1),
        still_new known.names c.0 seen (numbers_of b.0) am.0 rest.1 u.0,
      )

  -- ---- a tree from its parts

  atom_by : (y : Atom-F Atom TypeExpr Choice) → (written.atom_proper (map-Atom Atom TypeExpr Choice Bool Bool Bool written.atom_fits written.type_fits written.choice_fits y) ≡ true → FitsIn (types.atom_step known item (map-Atom Atom TypeExpr Choice (In Ty) (In Ty) Labels (atom_of known item) (type_of known item) (choice_of known item) y))
      (names.atom_step (map-Atom Atom TypeExpr Choice Texts Texts Texts labels_atom labels_type labels_choice y)) (names.atom_step (map-Atom Atom TypeExpr Choice Texts Texts Texts bound_atom bound_type bound_choice y))) → OfAtom (roll-Atom y)
  unfolding OfAtom
  atom_by y w fit vars t am gave =
      alike _ _ (labels_atom (roll-Atom y)) _ (bound_atom (roll-Atom y)) (fold-roll-Atom Texts Texts Texts names.atom_step g h y) (fold-roll-Atom Texts Texts Texts names.atom_step i j y) (w (sym (fold-roll-Atom Bool Bool Bool written.atom_proper written.type_proper written.choice_proper y) ∙ fit)) vars t am
      (sym (ap (λ f. f vars) (fold-roll-Atom (In Ty) (In Ty) Labels (types.atom_step known item) (types.type_step item) (types.choice_step known.names) y)) ∙ gave)

  type_by : (y : TypeExpr-F Atom TypeExpr Choice) (ls qs : Texts) → g (map-TypeExpr Atom TypeExpr Choice Texts Texts Texts labels_atom labels_type labels_choice y) ≡ ls → i (map-TypeExpr Atom TypeExpr Choice Texts Texts Texts bound_atom bound_type bound_choice y) ≡ qs
      → (written.type_proper (map-TypeExpr Atom TypeExpr Choice Bool Bool Bool written.atom_fits written.type_fits written.choice_fits y) ≡ true → FitsIn (types.type_step item (map-TypeExpr Atom TypeExpr Choice (In Ty) (In Ty) Labels (atom_of known item) (type_of known item) (choice_of known item) y)) ls qs) → OfType (roll-TypeExpr y)
  unfolding OfType
  type_by y ls qs e d w fit vars t am gave =
      alike _ ls (labels_type (roll-TypeExpr y)) qs (bound_type (roll-TypeExpr y)) (fold-roll-TypeExpr Texts Texts Texts names.atom_step g h y ∙ e) (fold-roll-TypeExpr Texts Texts Texts names.atom_step i j y ∙ d) (w (sym (fold-roll-TypeExpr Bool Bool Bool written.atom_proper written.type_proper written.choice_proper y) ∙ fit)) vars t am
      (sym (ap (λ f. f vars) (fold-roll-TypeExpr (In Ty) (In Ty) Labels (types.atom_step known item) (types.type_step item) (types.choice_step known.names) y)) ∙ gave)

  choice_by : (y : Choice-F Atom TypeExpr Choice) (ls qs : Texts) → h (map-Choice Atom TypeExpr Choice Texts Texts Texts labels_atom labels_type labels_choice y) ≡ ls → j (map-Choice Atom TypeExpr Choice Texts Texts Texts bound_atom bound_type bound_choice y) ≡ qs
      → (written.choice_proper (map-Choice Atom TypeExpr Choice Bool Bool Bool written.atom_fits written.type_fits written.choice_fits y) ≡ true → FitPartsIn (types.choice_step known.names (map-Choice Atom TypeExpr Choice (In Ty) (In Ty) Labels (atom_of known item) (type_of known item) (choice_of known item) y)) ls qs) → OfChoice (roll-Choice y)
  unfolding OfChoice
  choice_by y ls qs e d w fit vars t am gave =
      alike_parts _ ls (labels_choice (roll-Choice y)) qs (bound_choice (roll-Choice y)) (fold-roll-Choice Texts Texts Texts names.atom_step g h y ∙ e) (fold-roll-Choice Texts Texts Texts names.atom_step i j y ∙ d) (w (sym (fold-roll-Choice Bool Bool Bool written.atom_proper written.type_proper written.choice_proper y) ∙ fit)) vars t am
      (sym (ap (λ f. f vars) (fold-roll-Choice (In Ty) (In Ty) Labels (types.atom_step known item) (types.type_step item) (types.choice_step known.names) y)) ∙ gave)

  atom_at : (y : Atom-F (Such OfAtom) (Such OfType) (Such OfChoice)) → OfAtom (roll-Atom (map-Atom (Such OfAtom) (Such OfType) (Such OfChoice) Atom TypeExpr Choice (λ e. e.0) (λ e. e.0) (λ e. e.0) y))
  unfolding OfType OfChoice
  atom_at One = atom_by One (λ fit vars t am gave. fits_at defs N (length vars) 0 layer.One t (ty.rolls-One ∙ same ty.One t gave) refl refl refl refl refl)
  atom_at (Plus c) = atom_by (Plus c.0) (λ fit vars t am gave.
      let a = made (choice_of known item c.0 vars) (λ ts. ty.Plus ts) t gave in plus_fits defs N (length vars) (length (bound_choice c.0)) a.0 t a.2 (c.1 fit vars a.0 am a.1))
  atom_at (With c) = atom_by (With c.0) (λ fit vars t am gave.
      let a = made (choice_of known item c.0 vars) (λ ts. ty.With ts) t gave in with_fits defs N (length vars) (length (bound_choice c.0)) a.0 t a.2 (c.1 fit vars a.0 am a.1))
  atom_at (Named n es) = atom_by (Named n es) (λ fit vars t am gave. named_fits n es vars t gave)
  atom_at (Group a) = atom_by (Group a.0) a.1

  -- the scope of a quantifier's body
  wider : (vars : Texts) (n : Text) (k : ℕ) (t : Ty) → Fits defs N (length (vars ++ n ∷ [])) k t → Fits defs N (length vars + 1) k t
  wider vars n k t is = subst (λ m. Fits defs N m k t) (length-append vars (n ∷ [])) is

  one_more : (n : Text) (qs xs : Texts) → qs ≡ n ∷ [] → length xs + 1 ≡ length (qs ++ xs)
  one_more n qs xs e = (let z : length xs + 1 ≡ suc (length xs) = omega arith in z) ∙ sym (ap (λ z. length (z ++ xs)) e)

  -- a prefix that binds nothing
  unbound : (p : Prefix) (f : In Ty) (xs qs : Texts) → bound p ≡ [] → FitsIn f xs qs → FitsIn f (front p ++ xs) (bound p ++ qs)
  unbound p f xs qs e w vars t am gave = subst (λ z. Fits defs N (length vars) (length (z ++ qs)) t) (sym e) (w vars t (right_among known.names (front p) xs am) gave)

  after_prefix : (p : Prefix) (a : Such OfType) → written.prefix_fits p ≡ true → written.type_fits a.0 ≡ true → FitsIn (prefixed item p (type_of known item a.0)) (front p ++ labels_type a.0) (bound p ++ bound_type a.0)
  unfolding OfType
  after_prefix (prefix.Ex n) a proper fit = λ vars t am gave.
      let b = made (type_of known item a.0 (vars ++ n ∷ [])) (λ a. ty.Ex a) t gave in
      let f = wider vars n (length (bound_type a.0)) b.0 (a.1 fit (vars ++ n ∷ []) b.0 (right_among known.names (front (prefix.Ex n)) (labels_type a.0) am) b.1) in
      subst (λ m. Fits defs N (length vars) m t) (one_more n (bound (prefix.Ex n)) (bound_type a.0) (binds.ex n)) (ex_fits defs N (length vars) 0 (length (bound_type a.0)) b.0 t b.2 f)
  after_prefix (prefix.All n) a proper fit = λ vars t am gave.
      let b = made (type_of known item a.0 (vars ++ n ∷ [])) (λ a. ty.All a) t gave in
      let f = wider vars n (length (bound_type a.0)) b.0 (a.1 fit (vars ++ n ∷ []) b.0 (right_among known.names (front (prefix.All n)) (labels_type a.0) am) b.1) in
      subst (λ m. Fits defs N (length vars) m t) (one_more n (bound (prefix.All n)) (bound_type a.0) (binds.all n)) (all_fits defs N (length vars) 0 (length (bound_type a.0)) b.0 t b.2 f)
  after_prefix (prefix.Assert f) a proper fit = unbound (prefix.Assert f) _ (labels_type a.0) (bound_type a.0) (binds.assert f) (λ vars t am gave.
      let b = both (formula_of item vars f) (λ h. type_of known item a.0 vars >>= λ a. Ok (ty.Assert h a)) t gave in
      let c = made (type_of known item a.0 vars) (λ a. ty.Assert b.0 a) t b.2 in
      assert_fits defs N (length vars) (length (bound_type a.0)) b.0 c.0 t c.2 (formula_shut item vars f b.0 proper b.1) (a.1 fit vars c.0 am c.1))
  after_prefix (prefix.Assume f) a proper fit = unbound (prefix.Assume f) _ (labels_type a.0) (bound_type a.0) (binds.assume f) (λ vars t am gave.
      let b = both (formula_of item vars f) (λ h. type_of known item a.0 vars >>= λ a. Ok (ty.Assume h a)) t gave in
      let c = made (type_of known item a.0 vars) (λ a. ty.Assume b.0 a) t b.2 in
      assume_fits defs N (length vars) (length (bound_type a.0)) b.0 c.0 t c.2 (formula_shut item vars f b.0 proper b.1) (a.1 fit vars c.0 am c.1))
  after_prefix (prefix.Pays e) a proper fit = unbound (prefix.Pays e) _ (labels_type a.0) (bound_type a.0) (binds.pays e) (λ vars t am gave.
      let b = both (linear_of item false vars e) (λ h. type_of known item a.0 vars >>= λ a. Ok (ty.Pays h a)) t gave in
      let c = made (type_of known item a.0 vars) (λ a. ty.Pays b.0 a) t b.2 in
      pays_fits defs N (length vars) (length (bound_type a.0)) b.0 c.0 t c.2 (linear_shut item vars e b.0 b.1) (a.1 fit vars c.0 am c.1))
  after_prefix (prefix.Gets e) a proper fit = unbound (prefix.Gets e) _ (labels_type a.0) (bound_type a.0) (binds.gets e) (λ vars t am gave.
      let b = both (linear_of item false vars e) (λ h. type_of known item a.0 vars >>= λ a. Ok (ty.Gets h a)) t gave in
      let c = made (type_of known item a.0 vars) (λ a. ty.Gets b.0 a) t b.2 in
      gets_fits defs N (length vars) (length (bound_type a.0)) b.0 c.0 t c.2 (linear_shut item vars e b.0 b.1) (a.1 fit vars c.0 am c.1))
  after_prefix prefix.NextOne a proper fit = unbound prefix.NextOne _ (labels_type a.0) (bound_type a.0) binds.one (λ vars t am gave.
      let c = made (type_of known item a.0 vars) (λ a. ty.Next (fixed (pos 1)) a) t gave in
      next_fits defs N (length vars) (length (bound_type a.0)) (fixed (pos 1)) c.0 t c.2 (fixed_shut (length vars) (pos 1)) (a.1 fit vars c.0 am c.1))
  after_prefix (prefix.Next e) a proper fit = unbound (prefix.Next e) _ (labels_type a.0) (bound_type a.0) (binds.next e) (λ vars t am gave.
      let b = both (linear_of item false vars e) (λ h. type_of known item a.0 vars >>= λ a. Ok (ty.Next h a)) t gave in
      let c = made (type_of known item a.0 vars) (λ a. ty.Next b.0 a) t b.2 in
      next_fits defs N (length vars) (length (bound_type a.0)) b.0 c.0 t c.2 (linear_shut item vars e b.0 b.1) (a.1 fit vars c.0 am c.1))

  type_at : (y : TypeExpr-F (Such OfAtom) (Such OfType) (Such OfChoice)) → OfType (roll-TypeExpr (map-TypeExpr (Such OfAtom) (Such OfType) (Such OfChoice) Atom TypeExpr Choice (λ e. e.0) (λ e. e.0) (λ e. e.0) y))
  unfolding OfAtom OfType
  type_at (Prefixed p a) = type_by (Prefixed p a.0) _ _ (labels.prefixed p (labels_type a.0)) (quantified.prefixed p (bound_type a.0)) (λ fit. let fits = and_parts (written.prefix_fits p) (written.type_fits a.0) fit in after_prefix p a fits.0 fits.1)
  type_at (Alone a) = type_by (Alone a.0) _ _ (labels.alone (labels_atom a.0)) (quantified.alone (bound_atom a.0)) a.1
  type_at (Tensor a b) = type_by (Tensor a.0 b.0) _ _ (labels.tensor (labels_atom a.0) (labels_type b.0)) (quantified.tensor (bound_atom a.0) (bound_type b.0)) (λ fit vars t am gave.
      let fits = and_parts (written.atom_fits a.0) (written.type_fits b.0) fit in
      let c = both (atom_of known item a.0 vars) (λ x. type_of known item b.0 vars >>= λ y. Ok (ty.Tensor x y)) t gave in
      let d = made (type_of known item b.0 vars) (λ y. ty.Tensor c.0 y) t c.2 in
      subst (λ m. Fits defs N (length vars) m t) (sym (length-append (bound_atom a.0) (bound_type b.0)))
      (tensor_fits defs N (length vars) (length (bound_atom a.0)) (length (bound_type b.0)) c.0 d.0 t d.2 (a.1 fits.0 vars c.0 (left_among known.names (labels_atom a.0) (labels_type b.0) am) c.1) (b.1 fits.1 vars d.0 (right_among known.names (labels_atom a.0) (labels_type b.0) am) d.1)))
  type_at (Lolli a b) = type_by (Lolli a.0 b.0) _ _ (labels.lolli (labels_atom a.0) (labels_type b.0)) (quantified.lolli (bound_atom a.0) (bound_type b.0)) (λ fit vars t am gave.
      let fits = and_parts (written.atom_fits a.0) (written.type_fits b.0) fit in
      let c = both (atom_of known item a.0 vars) (λ x. type_of known item b.0 vars >>= λ y. Ok (ty.Lolli x y)) t gave in
      let d = made (type_of known item b.0 vars) (λ y. ty.Lolli c.0 y) t c.2 in
      subst (λ m. Fits defs N (length vars) m t) (sym (length-append (bound_atom a.0) (bound_type b.0)))
      (lolli_fits defs N (length vars) (length (bound_atom a.0)) (length (bound_type b.0)) c.0 d.0 t d.2 (a.1 fits.0 vars c.0 (left_among known.names (labels_atom a.0) (labels_type b.0) am) c.1) (b.1 fits.1 vars d.0 (right_among known.names (labels_atom a.0) (labels_type b.0) am) d.1)))

  choice_at : (y : Choice-F (Such OfAtom) (Such OfType) (Such OfChoice)) → OfChoice (roll-Choice (map-Choice (Such OfAtom) (Such OfType) (Such OfChoice) Atom TypeExpr Choice (λ e. e.0) (λ e. e.0) (λ e. e.0) y))
  choice_at y = choice_by (map-Choice (Such OfAtom) (Such OfType) (Such OfChoice) Atom TypeExpr Choice (λ e. e.0) (λ e. e.0) (λ e. e.0) y) (labels_in ((y.label, y.body) ∷ y.rest)) (bound_in ((y.label, y.body) ∷ y.rest)) (labels.choice _) (quantified.choice _)
      (λ fit vars ts am gave. (parts_fit vars [] ((y.label, y.body) ∷ y.rest) ts fit am gave).0)

  -- a type with its variables
  pub type_fits : (a : TypeExpr) → written.type_fits a ≡ true → FitsIn (type_of known item a) (labels_type a) (bound_type a)
  unfolding OfType
  type_fits = each_type OfAtom OfType OfChoice atom_at type_at choice_at
