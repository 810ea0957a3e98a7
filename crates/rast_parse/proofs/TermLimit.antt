-- Where no term may open, and linear terms at each depth.
use Rattle.std.proofs.Common.{◌≡◌, ℕ, zero, suc, ◌-◌, ◌<◌, ◌≤◌, Bool, true, false, ◌&&◌, ◌||◌, ◌==◌, cond, List, [], ◌∷◌, ◌++◌, ap, sym, ◌∙◌, refl, subst, inl, inr, arith}
use Rattle.std.proofs.lemmas.Bool.Decides.{nat_tests}
use Rattle.rast_forms.specs.Words.{Word, Name, Number, Fixed, key_of, is_in, starts}
use Rattle.rast_forms.specs.Marks.{Mark, bare, starred, highest}
use Rattle.rast_forms.specs.Reading.{Syntax, Bad, limited}
use Rattle.rast_forms.proofs.Forms.{Exact, IsDeep, Begins, Right, Fails}
use Rattle.rast_forms.proofs.Sets.{starts_within, within_false}
use Rattle.rast_forms.proofs.Shapes.{Opens, limit_deep, limit_wrong}
use Rattle.rast_ast.specs.Kinds.{code}
use Rattle.rast_ast.specs.declared.kind.Kind.TheVariants as kind
use Rattle.rast_ast.specs.declared.term.Term.{Term, out-Term, roll-out-Term}
use Rattle.rast_ast.specs.declared.term.Term.TheVariants as term
use Rattle.rast_ast.specs.Linear.{term_marks}
use Rattle.rast_parse.specs.LinearReading.{is, TermLayer, to_term, term_first, term_limit, term_read, lin_read}
use Rattle.rast_parse.proofs.LinearExact.{bars, term_form, lin_form, layer_form, term_mark, from_layer, to_layer, term_exact_by, lin_exact_by}

fixed_not : (which : ℕ) → is_in (is kind.Number) (suc (suc which)) ≡ false
fixed_not which = at (suc (suc which)) (omega arith)
  where
    at : (a : ℕ) → 2 ≤ a → ((a == 1) || false) ≡ false
    at a h = grind (arith, nat_tests)

pub fixed_open : (which : ℕ) → is_in term_first (suc (suc which)) ≡ true → which ≡ 53
fixed_open which h = at (suc (suc which)) refl (omega arith) h
  where
    at : (a : ℕ) → a ≡ suc (suc which) → 2 ≤ a → ((a == 1) || ((a == 0) || ((a == 55) || false))) ≡ true → which ≡ 53
    at a f k e = let same : a ≡ 55 = grind (arith, nat_tests) in omega arith

-- whether a number stands directly before a bar
abbrev before_bar : Bool → Word → List Word → Bool
before_bar b w ts = b && (is_in (is kind.Number) (key_of w) && starts bars ts)

opens : (b : Bool) (w : Word) (v : List Word) → is_in term_first (key_of w) ≡ true → before_bar b w v ≡ false → Opens bars (term_form b) w v
opens b (Name n) v h g = (term.Variable n, record { word = Name n; open_at = 1; in_formula = false }, [], refl, sym (term_mark b (inr (inl n))), refl, omega arith)
opens b (Number k) v h g = (term.Number k, record { word = Number k; open_at = 1; in_formula = b }, [], refl, sym (term_mark b (inl (k, inr tt))), refl, at (b && starts bars v) g)
  where
    at : (c : Bool) → c ≡ false → 0 < cond c (1 - 1) 1
    at true e = absurd (cc)
    at false e = omega arith
opens b (Fixed which) v h g = (
  to_term (inr (inr (tt, (record { first = term.Number 1; rest = [] }, tt)))),
  record { word = Fixed 53; open_at = 1; in_formula = false },
  _,
  refl,
  sym (term_mark b (inr (inr (tt, (record { first = term.Number 1; rest = [] }, tt))))),
  ap Fixed (fixed_open which h),
  omega arith,
)

-- the number before a bar begins none, and the bar is wrong
number_bar : (b : Bool) (w : Word) (ts : List Word) → before_bar b w ts ≡ true → Fails bars 0 Syntax (term_form b) (term_limit b) (w ∷ ts) ts
number_bar false w ts f = absurd (cc)
number_bar true (Name n) ts f = absurd (cc)
number_bar true (Fixed which) ts f = absurd (let g : is_in (is kind.Number) (suc (suc which)) ≡ false = fixed_not which in at _ g f)
  where
    at : (c : Bool) → c ≡ false → (c && starts bars ts) ≡ true → ⊥
    at true e h = absurd (cc)
    at false e h = absurd (cc)
number_bar true (Number k) ts f = record {
  used = Number k ∷ [];
  split = refl;
  local = λ s x v w e. let g : is_in bars (key_of x) ≡ true = ap (starts bars) (sym e) ∙ f in rw g refl;
  tree = term.Number k;
  fits = refl;
  seen = record { word = Number k; open_at = 1; in_formula = true } ∷ [];
  more = [];
  seen_is = refl;
  viable = sym (term_mark true (inl (k, inr tt)));
  shallow = (rw f (omega arith), tt);
  deep = tt;
}

no_bar : (b : Bool) (x : Word) (w : List Word) → is_in term_first (key_of x) ≡ false → before_bar b x w ≡ false
no_bar false x w e = refl
no_bar true x w e = rw (within_false (is kind.Number) term_first (key_of x) refl e) refl

limit_at : (b : Bool) (w : Word) (ts : List Word) (c : Bool) → before_bar b w ts ≡ c → (e : Bool) → is_in term_first (key_of w) ≡ e →
    Right bars 0 (term_form b) (term_limit b) (w ∷ ts) (cond c (Bad Syntax ts) (limited e (w ∷ ts)))
limit_at b w ts true f e g = number_bar b w ts f
limit_at b w ts false f true g = limit_deep bars (term_form b) (term_limit b) w ts (opens b w ts g f)
limit_at b w ts false f false g = limit_wrong bars (term_form b) (term_limit b) (w ∷ ts) refl wrong
  where
    wrong : (x : Word) (v u : List Word) → w ∷ ts ≡ x ∷ v → term_limit b (x ∷ u) ≡ Bad Syntax (x ∷ u)
    wrong x v u e = let h : is_in term_first (key_of x) ≡ false = ap (starts term_first) (sym e) ∙ g in rw (no_bar b x u h, h) refl

limit_sound : (b : Bool) (ts : List Word) → Right bars 0 (term_form b) (term_limit b) ts (term_limit b ts)
limit_sound true [] = limit_wrong bars (term_form true) (term_limit true) [] refl (λ x v w e. absurd (cc))
limit_sound false [] = limit_wrong bars (term_form false) (term_limit false) [] refl (λ x v w e. absurd (cc))
limit_sound b (w ∷ ts) = limit_at b w ts (before_bar b w ts) refl (is_in term_first (key_of w)) refl

layer_begins : (b : Bool) (x : TermLayer) → Begins term_first false (bare (starred ((layer_form b).mark x)))
layer_begins b (inl (k, inl (s, t))) = refl
layer_begins b (inl (k, inr u)) = refl
layer_begins b (inr (inl n)) = refl
layer_begins b (inr (inr (o, (l, c)))) = refl

layer_deep : (b : Bool) (x : TermLayer) (r : List Word) → starts bars r ≡ false → IsDeep (term_limit b (bare (starred ((layer_form b).mark x)) ++ r))
layer_deep false (inl (k, inl (s, t))) r e = tt
layer_deep true (inl (k, inl (s, t))) r e = tt
layer_deep false (inl (k, inr u)) r e = tt
layer_deep true (inl (k, inr u)) r e = rw e tt
layer_deep false (inr (inl n)) r e = tt
layer_deep true (inr (inl n)) r e = tt
layer_deep false (inr (inr (o, (l, c)))) r e = tt
layer_deep true (inr (inr (o, (l, c)))) r e = tt

layer_high : (b : Bool) (x : TermLayer) → 0 < highest (starred ((layer_form b).mark x))
layer_high b (inl (k, inl (s, t))) = omega arith
layer_high b (inl (k, inr u)) = omega arith
layer_high b (inr (inl n)) = omega arith
layer_high b (inr (inr (o, (l, c)))) = omega arith

there : (t : Term) → to_term (from_layer (out-Term t)) ≡ t
there t = to_layer (out-Term t) ∙ roll-out-Term t

pub marks_of : (b : Bool) (t : Term) → starred ((layer_form b).mark (from_layer (out-Term t))) ≡ term_marks b t
marks_of b t = sym (term_mark b (from_layer (out-Term t))) ∙ ap (term_marks b) (there t)

limit_term_exact : (b : Bool) → Exact bars 0 (term_form b) (term_limit b)
limit_term_exact b = record {
  complete = λ t r f g. inr (
    subst (λ (z : List Mark). IsDeep (term_limit b (bare z ++ r))) (marks_of b t) (layer_deep b (from_layer (out-Term t)) r (starts_within bars (code kind.Star ∷ code kind.Bar ∷ []) r refl g)),
    subst (λ (z : List Mark). 0 < highest z) (marks_of b t) (layer_high b (from_layer (out-Term t))),
  );
  sound = limit_sound b;
  begins = λ t f. subst (λ (z : List Mark). Begins term_first false (bare z)) (marks_of b t) (layer_begins b (from_layer (out-Term t)));
  some_fits = refl;
}

pub term_exact : (b : Bool) (d : ℕ) → Exact bars d (term_form b) (term_read b d)
term_exact b zero = limit_term_exact b
term_exact b (suc d) = term_exact_by b d (term_read b d) (term_exact b d)

pub lin_exact : (b : Bool) (d : ℕ) → Exact bars d (lin_form b) (lin_read b d)
lin_exact b d = lin_exact_by b d (term_read b d) (term_exact b d)
