-- References to equations are read exactly.
use Rattle.std.proofs.Common.{◌≡◌, ℕ, ◌-◌, Bool, true, false, List, [], ◌∷◌, Option, Some, None, sym, refl, subst, ◌⊎◌, inl, inr}
use Rattle.rast_forms.specs.Reading.{Read, Done, Bad, Reader, ◌>>=◌, seq_read, nil_read, as_read, guarded_read}
use Rattle.rast_forms.proofs.Forms.{Form as Shape, Exact}
use Rattle.rast_forms.proofs.One.{name, number, name_exact, number_exact, fixed_exact}
use Rattle.rast_forms.proofs.Sequence.{seq, seq_exact, nil, nil_exact}
use Rattle.rast_forms.proofs.Either.{alt, alt_exact}
use Rattle.rast_forms.proofs.Between.{behind, behind_exact}
use Rattle.rast_forms.proofs.Many.{many, many_exact}
use Rattle.rast_forms.proofs.Guarded.{guarded, guarded_exact}
use Rattle.rast_forms.proofs.Shapes.{shape_exact}
use Rattle.rast_ast.specs.Kinds.{code}
use Rattle.rast_ast.specs.declared.kind.Kind.TheVariants as kind
use Rattle.rast_ast.specs.declared.term.Lin.{Lin}
use Rattle.rast_ast.specs.declared.process.Ref.{Ref}
use Rattle.rast_ast.specs.declared.process.Ref.TheVariants as ref
use Rattle.rast_ast.specs.declared.process.By.{By}
use Rattle.rast_ast.specs.Processes.{ref_marks, by_marks, optional_by, by_fits}
use Rattle.rast_parse.specs.LinearReading.{is, fixed_read, number_read, lin_read}
use Rattle.rast_parse.specs.TypeReading.{args_read}
use Rattle.rast_parse.specs.ProcessReading.{flag_read, names_read, to_ref, ref_by, to_by, by_by, to_optional, optional_by_read}
use Rattle.rast_parse.proofs.Choices.{alt_choice}
use Rattle.rast_parse.proofs.Trees.{all_true_of}
use Rattle.rast_parse.proofs.LinearExact.{bars, word}
use Rattle.rast_parse.proofs.TypesExact.{args_form, args_exact}
use mathlib.Core.Path.{fun_ext}

-- a choice behind a flag, under another type
pub guarded_choice : {X Y T : Type 0} (to : X ⊎ Y → T) (flag : Bool) (first : List ℕ) (p : Reader X) (q : Reader Y) →
    as_read to (guarded_read flag first p q) ≡ flag_read flag first (as_read (λ x. to (inl x)) p) (as_read (λ y. to (inr y)) q)
guarded_choice to true first p q = alt_choice to first p q
guarded_choice {X} {Y} {T} to false first p q = fun_ext (λ ts. second (q ts))
  where
    second : (m : Read Y) → ((m >>= λ y rest. Done (inr y) rest) >>= λ x rest. Done (to x) rest) ≡ (m >>= λ y rest. Done (to (inr y)) rest)
    second (Done y r) = refl
    second (Bad why r) = refl

abbrev pub names_form : Shape (List (List ℕ))
names_form = many name

pub names_exact : (d : ℕ) → Exact bars d names_form names_read
names_exact d = many_exact bars d name _ (name_exact bars d) refl refl

-- ---- one reference

abbrev pub ref_form : Shape Ref
ref_form = record { mark = ref_marks; fits = λ _. true; first = code kind.Refl ∷ code kind.Number ∷ []; is_empty = false; goes_on = is kind.OpenBrace; some = ref.Refl }

abbrev raw_ref_form : Shape (Unit {0} ⊎ (ℕ × List Lin))
raw_ref_form = alt (word kind.Refl) (seq (number false) args_form)

from_ref : Ref → Unit {0} ⊎ (ℕ × List Lin)
from_ref ref.Refl = inl tt
from_ref (ref.Equation k args) = inr (k, args)

ref_there : (r : Ref) → to_ref (from_ref r) ≡ r
unfolding from_ref
ref_there ref.Refl = refl
ref_there (ref.Equation k args) = refl

ref_mark : (x : Unit {0} ⊎ (ℕ × List Lin)) → ref_marks (to_ref x) ≡ raw_ref_form.mark x
ref_mark (inl u) = refl
ref_mark (inr (k, args)) = refl

ref_fits : (x : Unit {0} ⊎ (ℕ × List Lin)) → true ≡ raw_ref_form.fits x
ref_fits (inl u) = refl
ref_fits (inr (k, args)) = sym (all_true_of _ (λ l. refl) args)

module _ (d : ℕ) where
  ref_exact : Exact bars d ref_form (ref_by (lin_read false d))
  ref_exact = subst (Exact bars d ref_form) (alt_choice to_ref (is kind.Refl) (fixed_read kind.Refl) (seq_read number_read (args_read (lin_read false d))))
      (shape_exact bars d raw_ref_form _ (alt_exact bars d (word kind.Refl) (seq (number false) args_form) _ _ (fixed_exact bars d _) (seq_exact bars d (number false) args_form _ _ (number_exact bars d false) (args_exact d) refl) refl refl)
      ref_form to_ref from_ref (λ r f. ref_there r) ref_mark ref_fits refl refl refl refl)

-- ---- `by` and its references

abbrev pub by_form : Shape By
by_form = record { mark = by_marks; fits = λ _. true; first = is kind.By; is_empty = false; goes_on = code kind.OpenBrace ∷ code kind.Comma ∷ []; some = record { first = ref.Refl; rest = [] } }

abbrev raw_by_form : Shape (Ref × List Ref)
raw_by_form = seq (behind (code kind.By - 2) ref_form) (many (behind (code kind.Comma - 2) ref_form))

by_fit : (x : Ref × List Ref) → true ≡ raw_by_form.fits x
by_fit (r, rs) = sym (all_true_of _ (λ x. refl) rs)

abbrev pub optional_form : Bool → Shape (Option By)
optional_form explicit = record { mark = optional_by; fits = by_fits explicit; first = is kind.By; is_empty = true; goes_on = code kind.OpenBrace ∷ code kind.Comma ∷ code kind.By ∷ []; some = None }

from_optional : Option By → By ⊎ Unit {0}
from_optional (Some b) = inl b
from_optional None = inr tt

optional_there : (o : Option By) → to_optional (from_optional o) ≡ o
unfolding from_optional
optional_there (Some b) = refl
optional_there None = refl

optional_mark : (explicit : Bool) (x : By ⊎ Unit {0}) → optional_by (to_optional x) ≡ (guarded explicit by_form nil).mark x
optional_mark explicit (inl b) = refl
optional_mark explicit (inr u) = refl

optional_fit : (explicit : Bool) (x : By ⊎ Unit {0}) → by_fits explicit (to_optional x) ≡ (guarded explicit by_form nil).fits x
optional_fit true (inl b) = refl
optional_fit false (inl b) = refl
optional_fit true (inr u) = refl
optional_fit false (inr u) = refl

some_optional : (explicit : Bool) → by_fits explicit None ≡ true
some_optional true = refl
some_optional false = refl

module _ (d : ℕ) where
  by_exact : Exact bars d by_form (by_by (lin_read false d))
  by_exact = shape_exact bars d raw_by_form _
      (seq_exact bars d (behind (code kind.By - 2) ref_form) (many (behind (code kind.Comma - 2) ref_form)) _ _ (behind_exact bars d _ ref_form _ (ref_exact d))
      (many_exact bars d (behind (code kind.Comma - 2) ref_form) _ (behind_exact bars d _ ref_form _ (ref_exact d)) refl refl) refl)
      by_form to_by (λ b. (b.first, b.rest)) (λ b f. refl) (λ x. refl) by_fit refl refl refl refl

  pub optional_exact : (explicit : Bool) → Exact bars d (optional_form explicit) (optional_by_read explicit (lin_read false d))
  optional_exact explicit = subst (Exact bars d (optional_form explicit)) (guarded_choice to_optional explicit (is kind.By) (by_by (lin_read false d)) nil_read)
      (shape_exact bars d (guarded explicit by_form nil) _ (guarded_exact bars d by_form nil _ _ by_exact (nil_exact bars d) refl refl explicit)
      (optional_form explicit) to_optional from_optional (λ o f. optional_there o) (optional_mark explicit) (optional_fit explicit) refl refl refl (some_optional explicit))
