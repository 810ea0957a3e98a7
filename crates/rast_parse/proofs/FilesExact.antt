-- Files are read exactly.
use Rattle.std.proofs.Common.{◌≡◌, ℕ, ◌-◌, Bool, true, false, ◌&&◌, List, [], ◌∷◌, ◌++◌, map, Option, Some, None, ap, ap₂, sym, ◌∙◌, refl, subst, ◌⊎◌, inl, inr, append_assoc}
use Rattle.rast_forms.specs.Words.{Fixed, all_true}
use Rattle.rast_forms.specs.Marks.{Mark, plain}
use Rattle.rast_forms.specs.Reading.{Reader, seq_read, nil_read, alt_read, as_read, choice_read, guarded_read}
use Rattle.rast_forms.proofs.Forms.{Form as Shape, Exact}
use Rattle.rast_forms.proofs.One.{name, name_exact, fixed_exact}
use Rattle.rast_forms.proofs.Sequence.{seq, seq_exact, nil, nil_exact}
use Rattle.rast_forms.proofs.Either.{alt, alt_exact}
use Rattle.rast_forms.proofs.Between.{behind, behind_exact, between, between_exact}
use Rattle.rast_forms.proofs.Many.{many, many_exact}
use Rattle.rast_forms.proofs.Guarded.{guarded, guarded_exact}
use Rattle.rast_forms.proofs.Shapes.{shape_exact}
use Rattle.rast_ast.specs.Kinds.{code}
use Rattle.rast_ast.specs.declared.kind.Kind.{Kind}
use Rattle.rast_ast.specs.declared.kind.Kind.TheVariants as kind
use Rattle.rast_ast.specs.declared.term.Lin.{Lin}
use Rattle.rast_ast.specs.declared.form.Form.{Form}
use Rattle.rast_ast.specs.declared.type_expr.TypeExpr.{TypeExpr}
use Rattle.rast_ast.specs.declared.process.By.{By}
use Rattle.rast_ast.specs.declared.process.Proc.{Proc}
use Rattle.rast_ast.specs.declared.file.File.{File}
use Rattle.rast_ast.specs.declared.file.Item.{Item}
use Rattle.rast_ast.specs.declared.file.Item.TheVariants as item
use Rattle.rast_ast.specs.declared.file.Channel.{Channel}
use Rattle.rast_ast.specs.Types.{type_fits}
use Rattle.rast_ast.specs.Files.{channel_marks, uses_marks, potential_marks, premise_marks, item_marks, file_marks, premise_fits, item_fits, file_fits}
use Rattle.rast_parse.specs.LinearReading.{is, fixed_read, name_read, lin_read}
use Rattle.rast_parse.specs.FormulaReading.{behind_kind, form_read}
use Rattle.rast_parse.specs.TypeReading.{braced_read, type_read}
use Rattle.rast_parse.specs.ProcessReading.{flag_read, names_read, optional_by_read, proc_read}
use Rattle.rast_parse.specs.FileReading.{params_read, to_channel, channel_by, further_channels, to_uses, uses_by, to_some, potential_by, premise_by, def_by, decl_by, heading_read, context_by, sides_by, eq_by, plain_item_by, item_read, item_first, items_read, to_file, file_read}
use Rattle.rast_parse.proofs.Choices.{alt_choice}
use Rattle.rast_parse.proofs.Fusions.{then_fused, ending, ending_exact}
use Rattle.rast_parse.proofs.Trees.{all_true_of, and_true}
use Rattle.rast_parse.proofs.LinearExact.{bars, word}
use Rattle.rast_parse.proofs.FormulasExact.{form_form}
use Rattle.rast_parse.proofs.FormulaLimit.{form_exact}
use Rattle.rast_parse.proofs.TypesExact.{braced_lin, braced_exact, type_form, one_type}
use Rattle.rast_parse.proofs.TypeLimit.{type_exact}
use Rattle.rast_parse.proofs.ReferencesExact.{guarded_choice, names_form, names_exact, optional_form, optional_exact}
use Rattle.rast_parse.proofs.StatementsExact.{proc_form}
use Rattle.rast_parse.proofs.ProcLimit.{proc_exact}

abbrev within : {X : Type 0} → Kind → Kind → Shape X → Shape X
within j k F = between (code j - 2) (code k - 2) F

abbrev after : {X : Type 0} → Kind → Shape X → Shape X
after k F = behind (code k - 2) F

abbrev params_form : Shape (List (List ℕ))
params_form = many (within kind.OpenBrace kind.CloseBrace name)

-- ---- channels

abbrev channel_form : Shape Channel
channel_form = record { mark = channel_marks; fits = λ c. type_fits c.body; first = is kind.OpenParen; is_empty = false; goes_on = []; some = record { name = 97 ∷ []; body = type_form.some } }

abbrev raw_channel_form : Shape (List ℕ × TypeExpr)
raw_channel_form = within kind.OpenParen kind.CloseParen (seq (ending (code kind.Colon - 2) name) type_form)

channel_mark : (x : List ℕ × TypeExpr) → channel_marks (to_channel x) ≡ raw_channel_form.mark x
channel_mark (n, t) = refl

abbrev uses_form : Shape (List Channel)
uses_form = record { mark = uses_marks; fits = λ cs. all_true (map (λ (c : Channel). type_fits c.body) cs); first = code kind.Dot ∷ code kind.OpenParen ∷ []; is_empty = false; goes_on = is kind.OpenParen; some = [] }

abbrev raw_uses_form : Shape (Unit {0} ⊎ (Channel × List Channel))
raw_uses_form = alt (word kind.Dot) (seq channel_form (many channel_form))

from_uses : List Channel → Unit {0} ⊎ (Channel × List Channel)
from_uses [] = inl tt
from_uses (c ∷ cs) = inr (c, cs)

uses_there : (cs : List Channel) → to_uses (from_uses cs) ≡ cs
unfolding from_uses
uses_there [] = refl
uses_there (c ∷ cs) = refl

uses_mark : (x : Unit {0} ⊎ (Channel × List Channel)) → uses_marks (to_uses x) ≡ raw_uses_form.mark x
uses_mark (inl u) = refl
uses_mark (inr (c, cs)) = refl

uses_fit : (x : Unit {0} ⊎ (Channel × List Channel)) → uses_form.fits (to_uses x) ≡ raw_uses_form.fits x
uses_fit (inl u) = refl
uses_fit (inr (c, cs)) = refl

-- ---- parts that may be absent

from_some : {X : Type 0} → Option X → X ⊎ Unit {0}
from_some (Some x) = inl x
from_some None = inr tt

some_there : {X : Type 0} (o : Option X) → to_some (from_some o) ≡ o
unfolding from_some
some_there (Some x) = refl
some_there None = refl

abbrev potential_form : Shape (Option Lin)
potential_form = record { mark = potential_marks; fits = λ _. true; first = is kind.OpenBrace; is_empty = true; goes_on = is kind.OpenBrace; some = None }

potential_mark : (x : Lin ⊎ Unit {0}) → potential_marks (to_some x) ≡ (alt braced_lin nil).mark x
potential_mark (inl l) = refl
potential_mark (inr u) = refl

potential_fit : (x : Lin ⊎ Unit {0}) → true ≡ (alt braced_lin nil).fits x
potential_fit (inl l) = refl
potential_fit (inr u) = refl

abbrev premise_form : Shape (Option Form)
premise_form = record { mark = premise_marks; fits = premise_fits; first = is kind.If; is_empty = true; goes_on = form_form.goes_on ++ is kind.If; some = None }

premise_mark : (x : Form ⊎ Unit {0}) → premise_marks (to_some x) ≡ (alt (after kind.If form_form) nil).mark x
premise_mark (inl f) = refl
premise_mark (inr u) = refl

premise_fit : (x : Form ⊎ Unit {0}) → premise_fits (to_some x) ≡ (alt (after kind.If form_form) nil).fits x
premise_fit (inl f) = refl
premise_fit (inr u) = refl

module _ (d : ℕ) where
  params_exact : Exact bars d params_form params_read
  params_exact = many_exact bars d (within kind.OpenBrace kind.CloseBrace name) _ (between_exact bars d _ _ name _ (name_exact bars d) refl) refl refl

  channel_exact : Exact bars d channel_form (channel_by (type_read d))
  channel_exact = shape_exact bars d raw_channel_form _ (between_exact bars d _ _ (seq (ending (code kind.Colon - 2) name) type_form) _
      (seq_exact bars d (ending (code kind.Colon - 2) name) type_form _ _ (ending_exact bars d _ name _ (name_exact bars d) refl refl) (type_exact d) refl) refl)
      channel_form to_channel (λ c. (c.name, c.body)) (λ c f. refl) channel_mark (λ x. refl) refl refl refl one_type

  uses_exact : Exact bars d uses_form (uses_by (type_read d))
  uses_exact = subst (Exact bars d uses_form) (alt_choice to_uses (is kind.Dot) (fixed_read kind.Dot) (seq_read (channel_by (type_read d)) (further_channels (type_read d)))
      ∙ ap (choice_read (is kind.Dot) _) (then_fused (λ x. to_uses (inr x)) (channel_by (type_read d)) (further_channels (type_read d))))
      (shape_exact bars d raw_uses_form _ (alt_exact bars d (word kind.Dot) (seq channel_form (many channel_form)) _ _ (fixed_exact bars d _)
      (seq_exact bars d channel_form (many channel_form) _ _ channel_exact (many_exact bars d channel_form _ channel_exact refl refl) refl) refl refl)
      uses_form to_uses from_uses (λ cs f. uses_there cs) uses_mark uses_fit refl refl refl refl)

  potential_exact : Exact bars d potential_form (potential_by (lin_read false d))
  potential_exact = subst (Exact bars d potential_form) (alt_choice to_some (is kind.OpenBrace) (braced_read (lin_read false d)) nil_read)
      (shape_exact bars d (alt braced_lin nil) _ (alt_exact bars d braced_lin nil _ _ (braced_exact d) (nil_exact bars d) refl refl)
      potential_form to_some from_some (λ o f. some_there o) potential_mark potential_fit refl refl refl refl)

  premise_exact : Exact bars d premise_form (premise_by (form_read d))
  premise_exact = subst (Exact bars d premise_form) (alt_choice to_some (is kind.If) (behind_kind kind.If (form_read d)) nil_read)
      (shape_exact bars d (alt (after kind.If form_form) nil) _ (alt_exact bars d (after kind.If form_form) nil _ _ (behind_exact bars d _ form_form _ (form_exact d)) (nil_exact bars d) refl refl)
      premise_form to_some from_some (λ o f. some_there o) premise_mark premise_fit refl refl refl refl)

-- ---- items

abbrev RawDef : Type 0
RawDef = List ℕ × (List (List ℕ) × TypeExpr)

abbrev RawDecl : Type 0
RawDecl = List ℕ × (List (List ℕ) × (List Channel × (Option Lin × Channel)))

abbrev RawProc : Type 0
RawProc = (List ℕ × List ℕ) × (List (List ℕ) × (List (List ℕ) × Proc))

abbrev RawEq : Type 0
RawEq = (List (List ℕ) × Option Form) × ((TypeExpr × TypeExpr) × Option By)

abbrev RawPlain : Type 0
RawPlain = RawDef ⊎ (RawDecl ⊎ (RawProc ⊎ List ℕ))

abbrev RawItem : Type 0
RawItem = RawEq ⊎ RawPlain

abbrev def_form : Shape RawDef
def_form = after kind.Type (seq name (seq params_form (after kind.Equal type_form)))

abbrev decl_form : Shape RawDecl
decl_form = after kind.Decl (seq name (seq params_form (seq (after kind.Colon uses_form) (seq (after kind.Bar potential_form) (after kind.Minus channel_form)))))

abbrev heading_form : Shape (List ℕ × List ℕ)
heading_form = seq name (after kind.LeftArrow name)

abbrev proc_item_form : Bool → Shape RawProc
proc_item_form explicit = after kind.Proc (seq heading_form (seq params_form (seq names_form (after kind.Equal (proc_form explicit)))))

abbrev context_form : Shape (List (List ℕ) × Option Form)
context_form = seq params_form premise_form

abbrev sides_form : Shape (TypeExpr × TypeExpr)
sides_form = seq (after kind.Colon type_form) (after kind.Equal type_form)

abbrev eq_form : Bool → Shape RawEq
eq_form explicit = after kind.Eq (seq context_form (seq sides_form (optional_form explicit)))

abbrev plain_item_form : Bool → Shape RawPlain
plain_item_form explicit = alt def_form (alt decl_form (alt (proc_item_form explicit) (after kind.Exec name)))

abbrev raw_item_form : Bool → Shape RawItem
raw_item_form explicit = guarded explicit (eq_form explicit) (plain_item_form explicit)

abbrev to_plain_item : RawPlain → Item
to_plain_item (inl (n, (ps, a))) = item.Def n ps a
to_plain_item (inr (inl (n, (ps, (us, (q, c)))))) = item.Decl n ps us q c
to_plain_item (inr (inr (inl ((x, n), (ps, (ys, p)))))) = item.Proc x n ps ys p
to_plain_item (inr (inr (inr n))) = item.Exec n

abbrev to_item : RawItem → Item
to_item (inl ((ps, f), ((a, b), by))) = item.Eq ps f a b by
to_item (inr x) = to_plain_item x

from_item : Item → RawItem
from_item (item.Def n ps a) = inr (inl (n, (ps, a)))
from_item (item.Decl n ps us q c) = inr (inr (inl (n, (ps, (us, (q, c))))))
from_item (item.Proc x n ps ys p) = inr (inr (inr (inl ((x, n), (ps, (ys, p))))))
from_item (item.Eq ps f a b by) = inl ((ps, f), ((a, b), by))
from_item (item.Exec n) = inr (inr (inr (inr n)))

item_there : (i : Item) → to_item (from_item i) ≡ i
unfolding from_item
item_there (item.Def n ps a) = refl
item_there (item.Decl n ps us q c) = refl
item_there (item.Proc x n ps ys p) = refl
item_there (item.Eq ps f a b by) = refl
item_there (item.Exec n) = refl

regrouped : (c e : Mark) (ps f a b by : List Mark) → ps ++ (f ++ (c ∷ (a ++ (e ∷ (b ++ by))))) ≡ (ps ++ f) ++ (c ∷ ((a ++ (e ∷ b)) ++ by))
regrouped c e ps f a b by = ap (λ z. ps ++ (f ++ (c ∷ z))) (sym (append_assoc a (e ∷ b) by)) ∙ sym (append_assoc ps f (c ∷ ((a ++ (e ∷ b)) ++ by)))

item_mark : (explicit : Bool) (x : RawItem) → item_marks (to_item x) ≡ (raw_item_form explicit).mark x
item_mark explicit (inl ((ps, f), ((a, b), by))) = ap (λ z. plain (Fixed (code kind.Eq - 2)) ∷ z)
    (regrouped (plain (Fixed (code kind.Colon - 2))) (plain (Fixed (code kind.Equal - 2))) (params_form.mark ps) (premise_marks f) (type_form.mark a) (type_form.mark b) ((optional_form explicit).mark by))
item_mark explicit (inr (inl (n, (ps, a)))) = refl
item_mark explicit (inr (inr (inl (n, (ps, (us, (q, c))))))) = refl
item_mark explicit (inr (inr (inr (inl ((x, n), (ps, (ys, p))))))) = refl
item_mark explicit (inr (inr (inr (inr n)))) = refl

-- names fit always
names_fit : (ps : List (List ℕ)) (b : Bool) → b ≡ (params_form.fits ps && b)
names_fit ps b = ap (λ a. a && b) (sym (all_true_of _ (λ n. refl) ps))

item_fit : (explicit : Bool) (x : RawItem) → item_fits explicit (to_item x) ≡ (raw_item_form explicit).fits x
item_fit false (inl ((ps, f), ((a, b), by))) = refl
item_fit true (inl ((ps, f), ((a, b), by))) = ap₂ (λ x y. x && y) (names_fit ps (premise_fits f)) (and_true (type_fits a && type_fits b))
item_fit explicit (inr (inl (n, (ps, a)))) = names_fit ps (type_fits a)
item_fit explicit (inr (inr (inl (n, (ps, (us, (q, c))))))) = names_fit ps (uses_form.fits us && type_fits c.body)
item_fit explicit (inr (inr (inr (inl ((x, n), (ps, (ys, p))))))) = names_fit ys ((proc_form explicit).fits p) ∙ names_fit ps (names_form.fits ys && (proc_form explicit).fits p)
item_fit explicit (inr (inr (inr (inr n)))) = refl

abbrev item_form : Bool → Shape Item
item_form explicit = record {
  mark = item_marks;
  fits = item_fits explicit;
  first = item_first;
  is_empty = false;
  goes_on = code kind.Star ∷ code kind.Lolli ∷ code kind.OpenBrace ∷ code kind.Name ∷ code kind.Comma ∷ code kind.By ∷ code kind.Semicolon ∷ [];
  some = item.Exec (97 ∷ []);
}

module _ (d : ℕ) (explicit : Bool) where
  def_exact : Exact bars d def_form (behind_kind kind.Type (seq_read name_read (seq_read params_read (behind_kind kind.Equal (type_read d)))))
  def_exact = behind_exact bars d _ (seq name (seq params_form (after kind.Equal type_form))) _ (seq_exact bars d name (seq params_form (after kind.Equal type_form)) _ _ (name_exact bars d)
      (seq_exact bars d params_form (after kind.Equal type_form) _ _ (params_exact d) (behind_exact bars d _ type_form _ (type_exact d)) refl) refl)

  decl_exact : Exact bars d decl_form (behind_kind kind.Decl (seq_read name_read (seq_read params_read (seq_read (behind_kind kind.Colon (uses_by (type_read d)))
      (seq_read (behind_kind kind.Bar (potential_by (lin_read false d))) (behind_kind kind.Minus (channel_by (type_read d))))))))
  decl_exact = behind_exact bars d _ (seq name (seq params_form (seq (after kind.Colon uses_form) (seq (after kind.Bar potential_form) (after kind.Minus channel_form))))) _
      (seq_exact bars d name (seq params_form (seq (after kind.Colon uses_form) (seq (after kind.Bar potential_form) (after kind.Minus channel_form)))) _ _ (name_exact bars d)
      (seq_exact bars d params_form (seq (after kind.Colon uses_form) (seq (after kind.Bar potential_form) (after kind.Minus channel_form))) _ _ (params_exact d)
      (seq_exact bars d (after kind.Colon uses_form) (seq (after kind.Bar potential_form) (after kind.Minus channel_form)) _ _ (behind_exact bars d _ uses_form _ (uses_exact d))
      (seq_exact bars d (after kind.Bar potential_form) (after kind.Minus channel_form) _ _ (behind_exact bars d _ potential_form _ (potential_exact d)) (behind_exact bars d _ channel_form _ (channel_exact d)) refl) refl) refl) refl)

  heading_exact : Exact bars d heading_form heading_read
  heading_exact = seq_exact bars d name (after kind.LeftArrow name) _ _ (name_exact bars d) (behind_exact bars d _ name _ (name_exact bars d)) refl

  proc_item_exact : Exact bars d (proc_item_form explicit) (behind_kind kind.Proc (seq_read heading_read (seq_read params_read (seq_read names_read (behind_kind kind.Equal (proc_read explicit d))))))
  proc_item_exact = behind_exact bars d _ (seq heading_form (seq params_form (seq names_form (after kind.Equal (proc_form explicit))))) _
      (seq_exact bars d heading_form (seq params_form (seq names_form (after kind.Equal (proc_form explicit)))) _ _ heading_exact
      (seq_exact bars d params_form (seq names_form (after kind.Equal (proc_form explicit))) _ _ (params_exact d)
      (seq_exact bars d names_form (after kind.Equal (proc_form explicit)) _ _ (names_exact d) (behind_exact bars d _ (proc_form explicit) _ (proc_exact explicit d)) refl) refl) refl)

  context_exact : Exact bars d context_form (context_by (form_read d))
  context_exact = seq_exact bars d params_form premise_form _ _ (params_exact d) (premise_exact d) refl

  sides_exact : Exact bars d sides_form (sides_by (type_read d))
  sides_exact = seq_exact bars d (after kind.Colon type_form) (after kind.Equal type_form) _ _ (behind_exact bars d _ type_form _ (type_exact d)) (behind_exact bars d _ type_form _ (type_exact d)) refl

  eq_exact : Exact bars d (eq_form explicit) (behind_kind kind.Eq (seq_read (context_by (form_read d)) (seq_read (sides_by (type_read d)) (optional_by_read explicit (lin_read false d)))))
  eq_exact = behind_exact bars d _ (seq context_form (seq sides_form (optional_form explicit))) _
      (seq_exact bars d context_form (seq sides_form (optional_form explicit)) _ _ context_exact (seq_exact bars d sides_form (optional_form explicit) _ _ sides_exact (optional_exact d explicit) refl) refl)

  raw_plain_item : Reader RawPlain
  raw_plain_item = alt_read (is kind.Type) (behind_kind kind.Type (seq_read name_read (seq_read params_read (behind_kind kind.Equal (type_read d))))) (alt_read (is kind.Decl) (behind_kind kind.Decl (seq_read name_read (seq_read params_read (seq_read (behind_kind kind.Colon (uses_by (type_read d)))
      (seq_read (behind_kind kind.Bar (potential_by (lin_read false d))) (behind_kind kind.Minus (channel_by (type_read d)))))))) (alt_read (is kind.Proc) (behind_kind kind.Proc (seq_read heading_read (seq_read params_read (seq_read names_read (behind_kind kind.Equal (proc_read explicit d))))))
      (behind_kind kind.Exec name_read)))

  plain_item_exact : Exact bars d (plain_item_form explicit) raw_plain_item
  unfolding raw_plain_item
  plain_item_exact = alt_exact bars d def_form _ _ _ def_exact (alt_exact bars d decl_form _ _ _ decl_exact (alt_exact bars d (proc_item_form explicit) (after kind.Exec name) _ _ proc_item_exact (behind_exact bars d _ name _ (name_exact bars d)) refl refl) refl refl) refl refl

  plain_item_reads : as_read (λ x. to_item (inr x)) raw_plain_item ≡ plain_item_by (lin_read false d) (type_read d) (proc_read explicit d)
  unfolding raw_plain_item
  plain_item_reads = alt_choice to_plain_item (is kind.Type) _ _ ∙ ap (choice_read (is kind.Type) (def_by (type_read d))) (alt_choice (λ x. to_plain_item (inr x)) (is kind.Decl) _ _
      ∙ ap (choice_read (is kind.Decl) (decl_by (lin_read false d) (type_read d))) (alt_choice (λ x. to_plain_item (inr (inr x))) (is kind.Proc) _ _))

  item_reads : as_read to_item (guarded_read explicit (is kind.Eq) (behind_kind kind.Eq (seq_read (context_by (form_read d)) (seq_read (sides_by (type_read d)) (optional_by_read explicit (lin_read false d))))) raw_plain_item) ≡ item_read explicit d
  item_reads = guarded_choice to_item explicit (is kind.Eq) _ raw_plain_item ∙ ap (flag_read explicit (is kind.Eq) (eq_by explicit (lin_read false d) (form_read d) (type_read d))) plain_item_reads

  item_exact : Exact bars d (item_form explicit) (item_read explicit d)
  item_exact = subst (Exact bars d (item_form explicit)) item_reads
      (shape_exact bars d (raw_item_form explicit) _ (guarded_exact bars d (eq_form explicit) (plain_item_form explicit) _ _ eq_exact plain_item_exact refl refl explicit)
      (item_form explicit) to_item from_item (λ i f. item_there i) (item_mark explicit) (item_fit explicit) refl refl refl refl)

  items_exact : Exact bars d (many (item_form explicit)) (items_read explicit d)
  items_exact = many_exact bars d (item_form explicit) _ item_exact refl refl

-- ---- files

abbrev RawFile : Type 0
RawFile = (Unit {0} × List Item) ⊎ List Item

abbrev raw_file_form : Shape RawFile
raw_file_form = alt (seq (word kind.Explicit) (many (item_form true))) (many (item_form false))

abbrev pub file_form : Shape File
file_form = record { mark = file_marks; fits = file_fits; first = raw_file_form.first; is_empty = true; goes_on = raw_file_form.goes_on; some = record { explicit = false; items = [] } }

from_file : Bool → List Item → RawFile
from_file true is = inl (tt, is)
from_file false is = inr is

file_there : (explicit : Bool) (is : List Item) → to_file (from_file explicit is) ≡ record { explicit = explicit; items = is }
unfolding from_file
file_there true is = refl
file_there false is = refl

file_mark : (x : RawFile) → file_marks (to_file x) ≡ raw_file_form.mark x
file_mark (inl (u, is)) = refl
file_mark (inr is) = refl

file_fit : (x : RawFile) → file_fits (to_file x) ≡ raw_file_form.fits x
file_fit (inl (u, is)) = refl
file_fit (inr is) = refl

pub file_exact : (d : ℕ) → Exact bars d file_form (file_read d)
file_exact d = subst (Exact bars d file_form) (alt_choice to_file (is kind.Explicit) (seq_read (fixed_read kind.Explicit) (items_read true d)) (items_read false d))
    (shape_exact bars d raw_file_form _ (alt_exact bars d (seq (word kind.Explicit) (many (item_form true))) (many (item_form false)) _ _
    (seq_exact bars d (word kind.Explicit) (many (item_form true)) _ _ (fixed_exact bars d _) (items_exact d true) refl) (items_exact d false) refl refl)
    file_form to_file (λ f. from_file f.explicit f.items) (λ f g. file_there f.explicit f.items) file_mark file_fit refl refl refl refl)
