-- Reading files.
use Rattle.std.specs.Prelude.{ℕ, Bool, true, false, List, [], ◌∷◌, ◌⊎◌, Option, Some, None}
use Rattle.std.proofs.Common.{inl, inr}
use Rattle.rast_forms.specs.Reading.{Reader, seq_read, nil_read, all_read, as_read, choice_read}
use Rattle.rast_ast.specs.declared.kind.Kind.TheVariants as kind
use Rattle.rast_ast.specs.declared.term.Lin.{Lin}
use Rattle.rast_ast.specs.declared.form.Form.{Form}
use Rattle.rast_ast.specs.declared.type_expr.TypeExpr.{TypeExpr}
use Rattle.rast_ast.specs.declared.process.Proc.{Proc}
use Rattle.rast_ast.specs.declared.file.File.{File}
use Rattle.rast_ast.specs.declared.file.Item.{Item}
use Rattle.rast_ast.specs.declared.file.Item.TheVariants as item
use Rattle.rast_ast.specs.declared.file.Channel.{Channel}
use Rattle.rast_ast.specs.Kinds.{code}
use Rattle.rast_parse.specs.LinearReading.{is, fixed_read, name_read, lin_read}
use Rattle.rast_parse.specs.FormulaReading.{behind_kind, form_read}
use Rattle.rast_parse.specs.TypeReading.{then_read, between_kinds, before_kind, braced_read, type_read}
use Rattle.rast_parse.specs.ProcessReading.{flag_read, names_read, optional_by_read, proc_read}

abbrev pub params_read : Reader (List (List ℕ))
params_read = all_read (is kind.OpenBrace) (braced_read name_read)

-- ---- channels

abbrev pub to_channel : List ℕ × TypeExpr → Channel
to_channel s = record { name = s.0; body = s.1 }

abbrev pub channel_by : Reader TypeExpr → Reader Channel
channel_by one = as_read to_channel (between_kinds kind.OpenParen kind.CloseParen (seq_read (before_kind kind.Colon name_read) one))

abbrev pub further_channels : Reader TypeExpr → Reader (List Channel)
further_channels one = all_read (is kind.OpenParen) (channel_by one)

abbrev pub to_uses : Unit {0} ⊎ (Channel × List Channel) → List Channel
to_uses (inl u) = []
to_uses (inr (c, cs)) = c ∷ cs

abbrev pub uses_by : Reader TypeExpr → Reader (List Channel)
uses_by one = choice_read (is kind.Dot) (as_read (λ x. to_uses (inl x)) (fixed_read kind.Dot)) (then_read (channel_by one) (λ c. as_read (λ cs. c ∷ cs) (further_channels one)))

-- ---- parts that may be absent

abbrev pub to_some : {X : Type 0} → X ⊎ Unit {0} → Option X
to_some (inl x) = Some x
to_some (inr u) = None

abbrev pub potential_by : Reader Lin → Reader (Option Lin)
potential_by sum = choice_read (is kind.OpenBrace) (as_read (λ x. to_some (inl x)) (braced_read sum)) (as_read (λ x. to_some (inr x)) nil_read)

abbrev pub premise_by : Reader Form → Reader (Option Form)
premise_by whole = choice_read (is kind.If) (as_read (λ x. to_some (inl x)) (behind_kind kind.If whole)) (as_read (λ x. to_some (inr x)) nil_read)

-- ---- items

abbrev pub def_by : Reader TypeExpr → Reader Item
def_by one = as_read (λ s. item.Def s.0 s.1.0 s.1.1) (behind_kind kind.Type (seq_read name_read (seq_read params_read (behind_kind kind.Equal one))))

abbrev pub decl_by : Reader Lin → Reader TypeExpr → Reader Item
decl_by sum one = as_read (λ s. item.Decl s.0 s.1.0 s.1.1.0 s.1.1.1.0 s.1.1.1.1) (behind_kind kind.Decl (seq_read name_read (seq_read params_read (seq_read (behind_kind kind.Colon (uses_by one))
    (seq_read (behind_kind kind.Bar (potential_by sum)) (behind_kind kind.Minus (channel_by one)))))))

-- the channel that a process provides, and its name
abbrev pub heading_read : Reader (List ℕ × List ℕ)
heading_read = seq_read name_read (behind_kind kind.LeftArrow name_read)

abbrev pub proc_item_by : Reader Proc → Reader Item
proc_item_by body = as_read (λ s. item.Proc s.0.0 s.0.1 s.1.0 s.1.1.0 s.1.1.1) (behind_kind kind.Proc (seq_read heading_read (seq_read params_read (seq_read names_read (behind_kind kind.Equal body)))))

-- parameters and a premise, and two types
abbrev pub context_by : Reader Form → Reader (List (List ℕ) × Option Form)
context_by whole = seq_read params_read (premise_by whole)

abbrev pub sides_by : Reader TypeExpr → Reader (TypeExpr × TypeExpr)
sides_by one = seq_read (behind_kind kind.Colon one) (behind_kind kind.Equal one)

abbrev pub eq_by : Bool → Reader Lin → Reader Form → Reader TypeExpr → Reader Item
eq_by explicit sum whole one = as_read (λ s. item.Eq s.0.0 s.0.1 s.1.0.0 s.1.0.1 s.1.1) (behind_kind kind.Eq (seq_read (context_by whole) (seq_read (sides_by one) (optional_by_read explicit sum))))

abbrev pub exec_read : Reader Item
exec_read = as_read (λ n. item.Exec n) (behind_kind kind.Exec name_read)

abbrev pub plain_item_by : Reader Lin → Reader TypeExpr → Reader Proc → Reader Item
plain_item_by sum one body = choice_read (is kind.Type) (def_by one) (choice_read (is kind.Decl) (decl_by sum one) (choice_read (is kind.Proc) (proc_item_by body) exec_read))

abbrev pub item_by : Bool → Reader Lin → Reader Form → Reader TypeExpr → Reader Proc → Reader Item
item_by explicit sum whole one body = flag_read explicit (is kind.Eq) (eq_by explicit sum whole one) (plain_item_by sum one body)

abbrev pub item_read : Bool → ℕ → Reader Item
item_read explicit d = item_by explicit (lin_read false d) (form_read d) (type_read d) (proc_read explicit d)

-- the kinds that items begin with
abbrev pub item_first : List ℕ
item_first = code kind.Eq ∷ code kind.Type ∷ code kind.Decl ∷ code kind.Proc ∷ code kind.Exec ∷ []

abbrev pub items_read : Bool → ℕ → Reader (List Item)
items_read explicit d = all_read item_first (item_read explicit d)

-- ---- files

abbrev pub to_file : (Unit {0} × List Item) ⊎ List Item → File
to_file (inl (u, is)) = record { explicit = true; items = is }
to_file (inr is) = record { explicit = false; items = is }

abbrev pub file_read : ℕ → Reader File
file_read d = choice_read (is kind.Explicit) (as_read (λ x. to_file (inl x)) (seq_read (fixed_read kind.Explicit) (items_read true d))) (as_read (λ x. to_file (inr x)) (items_read false d))
