-- The grammar of files: the tokens of each, and the starred nonterminals that are open at them.
use Rattle.std.specs.Prelude.{◌≡◌, ℕ, Bool, true, false, ◌&&◌, ◌||◌, List, [], ◌∷◌, ◌++◌, map, Option, Some, None, is_none}
use Rattle.rast_forms.specs.Words.{Word, all_true}
use Rattle.rast_forms.specs.Marks.{Mark, bare, joined, ◌▸◌}
use Rattle.rast_ast.specs.declared.kind.Kind.TheVariants as kind
use Rattle.rast_ast.specs.declared.term.Lin.{Lin}
use Rattle.rast_ast.specs.declared.form.Form.{Form}
use Rattle.rast_ast.specs.declared.file.File.{File}
use Rattle.rast_ast.specs.declared.file.Item.{Item}
use Rattle.rast_ast.specs.declared.file.Item.TheVariants as item
use Rattle.rast_ast.specs.declared.file.Channel.{Channel}
use Rattle.rast_ast.specs.Written.{fixed, name}
use Rattle.rast_ast.specs.Formulas.{form_marks, form_fits}
use Rattle.rast_ast.specs.Types.{braced, type_marks, type_fits}
use Rattle.rast_ast.specs.Processes.{names_marks, optional_by, by_fits, proc_marks, proc_fits}

-- Params = {"{" Id "}"}
abbrev pub params_marks : List (List ℕ) → List Mark
params_marks ns = joined (map (λ n. fixed kind.OpenBrace ▸ name n ▸ fixed kind.CloseBrace) ns)

-- "(" Id ":" Type ")"
abbrev pub channel_marks : Channel → List Mark
channel_marks c = fixed kind.OpenParen ▸ name c.name ▸ fixed kind.Colon ▸ type_marks c.body ▸ fixed kind.CloseParen

-- Uses = "." | "(" Id ":" Type ")" {"(" Id ":" Type ")"}
abbrev pub uses_marks : List Channel → List Mark
uses_marks [] = fixed kind.Dot
uses_marks (c ∷ cs) = channel_marks c ▸ joined (map channel_marks cs)

-- ["{" Lin "}"]
abbrev pub potential_marks : Option Lin → List Mark
potential_marks None = []
potential_marks (Some l) = braced l

-- ["if" Form]
abbrev pub premise_marks : Option Form → List Mark
premise_marks None = []
premise_marks (Some f) = fixed kind.If ▸ form_marks f

-- Item = "type" Id Params "=" Type
--      | "decl" Id Params ":" Uses "|" ["{" Lin "}"] "-" "(" Id ":" Type ")"
--      | "proc" Id "<-" Id Params {Id} "=" Proc
--      | "eq" Params ["if" Form] ":" Type "=" Type [By]
--      | "exec" Id
abbrev pub item_marks : Item → List Mark
item_marks (item.Def n ps a) = fixed kind.Type ▸ name n ▸ params_marks ps ▸ fixed kind.Equal ▸ type_marks a
item_marks (item.Decl n ps us q c) = fixed kind.Decl ▸ name n ▸ params_marks ps ▸ fixed kind.Colon ▸ uses_marks us ▸ fixed kind.Bar ▸ potential_marks q ▸ fixed kind.Minus ▸ channel_marks c
item_marks (item.Proc x n ps ys p) = fixed kind.Proc ▸ name x ▸ fixed kind.LeftArrow ▸ name n ▸ params_marks ps ▸ names_marks ys ▸ fixed kind.Equal ▸ proc_marks p
item_marks (item.Eq ps f a b by) = fixed kind.Eq ▸ params_marks ps ▸ premise_marks f ▸ fixed kind.Colon ▸ type_marks a ▸ fixed kind.Equal ▸ type_marks b ▸ optional_by by
item_marks (item.Exec n) = fixed kind.Exec ▸ name n

-- ["explicit"]
abbrev pub explicit_marks : Bool → List Mark
explicit_marks true = fixed kind.Explicit
explicit_marks false = []

-- File = ["explicit"] {Item}
abbrev pub file_marks : File → List Mark
file_marks f = explicit_marks f.explicit ▸ joined (map item_marks f.items)

-- ---- which files the grammar has: divisors are at least 1, and a file without `explicit` has none of the words that ask for it

abbrev pub premise_fits : Option Form → Bool
premise_fits None = true
premise_fits (Some f) = form_fits f

abbrev pub item_fits : Bool → Item → Bool
item_fits explicit (item.Def n ps a) = type_fits a
item_fits explicit (item.Decl n ps us q c) = all_true (map (λ c. type_fits c.body) us) && type_fits c.body
item_fits explicit (item.Proc x n ps ys p) = proc_fits explicit p
item_fits explicit (item.Eq ps f a b by) = explicit && (premise_fits f && (type_fits a && type_fits b))
item_fits explicit (item.Exec n) = true

abbrev pub file_fits : File → Bool
file_fits f = all_true (map (item_fits f.explicit) f.items)

-- ---- the grammar

-- the tokens of a file, and of a formula
abbrev pub spelled : File → List Word
spelled f = bare (file_marks f)

abbrev pub spelled_form : Form → List Word
spelled_form f = bare (form_marks f)

-- these tokens are this file
pub record Reads (tokens : List Word) (f : File) : Type 0 where
  pub fits : file_fits f ≡ true
  pub are : tokens ≡ spelled f

pub record ReadsForm (tokens : List Word) (f : Form) : Type 0 where
  pub fits : form_fits f ≡ true
  pub are : tokens ≡ spelled_form f
