-- The canonical text of a file: its items, each begun on a new line.
use Rattle.std.specs.Prelude.{ℕ, Bool, true, false, List, [], ◌∷◌, codes, Option, Some, None}
use Rattle.rast_ast.specs.declared.Lin.{Lin}
use Rattle.rast_ast.specs.declared.Form.{Form}
use Rattle.rast_ast.specs.declared.File.{File}
use Rattle.rast_ast.specs.declared.Item.{Item}
use Rattle.rast_ast.specs.declared.Item.TheVariants as item
use Rattle.rast_ast.specs.declared.Channel.{Channel}
use Rattle.std.specs.List.{flat_map}
use Rattle.rast_print.specs.Joined.{◌▸◌, braced}
use Rattle.rast_print.specs.LinearText.{braced_text}
use Rattle.rast_print.specs.FormulaText.{form_text}
use Rattle.rast_print.specs.TypeText.{type_text}
use Rattle.rast_print.specs.ProcessText.{names_text, optional_by_text, proc_text}

-- {n}..
abbrev pub params_text : List (List ℕ) → List ℕ
params_text names = flat_map braced names

-- (x : A)
abbrev pub channel_text : Channel → List ℕ
channel_text c = codes "(" ▸ c.name ▸ codes " : " ▸ type_text c.body ▸ codes ")"

-- a channel before a space
abbrev pub spaced_channel : Channel → List ℕ
spaced_channel c = channel_text c ▸ codes " "

-- the used channels, or a dot where there is none
abbrev pub used_text : List Channel → List ℕ
used_text [] = codes ". "
used_text (c ∷ cs) = flat_map spaced_channel (c ∷ cs)

abbrev pub potential_text : Option Lin → List ℕ
potential_text None = []
potential_text (Some l) = braced_text l

abbrev pub premise_text : Option Form → List ℕ
premise_text None = []
premise_text (Some f) = codes " if " ▸ form_text f

-- f{n}.. behind a word
abbrev pub head_text : List ℕ → List ℕ → List (List ℕ) → List ℕ
head_text word n ps = word ▸ n ▸ params_text ps

-- |{q}- (x : A)
abbrev pub offer_text : Option Lin → Channel → List ℕ
offer_text q c = codes "|" ▸ potential_text q ▸ codes "- " ▸ channel_text c

abbrev pub item_text : Item → List ℕ
item_text (item.Def n ps a) = head_text (codes "type ") n ps ▸ codes " = " ▸ type_text a
item_text (item.Decl n ps us q c) = head_text (codes "decl ") n ps ▸ codes " : " ▸ used_text us ▸ offer_text q c
item_text (item.Proc x n ps ys p) = codes "proc " ▸ x ▸ head_text (codes " <- ") n ps ▸ names_text ys ▸ codes " =\n" ▸ proc_text p (codes "  ")
item_text (item.Eq ps f a b by) = codes "eq" ▸ params_text ps ▸ premise_text f ▸ codes " : " ▸ type_text a ▸ codes " = " ▸ type_text b ▸ optional_by_text by
item_text (item.Exec n) = codes "exec " ▸ n

abbrev pub explicit_text : Bool → List ℕ
explicit_text true = codes "explicit\n"
explicit_text false = []

-- an item with the line feed that ends it
abbrev pub item_line : Item → List ℕ
item_line i = item_text i ▸ codes "\n"

-- the canonical text
abbrev pub canonical : File → List ℕ
canonical f = explicit_text f.explicit ▸ flat_map item_line f.items
