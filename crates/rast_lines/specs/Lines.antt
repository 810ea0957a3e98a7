-- The lines of refusals.
use Rattle.std.specs.Prelude.{ℕ, zero, suc, List, [], ◌∷◌, ◌++◌, map, take, codes, Option, Some, None, slice_get}
use Rattle.std.specs.Fmt.{decimal}
use Rattle.rast_terms.specs.declared.program.Program.{Program}
use Rattle.rast_terms.specs.declared.node.Node.{Node}
use Rattle.rast_terms.specs.declared.node.Node.TheVariants as node
use Rattle.rast_types.specs.declared.ty.Kind.{Kind}
use Rattle.rast_types.specs.declared.ty.Kind.TheVariants as kind
use Rattle.rast_equal.specs.declared.answer.Part.{Part}
use Rattle.rast_equal.specs.declared.answer.Part.TheVariants.{Label, First, Second, Inner}
use Rattle.rast_equal.specs.declared.answer.SameErr.{SameErr}
use Rattle.rast_equal.specs.declared.answer.SameErr.TheVariants as same
use Rattle.rast_equal.specs.declared.validity.TypeErr.{TypeErr}
use Rattle.rast_equal.specs.declared.validity.TypeErr.TheVariants as type
use Rattle.rast_rules.specs.declared.premise.Evidence.{Evidence}
use Rattle.rast_rules.specs.declared.premise.Evidence.TheVariants as why
use Rattle.rast_check.specs.declared.answer.CheckErr.{CheckErr}
use Rattle.rast_check.specs.declared.answer.CheckErr.TheVariants as refusal
use Rattle.rast_terms.specs.Texts.{Text, name_text, decl_text, def_text}
use Rattle.rast_lines.specs.Naming.{Names, names_at, or_none}
use Rattle.rast_lines.specs.Places.{decl_of}
use Rattle.rast_lines.specs.Scopes.{refused_in_decl, refused_in_def}

-- ---- values of variables

-- a variable by its name, or `q` and its number where it has none
abbrev pub or_numbered : ℕ → Option Text → Text
or_numbered k None = codes "q" ++ decimal k
or_numbered k (Some name) = name

abbrev pub variable_text : List Text → ℕ → Text
variable_text names k = or_numbered k (slice_get names k)

-- what stands before variable k
abbrev pub separator : ℕ → Text
separator zero = codes " with "
separator (suc k) = codes ", "

-- the values of the variables from k on
abbrev pub values_from : List Text → ℕ → List ℕ → Text
values_from names k [] = []
values_from names k (v ∷ vs) = separator k ++ (variable_text names k ++ (codes " = " ++ (decimal v ++ values_from names (suc k) vs)))

-- ` with ` and the values of so many variables; nothing where there is none
abbrev pub with_values : List Text → ℕ → List ℕ → Text
with_values names vars values = values_from names 0 (take vars values)

-- ---- evidence

abbrev pub kind_text : Kind → Text
kind_text kind.Plus = codes "plus"
kind_text kind.With = codes "with"
kind_text kind.Tensor = codes "tensor"
kind_text kind.Lolli = codes "lolli"
kind_text kind.One = codes "one"
kind_text kind.Ex = codes "ex"
kind_text kind.All = codes "all"
kind_text kind.Assert = codes "assert"
kind_text kind.Assume = codes "assume"
kind_text kind.Pays = codes "pays"
kind_text kind.Gets = codes "gets"

abbrev pub part_text : Program → Part → Text
part_text g (Label l) = codes "." ++ name_text g l
part_text g First = codes ".1"
part_text g Second = codes ".2"
part_text g Inner = codes ".0"

abbrev pub parts_text : Program → List Part → Text
parts_text g [] = []
parts_text g (x ∷ xs) = part_text g x ++ parts_text g xs

abbrev pub path_text : Program → List Part → Text
path_text g xs = codes "top" ++ parts_text g xs

-- an obligation that is false at a place
abbrev pub fails_text : Program → List Text → List Part → ℕ → List ℕ → Text
fails_text g names path vars values = codes "fails at " ++ (path_text g path ++ with_values names vars values)

-- why two types aren't found the same; a bound and want of memory have lines of their own
abbrev pub same_text : Program → List Text → SameErr → Text
same_text g names (same.Fails path vars values) = fails_text g names path vars values
same_text g names (same.Wanted path) = codes "equation wanted at " ++ path_text g path
same_text g names same.Left = codes "reference left"
same_text g names (same.Bound s) = []
same_text g names same.Memory = []

abbrev pub channel_text : Names → ℕ → Text
channel_text s x = or_empty (slice_get s.channels x)
  where
    or_empty : Option Text → Text
    or_empty None = []
    or_empty (Some t) = t

abbrev pub evidence_text : Program → Names → Evidence → Text
evidence_text g s (why.Fails vars values) = codes "fails" ++ with_values s.vars vars values
evidence_text g s (why.Head found) = codes "head " ++ kind_text found
evidence_text g s (why.Linear x) = codes "linear " ++ channel_text s x
evidence_text g s (why.Label l) = codes "label " ++ name_text g l
evidence_text g s (why.Types e) = same_text g s.vars e

-- ---- lines

-- the word of a node's rule
abbrev pub rule_word : Node → Text
rule_word (node.Label x l n) = codes "label"
rule_word (node.Case x bs) = codes "case"
rule_word (node.Send x w rs n) = codes "send"
rule_word (node.Recv x y n) = codes "recv"
rule_word (node.Index x e n) = codes "index"
rule_word (node.Bind x v n) = codes "bind"
rule_word (node.Assert x n) = codes "assert"
rule_word (node.Assume x n) = codes "assume"
rule_word (node.Pay x n) = codes "pay"
rule_word (node.Get x n) = codes "get"
rule_word (node.Close x) = codes "close"
rule_word (node.Wait x n) = codes "wait"
rule_word (node.Forward x y rs) = codes "forward"
rule_word (node.Spawn y d es ys rs n) = codes "spawn"
rule_word (node.Call x d es ys rs) = codes "call"
rule_word node.Impossible = codes "impossible"
rule_word (node.Work r n) = codes "work"
rule_word (node.Delay t n) = codes "delay"

abbrev pub rule_of : Option Node → Text
rule_of None = []
rule_of (Some nd) = rule_word nd

-- a node: its declaration, its number and the word of its rule
abbrev pub node_text : Program → ℕ → Text
node_text g n = decl_text g (decl_of g n) ++ (codes " node " ++ (decimal n ++ (codes " " ++ rule_of (slice_get g.nodes n))))

-- ` premise ` and its number
abbrev pub premise_text : ℕ → Text
premise_text k = codes " premise " ++ decimal k

-- the names of the variables in scope at a refused rule of a definition, or of a declaration
abbrev pub def_names : Program → ℕ → (rule vars : ℕ) → List Text
def_names g k rule vars = map (name_text g) (refused_in_def g.types.defs (or_none (slice_get g.said.types k)) (slice_get g.types.defs k) rule vars)

abbrev pub decl_names : Program → ℕ → (rule vars : ℕ) → List Text
decl_names g k rule vars = map (name_text g) (refused_in_decl g.types.defs (or_none (slice_get g.said.decls k)) (slice_get g.decls k) rule vars)

abbrev pub rule_text : ℕ → Text
rule_text k = codes " rule " ++ decimal k

abbrev pub valued : List Text → ℕ → Option (List ℕ) → Text
valued names vars None = []
valued names vars (Some values) = with_values names vars values

abbrev pub type_line : Program → TypeErr → Text
type_line g (type.Invalid d rule vars values) = codes "refused: type " ++ (def_text g d ++ (rule_text rule ++ (valued (def_names g d rule vars) vars values ++ codes "\n")))
type_line g (type.Bound d s) = codes "bound: search in type " ++ (def_text g d ++ codes "\n")
type_line g type.Memory = []

abbrev pub decl_line : Program → ℕ → TypeErr → Text
decl_line g k (type.Invalid d rule vars values) = codes "refused: decl " ++ (decl_text g k ++ (rule_text rule ++ (valued (decl_names g k rule vars) vars values ++ codes "\n")))
decl_line g k (type.Bound d s) = codes "bound: search in decl " ++ (decl_text g k ++ codes "\n")
decl_line g k type.Memory = []

abbrev pub equation_bound : ℕ → Text
equation_bound k = codes "bound: search in equation " ++ (decimal k ++ codes "\n")

abbrev pub equation_refused : Program → ℕ → ℕ → SameErr → Text
equation_refused g k premise e = codes "refused: equation " ++ (decimal k ++ (premise_text premise ++ (codes ": " ++ (same_text g [] e ++ codes "\n"))))

abbrev pub equation_line : Program → ℕ → ℕ → SameErr → Text
equation_line g k premise (same.Bound s) = equation_bound k
equation_line g k premise same.Memory = []
equation_line g k premise e = equation_refused g k premise e

-- the line of a refusal; want of memory has none
abbrev pub line : Program → CheckErr → Text
line g (refusal.BadType e) = type_line g e
line g (refusal.BadDecl k e) = decl_line g k e
line g (refusal.BadEquation e) = equation_line g e.number e.premise e.why
line g (refusal.Refused n premise evidence) = codes "refused: " ++ (node_text g n ++ (premise_text premise ++ (codes ": " ++ (evidence_text g (names_at g n) evidence ++ codes "\n"))))
line g (refusal.Bound n premise stop) = codes "bound: search at node " ++ (decimal n ++ (premise_text premise ++ codes "\n"))
line g (refusal.Limit n stop) = codes "bound: limit at node " ++ (decimal n ++ codes "\n")
line g refusal.Memory = []
