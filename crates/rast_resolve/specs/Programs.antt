-- The program that a file says, or its first fault in names.
use Rattle.std.specs.Prelude.{ℕ, pos, Bool, true, false, ◌==◌, ◌&&◌, if◌then◌else◌, nat_le, List, [], ◌∷◌, ◌++◌, map, flat_map, length, replicate, codes, Option, Some, None, Ok, Err}
use Rattle.rast_index.specs.Linear.{Linear, fixed}
use Rattle.rast_index.specs.declared.formula.Formula.{Formula}
use Rattle.rast_index.specs.declared.formula.Formula.TheVariants as formula
use Rattle.rast_types.specs.declared.ty.Ty.{Ty}
use Rattle.rast_terms.specs.declared.node.Node.{Node}
use Rattle.rast_terms.specs.declared.program.Program.{Program}
use Rattle.rast_ast.specs.declared.term.Lin.{Lin}
use Rattle.rast_ast.specs.declared.form.Form.{Form}
use Rattle.rast_ast.specs.declared.file.File.{File}
use Rattle.rast_ast.specs.declared.file.Item.{Item}
use Rattle.rast_ast.specs.declared.file.Item.TheVariants as item
use Rattle.rast_ast.specs.declared.file.Channel.{Channel}
use Rattle.rast_ast.specs.declared.type_expr.TypeExpr.{TypeExpr}
use Rattle.rast_ast.specs.declared.process.Proc.{Proc}
use Rattle.rast_ast.specs.declared.process.By.{By}
use Rattle.rast_resolve.specs.declared.fault.NameErr.TheVariants as fault
use Rattle.rast_resolve.specs.declared.parts.Part.{Part}
use Rattle.rast_resolve.specs.declared.parts.Part.TheVariants as part
use Rattle.rast_resolve.specs.declared.seen.Seen.{Seen}
use Rattle.rast_resolve.specs.declared.tables.Tables.{Tables}
use Rattle.rast_resolve.specs.declared.program.Resolved.{Resolved}
use Rattle.rast_resolve.specs.Answers.{Answer, ◌>>=◌}
use Rattle.rast_resolve.specs.Scopes.{Text, Texts, Known, Counts, is_among, place_of, number_in}
use Rattle.rast_resolve.specs.Written.{linear_of, formula_of}
use Rattle.rast_resolve.specs.Types.{type_of}
use Rattle.rast_resolve.specs.Bodies.{nodes_of, refs_of, is_counted, declared, body_start}
use Rattle.rast_resolve.specs.declared.gather.Sought.TheVariants as sought
use Rattle.rast_resolve.specs.Names.{names_in_type, known_of, put_at}

-- ---- heads of items

-- names bound in one list, at most so many, after those that are bound before
abbrev pub bound_names : Text → ℕ → Texts → Texts → Answer Texts
bound_names whose most seen [] = Ok seen
bound_names whose most seen (n ∷ ns) =
    if is_among n seen then Err (fault.Twice n) else (if nat_le most (length seen) then Err (fault.Limit whose) else bound_names whose most (seen ++ n ∷ []) ns)

-- at most 16 parameters, each once
abbrev pub params_of : Text → Texts → Answer Texts
params_of whose ps = bound_names whose 16 [] ps

-- at most 15 used channels, each with a name of its own and the provided one counted; they are numbered from the provided one on
abbrev pub header_channels : Text → Text → Texts → Answer Texts
header_channels whose x ys = bound_names whose 16 (x ∷ []) ys

abbrev pub numbers : Known → Texts → List ℕ
numbers k ns = map (number_in k.names) ns

abbrev pub unless_among : Text → Texts → Answer (Unit {0})
unless_among n ns = if is_among n ns then Err (fault.Twice n) else Ok tt

-- at most 15 used channels, each with a name of its own: their types, and then their names
abbrev pub used_types : Known → Text → Texts → Texts → List Channel → Answer (List Ty × Texts)
used_types k whose vars seen [] = Ok ([], seen)
used_types k whose vars seen (c ∷ cs) =
    if is_among c.name seen then Err (fault.Twice c.name)
    else (if nat_le 15 (length seen) then Err (fault.Limit whose)
    else (type_of k whose c.body vars >>= λ a. used_types k whose vars (seen ++ c.name ∷ []) cs >>= λ r. Ok (a ∷ r.0, r.1)))

abbrev pub potential_of : Text → Texts → Option Lin → Answer Linear
potential_of whose vars None = Ok (fixed (pos 0))
potential_of whose vars (Some l) = linear_of whose false vars l

abbrev pub premise_of : Text → Texts → Option Form → Answer Formula
premise_of whose vars None = Ok formula.True
premise_of whose vars (Some f) = formula_of whose vars f

abbrev pub if_counted : Option Counts → Text → ℕ → ℕ → Answer (Unit {0})
if_counted c f params channels = if is_counted c params channels then Ok tt else Err (fault.Arity f)

-- ---- items: what each adds to the program, or its first fault

abbrev pub channel_quantifiers : Channel → Texts
channel_quantifiers c = names_in_type sought.Quantifiers c.body

abbrev pub def_of : Known → Text → Texts → TypeExpr → Answer Part
def_of k n ps a =
    params_of n ps >>= λ vars. type_of k n a vars >>= λ b.
    Ok (part.Def (record { name = number_in k.names n; params = length ps; body = b }) (numbers k (ps ++ names_in_type sought.Quantifiers a)))

abbrev pub decl_of : Known → Text → Texts → List Channel → Option Lin → Channel → Answer Part
decl_of k n ps us q x =
    params_of n ps >>= λ vars. used_types k n vars [] us >>= λ r. potential_of n vars q >>= λ p. unless_among x.name r.1 >>= λ u. type_of k n x.body vars >>= λ a.
    Ok (part.Decl (record { name = number_in k.names n; params = length ps; uses = r.0; potential = p; gives = a; body = body_start k n })
    (numbers k (ps ++ (flat_map channel_quantifiers us ++ channel_quantifiers x))) (numbers k (x.name ∷ map (λ c. c.name) us)))

abbrev pub body_of : Known → Text → Text → Texts → Texts → Proc → Answer Part
body_of k x f ps ys t =
    if_counted (declared k f) f (length ps) (length ys) >>= λ v. params_of f ps >>= λ vars. header_channels f x ys >>= λ channels.
    nodes_of k f t (record { vars = vars; channels = channels }) (body_start k f) >>= λ ns. Ok (part.Body (place_of f k.decls) ns)

abbrev pub equation_of : Known → Text → Texts → Option Form → TypeExpr → TypeExpr → Option By → Answer Part
equation_of k whose ps f a b by =
    params_of whose ps >>= λ vars. premise_of whose vars f >>= λ g. type_of k whose a vars >>= λ x. type_of k whose b vars >>= λ y. refs_of whose vars by >>= λ rs.
    Ok (part.Equation (record { vars = length ps; premise = g; left = x; right = y; refs = rs }))

abbrev pub main_of : Seen → Text → Option ℕ → Answer Part
main_of seen n None = Err (fault.Unknown n)
main_of seen n (Some d) = if seen.exec then Err (fault.Twice n) else Ok (part.Main d)

-- a definition, a declaration and a body are the first of their names
abbrev pub part_of : Known → Seen → Item → Answer Part
part_of k seen (item.Def n ps a) = unless_among n seen.types >>= λ u. def_of k n ps a
part_of k seen (item.Decl n ps us q x) = unless_among n seen.decls >>= λ u. decl_of k n ps us q x
part_of k seen (item.Proc x f ps ys t) = unless_among f seen.procs >>= λ u. body_of k x f ps ys t
part_of k seen (item.Eq ps f a b by) = equation_of k (codes "equation") ps f a b by
part_of k seen (item.Exec n) = main_of seen n (place_of n k.decls)

-- ---- items in their order

-- the names of the items before, and this one
abbrev pub seen_with : Item → Seen → Seen
seen_with (item.Def n ps a) s = record s { types = s.types ++ n ∷ [] }
seen_with (item.Decl n ps us q x) s = record s { decls = s.decls ++ n ∷ [] }
seen_with (item.Proc x f ps ys t) s = record s { procs = s.procs ++ f ∷ [] }
seen_with (item.Eq ps f a b by) s = s
seen_with (item.Exec n) s = record s { exec = true }

-- what a part adds to the tables
abbrev pub added : Part → Tables → Tables
added (part.Def d said) t = record t { defs = t.defs ++ d ∷ []; def_said = t.def_said ++ said ∷ [] }
added (part.Decl d said channels) t = record t { decls = t.decls ++ d ∷ []; decl_said = t.decl_said ++ said ∷ []; channels = t.channels ++ channels ∷ [] }
added (part.Body place nodes) t = record t { bodies = put_at t.bodies place nodes }
added (part.Equation e) t = record t { equations = t.equations ++ e ∷ [] }
added (part.Main d) t = record t { main = Some d }

-- the tables of items after those that are seen
abbrev pub tables_of : Known → Seen → Tables → List Item → Answer Tables
tables_of k seen t [] = Ok t
tables_of k seen t (i ∷ is) = part_of k seen i >>= λ p. tables_of k (seen_with i seen) (added p t) is

abbrev pub none_seen : Seen
none_seen = record { types = []; decls = []; procs = []; exec = false }

-- no entries, and an empty body for each declaration
abbrev pub no_entries : ℕ → Tables
no_entries decls = record { defs = []; def_said = []; decls = []; decl_said = []; channels = []; equations = []; bodies = replicate decls []; main = None }

-- ---- after the last item

abbrev pub if_paired : Bool → Text → Answer (Unit {0})
if_paired paired n = if paired then Ok tt else Err (fault.Unknown n)

-- a declaration has a body, and a body a declaration
abbrev pub paired : Known → Item → Answer (Unit {0})
paired k (item.Decl n ps us q x) = if_paired (is_among n k.procs) n
paired k (item.Proc x f ps ys t) = if_paired (is_among f k.decls) f
paired k i = Ok tt

abbrev pub is_main : Option Counts → Bool
is_main None = false
is_main (Some c) = (c.params == 0) && (c.channels == 0)

-- what is run has no parameter and uses no channel
abbrev pub runnable : Known → Item → Answer (Unit {0})
runnable k (item.Exec n) = if is_main (declared k n) then Ok tt else Err (fault.BadMain n)
runnable k i = Ok tt

-- no item has such a fault
abbrev pub none_fails : (Item → Answer (Unit {0})) → List Item → Answer (Unit {0})
none_fails f [] = Ok tt
none_fails f (i ∷ is) = f i >>= λ u. none_fails f is

-- ---- the program

-- the nodes of the bodies follow one another in the order of the declarations
abbrev pub program_of : Known → Tables → Program
program_of k t =
    record {
      names = k.names;
      types = record { defs = t.defs };
      decls = t.decls;
      equations = t.equations;
      nodes = flat_map (λ (b : List Node). b) t.bodies;
      main = t.main;
      said = record { types = t.def_said; decls = t.decl_said; channels = t.channels };
    }

abbrev pub program_with : Known → List Item → Answer Program
program_with k is =
    tables_of k none_seen (no_entries (length k.decls)) is >>= λ t. none_fails (paired k) is >>= λ u. none_fails (runnable k) is >>= λ v. Ok (program_of k t)

-- the program of a file, in which no ticks of a cost model are put, or the first fault
abbrev pub resolved : File → Answer Resolved
resolved f = program_with (known_of f.items) f.items >>= λ p. Ok (record { program = p; explicit = f.explicit })
