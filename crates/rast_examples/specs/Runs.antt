-- Small programs and what they come to, as examples of runs and of their ends.
use Rattle.std.specs.Prelude.{ℕ, pos, false, List, [], ◌∷◌, Some, ◌^◌, ◌+◌, length, replicate}
use Rattle.rast_index.specs.Linear.{Linear, fixed, nought}
use Rattle.rast_types.specs.declared.ty.Ty.TheVariants as ty
use Rattle.rast_types.specs.declared.ty.Ty.{Ty}
use Rattle.rast_terms.specs.declared.node.Node.{Node}
use Rattle.rast_terms.specs.declared.node.Node.TheVariants as node
use Rattle.rast_items.specs.Deeds.{Code}
use Rattle.rast_items.specs.Links.{pid_at, link_at}
use Rattle.rast_items.specs.Run.{State}
use Rattle.rast_items.specs.declared.link.Link.{Link}
use Rattle.rast_items.specs.declared.link.Side.{Side}
use Rattle.rast_items.specs.declared.link.Side.TheVariants.{Client}
use Rattle.rast_items.specs.declared.message.Body.{Body}
use Rattle.rast_items.specs.declared.message.Body.TheVariants.{End}
use Rattle.rast_items.specs.declared.item.Item.{Item}
use Rattle.rast_items.specs.declared.item.Item.TheVariants.{Proc as P, Msg as M}
use Rattle.rast_items.specs.declared.event.Event.{Event}
use Rattle.rast_items.specs.declared.event.Event.TheVariants.{Send, Work, Delay}

abbrev pub number : ℕ → Linear
number n = fixed (pos n)

-- one declaration of this potential and type, whose body begins at node 0; no forward waits for its provider, and nothing is paid
abbrev pub code : ℕ → Ty → List Node → Code
code q a ns = record {
  program = record {
    names = (0 ∷ []) ∷ [];
    types = record { defs = [] };
    decls = record { name = 0; params = 0; uses = []; potential = number q; gives = a; body = 0 } ∷ [];
    equations = [];
    nodes = ns;
    main = Some 0;
    said = record { types = []; decls = [] ∷ []; channels = (0 ∷ []) ∷ [] };
  };
  positive = replicate (length ns) false;
  paid = replicate (length ns) nought;
}

-- close x
abbrev pub closing : Code
closing = code 0 ty.One (node.Close 0 ∷ [])

-- work 2; delay 3; close x
abbrev pub busy : Code
busy = code 2 (ty.Next (number 3) ty.One) (node.Work (number 2) 1 ∷ node.Delay (number 3) 2 ∷ node.Close 0 ∷ [])

-- case x (0 => close x)
abbrev pub serving : Code
serving = code 0 (ty.With ((0, ty.One) ∷ [])) (node.Case 0 ((0, 1) ∷ []) ∷ node.Close 0 ∷ [])

-- wait y; close x, where no y is declared
abbrev pub waiting : Code
waiting = code 0 ty.One (node.Wait 1 1 ∷ node.Close 0 ∷ [])

-- work 2 ^ 64; close x
abbrev pub large : Code
large = code 0 ty.One (node.Work (number (2 ^ 64)) 1 ∷ node.Close 0 ∷ [])

-- impossible
abbrev pub lost : Code
lost = code 0 ty.One (node.Impossible ∷ [])

-- ---- states

-- main at a node and a moment, with this potential, after so many steps
abbrev pub at : ℕ → ℕ → ℕ → ℕ → List (ℕ × Link) → Item
at n moment q steps links = P (record { pid = pid_at 0; node = n; values = []; own = link_at 0 0; uses = links; fresh = length links + 1; moment = moment; potential = q; spawned = 0; steps = steps })

-- a message on main's link
abbrev pub left : ℕ → Body → Side → Item
left moment body side = M (record { link = link_at 0 0; next = link_at 0 0; body = body; toward = side; moment = moment; potential = 0 })

abbrev pub with_main : List Item → State
with_main items = record { items = items; births = record { parent = pid_at 0; ordinal = 0; decl = 0; values = []; moment = 0 } ∷ [] }

-- at the beginning, with this potential
abbrev pub begun : ℕ → State
begun q = with_main (at 0 0 q 0 [] ∷ [])

-- main has closed
abbrev pub closed : ℕ → State
closed moment = with_main (left moment End Client ∷ [])

abbrev pub closes : ℕ → Event
closes moment = Send (pid_at 0) (link_at 0 0) End moment 0

abbrev pub works : ℕ → Event
works amount = Work (pid_at 0) amount 0

abbrev pub delays : ℕ → ℕ → Event
delays ticks moment = Delay (pid_at 0) ticks moment
