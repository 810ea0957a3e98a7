-- The names that a program's numbers stand for, as texts.
use Rattle.std.specs.Prelude.{ℕ, List, [], Option, Some, None, slice_get}
use Rattle.rast_terms.specs.declared.program.Program.{Program}
use Rattle.rast_terms.specs.declared.program.Decl.{Decl}
use Rattle.rast_types.specs.declared.table.TypeDef.{TypeDef}

abbrev pub Text : Type 0
Text = List ℕ

abbrev pub or_nothing : Option Text → Text
or_nothing None = []
or_nothing (Some t) = t

-- the name of a number
abbrev pub name_text : Program → ℕ → Text
name_text g n = or_nothing (slice_get g.names n)

abbrev pub decl_named : Program → Option Decl → Text
decl_named g None = []
decl_named g (Some d) = name_text g d.name

-- the name of a declaration
abbrev pub decl_text : Program → ℕ → Text
decl_text g k = decl_named g (slice_get g.decls k)

abbrev pub def_named : Program → Option TypeDef → Text
def_named g None = []
def_named g (Some d) = name_text g d.name

-- the name of a type definition
abbrev pub def_text : Program → ℕ → Text
def_text g k = def_named g (slice_get g.types.defs k)
