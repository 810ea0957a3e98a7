-- Programs that are well made, in which at most 16 variables are in scope, and of which the numbers are counted.
use Rattle.std.specs.Prelude.{◌≡◌, ◌≤◌, ◌<◌, All, ◌+◌, ◌^◌, Bool, ◌&&◌, nat_le, nat_lt, true, length}
use Rattle.std.specs.List.{list_all}
use Rattle.rast_index.specs.Linear.{is_closed}
use Rattle.rast_cooper.specs.Verdicts.{is_within}
use Rattle.rast_equal.specs.Fit.{is_within_type, IsWithinType, IsFitTypeDef, IsFitEquation}
use Rattle.rast_made.specs.Made.{is_well_made}
use Rattle.rast_made.specs.WellMade.{IsWellMade}
use Rattle.rast_rules.specs.Plan.{IsForest}
use Rattle.rast_rules.specs.Rules.{Program, Decl, defs}
use Rattle.rast_types.specs.declared.equation.Equation.{Equation}
use Rattle.rast_types.specs.declared.table.TypeDef.{TypeDef}
use Rattle.rast_check.specs.Questions.{IsForward}

abbrev pub is_fit_def : TypeDef → Bool
is_fit_def d = nat_le d.params 16 && is_within_type d.params d.body

abbrev pub is_fit_decl : Decl → Bool
is_fit_decl d = nat_le d.params 16 && (list_all (is_within_type d.params) d.uses && (is_within_type d.params d.gives && is_closed d.params d.potential))

abbrev pub is_fit_equation : Equation → Bool
is_fit_equation e = nat_le e.vars 16 && (is_within e.vars e.premise && (is_within_type e.vars e.left && is_within_type e.vars e.right))

-- numbers that are counted in 32 bits
abbrev pub is_counted : Program → Bool
is_counted g = nat_lt (length (defs g)) (2 ^ 32) && (nat_lt (length g.decls) (2 ^ 32) && nat_lt (length g.equations + 1) (2 ^ 32))

abbrev pub is_scoped : Program → Bool
is_scoped g = list_all is_fit_def (defs g) && (list_all is_fit_decl g.decls && list_all is_fit_equation g.equations)

-- what each program is that a text says
abbrev pub is_formed : Program → Bool
is_formed g = is_counted g && (is_scoped g && is_well_made g)

pub record IsFitDecl (d : Decl) : Type 0 where
  pub few : d.params ≤ 16
  pub uses : All (IsWithinType d.params) d.uses
  pub gives : IsWithinType d.params d.gives
  pub potential : is_closed d.params d.potential ≡ true

pub record IsCounted (g : Program) : Type 0 where
  pub defs : length (defs g) < 2 ^ 32
  pub decls : length g.decls < 2 ^ 32
  pub equations : length g.equations + 1 < 2 ^ 32

pub record IsScoped (g : Program) : Type 0 where
  pub defs : All IsFitTypeDef (defs g)
  pub decls : All IsFitDecl g.decls
  pub equations : All IsFitEquation g.equations

-- what a formed program is
pub record IsFormed (g : Program) : Type 0 where
  pub counted : IsCounted g
  pub scoped : IsScoped g
  pub made : IsWellMade g
  pub forward : IsForward g
  pub forest : IsForest g
