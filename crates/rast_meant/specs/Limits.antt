-- How many variables are in scope in the tables of a program, and how many entries the tables have.
use Rattle.std.specs.Prelude.{ℕ, ◌≤◌, All, length}
use Rattle.rast_terms.specs.declared.program.Program.{Program}

-- at most 16 variables are in scope in each definition, declaration and equation, and there are at most so many of each
pub record IsLimited (most : ℕ) (g : Program) : Type 0 where
  pub defs : All (λ d. d.params ≤ 16) g.types.defs
  pub decls : All (λ d. d.params ≤ 16) g.decls
  pub equations : All (λ e. e.vars ≤ 16) g.equations
  pub few_defs : length g.types.defs ≤ most
  pub few_decls : length g.decls ≤ most
  pub few_equations : length g.equations ≤ most
