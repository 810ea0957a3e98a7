use Rattle.std.proofs.Common.{◌≡◌, ℕ, drop, map, true}
use Rattle.std.specs.List.{list_all}
use Rattle.rast_formula.specs.Answers.{each, gathered}
use Rattle.rast_formula.specs.Scopes.{FindsBelow, is_good}
use Rattle.rast_formula.specs.Formulas.{conjunction_of, literal_of}
use Rattle.rast_ast.specs.Formulas.{conjunction_fits, literal_fits}
use Rattle.rast_formula.proofs.formulas.+formula.Given as goal

abbrev pub invariant-conjunctions-loop-next : goal.invariant-conjunctions-loop-next
invariant-conjunctions-loop-next g l = record {
  is : gathered l.all (map (conjunction_of (g.S.Scope.find l.scope)) (drop l.next-index l.rest)) ≡ each (map (conjunction_of (g.S.Scope.find l.scope)) l.rest);
  good : (n : ℕ) → FindsBelow n (g.S.Scope.find l.scope) → list_all conjunction_fits l.rest ≡ true → list_all (is_good n) l.all ≡ true;
}

abbrev pub invariant-literals-loop-next : goal.invariant-literals-loop-next
invariant-literals-loop-next g l = record {
  is : gathered l.all (map (literal_of (g.S.Scope.find l.scope)) (drop l.next-index l.rest)) ≡ each (map (literal_of (g.S.Scope.find l.scope)) l.rest);
  good : (n : ℕ) → FindsBelow n (g.S.Scope.find l.scope) → list_all literal_fits l.rest ≡ true → list_all (is_good n) l.all ≡ true;
}
