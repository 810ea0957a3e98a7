use Rattle.rast_equal.proofs.Equals.{equal_refl, equal_sym, equal_trans, equal_heads, equal_ticks, equal_from}
use Rattle.rast_equal.proofs.Unfolds.{unfolded_equal}
use Rattle.rast_equal.proofs.WellFormed.{table_unnamed}
use Rattle.rast_equal.proofs.law.equality_law.Goals as goal

pub returns-clause-reflexive : goal.returns-clause-reflexive
returns-clause-reflexive c = equal_refl

pub returns-clause-symmetric : goal.returns-clause-symmetric
returns-clause-symmetric c = equal_sym

pub returns-clause-transitive : goal.returns-clause-transitive
returns-clause-transitive c = equal_trans

pub returns-clause-opens : goal.returns-clause-opens
returns-clause-opens c = λ t a b h. let s = equal_heads t a b h in (equal_ticks t a b h, record { kind = s.kind; figure = s.figure; ways = s.ways; parts = s.parts })

pub returns-clause-closes : goal.returns-clause-closes
returns-clause-closes c = λ t a b e h. equal_from t a b e (record { kind = h.kind; figure = h.figure; ways = h.ways; parts = h.parts })

pub returns-clause-unfolds : goal.returns-clause-unfolds
returns-clause-unfolds c = λ t a v. unfolded_equal t a (table_unnamed t v)
