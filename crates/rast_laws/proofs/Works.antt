-- Spending potential, and the end that no process comes to.
use Rattle.std.proofs.Common.{◌≡◌, ℕ, pos, ◌-ℤ◌, ◌-◌, ◌≤◌, Bool, true, false, length, Option, refl, sym, ap, ◌∙◌, subst, arith, if◌then◌else◌}
use Rattle.std.specs.Prelude.{nat_le}
use Rattle.std.proofs.lemmas.Bool.{le-leb}
use Rattle.std.proofs.lemmas.Int.{ints}
use Rattle.rast_index.specs.Linear.{Linear, value, whole, less}
use Rattle.rast_index.specs.Truth.{truth, is_at_least}
use Rattle.rast_index.specs.declared.formula.Formula.TheVariants as form
use Rattle.rast_index.proofs.Values.{value_less}
use Rattle.rast_types.specs.Closed.{View}
use Rattle.rast_terms.specs.declared.node.Node.TheVariants as node
use Rattle.rast_equal.specs.Valid.{nonneg}
use Rattle.rast_rules.specs.declared.judgement.Judgement.{Judgement}
use Rattle.rast_rules.specs.Rules.{IsJudgement, with_potential}
use Rattle.rast_items.specs.Deeds.{Code, Works, Breaks, act, at_node, at_values, first, works}
use Rattle.rast_order.proofs.Words.{Link, Proc}
use Rattle.rast_laws.proofs.Fine.{Stands, ProcFine}
use Rattle.rast_laws.proofs.Lawful.{DeedFine}
use Rattle.rast_laws.proofs.Meeting.{followed}
use Rattle.rast_equal.proofs.Substitution.{whole-length}
use Rattle.rast_equal.proofs.Truths.{truth_false, at_least_true, nonneg_true}
use Rattle.rast_laws.proofs.Standing.{Standing, child_of}
use Rattle.rast_laws.proofs.Naturals.{natural_fine}

-- no process stands where nothing is possible
pub impossible_fine : (c : Code) (d : Link → Option View) (amount : Linear) (positive : Bool) (k : ℕ) (p : Proc) (j : Judgement) → Standing c.program d p j node.Impossible → DeedFine c d p (act c.program amount positive k p node.Impossible)
impossible_fine c d amount positive k p j s =
    let f : truth form.False (whole p.values) ≡ true = followed c.program d p j form.False s.stands s.asked_true.0 in
    let z : false ≡ true = sym (truth_false (whole p.values)) ∙ f in cc

pub natural_rest : (m n : ℕ) → n ≤ m → pos m -ℤ pos n ≡ pos (m - n)
natural_rest m n h = omega (arith, ints, h)

enough : (c : Code) (d : Link → Option View) (p : Proc) (q n : ℕ) (b : Bool) → b ≡ true → ProcFine c.program d (at_node (record p { potential = p.potential - q }) n) → DeedFine c d p (if b then Works q (at_node (record p { potential = p.potential - q }) n) else Breaks)
enough c d p q n true e h = h
enough c d p q n false e h = cc

pub work_fine : (c : Code) (d : Link → Option View) (amount : Linear) (positive : Bool) (k : ℕ) (p : Proc) (j : Judgement) (r : Linear) (n : ℕ) → Standing c.program d p j (node.Work r n) → DeedFine c d p (act c.program amount positive k p (node.Work r n))
work_fine c d amount positive k p j r n s =
    let st : Stands c.program d p j = s.stands in
    let v = nonneg_true r (whole p.values) (followed c.program d p j (nonneg r) st s.asked_true.0) in
    let a = at_least_true j.potential r (whole p.values) v.0 v.1 (followed c.program d p j (is_at_least j.potential r) st s.asked_true.1.0) in
    let same : pos a.0 ≡ pos p.potential = sym a.1 ∙ st.potential in
    let is : a.0 ≡ p.potential = cc in
    let le : v.0 ≤ p.potential = subst (λ m. v.0 ≤ m) is a.2 in
    let few : length (whole p.values) ≤ 16 = omega (arith, whole-length p.values, st.vars, s.limits.vars) in
    let rest : value (less j.potential r) (whole p.values) ≡ pos (p.potential - v.0) = value_less j.potential r (whole p.values) few ∙ (ap (λ z. z -ℤ value r (whole p.values)) st.potential ∙ (ap (λ z. pos p.potential -ℤ z) v.1 ∙ natural_rest p.potential v.0 le)) in
    let child : IsJudgement c.program n (with_potential j (less j.potential r)) = child_of c.program d p j (node.Work r n) 0 n (with_potential j (less j.potential r)) s refl refl in
    natural_fine c d p (at_values p r) v.0 (λ ns. works p n (first ns)) v.1
    (enough c d p v.0 n (nat_le v.0 p.potential) (le-leb v.0 p.potential le) (with_potential j (less j.potential r), child, record { vars = st.vars; premises = st.premises; potential = rest; fresh = st.fresh; provided = st.provided; gives = st.gives; uses = st.uses }))
