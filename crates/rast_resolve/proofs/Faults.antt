-- What a written term or formula gives in an item.
use Rattle.std.proofs.Common.{◌≡◌, ℕ, List, refl, sym, Ok, Err, subst}
use Rattle.rast_formula.specs.declared.refusal.ScopeErr.{ScopeErr}
use Rattle.rast_formula.specs.declared.refusal.ScopeErr.TheVariants as scope
use Rattle.rast_formula.specs.Answers as written
use Rattle.rast_resolve.specs.declared.fault.NameErr.{NameErr}
use Rattle.rast_resolve.specs.declared.fault.NameErr.TheVariants.{Unknown, Twice, Arity, BadMain, Limit, Memory}
use Rattle.rast_resolve.specs.Answers.{Fails, FailsWith}
use Rattle.rast_resolve.specs.Written.{fault_in, in_item}
use Rattle.rast_resolve.proofs.Chains.{fails}

-- a fault for want of memory is no other
memory_alone : (e : NameErr) → FailsWith Memory e → e ≡ Memory
memory_alone Memory h = refl
memory_alone (Unknown n) h = absurd (cc)
memory_alone (Twice n) h = absurd (cc)
memory_alone (Arity n) h = absurd (cc)
memory_alone (BadMain n) h = absurd (cc)
memory_alone (Limit n) h = absurd (cc)

pub value_in : {X : Type 0} (item : List ℕ) (said : written.Answer X) (x : X) → written.Gives said (Ok x) → in_item item said ≡ Ok x
value_in item said x h = rw h refl

pub fails_in : {X : Type 0} (item : List ℕ) (said : written.Answer X) (e : ScopeErr) (g : NameErr) → written.Gives said (Err e) → FailsWith (fault_in item e) g → Fails (in_item item said) g
fails_in {X} item said scope.Memory g h k = subst (λ z. Fails (in_item item said) z) (sym (memory_alone g k)) tt
fails_in {X} item said (scope.Unknown n) g h k = fails (in_item item said) (Unknown n) g (rw h refl) k
fails_in {X} item said scope.Limit g h k = fails (in_item item said) (Limit item) g (rw h refl) k
