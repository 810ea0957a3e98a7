-- Judgements as they are made, before their limits are tested.
use Rattle.std.specs.Prelude.{ℕ, List, [], ◌∷◌, ◌++◌, map, length, min, Result, Ok, Err, Option, Some, None}
use Rattle.std.specs.List.{list_any, list_all}
use Rattle.std.specs.Borrow.{Bor}
use Rattle.rast_index.specs.Linear.{Linear}
use Rattle.rast_types.specs.Symbolic.{within, is_deep, is_small_type, made_type, put_type}
use Rattle.rast_types.specs.declared.ty.Ty.{Ty}
use Rattle.rast_types.specs.declared.stop.Stop.{Stop}
use Rattle.rast_types.specs.declared.stop.Stop.TheVariants as stop
use Rattle.rast_rules.specs.declared.draft.Draft.{Draft}
use Rattle.rast_rules.specs.declared.judgement.Judgement.{Judgement}
use Rattle.rast_rules.specs.Making.{made_term}
use Rattle.rast_rules.specs.Trail.{left}

-- used channels within the limits of terms
abbrev pub made_uses : ℕ → List (ℕ × Ty) → Result (List (ℕ × Ty)) Stop
made_uses n us = within (list_any (λ u. is_deep n u.1) us) (list_all (λ u. is_small_type u.1) us) us

-- the types of the used channels and of the provided one, where no number is too large
abbrev pub made_types : Result (List (ℕ × Ty)) Stop → Result Ty Stop → Result (List (ℕ × Ty) × Ty) Stop
made_types (Ok us) (Ok a) = Ok (us, a)
made_types (Ok us) (Err s) = Err stop.Coefficient
made_types (Err s) made = Err stop.Coefficient

-- one more channel; the limit of variables comes before that of numbers
abbrev pub join_made : Result (List (ℕ × Ty)) Stop → ℕ → Result Ty Stop → Result (List (ℕ × Ty)) Stop
join_made (Ok us) x (Ok a) = Ok (us ++ (x, a) ∷ [])
join_made (Ok us) x (Err s) = Err s
join_made (Err stop.Variables) x made = Err stop.Variables
join_made (Err s) x (Ok a) = Err s
join_made (Err s) x (Err r) = Err r

-- a judgement but for its declaration and its premises
abbrev pub drafted : Judgement → Draft
drafted j = record {
  vars = j.ctx.vars;
  uses = made_uses j.ctx.vars j.uses;
  count = min 16 (length j.uses);
  potential = made_term j.potential;
  provided = j.gives.0;
  gives = made_type j.ctx.vars j.gives.1;
  fresh = j.fresh;
}

-- a type as it is, or at other terms
abbrev pub turned : ℕ → Option (Bor (List Linear)) → Ty → Ty
turned n None a = a
turned n (Some by) a = put_type n by.now a

abbrev pub turned_uses : ℕ → Option (Bor (List Linear)) → List (ℕ × Ty) → List (ℕ × Ty)
turned_uses n by us = map (λ u. (u.0, turned n by u.1)) us

-- a judgement with another scope, all types turned, and without some used channels
abbrev pub changed : ℕ → Option (Bor (List Linear)) → List ℕ → Judgement → Judgement
changed n by gone j =
    let c = j.ctx in
    record j { ctx = record c { vars = n }; uses = turned_uses n by (left gone j.uses); gives = (j.gives.0, turned n by j.gives.1) }
