-- In the types of a judgement each name is defined and has its number of arguments.
use Rattle.std.proofs.Common.{◌≡◌, ℕ, pos, zero, suc, ◌+◌, Bool, true, false, not, ◌==◌, List, [], ◌∷◌, ◌++◌, map, Option, Some, None, slice_get, refl, sym, ap, ◌∙◌, subst, if◌then◌else◌, cond}
use Rattle.std.specs.Prelude.{filter}
use Rattle.std.specs.List.{list_all, list_any, AllByRecursion}
use Rattle.std.proofs.lemmas.List.Elements.{recursion_from_All}
use Rattle.rast_index.specs.Keys.{find_key, set_key, numbered}
use Rattle.rast_index.specs.Linear.{Linear, replaced, variables, fixed, less, is_nought}
use Rattle.rast_index.proofs.Scope.{both_true}
use Rattle.rast_types.specs.declared.ty.Ty.{Ty, out-Ty}
use Rattle.rast_types.specs.declared.ty.Ty.TheOpen.{Plus, With, Tensor, Lolli, Ex, All, Assert, Assume, Pays, Gets}
use Rattle.rast_types.specs.declared.ty.Ty.TheVariants as ty
use Rattle.rast_types.specs.Closed.{Table, Layer}
use Rattle.rast_types.specs.Symbolic.{put_type, opened, timed, Timed, is_next, before_delay, after_delay}
use Rattle.rast_equal.specs.WellMadeTypes.{is_named}
use Rattle.rast_made.specs.WellMade.{IsWellMade, IsMadeType, IsMadeDef, IsMadeDecl}
use Rattle.rast_terms.specs.declared.node.Node.{Node}
use Rattle.rast_terms.specs.declared.node.Node.TheVariants as node
use Rattle.rast_terms.specs.declared.program.Program.{Program}
use Rattle.rast_terms.specs.declared.program.Decl.{Decl}
use Rattle.rast_rules.specs.declared.judgement.Judgement.{Judgement}
use Rattle.rast_rules.specs.Rules.{defs, is_provided, used_type, type_of, with_type, without, with_channel, with_potential, with_variable, widened, or_one, head_at, choices_of, choices_layer, pair_layer, inner_layer, first_of_pair, second_of_pair, first_or, second_or, inner_of, root, at_args, spawned, child_at, IsJudgement, at_root, at_child}
use Rattle.rast_laws.proofs.Judged.{limited_is}
use Rattle.rast_laws.proofs.Placed.{only_one, limited_get}
use Rattle.rast_equal.proofs.Every.{all_get}
use Rattle.rast_equal.proofs.WellFormed.{named_layer, named_out, named_at}
use Rattle.rast_equal.proofs.Named.{NamedDefs, named_put, opened_named, exposed_named, timed_named}

-- ---- lists of types

abbrev pub AllNamed : Table → List (ℕ × Ty) → Type 0
AllNamed t [] = Unit {0}
AllNamed t (u ∷ us) = (is_named t u.1 ≡ true) × AllNamed t us

named_one : (t : Table) → is_named t ty.One ≡ true
named_one t = named_out t ty.One ∙ ap (named_layer t) ty.outs-One

find_first : (t : Table) (k : ℕ) (u : ℕ × Ty) (us : List (ℕ × Ty)) (a : Ty) (b : Bool) → is_named t u.1 ≡ true → (find_key k us ≡ Some a → is_named t a ≡ true) → (if b then Some u.1 else find_key k us) ≡ Some a → is_named t a ≡ true
find_first t k u us a true h ih e = let s : u.1 ≡ a = cc in subst (λ x. is_named t x ≡ true) s h
find_first t k u us a false h ih e = ih e

pub named_find : (t : Table) (k : ℕ) (us : List (ℕ × Ty)) (a : Ty) → AllNamed t us → find_key k us ≡ Some a → is_named t a ≡ true
named_find t k [] a h e = cc
named_find t k (u ∷ us) a h e = find_first t k u us a (u.0 == k) h.0 (named_find t k us a h.1) e

named_or : (t : Table) (o : Option Ty) → ((a : Ty) → o ≡ Some a → is_named t a ≡ true) → is_named t (or_one o) ≡ true
named_or t None h = named_one t
named_or t (Some a) h = h a refl

set_first : (t : Table) (k : ℕ) (a : Ty) (u : ℕ × Ty) (us : List (ℕ × Ty)) (b : Bool) → is_named t a ≡ true → AllNamed t (u ∷ us) → AllNamed t (set_key k a us) → AllNamed t (if b then (k, a) ∷ us else u ∷ set_key k a us)
set_first t k a u us true s h ih = (s, h.1)
set_first t k a u us false s h ih = (h.0, ih)

named_set : (t : Table) (k : ℕ) (a : Ty) (us : List (ℕ × Ty)) → is_named t a ≡ true → AllNamed t us → AllNamed t (set_key k a us)
named_set t k a [] s h = tt
named_set t k a (u ∷ us) s h = set_first t k a u us (u.0 == k) s h (named_set t k a us s h.1)

filter_first : (t : Table) (f : (ℕ × Ty) → Bool) (u : ℕ × Ty) (us : List (ℕ × Ty)) (b : Bool) → is_named t u.1 ≡ true → AllNamed t (filter f us) → AllNamed t (cond b (u ∷ filter f us) (filter f us))
filter_first t f u us true s h = (s, h)
filter_first t f u us false s h = h

named_filter : (t : Table) (f : (ℕ × Ty) → Bool) (us : List (ℕ × Ty)) → AllNamed t us → AllNamed t (filter f us)
named_filter t f [] h = tt
named_filter t f (u ∷ us) h = filter_first t f u us (f u) h.0 (named_filter t f us h.1)

named_more : (t : Table) (k : ℕ) (a : Ty) (us : List (ℕ × Ty)) → is_named t a ≡ true → AllNamed t us → AllNamed t (us ++ (k, a) ∷ [])
named_more t k a [] s h = (s, tt)
named_more t k a (u ∷ us) s h = (h.0, named_more t k a us s h.1)

named_map : (t : Table) (f : Ty → Ty) (us : List (ℕ × Ty)) → ((a : Ty) → is_named t a ≡ true → is_named t (f a) ≡ true) → AllNamed t us → AllNamed t (map (λ u. (u.0, f u.1)) us)
named_map t f [] h s = tt
named_map t f (u ∷ us) h s = (h u.1 s.0, named_map t f us h s.1)

-- ---- heads and their parts

entries_named : (t : Table) (ts : List (ℕ × Ty)) → list_all (λ e. is_named t e.1) ts ≡ true → AllNamed t ts
entries_named t [] h = tt
entries_named t (u ∷ ts) h = let r = both_true (is_named t u.1) (list_all (λ e. is_named t e.1) ts) h in (r.0, entries_named t ts r.1)

choices_named' : (t : Table) (x : Layer) → named_layer t x ≡ true → AllNamed t (choices_layer x)
choices_named' t (Plus ts) h = entries_named t ts h
choices_named' t (With ts) h = entries_named t ts h
choices_named' t x h = tt

pair_named' : (t : Table) (x : Layer) → named_layer t x ≡ true → (is_named t (first_or (pair_layer x)) ≡ true) × (is_named t (second_or (pair_layer x)) ≡ true)
pair_named' t (Tensor a b) h = both_true (is_named t a) (is_named t b) h
pair_named' t (Lolli a b) h = both_true (is_named t a) (is_named t b) h
pair_named' t x h = (named_one t, named_one t)

inner_named' : (t : Table) (x : Layer) → named_layer t x ≡ true → is_named t (or_one (inner_layer x)) ≡ true
inner_named' t (Ex a) h = h
inner_named' t (All a) h = h
inner_named' t (Assert f a) h = h
inner_named' t (Assume f a) h = h
inner_named' t (Pays p a) h = h
inner_named' t (Gets p a) h = h
inner_named' t x h = named_one t

choice_named : (t : Table) (a : Ty) (l : ℕ) → is_named t a ≡ true → is_named t (or_one (find_key l (choices_of a))) ≡ true
choice_named t a l h = named_or t (find_key l (choices_of a)) (λ x e. named_find t l (choices_of a) x (choices_named' t (out-Ty a) (named_at t a (out-Ty a) refl h)) e)

pub pair_named : (t : Table) (a : Ty) → is_named t a ≡ true → (is_named t (first_of_pair a) ≡ true) × (is_named t (second_of_pair a) ≡ true)
pair_named t a h = pair_named' t (out-Ty a) (named_at t a (out-Ty a) refl h)

inner_named : (t : Table) (a : Ty) → is_named t a ≡ true → is_named t (inner_of a) ≡ true
inner_named t a h = inner_named' t (out-Ty a) (named_at t a (out-Ty a) refl h)

-- ---- a delay

timed_type_named : (t : Table) (e : Timed) (b : Bool) → is_named t e.body ≡ true → is_named t (if b then e.body else ty.Next e.ticks e.body) ≡ true
timed_type_named t e true h = h
timed_type_named t e false h = named_out t (ty.Next e.ticks e.body) ∙ (ap (named_layer t) (ty.outs-Next e.ticks e.body) ∙ h)

before_named : (t : Table) (a u : Ty) (b : Bool) → is_named t a ≡ true → is_named t u ≡ true → let e : Timed = (if b then timed u else record { ticks = fixed (pos 0); body = a }) in is_named t e.body ≡ true
before_named t a u true h k = timed_named t u k
before_named t a u false h k = h

after_named : (t : Table) (n : ℕ) (by : Linear) (provided : Bool) (a : Ty) → NamedDefs t → is_named t a ≡ true → is_named t (after_delay t n by provided a) ≡ true
after_named t n by provided a ds h =
    let e : Timed = before_delay t n a in
    let r : Timed = record e { ticks = less e.ticks by } in
    timed_type_named t r (is_nought r.ticks) (before_named t a (opened t n a) (is_next (opened t n a)) h (opened_named t n a ds h))

-- ---- judgements

pub record NamedIn (t : Table) (j : Judgement) : Type 0 where
  pub uses : AllNamed t j.uses
  pub gives : is_named t j.gives.1 ≡ true

with_named : (t : Table) (j : Judgement) (x : ℕ) (a : Ty) (b : Bool) → is_named t a ≡ true → NamedIn t j → NamedIn t (if b then record j { gives = (x, a) } else record j { uses = set_key x a j.uses })
with_named t j x a true s h = record { uses = h.uses; gives = s }
with_named t j x a false s h = record { uses = named_set t x a j.uses s h.uses; gives = h.gives }

named_type : (t : Table) (j : Judgement) (x : ℕ) (a : Ty) → is_named t a ≡ true → NamedIn t j → NamedIn t (with_type j x a)
named_type t j x a s h = with_named t j x a (is_provided j x) s h

named_without : (t : Table) (j : Judgement) (ys : List ℕ) → NamedIn t j → NamedIn t (without j ys)
named_without t j ys h = record { uses = named_filter t (λ u. not (list_any (λ y. y == u.0) ys)) j.uses h.uses; gives = h.gives }

named_channel : (t : Table) (j : Judgement) (a : Ty) → is_named t a ≡ true → NamedIn t j → NamedIn t (with_channel j a)
named_channel t j a s h = record { uses = named_more t j.fresh a j.uses s h.uses; gives = h.gives }

named_potential : (t : Table) (j : Judgement) (q : Linear) → NamedIn t j → NamedIn t (with_potential j q)
named_potential t j q h = record { uses = h.uses; gives = h.gives }

named_variable : (t : Table) (j : Judgement) → NamedIn t j → NamedIn t (with_variable j)
named_variable t j h = record {
  uses = named_map t (widened j.ctx.vars) j.uses (λ a s. named_put t (j.ctx.vars + 1) (variables j.ctx.vars) a ∙ s) h.uses;
  gives = named_put t (j.ctx.vars + 1) (variables j.ctx.vars) j.gives.1 ∙ h.gives;
}

type_named : (t : Table) (j : Judgement) (x : ℕ) (b : Bool) → NamedIn t j → is_named t (or_one (if b then Some j.gives.1 else used_type j x)) ≡ true
type_named t j x true h = h.gives
type_named t j x false h = named_or t (used_type j x) (λ a e. named_find t x j.uses a h.uses e)

pub head_named : (g : Program) (j : Judgement) (x : ℕ) → NamedDefs (defs g) → NamedIn (defs g) j → is_named (defs g) (head_at g j x) ≡ true
head_named g j x ds h = exposed_named (defs g) j.ctx.vars (or_one (type_of j x)) ds (type_named (defs g) j x (is_provided j x) h)

spawned_named : (t : Table) (j : Judgement) (es : List Linear) (ys : List ℕ) (o : Option Decl) → ((d : Decl) → o ≡ Some d → is_named t d.gives ≡ true) → NamedIn t j → NamedIn t (spawned j es ys o)
spawned_named t j es ys None f h = h
spawned_named t j es ys (Some d) f h =
    named_channel t (with_potential (without j ys) (less j.potential (replaced es d.potential))) (at_args j es d.gives) (named_put t j.ctx.vars es d.gives ∙ f d refl) (named_potential t (without j ys) (less j.potential (replaced es d.potential)) (named_without t j ys h))

only_named : (t : Table) (x c : Judgement) (i : ℕ) → slice_get (x ∷ []) i ≡ Some c → NamedIn t x → NamedIn t c
only_named t x c i e h = subst (NamedIn t) (only_one x c i e) h

case_named : (g : Program) (j : Judgement) (x : ℕ) (bs : List (ℕ × ℕ)) (c : Judgement) (i : ℕ) → NamedDefs (defs g) → NamedIn (defs g) j → slice_get (map (λ b. with_type j x (or_one (find_key b.0 (choices_of (head_at g j x))))) bs) i ≡ Some c → NamedIn (defs g) c
case_named g j x [] c zero ds h e = cc
case_named g j x [] c (suc i) ds h e = cc
case_named g j x (b ∷ bs) c zero ds h e =
    let s : with_type j x (or_one (find_key b.0 (choices_of (head_at g j x)))) ≡ c = cc in
    subst (NamedIn (defs g)) s (named_type (defs g) j x (or_one (find_key b.0 (choices_of (head_at g j x)))) (choice_named (defs g) (head_at g j x) b.0 (head_named g j x ds h)) h)
case_named g j x (b ∷ bs) c (suc i) ds h e = case_named g j x bs c i ds h e

-- each declaration's type is named
abbrev NamedDecls : Program → Type 0
NamedDecls g = (k : ℕ) (d : Decl) → slice_get g.decls k ≡ Some d → is_named (defs g) d.gives ≡ true

child_named : (g : Program) (j : Judgement) (nd : Node) (c : Judgement) (i : ℕ) → NamedDefs (defs g) → NamedDecls g → NamedIn (defs g) j → slice_get (child_at g j nd (head_at g j)) i ≡ Some c → NamedIn (defs g) c
child_named g j (node.Label x l n) c i ds dc h e = only_named (defs g) _ c i e (named_type (defs g) j x (or_one (find_key l (choices_of (head_at g j x)))) (choice_named (defs g) (head_at g j x) l (head_named g j x ds h)) h)
child_named g j (node.Case x bs) c i ds dc h e = case_named g j x bs c i ds h e
child_named g j (node.Send x w rs n) c i ds dc h e = only_named (defs g) _ c i e (named_type (defs g) (without j (w ∷ [])) x (second_of_pair (head_at g j x)) (pair_named (defs g) (head_at g j x) (head_named g j x ds h)).1 (named_without (defs g) j (w ∷ []) h))
child_named g j (node.Recv x y n) c i ds dc h e =
    let r = pair_named (defs g) (head_at g j x) (head_named g j x ds h) in
    only_named (defs g) _ c i e (named_channel (defs g) (with_type j x (second_of_pair (head_at g j x))) (first_of_pair (head_at g j x)) r.0 (named_type (defs g) j x (second_of_pair (head_at g j x)) r.1 h))
child_named g j (node.Index x t n) c i ds dc h e = only_named (defs g) _ c i e (named_type (defs g) j x (put_type j.ctx.vars (variables j.ctx.vars ++ t ∷ []) (inner_of (head_at g j x))) (named_put (defs g) j.ctx.vars (variables j.ctx.vars ++ t ∷ []) (inner_of (head_at g j x)) ∙ inner_named (defs g) (head_at g j x) (head_named g j x ds h)) h)
child_named g j (node.Bind x y n) c i ds dc h e = only_named (defs g) _ c i e (named_type (defs g) (with_variable j) x (inner_of (head_at g j x)) (inner_named (defs g) (head_at g j x) (head_named g j x ds h)) (named_variable (defs g) j h))
child_named g j (node.Assert x n) c i ds dc h e = only_named (defs g) _ c i e (named_type (defs g) j x (inner_of (head_at g j x)) (inner_named (defs g) (head_at g j x) (head_named g j x ds h)) h)
child_named g j (node.Assume x n) c i ds dc h e =
    let r = named_type (defs g) j x (inner_of (head_at g j x)) (inner_named (defs g) (head_at g j x) (head_named g j x ds h)) h in
    only_named (defs g) _ c i e (record { uses = r.uses; gives = r.gives })
child_named g j (node.Pay x n) c i ds dc h e = only_named (defs g) _ c i e (named_potential (defs g) _ _ (named_type (defs g) j x (inner_of (head_at g j x)) (inner_named (defs g) (head_at g j x) (head_named g j x ds h)) h))
child_named g j (node.Get x n) c i ds dc h e = only_named (defs g) _ c i e (named_potential (defs g) _ _ (named_type (defs g) j x (inner_of (head_at g j x)) (inner_named (defs g) (head_at g j x) (head_named g j x ds h)) h))
child_named g j (node.Close x) c zero ds dc h e = cc
child_named g j (node.Close x) c (suc i) ds dc h e = cc
child_named g j (node.Wait x n) c i ds dc h e = only_named (defs g) _ c i e (named_without (defs g) j (x ∷ []) h)
child_named g j (node.Forward x y rs) c zero ds dc h e = cc
child_named g j (node.Forward x y rs) c (suc i) ds dc h e = cc
child_named g j (node.Spawn y d es ys rs n) c i ds dc h e = only_named (defs g) _ c i e (spawned_named (defs g) j es ys (slice_get g.decls d) (λ x q. dc d x q) h)
child_named g j (node.Call x d es ys rs) c zero ds dc h e = cc
child_named g j (node.Call x d es ys rs) c (suc i) ds dc h e = cc
child_named g j node.Impossible c zero ds dc h e = cc
child_named g j node.Impossible c (suc i) ds dc h e = cc
child_named g j (node.Work r n) c i ds dc h e = only_named (defs g) _ c i e (named_potential (defs g) j _ h)
child_named g j (node.Delay t n) c i ds dc h e = only_named (defs g) _ c i e (record {
  uses = named_map (defs g) (after_delay (defs g) j.ctx.vars t false) j.uses (λ a s. after_named (defs g) j.ctx.vars t false a ds s) h.uses;
  gives = after_named (defs g) j.ctx.vars t true j.gives.1 ds h.gives;
})

-- ---- whole programs

pub named_defs : (g : Program) → IsWellMade g → NamedDefs (defs g)
named_defs g w k d e = (all_get (IsMadeDef g) (defs g) k d w.types e).body.named

uses_named : (g : Program) (v k : ℕ) (as' : List Ty) → AllByRecursion (IsMadeType g v) as' → AllNamed (defs g) (numbered k as')
uses_named g v k [] h = tt
uses_named g v k (a ∷ as') h = (h.0.named, uses_named g v (k + 1) as' h.1)

root_named : (g : Program) (k : ℕ) (d : Decl) → IsMadeDecl g d → NamedIn (defs g) (root k d)
root_named g k d m = record { uses = uses_named g d.params 1 d.uses (recursion_from_All (IsMadeType g d.params) d.uses m.uses); gives = m.gives.named }

-- in each judgement of a well made program
pub judgement_named : (g : Program) → IsWellMade g → (n : ℕ) (j : Judgement) → IsJudgement g n j → NamedIn (defs g) j
judgement_named g w n j (at_root k d c s l) = subst (NamedIn (defs g)) (sym (limited_is (root k d) c l).0) (root_named g k d (all_get (IsMadeDecl g) g.decls k d w.decls s))
judgement_named g w n j (at_child m i nd x y c p q r s) = child_named g i nd c x (named_defs g w) (λ k d e. (all_get (IsMadeDecl g) g.decls k d w.decls e).gives.named) (judgement_named g w m i p) (limited_get (child_at g i nd (head_at g i)) x c s)
