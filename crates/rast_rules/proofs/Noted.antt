-- What a run reads of the judgements.
use Rattle.std.proofs.Common.{◌≡◌, ℕ, zero, suc, ◌+◌, ◌<◌, false, List, [], ◌∷◌, ◌++◌, map, length, get_or, Option, Some, None, sym, ◌∙◌, ap, refl, subst, arith, inl, inr}
use Rattle.std.specs.Prelude.{slice_get}
use Rattle.std.proofs.lemmas.Bool.{cases_lt}
use Rattle.std.proofs.lemmas.List.{length-append}
use Rattle.std.proofs.lemmas.Option.{slice_get_within, slice_get_read, get_or_from_slice_get}
use Rattle.rast_index.specs.Linear.{Linear, replaced}
use Rattle.rast_types.specs.Closed.{Table, Layer, kind_of, kind_layer}
use Rattle.rast_types.specs.Found.{Names, is_defined}
use Rattle.rast_types.specs.Symbolic.{opened, opened_layer, body_at, timed, timed_layer, exposed_type, put_type, is_next}
use Rattle.rast_types.specs.declared.table.TypeDef.{TypeDef}
use Rattle.rast_types.specs.declared.ty.Ty.{Ty, out-Ty}
use Rattle.rast_types.specs.declared.ty.Ty.TheOpen.{Named, One, Plus, With, Tensor, Lolli, Ex, All, Assert, Assume, Pays, Gets, Next}
use Rattle.rast_types.proofs.Layers.{put_layer, out_put, opened_stays, opened_names, timed_next, timed_none}
use Rattle.rast_terms.specs.declared.node.Node.{Node}
use Rattle.rast_rules.specs.Rules.{Program, Judgement, Plan, IsJudgement, IsAccepted, IsPlan, premises, positive_at, paid_at}
use Rattle.rast_rules.specs.Trail.{any_stops}
use Rattle.rast_rules.specs.Plan.{IsForest, Judged, AreJudged, AreAll, ReadsAll}
use Rattle.rast_rules.proofs.Single.{single, goes_on}

-- ---- kinds of heads

kind_layers : (n : ℕ) (args : List Linear) (x : Layer) → kind_layer (put_layer n args x) ≡ kind_layer x
kind_layers n args (Named k es) = refl
kind_layers n args One = refl
kind_layers n args (Plus ts) = refl
kind_layers n args (With ts) = refl
kind_layers n args (Tensor a b) = refl
kind_layers n args (Lolli a b) = refl
kind_layers n args (Ex a) = refl
kind_layers n args (All a) = refl
kind_layers n args (Assert f a) = refl
kind_layers n args (Assume f a) = refl
kind_layers n args (Pays p a) = refl
kind_layers n args (Gets p a) = refl
kind_layers n args (Next l a) = refl

-- terms in the place of variables leave the kind of a head
kind_put : (n : ℕ) (args : List Linear) (a : Ty) → kind_of (put_type n args a) ≡ kind_of a
kind_put n args a = ap kind_layer (out_put n args a) ∙ kind_layers n args (out-Ty a)

module _ (t : Table) (n : ℕ) (args : List Linear) (a : Ty) where
  opened_layers : (x : Layer) → kind_of (opened_layer t n (put_type n args a) (put_layer n args x)) ≡ kind_of (opened_layer t n a x)
  opened_layers (Named k es) = by_definition (slice_get t k)
    where
      by_definition : (o : Option TypeDef) → kind_of (body_at n (put_type n args a) o (map (replaced args) es)) ≡ kind_of (body_at n a o es)
      by_definition None = kind_put n args a
      by_definition (Some d) = kind_put n (map (replaced args) es) d.body ∙ sym (kind_put n es d.body)
  opened_layers One = kind_put n args a
  opened_layers (Plus ts) = kind_put n args a
  opened_layers (With ts) = kind_put n args a
  opened_layers (Tensor b c) = kind_put n args a
  opened_layers (Lolli b c) = kind_put n args a
  opened_layers (Ex b) = kind_put n args a
  opened_layers (All b) = kind_put n args a
  opened_layers (Assert f b) = kind_put n args a
  opened_layers (Assume f b) = kind_put n args a
  opened_layers (Pays p b) = kind_put n args a
  opened_layers (Gets p b) = kind_put n args a
  opened_layers (Next l b) = kind_put n args a

  kind_opened : kind_of (opened t n (put_type n args a)) ≡ kind_of (opened t n a)
  kind_opened = ap (λ x. kind_of (opened_layer t n (put_type n args a) x)) (out_put n args a) ∙ opened_layers (out-Ty a)

kind_below : (t : Table) (n : ℕ) (args : List Linear) (a : Ty) (x : Layer) → kind_of (opened t n (timed_layer (put_type n args a) (put_layer n args x)).body) ≡ kind_of (opened t n (timed_layer a x).body)
kind_below t n args a (Next l b) = kind_opened t n args b
kind_below t n args a One = kind_opened t n args a
kind_below t n args a (Plus ts) = kind_opened t n args a
kind_below t n args a (With ts) = kind_opened t n args a
kind_below t n args a (Tensor b c) = kind_opened t n args a
kind_below t n args a (Lolli b c) = kind_opened t n args a
kind_below t n args a (Named k es) = kind_opened t n args a
kind_below t n args a (Ex b) = kind_opened t n args a
kind_below t n args a (All b) = kind_opened t n args a
kind_below t n args a (Assert f b) = kind_opened t n args a
kind_below t n args a (Assume f b) = kind_opened t n args a
kind_below t n args a (Pays p b) = kind_opened t n args a
kind_below t n args a (Gets p b) = kind_opened t n args a

-- the kind of a type, unfolded once
pub opened_named : (t : Table) (n : ℕ) (a body : Ty) (args : List Linear) → Names t a body args → kind_of body ≡ kind_of (opened t n a)
opened_named t n a body args h = sym (ap kind_of (opened_names t n a body args h) ∙ kind_put n args body)

pub opened_other : (t : Table) (n : ℕ) (a : Ty) → is_defined t a ≡ false → kind_of a ≡ kind_of (opened t n a)
opened_other t n a h = sym (ap kind_of (opened_stays t n a h))

-- below ticks
pub below_next : (t : Table) (n : ℕ) (a b : Ty) (l : Linear) → out-Ty a ≡ Next l b → kind_of (opened t n b) ≡ kind_of (opened t n (timed a).body)
below_next t n a b l h = sym (ap (λ e. kind_of (opened t n e.body)) (timed_next a b l h))

pub below_none : (t : Table) (n : ℕ) (a : Ty) → is_next a ≡ false → kind_of (opened t n a) ≡ kind_of (opened t n (timed a).body)
below_none t n a h = sym (ap (λ e. kind_of (opened t n e.body)) (timed_none a h))

-- the head of a type
pub head_named : (t : Table) (n : ℕ) (a body : Ty) (args : List Linear) → Names t a body args → kind_of (opened t n (timed body).body) ≡ kind_of (exposed_type t n a).body
head_named t n a body args h =
    sym (ap (λ b. kind_of (opened t n (timed b).body)) (opened_names t n a body args h) ∙ ap (λ x. kind_of (opened t n (timed_layer (put_type n args body) x).body)) (out_put n args body) ∙ kind_below t n args body (out-Ty body))

pub head_other : (t : Table) (n : ℕ) (a : Ty) → is_defined t a ≡ false → kind_of (opened t n (timed a).body) ≡ kind_of (exposed_type t n a).body
head_other t n a h = sym (ap (λ b. kind_of (opened t n (timed b).body)) (opened_stays t n a h))

-- ---- one entry for each node

get_front : {X : Type 0} (xs ys : List X) (m : ℕ) → m < length xs → slice_get (xs ++ ys) m ≡ slice_get xs m
get_front {X} [] ys m h = absurd (omega arith)
get_front {X} (x ∷ xs) ys zero h = refl
get_front {X} (x ∷ xs) ys (suc m) h = get_front xs ys m (omega arith)

get_last : {X : Type 0} (xs : List X) (x : X) → slice_get (xs ++ x ∷ []) (length xs) ≡ Some x
get_last {X} [] x = refl
get_last {X} (y ∷ xs) x = get_last xs x

read_at : {X : Type 0} (xs : List X) (n i : ℕ) (x y : X) → n ≡ i → x ≡ get_or xs i x → slice_get xs n ≡ Some y → x ≡ y
read_at {X} xs n i x y same is e = is ∙ get_or_from_slice_get xs i y x (ap (slice_get xs) (sym same) ∙ e)

module _ {X : Type 0} (f : Judgement → Node → X) (js : Judged) (ns : List Node) where
  pub reads_none : ReadsAll f js ns []
  reads_none m j nd below h s = absurd (omega (arith, below))

  pub reads_turn : (xs : List X) (x : X) → ReadsAll f js ns xs → ((j : Judgement) (nd : Node) → slice_get js (length xs) ≡ Some (Some j) → slice_get ns (length xs) ≡ Some nd → x ≡ f j nd) → ReadsAll f js ns (xs ++ x ∷ [])
  reads_turn xs x inv one m j nd below h s = elim (cases_lt m (length xs)) [
    | inl less ↦ get_front xs (x ∷ []) m less ∙ inv m j nd less h s
    | inr least ↦
        let here : m ≡ length xs = omega (arith, below, least, length-append xs (x ∷ [])) in
        ap (slice_get (xs ++ x ∷ [])) here ∙ get_last xs x ∙ ap Some (one j nd (ap (slice_get js) (sym here) ∙ h) (ap (slice_get ns) (sym here) ∙ s))
  ]

  -- a loop over the nodes
  pub reads_push : (xs new : List X) (x : X) (i : ℕ) (o : Option Judgement) (nd : Node) → length xs ≡ i → ReadsAll f js ns xs → o ≡ get_or js i o → nd ≡ get_or ns i nd → ((j : Judgement) → o ≡ Some j → x ≡ f j nd) → new ≡ xs ++ x ∷ [] →
      (length new ≡ i + 1) × ReadsAll f js ns new
  reads_push xs new x i o nd size inv iso isnd one push = (
    omega (arith, ap length push, length-append xs (x ∷ []), size),
    subst (ReadsAll f js ns) (sym push) (reads_turn xs x inv (λ j m h s.
        let same : nd ≡ m = read_at ns (length xs) i nd m size isnd s in
        one j (read_at js (length xs) i o (Some j) size iso h) ∙ ap (f j) same)),
  )

-- the premises of a node do not stop
pub read_on : (g : Program) (js : Judged) → IsAccepted g → AreJudged g js → (i : ℕ) (o : Option Judgement) (nd : Node) → i < length js → i < length g.nodes → o ≡ get_or js i o → nd ≡ get_or g.nodes i nd → (j : Judgement) → o ≡ Some j → any_stops (premises g j nd) ≡ false
read_on g js a sound i o nd below within iso isnd j e =
    goes_on g a i j nd (sound.sound i j (slice_get_read js (length js) i o refl below iso ∙ ap Some e)) (slice_get_read g.nodes (length g.nodes) i nd refl within isnd)

-- a list with what is read at every node of the table has what is read at every judgement
all_read : {X : Type 0} (g : Program) (f : Judgement → Node → X) (js : Judged) (xs : List X) → IsForest g → AreJudged g js → AreAll g js → length xs ≡ length g.nodes → ReadsAll f js g.nodes xs →
    (n : ℕ) (j : Judgement) (nd : Node) → IsJudgement g n j → slice_get g.nodes n ≡ Some nd → slice_get xs n ≡ Some (f j nd)
all_read {X} g f js xs forest sound whole size reads n j nd h s =
    let has = whole n j h in
    let same : has.judgement ≡ j = single g forest n n has.judgement j refl (sound.sound n has.judgement has.is) h in
    reads n j nd (omega (arith, size, slice_get_within g.nodes n nd s)) (has.is ∙ ap (λ i. Some (Some i)) same) s

pub plan_is : (g : Program) (js : Judged) (p : Plan) → IsForest g → AreJudged g js → AreAll g js → length p.positive ≡ length g.nodes → length p.paid ≡ length g.nodes → ReadsAll (positive_at g) js g.nodes p.positive → ReadsAll (paid_at g) js g.nodes p.paid → IsPlan g p
plan_is g js p forest sound whole sides amounts first second = record {
  sides = sides;
  amounts = amounts;
  positive = all_read g (positive_at g) js p.positive forest sound whole sides first;
  paid = all_read g (paid_at g) js p.paid forest sound whole amounts second;
}
