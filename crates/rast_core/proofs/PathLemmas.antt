-- The way from main to a process, by where each process came from.
use Rattle.std.proofs.Common.{◌≡◌, ℕ, zero, suc, Bool, true, false, ◌<◌, ◌≤◌, List, [], ◌∷◌, ◌++◌, Option, Some, None, refl, sym, ap, ◌∙◌, subst, arith, length, map, reverse, inl, inr, append_assoc}
use Rattle.std.specs.Prelude.{slice_get, option_to_list, ◌⊎◌}
use Rattle.std.specs.Option.{option_map}
use Rattle.std.proofs.lemmas.List.{length-map, length_push, reverse-append, append-nil, get_or_push}
use Rattle.std.proofs.lemmas.Bool.{cases_lt}
use Rattle.std.proofs.lemmas.Option.{slice_get_within, slice_get-map, slice_get-get_or, get_or_from_slice_get}
use Rattle.std.proofs.Math.ListN.{get_or-append, get_or}
use Rattle.rast_core.specs.Words.{Pid, Item, Event, Send, Take, Move, Spawn, Call, Work, Delay}
use Rattle.rast_items.specs.Items.{total}
use Rattle.rast_items.specs.Deeds.{Code}
use Rattle.rast_items.specs.Step.{cut, cut_more, is_proc, Next, Ready, Waits, Halted, Ended, Stuck, step, at_cut}
use Rattle.rast_items.specs.Run.{Birth, born, numbered_as, pid_of, path_from, path_more}
use Rattle.rast_core.specs.Shown.{Shown, origin}
use Rattle.rast_core.specs.Bounds.{IsBounded}
use Rattle.rast_core.specs.Edits.{Decides, IsStepEdit}
use Rattle.rast_core.specs.Paths.{AreAfterParents, IsPath}
use Rattle.rast_core.specs.declared.origin.Origin.{Origin}
use Rattle.rast_core.specs.declared.decision.Edit.{Edit}
use Rattle.rast_core.specs.declared.decision.Decision.TheVariants.{Does as Do}
use Rattle.rast_core.proofs.Cuts.{cut_on}
use Rattle.rast_core.proofs.StepPids.{step_pid}
use Rattle.rast_core.proofs.ConfigLemmas.{passing_number}

abbrev pub step_up : Option Origin → (ℕ → List ℕ) → List ℕ
step_up None go_on = []
step_up (Some o) go_on = go_on o.parent.0 ++ o.ordinal ∷ []

-- the same over origins
abbrev pub path_in : ℕ → List Origin → ℕ → List ℕ
path_in zero os k = []
path_in (suc n) os zero = []
path_in (suc n) os (suc k) = step_up (slice_get os (suc k)) (λ p. path_in n os p)

same_up : (n : ℕ) (bs : List Birth) (b : Option Birth) (o : Option Origin) → o ≡ option_map origin b → ((k : ℕ) → path_in n (map origin bs) k ≡ path_from n bs k) → step_up o (λ p. path_in n (map origin bs) p) ≡ path_more b (λ p. path_from n bs p)
same_up n bs None o e h = ap (λ (x : Option Origin). step_up x (λ p. path_in n (map origin bs) p)) e
same_up n bs (Some b) o e h = ap (λ (x : Option Origin). step_up x (λ p. path_in n (map origin bs) p)) e ∙ ap (λ (xs : List ℕ). xs ++ b.ordinal ∷ []) (h b.parent.0)

path_same : (n : ℕ) (bs : List Birth) (k : ℕ) → path_in n (map origin bs) k ≡ path_from n bs k
path_same zero bs k = refl
path_same (suc n) bs zero = refl
path_same (suc n) bs (suc k) = same_up n bs (slice_get bs (suc k)) (slice_get (map origin bs) (suc k)) (slice_get-map origin bs (suc k)) (path_same n bs)

pub path_told : (v : Shown) (pid : Pid) (path : List ℕ) → path ≡ path_in (length v.origins) v.origins pid.0 → IsPath v pid path
path_told v pid path h = λ g es st r.
    h ∙ (ap (λ (os : List Origin). path_in (length os) os pid.0) r.origins ∙ (ap (λ (n : ℕ). path_in n (map origin st.births) pid.0) (length-map st.births origin) ∙ path_same (length st.births) st.births pid.0))

-- ---- so many steps are enough

pub path_of_main : (n : ℕ) (os : List Origin) (k : ℕ) → k ≡ 0 → path_in n os k ≡ []
path_of_main zero os k e = refl
path_of_main (suc n) os k e = ap (path_in (suc n) os) e

enough_up : (n m k : ℕ) (os : List Origin) (o : Option Origin) → slice_get os (suc k) ≡ o → AreAfterParents os → k ≤ n → k ≤ m → ((j : ℕ) → j ≤ n → j ≤ m → path_in n os j ≡ path_in m os j) → step_up o (λ p. path_in n os p) ≡ step_up o (λ p. path_in m os p)
enough_up n m k os None e a h l f = refl
enough_up n m k os (Some o) e a h l f =
    let p : o.parent.0 < suc k = a (suc k) o (omega arith) e in
    ap (λ (xs : List ℕ). xs ++ o.ordinal ∷ []) (f o.parent.0 (omega (arith, p, h)) (omega (arith, p, l)))

path_enough : (n m k : ℕ) (os : List Origin) → AreAfterParents os → k ≤ n → k ≤ m → path_in n os k ≡ path_in m os k
path_enough zero m k os a h l = sym (path_of_main m os k (omega (arith, h)))
path_enough (suc n) zero k os a h l = path_of_main (suc n) os k (omega (arith, l))
path_enough (suc n) (suc m) zero os a h l = refl
path_enough (suc n) (suc m) (suc k) os a h l = enough_up n m k os (slice_get os (suc k)) refl a (omega (arith, h)) (omega (arith, l)) (λ j x y. path_enough n m j os a x y)

up_by : (n k : ℕ) (os : List Origin) (o : Origin) → AreAfterParents os → slice_get os (suc k) ≡ Some o → k ≤ n → path_in (suc n) os (suc k) ≡ path_in (suc n) os o.parent.0 ++ o.ordinal ∷ []
up_by n k os o a e h =
    let p : o.parent.0 < suc k = a (suc k) o (omega arith) e in
    ap (λ (x : Option Origin). step_up x (λ q. path_in n os q)) e ∙ ap (λ (xs : List ℕ). xs ++ o.ordinal ∷ []) (path_enough n (suc n) o.parent.0 os a (omega (arith, p, h)) (omega (arith, p, h)))

path_up : (n k : ℕ) (os : List Origin) (o : Origin) → AreAfterParents os → slice_get os k ≡ Some o → 1 ≤ k → k ≤ n → path_in n os k ≡ path_in n os o.parent.0 ++ o.ordinal ∷ []
path_up zero k os o a e l h = absurd (omega (arith, l, h))
path_up (suc n) zero os o a e l h = absurd (omega (arith, l))
path_up (suc n) (suc k) os o a e l h = up_by n k os o a e (omega (arith, h))

-- one step on the way up, where the ordinals so far stand youngest first
pub walk_on : (os : List Origin) (k : ℕ) (o : Origin) (some all : List ℕ) → AreAfterParents os → slice_get os k ≡ Some o → (k ≡ 0 → ⊥) → path_in (length os) os k ++ reverse some ≡ all → path_in (length os) os o.parent.0 ++ reverse (some ++ o.ordinal ∷ []) ≡ all
walk_on os k o some all a e l h =
    let n = length os in
    let u = path_up n k os o a e (omega (arith, l)) (omega (arith, slice_get_within os k o e)) in
    let r : reverse (some ++ o.ordinal ∷ []) ≡ o.ordinal ∷ reverse some = reverse-append some (o.ordinal ∷ []) in
    ap (λ (xs : List ℕ). path_in n os o.parent.0 ++ xs) r ∙ (sym (append_assoc (path_in n os o.parent.0) (o.ordinal ∷ []) (reverse some)) ∙ (ap (λ (xs : List ℕ). xs ++ reverse some) (sym u) ∙ h))

-- ---- parents come before their children

no_number_here : (pid : Pid) (x : Item) (b : Bool) → is_proc pid x ≡ b → numbered_as pid x ≡ 0 → b ≡ false
no_number_here pid x true e h = absurd (omega (arith, passing_number pid x e, h))
no_number_here pid x false e h = refl

no_number : (pid : Pid) (xs : List Item) → total (numbered_as pid) xs ≡ 0 → cut (is_proc pid) xs ≡ None
no_number pid [] h = refl
no_number pid (x ∷ xs) h = cut_on (is_proc pid) x xs false (no_number_here pid x (is_proc pid x) refl (omega (arith, h))) ∙ ap (cut_more x) (no_number pid xs (omega (arith, h)))

made_by : (c : Code) (made : ℕ) (pid : Pid) (items new : List Item) (e : Event) → step c made pid items ≡ Ready e new → ((q : Pid) → made ≤ q.0 → total (numbered_as q) items ≡ 0) → (pid.0 < made) ⊎ (made ≤ pid.0) → pid.0 < made
made_by c made pid items new e t u (inl h) = h
made_by c made pid items new e t u (inr h) = absurd (let k : Ended ≡ Ready e new = ap (at_cut c made) (sym (no_number pid items (u pid h))) ∙ t in cc)

child_of : (e : Event) (new : List Item) (o : Origin) → o ∷ [] ≡ map origin (born e new) → o.parent ≡ pid_of e
child_of (Send pid link body moment potential) new o h = cc
child_of (Take pid link body moment) new o h = cc
child_of (Move pid from to body moment) new o h = cc
child_of (Spawn pid child d moment) new o h = cc
child_of (Call pid d moment) new o h = cc
child_of (Work pid amount moment) new o h = cc
child_of (Delay pid ticks moment) new o h = cc

before_or_new : (os : List Origin) (o x : Origin) (k : ℕ) → AreAfterParents os → o.parent.0 < length os → 1 ≤ k → slice_get (os ++ o ∷ []) k ≡ Some x → (k < length os) ⊎ (length os ≤ k) → x.parent.0 < k
before_or_new os o x k a p l e (inl h) =
    let g : get_or os k x ≡ x = sym (get_or-append os (o ∷ []) x k h) ∙ get_or_from_slice_get (os ++ o ∷ []) k x x e in
    a k x l (slice_get-get_or os k x h ∙ ap Some g)
before_or_new os o x k a p l e (inr h) =
    let n : k < length (os ++ o ∷ []) = slice_get_within (os ++ o ∷ []) k x e in
    let m : k ≡ length os = omega (arith, n, h, length_push os o) in
    let s : x ≡ o = sym (get_or_from_slice_get (os ++ o ∷ []) k x x e) ∙ get_or_push os o x k (sym m) in
    omega (arith, m, p, ap (λ (y : Origin). y.parent.0) s)

more_by : (c : Code) (pid : Pid) (items : List Item) (i : ℕ) (os : List Origin) (event : Event) (edit : Edit) (child : Option Origin) (n : Next) → step c (length os) pid items ≡ n → Decides n items i (Do event edit child) → ((q : Pid) → length os ≤ q.0 → total (numbered_as q) items ≡ 0) → AreAfterParents os →
    AreAfterParents (os ++ option_to_list child)
more_by c pid items i os event edit None (Ready e new) t d u a = subst AreAfterParents (sym (append-nil os)) a
more_by c pid items i os event edit (Some o) (Ready e new) t d u a =
    let m = made_by c (length os) pid items new e t u (cases_lt pid.0 (length os)) in
    let p : o.parent ≡ pid = child_of e new o d.3 ∙ step_pid c (length os) pid items new e t in
    λ k x l g. before_or_new os o x k a (omega (arith, ap (λ (q : Pid). q.0) p, m)) l g (cases_lt k (length os))
more_by c pid items i os event edit child (Waits l) t d u a = absurd d
more_by c pid items i os event edit child (Halted v) t d u a = absurd d
more_by c pid items i os event edit child Ended t d u a = absurd d
more_by c pid items i os event edit child Stuck t d u a = absurd d

pub parents_more : (v : Shown) (i : ℕ) (edit : Edit) (child : Option Origin) → IsStepEdit v i edit child → IsBounded v.items (length v.origins) v.spare → AreAfterParents v.origins → AreAfterParents (v.origins ++ option_to_list child)
parents_more v i edit child k b a = more_by k.code k.pid v.items i v.origins k.event edit child (step k.code (length v.origins) k.pid v.items) refl k.decides b.unmade a

-- main alone
pub main_alone : (o : Origin) → AreAfterParents (o ∷ [])
main_alone o = λ k x l g. absurd (omega (arith, l, slice_get_within (o ∷ []) k x g))
