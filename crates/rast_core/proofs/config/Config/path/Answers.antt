use Rattle.std.proofs.Common.{◌≡◌, ◌<◌, ◌++◌, ℕ, List, Some, sym, ap, ◌∙◌, subst, arith, length, get_or, reverse}
use Rattle.std.specs.Prelude.{slice_get}
use Rattle.std.proofs.lemmas.List.{append-nil}
use Rattle.std.proofs.lemmas.Option.{slice_get-get_or}
use Rattle.rast_items.specs.Items.{pid_at}
use Rattle.rast_core.specs.Paths.{AreAfterParents}
use Rattle.rast_core.specs.declared.origin.Origin.{Origin}
use Rattle.rast_core.proofs.PathLemmas.{path_in, walk_on, path_told, path_of_main}
use Rattle.rast_core.proofs.config.Config.path.Goals as goal

pub loop-at-init : goal.loop-at-init
loop-at-init c =
    let os = c.origins-origins.result.now in
    let k = c.args.pid.0 in
    (subst (λ (xs : List Origin). k < length xs) (sym c.origins-origins.ensures.value) c.requires, ap (λ (xs : List ℕ). path_in (length os) os k ++ reverse xs) c.new-path.ensures.items ∙ append-nil (path_in (length os) os k))

pub bounds-origins-at : goal.bounds-origins-at
bounds-origins-at c = c.loop-at.invariant.0

pub loop-at-smaller : goal.loop-at-smaller
loop-at-smaller c =
    let os = c.origins-origins.result.now in
    let k = c.loop-at.at.0 in
    let a : AreAfterParents os = subst AreAfterParents (sym c.origins-origins.ensures.value) c.origins-origins.ensures.parents in
    let o : Origin = get_or os k (record { parent = pid_at 0; ordinal = 0 }) in
    let g : slice_get os k ≡ Some o = slice_get-get_or os k (record { parent = pid_at 0; ordinal = 0 }) c.loop-at.invariant.0 in
    a k o (omega (arith, c.loop-at-test.true)) g

pub loop-at-preserved : goal.loop-at-preserved
loop-at-preserved c =
    let os = c.origins-origins.result.now in
    let k = c.loop-at.at.0 in
    let a : AreAfterParents os = subst AreAfterParents (sym c.origins-origins.ensures.value) c.origins-origins.ensures.parents in
    let o : Origin = get_or os k (record { parent = pid_at 0; ordinal = 0 }) in
    let g : slice_get os k ≡ Some o = slice_get-get_or os k (record { parent = pid_at 0; ordinal = 0 }) c.loop-at.invariant.0 in
    let l : o.parent.0 < k = a k o (omega (arith, c.loop-at-test.true)) g in
    let w = walk_on os k o c.loop-at.path.items (path_in (length os) os c.args.pid.0) a g c.loop-at-test.true c.loop-at.invariant.1 in
    (omega (arith, l, c.loop-at.invariant.0), ap (λ (xs : List ℕ). path_in (length os) os o.parent.0 ++ reverse xs) c.in_ok-push.ensures.items ∙ w)

pub returns : goal.returns
returns c =
    let os = c.origins-origins.result.now in
    let some = c.loop-at.path.items in
    let m = path_of_main (length os) os c.loop-at.at.0 c.loop-at-test.false in
    let p = ap (λ (xs : List ℕ). xs ++ reverse some) (sym m) ∙ c.loop-at.invariant.1 in
    path_told c.args.self.now c.args.pid c.reverse.new.self.items (c.reverse.ensures.items ∙ (p ∙ ap (λ (xs : List Origin). path_in (length xs) xs c.args.pid.0) c.origins-origins.ensures.value))
