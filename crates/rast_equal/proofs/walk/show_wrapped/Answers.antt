use Rattle.std.proofs.Common.{◌≡◌, ◌∙◌, [], ◌∷◌, sym, ap}
use Rattle.std.proofs.lemmas.Result.{IfOk-weaker}
use Rattle.rast_index.specs.Truth.{is_equal}
use Rattle.rast_types.specs.declared.ty.Ty.TheVariants as ty
use Rattle.rast_equal.specs.declared.answer.Part.TheVariants.{Inner}
use Rattle.rast_equal.specs.declared.met.Met.TheVariants.{Wants}
use Rattle.rast_equal.specs.Shown.{ShowsHeads}
use Rattle.rast_equal.specs.Walk.{heads_of, both, bind, down, pair, under}
use Rattle.rast_equal.proofs.Showing.{heads_ex, heads_all, heads_assert, heads_assume, heads_pays, heads_gets}
use Rattle.rast_equal.proofs.walk.show_wrapped.Goals as goal

pub returns-in-Ex-right : goal.returns-in-Ex-right
returns-in-Ex-right c =
    let l = c.args.left.now in
    let r = c.args.right.now in
    let p = c.args.place.now in
    let x = c.get.result.now in
    let y = c.get-in-Ex-right.result.now in
    IfOk-weaker c.show_body.result (λ s. (s.own ≡ []) × (s.parts ≡ pair (down Inner (bind p)) x y ∷ [])) (ShowsHeads (heads_of l r p))
    (λ s h. heads_ex l r p c.requires.fit s x y (c.in-Ex.is ∙ ap ty.Ex (sym c.get.ensures)) (c.in-Ex-right.is ∙ ap ty.Ex (sym c.get-in-Ex-right.ensures)) h) c.show_body.ensures

pub returns-in-All-right : goal.returns-in-All-right
returns-in-All-right c =
    let l = c.args.left.now in
    let r = c.args.right.now in
    let p = c.args.place.now in
    let x = c.get-in-All-right.result.now in
    let y = c.get-in-All-right-2.result.now in
    IfOk-weaker c.show_body-in-All-right.result (λ s. (s.own ≡ []) × (s.parts ≡ pair (down Inner (bind p)) x y ∷ [])) (ShowsHeads (heads_of l r p))
    (λ s h. heads_all l r p c.requires.fit s x y (c.in-All.is ∙ ap ty.All (sym c.get-in-All-right.ensures)) (c.in-All-right.is ∙ ap ty.All (sym c.get-in-All-right-2.ensures)) h) c.show_body-in-All-right.ensures

pub returns-in-Assert-right : goal.returns-in-Assert-right
returns-in-Assert-right c =
    let l = c.args.left.now in
    let r = c.args.right.now in
    let p = c.args.place.now in
    let f = c.in-Assert.f in
    let g = c.in-Assert-right.g in
    let x = c.get-in-Assert-right.result.now in
    let y = c.get-in-Assert-right-2.result.now in
    IfOk-weaker c.show_formulas.result (λ s. (s.own ≡ both f g p) × (s.parts ≡ pair (down Inner (under f p)) x y ∷ [])) (ShowsHeads (heads_of l r p))
    (λ s h. heads_assert l r p c.requires.fit s f g x y (c.in-Assert.is ∙ ap (ty.Assert f) (sym c.get-in-Assert-right.ensures)) (c.in-Assert-right.is ∙ ap (ty.Assert g) (sym c.get-in-Assert-right-2.ensures)) h) c.show_formulas.ensures

pub returns-in-Assume-right : goal.returns-in-Assume-right
returns-in-Assume-right c =
    let l = c.args.left.now in
    let r = c.args.right.now in
    let p = c.args.place.now in
    let f = c.in-Assume.f in
    let g = c.in-Assume-right.g in
    let x = c.get-in-Assume-right.result.now in
    let y = c.get-in-Assume-right-2.result.now in
    IfOk-weaker c.show_formulas-in-Assume-right.result (λ s. (s.own ≡ both f g p) × (s.parts ≡ pair (down Inner (under f p)) x y ∷ [])) (ShowsHeads (heads_of l r p))
    (λ s h. heads_assume l r p c.requires.fit s f g x y (c.in-Assume.is ∙ ap (ty.Assume f) (sym c.get-in-Assume-right.ensures)) (c.in-Assume-right.is ∙ ap (ty.Assume g) (sym c.get-in-Assume-right-2.ensures)) h) c.show_formulas-in-Assume-right.ensures

pub returns-in-Pays-right : goal.returns-in-Pays-right
returns-in-Pays-right c =
    let l = c.args.left.now in
    let r = c.args.right.now in
    let p = c.args.place.now in
    let f = c.in-Pays.p in
    let g = c.in-Pays-right.q in
    let x = c.get-in-Pays-right.result.now in
    let y = c.get-in-Pays-right-2.result.now in
    IfOk-weaker c.show_potentials.result (λ s. (s.own ≡ Wants p (is_equal f g) ∷ []) × (s.parts ≡ pair (down Inner p) x y ∷ [])) (ShowsHeads (heads_of l r p))
    (λ s h. heads_pays l r p c.requires.fit s f g x y (c.in-Pays.is ∙ ap (ty.Pays f) (sym c.get-in-Pays-right.ensures)) (c.in-Pays-right.is ∙ ap (ty.Pays g) (sym c.get-in-Pays-right-2.ensures)) h) c.show_potentials.ensures

pub returns-in-Gets-right : goal.returns-in-Gets-right
returns-in-Gets-right c =
    let l = c.args.left.now in
    let r = c.args.right.now in
    let p = c.args.place.now in
    let f = c.in-Gets.p in
    let g = c.in-Gets-right.q in
    let x = c.get-in-Gets-right.result.now in
    let y = c.get-in-Gets-right-2.result.now in
    IfOk-weaker c.show_potentials-in-Gets-right.result (λ s. (s.own ≡ Wants p (is_equal f g) ∷ []) × (s.parts ≡ pair (down Inner p) x y ∷ [])) (ShowsHeads (heads_of l r p))
    (λ s h. heads_gets l r p c.requires.fit s f g x y (c.in-Gets.is ∙ ap (ty.Gets f) (sym c.get-in-Gets-right.ensures)) (c.in-Gets-right.is ∙ ap (ty.Gets g) (sym c.get-in-Gets-right-2.ensures)) h) c.show_potentials-in-Gets-right.ensures
