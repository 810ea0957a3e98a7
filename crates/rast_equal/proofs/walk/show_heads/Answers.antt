use Rattle.std.proofs.Common.{subst, ◌≡◌, ◌∙◌, [], ◌∷◌, sym, ap, ap₂}
use Rattle.std.proofs.lemmas.Result.{IfOk-weaker}
use Rattle.rast_types.specs.declared.ty.Ty.TheVariants as ty
use Rattle.rast_equal.specs.declared.answer.Part.TheVariants.{First, Second}
use Rattle.rast_equal.specs.Shown.{ShowsHeads}
use Rattle.rast_equal.specs.Walk.{heads_of, down, pair}
use Rattle.rast_equal.specs.Fit.{AreWithinTypes, IsWithinType}
use Rattle.rast_equal.specs.Walk.{choices_of}
use Rattle.rast_equal.proofs.Fits.{plus_parts, with_parts}
use Rattle.rast_equal.proofs.Showing.{heads_plus, heads_with, heads_tensor, heads_lolli}
use Rattle.rast_equal.proofs.walk.show_heads.Goals as goal

pub show_choices-requires-clause-left : goal.show_choices-requires-clause-left
show_choices-requires-clause-left c =
    let n = c.args.place.now.vars in
    subst (AreWithinTypes n) (sym c.as_slice.ensures) (plus_parts n c.in-Plus.ts (subst (IsWithinType n) c.in-Plus.is c.requires.left))

pub show_choices-requires-clause-right : goal.show_choices-requires-clause-right
show_choices-requires-clause-right c =
    let n = c.args.place.now.vars in
    subst (AreWithinTypes n) (sym c.as_slice-in-Plus-right.ensures) (plus_parts n c.in-Plus-right.us (subst (IsWithinType n) c.in-Plus-right.is c.requires.right))

pub returns-in-Plus-right : goal.returns-in-Plus-right
returns-in-Plus-right c =
    let l = c.args.left.now in
    let r = c.args.right.now in
    let p = c.args.place.now in
    let xs = c.as_slice.result.now in
    let ys = c.as_slice-in-Plus-right.result.now in
    IfOk-weaker c.show_choices.result (ShowsHeads (choices_of xs ys p)) (ShowsHeads (heads_of l r p))
    (λ s h. heads_plus l r p c.requires s xs ys (c.in-Plus.is ∙ ap ty.Plus (sym c.as_slice.ensures)) (c.in-Plus-right.is ∙ ap ty.Plus (sym c.as_slice-in-Plus-right.ensures)) h) c.show_choices.ensures

pub show_choices-requires-in-With-right-clause-left : goal.show_choices-requires-in-With-right-clause-left
show_choices-requires-in-With-right-clause-left c =
    let n = c.args.place.now.vars in
    subst (AreWithinTypes n) (sym c.as_slice-in-With-right.ensures) (with_parts n c.in-With.ts (subst (IsWithinType n) c.in-With.is c.requires.left))

pub show_choices-requires-in-With-right-clause-right : goal.show_choices-requires-in-With-right-clause-right
show_choices-requires-in-With-right-clause-right c =
    let n = c.args.place.now.vars in
    subst (AreWithinTypes n) (sym c.as_slice-in-With-right-2.ensures) (with_parts n c.in-With-right.us (subst (IsWithinType n) c.in-With-right.is c.requires.right))

pub returns-in-With-right : goal.returns-in-With-right
returns-in-With-right c =
    let l = c.args.left.now in
    let r = c.args.right.now in
    let p = c.args.place.now in
    let xs = c.as_slice-in-With-right.result.now in
    let ys = c.as_slice-in-With-right-2.result.now in
    IfOk-weaker c.show_choices-in-With-right.result (ShowsHeads (choices_of xs ys p)) (ShowsHeads (heads_of l r p))
    (λ s h. heads_with l r p c.requires s xs ys (c.in-With.is ∙ ap ty.With (sym c.as_slice-in-With-right.ensures)) (c.in-With-right.is ∙ ap ty.With (sym c.as_slice-in-With-right-2.ensures)) h) c.show_choices-in-With-right.ensures

pub returns-in-Tensor-right : goal.returns-in-Tensor-right
returns-in-Tensor-right c =
    let l = c.args.left.now in
    let r = c.args.right.now in
    let p = c.args.place.now in
    let x = c.get.result.now in
    let y = c.get-in-Tensor-right-2.result.now in
    let v = c.get-in-Tensor-right.result.now in
    let w = c.get-in-Tensor-right-3.result.now in
    IfOk-weaker c.show_two.result (λ s. (s.own ≡ []) × (s.parts ≡ pair (down Second p) y w ∷ pair (down First p) x v ∷ [])) (ShowsHeads (heads_of l r p))
    (λ s h. heads_tensor l r p c.requires s x y v w (c.in-Tensor.is ∙ ap₂ ty.Tensor (sym c.get.ensures) (sym c.get-in-Tensor-right-2.ensures)) (c.in-Tensor-right.is ∙ ap₂ ty.Tensor (sym c.get-in-Tensor-right.ensures) (sym c.get-in-Tensor-right-3.ensures)) h) c.show_two.ensures

pub returns-in-Lolli-right : goal.returns-in-Lolli-right
returns-in-Lolli-right c =
    let l = c.args.left.now in
    let r = c.args.right.now in
    let p = c.args.place.now in
    let x = c.get-in-Lolli-right.result.now in
    let y = c.get-in-Lolli-right-3.result.now in
    let v = c.get-in-Lolli-right-2.result.now in
    let w = c.get-in-Lolli-right-4.result.now in
    IfOk-weaker c.show_two-in-Lolli-right.result (λ s. (s.own ≡ []) × (s.parts ≡ pair (down Second p) y w ∷ pair (down First p) x v ∷ [])) (ShowsHeads (heads_of l r p))
    (λ s h. heads_lolli l r p c.requires s x y v w (c.in-Lolli.is ∙ ap₂ ty.Lolli (sym c.get-in-Lolli-right.ensures) (sym c.get-in-Lolli-right-3.ensures)) (c.in-Lolli-right.is ∙ ap₂ ty.Lolli (sym c.get-in-Lolli-right-2.ensures) (sym c.get-in-Lolli-right-4.ensures)) h) c.show_two-in-Lolli-right.ensures
