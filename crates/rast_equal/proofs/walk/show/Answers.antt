use Rattle.std.proofs.Common.{◌≡◌, ◌≤◌, ◌∙◌, [], ◌∷◌, sym, arith}
use Rattle.rast_index.specs.Linear.{nought}
use Rattle.rast_index.specs.Truth.{is_equal}
use Rattle.std.proofs.lemmas.Result.{IfOk-weaker}
use Rattle.rast_equal.specs.declared.met.Met.TheVariants.{Names, Wants}
use Rattle.rast_equal.specs.Shown.{Shows}
use Rattle.rast_equal.proofs.Showing.{shows_right_name, shows_left, shows_right, shows_heads, ShowsTicks}
use Rattle.rast_equal.proofs.walk.show.Goals as goal

pub returns-then-is_name-2 : goal.returns-then-is_name-2
returns-then-is_name-2 c =
    let x = c.args.pair.now in
    let few : x.place.vars ≤ 16 = omega arith in
    IfOk-weaker c.show_names-then-is_name-2.result (λ s. (s.own ≡ Names x.place x.left x.right ∷ []) × (s.parts ≡ [])) (Shows x)
    (λ s h. shows_right_name x s few c.requires (sym c.is_name-2.ensures ∙ c.if-is_name-2.true) h) c.show_names-then-is_name-2.ensures

pub returns-then-is_next : goal.returns-then-is_next
returns-then-is_next c =
    let x = c.args.pair.now in
    let few : x.place.vars ≤ 16 = omega arith in
    IfOk-weaker c.show_ticks.result (ShowsTicks x) (Shows x)
    (λ s h. shows_left x s few c.requires (sym c.is_name.ensures ∙ c.if-is_name.false) (sym c.is_name-2.ensures ∙ c.if-is_name-2.false) (sym c.is_next.ensures ∙ c.if-is_next.true) h) c.show_ticks.ensures

pub returns-then-is_next-2 : goal.returns-then-is_next-2
returns-then-is_next-2 c =
    let x = c.args.pair.now in
    let few : x.place.vars ≤ 16 = omega arith in
    IfOk-weaker c.show_ticks-then-is_next-2.result (ShowsTicks x) (Shows x)
    (λ s h. shows_right x s few c.requires (sym c.is_name.ensures ∙ c.if-is_name.false) (sym c.is_name-2.ensures ∙ c.if-is_name-2.false) (sym c.is_next.ensures ∙ c.if-is_next.false) (sym c.is_next-2.ensures ∙ c.if-is_next-2.true) h) c.show_ticks-then-is_next-2.ensures

pub returns : goal.returns
returns c =
    let x = c.args.pair.now in
    let few : x.place.vars ≤ 16 = omega arith in
    IfOk-weaker c.after_ticks.result (λ s. (s.own ≡ Wants x.place (is_equal nought nought) ∷ c.in_ok-heads.heads.own) × (s.parts ≡ c.in_ok-heads.heads.parts)) (Shows x)
    (λ s h. shows_heads x s few c.requires (sym c.is_name.ensures ∙ c.if-is_name.false) (sym c.is_name-2.ensures ∙ c.if-is_name-2.false) (sym c.is_next.ensures ∙ c.if-is_next.false) (sym c.is_next-2.ensures ∙ c.if-is_next-2.false)
    c.in_ok-heads.heads c.in_ok-heads.ensures h.0 h.1) c.after_ticks.ensures
