use Rattle.std.proofs.Common.{◌≡◌, ◌∙◌, [], ◌∷◌, sym}
use Rattle.std.proofs.lemmas.Result.{IfOk-weaker}
use Rattle.rast_equal.specs.declared.met.Met.TheVariants.{Differs}
use Rattle.rast_equal.specs.Shown.{ShowsHeads}
use Rattle.rast_equal.specs.Walk.{choices_of}
use Rattle.rast_equal.proofs.Labels.{choices_apart, choices_more, shows_differ, shows_choices}
use Rattle.rast_equal.proofs.walk.show_choices.Goals as goal

pub returns-then-not-are_among : goal.returns-then-not-are_among
returns-then-not-are_among c =
    let ts = c.args.ts.now in
    let us = c.args.us.now in
    let p = c.args.place.now in
    IfOk-weaker c.differs.result (λ s. (s.own ≡ Differs p ∷ []) × (s.parts ≡ [])) (ShowsHeads (choices_of ts us p))
    (λ s h. shows_differ (choices_of ts us p) p s (choices_apart ts us p (sym c.are_among.ensures ∙ c.if-not-are_among.true)) c.requires.scope h) c.differs.ensures

pub returns-then-not-are_among-2 : goal.returns-then-not-are_among-2
returns-then-not-are_among-2 c =
    let ts = c.args.ts.now in
    let us = c.args.us.now in
    let p = c.args.place.now in
    IfOk-weaker c.differs-then-not-are_among-2.result (λ s. (s.own ≡ Differs p ∷ []) × (s.parts ≡ [])) (ShowsHeads (choices_of ts us p))
    (λ s h. shows_differ (choices_of ts us p) p s (choices_more ts us p (sym c.are_among.ensures ∙ c.if-not-are_among.false) (sym c.are_among-2.ensures ∙ c.if-not-are_among-2.true)) c.requires.scope h) c.differs-then-not-are_among-2.ensures

pub returns : goal.returns
returns c =
    let ts = c.args.ts.now in
    let us = c.args.us.now in
    shows_choices ts us c.args.place.now c.in_ok-show_order.field-0 c.in_ok-show_labels.field-0 (sym c.are_among.ensures ∙ c.if-not-are_among.false) (sym c.are_among-2.ensures ∙ c.if-not-are_among-2.false)
    c.in_ok-show_order.ensures c.in_ok-show_labels.ensures.met c.in_ok-show_labels.ensures.fit
