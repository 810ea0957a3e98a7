use Rattle.std.proofs.Common.{◌∙◌, ◌≡◌, ◌+◌, ◌∷◌, [], ap, sym, arith, length, Some, Ok, Err}
use Rattle.std.specs.Prelude.{slice_get}
use Rattle.std.proofs.lemmas.List.{length-append}
use Rattle.std.proofs.lemmas.Option.{slice_get_within}
use Rattle.rast_terms.specs.Nodes.{kids}
use Rattle.rast_rules.proofs.Single.{get_before, get_last, kids_turn, popped, all_popped}
use Rattle.rast_rules.proofs.judged.add_made.Goals as goal

pub loop-child-init : goal.loop-child-init
loop-child-init c = record {
  sound = c.requires.old;
  keeps = λ m h. h;
  size = omega (arith, c.requires.size);
  right = c.requires.right;
  all_made = c.requires.all_made;
  here = λ i m h e. absurd (omega (arith, h, slice_get_within (kids c.args.parent.now) i m e, c.requires.size));
}

pub loop-child-preserved : goal.loop-child-preserved
loop-child-preserved c =
    let inv = c.loop-child.invariant in
    let ks = kids c.args.parent.now in
    let old = c.loop-child.made in
    let rest = c.pop.new.self in
    let child = c.in-Some.child in
    let cut = popped c.pop.result old rest child c.pop.ensures c.in-Some.is in
    let longer : length old ≡ length rest + 1 = omega (arith, ap length cut, length-append rest (child ∷ [])) in
    let new = c.add_one.ensures in
    let node = c.kid-node.result in
    let here : slice_get ks (length rest) ≡ Some node = ap (slice_get ks) (sym c.len.ensures) ∙ c.kid-node.ensures in
    record {
      sound = new.sound;
      keeps = λ m h. new.keeps m (inv.keeps m h);
      size = omega (arith, inv.size, longer);
      right = λ i m j k d. inv.right i m j k (get_before old rest child i (Ok j) cut d);
      all_made = λ i s d. inv.all_made i s (get_before old rest child i (Err s) cut d);
      here = kids_turn ks c.loop-child.judged c.add_one.new.judged (length rest) node (λ i m h e. inv.here i m (omega (arith, h, longer)) e) new.keeps here new.here;
    }

pub kid-node-requires : goal.kid-node-requires
kid-node-requires c =
    let rest = c.pop.new.self in
    let child = c.in-Some.child in
    let cut = popped c.pop.result c.loop-child.made rest child c.pop.ensures c.in-Some.is in
    omega (arith, ap length cut, length-append rest (child ∷ []), c.len.ensures, c.loop-child.invariant.size)

pub add_one-requires-clause-right : goal.add_one-requires-clause-right
add_one-requires-clause-right c = λ j e.
    let inv = c.loop-child.invariant in
    let ks = kids c.args.parent.now in
    let old = c.loop-child.made in
    let rest = c.pop.new.self in
    let child = c.in-Some.child in
    let cut = popped c.pop.result old rest child c.pop.ensures c.in-Some.is in
    let longer : length old ≡ length rest + 1 = omega (arith, ap length cut, length-append rest (child ∷ [])) in
    let node = c.kid-node.result in
    let here : slice_get ks (length rest) ≡ Some node = ap (slice_get ks) (sym c.len.ensures) ∙ c.kid-node.ensures in
    inv.right (length rest) node j here (get_last old rest child cut ∙ ap Some e)

pub add_one-requires-clause-all_made : goal.add_one-requires-clause-all_made
add_one-requires-clause-all_made c = λ s e.
    let old = c.loop-child.made in
    let rest = c.pop.new.self in
    let child = c.in-Some.child in
    let cut = popped c.pop.result old rest child c.pop.ensures c.in-Some.is in
    c.loop-child.invariant.all_made (length rest) s (get_last old rest child cut ∙ ap Some e)

pub returns-clause-here : goal.returns-clause-here
returns-clause-here c = λ i m e.
    let none = all_popped c.pop.result c.loop-child.made c.pop.new.self c.pop.ensures c.in_default.is in
    c.loop-child.invariant.here i m (omega (arith, ap length none.0)) e
