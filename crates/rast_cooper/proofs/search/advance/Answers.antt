use Rattle.std.proofs.Common.{◌≡◌, ap, ap₂, sym, ◌∙◌, subst, List, ◌∷◌, [], reverse, length, vec_len, rules, arith}
use Rattle.rast_cooper.specs.declared.literal.Literal.{Literal}
use Rattle.rast_cooper.specs.Claims as claims
use Rattle.rast_cooper.specs.Stack.{claim_value, members_value}
use Rattle.rast_cooper.specs.Frames.{Stands, chained, waiting, frames_states, AreFrames}
use Rattle.rast_cooper.specs.Search.{state, all_in_bounds}
use Rattle.rast_cooper.proofs.Fits.{ok_map}
use Rattle.rast_cooper.proofs.Turns.{atom_states, every_states, some_states, with_literal, frames_literal, bounded_literal, with_claims, frames_claims}
use Rattle.rast_cooper.proofs.search.advance.Goals as goal

pub returns-in_ok-push-in-Atom : goal.returns-in_ok-push-in-Atom
returns-in_ok-push-in-Atom c =
    let s = c.args.stack.now in
    let lit = c.in-Atom.lit in
    let e = c.in_ok-push-in-Atom.ensures.items in
    let n = claims.node_of (claim_value c.args.claim) in
    let is : n ≡ claims.Atom lit = sym c.in-Atom.ensures.value in
    let cs = chained s.claims.items c.args.rest in
    let d : vec_len s.claims ≡ length s.claims.items = search rules in
    record {
      states = λ rows. atom_states n lit cs s.literals.items rows (waiting rows s) is
          ∙ ap₂ (λ t u. state cs t rows ∷ u) (sym e) (with_literal rows s.literals.items (lit ∷ []) s.claims.items (reverse s.frames.items) c.requires.stack.frames
          ∙ ap (λ t. frames_states rows t s.claims.items (reverse s.frames.items)) (sym e));
      place = (
        omega (arith, d, c.requires.place),
        record {
          linked = c.requires.stack.linked;
          frames = subst (λ (ls : List Literal). AreFrames (reverse s.frames.items) (length ls) (length s.claims.items)) (sym e) (frames_literal s.literals.items lit s.claims.items (reverse s.frames.items) c.requires.stack.frames);
          bounded = ap all_in_bounds e ∙ bounded_literal s.literals.items lit c.requires.stack.bounded c.in-Atom.ensures.bounded;
        },
      );
    }

pub returns-in_ok-place-in-Every : goal.returns-in_ok-place-in-Every
returns-in_ok-place-in-Every c =
    let s = c.args.stack.now in
    let adds = c.in_ok-place-in-Every.ensures in
    let n = claims.node_of (claim_value c.args.claim) in
    let is : n ≡ claims.Every (members_value c.in-Every.members) = sym c.in-Every.ensures.value in
    let cs = chained s.claims.items c.args.rest in
    record {
      states = λ rows. every_states n (members_value c.in-Every.members) cs s.literals.items rows (waiting rows s) is
          ∙ ap₂ (λ t u. state t s.literals.items rows ∷ u) (sym adds.here) (with_claims rows s.literals.items s.claims.items c.add_all.new.claims.items (reverse s.frames.items) (members_value c.in-Every.members) c.args.rest c.in_ok-place-in-Every.place adds c.requires.stack.frames);
      place = (
        adds.within,
        record {
          linked = adds.linked c.requires.stack.linked;
          frames = frames_claims s.literals.items s.claims.items c.add_all.new.claims.items (reverse s.frames.items) (members_value c.in-Every.members) c.args.rest c.in_ok-place-in-Every.place adds c.requires.stack.frames;
          bounded = c.requires.stack.bounded;
        },
      );
    }

pub returns-in_ok-add_frame-in-SomeOf : goal.returns-in_ok-add_frame-in-SomeOf
returns-in_ok-add_frame-in-SomeOf c =
    let s = c.args.stack.now in
    let n = claims.node_of (claim_value c.args.claim) in
    let k = c.in_ok-add_frame-in-SomeOf.ensures in
    let m = c.take_next-in-SomeOf.ensures in
    let is : n ≡ claims.Some_of (members_value c.in-SomeOf.members) = sym c.in-SomeOf.ensures.value in
    let cs = chained s.claims.items c.args.rest in
    ok_map c.take_next-in-SomeOf.result (Stands (λ rows. waiting rows c.add_frame.new.stack) c.take_next-in-SomeOf.new.stack) _
    (λ at h. record {
      states = λ rows. some_states n (members_value c.in-SomeOf.members) cs s.literals.items rows (waiting rows s) is ∙ sym (k.states rows) ∙ h.states rows;
      place = h.place;
    }) m
