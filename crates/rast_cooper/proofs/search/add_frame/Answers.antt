use Rattle.std.proofs.Common.{◌≡◌, ◌≤◌, ◌∙◌, ap₂, length, vec_len, rules, arith}
use Rattle.rast_cooper.specs.declared.search.Frame.{Frame}
use Rattle.rast_cooper.specs.Stack.{members_value}
use Rattle.rast_cooper.proofs.Turns.{put_states, put_frames}
use Rattle.rast_cooper.proofs.search.add_frame.Goals as goal

pub returns-clause-stack : goal.returns-clause-stack
returns-clause-stack c =
    let s = c.args.stack.now in
    let a : vec_len s.literals ≡ length s.literals.items = search rules in
    let b : vec_len c.add_all.new.claims ≡ length c.add_all.new.claims.items = search rules in
    let d : vec_len s.claims ≡ length s.claims.items = search rules in
    let low : c.args.rest ≤ length s.claims.items = omega (arith, d, c.requires.place) in
    let f : Frame = record { members = c.in_ok-top.top; pending = c.args.rest; literals = c.len.result; claims = c.len-2.result } in
    record {
      linked = c.in_ok-top.ensures.linked c.requires.stack.linked;
      frames = put_frames s.literals.items s.claims.items c.add_all.new.claims.items s.frames.items c.push.new.self.items (members_value c.args.members) c.args.rest c.in_ok-top.top f c.in_ok-top.ensures
          (ap₂ (λ a b. record { members = c.in_ok-top.top; pending = c.args.rest; literals = a; claims = b }) (c.len.ensures ∙ a) (c.len-2.ensures ∙ b)) c.in_ok-push.ensures.items low c.requires.stack.frames;
      bounded = c.requires.stack.bounded;
    }

pub returns-clause-states : goal.returns-clause-states
returns-clause-states c =
    let s = c.args.stack.now in
    let a : vec_len s.literals ≡ length s.literals.items = search rules in
    let b : vec_len c.add_all.new.claims ≡ length c.add_all.new.claims.items = search rules in
    let d : vec_len s.claims ≡ length s.claims.items = search rules in
    let low : c.args.rest ≤ length s.claims.items = omega (arith, d, c.requires.place) in
    let f : Frame = record { members = c.in_ok-top.top; pending = c.args.rest; literals = c.len.result; claims = c.len-2.result } in
    λ rows. put_states s.literals.items s.claims.items c.add_all.new.claims.items s.frames.items c.push.new.self.items (members_value c.args.members) c.args.rest c.in_ok-top.top f c.in_ok-top.ensures
    (ap₂ (λ a b. record { members = c.in_ok-top.top; pending = c.args.rest; literals = a; claims = b }) (c.len.ensures ∙ a) (c.len-2.ensures ∙ b)) c.in_ok-push.ensures.items low c.requires.stack.frames rows
