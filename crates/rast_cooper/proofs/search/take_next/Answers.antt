use Rattle.std.proofs.Common.{◌≡◌, ◌+◌, ◌-◌, ◌<◌, arith, refl, ◌∙◌, length}
use Rattle.rast_cooper.specs.declared.search.Frame.{Frame}
use Rattle.rast_cooper.proofs.Turns.{dropped_states, dropped_linked, dropped_frames, dropped_bounded, member_low, taken_states, taken_frames}
use Rattle.rast_cooper.proofs.search.take_next.Goals as goal

pub loop-frame-preserved : goal.loop-frame-preserved
loop-frame-preserved c =
    let s = c.loop-frame.stack in
    let v = c.loop-frame.invariant.stack in
    record {
      states = λ rows. c.loop-frame.invariant.states rows
          ∙ dropped_states s.literals.items c.truncate.new.self.items s.claims.items c.truncate-in-Some.new.self.items s.frames.items c.pop.new.self.items c.in-Some.frame
          c.in-Some.ensures.items c.truncate.ensures.items c.truncate-in-Some.ensures.items v.linked v.frames v.bounded c.if-frame-eq0.true rows;
      stack = record {
        linked = dropped_linked s.literals.items c.truncate.new.self.items s.claims.items c.truncate-in-Some.new.self.items s.frames.items c.pop.new.self.items c.in-Some.frame
            c.in-Some.ensures.items c.truncate.ensures.items c.truncate-in-Some.ensures.items v.linked v.frames v.bounded;
        frames = dropped_frames s.literals.items c.truncate.new.self.items s.claims.items c.truncate-in-Some.new.self.items s.frames.items c.pop.new.self.items c.in-Some.frame
            c.in-Some.ensures.items c.truncate.ensures.items c.truncate-in-Some.ensures.items v.linked v.frames v.bounded;
        bounded = dropped_bounded s.literals.items c.truncate.new.self.items s.claims.items c.truncate-in-Some.new.self.items s.frames.items c.pop.new.self.items c.in-Some.frame
            c.in-Some.ensures.items c.truncate.ensures.items c.truncate-in-Some.ensures.items v.linked v.frames v.bounded;
      };
    }

pub returns-in-Some : goal.returns-in-Some
returns-in-Some c =
    let s = c.loop-frame.stack in
    let v = c.loop-frame.invariant.stack in
    let f = c.in-Some.frame in
    let p = c.index-member.result.now in
    let em : f.members ≡ (f.members - 1) + 1 = omega (arith, c.if-frame-eq0.false) in
    let h : f.members - 1 < length c.truncate-in-Some.new.self.items =
    member_low s.literals.items c.truncate.new.self.items s.claims.items c.truncate-in-Some.new.self.items s.frames.items c.pop.new.self.items f
    c.in-Some.ensures.items c.truncate.ensures.items c.truncate-in-Some.ensures.items v.linked v.frames v.bounded (f.members - 1) em in
    let adds = c.in_ok-place.ensures in
    let next : Frame = record { members = p.rest; pending = f.pending; literals = f.literals; claims = f.claims } in
    let frames = taken_frames s.literals.items c.truncate.new.self.items s.claims.items c.truncate-in-Some.new.self.items s.frames.items c.pop.new.self.items f
    c.in-Some.ensures.items c.truncate.ensures.items c.truncate-in-Some.ensures.items v.linked v.frames v.bounded
    (f.members - 1) p em h c.index-member.ensures c.add.new.claims.items c.in_ok-place.place adds c.push.new.self.items next refl c.in_ok-push.ensures.items in
    record {
      states = λ rows. c.loop-frame.invariant.states rows
          ∙ taken_states s.literals.items c.truncate.new.self.items s.claims.items c.truncate-in-Some.new.self.items s.frames.items c.pop.new.self.items f
          c.in-Some.ensures.items c.truncate.ensures.items c.truncate-in-Some.ensures.items v.linked v.frames v.bounded
          (f.members - 1) p em h c.index-member.ensures c.add.new.claims.items c.in_ok-place.place adds c.push.new.self.items next refl c.in_ok-push.ensures.items rows;
      place = (
        adds.within,
        record {
          linked = adds.linked (dropped_linked s.literals.items c.truncate.new.self.items s.claims.items c.truncate-in-Some.new.self.items s.frames.items c.pop.new.self.items f
              c.in-Some.ensures.items c.truncate.ensures.items c.truncate-in-Some.ensures.items v.linked v.frames v.bounded);
          frames = frames;
          bounded = dropped_bounded s.literals.items c.truncate.new.self.items s.claims.items c.truncate-in-Some.new.self.items s.frames.items c.pop.new.self.items f
              c.in-Some.ensures.items c.truncate.ensures.items c.truncate-in-Some.ensures.items v.linked v.frames v.bounded;
        },
      );
    }
