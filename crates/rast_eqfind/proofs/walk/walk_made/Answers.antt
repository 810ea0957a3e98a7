use Rattle.std.proofs.Common.{◌≡◌, ◌+◌, ◌<◌, ◌≤◌, suc, arith, length}
use Rattle.std.proofs.lemmas.Bool.{le-ltb, lt-ltb}
use Rattle.rast_eqfind.specs.Search.{most_made}
use Rattle.rast_eqfind.proofs.Meeting.{remains_ends, remains_first, remains_next, remains_none}
use Rattle.rast_eqfind.proofs.walk.walk_made.Goals as goal

pub loop-at-init : goal.loop-at-init
loop-at-init c = record {
  remains = remains_first c.args.table.now.defs c.args.known.now c.args.search.now;
  most = omega arith;
  fit = c.requires.search;
}

pub returns-in_err-walk_one : goal.returns-in_err-walk_one
returns-in_err-walk_one c =
    let s = c.loop-at.search in
    let i = c.loop-at.at in
    let lt : i < length s.made = omega arith in
    remains_ends c.args.table.now.defs c.args.known.now c.args.search.now s c.walk_one.new.search i c.in_err-walk_one.field-0.0 c.from_residual.result
    (lt-ltb i (length s.made) lt) (omega (arith, lt, c.loop-at.invariant.fit.few)) c.loop-at.invariant.remains c.in_err-walk_one.ensures c.from_residual.ensures.1

pub loop-at-preserved : goal.loop-at-preserved
loop-at-preserved c =
    let s = c.loop-at.search in
    let i = c.loop-at.at in
    let lt : i < length s.made = omega arith in
    let below : i < most_made = omega (arith, lt, c.loop-at.invariant.fit.few) in
    let next : i + 1 ≡ suc i = omega arith in
    record {
      remains = remains_next c.args.table.now.defs c.args.known.now c.args.search.now s c.walk_one.new.search i (i + 1) next
          (lt-ltb i (length s.made) lt) below c.loop-at.invariant.remains c.in_ok-walk_one.ensures.0;
      most = omega (arith, below);
      fit = c.in_ok-walk_one.ensures.1;
    }

pub returns : goal.returns
returns c =
    let s = c.loop-at.search in
    let i = c.loop-at.at in
    let past : length s.made ≤ i = omega arith in
    (remains_none c.args.table.now.defs c.args.known.now c.args.search.now s i (le-ltb i (length s.made) past) c.loop-at.invariant.remains, c.loop-at.invariant.fit)
