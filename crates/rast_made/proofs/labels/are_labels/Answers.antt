use Rattle.std.proofs.Common.{◌∙◌, arith, sym}
use Rattle.std.proofs.lemmas.Bool.{le-ltb, lt-ltb}
use Rattle.rast_made.proofs.Labelling.{at_same, entry_more, entry_seen, entry_twice, entry_unnamed, seen_more, was_absent, was_there}
use Rattle.rast_made.proofs.labels.are_labels.Goals as goal

pub returns-then-label-names : goal.returns-then-label-names
returns-then-label-names g c = entry_unnamed c.args.names c.args.entries.now c.loop-label.label-index c.loop-label-item.result c.loop-label-test.true c.loop-label-item.is (le-ltb c.loop-label-item.result.0 c.args.names c.if-label-names.true)

pub returns-then-not-added : goal.returns-then-not-added
returns-then-not-added g c =
    let e = c.loop-label-item.result in
    entry_twice c.args.names c.args.entries.now c.loop-label.label-index e c.loop-label-test.true c.loop-label-item.is
    (sym (c.loop-label.invariant.seen e.0) ∙ was_there _ _ c.in_ok-added.ensures.added c.if-not-added.true)

pub loop-label-preserved : goal.loop-label-preserved
loop-label-preserved g c =
    let es = c.args.entries.now in
    let i = c.loop-label.label-index in
    let e = c.loop-label-item.result in
    record {
      seen = λ q.
          seen_more _ _ _ _ _ (c.in_ok-added.ensures.updates.0 q) (c.loop-label.invariant.seen q) (at_same e.0 q)
          ∙ sym (entry_seen c.args.names es i e c.loop-label-test.true c.loop-label-item.is q);
      good = entry_more c.args.names es i e c.loop-label-test.true c.loop-label-item.is c.loop-label.invariant.good (lt-ltb e.0 c.args.names (omega (arith, c.if-label-names.false)))
          (sym (c.loop-label.invariant.seen e.0) ∙ was_absent _ _ c.in_ok-added.ensures.added c.if-not-added.false);
    }
