use Rattle.std.proofs.Common.{List, Bool, ap₂, ◌∙◌, sym, subst, lit<}
use Rattle.rast_index.specs.Linear.{Linear}
use Rattle.rast_core.specs.Words.{P}
use Rattle.rast_items.specs.Actions.{action_of}
use Rattle.rast_items.specs.Deeds.{Code, deed}
use Rattle.rast_items.specs.Slack.{IsItemSlack}
use Rattle.rast_items.specs.declared.action.Action.{Action}
use Rattle.rast_core.specs.Shown.{run_code}
use Rattle.rast_core.specs.Edits.{KeepsPid}
use Rattle.rast_equal.proofs.Every.{all_get}
use Rattle.rast_core.proofs.DeedBounds.{deed_keeps, keeps_pid}
use Rattle.rast_core.proofs.decide.decide.Goals as goal

pub decide_action-requires-clause-pid : goal.decide_action-requires-clause-pid
decide_action-requires-clause-pid c =
    let p = c.args.proc.now in
    let code : Code = record { program = c.args.program.now; positive = c.as_slice-positive.result.now; paid = c.as_slice-paid.result.now } in
    let h = all_get (IsItemSlack 1) c.args.items.now c.args.place (P p) c.requires.slack c.requires.at in
    subst (λ (a : Action). KeepsPid p.pid a) (sym c.next_action-action.ensures) (keeps_pid 0 c.args.made p (deed code c.args.made p) (deed_keeps code 0 c.args.made p (lit< tt) h))

pub decide_action-requires-clause-rule : goal.decide_action-requires-clause-rule
decide_action-requires-clause-rule c =
    let g = c.args.program.now in
    let p = c.args.proc.now in
    record {
      plan = c.args.plan.now;
      deed = deed (run_code g c.args.plan.now) c.args.made p;
      is = c.next_action-action.ensures ∙ ap₂ (λ (xs : List Bool) (ys : List Linear). action_of (deed (record { program = g; positive = xs; paid = ys }) c.args.made p)) c.as_slice-positive.ensures c.as_slice-paid.ensures;
      unstuck = c.requires.going;
    }
