use Rattle.std.proofs.Common.{◌≡◌, ◌++◌, [], List, Some, sym, ap, ◌∙◌, get_or, take, reverse}
use Rattle.std.specs.Prelude.{slice_get}
use Rattle.std.proofs.lemmas.Option.{slice_get-get_or}
use Rattle.rast_core.specs.Words.{Event, Send, Label}
use Rattle.rast_items.specs.Links.{pid_at, link_at}
use Rattle.rast_report.specs.Reports.{amount_on, trace_from}
use Rattle.rast_report.proofs.TraceLemmas.{trace_goes_on, past_more}
use Rattle.rast_report.proofs.trace.put_lines.Goals as goal

pub loop-place-preserved : goal.loop-place-preserved
loop-place-preserved c =
    let g = c.args.program.now in
    let es = c.args.history.now in
    let i = c.loop-place.place in
    let e : Event = get_or es i (Send (pid_at 0) (link_at 0 0) (Label 0) 0 0) in
    let h : slice_get es i ≡ Some e = slice_get-get_or es i (Send (pid_at 0) (link_at 0 0) (Label 0) 0 0) c.loop-place-test.true in
    let all = c.args.text.now.items ++ trace_from g 1 [] es in (
      trace_goes_on g es i e c.loop-place.amounts c.loop-place.text.items c.put_number.new.text.items c.put.new.text.items c.put_event.new.text.items c.put-in-loop-place.new.text.items all h c.loop-place.invariant.1 c.in_ok-put_number.ensures c.in_ok-put.ensures c.in_ok-put_event.ensures c.in_ok-put-2.ensures c.loop-place.invariant.0,
      λ l. c.in_ok-see.ensures (reverse (take i es)) c.loop-place.invariant.1 l ∙ sym (ap (λ (past : List Event). amount_on l past) (past_more es i e h)),
    )
