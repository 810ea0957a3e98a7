use Rattle.std.proofs.Common.{drop}
use Rattle.rast_core.specs.Words.{P, M}
use Rattle.rast_core.specs.Handles.{rest}
use Rattle.rast_report.proofs.Advancing.{none_stands, stands_at, process_stands, message_stands}
use Rattle.rast_report.proofs.printing.put_standing.Goals as goal

pub returns-in_default : goal.returns-in_default
returns-in_default c =
    none_stands c.args.program.now c.args.config.now c.args.table.now c.on.result c.args.text.now.items c.put.new.text.items c.args.link c.requires.finds c.on.ensures c.in_default.not-Some c.in_ok-put.ensures

pub returns-in_ok-put-in-Proc : goal.returns-in_ok-put-in-Proc
returns-in_ok-put-in-Proc c =
    let g = c.args.program.now in
    let v = c.args.config.now in
    let h = c.in-Some.handle in
    let f = stands_at g v c.args.table.now c.on.result c.args.link h c.get.result.now (P c.in-Proc.proc) c.requires.finds c.on.ensures c.in-Some.is c.get.ensures c.in-Proc.is in
    process_stands g v c.in-Proc.proc c.args.text.now.items c.put-in-Proc.new.text.items c.process_shows.result.now c.args.link (drop 1 (rest v h)) f c.process_shows.ensures c.in_ok-put-in-Proc.ensures

pub returns-in_ok-turn-in-Msg : goal.returns-in_ok-turn-in-Msg
returns-in_ok-turn-in-Msg c =
    let g = c.args.program.now in
    let v = c.args.config.now in
    let h = c.in-Some.handle in
    let f = stands_at g v c.args.table.now c.on.result c.args.link h c.get.result.now (M c.in-Msg.msg) c.requires.finds c.on.ensures c.in-Some.is c.get.ensures c.in-Msg.is in
    message_stands g v c.in-Msg.msg c.args.text.now.items c.put_message.new.text.items c.args.link c.in_ok-turn-in-Msg.turn (drop 1 (rest v h)) c.requires.going f c.in_ok-turn-in-Msg.ensures
