use Rattle.rast_report.proofs.Advancing.{next_advances, sent_advances, end_advances}
use Rattle.rast_report.proofs.printing.advance.Goals as goal

pub returns-in_ok-next-in-Ends : goal.returns-in_ok-next-in-Ends
returns-in_ok-next-in-Ends c =
    end_advances c.args.program.now c.args.config.now c.args.text.now.items c.put_standing.new.text.items c.next_waiting.new.text.items c.args.at c.args.waiting.now.items c.next_waiting.new.waiting.items c.in_ok-next-in-Ends.next
    (rw c.in-Ends.is at c.in_ok-put_standing.ensures) c.in_ok-next-in-Ends.ensures

pub returns-in-Next : goal.returns-in-Next
returns-in-Next c =
    next_advances c.args.program.now c.args.config.now c.args.text.now.items c.put_standing.new.text.items c.args.at c.in-Next.next c.args.waiting.now.items
    (rw c.in-Next.is at c.in_ok-put_standing.ensures)

pub returns-in_ok-push-in-Sent : goal.returns-in_ok-push-in-Sent
returns-in_ok-push-in-Sent c =
    sent_advances c.args.program.now c.args.config.now c.args.text.now.items c.put_standing.new.text.items c.args.at c.in-Sent.sent c.in-Sent.next c.args.waiting.now.items c.push.new.self.items
    (rw c.in-Sent.is at c.in_ok-put_standing.ensures) c.in_ok-push-in-Sent.ensures.items
