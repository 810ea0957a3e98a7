-- Each process of a program that may be run does what fits, and so every run of it is sound.
use Rattle.std.proofs.Common.{ℕ, false, List, Option, sym, subst}
use Rattle.std.specs.Prelude.{slice_index_or as get_or}
use Rattle.rast_index.specs.Linear.{nought}
use Rattle.rast_types.specs.Closed.{View}
use Rattle.rast_terms.specs.declared.node.Node.{Node}
use Rattle.rast_terms.specs.declared.node.Node.TheVariants as node
use Rattle.rast_rules.specs.declared.judgement.Judgement.{Judgement}
use Rattle.rast_items.specs.Deeds.{Code, act, act_at}
use Rattle.rast_items.specs.Run.{State, IsRun}
use Rattle.rast_items.specs.declared.event.Event.{Event}
use Rattle.rast_laws.specs.Sound.{IsReady, IsSound}
use Rattle.rast_order.proofs.Words.{Link, Proc}
use Rattle.rast_laws.proofs.Lawful.{DeedFine, DeedLaw}
use Rattle.rast_laws.proofs.Theorem.{sound_of}
use Rattle.rast_laws.proofs.Standing.{Standing, standing}
use Rattle.rast_laws.proofs.TakingCase.{case_fine}
use Rattle.rast_laws.proofs.TakingChannel.{recv_fine, wait_fine}
use Rattle.rast_laws.proofs.TakingTruth.{assume_fine, get_fine}
use Rattle.rast_laws.proofs.TakingNatural.{bind_fine}
use Rattle.rast_laws.proofs.PuttingLabel.{label_fine}
use Rattle.rast_laws.proofs.PuttingTruth.{assert_fine, pay_fine}
use Rattle.rast_laws.proofs.PuttingNatural.{index_fine}
use Rattle.rast_laws.proofs.PuttingChannel.{send_fine, close_fine}
use Rattle.rast_laws.proofs.Works.{impossible_fine, work_fine}
use Rattle.rast_laws.proofs.Delays.{delay_fine}
use Rattle.rast_laws.proofs.Forwarding.{forward_fine}
use Rattle.rast_laws.proofs.Calling.{spawn_fine, call_fine}
use Rattle.rast_laws.proofs.Callee.{main_law}

-- a process at its node, by the kind of the node
act_fine : (c : Code) → IsReady c → (d : Link → Option View) (k : ℕ) (p : Proc) (j : Judgement) (nd : Node) → Standing c.program d p j nd → DeedFine c d p (act c.program (get_or c.paid p.node nought) (get_or c.positive p.node false) k p nd)
act_fine c r d k p j (node.Label x l n) s = label_fine c d p j x l n s
act_fine c r d k p j (node.Case x bs) s = case_fine c d p j x bs s
act_fine c r d k p j (node.Send x w rs n) s = send_fine c r d p j x w rs n s
act_fine c r d k p j (node.Recv x y n) s = recv_fine c d p j x y n s
act_fine c r d k p j (node.Index x e n) s = index_fine c d p j x e n s
act_fine c r d k p j (node.Bind x v n) s = bind_fine c d p j x v n s
act_fine c r d k p j (node.Assert x n) s = assert_fine c d p j x n s
act_fine c r d k p j (node.Assume x n) s = assume_fine c d p j x n s
act_fine c r d k p j (node.Pay x n) s = pay_fine c r d p j x n s
act_fine c r d k p j (node.Get x n) s = get_fine c d p j x n s
act_fine c r d k p j (node.Close x) s = close_fine c d p j x s
act_fine c r d k p j (node.Wait x n) s = wait_fine c d p j x n s
act_fine c r d k p j (node.Forward x y rs) s = forward_fine c r d (get_or c.paid p.node nought) k p j x y rs s
act_fine c r d k p j (node.Spawn v kd es ys rs n) s = spawn_fine c r d (get_or c.paid p.node nought) (get_or c.positive p.node false) k p j v kd es ys rs n s
act_fine c r d k p j (node.Call x kd es ys rs) s = call_fine c r d (get_or c.paid p.node nought) (get_or c.positive p.node false) k p j x kd es ys rs s
act_fine c r d k p j node.Impossible s = impossible_fine c d (get_or c.paid p.node nought) (get_or c.positive p.node false) k p j s
act_fine c r d k p j (node.Work q n) s = work_fine c d (get_or c.paid p.node nought) (get_or c.positive p.node false) k p j q n s
act_fine c r d k p j (node.Delay t n) s = delay_fine c d (get_or c.paid p.node nought) (get_or c.positive p.node false) k p j t n s

pub deed_law : (c : Code) → IsReady c → DeedLaw c
deed_law c r = λ d k p f.
    let s = standing c r d p f in
    subst (λ o. DeedFine c d p (act_at c k p o)) (sym s.1.is) (act_fine c r d k p f.0 s.0 s.1)

pub ready_sound : (c : Code) (es : List Event) (st : State) → IsReady c → IsRun c es st → IsSound c es st
ready_sound c es st r run = sound_of c (deed_law c r) (main_law c r) es st run
