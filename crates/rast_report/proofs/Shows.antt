-- What a process shows, by what is answered of it.
use Rattle.std.proofs.Common.{◌≡◌, Bool, true, false, refl, sym, ap, ◌∙◌, codes}
use Rattle.rast_core.specs.Words.{Link}
use Rattle.rast_items.specs.Links.{same_link}
use Rattle.rast_items.specs.Step.{Next as Does, Ready, Waits, Halted, Ended, Stuck}
use Rattle.rast_core.specs.Promises.{Tells}
use Rattle.rast_core.specs.declared.answer.Next.{Next}
use Rattle.rast_core.specs.declared.answer.Next.TheVariants as answer
use Rattle.rast_report.specs.Values.{is_waiting, process_text}
use Rattle.rast_core.specs.Shown.{Shown, next_of}
use Rattle.rast_core.specs.Words.{Proc, Pid}
use Rattle.rast_terms.specs.declared.program.Program.{Program}
use Rattle.std.proofs.Common.{if◌then◌else◌, subst}

-- it waits on this link
pub waits_on : (d : Does) (own l : Link) → Tells d (answer.Waits l) → is_waiting own d ≡ same_link l own
waits_on (Ready e is) own l h = let none : ⊥ = cc in absurd none
waits_on (Waits k) own l h = let e : k ≡ l = cc in ap (λ (x : Link). same_link x own) e
waits_on (Halted v) own l h = let none : ⊥ = cc in absurd none
waits_on Ended own l h = let none : ⊥ = cc in absurd none
waits_on Stuck own l h = absurd h

-- whether an answer is that the process waits
abbrev pub says_waits : Next → Bool
says_waits (answer.Ready e) = false
says_waits (answer.Waits l) = true
says_waits (answer.Halted v) = false
says_waits answer.Ended = false

-- it doesn't wait
pub not_waits : (d : Does) (own : Link) (r : Next) → Tells d r → says_waits r ≡ false → is_waiting own d ≡ false
not_waits (Ready e is) own r h n = refl
not_waits (Waits k) own r h n = let e : says_waits r ≡ true = ap says_waits h in let none : ⊥ = cc in absurd none
not_waits (Halted v) own r h n = refl
not_waits Ended own r h n = refl
not_waits Stuck own r h n = absurd h

pub process_waits : (g : Program) (v : Shown) (p : Proc) (pid : Pid) (l : Link) (b : Bool) → pid ≡ p.pid → Tells (next_of g v pid) (answer.Waits l) → same_link l p.own ≡ b →
    (if b then codes "wait" else codes "...") ≡ process_text g v p
process_waits g v p pid l b k h e =
    let t : Tells (next_of g v p.pid) (answer.Waits l) = subst (λ (x : Pid). Tells (next_of g v x) (answer.Waits l)) k h in
    ap (λ (x : Bool). if x then codes "wait" else codes "...") (sym e ∙ sym (waits_on (next_of g v p.pid) p.own l t))

pub process_goes : (g : Program) (v : Shown) (p : Proc) (pid : Pid) (r : Next) → pid ≡ p.pid → Tells (next_of g v pid) r → says_waits r ≡ false → codes "..." ≡ process_text g v p
process_goes g v p pid r k h e =
    let t : Tells (next_of g v p.pid) r = subst (λ (x : Pid). Tells (next_of g v x) r) k h in
    ap (λ (x : Bool). if x then codes "wait" else codes "...") (sym (not_waits (next_of g v p.pid) p.own r t e))
