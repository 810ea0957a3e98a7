use Rattle.rast_decide.proofs.text.decide_form.Goals as goal

pub returns : goal.returns
returns c = record {
  subject = c.in-Ok.numbered;
  stands = c.in-Ok.ensures.gives;
  exact = rw c.len.ensures at c.in_ok-verdict.ensures.exact;
  tells = rw c.len.ensures at c.in_ok-verdict.ensures.tells;
  line_is = rw c.as_slice.ensures at c.in_ok-judgement.ensures;
}
