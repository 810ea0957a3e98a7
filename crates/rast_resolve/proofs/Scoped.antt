-- What steps bind stands behind what is in scope before them.
use Rattle.std.proofs.Common.{◌≡◌, ℕ, false, ◌+◌, List, [], ◌∷◌, ◌++◌, length, take, sym, ◌∙◌, ap, ap₂, subst, refl, Ok, Err, IfOk, append_assoc}
use Rattle.std.proofs.lemmas.List.{append-nil, take_at}
use Rattle.rast_ast.specs.declared.process.Step.{Step}
use Rattle.rast_ast.specs.declared.process.Step.TheVariants as step
use Rattle.rast_terms.specs.declared.node.Node.{Node}
use Rattle.rast_resolve.specs.Answers.{Answer, ◌>>=◌}
use Rattle.rast_resolve.specs.Scopes.{Text, Texts, Known}
use Rattle.rast_resolve.specs.Written.{linear_of}
use Rattle.rast_resolve.specs.Bodies.{Place, step_of, steps_of, channel_of, refs_of, callee_of, with_channel, with_variable}

pub record Extends (p q : Place) : Type 0 where
  pub vars : Texts
  pub channels : Texts
  pub more_vars : q.vars ≡ p.vars ++ vars
  pub more_channels : q.channels ≡ p.channels ++ channels

as_it_is : (p : Place) → Extends p p
as_it_is p = record { vars = []; channels = []; more_vars = sym (append-nil p.vars); more_channels = sym (append-nil p.channels) }

one_channel : (n : Text) (p : Place) → Extends p (with_channel n p)
one_channel n p = record { vars = []; channels = n ∷ []; more_vars = sym (append-nil p.vars); more_channels = refl }

one_variable : (n : Text) (p : Place) → Extends p (with_variable n p)
one_variable n p = record { vars = n ∷ []; channels = []; more_vars = refl; more_channels = sym (append-nil p.channels) }

then_more : (p q r : Place) → Extends p q → Extends q r → Extends p r
then_more p q r e f = record {
  vars = e.vars ++ f.vars;
  channels = e.channels ++ f.channels;
  more_vars = f.more_vars ∙ ap (λ z. z ++ f.vars) e.more_vars ∙ append_assoc p.vars e.vars f.vars;
  more_channels = f.more_channels ∙ ap (λ z. z ++ f.channels) e.more_channels ∙ append_assoc p.channels e.channels f.channels;
}

-- where there is an answer, its place extends this one
abbrev Keeps : {X : Type 0} → Place → Answer (X × Place) → Type 0
Keeps p a = IfOk a (λ t. Extends p t.1)

next : {X Y : Type 0} (p : Place) (a : Answer Y) (k : Y → Answer (X × Place)) → ((y : Y) → Keeps p (k y)) → Keeps p (a >>= k)
next p (Ok y) k h = h y
next p (Err e) k h = tt

module _ (known : Known) (item : Text) where
  step_keeps : (p : Place) (n : ℕ) (s : Step) → Keeps p (step_of known item p n s)
  step_keeps p n (step.Label x l) = next p (channel_of p.channels x) _ (λ c. as_it_is p)
  step_keeps p n (step.Send x w by) = next p (channel_of p.channels x) _ (λ c. next p (channel_of p.channels w) _ (λ d. next p (refs_of item p.vars by) _ (λ rs. as_it_is p)))
  step_keeps p n (step.Index x e) = next p (channel_of p.channels x) _ (λ c. next p (linear_of item false p.vars e) _ (λ l. as_it_is p))
  step_keeps p n (step.Recv y x) = next p (channel_of p.channels x) _ (λ c. one_channel y p)
  step_keeps p n (step.Bind v x) = next p (channel_of p.channels x) _ (λ c. one_variable v p)
  step_keeps p n (step.Wait x) = next p (channel_of p.channels x) _ (λ c. as_it_is p)
  step_keeps p n (step.Spawn y f es ys by) = next p (callee_of known item p f es ys by) _ (λ k. one_channel y p)
  step_keeps p n (step.Work r) = next p (linear_of item false p.vars r) _ (λ l. as_it_is p)
  step_keeps p n (step.Delay t) = next p (linear_of item false p.vars t) _ (λ l. as_it_is p)
  step_keeps p n (step.Assert x) = next p (channel_of p.channels x) _ (λ c. as_it_is p)
  step_keeps p n (step.Assume x) = next p (channel_of p.channels x) _ (λ c. as_it_is p)
  step_keeps p n (step.Pay x) = next p (channel_of p.channels x) _ (λ c. as_it_is p)
  step_keeps p n (step.Get x) = next p (channel_of p.channels x) _ (λ c. as_it_is p)

  steps_keep : (p : Place) (n : ℕ) (ss : List Step) → Keeps p (steps_of known item ss p n)
  steps_keep p n [] = as_it_is p
  steps_keep p n (s ∷ ss) = both (step_of known item p (n + 1) s) (step_keeps p (n + 1) s) (λ q. steps_of known item ss q (n + 1)) (λ q. steps_keep q (n + 1) ss)
    where
      both : (a : Answer (Node × Place)) → Keeps p a → (f : Place → Answer (List Node × Place)) → ((q : Place) → Keeps q (f q)) → Keeps p (a >>= λ t. f t.1 >>= λ r. Ok (t.0 ∷ r.0, r.1))
      both (Ok t) e f h = further (f t.1) (h t.1)
        where
          further : (b : Answer (List Node × Place)) → Keeps t.1 b → Keeps p (b >>= λ r. Ok (t.0 ∷ r.0, r.1))
          further (Ok r) g = then_more p t.1 r.1 e g
          further (Err g) h = tt
      both (Err g) e f h = tt

  -- what is in scope before the steps is the beginning of what is in scope after them
  pub vars_before : (p q : Place) (n k : ℕ) (ss : List Step) (ns : List Node) (vs : Texts) → steps_of known item ss p n ≡ Ok (ns, q) → k ≡ length p.vars → vs ≡ take k q.vars → vs ≡ p.vars
  vars_before p q n k ss ns vs is l e =
      let x : Extends p q = subst (λ a. Keeps p a) is (steps_keep p n ss) in
      e ∙ ap (take k) x.more_vars ∙ take_at p.vars x.vars k (sym l)

  pub channels_before : (p q : Place) (n k : ℕ) (ss : List Step) (ns : List Node) (vs : Texts) → steps_of known item ss p n ≡ Ok (ns, q) → k ≡ length p.channels → vs ≡ take k q.channels → vs ≡ p.channels
  channels_before p q n k ss ns vs is l e =
      let x : Extends p q = subst (λ a. Keeps p a) is (steps_keep p n ss) in
      e ∙ ap (take k) x.more_channels ∙ take_at p.channels x.channels k (sym l)

  -- the place before the steps is what is left of the place after them
  pub place_back : (p q q' : Place) (n k l : ℕ) (ss : List Step) (ns : List Node) (vs cs : Texts) → steps_of known item ss p n ≡ Ok (ns, q) → q' ≡ q → k ≡ length p.vars → l ≡ length p.channels → vs ≡ take k q'.vars → cs ≡ take l q'.channels →
      ◌≡◌ {A = Place} (record { vars = vs; channels = cs }) p
  place_back p q q' n k l ss ns vs cs is kept many more left right =
      ap₂ (λ (v c : Texts). record { vars = v; channels = c })
      (vars_before p q n k ss ns vs is many (left ∙ ap (λ z. take k z.vars) kept)) (channels_before p q n l ss ns cs is more (right ∙ ap (λ z. take l z.channels) kept))
