-- The states of a stack, where one is taken off and where others are put on.
use Rattle.std.proofs.Common.{◌≡◌, ℕ, zero, suc, ◌+◌, ◌<◌, ◌≤◌, true, ◌&&◌, List, [], ◌∷◌, ◌++◌, length, get_or, take, map, reverse, sym, ◌∙◌, ap, ap₂, refl, arith, subst, append-nil, length-append}
use Rattle.std.proofs.lemmas.List.{reverse-append, take_all}
use Rattle.rast_cooper.specs.declared.literal.Literal.{Literal}
use Rattle.rast_cooper.specs.declared.search.Pending.{Pending}
use Rattle.rast_cooper.specs.declared.search.Frame.{Frame}
use Rattle.rast_cooper.specs.Claims.{Claim, Node, Always, Never, Atom, Every, Some_of}
use Rattle.rast_cooper.specs.Stack.{claim_value}
use Rattle.rast_cooper.specs.Frames.{chained, IsChain, Adds, member_states, frames_states, AreFrames}
use Rattle.rast_cooper.specs.Search.{State, state, step_states, apart, all_in_bounds, in_bounds}
use Rattle.rast_cooper.proofs.Terms.{and_true}
use Rattle.rast_cooper.proofs.Lists.{all_append}
use Rattle.rast_cooper.proofs.Frames.{chained_zero, chained_take, is_chain_take, chained_at, rest_within, take_take, take_front, length-take', same_frames, frames_more}

bounded_take : (ls : List Literal) (k : ℕ) → all_in_bounds ls ≡ true → all_in_bounds (take k ls) ≡ true
bounded_take ls zero h = refl
bounded_take [] (suc k) h = refl
bounded_take (l ∷ ls) (suc k) h = let g = and_true (in_bounds l) _ h in ap₂ (λ a b. a && b) g.0 (bounded_take ls k g.1)

last_frame : (gs : List Frame) (f : Frame) → reverse (gs ++ f ∷ []) ≡ f ∷ reverse gs
last_frame gs f = reverse-append gs (f ∷ [])

-- ---- the newest frame is taken off
module _ (ls ms : List Literal) (ps qs : List Pending) (fs gs : List Frame) (f : Frame) (ef : fs ≡ gs ++ f ∷ []) (el : ms ≡ take f.literals ls) (ep : qs ≡ take f.claims ps)
    (linked : IsChain (reverse ps)) (frames : AreFrames (reverse fs) (length ls) (length ps)) (bounded : all_in_bounds ls ≡ true) where
  newest : reverse fs ≡ f ∷ reverse gs
  newest = ap reverse ef ∙ last_frame gs f

  all : AreFrames (f ∷ reverse gs) (length ls) (length ps)
  all = subst (λ hs. AreFrames hs (length ls) (length ps)) newest frames

  claims_are : (k : ℕ) → k ≤ f.claims → chained ps k ≡ chained qs k
  claims_are k h = let c = all.0.claims_within in sym (ap (λ rs. chained rs k) ep ∙ chained_take ps f.claims k c h)

  literals_are : (k : ℕ) → k ≤ f.literals → take k ls ≡ take k ms
  literals_are k h = sym (ap (take k) el ∙ take_take ls k f.literals h)

  literals_all : take f.literals ls ≡ take f.literals ms
  literals_all = literals_are f.literals (omega arith)

  count_literals : length ms ≡ f.literals
  count_literals = ap length el ∙ length-take' ls f.literals all.0.literals_within

  count_claims : length qs ≡ f.claims
  count_claims = ap length ep ∙ length-take' ps f.claims all.0.claims_within

  rest_same : (rows : List Literal) → frames_states rows ls ps (reverse gs) ≡ frames_states rows ms qs (reverse gs)
  rest_same rows = same_frames rows ls ms ps qs (reverse gs) f.literals f.claims all.1 literals_are claims_are

  pub dropped_linked : IsChain (reverse qs)
  dropped_linked = subst (λ rs. IsChain (reverse rs)) (sym ep) (is_chain_take ps f.claims linked)

  pub dropped_frames : AreFrames (reverse gs) (length ms) (length qs)
  dropped_frames = frames_more (reverse gs) f.literals (length ms) f.claims (length qs) (let e = count_literals in omega (arith, e)) (let e = count_claims in omega (arith, e)) all.1

  pub dropped_bounded : all_in_bounds ms ≡ true
  dropped_bounded = ap all_in_bounds el ∙ bounded_take ls f.literals bounded

  pub dropped_states : f.members ≡ 0 → (rows : List Literal) → frames_states rows ls ps (reverse fs) ≡ frames_states rows ms qs (reverse gs)
  dropped_states e rows =
      ap (frames_states rows ls ps) newest
      ∙ ap (λ ds. member_states ds (chained ps f.pending) (take f.literals ls) rows ++ frames_states rows ls ps (reverse gs)) (ap (chained ps) e ∙ chained_zero ps)
      ∙ rest_same rows

  pub member_low : (i : ℕ) → f.members ≡ i + 1 → i < length qs
  member_low i e = let a = all.0.members_within in let b = count_claims in omega (arith, a, b, e)

  -- its first member's state
  module _ (i : ℕ) (p : Pending) (em : f.members ≡ i + 1) (h : i < length qs) (e : p ≡ get_or qs i p) (rs : List Pending) (n : ℕ) (adds : Adds qs rs (claim_value p.claim ∷ []) f.pending n)
      (hs : List Frame) (g : Frame) (eg : g ≡ record { members = p.rest; pending = f.pending; literals = f.literals; claims = f.claims }) (eh : hs ≡ gs ++ g ∷ []) where
    next : Frame
    next = record { members = p.rest; pending = f.pending; literals = f.literals; claims = f.claims }

    rest_low : p.rest ≤ i
    rest_low = rest_within qs i p h e dropped_linked

    pending_low : f.pending ≤ length qs
    pending_low = let a = all.0.pending_within in let b = count_claims in omega (arith, a, b)

    newest_after : reverse hs ≡ record { members = p.rest; pending = f.pending; literals = f.literals; claims = f.claims } ∷ reverse gs
    newest_after = ap reverse eh ∙ last_frame gs g ∙ ap (λ (k : Frame). k ∷ reverse gs) eg

    members_are : chained ps f.members ≡ claim_value p.claim ∷ chained qs p.rest
    members_are = claims_are f.members all.0.members_within ∙ ap (chained qs) em ∙ chained_at qs i p h e dropped_linked

    pending_are : chained ps f.pending ≡ chained qs f.pending
    pending_are = claims_are f.pending all.0.pending_within

    take_ms : take f.literals ms ≡ ms
    take_ms = take_all f.literals ms (let c = count_literals in omega (arith, c))

    after_frame : (rows : List Literal) → member_states (chained qs p.rest) (chained qs f.pending) ms rows ≡ member_states (chained rs p.rest) (chained rs f.pending) (take f.literals ms) rows
    after_frame rows =
        ap₂ (λ ds cs. member_states ds cs ms rows) (sym (adds.others p.rest (let a = rest_low in omega (arith, a)))) (sym (adds.others f.pending pending_low))
        ∙ ap (λ t. member_states (chained rs p.rest) (chained rs f.pending) t rows) (sym take_ms)

    after_rest : (rows : List Literal) → frames_states rows ms qs (reverse gs) ≡ frames_states rows ms rs (reverse gs)
    after_rest rows = same_frames rows ms ms qs rs (reverse gs) (length ms) (length qs) dropped_frames (λ k a. refl) (λ k a. sym (adds.others k a))

    pub taken_states : (rows : List Literal) → frames_states rows ls ps (reverse fs) ≡ state (chained rs n) ms rows ∷ frames_states rows ms rs (reverse hs)
    taken_states rows =
        ap (frames_states rows ls ps) newest
        ∙ ap₂ (λ ds cs. member_states ds cs (take f.literals ls) rows ++ frames_states rows ls ps (reverse gs)) members_are pending_are
        ∙ ap₂ (λ t u. (state (claim_value p.claim ∷ chained qs f.pending) t rows ∷ member_states (chained qs p.rest) (chained qs f.pending) t rows) ++ u) (literals_all ∙ take_ms) (rest_same rows)
        ∙ ap₂ (λ cs t. state cs ms rows ∷ t) (sym adds.here) (ap₂ (λ t u. t ++ u) (after_frame rows) (after_rest rows) ∙ ap (frames_states rows ms rs) (sym newest_after))

    pub taken_frames : AreFrames (reverse hs) (length ms) (length rs)
    taken_frames =
        let a = rest_low in let b = count_claims in let c = count_literals in let d = adds.longer in let o = all.0.pending_within in
        subst (λ ks. AreFrames ks (length ms) (length rs)) (sym newest_after) (
          record { literals_within = omega (arith, c); claims_within = omega (arith, b, d); members_within = omega (arith, a, b, h); pending_within = o },
          frames_more (reverse gs) f.literals f.literals f.claims f.claims (omega arith) (omega arith) all.1,
        )

-- ---- a frame is put on
module _ (ls : List Literal) (ps qs : List Pending) (fs gs : List Frame) (ds : List Claim) (rest top : ℕ) (f : Frame) (adds : Adds ps qs ds 0 top)
    (ef : f ≡ record { members = top; pending = rest; literals = length ls; claims = length qs }) (eg : gs ≡ fs ++ f ∷ []) (low : rest ≤ length ps) (frames : AreFrames (reverse fs) (length ls) (length ps)) where
  newest_put : reverse gs ≡ record { members = top; pending = rest; literals = length ls; claims = length qs } ∷ reverse fs
  newest_put = ap reverse eg ∙ last_frame fs f ∙ ap (λ (k : Frame). k ∷ reverse fs) ef

  top_are : chained qs top ≡ ds
  top_are = adds.here ∙ ap (λ t. ds ++ t) (chained_zero ps) ∙ append-nil ds

  pub put_states : (rows : List Literal) → frames_states rows ls qs (reverse gs) ≡ member_states ds (chained ps rest) ls rows ++ frames_states rows ls ps (reverse fs)
  put_states rows =
      ap (frames_states rows ls qs) newest_put
      ∙ ap₂ (λ t u. t ++ u)
      (ap₂ (λ es cs. member_states es cs (take (length ls) ls) rows) top_are (adds.others rest low) ∙ ap (λ t. member_states ds (chained ps rest) t rows) (take_all (length ls) ls (omega arith)))
      (same_frames rows ls ls qs ps (reverse fs) (length ls) (length ps) frames (λ k a. refl) (λ k a. adds.others k a))

  pub put_frames : AreFrames (reverse gs) (length ls) (length qs)
  put_frames = let a = adds.longer in let b = adds.within in
      subst (λ ks. AreFrames ks (length ls) (length qs)) (sym newest_put) (
        record { literals_within = omega arith; claims_within = omega arith; members_within = b; pending_within = omega (arith, a, low) },
        frames_more (reverse fs) (length ls) (length ls) (length ps) (length qs) (omega arith) a frames,
      )

-- ---- what a claim comes to
pub always_states : (n : Node) (cs : List Claim) (ls rows : List Literal) (ss : List State) → n ≡ Always → step_states (apart n cs ls rows) ++ ss ≡ state cs ls rows ∷ ss
always_states n cs ls rows ss e = ap (λ m. step_states (apart m cs ls rows) ++ ss) e

pub never_states : (n : Node) (cs : List Claim) (ls rows : List Literal) (ss : List State) → n ≡ Never → step_states (apart n cs ls rows) ++ ss ≡ ss
never_states n cs ls rows ss e = ap (λ m. step_states (apart m cs ls rows) ++ ss) e

pub atom_states : (n : Node) (lit : Literal) (cs : List Claim) (ls rows : List Literal) (ss : List State) → n ≡ Atom lit → step_states (apart n cs ls rows) ++ ss ≡ state cs (ls ++ lit ∷ []) rows ∷ ss
atom_states n lit cs ls rows ss e = ap (λ m. step_states (apart m cs ls rows) ++ ss) e

pub every_states : (n : Node) (ds cs : List Claim) (ls rows : List Literal) (ss : List State) → n ≡ Every ds → step_states (apart n cs ls rows) ++ ss ≡ state (ds ++ cs) ls rows ∷ ss
every_states n ds cs ls rows ss e = ap (λ m. step_states (apart m cs ls rows) ++ ss) e

members_map : (ds cs : List Claim) (ls rows : List Literal) → map (λ d. state (d ∷ cs) ls rows) ds ≡ member_states ds cs ls rows
members_map [] cs ls rows = refl
members_map (d ∷ ds) cs ls rows = ap (λ t. state (d ∷ cs) ls rows ∷ t) (members_map ds cs ls rows)

pub some_states : (n : Node) (ds cs : List Claim) (ls rows : List Literal) (ss : List State) → n ≡ Some_of ds → step_states (apart n cs ls rows) ++ ss ≡ member_states ds cs ls rows ++ ss
some_states n ds cs ls rows ss e = ap (λ m. step_states (apart m cs ls rows) ++ ss) e ∙ ap (λ t. t ++ ss) (members_map ds cs ls rows)

-- ---- more literals, and more claims, under the same frames
pub with_literal : (rows ls ms : List Literal) (ps : List Pending) (fs : List Frame) → AreFrames fs (length ls) (length ps) → frames_states rows ls ps fs ≡ frames_states rows (ls ++ ms) ps fs
with_literal rows ls ms ps fs a = same_frames rows ls (ls ++ ms) ps ps fs (length ls) (length ps) a (λ k h. sym (take_front ls ms k h)) (λ k h. refl)

pub frames_literal : (ls : List Literal) (lit : Literal) (ps : List Pending) (fs : List Frame) → AreFrames fs (length ls) (length ps) → AreFrames fs (length (ls ++ lit ∷ [])) (length ps)
frames_literal ls lit ps fs a = let l = length-append ls (lit ∷ []) in frames_more fs (length ls) (length (ls ++ lit ∷ [])) (length ps) (length ps) (omega (arith, l)) (omega arith) a

pub bounded_literal : (ls : List Literal) (lit : Literal) → all_in_bounds ls ≡ true → in_bounds lit ≡ true → all_in_bounds (ls ++ lit ∷ []) ≡ true
bounded_literal ls lit h e = all_append ls (lit ∷ []) ∙ ap₂ (λ a b. a && (b && true)) h e

pub with_claims : (rows ls : List Literal) (ps qs : List Pending) (fs : List Frame) (ds : List Claim) (rest n : ℕ) → Adds ps qs ds rest n → AreFrames fs (length ls) (length ps) → frames_states rows ls ps fs ≡ frames_states rows ls qs fs
with_claims rows ls ps qs fs ds rest n adds a = same_frames rows ls ls ps qs fs (length ls) (length ps) a (λ k h. refl) (λ k h. sym (adds.others k h))

pub frames_claims : (ls : List Literal) (ps qs : List Pending) (fs : List Frame) (ds : List Claim) (rest n : ℕ) → Adds ps qs ds rest n → AreFrames fs (length ls) (length ps) → AreFrames fs (length ls) (length qs)
frames_claims ls ps qs fs ds rest n adds a = frames_more fs (length ls) (length ls) (length ps) (length qs) (omega arith) adds.longer a
