-- Claims that are kept, and the frames over them.
use Rattle.std.proofs.Common.{◌≡◌, ℕ, zero, suc, ◌+◌, ◌<◌, ◌≤◌, List, [], ◌∷◌, ◌++◌, length, get_or, take, drop, reverse, sym, ◌∙◌, ap, ap₂, refl, arith, subst, cond, append_assoc, length-append}
use Rattle.std.proofs.lemmas.List.{reverse-append, length-reverse, take-append-drop}
use Rattle.std.proofs.Math.Seq.{take-suc}
use Rattle.rast_cooper.specs.declared.literal.Literal.{Literal}
use Rattle.rast_cooper.specs.declared.search.Pending.{Pending}
use Rattle.rast_cooper.specs.declared.search.Frame.{Frame}
use Rattle.rast_cooper.specs.Claims.{Claim}
use Rattle.rast_cooper.specs.Stack.{claim_value}
use Rattle.rast_cooper.specs.Frames.{chain, chained, IsChain, Adds, member_states, frame_states, frames_states, AreFrames}
use Rattle.rast_cooper.specs.Search.{state}
use Rattle.rast_cooper.proofs.Test.{unequal, equal}

-- ---- chains, the newest first
chain_more : (ms ps : List Pending) (n : ℕ) → n ≤ length ps → chain (ms ++ ps) n ≡ chain ps n
chain_more [] ps n h = refl
chain_more (m ∷ ms) ps n h =
    let l = length-append ms ps in
    ap (λ b. cond b (claim_value m.claim ∷ chain (ms ++ ps) m.rest) (chain (ms ++ ps) n)) (unequal n (suc (length (ms ++ ps))) (λ e. omega (arith, e, l))) ∙ chain_more ms ps n h

chain_first : (p : Pending) (ps : List Pending) → chain (p ∷ ps) (suc (length ps)) ≡ claim_value p.claim ∷ chain ps p.rest
chain_first p ps = ap (λ b. cond b (claim_value p.claim ∷ chain ps p.rest) (chain ps (suc (length ps)))) (equal (suc (length ps)))

is_chain_more : (ms ps : List Pending) → IsChain (ms ++ ps) → IsChain ps
is_chain_more [] ps h = h
is_chain_more (m ∷ ms) ps h = is_chain_more ms ps h.1

-- ---- the oldest first
pushed : (ps : List Pending) (p : Pending) → reverse (ps ++ p ∷ []) ≡ p ∷ reverse ps
pushed ps p = reverse-append ps (p ∷ [])

cut : (ps : List Pending) (k : ℕ) → reverse ps ≡ reverse (drop k ps) ++ reverse (take k ps)
cut ps k = ap reverse (sym (take-append-drop k ps)) ∙ reverse-append (take k ps) (drop k ps)

pub length-take' : {A : Type 0} (ps : List A) (k : ℕ) → k ≤ length ps → length (take k ps) ≡ k
length-take' ps zero h = refl
length-take' [] (suc k) h = absurd (omega arith)
length-take' (p ∷ ps) (suc k) h = let r = length-take' ps k (omega arith) in omega (arith, r)

pub chained_zero : (ps : List Pending) → chained ps 0 ≡ []
chained_zero ps = go (reverse ps)
  where
    go : (qs : List Pending) → chain qs 0 ≡ []
    go [] = refl
    go (q ∷ qs) = ap (λ b. cond b (claim_value q.claim ∷ chain qs q.rest) (chain qs 0)) (unequal 0 (suc (length qs)) (λ e. omega (arith, e))) ∙ go qs

pub chained_take : (ps : List Pending) (k n : ℕ) → k ≤ length ps → n ≤ k → chained (take k ps) n ≡ chained ps n
chained_take ps k n h l =
    let e = length-reverse (take k ps) in let f = length-take' ps k h in
    sym (ap (λ qs. chain qs n) (cut ps k) ∙ chain_more (reverse (drop k ps)) (reverse (take k ps)) n (omega (arith, e, f)))

pub is_chain_take : (ps : List Pending) (k : ℕ) → IsChain (reverse ps) → IsChain (reverse (take k ps))
is_chain_take ps k h = is_chain_more (reverse (drop k ps)) (reverse (take k ps)) (subst IsChain (cut ps k) h)

chained_push : (ps : List Pending) (p : Pending) (n : ℕ) → n ≤ length ps → chained (ps ++ p ∷ []) n ≡ chained ps n
chained_push ps p n h =
    let e = length-reverse ps in
    ap (λ qs. chain qs n) (pushed ps p) ∙ chain_more (p ∷ []) (reverse ps) n (omega (arith, e))

chained_new : (ps : List Pending) (p : Pending) → chained (ps ++ p ∷ []) (length ps + 1) ≡ claim_value p.claim ∷ chained ps p.rest
chained_new ps p =
    let e : length ps + 1 ≡ suc (length (reverse ps)) = let l = length-reverse ps in omega (arith, l) in
    ap₂ (λ qs n. chain qs n) (pushed ps p) e ∙ chain_first p (reverse ps)

-- one claim more
pub adds_one : (ps : List Pending) (p : Pending) → p.rest ≤ length ps → Adds ps (ps ++ p ∷ []) (claim_value p.claim ∷ []) p.rest (length ps + 1)
adds_one ps p h =
    let l = length-append ps (p ∷ []) in
    let e = length-reverse ps in
    record {
      here = chained_new ps p;
      others = λ m k. chained_push ps p m k;
      linked = λ c. subst IsChain (sym (pushed ps p)) (omega (arith, e), c);
      within = omega (arith, l);
      longer = omega (arith, l);
    }

pub adds_none : (ps : List Pending) (n : ℕ) → n ≤ length ps → Adds ps ps [] n n
adds_none ps n h = record { here = refl; others = λ m k. refl; linked = λ c. c; within = h; longer = omega arith }

pub adds_then : (ps qs rs : List Pending) (cs ds : List Claim) (rest m n : ℕ) → rest ≤ length ps → Adds ps qs ds rest m → Adds qs rs cs m n → Adds ps rs (cs ++ ds) rest n
adds_then ps qs rs cs ds rest m n h a b =
    let l = a.longer in let k = b.longer in
    record {
      here = b.here ∙ ap (λ t. cs ++ t) a.here ∙ sym (append_assoc cs ds (chained ps rest));
      others = λ i j. b.others i (omega (arith, l, j)) ∙ a.others i j;
      linked = λ c. b.linked (a.linked c);
      within = b.within;
      longer = omega (arith, l, k);
    }

-- the claim at a place
rest_of : (ps : List Pending) (i : ℕ) (p : Pending) → i < length ps → p ≡ get_or ps i p → take (suc i) ps ≡ take i ps ++ p ∷ []
rest_of ps i p h e = take-suc ps i p h ∙ ap (λ (q : Pending). take i ps ++ q ∷ []) (sym e)

pub rest_within : (ps : List Pending) (i : ℕ) (p : Pending) → i < length ps → p ≡ get_or ps i p → IsChain (reverse ps) → p.rest ≤ i
rest_within ps i p h e c =
    let g = subst IsChain (ap reverse (rest_of ps i p h e) ∙ pushed (take i ps) p) (is_chain_take ps (suc i) c) in
    let l = length-reverse (take i ps) in let k = length-take' ps i (omega arith) in
    let m = g.0 in omega (arith, m, l, k)

pub chained_at : (ps : List Pending) (i : ℕ) (p : Pending) → i < length ps → p ≡ get_or ps i p → IsChain (reverse ps) → chained ps (i + 1) ≡ claim_value p.claim ∷ chained ps p.rest
chained_at ps i p h e c =
    let k = length-take' ps i (omega arith) in
    let r = rest_within ps i p h e c in
    let same : i + 1 ≡ length (take i ps) + 1 = omega (arith, k) in
    sym (chained_take ps (suc i) (i + 1) (omega arith) (omega arith))
    ∙ ap₂ (λ qs n. chained qs n) (rest_of ps i p h e) same
    ∙ chained_new (take i ps) p
    ∙ ap (λ t. claim_value p.claim ∷ t) (chained_take ps i p.rest (omega arith) r)

-- ---- frames
pub take_take : (ls : List Literal) (m n : ℕ) → m ≤ n → take m (take n ls) ≡ take m ls
take_take ls zero n h = refl
take_take [] (suc m) zero h = absurd (omega arith)
take_take (l ∷ ls) (suc m) zero h = absurd (omega arith)
take_take [] (suc m) (suc n) h = refl
take_take (l ∷ ls) (suc m) (suc n) h = ap (λ t. l ∷ t) (take_take ls m n (omega arith))

pub take_front : (ls ms : List Literal) (n : ℕ) → n ≤ length ls → take n (ls ++ ms) ≡ take n ls
take_front ls ms zero h = refl
take_front [] ms (suc n) h = absurd (omega arith)
take_front (l ∷ ls) ms (suc n) h = ap (λ t. l ∷ t) (take_front ls ms n (omega arith))

same_frame : (rows ls ms : List Literal) (ps qs : List Pending) (f : Frame) → take f.literals ls ≡ take f.literals ms → chained ps f.members ≡ chained qs f.members → chained ps f.pending ≡ chained qs f.pending →
    frame_states rows ls ps f ≡ frame_states rows ms qs f
same_frame rows ls ms ps qs f e g h = ap₂ (λ ds cs. member_states ds cs (take f.literals ls) rows) g h ∙ ap (λ t. member_states (chained qs f.members) (chained qs f.pending) t rows) e

-- literals and claims that are as they were as far as the frames go
pub same_frames : (rows ls ms : List Literal) (ps qs : List Pending) (fs : List Frame) (l n : ℕ) → AreFrames fs l n →
    ((k : ℕ) → k ≤ l → take k ls ≡ take k ms) → ((k : ℕ) → k ≤ n → chained ps k ≡ chained qs k) → frames_states rows ls ps fs ≡ frames_states rows ms qs fs
same_frames rows ls ms ps qs [] l n a f g = refl
same_frames rows ls ms ps qs (h ∷ fs) l n a f g =
    let b = a.0 in let u = b.literals_within in let v = b.claims_within in let w = b.members_within in let x = b.pending_within in
    ap₂ (λ ss ts. ss ++ ts) (same_frame rows ls ms ps qs h (f h.literals u) (g h.members (omega (arith, v, w))) (g h.pending (omega (arith, v, x))))
    (same_frames rows ls ms ps qs fs h.literals h.claims a.1 (λ k i. f k (omega (arith, u, i))) (λ k i. g k (omega (arith, v, i))))

pub frames_more : (fs : List Frame) (l m n k : ℕ) → l ≤ m → n ≤ k → AreFrames fs l n → AreFrames fs m k
frames_more [] l m n k h i a = tt
frames_more (f ∷ fs) l m n k h i a =
    let b = a.0 in let u = b.literals_within in let v = b.claims_within in
    (record { literals_within = omega (arith, u); claims_within = omega (arith, v); members_within = b.members_within; pending_within = b.pending_within }, a.1)

pub members_append : (ds es cs : List Claim) (ls rows : List Literal) → member_states (ds ++ es) cs ls rows ≡ member_states ds cs ls rows ++ member_states es cs ls rows
members_append [] es cs ls rows = refl
members_append (d ∷ ds) es cs ls rows = ap (λ t. state (d ∷ cs) ls rows ∷ t) (members_append ds es cs ls rows)
