-- A run leaves a state exactly where neither 17 nor 1 to 10 refuse.
use Prim.Native.Nat.{ℕ, suc, ◌+◌, ◌*◌, ◌/◌, ◌%◌, ◌≤◌, ◌<◌}
use mathlib.Core.Path.{◌≡◌, refl, ap₂, ◌∙◌}
use mathlib.Core.Bool.{Bool, true, false, ◌&&◌}
use mathlib.Core.List.{List, [], ◌∷◌, ◌++◌}
use native.Mathlib.Omega.{arith}
use lib.Dec.{eqb, leb}
use lib.ListN.{length, get_or, set, length-set}
use lib.Seq.{sets, get_or-set_same, get_or-set_other}
use Rattle.format.specs.Words.{word_at, bytes_of}
use Rattle.choices.specs.Choices.{Ran, ran_of}
use Rattle.steps.specs.Beside.{made_words}
use Rattle.running.specs.Run.{thread_words, ran_words, listed, unready, running, run_over}
use Rattle.run.specs.State.{has_state}

-- a run of stores leaves what is before it
sets_before : (vs l : List ℕ) (i j : ℕ) → j < i → get_or (sets l i vs) j 0 ≡ get_or l j 0
sets_before [] l i j h = refl
sets_before (v ∷ vs) l i j h = sets_before vs (set l i v) (suc i) j (omega (arith, h)) ∙ get_or-set_other l i j v 0 (λ (e : j ≡ i). omega (arith, e, h))

word_one : (a b x y : ℕ) (vs out : List ℕ) → 4 ≤ length out → word_at (sets out 0 (a ∷ b ∷ x ∷ y ∷ vs)) 1 ≡ x + 256 * y
word_one a b x y vs out room =
    let l2 : List ℕ = set (set out 0 a) 1 b in
    let l3 : List ℕ = set l2 2 x in
    let l4 : List ℕ = set l3 3 y in
    let n2 : length l2 ≡ length out = length-set (set out 0 a) 1 b ∙ length-set out 0 a in
    let n3 : length l3 ≡ length out = length-set l2 2 x ∙ n2 in
    let low : get_or (sets l4 4 vs) 2 0 ≡ x =
    sets_before vs l4 4 2 (omega arith) ∙ get_or-set_other l3 3 2 y 0 (λ (e : ◌≡◌ {A = ℕ} 2 3). omega (arith, e)) ∙ get_or-set_same l2 2 x 0 (omega (arith, n2, room)) in
    let high : get_or (sets l4 4 vs) 3 0 ≡ y = sets_before vs l4 4 3 (omega arith) ∙ get_or-set_same l3 3 y 0 (omega (arith, n3, room)) in
    ap₂ (λ (p q : ℕ). p + 256 * q) low high

-- the second word of a state is the refusal
second_word : (r : Ran) (out : List ℕ) → 4 ≤ length out → word_at (sets out 0 (bytes_of (ran_words r))) 1 ≡ r.refusal
unfolding ran_words bytes_of
second_word r out room =
    let whole : r.refusal % 256 + 256 * (r.refusal / 256) ≡ r.refusal = omega arith in
    word_one (r.count % 256) (r.count / 256) (r.refusal % 256) (r.refusal / 256)
    (bytes_of (length r.state.threads ∷ length r.state.made ∷ made_words r.state.made ++ thread_words r.state.threads)) out room ∙ whole

pub state_exactly : (f ws out : List ℕ) → 4 ≤ length out → word_at out 1 ≡ 0
    → has_state (running f ws (length out)) (run_over f ws out) ≡ eqb (unready (listed (length ws) && leb 1800 (length out)) f).number 0
unfolding running run_over
state_exactly f ws out room zeros = go (eqb (unready (listed (length ws) && leb 1800 (length out)) f).number 0) refl (eqb (ran_of f ws).refusal 0) refl
  where
    go : (b : Bool) → eqb (unready (listed (length ws) && leb 1800 (length out)) f).number 0 ≡ b → (x : Bool) → eqb (ran_of f ws).refusal 0 ≡ x
        → has_state (running f ws (length out)) (run_over f ws out) ≡ eqb (unready (listed (length ws) && leb 1800 (length out)) f).number 0
    go true e true z = rw (e, z)
    go true e false z = rw (e, z, second_word (ran_of f ws) out room, z)
    go false e x z = rw (e, zeros, e)
