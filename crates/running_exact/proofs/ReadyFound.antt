-- What the search for a ready pair finds: the lowest sender that some receiver can meet, with the lowest of these.
use Prim.Native.Nat.{ℕ, zero, suc, ◌+◌, ◌-◌, ◌<◌}
use mathlib.Core.Path.{◌≡◌, refl, sym, ap, ◌∙◌, subst}
use mathlib.Core.Logic.{◌≢◌}
use mathlib.Core.Bool.{Bool, true, false, cond}
use mathlib.Core.List.{List, [], ◌∷◌}
use native.Mathlib.Omega.{arith}
use native.Mathlib.Nat.{le_of_suc-le-suc, not-suc-le-zero}
use lib.Dec.{eqb}
use lib.ListN.{length, get_or}
use borrow.Author.Tests.{eqb-true, eqb-false}
use Rattle.steps.specs.declared.Thread.{Thread}
use Rattle.steps.specs.declared.Partner.TheVariants.{With}
use Rattle.steps.specs.Threads.{no_thread}
use Rattle.steps.specs.Choice.{Clinic, State, thread_at, acting}
use Rattle.running.specs.Run.{is_meeting, receiver_from, pair_from, ready_pair}
use Rattle.reading_exact.specs.File.{InCount}

-- the first of n tests that is true, counted from j, or 0
data First (f : ℕ → Bool) (n j p : ℕ) : Type 0 where
  none : p ≡ 0 → ((k : ℕ) → k < n → f k ≡ false) → First f n j p
  some : (k : ℕ) → p ≡ j + k → k < n → f k ≡ true → ((m : ℕ) → m < k → f m ≡ false) → First f n j p

-- the first of n numbers that is not 0, counted from i, and that number, or 0, 0
data Paired (g : ℕ → ℕ) (n i : ℕ) (q : ℕ × ℕ) : Type 0 where
  unpaired : q ≡ (0, 0) → ((k : ℕ) → k < n → g k ≡ 0) → Paired g n i q
  paired : (k : ℕ) → q ≡ (i + k, g k) → k < n → g k ≢ 0 → ((m : ℕ) → m < k → g m ≡ 0) → Paired g n i q

upto : (P : ℕ → Type 0) → (n : ℕ) → P 0 → ((k : ℕ) → k < n → P (suc k)) → (k : ℕ) → k < suc n → P k
upto P n z f zero l = z
upto P n z f (suc k) l = f k (le_of_suc-le-suc l)

first_later : (f : ℕ → Bool) (n j p : ℕ) → f 0 ≡ false → First (λ k. f (suc k)) n (suc j) p → First f (suc n) j p
first_later f n j p z (none e h) = none e (upto (λ k. f k ≡ false) n z h)
first_later f n j p z (some k e l t h) = some (suc k) (omega (arith, e)) (omega (arith, l)) t (upto (λ m. f m ≡ false) k z h)

paired_later : (g : ℕ → ℕ) (n i : ℕ) (q : ℕ × ℕ) → g 0 ≡ 0 → Paired (λ k. g (suc k)) n (suc i) q → Paired g (suc n) i q
paired_later g n i q z (unpaired e h) = unpaired e (upto (λ k. g k ≡ 0) n z h)
paired_later g n i q z (paired k e l t h) =
    let x : suc i + k ≡ i + suc k = omega arith in
    paired (suc k) (e ∙ ap (λ (y : ℕ). (y, g (suc k))) x) (omega (arith, l)) t (upto (λ m. g m ≡ 0) k z h)

module _ (C : Clinic) (s : State) where
  -- a thread at a send can meet another
  abbrev pub meets : Thread → Thread → Bool
  meets t r = is_meeting (acting C (length s.threads) s.made t (With r))

  receiver_first : (t : Thread) (j : ℕ) (rs : List Thread) → First (λ k. meets t (get_or rs k no_thread)) (length rs) j (receiver_from C s t j rs)
  unfolding receiver_from
  receiver_first t j [] = none refl (λ k l. absurd (not-suc-le-zero l))
  receiver_first t j (r ∷ rs) = go (meets t r) refl (receiver_first t (suc j) rs)
    where
      go : (b : Bool) → meets t r ≡ b → First (λ k. meets t (get_or rs k no_thread)) (length rs) (suc j) (receiver_from C s t (suc j) rs)
          → First (λ k. meets t (get_or (r ∷ rs) k no_thread)) (suc (length rs)) j (cond b j (receiver_from C s t (suc j) rs))
      go true e ih = some 0 (omega arith) (omega arith) e (λ m l. absurd (not-suc-le-zero l))
      go false e ih = first_later (λ k. meets t (get_or (r ∷ rs) k no_thread)) (length rs) j (receiver_from C s t (suc j) rs) e ih

  abbrev receiver : Thread → ℕ
  receiver t = receiver_from C s t 1 s.threads

  pair_first : (i : ℕ) (ts : List Thread) → Paired (λ k. receiver (get_or ts k no_thread)) (length ts) i (pair_from C s i ts)
  unfolding pair_from
  pair_first i [] = unpaired refl (λ k l. absurd (not-suc-le-zero l))
  pair_first i (t ∷ ts) = go (eqb (receiver t) 0) refl (pair_first (suc i) ts)
    where
      go : (b : Bool) → eqb (receiver t) 0 ≡ b → Paired (λ k. receiver (get_or ts k no_thread)) (length ts) (suc i) (pair_from C s (suc i) ts)
          → Paired (λ k. receiver (get_or (t ∷ ts) k no_thread)) (suc (length ts)) i (cond b (pair_from C s (suc i) ts) (i, receiver t))
      go true e ih = paired_later (λ k. receiver (get_or (t ∷ ts) k no_thread)) (length ts) i (pair_from C s (suc i) ts) (eqb-true (receiver t) 0 e) ih
      go false e ih =
          let x : i ≡ i + 0 = omega arith in
          paired 0 (ap (λ (y : ℕ). (y, receiver t)) x) (omega arith) (eqb-false (receiver t) 0 e) (λ m l. absurd (not-suc-le-zero l))

  -- by numbers from 1: what a thread can meet
  abbrev Counted : ℕ → Type 0
  Counted i = InCount (length s.threads) i

  data Lowest (t : Thread) (p : ℕ) : Type 0 where
    no_one : p ≡ 0 → ((r : ℕ) → Counted r → meets t (thread_at s r) ≡ false) → Lowest t p
    someone : Counted p → meets t (thread_at s p) ≡ true → ((r : ℕ) → Counted r → r < p → meets t (thread_at s r) ≡ false) → Lowest t p

  receiver_lowest : (t : Thread) → Lowest t (receiver t)
  receiver_lowest t = go (receiver t) (receiver_first t 1 s.threads)
    where
      go : (p : ℕ) → First (λ k. meets t (get_or s.threads k no_thread)) (length s.threads) 1 p → Lowest t p
      go p (none e h) = no_one e (λ r c. h (r - 1) (omega (arith, c.0, c.1)))
      go p (some k e l h f) =
          let x : k ≡ p - 1 = omega (arith, e) in
          someone (omega (arith, e), omega (arith, e, l)) (subst (λ (y : ℕ). meets t (get_or s.threads y no_thread) ≡ true) x h)
          (λ r c m. f (r - 1) (omega (arith, c.0, m, e)))

  no_receiver_met : (t : Thread) → receiver t ≡ 0 → (r : ℕ) → Counted r → meets t (thread_at s r) ≡ false
  no_receiver_met t e = go (receiver_lowest t)
    where
      go : Lowest t (receiver t) → (r : ℕ) → Counted r → meets t (thread_at s r) ≡ false
      go (no_one z h) = h
      go (someone c h f) = let never : ⊥ = omega (arith, e, c.0) in absurd never

  -- a ready pair by numbers from 1
  pub data ReadyIs (i p : ℕ) : Type 0 where
    no_pair_lem : i ≡ 0 → p ≡ 0 → ((j r : ℕ) → Counted j → Counted r → meets (thread_at s j) (thread_at s r) ≡ false) → ReadyIs i p
    a_pair : Counted i → Counted p → meets (thread_at s i) (thread_at s p) ≡ true
        → ((j r : ℕ) → j < i → Counted j → Counted r → meets (thread_at s j) (thread_at s r) ≡ false)
        → ((r : ℕ) → r < p → Counted r → meets (thread_at s i) (thread_at s r) ≡ false) → ReadyIs i p

  pub ready_is : (i p : ℕ) → ready_pair C s ≡ (i, p) → ReadyIs i p
  unfolding ready_pair
  ready_is i p = go (ready_pair C s) (pair_first 1 s.threads)
    where
      at : (k : ℕ) → i ≡ 1 + k → k < length s.threads → p ≢ 0 → Lowest (thread_at s i) p
          → ((m : ℕ) → m < k → receiver (get_or s.threads m no_thread) ≡ 0) → ReadyIs i p
      at k x l z (no_one y h) f = absurd (z y)
      at k x l z (someone c h g) f =
          a_pair (omega (arith, x), omega (arith, x, l)) c h
          (λ j r m cj cr. no_receiver_met (thread_at s j) (f (j - 1) (omega (arith, cj.0, m, x))) r cr)
          (λ r m cr. g r cr m)

      go : (q : ℕ × ℕ) → Paired (λ k. receiver (get_or s.threads k no_thread)) (length s.threads) 1 q → q ≡ (i, p) → ReadyIs i p
      go q (unpaired e h) d =
          no_pair_lem (sym (ap (λ (x : ℕ × ℕ). x.0) d) ∙ ap (λ (x : ℕ × ℕ). x.0) e) (sym (ap (λ (x : ℕ × ℕ). x.1) d) ∙ ap (λ (x : ℕ × ℕ). x.1) e)
          (λ j r cj cr. no_receiver_met (thread_at s j) (h (j - 1) (omega (arith, cj.0, cj.1))) r cr)
      go q (paired k e l z f) d =
          let x : i ≡ 1 + k = sym (ap (λ (x : ℕ × ℕ). x.0) d) ∙ ap (λ (x : ℕ × ℕ). x.0) e in
          let y : p ≡ receiver (get_or s.threads k no_thread) = sym (ap (λ (x : ℕ × ℕ). x.1) d) ∙ ap (λ (x : ℕ × ℕ). x.1) e in
          let w : k ≡ i - 1 = omega (arith, x) in
          let there : Lowest (get_or s.threads k no_thread) p = subst (Lowest (get_or s.threads k no_thread)) (sym y) (receiver_lowest (get_or s.threads k no_thread)) in
          at k x l (λ v. z (sym y ∙ v)) (subst (λ (m : ℕ). Lowest (get_or s.threads m no_thread) p) w there) f
