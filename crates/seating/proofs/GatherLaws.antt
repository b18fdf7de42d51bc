-- The sessions that have a role, as a mask.
use Prim.Native.Nat.{ℕ, suc, ◌+◌, ◌-◌, ◌≤◌, ◌<◌}
use mathlib.Core.Path.{◌≡◌, refl, sym, ap, ◌∙◌}
use mathlib.Core.Bool.{Bool, true, false, ◌&&◌}
use mathlib.Core.List.{List}
use native.Mathlib.Omega.{arith}
use lib.Dec.{ltb}
use lib.ListN.{length, get_or, drop}
use lib.Seq.{drop-cons}
use borrow.Author.Tests.{le-ltb, lt-ltb, le-leb, lt-leb}
use Rattle.masks.specs.Mask.{with}
use Rattle.steps.specs.Records.{threads_in, record_words, record_at}
use Rattle.seating.specs.SeatTables.{with_session, put_session, gathered}

and_right : (b : Bool) → (b && false) ≡ false
and_right true = refl
and_right false = refl

-- one session put in
pub with_none : (m k : ℕ) → k ≡ 0 → m ≡ with_session m k
unfolding with_session
with_none m k e = rw (le-ltb 0 k (omega (arith, e)))

pub with_far : (m k : ℕ) → 32 < k → m ≡ with_session m k
unfolding with_session
with_far m k l = rw (lt-leb k 32 l, and_right (ltb 0 k))

pub with_one : (m k : ℕ) → 1 ≤ k → k ≤ 32 → with m k ≡ with_session m k
unfolding with_session
with_one m k l n = rw (lt-ltb 0 k l, le-leb k 32 n)

-- the threads from i on: the thread at i, then those from i + 1 on
pub gather_step : (w os : List ℕ) (n i r m : ℕ) → i < n → i < length os
    → gathered (threads_in w (record_at (i + 1)) (n - (i + 1))) (drop (i + 1) os) r (put_session m (get_or w (record_at i + 2) 0) r (get_or os i 0))
    ≡ gathered (threads_in w (record_at i) (n - i)) (drop i os) r m
unfolding threads_in gathered
gather_step w os n i r m l k =
    let a : n - i ≡ suc (n - (i + 1)) = omega (arith, l) in
    let b : record_at (i + 1) ≡ record_at i + record_words = omega arith in
    let c : i + 1 ≡ suc i = omega arith in
    sym (ap (λ (x : ℕ). gathered (threads_in w (record_at i) x) (drop i os) r m) a
    ∙ ap (λ (o : List ℕ). gathered (threads_in w (record_at i) (suc (n - (i + 1)))) o r m) (drop-cons os i 0 k)
    ∙ ap (λ (x : ℕ). gathered (threads_in w (record_at i + record_words) (n - (i + 1))) (drop x os) r (put_session m (get_or w (record_at i + 2) 0) r (get_or os i 0))) (sym c)
    ∙ ap (λ (x : ℕ). gathered (threads_in w x (n - (i + 1))) (drop (i + 1) os) r (put_session m (get_or w (record_at i + 2) 0) r (get_or os i 0))) (sym b))

pub gather_end : (w os : List ℕ) (n i p r m : ℕ) → n ≤ i → gathered (threads_in w p (n - i)) os r m ≡ m
unfolding threads_in gathered
gather_end w os n i p r m l = let e : n - i ≡ 0 = omega (arith, l) in ap (λ (x : ℕ). gathered (threads_in w p x) os r m) e
