-- Who has a role, after a thread is changed, added or removed.
use Prim.Native.Nat.{ℕ, zero, suc, ◌-◌, ◌≤◌, ◌<◌}
use mathlib.Core.Path.{◌≡◌, refl, sym, ap, ◌∙◌, subst}
use mathlib.Core.Logic.{◌⊎◌, inl, inr, ◌↔◌}
use mathlib.Core.Bool.{Bool, true, false, ◌&&◌, ◌||◌, false≢true, and-eq-true_iff}
use mathlib.Core.List.{List, [], ◌∷◌, ◌++◌}
use native.Mathlib.Omega.{arith}
use lib.Dec.{eqb}
use lib.ListN.{length, get_or, set, take, drop}
use borrow.Author.Tests.{eqb-true, eq-eqb}
use Rattle.masks.specs.Mask.{has}
use Rattle.steps.specs.declared.Thread.{Thread}
use Rattle.steps.specs.Threads.{no_thread}
use Rattle.seats.specs.Seats.{occupies}
use Rattle.seats.specs.SeatOrder.{Sitting}
use Rattle.seats.proofs.LineLaws.{or_splits, either_left, either_right, never}

pub sitting_of : (ts : List Thread) (os : List ℕ) (k r : ℕ) → occupies ts os k r ≡ true → Sitting ts os k r
unfolding occupies
sitting_of [] os k r h = absurd (false≢true h)
sitting_of (t ∷ ts) [] k r h = absurd (false≢true h)
sitting_of (t ∷ ts) (o ∷ os) k r h = go (or_splits (eqb o k && has t.mask r) (occupies ts os k r) h) (sitting_of ts os k r)
  where
    go : ((eqb o k && has t.mask r) ≡ true) ⊎ (occupies ts os k r ≡ true) → (occupies ts os k r ≡ true → Sitting ts os k r)
        → ((o ≡ k) × (has t.mask r ≡ true)) ⊎ Sitting ts os k r
    go (inl e) f = let (a, b) = (and-eq-true_iff (eqb o k) (has t.mask r)).0 e in inl (eqb-true o k a, b)
    go (inr e) f = inr (f e)

pub of_sitting : (ts : List Thread) (os : List ℕ) (k r : ℕ) → Sitting ts os k r → occupies ts os k r ≡ true
unfolding occupies
of_sitting [] os k r h = absurd h
of_sitting (t ∷ ts) [] k r h = absurd h
of_sitting (t ∷ ts) (o ∷ os) k r (inl (e, m)) =
    either_left (eqb o k && has t.mask r) (occupies ts os k r) ((and-eq-true_iff (eqb o k) (has t.mask r)).1 (eq-eqb o k e, m))
of_sitting (t ∷ ts) (o ∷ os) k r (inr h) = either_right (eqb o k && has t.mask r) (occupies ts os k r) (of_sitting ts os k r h)

-- a thread's own session has what the thread has
pub get_sits : (ts : List Thread) (os : List ℕ) (j r : ℕ) → length os ≡ length ts → j < length ts → has (get_or ts j no_thread).mask r ≡ true
    → Sitting ts os (get_or os j 0) r
get_sits [] os j r e l h = absurd (omega arith)
get_sits (t ∷ ts) [] j r e l h = absurd (omega (arith, e))
get_sits (t ∷ ts) (o ∷ os) zero r e l h = inl (refl, h)
get_sits (t ∷ ts) (o ∷ os) (suc j) r e l h = inr (get_sits ts os j r (omega (arith, e)) (omega (arith, l)) h)

-- one thread changed: who has the role now had it, or is the session of that thread
pub set_sits : (ts : List Thread) (os : List ℕ) (j : ℕ) (t' : Thread) (k r : ℕ) → Sitting (set ts j t') os k r
    → Sitting ts os k r ⊎ ((get_or os j 0 ≡ k) × (has t'.mask r ≡ true))
set_sits [] os j t' k r h = absurd h
set_sits (t ∷ ts) [] zero t' k r h = absurd h
set_sits (t ∷ ts) [] (suc j) t' k r h = absurd h
set_sits (t ∷ ts) (o ∷ os) zero t' k r (inl h) = inr h
set_sits (t ∷ ts) (o ∷ os) zero t' k r (inr h) = inl (inr h)
set_sits (t ∷ ts) (o ∷ os) (suc j) t' k r (inl h) = inl (inl h)
set_sits (t ∷ ts) (o ∷ os) (suc j) t' k r (inr h) = go (set_sits ts os j t' k r h)
  where
    go : Sitting ts os k r ⊎ ((get_or os j 0 ≡ k) × (has t'.mask r ≡ true))
        → (((o ≡ k) × (has t.mask r ≡ true)) ⊎ Sitting ts os k r) ⊎ ((get_or os j 0 ≡ k) × (has t'.mask r ≡ true))
    go (inl a) = inl (inr a)
    go (inr a) = inr a

-- that session has what the changed thread has
pub set_has : (ts : List Thread) (os : List ℕ) (j : ℕ) (t' : Thread) (r : ℕ) → length os ≡ length ts → j < length ts → has t'.mask r ≡ true
    → Sitting (set ts j t') os (get_or os j 0) r
set_has [] os j t' r e l h = absurd (omega arith)
set_has (t ∷ ts) [] j t' r e l h = absurd (omega (arith, e))
set_has (t ∷ ts) (o ∷ os) zero t' r e l h = inl (refl, h)
set_has (t ∷ ts) (o ∷ os) (suc j) t' r e l h = inr (set_has ts os j t' r (omega (arith, e)) (omega (arith, l)) h)

-- with no more roles than before, nobody has more
pub set_same : (ts : List Thread) (os : List ℕ) (j : ℕ) (t' : Thread) (k r : ℕ) → length os ≡ length ts → j < length ts
    → (has t'.mask r ≡ true → has (get_or ts j no_thread).mask r ≡ true) → Sitting (set ts j t') os k r → Sitting ts os k r
set_same ts os j t' k r e l m h = go (set_sits ts os j t' k r h)
  where
    go : Sitting ts os k r ⊎ ((get_or os j 0 ≡ k) × (has t'.mask r ≡ true)) → Sitting ts os k r
    go (inl a) = a
    go (inr (d, a)) = subst (λ (x : ℕ). Sitting ts os x r) d (get_sits ts os j r e l (m a))

-- a new last thread
pub snoc_sits : (ts : List Thread) (os : List ℕ) (u : Thread) (o k r : ℕ) → length os ≡ length ts → Sitting (ts ++ (u ∷ [])) (os ++ (o ∷ [])) k r
    → Sitting ts os k r ⊎ ((o ≡ k) × (has u.mask r ≡ true))
snoc_sits [] [] u o k r e (inl h) = inr h
snoc_sits [] [] u o k r e (inr h) = absurd h
snoc_sits [] (x ∷ os) u o k r e h = absurd (omega (arith, e))
snoc_sits (t ∷ ts) [] u o k r e h = absurd (omega (arith, e))
snoc_sits (t ∷ ts) (x ∷ os) u o k r e (inl h) = inl (inl h)
snoc_sits (t ∷ ts) (x ∷ os) u o k r e (inr h) = go (snoc_sits ts os u o k r (omega (arith, e)) h)
  where
    go : Sitting ts os k r ⊎ ((o ≡ k) × (has u.mask r ≡ true)) → (((x ≡ k) × (has t.mask r ≡ true)) ⊎ Sitting ts os k r) ⊎ ((o ≡ k) × (has u.mask r ≡ true))
    go (inl a) = inl (inr a)
    go (inr a) = inr a

-- a thread removed
gone_sits : (ts : List Thread) (os : List ℕ) (j k r : ℕ) → Sitting (take j ts ++ drop (suc j) ts) (take j os ++ drop (suc j) os) k r → Sitting ts os k r
gone_sits [] os zero k r h = absurd h
gone_sits [] os (suc j) k r h = absurd h
gone_sits (t ∷ ts) (o ∷ os) zero k r h = inr h
gone_sits (t ∷ ts) [] zero k r h = none ts h
  where
    none : (l : List Thread) → Sitting l [] k r → ⊥
    none [] h = h
    none (t ∷ l) h = h
gone_sits (t ∷ ts) [] (suc j) k r h = absurd h
gone_sits (t ∷ ts) (o ∷ os) (suc j) k r (inl h) = inl h
gone_sits (t ∷ ts) (o ∷ os) (suc j) k r (inr h) = inr (gone_sits ts os j k r h)

pub removed_sits : (ts : List Thread) (os : List ℕ) (i k r : ℕ) → 1 ≤ i → Sitting (take (i - 1) ts ++ drop i ts) (take (i - 1) os ++ drop i os) k r → Sitting ts os k r
removed_sits ts os zero k r l h = absurd (omega arith)
removed_sits ts os (suc j) k r l h =
    let e : suc j - 1 ≡ j = omega arith in
    gone_sits ts os j k r (subst (λ (x : ℕ). Sitting (take x ts ++ drop (suc j) ts) (take x os ++ drop (suc j) os) k r) e h)
