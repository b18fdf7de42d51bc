-- Seats taken are the number of sessions that have a thread with the role active.
use Prim.Native.Nat.{ℕ, zero, suc, ◌+◌, ◌-◌, ◌≤◌, ◌<◌}
use mathlib.Core.Path.{◌≡◌, refl, sym, ap, ◌∙◌, subst}
use mathlib.Core.Logic.{◌↔◌, ◌⊎◌, inl, inr, ∥∥₁_elim}
use mathlib.Core.HLevel.{⊥_prop}
use mathlib.Core.Bool.{Bool, true, false, cond, false≢true}
use mathlib.Core.List.Memᴰ
use mathlib.Core.List.{List, [], ◌∷◌, Memᴰ, Mem, Nodup, Nodup-nil, Nodup-cons}
use native.Mathlib.Omega.{arith}
use lib.Dec.{eqb}
use lib.ListN.{length, get_or}
use borrow.Author.Tests.{eqb-true, eqb-false}
use Rattle.masks.specs.Mask.{has}
use Rattle.steps.specs.declared.Thread.{Thread}
use Rattle.steps.specs.Threads.{no_thread}
use Rattle.steps.specs.Choice.{thread_at}
use Rattle.reading_exact.specs.File.{InCount}
use Rattle.seats.specs.Seats.{Limited, SeatedState, sits, count_to, seats_taken, owner_of}
use Rattle.seats.specs.SeatOrder.{Sitting, HasRole, SessionsIn, Ordered}
use Rattle.seats.proofs.LineLaws.{never}
use Rattle.seats.proofs.SittingLaws.{sitting_of, of_sitting, get_sits}
use Rattle.seats.proofs.SeatedRuns.{sits_counted}

-- those of 1 to n that meet a test
unfoldable those : (ℕ → Bool) → ℕ → List ℕ
those q zero = []
those q (suc n) = cond (q (suc n)) (suc n ∷ those q n) (those q n)

module _ (q : ℕ → Bool) where
  those_length : (n : ℕ) → length (those q n) ≡ count_to q n
  unfolding those count_to
  those_length zero = refl
  those_length (suc n) = go (q (suc n)) (those_length n)
    where
      go : (b : Bool) → length (those q n) ≡ count_to q n → length (cond b (suc n ∷ those q n) (those q n)) ≡ cond b 1 0 + count_to q n
      go true e = omega (arith, e)
      go false e = omega (arith, e)

  from_those : (n x : ℕ) → Memᴰ x (those q n) → InCount n x × (q x ≡ true)
  unfolding those
  from_those zero x d = absurd (Memᴰ.not-nil d)
  from_those (suc n) x d = go (from_those n x) (q (suc n)) refl d
    where
      first : (Memᴰ x (those q n) → InCount n x × (q x ≡ true)) → q (suc n) ≡ true → (x ≡ suc n) ⊎ Memᴰ x (those q n) → InCount (suc n) x × (q x ≡ true)
      first ih e (inl z) = ((omega (arith, z), omega (arith, z)), ap q z ∙ e)
      first ih e (inr d) = let (c, h) = ih d in ((c.0, omega (arith, c.1)), h)

      go : (Memᴰ x (those q n) → InCount n x × (q x ≡ true)) → (b : Bool) → q (suc n) ≡ b → Memᴰ x (cond b (suc n ∷ those q n) (those q n)) → InCount (suc n) x × (q x ≡ true)
      go ih true e d = first ih e (Memᴰ.cases_cons d)
      go ih false e d = let (c, h) = ih d in ((c.0, omega (arith, c.1)), h)

  to_those : (n x : ℕ) → InCount n x → q x ≡ true → Memᴰ x (those q n)
  unfolding those
  to_those zero x c h = let no : ⊥ = omega (arith, c.0, c.1) in absurd no
  to_those (suc n) x c h = go (to_those n x) (q (suc n)) refl (eqb x (suc n)) refl
    where
      go : (InCount n x → q x ≡ true → Memᴰ x (those q n)) → (b : Bool) → q (suc n) ≡ b → (e : Bool) → eqb x (suc n) ≡ e → Memᴰ x (cond b (suc n ∷ those q n) (those q n))
      go ih true e true z = Memᴰ.head (eqb-true x (suc n) z)
      go ih true e false z = Memᴰ.tail (ih (c.0, omega (arith, c.1, eqb-false x (suc n) z)) h)
      go ih false e true z = never h (ap q (eqb-true x (suc n) z) ∙ e)
      go ih false e false z = ih (c.0, omega (arith, c.1, eqb-false x (suc n) z)) h

  those_distinct : (n : ℕ) → Nodup (those q n)
  unfolding those
  those_distinct zero = Nodup-nil
  those_distinct (suc n) = go (q (suc n)) (those_distinct n)
    where
      new : Mem (suc n) (those q n) → ⊥
      new h = ∥∥₁_elim h ⊥_prop (λ d. omega (arith, (from_those n (suc n) d).0.1))

      go : (b : Bool) → Nodup (those q n) → Nodup (cond b (suc n ∷ those q n) (those q n))
      go true d = Nodup-cons.1 (new, d)
      go false d = d

-- a thread by its number
sitting_at : (ts : List Thread) (os : List ℕ) (k r : ℕ) → Sitting ts os k r → (j : ℕ) × (j < length ts) × (get_or os j 0 ≡ k) × (has (get_or ts j no_thread).mask r ≡ true)
sitting_at [] os k r h = absurd h
sitting_at (t ∷ ts) [] k r h = absurd h
sitting_at (t ∷ ts) (o ∷ os) k r (inl (e, h)) = (0, omega arith, e, h)
sitting_at (t ∷ ts) (o ∷ os) k r (inr h) = let (j, l, e, m) = sitting_at ts os k r h in (suc j, omega (arith, l), e, m)

module _ (L : Limited) (S : SeatedState) (O : Ordered L S) where
  -- The test of who has a role, in words.
  pub sits_iff : (k r : ℕ) → (sits S k r ≡ true) ↔ HasRole S k r
  sits_iff k r = (to, back)
    where
      to : sits S k r ≡ true → HasRole S k r
      to h =
          let (j, l, e, m) = sitting_at S.state.threads S.owners k r (sitting_of S.state.threads S.owners k r h) in
          let z : j ≡ suc j - 1 = omega arith in (
            suc j,
            (omega arith, omega (arith, l)),
            ap (λ (x : ℕ). get_or S.owners x 0) (sym z) ∙ e,
            ap (λ (x : ℕ). has (get_or S.state.threads x no_thread).mask r) (sym z) ∙ m,
          )

      back : HasRole S k r → sits S k r ≡ true
      back (i, c, e, m) =
          of_sitting S.state.threads S.owners k r
          (subst (λ (x : ℕ). Sitting S.state.threads S.owners x r) e
          (get_sits S.state.threads S.owners (i - 1) r O.owners (omega (arith, c.0, c.1)) m))

  -- Seats taken: as many sessions have a thread with the role active, limited or not.
  pub taken_counts : (r : ℕ) → SessionsIn S r (seats_taken L S r)
  taken_counts r =
      let q : ℕ → Bool = λ (k : ℕ). sits S k r in (
        those q L.sessions,
        those_distinct q L.sessions,
        λ k. (λ d. (sits_iff k r).0 (from_those q L.sessions k d).1, λ h. to_those q L.sessions k (sits_counted L S O k r ((sits_iff k r).1 h)) ((sits_iff k r).1 h)),
        those_length q L.sessions,
      )
