-- What is claimed of the outcome of a choice: threads that fit, or a refusal that may come.
use Prim.Native.Nat.{ℕ, suc, ◌<◌}
use mathlib.Core.Path.{◌≡◌, refl}
use mathlib.Core.Bool.{Bool, true, false, cond}
use mathlib.Core.List.{List, [], ◌∷◌, ◌++◌}
use lib.ListN.{length}
use Rattle.rules.specs.Rules.{Context, barred, activate}
use Rattle.steps.specs.declared.Thread.{Thread}
use Rattle.steps.specs.declared.Made.{Made}
use Rattle.steps.specs.declared.Pair.{Pair}
use Rattle.steps.specs.declared.Making.{Making}
use Rattle.steps.specs.declared.Outcome.{Outcome}
use Rattle.steps.specs.declared.Outcome.TheVariants.{Refused, Moves, Adds, Makes, Ends, Meets}
use Rattle.steps.specs.Choice.{Clinic}
use Rattle.running_exact.specs.Keeps.{Formed}
use Rattle.running_exact.proofs.ThreadSteps.{Good}

-- the refusals that may come: 18 to 20, and of 11 to 13 those that some node is refused for with a thread's own active set
pub record MayCome (C : Clinic) (At : ℕ → Context → Type 0) (K : ℕ → ℕ → Type 0) (R : ℕ → Type 0) : Type 0 where
  pub no_thread_lem : R 18
  pub unequal : R 19
  pub full : R 20
  pub role : (j : ℕ) (c : Context) → At j c → (m : ℕ) → K m c.mask → (n : ℕ) → barred C.schema (activate c m) (C.node j) ≡ suc n → R (suc n)

module _ (C : Clinic) (At : ℕ → Context → Type 0) (K : ℕ → ℕ → Type 0) (R : ℕ → Type 0) (k : ℕ) (made : List Made) where
  abbrev Fine : List Made → Thread → Type 0
  Fine = Good C.schema At K

  -- of so many threads, with these channels made
  unfoldable pub Claimed : Outcome → Type 0
  Claimed (Refused n) = R n
  Claimed (Moves t) = Fine made t
  Claimed (Adds q) = Fine made q.first × Fine made q.second × (k < 64)
  Claimed (Makes q) = Fine (made ++ (q.made ∷ [])) q.thread × Formed C.schema q.made × (length made < 64)
  Claimed Ends = Unit {0}
  Claimed (Meets q) = Fine made q.first × Fine made q.second

  -- a refusal that may come
  pub refused-told : (n : ℕ) → R n → Claimed (Refused n)
  unfolding Claimed
  refused-told n r = r

  -- a thread that goes on
  pub moves-told : (t : Thread) → Fine made t → Claimed (Moves t)
  unfolding Claimed
  moves-told t g = g

  -- one that goes on, and a new last one
  pub adds-told : (q : Pair) → Fine made q.first → Fine made q.second → k < 64 → Claimed (Adds q)
  unfolding Claimed
  adds-told q g h l = (g, h, l)

  -- one that goes on with a made channel
  pub makes-told : (q : Making) → Fine (made ++ (q.made ∷ [])) q.thread → Formed C.schema q.made → length made < 64 → Claimed (Makes q)
  unfolding Claimed
  makes-told q g h l = (g, h, l)

  -- one that is removed
  pub ends-told : Claimed Ends
  unfolding Claimed
  ends-told = tt

  -- sender and receiver
  pub meets-told : (q : Pair) → Fine made q.first → Fine made q.second → Claimed (Meets q)
  unfolding Claimed
  meets-told q g h = (g, h)

  -- along a test
  pub either : (b : Bool) (x y : Outcome) → (b ≡ true → Claimed x) → (b ≡ false → Claimed y) → Claimed (cond b x y)
  either true x y f g = f refl
  either false x y f g = g refl
