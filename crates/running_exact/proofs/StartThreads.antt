-- The threads at the start of a run, by number.
use Prim.Native.Nat.{ℕ, zero, suc, ◌-◌, ◌<◌}
use mathlib.Core.Path.{◌≡◌, refl, subst}
use mathlib.Core.List.{List, [], ◌∷◌}
use native.Mathlib.Omega.{arith}
use lib.ListN.{length, get_or}
use Rattle.format.specs.Contents.{Contents, item, no_session}
use Rattle.format.specs.declared.Session.{Session}
use Rattle.steps.specs.Threads.{no_thread}
use Rattle.choices.specs.Choices.{threads_from, start}
use Rattle.reading_exact.specs.File.{InCount}
use Rattle.running_exact.specs.Runs.{Seated}
use Rattle.running_exact.proofs.StartKept.{threads_length}

seated_at : (ss : List Session) (k : ℕ) → k < length ss → Seated (get_or ss k no_session) (get_or (threads_from ss) k no_thread)
unfolding threads_from
seated_at [] k h = let never : ⊥ = omega arith in absurd never
seated_at (s ∷ ss) zero h = (refl, refl, refl, refl)
seated_at (s ∷ ss) (suc k) h = seated_at ss k (omega arith)

seated : (ss : List Session) (k : ℕ) → InCount (length ss) k → Seated (item no_session ss k) (get_or (threads_from ss) (k - 1) no_thread)
unfolding item
seated ss zero n = let never : ⊥ = omega (arith, n) in absurd never
seated ss (suc k) n =
    let at : k ≡ suc k - 1 = omega arith in
    subst (λ (j : ℕ). Seated (get_or ss k no_session) (get_or (threads_from ss) j no_thread)) at (seated_at ss k (omega (arith, n)))

-- as many threads as sessions, each its session's, and no channel made
pub start_seats : (C : Contents)
    → (length (start C).threads ≡ length C.sessions)
    × ((k : ℕ) → InCount (length C.sessions) k → Seated (item no_session C.sessions k) (get_or (start C).threads (k - 1) no_thread))
    × ((start C).made ≡ [])
start_seats C = (threads_length C.sessions, seated C.sessions, refl)
