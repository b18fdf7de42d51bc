-- The made channels of a lent list, by the words beside it.
use Prim.Native.Nat.{ℕ, zero, suc, ◌+◌, ◌*◌, ◌-◌, ◌<◌}
use mathlib.Core.Path.{◌≡◌, refl, ap, ◌∙◌}
use mathlib.Core.List.{List}
use native.Mathlib.Omega.{arith}
use lib.ListN.{length, get_or}
use Rattle.format.specs.Contents.{item}
use Rattle.format.proofs.ContentsLaws.{item_get}
use Rattle.reading_exact.specs.File.{InCount}
use Rattle.steps.specs.Threads.{no_made}
use Rattle.steps.specs.Beside.{made_at, made_in, made_of}

made_length : (b : List ℕ) (p k : ℕ) → length (made_in b p k) ≡ k
unfolding made_in
made_length b p zero = refl
made_length b p (suc k) = ap suc (made_length b (p + 2) k)

made_by_place : (b : List ℕ) (p k j : ℕ) → j < k → get_or (made_in b p k) j no_made ≡ made_at b (p + 2 * j)
unfolding made_in
made_by_place b p zero j h = let no : ⊥ = omega arith in absurd no
made_by_place b p (suc k) zero h = let e : p ≡ p + 0 = omega arith in ap (made_at b) e
made_by_place b p (suc k) (suc j) h =
    let e : p + 2 + 2 * j ≡ p + 2 * suc j = omega arith in
    made_by_place b (p + 2) k j (omega arith) ∙ ap (made_at b) e

module _ (b : List ℕ) where
  pub made_counted : length (made_of b) ≡ get_or b 1 0
  made_counted = made_length b 2 (get_or b 1 0)

  pub made_by_words : (j : ℕ) → InCount (get_or b 1 0) j → item no_made (made_of b) j ≡ made_at b (2 * j)
  made_by_words j c =
      let e : 2 + 2 * (j - 1) ≡ 2 * j = omega (arith, c.0) in
      item_get no_made (made_of b) j c.0 ∙ made_by_place b 2 (get_or b 1 0) (j - 1) (omega (arith, c.0, c.1)) ∙ ap (made_at b) e
