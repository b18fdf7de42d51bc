-- "A role then permits what its own record permits and what its juniors permit, through any chain of juniors" (02, K1). Roles are numbered from 1;
-- `own` has for each role the mask of the kinds in its own record, `juniors` the mask of its junior roles.
use Rattle.std.specs.Prelude.{ℕ, zero, suc, ◌≤◌, ◌<◌, ◌≡◌, true, cond, eqb}
use Rattle.std.specs.Int.Bits.{bit_or}
use Rattle.masks.specs.Mask.{has}

-- over the records: a role is granted a kind by its own record, or by a junior that is granted it
pub data Granted (own juniors : ℕ → ℕ) (kind : ℕ) : ℕ → Type 0 where
  by_own : {r : ℕ} → has (own r) kind ≡ true → Granted own juniors kind r
  by_junior : {r : ℕ} (s : ℕ) → has (juniors r) s ≡ true → Granted own juniors kind s → Granted own juniors kind r

-- what 21 leaves: of the roles 1 to n, every junior's number is lower than its senior's
abbrev pub Lower : (ℕ → ℕ) → ℕ → Type 0
Lower juniors n = (r : ℕ) → 1 ≤ r → r ≤ n → (s : ℕ) → has (juniors r) s ≡ true → s < r

-- computed: the kinds that those of the roles 1 to n that are in a mask have together, by the kinds of each
unfoldable pub together : (ℕ → ℕ) → ℕ → ℕ → ℕ
together kinds m zero = 0
together kinds m (suc n) = bit_or (together kinds m n) (cond (has m (suc n)) (kinds (suc n)) 0)

-- the kinds that one of the roles 1 to n permits, lower roles first: those of its own record and of its juniors. Other roles have none.
unfoldable pub effective : (ℕ → ℕ) → (ℕ → ℕ) → ℕ → ℕ → ℕ
effective own juniors zero r = 0
effective own juniors (suc n) r =
    cond (eqb r (suc n)) (bit_or (own (suc n)) (together (λ s. effective own juniors n s) (juniors (suc n)) n)) (effective own juniors n r)
