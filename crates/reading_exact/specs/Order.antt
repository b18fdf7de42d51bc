-- In what order refusals come, and which is the first of those that hold.
use Rattle.std.specs.Prelude.{ℕ, ◌*◌, ◌≤◌, ◌<◌, ◌≡◌, ◌⊎◌, cond, eqb}
use Rattle.format.specs.Answers.{fine, refused}
use Rattle.format.specs.declared.Verdict.{Verdict}

-- the numbers in order, 21 directly after 6: each has twice itself, and what comes after it has room behind it
abbrev pub in_turn : ℕ → ℕ
in_turn n = cond (eqb n 21) 13 (2 * n)

-- the refusals of the file, which stand in the paper as 1 to 10 and include 21
abbrev pub OfFile : ℕ → Type 0
OfFile n = ((1 ≤ n) × (n ≤ 10)) ⊎ (n ≡ 21)

-- by stage, within a stage the lowest place first, and at one place by turn
pub record Order : Type 0 where
  pub stage : ℕ → ℕ
  pub turn : ℕ → ℕ

-- number n at place p comes no later than number m at place q
abbrev pub Sooner : Order → ℕ → ℕ → ℕ → ℕ → Type 0
Sooner o n p m q = (o.stage n < o.stage m) ⊎ ((o.stage n ≡ o.stage m) × ((p < q) ⊎ ((p ≡ q) × (o.turn n ≤ o.turn m))))

-- of the refusals that hold, number n at place p is the first
abbrev pub FirstAt : Order → (ℕ → ℕ → Type 0) → ℕ → ℕ → Type 0
FirstAt o R n p = R n p × ((m q : ℕ) → R m q → Sooner o n p m q)

-- the answer is the first of the refusals that hold, and refuses nothing where none does
abbrev pub First : Order → (ℕ → ℕ → Type 0) → Verdict → Type 0
First o R v = ((v ≡ fine) × ((n p : ℕ) → R n p → ⊥)) ⊎ ((n : ℕ) × (p : ℕ) × (v ≡ refused n p) × FirstAt o R n p)
