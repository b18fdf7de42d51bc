-- Rules 1 and 5 as a relation: what a node leaves its only child, by its tag.
use Rattle.std.specs.Prelude.{ℕ, ◌≡◌, ◌↔◌, ◌⊎◌, ◌≢◌, true, false}
use Rattle.masks.specs.Mask.{has}
use Rattle.format.specs.declared.Node.{Node}
use Rattle.rules.specs.Schema.{Schema}
use Rattle.rules.specs.Rules.{Context}
use Rattle.checking_exact.specs.Typing.{HasKind, with_variable}

-- m' is m and item r; m' is m but for item r
abbrev pub Added : ℕ → ℕ → ℕ → Type 0
Added m r m' = (x : ℕ) → (has m' x ≡ true) ↔ ((x ≡ r) ⊎ (has m x ≡ true))

abbrev pub Removed : ℕ → ℕ → ℕ → Type 0
Removed m r m' = (x : ℕ) → (has m' x ≡ true) ↔ ((has m x ≡ true) × (x ≢ r))

pub data Below (D : Schema) (c : Context) (n : Node) (c' : Context) : Type 0 where
  repeats : n.tag ≡ 2 → c' ≡ c → Below D c n c'
  -- the variable has the kind named, and new bound it
  makes : n.tag ≡ 3 → c'.user ≡ c.user → c'.mask ≡ c.mask → c'.vars ≡ with_variable c.vars n.f1 true → Below D c n c'
  compares : n.tag ≡ 4 → c' ≡ c → Below D c n c'
  -- the variable has what the channel's kind carries
  receives : (k : ℕ) → n.tag ≡ 5 → HasKind D c.vars n.f1 k → c'.user ≡ c.user → c'.mask ≡ c.mask → c'.vars ≡ with_variable c.vars (D.carries k) false → Below D c n c'
  sends : n.tag ≡ 6 → c' ≡ c → Below D c n c'
  -- on adds a role, off removes one
  turns_on : n.tag ≡ 7 → c'.user ≡ c.user → Added c.mask n.f1 c'.mask → c'.vars ≡ c.vars → Below D c n c'
  turns_off : n.tag ≡ 8 → c'.user ≡ c.user → Removed c.mask n.f1 c'.mask → c'.vars ≡ c.vars → Below D c n c'
