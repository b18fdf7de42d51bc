-- A mask that has one role, or none, and what on and off make of it.
use Prim.Native.Nat.{ℕ, zero, suc}
use mathlib.Core.Path.{◌≡◌, refl, sym, ◌∙◌}
use mathlib.Core.Bool.{Bool, true, false, or-false, or-true, or_self, not-and_self, true≢false}
use native.Mathlib.Omega.{arith}
use lib.Dec.{eqb}
use borrow.Author.Tests.{eqb-true, eq-eqb}
use Rattle.masks.specs.Mask.{has, with, without, AtMostOne}
use Rattle.masks.proofs.Laws.{has_none, has_with, has_without}
use Rattle.reading_exact.specs.Tree.{Tree, end, fork, step, switch, on, off}
use Rattle.placing_exact.specs.Placement.{Holds}

-- whether x is the role p; 0 is none
abbrev pub is_role : ℕ → ℕ → Bool
is_role zero x = false
is_role (suc k) x = eqb x (suc k)

-- the mask has exactly the role p, or none
abbrev pub Is : ℕ → ℕ → Type 0
Is m p = (x : ℕ) → has m x ≡ is_role p x

-- the empty mask has none
pub is_empty : Is 0 0
is_empty x = has_none x

-- the role is there
pub is_has : (m k : ℕ) → Is m (suc k) → has m (suc k) ≡ true
is_has m k i = i (suc k) ∙ eq-eqb (suc k) (suc k) refl

-- what is there is the role
pub has_is : (m p x : ℕ) → Is m p → has m x ≡ true → x ≡ p
has_is m zero x i h = absurd (true≢false (sym h ∙ i x))
has_is m (suc k) x i h = eqb-true x (suc k) (sym (i x) ∙ h)

-- one role, or none, is at most one
pub is_one : (m p : ℕ) → Is m p → AtMostOne m
is_one m p i x y h g = has_is m p x i h ∙ sym (has_is m p y i g)

-- on where there is none
pub is_with : (m k : ℕ) → Is m 0 → Is (with m (suc k)) (suc k)
is_with m k i x = has_with m (suc k) x (omega arith) ∙ rw (i x, or-false)

-- on of the role that is there
pub is_with_same : (m k : ℕ) → Is m (suc k) → Is (with m (suc k)) (suc k)
is_with_same m k i x = has_with m (suc k) x (omega arith) ∙ rw (i x, or_self)

-- off leaves none
pub is_without : (m k : ℕ) → Is m (suc k) → Is (without m (suc k)) 0
is_without m k i x = has_without m (suc k) x ∙ rw (i x, not-and_self)

-- a second role beside the first is two
pub with_other : (m j k : ℕ) → Is m (suc j) → AtMostOne (with m (suc k)) → suc k ≡ suc j
with_other m j k i o =
    o (suc k) (suc j)
    (has_with m (suc k) (suc k) (omega arith) ∙ rw (eq-eqb (suc k) (suc k) refl))
    (has_with m (suc k) (suc j) (omega arith) ∙ rw (is_has m j i, or-true))

-- a tree that holds so begins with at most one role
pub holds_one : (m : ℕ) (t : Tree) → Holds m t → AtMostOne m
unfolding Holds
holds_one m end h = λ x y i j. absurd (true≢false (sym i ∙ h x))
holds_one m (fork a b) h = h.0
holds_one m (step s t) h = h.0
holds_one m (switch on r t) h = h.0
holds_one m (switch off r t) h = h.0
