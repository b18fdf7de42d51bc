-- A thread that fits its node's context fits the next node's after a step.
use Prim.Native.Nat.{ℕ, suc, ◌+◌, ◌<◌}
use mathlib.Core.Path.{◌≡◌, sym, ◌∙◌, subst}
use mathlib.Core.Logic.{◌⊎◌}
use mathlib.Core.Bool.{Bool}
use mathlib.Core.List.{List, [], ◌∷◌, ◌++◌}
use native.Mathlib.Omega.{arith}
use native.Mathlib.Numerals.{add-one}
use lib.ListN.{length, set, length-set}
use Rattle.masks.specs.Mask.{with, without, Within}
use Rattle.rules.specs.Schema.{Schema}
use Rattle.rules.specs.Rules.{Context, wrong, bind, activate, child_of}
use Rattle.steps.specs.declared.Thread.{Thread}
use Rattle.steps.specs.declared.Made.{Made}
use Rattle.steps.specs.Threads.{value, first_free, moved_to, onward, masked, bound}
use Rattle.steps.specs.Choice.{Clinic, kind_held}
use Rattle.reading_exact.specs.Refusals.{OneChild}
use Rattle.checking_exact.specs.Typing.{HasKind}
use Rattle.checking_exact.proofs.OperandKinds.{Ranged}
use Rattle.running_exact.specs.Keeps.{HasValue, Held, Fits}
use Rattle.running_exact.proofs.HeldValues.{Apart, kind_held_lem, held_more, held_free, held_bound, operand_value}

-- what the nodes of a file that 1 to 10 leave clean have, where At says that a node is there in a context
pub record Lawful (C : Clinic) (At : ℕ → Context → Type 0) : Type 0 where
  pub apart : Apart C.schema
  pub ranged : Ranged C.schema
  pub clear : (j : ℕ) (c : Context) → At j c → wrong C.schema c (C.node j) ≡ 0
  pub child : (j : ℕ) (c : Context) → At j c → OneChild (C.node j).tag → At (suc j) (child_of C.schema c (C.node j))
  pub first : (j : ℕ) (c : Context) → At j c → (C.node j).tag ≡ 1 → At (suc j) c
  pub second : (j : ℕ) (c : Context) → At j c → (C.node j).tag ≡ 1 → At (C.node j).f1 c
  pub room : (j : ℕ) (c : Context) → At j c → ((C.node j).tag ≡ 3) ⊎ ((C.node j).tag ≡ 5) → length c.vars < 8

-- how a thread's active set stands to the context's, where on and off do to both the same
pub record Steady (K : ℕ → ℕ → Type 0) : Type 0 where
  pub on : (a b r : ℕ) → K a b → K (with a r) (with b r)
  pub off : (a b r : ℕ) → K a b → K (without a r) (without b r)

-- a thread that fits the context of its node, with an active set that stands so to that context's
abbrev pub Good : Schema → (ℕ → Context → Type 0) → (ℕ → ℕ → Type 0) → List Made → Thread → Type 0
Good D At K made t = (c : Context) × At t.node c × Fits D made c t × K t.mask c.mask

module _ (D : Schema) (At : ℕ → Context → Type 0) (K : ℕ → ℕ → Type 0) (made : List Made) (t : Thread) (c : Context) (F : Fits D made c t) where
  next_at : (d : Context) → At (suc t.node) d → At (t.node + 1) d
  next_at d h = subst (λ (k : ℕ). At k d) (sym (add-one t.node)) h

  -- moved to a node in the same context
  pub moved_good : (j : ℕ) → At j c → K t.mask c.mask → Good D At K made (moved_to t j)
  moved_good j a m = (c, a, record { user = F.user; counted = F.counted; mask = F.mask; eight = F.eight; vars = F.vars }, m)

  -- to the next node
  pub onward_good : At (suc t.node) c → K t.mask c.mask → Good D At K made (onward t)
  onward_good a m = moved_good (t.node + 1) (next_at c a) m

  -- with another active set, within the user's roles
  pub masked_good : (m m' : ℕ) → At (suc t.node) (activate c m') → Within m (D.assigned t.user) → K m m' → Good D At K made (masked t m)
  masked_good m m' a w h = (
    activate c m',
    next_at (activate c m') a,
    record { user = F.user; counted = F.counted; mask = w; eight = F.eight; vars = F.vars },
    h,
  )

  module _ (S : Apart D) where
    -- with a variable bound, which is the next on the path
    pub bound_good : (k v : ℕ) (fresh : Bool) → At (suc t.node) (bind c k fresh) → K t.mask c.mask → length c.vars < 8 → HasValue D made v k
        → Good D At K made (bound t v)
    bound_good k v fresh a m l h = (
      bind c k fresh,
      next_at (bind c k fresh) a,
      record {
        user = F.user;
        counted = F.counted;
        mask = F.mask;
        eight = length-set t.vars (first_free t.vars) v ∙ F.eight;
        vars = subst (λ (j : ℕ). Held D made (c.vars ++ (record { sort = k; fresh = fresh } ∷ [])) (set t.vars j v))
            (sym (held_free D made c.vars t.vars F.vars))
            (held_bound D S made c.vars t.vars (record { sort = k; fresh = fresh }) v (omega (arith, F.eight)) h F.vars);
      },
      m,
    )

    -- where another channel is made
    pub fits_more : (m : Made) → Fits D (made ++ (m ∷ [])) c t
    fits_more m = record {
      user = F.user;
      counted = F.counted;
      mask = F.mask;
      eight = F.eight;
      vars = held_more D S made m c.vars t.vars F.vars;
    }

    -- the kind judged in a run is that of the context
    pub kinds_agree : (x k : ℕ) → HasKind D c.vars x k → kind_held D made (value t x) ≡ k
    kinds_agree x k h = kind_held_lem D S made (value t x) k (operand_value D S made c.vars t x k F.vars h)
