use Prim.Native.Nat.{ℕ, zero, suc, ◌*◌, ◌≤◌, ◌<◌}
use native.Mathlib.Omega.{arith}
use Rattle.format.proofs.sections.place_of.Goals as goal

-- a record's words times a number below 65536
times : (w x : ℕ) → w ≤ 4 → x < 65536 → w * x < 262144
times zero x le h = omega arith
times (suc zero) x le h = omega arith
times (suc (suc zero)) x le h = omega arith
times (suc (suc (suc zero))) x le h = omega arith
times (suc (suc (suc (suc zero)))) x le h = omega arith
times (suc (suc (suc (suc (suc w))))) x le h = let no : ⊥ = omega arith in absurd no

pub overflow_mul-result : goal.overflow_mul-result
overflow_mul-result c = omega (arith, times c.width_of.result c.from-2.result c.width_of.ensures.1 (omega arith))

pub overflow_add-result : goal.overflow_add-result
overflow_add-result c = omega (arith, times c.width_of.result c.from-2.result c.width_of.ensures.1 (omega arith))

pub returns : goal.returns
returns c = (cc, omega (arith, times c.width_of.result c.from-2.result c.width_of.ensures.1 (omega arith)))
