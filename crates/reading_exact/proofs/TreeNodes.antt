-- The nodes of a written tree in refusal 8: what each sort of node asks and leaves due.
use Prim.Native.Nat.{ℕ, ◌+◌, ◌-◌, ◌≤◌}
use mathlib.Core.Path.{◌≡◌, refl}
use mathlib.Core.Bool.{true}
use mathlib.Core.List.{List, ◌∷◌}
use native.Mathlib.Omega.{arith}
use native.Mathlib.Nat.{add-zero}
use borrow.Author.Tests.{ltb-true, lt-ltb}
use Rattle.trees.specs.Shape.{bound_of, root_fits, variable_fits, due_after}
use Rattle.trees.specs.declared.Due.{Due}
use Rattle.trees.specs.declared.Due.TheVariants.{Child}
use Rattle.trees.proofs.FitsLaws.{Fitting}
use Rattle.reading_exact.specs.Tree.{Step, repeat, new, compare, receive, send, Switch, on, off, step_node, switch_node, binders}

-- what a step's node asks and leaves

pub step_fits : (i : ℕ) (s : Step) (d : Due) (e : ℕ) → root_fits i d ≡ true → binders s ≤ 8 - bound_of d → Fitting i (step_node s) d e
step_fits i repeat d e r l = (r, omega arith, refl, refl, refl)
step_fits i (new k) d e r l = (r, omega arith, refl, refl, lt-ltb (bound_of d) 8 (omega arith))
step_fits i (compare a b) d e r l = (r, omega arith, refl, refl, refl)
step_fits i (receive c) d e r l = (r, omega arith, refl, refl, lt-ltb (bound_of d) 8 (omega arith))
step_fits i (send c v) d e r l = (r, omega arith, refl, refl, refl)

pub step_room : (s : Step) (d : Due) (h : ℕ) → variable_fits (step_node s) d ≡ true → h ≤ 8 - (bound_of d + binders s) → binders s + h ≤ 8 - bound_of d
step_room repeat d h r l = omega arith
step_room (new k) d h r l = omega (arith, ltb-true (bound_of d) 8 r)
step_room (compare a b) d h r l = omega arith
step_room (receive c) d h r l = omega (arith, ltb-true (bound_of d) 8 r)
step_room (send c v) d h r l = omega arith

pub step_onward : (s : Step) (d : Due) (st : List Due) → due_after (step_node s) d st ≡ Child (bound_of d + binders s) ∷ st
step_onward repeat d st = rw (add-zero (bound_of d))
step_onward (new k) d st = refl
step_onward (compare a b) d st = rw (add-zero (bound_of d))
step_onward (receive c) d st = refl
step_onward (send c v) d st = rw (add-zero (bound_of d))

-- and a switch's

pub switch_fits : (i : ℕ) (w : Switch) (r : ℕ) (d : Due) (e : ℕ) → root_fits i d ≡ true → Fitting i (switch_node w r) d e
switch_fits i on r d e h = (h, omega arith, refl, refl, refl)
switch_fits i off r d e h = (h, omega arith, refl, refl, refl)

pub switch_onward : (w : Switch) (r : ℕ) (d : Due) (st : List Due) → due_after (switch_node w r) d st ≡ Child (bound_of d) ∷ st
switch_onward on r d st = refl
switch_onward off r d st = refl
