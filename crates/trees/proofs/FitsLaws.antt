-- The test of one node in refusal 8, by its parts.
use Prim.Native.Nat.{ℕ, suc, ◌≤◌, ◌<◌}
use mathlib.Core.Path.{◌≡◌}
use mathlib.Core.Logic.Iff
use mathlib.Core.Logic.{◌↔◌}
use mathlib.Core.Bool.{true}
use mathlib.Core.List.{List, ◌∷◌}
use native.Mathlib.Omega.{arith}
use borrow.Author.Tests.{ltb-true, ne_eqb}
use Rattle.format.proofs.BoolLaws.{eq_iff, le_iff, and_iff}
use Rattle.format.specs.Stacks.{top}
use Rattle.trees.specs.Ends.{following}
use Rattle.trees.specs.Shape.{bound_of, root_fits, binds, unused_fit, second_fits, variable_fits, node_fits, due_after, shape_from}
use Rattle.format.specs.declared.Node.{Node}
use Rattle.trees.specs.declared.Due.{Due}

-- the five tests of a node
abbrev pub Fitting : ℕ → Node → Due → ℕ → Type 0
Fitting i n d e = (root_fits i d ≡ true) × (n.tag ≤ 8) × (unused_fit n ≡ true) × (second_fits n e ≡ true) × (variable_fits n d ≡ true)

pub fits_apart : (i : ℕ) (n : Node) (d : Due) (e : ℕ) → (node_fits i n d e ≡ true) ↔ Fitting i n d e
unfolding node_fits
fits_apart i n d e =
    let two = and_iff {a = root_fits i d} Iff.rfl (λ x. le_iff n.tag 8) in
    let three = and_iff two (λ x. Iff.rfl {A = unused_fit n ≡ true}) in
    let four = and_iff three (λ x. Iff.rfl {A = second_fits n e ≡ true}) in
    let all = and_iff four (λ x. Iff.rfl {A = variable_fits n d ≡ true}) in
    (λ h. let ((((r, t), u), s), m) = all.0 h in (r, t, u, s, m), λ (r, t, u, s, m). all.1 ((((r, t), u), s), m))

-- a node that fits is passed
pub passed : (i : ℕ) (n : Node) (ns : List Node) (d : Due) (st : List Due) → Fitting i n d (top (following (suc i) ns))
    → shape_from i (n ∷ ns) (d ∷ st) ≡ shape_from (suc i) ns (due_after n d st)
unfolding shape_from
passed i n ns d st h = rw ((fits_apart i n d (top (following (suc i) ns))).1 h)

-- a node that binds a variable has room for it
pub room : (n : Node) (d : Due) → variable_fits n d ≡ true → binds n.tag ≡ true → bound_of d < 8
room n d r b = ltb-true (bound_of d) 8 (rw b at r)

pub fits_room : (i : ℕ) (n : Node) (d : Due) (e : ℕ) → node_fits i n d e ≡ true → binds n.tag ≡ true → bound_of d < 8
fits_room i n d e h = room n d ((fits_apart i n d e).0 h).4

-- a fork's f1 is judged where its first child can be followed
pub second_iff : (n : Node) (e : ℕ) → n.tag ≡ 1 → 0 < e → (second_fits n e ≡ true) ↔ (n.f1 ≡ e)
second_iff n e t l = rw (t, ne_eqb e 0 (λ z. omega arith)) (eq_iff n.f1 e)
