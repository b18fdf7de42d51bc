use Prim.Native.Nat.{ℕ, ◌+◌}
use mathlib.Core.Path.{ap, ap₂, ◌∙◌}
use mathlib.Core.Bool.{◌||◌}
use native.Mathlib.Omega.{arith}
use lib.Dec.{eqb}
use Rattle.format.specs.declared.Node.{Node}
use Rattle.merging.specs.Writers.{shifts_by}
use Rattle.merging.proofs.SectionLaws.{node_moves, node_fits, cond_most, cond-fits}
use Rattle.merging.proofs.moves.moved_node.Goals as goal

pub overflow_add-result : goal.overflow_add-result
overflow_add-result c =
    let a = c.args in
    let tag : ℕ = a.it.tag in
    omega (
      arith,
      c.only_if-fork.ensures,
      c.only_if-one.ensures,
      cond_most (eqb tag 1) a.by.nodes 1024 c.requires.0.2,
      cond_most ((eqb tag 4 || eqb tag 6) || eqb tag 5) c.before-2.result 64 c.before-2.ensures.1,
    )

pub overflow_add-result-2 : goal.overflow_add-result-2
overflow_add-result-2 c =
    let a = c.args in
    let p = c.requires in
    let one = c.before-2 in
    let two = c.before-3 in
    omega (
      arith,
      c.only_if-fork.ensures,
      c.only_if-one.ensures,
      node_fits (shifts_by a.by) a.it one.result two.result one.ensures.0 two.ensures.0 p.0.2 p.1 (omega arith) one.ensures.1 one.ensures.2,
    )

pub overflow_add-result-3 : goal.overflow_add-result-3
overflow_add-result-3 c =
    let a = c.args in
    omega (arith, c.only_if-two.ensures, cond-fits (eqb a.it.tag 4 || eqb a.it.tag 6) c.before-3.result a.it.f2 c.before-3.ensures.2)

pub returns : goal.returns
returns c =
    let a = c.args in
    let one = c.before-2 in
    let two = c.before-3 in
    ap₂ {C = Node} (λ x y. record { tag = a.it.tag; f1 = x; f2 = y }) (ap₂ (λ x y. x + y + a.it.f1) c.only_if-fork.ensures c.only_if-one.ensures) (ap (λ x. x + a.it.f2) c.only_if-two.ensures)
    ∙ node_moves (shifts_by a.by) a.it one.result two.result one.ensures.0 two.ensures.0
