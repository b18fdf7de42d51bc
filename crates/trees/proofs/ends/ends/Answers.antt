use Prim.Native.Nat.{ℕ, ◌+◌}
use mathlib.Core.Path.{◌≡◌, refl, ap, ◌∙◌}
use native.Mathlib.Omega.{arith}
use lib.ListN.{length, get_or, drop, length-set}
use Rattle.format.specs.Contents.{contents_at, item, no_node}
use Rattle.format.proofs.ContentsLaws.{nodes_held}
use Rattle.trees.proofs.EndsLaws.{in_table, same_end, again, begin, finish, keep_first}
use Rattle.trees.proofs.ends.ends.Goals as goal

pub loop-i-init : goal.loop-i-init
loop-i-init c =
    let a = c.args in
    let n = c.from-n.result in
    let all : length (contents_at a.file.now a.head).nodes ≡ n = omega (arith, nodes_held a.file.now a.head) in
    begin (contents_at a.file.now a.head).nodes n a.ends.now all (omega arith)

pub bounds-ends-from : goal.bounds-ends-from
bounds-ends-from c =
    let a = c.args in
    let l = c.loop-i in
    omega (arith, in_table l.ends l.i (drop l.i (contents_at a.file.now a.head).nodes) (omega (arith, length-set {A = ℕ})) l.invariant.0 l.invariant.1)

pub loop-i-preserved : goal.loop-i-preserved
loop-i-preserved c =
    let a = c.args in
    let l = c.loop-i in
    let ns = (contents_at a.file.now a.head).nodes in
    let all : length ns ≡ a.head.count.nodes = nodes_held a.file.now a.head in
    let long : length l.ends ≡ a.head.count.nodes + 2 = omega (arith, length-set {A = ℕ}) in (
      keep_first l.ends l.i c.end_of.result (omega arith) l.invariant.0,
      again ns l.i l.ends c.end_of.result (omega arith) (omega arith) (omega arith) l.invariant.0 l.invariant.1
          (c.end_of.ensures
          ∙ same_end (c.node_tag-tag.ensures ∙ ap (λ k. (item no_node ns k).tag) c.narrow.ensures) c.narrow-in-loop-i.ensures refl
          (ap (λ k. get_or l.ends k 0) c.from.ensures)),
    )

pub returns : goal.returns
returns c =
    let a = c.args in
    let l = c.loop-i in
    let z : l.i ≡ 0 = omega arith in
    finish l.ends (contents_at a.file.now a.head).nodes (omega (arith, length-set {A = ℕ})) l.invariant.0 (rw z at l.invariant.1)
